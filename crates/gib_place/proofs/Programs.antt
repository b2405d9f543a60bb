-- Whole cores are placed.
use Rattle.std.proofs.Common.{◌≡◌, ℕ, zero, suc, ◌+◌, ◌<◌, ◌≤◌, Bool, List, [], ◌∷◌, ◌++◌, map, length, reverse, sym, ap, ◌∙◌, subst, arith, append_assoc}
use Rattle.std.specs.Prelude.{Option, Result, Ok, Err, IfOk}
use Rattle.std.specs.List.{AllByRecursion}
use Rattle.std.proofs.lemmas.List.{append-nil, map-append, reverse-append}
use Rattle.gib_types.specs.declared.table.ConId.{ConId}
use Rattle.gib_types.specs.Row.{Table}
use Rattle.gib_types.specs.Tree.{Datum}
use Rattle.gib_syntax.specs.Tree.{DataTree}
use Rattle.gib_core.specs.declared.node.Node.{Node}
use Rattle.gib_core.specs.declared.node.TermId.{TermId}
use Rattle.gib_core.specs.declared.program.CoreFunction.{CoreFunction}
use Rattle.gib_core.specs.declared.program.CoreMain.{CoreMain}
use Rattle.gib_core.specs.Tree.{Term, FunctionTerm, MainTerm, CoreTree}
use Rattle.gib_core.specs.Arena.{Grows, term_of}
use Rattle.gib_core.specs.Parts.{Parts, AreInside, IsFunctionInside, AreDeclared, IsDeclared, results_of, function_term, main_term, core_of}
use Rattle.gib_syntax.specs.Results as results
use Rattle.gib_core.specs.Meaning.{core_calls, core_run}
use Rattle.gib_core.specs.Erasing.{erase_core}
use Rattle.gib_core.specs.Inferring.{numbers_from}
use Rattle.gib_core.specs.Numbering.{binders, AreNumbered}
use Rattle.gib_core.specs.Reachable.{AreReachable}
use Rattle.gib_core.proofs.Signatures.{functions_declared, declared_functions}
use Rattle.gib_core.specs.Walk.{with_body}
use Rattle.gib_core.specs.Counting.{count, is_once}
use Rattle.gib_place.specs.Placing.{place, place_body}
use Rattle.gib_place.specs.Renaming.{rename}
use Rattle.gib_place.specs.Numbering.{place_in, variables_in, number_anew, place_anew, place_core}
use Rattle.gib_place.specs.SameSource.{IsSameProgram}
use Rattle.gib_core.specs.Counting.{Adds}
use Rattle.gib_place.specs.Filled.{once_by}
use Rattle.gib_place.specs.Made.{MakesTerm, PlacesFunction, PlacesFunctions, PlacesMain}
use Rattle.gib_core.proofs.Tallied.{once_told}
use Rattle.gib_core.proofs.Fronting.{grows_more, grows_none}
use Rattle.gib_core.proofs.Inside.{functions_more, functions_stay, front_inside, last_inside}

-- One more number behind those from 0 on.
numbers_next : (n i : ℕ) → numbers_from n (suc i) ≡ numbers_from n i ++ (n + i) ∷ []
numbers_next n zero = (let e : n ≡ n + 0 = omega arith in λ k. e k ∷ [])
numbers_next n (suc i) = ap (λ l. n ∷ l) (numbers_next (suc n) i ∙ (let e : suc n + i ≡ n + suc i = omega arith in λ k. numbers_from (suc n) i ++ e k ∷ []))

pub number_next : (i : ℕ) (old new : List ℕ) → old ≡ numbers_from 0 i → new ≡ old ++ i ∷ [] → new ≡ numbers_from 0 (i + 1)
number_next i old new e a =
    let next : suc i ≡ i + 1 = omega arith in
    let same : i ≡ 0 + i = omega arith in
    a ∙ (λ k. e k ++ same k ∷ []) ∙ sym (numbers_next 0 i) ∙ ap (numbers_from 0) next

pub numbers_all : (parameters count i : ℕ) (old new : List ℕ) (t : Term) → count ≡ parameters → count ≤ i → i ≤ count → old ≡ numbers_from 0 i → new ≡ old ++ binders t → new ≡ variables_in parameters t
numbers_all parameters count i old new t ec le ge e a = a ∙ (let same : i ≡ parameters = omega arith in λ k. (e ∙ ap (numbers_from 0) same) k ++ binders t)

-- A body.
pub body_made : (terms scratch old new : List Node) (empty : List Node) (id placed made : TermId) (tally : List (Option ℕ)) (numbers : List ℕ) (parameters : ℕ) → Adds [] tally (count (term_of terms id.0)) → MakesTerm empty scratch placed (place (once_by tally) (term_of terms id.0))
    → numbers ≡ variables_in parameters (term_of scratch placed.0) → MakesTerm old new made (rename (place_in numbers) (term_of scratch placed.0)) → MakesTerm old new made (number_anew parameters (place_body (term_of terms id.0)))
body_made terms scratch old new empty id placed made tally numbers parameters a p en m =
    let t = term_of terms id.0 in
    let same : once_by tally ≡ is_once t = (λ i x. once_told t tally x a i) in
    record {
      grows = m.grows;
      inside = m.inside;
      is = m.is ∙ (λ i. rename (place_in (en i)) (term_of scratch placed.0)) ∙ ap (number_anew parameters) (p.is ∙ ap (λ o. place o t) same);
    }

pub function_made : (old new : List Node) (f : CoreFunction) (g : ℕ → Term) (body : TermId) (n : ℕ) → n ≡ length f.parameters.items → MakesTerm old new body (number_anew n (place_body (g f.body.0))) → PlacesFunction old new (record f { body = body }) (function_term g f)
function_made old new f g body n e m = record {
  grows = m.grows;
  inside = m.inside;
  is = λ i. record { name = f.name; parameters = f.parameters.items; result = results_of f.result; body = (m.is ∙ ap (λ k. number_anew k (place_body (g f.body.0))) e) i };
}

pub main_made : (old new : List Node) (m : CoreMain) (g : ℕ → Term) (body : TermId) → MakesTerm old new body (number_anew 1 (place_body (g m.body.0))) → PlacesMain old new (record m { body = body }) (main_term g m)
main_made old new m g body h = record {
  grows = h.grows;
  inside = h.inside;
  is = λ i. record { parameter = m.parameter; result = m.result; body = h.is i };
}

abbrev both : FunctionTerm → FunctionTerm
both f = with_body place_anew f

-- Some functions were placed; with those that are left they are all.
pub record FunctionsSoFar (terms : List Node) (old now : List Node) (all rest done : List CoreFunction) : Type 0 where
  pub grows : Grows old now
  pub left : AllByRecursion (IsFunctionInside (length terms)) rest
  pub inside : AllByRecursion (IsFunctionInside (length now)) done
  pub are : map both (map (function_term (term_of terms)) rest) ++ map (function_term (term_of now)) done ≡ map both (map (function_term (term_of terms)) all)

pub functions_start : (terms : List Node) (old : List Node) (all : List CoreFunction) → AllByRecursion (IsFunctionInside (length terms)) all → FunctionsSoFar terms old old all all []
functions_start terms old all h = record {
  grows = grows_none old;
  left = h;
  inside = tt;
  are = append-nil (map both (map (function_term (term_of terms)) all));
}

-- The last one that is left.
pub next_inside : (terms old now : List Node) (all was left done : List CoreFunction) (x : CoreFunction) → was ≡ left ++ x ∷ [] → FunctionsSoFar terms old now all was done → x.body.0 < length terms
next_inside terms old now all was left done x ew h = last_inside (length terms) left x (subst (λ z. AllByRecursion (IsFunctionInside (length terms)) z) ew h.left)

pub functions_next : (terms old now new : List Node) (all was left done more : List CoreFunction) (x made : CoreFunction) → was ≡ left ++ x ∷ [] → more ≡ done ++ made ∷ [] → FunctionsSoFar terms old now all was (reverse done) → PlacesFunction now new made (function_term (term_of terms) x) → FunctionsSoFar terms old new all left (reverse more)
functions_next terms old now new all was left done more x made ew em h p =
    let f = function_term (term_of terms) in
    let finished = reverse done in
    let order : reverse more ≡ made ∷ finished = ap reverse em ∙ reverse-append done (made ∷ []) in
    let parts : map f was ≡ map f left ++ f x ∷ [] = ap (map f) ew ∙ map-append f left (x ∷ []) in
    let so_far : FunctionsSoFar terms old new all left (made ∷ finished) = record {
      grows = grows_more old now new h.grows p.grows;
      left = front_inside (length terms) left x (subst (λ z. AllByRecursion (IsFunctionInside (length terms)) z) ew h.left);
      inside = (p.inside, functions_more (length now) (length new) finished p.grows.longer h.inside);
      are =
          (λ i. map both (map f left) ++ p.is i ∷ functions_stay (term_of new) (term_of now) (length now) finished h.inside p.grows.same i)
          ∙ sym (append_assoc (map both (map f left)) (both (f x) ∷ []) (map (function_term (term_of now)) finished))
          ∙ (λ i. sym (ap (map both) parts ∙ map-append both (map f left) (f x ∷ [])) i ++ map (function_term (term_of now)) finished)
          ∙ h.are;
    } in
    subst (λ z. FunctionsSoFar terms old new all left z) (sym order) so_far

pub functions_end : (terms old new : List Node) (all left done : List CoreFunction) → left ≡ [] → FunctionsSoFar terms old new all left done → PlacesFunctions old new done (map (function_term (term_of terms)) all)
functions_end terms old new all left done el h =
    let h' : FunctionsSoFar terms old new all [] done = subst (λ z. FunctionsSoFar terms old new all z done) el h in
    record { grows = h.grows; inside = h.inside; are = h'.are }

placed_declared : (n : ℕ) (gs : List FunctionTerm) → AllByRecursion (λ (g : FunctionTerm). AreDeclared n g.parameters g.result) gs → AllByRecursion (λ (g : FunctionTerm). AreDeclared n g.parameters g.result) (map (with_body place_anew) gs)
placed_declared n [] h = tt
placed_declared n (g ∷ gs) h = (h.0, placed_declared n gs h.1)

-- The parts of the new core.
pub parts_inside : (was : Parts) (table : Table) (terms : List Node) (all : List CoreFunction) (main : CoreMain) (old now new : List Node) (functions : List CoreFunction) (first : CoreMain) (offsets : List ConId) (marked : Bool) → AreInside was
    → table ≡ was.table → all ≡ was.functions → main ≡ was.main → PlacesMain old now first (main_term (term_of terms) main) → PlacesFunctions now new functions (map (function_term (term_of terms)) all)
    → AreInside (record { table = table; terms = new; functions = functions; main = first; offsets = offsets; marked = marked })
parts_inside was table terms all main old now new functions first offsets marked h et ef em m f =
    let n = length table.types in
    let known = subst (λ (t : Table). AllByRecursion (IsDeclared (length t.types)) was.functions) (sym et) h.types in
    let types = functions_declared n (term_of terms) all (subst (λ (ds : List CoreFunction). AllByRecursion (IsDeclared n) ds) (sym ef) known) in
    let main_known = subst (λ (t : Table). AreDeclared (length t.types) (was.main.parameter ∷ []) (results.One was.main.result)) (sym et) h.main_types in
    let main_types = subst (λ (x : CoreMain). AreDeclared n (x.parameter ∷ []) (results.One x.result)) (sym em) main_known in
    record {
      functions = f.inside;
      main = (let l = f.grows.longer in let k = m.inside in omega (arith, l, k));
      types = declared_functions n (term_of new) functions (subst (λ (gs : List FunctionTerm). AllByRecursion (λ (g : FunctionTerm). AreDeclared n g.parameters g.result) gs) (sym f.are)
          (placed_declared n (map (function_term (term_of terms)) all) types));
      main_types = subst (λ (x : MainTerm). AreDeclared n (x.parameter ∷ []) (results.One x.result)) (sym m.is) main_types;
    }

-- What the new core is, where the parts of the old one are these.
pub core_placed : (was made : Parts) (table : Table) (terms old now new : List Node) (functions fs : List CoreFunction) (main m : CoreMain) (offsets : List ConId) (marked : Bool) → table ≡ was.table → terms ≡ was.terms → functions ≡ was.functions → main ≡ was.main → offsets ≡ was.offsets → marked ≡ was.marked
    → made ≡ record { table = table; terms = new; functions = fs; main = m; offsets = offsets; marked = marked } → PlacesMain old now m (main_term (term_of terms) main) → PlacesFunctions now new fs (map (function_term (term_of terms)) functions) → core_of made ≡ place_core (core_of was)
core_placed was made table terms old now new functions fs main m offsets marked e0 e1 e2 e3 e4 e5 em hm hf =
    ap core_of em
    ∙ (λ i. record {
      table = table;
      functions = hf.are i;
      main = ((λ j. record { parameter = m.parameter; result = m.result; body = hf.grows.same m.body.0 hm.inside j }) ∙ hm.is) i;
      offsets = offsets;
      marked = marked;
    })
    ∙ (λ i. place_core (core_of (record { table = e0 i; terms = e1 i; functions = e2 i; main = e3 i; offsets = e4 i; marked = e5 i })))

-- What holds of the core that is to be made holds of the one that was made.
pub kept_reachable : {E : Type 0} (core : CoreTree) (o : Result Parts E) → ((c : CoreTree) → AreNumbered c → AreReachable c → AreReachable (place_core c)) → IfOk o (λ made. core_of made ≡ place_core core) → AreNumbered core → AreReachable core → IfOk o (λ made. AreReachable (core_of made))
kept_reachable core (Ok made) law e n is = subst AreReachable (sym e) (law core n is)
kept_reachable core (Err x) law e n is = tt

pub kept_numbered : {E : Type 0} (core : CoreTree) (o : Result Parts E) → ((c : CoreTree) → AreNumbered c → AreNumbered (place_core c)) → IfOk o (λ made. core_of made ≡ place_core core) → AreNumbered core → IfOk o (λ made. AreNumbered (core_of made))
kept_numbered core (Ok made) law e n = subst AreNumbered (sym e) (law core n)
kept_numbered core (Err x) law e n = tt

pub kept_source : {E : Type 0} (core : CoreTree) (o : Result Parts E) → ((datas : List DataTree) (c : CoreTree) → AreNumbered c → IsSameProgram (erase_core datas c) (erase_core datas (place_core c))) → IfOk o (λ made. core_of made ≡ place_core core) → AreNumbered core
    → IfOk o (λ made. (datas : List DataTree) → IsSameProgram (erase_core datas core) (erase_core datas (core_of made)))
kept_source core (Ok made) law e n = λ datas. subst (λ (z : CoreTree). IsSameProgram (erase_core datas core) (erase_core datas z)) (sym e) (law datas core n)
kept_source core (Err x) law e n = tt

pub kept_calls : {E : Type 0} (core : CoreTree) (o : Result Parts E) → ((c : CoreTree) → AreNumbered c → (n : ℕ) → core_calls (place_core c) n ≡ core_calls c n) → IfOk o (λ made. core_of made ≡ place_core core) → AreNumbered core → IfOk o (λ made. (n : ℕ) → core_calls (core_of made) n ≡ core_calls core n)
kept_calls core (Ok made) law e n = λ k. ap (λ z. core_calls z k) e ∙ law core n k
kept_calls core (Err x) law e n = tt

pub kept_run : {E : Type 0} (core : CoreTree) (o : Result Parts E) → ((c : CoreTree) → AreNumbered c → (depth : ℕ) (v : Datum) → core_run (place_core c) depth v ≡ core_run c depth v) → IfOk o (λ made. core_of made ≡ place_core core) → AreNumbered core → IfOk o (λ made. (depth : ℕ) (v : Datum) → core_run (core_of made) depth v ≡ core_run core depth v)
kept_run core (Ok made) law e n = λ depth v. ap (λ z. core_run z depth v) e ∙ law core n depth v
kept_run core (Err x) law e n = tt
