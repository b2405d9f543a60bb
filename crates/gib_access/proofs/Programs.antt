-- Whole cores.
use Rattle.std.proofs.Common.{◌≡◌, ℕ, ◌<◌, Bool, List, [], ◌∷◌, ◌++◌, map, length, reverse, refl, sym, ap, ◌∙◌, subst, arith, append_assoc}
use Rattle.std.specs.Prelude.{Result, Ok, Err, IfOk}
use Rattle.std.specs.List.{AllByRecursion}
use Rattle.std.proofs.lemmas.List.{append-nil, map-append, reverse-append}
use Rattle.std.proofs.lemmas.Grind.{flat_map-append}
use Rattle.gib_types.specs.declared.table.ConId.{ConId}
use Rattle.gib_types.specs.Table.{Table}
use Rattle.gib_types.specs.Tree.{Datum}
use Rattle.gib_syntax.specs.Tree.{DataTree}
use Rattle.gib_syntax.specs.Results as results
use Rattle.gib_core.specs.declared.atom.AccessMode.{AccessMode}
use Rattle.gib_core.specs.declared.atom.AccessMode.TheVariants.{Skips, Offsets, Ends}
use Rattle.gib_core.specs.declared.node.Node.{Node}
use Rattle.gib_core.specs.declared.program.CoreFunction.{CoreFunction}
use Rattle.gib_core.specs.declared.program.CoreMain.{CoreMain}
use Rattle.gib_core.specs.Tree.{FunctionTerm, MainTerm, CoreTree}
use Rattle.gib_core.specs.Arena.{Grows, term_of}
use Rattle.gib_core.specs.Parts.{Parts, AreInside, AreDeclared, IsDeclared, IsFunctionInside, function_term, main_term, core_of}
use Rattle.gib_core.specs.Meaning.{core_calls, core_run}
use Rattle.gib_core.specs.Erasing.{erase_core}
use Rattle.gib_core.specs.Numbering.{AreNumbered}
use Rattle.gib_core.specs.Reachable.{AreReachable}
use Rattle.gib_core.specs.Rules.{AreBuilt}
use Rattle.gib_core.specs.Reaching.{offsets_in, offsets_by, tells_ends, ended_by, reach_function, reach_core}
use Rattle.gib_core.specs.declared.atom.Ended.{Ended}
use Rattle.gib_core.specs.Ending.{ended}
use Rattle.gib_access.specs.Made.{Way}
use Rattle.gib_access.specs.declared.work.Work.{Work}
use Rattle.gib_access.specs.Bodies.{ReachesFunction, ReachesFunctions, ReachesMain, offsets_of, offsets_kept}
use Rattle.gib_core.proofs.Signatures.{functions_declared, declared_functions}
use Rattle.gib_core.proofs.Fronting.{grows_more, grows_none}
use Rattle.gib_core.proofs.Inside.{functions_more, functions_stay, front_inside, last_inside}

-- Some functions were reached; with those that are left they are all.
pub record FunctionsSoFar (w : Way) (terms : List Node) (old now : Work) (all rest done : List CoreFunction) : Type 0 where
  pub grows : Grows old.terms now.terms
  pub left : AllByRecursion (IsFunctionInside (length terms)) rest
  pub inside : AllByRecursion (IsFunctionInside (length now.terms)) done
  pub are : map (reach_function w.mode w.table w.ended) (map (function_term (term_of terms)) rest) ++ map (function_term (term_of now.terms)) done ≡ map (reach_function w.mode w.table w.ended) (map (function_term (term_of terms)) all)
  pub offsets : offsets_of w (map (function_term (term_of terms)) rest) ++ now.offsets ≡ offsets_of w (map (function_term (term_of terms)) all) ++ old.offsets

pub functions_start : (w : Way) (terms : List Node) (old : Work) (all : List CoreFunction) → AllByRecursion (IsFunctionInside (length terms)) all → FunctionsSoFar w terms old old all all []
functions_start w terms old all h = record {
  grows = grows_none old.terms;
  left = h;
  inside = tt;
  are = append-nil (map (reach_function w.mode w.table w.ended) (map (function_term (term_of terms)) all));
  offsets = refl;
}

-- The last one that is left.
pub next_inside : (w : Way) (terms : List Node) (old now : Work) (all was left done : List CoreFunction) (x : CoreFunction) → was ≡ left ++ x ∷ [] → FunctionsSoFar w terms old now all was done → x.body.0 < length terms
next_inside w terms old now all was left done x ew h = last_inside (length terms) left x (subst (λ z. AllByRecursion (IsFunctionInside (length terms)) z) ew h.left)

pub functions_next : (w : Way) (terms : List Node) (old now new : Work) (all was left done more : List CoreFunction) (x made : CoreFunction) → was ≡ left ++ x ∷ [] → more ≡ done ++ made ∷ [] → FunctionsSoFar w terms old now all was (reverse done) → ReachesFunction w now new made (function_term (term_of terms) x) → FunctionsSoFar w terms old new all left (reverse more)
functions_next w terms old now new all was left done more x made ew em h p =
    let f = function_term (term_of terms) in
    let r = reach_function w.mode w.table w.ended in
    let finished = reverse done in
    let order : reverse more ≡ made ∷ finished = ap reverse em ∙ reverse-append done (made ∷ []) in
    let parts : map f was ≡ map f left ++ f x ∷ [] = ap (map f) ew ∙ map-append f left (x ∷ []) in
    let so_far : FunctionsSoFar w terms old new all left (made ∷ finished) = record {
      grows = grows_more old.terms now.terms new.terms h.grows p.grows;
      left = front_inside (length terms) left x (subst (λ z. AllByRecursion (IsFunctionInside (length terms)) z) ew h.left);
      inside = (p.inside, functions_more (length now.terms) (length new.terms) finished p.grows.longer h.inside);
      are =
          (λ i. map r (map f left) ++ p.is i ∷ functions_stay (term_of new.terms) (term_of now.terms) (length now.terms) finished h.inside p.grows.same i)
          ∙ sym (append_assoc (map r (map f left)) (r (f x) ∷ []) (map (function_term (term_of now.terms)) finished))
          ∙ (λ i. sym (ap (map r) parts ∙ map-append r (map f left) (f x ∷ [])) i ++ map (function_term (term_of now.terms)) finished)
          ∙ h.are;
      offsets =
          ap (λ z. offsets_of w (map f left) ++ z) p.offsets
          ∙ sym (append_assoc (offsets_of w (map f left)) (offsets_in w.mode w.table w.ended (f x).body) now.offsets)
          ∙ (λ i. sym (ap (offsets_of w) parts ∙ flat_map-append (λ (g : FunctionTerm). offsets_in w.mode w.table w.ended g.body) (map f left) (f x ∷ []) ∙ ap (λ z. offsets_of w (map f left) ++ z) (append-nil (offsets_in w.mode w.table w.ended (f x).body))) i ++ now.offsets)
          ∙ h.offsets;
    } in
    subst (λ z. FunctionsSoFar w terms old new all left z) (sym order) so_far

pub functions_end : (w : Way) (terms : List Node) (old new : Work) (all left done : List CoreFunction) → left ≡ [] → FunctionsSoFar w terms old new all left done → ReachesFunctions w old new done (map (function_term (term_of terms)) all)
functions_end w terms old new all left done el h =
    let h' : FunctionsSoFar w terms old new all [] done = subst (λ z. FunctionsSoFar w terms old new all z done) el h in
    record { grows = h.grows; offsets = h'.offsets; inside = h.inside; are = h'.are }

-- Reaching keeps the types of functions.
reached_declared : (w : Way) (n : ℕ) (fs : List FunctionTerm) → AllByRecursion (λ (f : FunctionTerm). AreDeclared n f.parameters f.result) fs → AllByRecursion (λ (f : FunctionTerm). AreDeclared n f.parameters f.result) (map (reach_function w.mode w.table w.ended) fs)
reached_declared w n [] h = tt
reached_declared w n (f ∷ fs) h = (h.0, reached_declared w n fs h.1)

-- The parts of the new core.
pub parts_inside : (w : Way) (was : Parts) (table : Table) (terms : List Node) (all : List CoreFunction) (main : CoreMain) (old now new : Work) (functions : List CoreFunction) (first : CoreMain) (offsets : List ConId) (marked : Bool) → AreInside was
    → table ≡ was.table → all ≡ was.functions → main ≡ was.main → ReachesMain w old now first (main_term (term_of terms) main) → ReachesFunctions w now new functions (map (function_term (term_of terms)) all)
    → AreInside (record { table = table; terms = new.terms; functions = functions; main = first; offsets = offsets; marked = marked })
parts_inside w was table terms all main old now new functions first offsets marked h et ef em m f =
    let n = length table.types in
    let known = subst (λ (t : Table). AllByRecursion (IsDeclared (length t.types)) was.functions) (sym et) h.types in
    let types = functions_declared n (term_of terms) all (subst (λ (ds : List CoreFunction). AllByRecursion (IsDeclared n) ds) (sym ef) known) in
    let main_known = subst (λ (t : Table). AreDeclared (length t.types) (was.main.parameter ∷ []) (results.One was.main.result)) (sym et) h.main_types in
    let main_types = subst (λ (x : CoreMain). AreDeclared n (x.parameter ∷ []) (results.One x.result)) (sym em) main_known in
    record {
      functions = f.inside;
      main = (let l = f.grows.longer in let k = m.inside in omega (arith, l, k));
      types = declared_functions n (term_of new.terms) functions (subst (λ (gs : List FunctionTerm). AllByRecursion (λ (g : FunctionTerm). AreDeclared n g.parameters g.result) gs) (sym f.are)
          (reached_declared w n (map (function_term (term_of terms)) all) types));
      main_types = subst (λ (x : MainTerm). AreDeclared n (x.parameter ∷ []) (results.One x.result)) (sym m.is) main_types;
    }

abbrev way_in : AccessMode → CoreTree → Way
way_in mode core = record { mode = mode; table = core.table; ended = ended_by mode core }

listed : (mode : AccessMode) (core : CoreTree) (ks : List ConId) → ks ≡ offsets_of (way_in mode core) core.functions ++ offsets_in mode core.table (ended_by mode core) core.main.body → offsets_kept mode ks ≡ offsets_by mode core
listed Skips core ks e = refl
listed Offsets core ks e = e
listed Ends core ks e = e

-- What the parts are.
parts_reached : (mode : AccessMode) (was made : Parts) (old now new : Work) → old.offsets ≡ [] → made.table ≡ was.table → made.terms ≡ new.terms → ReachesMain (way_in mode (core_of was)) old now made.main (core_of was).main
    → ReachesFunctions (way_in mode (core_of was)) now new made.functions (core_of was).functions → made.offsets ≡ offsets_kept mode new.offsets → made.marked ≡ tells_ends mode → core_of made ≡ reach_core mode (core_of was)
parts_reached mode was made old now new eo et en m f ek ed =
    let core = core_of was in
    let w = way_in mode core in
    let main : main_term (term_of new.terms) made.main ≡ (reach_core mode core).main = (λ i. record { parameter = made.main.parameter; result = made.main.result; body = f.grows.same made.main.body.0 m.inside i }) ∙ m.is in
    let own = offsets_in mode core.table (ended_by mode core) core.main.body in
    let all : new.offsets ≡ offsets_of w core.functions ++ own = f.offsets ∙ ap (λ z. offsets_of w core.functions ++ z) (m.offsets ∙ ap (λ z. own ++ z) eo ∙ append-nil own) in
    (λ i. record {
      table = et i;
      functions = ((λ j. map (function_term (term_of (en j))) made.functions) ∙ f.are) i;
      main = ((λ j. main_term (term_of (en j)) made.main) ∙ main) i;
      offsets = (ek ∙ listed mode core new.offsets all) i;
      marked = ed i;
    })

-- What the new core is, where the parts of the old one are these.
pub core_reached : (mode : AccessMode) (was made : Parts) (es : List Ended) (table : Table) (terms : List Node) (functions fs : List CoreFunction) (main m : CoreMain) (ks : List ConId) (marked : Bool) (old now new : Work)
    → es ≡ ended (record (core_of was) { marked = marked }) → marked ≡ tells_ends mode → table ≡ was.table → terms ≡ was.terms → functions ≡ was.functions → main ≡ was.main → old.offsets ≡ []
    → made ≡ record { table = table; terms = new.terms; functions = fs; main = m; offsets = ks; marked = marked }
    → ReachesMain (record { mode = mode; table = table; ended = es }) old now m (main_term (term_of terms) main) → ReachesFunctions (record { mode = mode; table = table; ended = es }) now new fs (map (function_term (term_of terms)) functions)
    → ks ≡ offsets_kept mode new.offsets → core_of made ≡ reach_core mode (core_of was)
core_reached mode was made es table terms functions fs main m ks marked old now new ee ed e0 e1 e2 e3 eo em hm hf ek =
    let fresh : Parts = record { table = table; terms = new.terms; functions = fs; main = m; offsets = ks; marked = marked } in
    let way : record { mode = mode; table = table; ended = es } ≡ way_in mode (core_of was) = λ i. record { mode = mode; table = e0 i; ended = (ee ∙ ap (λ (b : Bool). ended (record (core_of was) { marked = b })) ed) i } in
    let hm' = subst (λ (w : Way). ReachesMain w old now m (core_of was).main) way (subst (λ (k : MainTerm). ReachesMain (record { mode = mode; table = table; ended = es }) old now m k) (λ i. main_term (term_of (e1 i)) (e3 i)) hm) in
    let hf' = subst (λ (w : Way). ReachesFunctions w now new fs (core_of was).functions) way
    (subst (λ (gs : List FunctionTerm). ReachesFunctions (record { mode = mode; table = table; ended = es }) now new fs gs) (λ i. map (function_term (term_of (e1 i))) (e2 i)) hf) in
    ap core_of em ∙ parts_reached mode was fresh old now new eo e0 refl hm' hf' ek ed

-- What holds of the core that is to be made holds of the one that was made.
pub kept_erased : {E : Type 0} (mode : AccessMode) (core : CoreTree) (o : Result Parts E) → ((m : AccessMode) (datas : List DataTree) (c : CoreTree) → erase_core datas (reach_core m c) ≡ erase_core datas c) → IfOk o (λ made. core_of made ≡ reach_core mode core) → IfOk o (λ made. (datas : List DataTree) → erase_core datas (core_of made) ≡ erase_core datas core)
kept_erased mode core (Ok made) law e = λ datas. ap (erase_core datas) e ∙ law mode datas core
kept_erased mode core (Err x) law e = tt

pub kept_calls : {E : Type 0} (mode : AccessMode) (core : CoreTree) (o : Result Parts E) → ((m : AccessMode) (c : CoreTree) (n : ℕ) → core_calls (reach_core m c) n ≡ core_calls c n) → IfOk o (λ made. core_of made ≡ reach_core mode core) → IfOk o (λ made. (n : ℕ) → core_calls (core_of made) n ≡ core_calls core n)
kept_calls mode core (Ok made) law e = λ n. ap (λ z. core_calls z n) e ∙ law mode core n
kept_calls mode core (Err x) law e = tt

pub kept_run : {E : Type 0} (mode : AccessMode) (core : CoreTree) (o : Result Parts E) → ((m : AccessMode) (c : CoreTree) (depth : ℕ) (v : Datum) → core_run (reach_core m c) depth v ≡ core_run c depth v) → IfOk o (λ made. core_of made ≡ reach_core mode core) → IfOk o (λ made. (depth : ℕ) (v : Datum) → core_run (core_of made) depth v ≡ core_run core depth v)
kept_run mode core (Ok made) law e = λ depth v. ap (λ z. core_run z depth v) e ∙ law mode core depth v
kept_run mode core (Err x) law e = tt

pub kept_built : {E : Type 0} (mode : AccessMode) (core : CoreTree) (o : Result Parts E) → ((m : AccessMode) (c : CoreTree) → AreReachable c → AreBuilt (reach_core m c)) → IfOk o (λ made. core_of made ≡ reach_core mode core) → AreReachable core → IfOk o (λ made. AreBuilt (core_of made))
kept_built mode core (Ok made) law e is = subst AreBuilt (sym e) (law mode core is)
kept_built mode core (Err x) law e is = tt

pub kept_numbered : {E : Type 0} (mode : AccessMode) (core : CoreTree) (o : Result Parts E) → ((m : AccessMode) (c : CoreTree) → AreNumbered c → AreNumbered (reach_core m c)) → IfOk o (λ made. core_of made ≡ reach_core mode core) → AreNumbered core → IfOk o (λ made. AreNumbered (core_of made))
kept_numbered mode core (Ok made) law e is = subst AreNumbered (sym e) (law mode core is)
kept_numbered mode core (Err x) law e is = tt
