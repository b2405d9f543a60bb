-- Uses of copies.
use Rattle.std.proofs.Common.{◌≡◌, ℕ, zero, suc, ◌+◌, ◌-◌, ◌<◌, ◌≤◌, true, List, [], ◌∷◌, ◌++◌, length, map, take, drop, get_or, Option, Some, None, slice_get, refl, sym, ap, ap₂, ◌∙◌, arith, subst}
use Rattle.std.specs.Prelude.{Result, Ok, Err}
use Rattle.std.specs.List.{AllByRecursion}
use Rattle.std.specs.Global.{Vec}
use Rattle.std.proofs.lemmas.Option.{same_Some}
use Rattle.gib_base.specs.declared.Span.{Span}
use Rattle.gib_types.specs.declared.types.TypeId.{TypeId}
use Rattle.gib_types.specs.Form.{Form, Forms, NoForm, Meant}
use Rattle.gib_types.specs.Types.{forms_at, AreBelow}
use Rattle.gib_syntax.specs.GenericTree.{GenericGlobals, GenericDataTree, GenericFunctionTree, GenericParameterTree, GenericProgramTree, globals_of_generic}
use Rattle.gib_syntax.specs.GenericFine.{HasGenericConstructor}
use Rattle.gib_mono.specs.declared.found.CopyKey.{CopyKey}
use Rattle.gib_mono.specs.declared.found.CopyKey.TheVariants as k
use Rattle.gib_mono.specs.declared.search.Search.{Search}
use Rattle.gib_mono.specs.Walk.{Ask, Copy, DataOf, FunctionOf, data_asked, function_asked, constructors_in, functions_in, with_found, add_asks, copy_asks, constructor_asks, function_asks, main_asks, types_asks, results_asks, written_asks, walk, walk_one, copies_of}
use Rattle.gib_mono.specs.Found.{Kept, copy_from, KeyBelow, AreCopies, IsFound, AreAlike}
use Rattle.gib_mono.specs.Contexts.{forms, meaning}
use Rattle.gib_mono.specs.Searching.{Reached, IsAt, IsOpen, Walked, Asks, AsksAll}
use Rattle.gib_syntax.specs.declared.program.GenericConstructor.{GenericConstructor}
use Rattle.gib_syntax.specs.declared.program.GenericData.{GenericData}
use Rattle.gib_syntax.specs.declared.program.GenericFunction.{GenericFunction}
use Rattle.gib_syntax.specs.declared.program.GenericMain.{GenericMain}
use Rattle.gib_syntax.specs.declared.tree.Ident.{Ident}
use Rattle.gib_syntax.specs.Forms.{assign}
use Rattle.gib_syntax.specs.declared.program.GenericParameter.{GenericParameter}
use Rattle.gib_syntax.specs.declared.written.Word.{Word}
use Rattle.gib_syntax.specs.declared.written.Run.{Run}
use Rattle.gib_syntax.specs.declared.written.ResultRuns.{ResultRuns}
use Rattle.gib_syntax.specs.declared.written.ResultRuns.TheVariants as result
use Rattle.gib_syntax.specs.Results.{One}
use Rattle.gib_syntax.specs.GenericArena.{tree_of}
use Rattle.gib_syntax.specs.GenericParts.{GenericParts, constructor_in, data_in, parameter_in, function_in, results_in, generic_program_of, IsParameterInside, AreResultsInside}
use Rattle.gib_syntax.specs.Words.{stack_of, run_words, first_type, type_in, IsTypeRun}
use Rattle.gib_syntax.proofs.Reading.{read_stack}
use Rattle.gib_mono.specs.Sources.{globals_in, asks_in}
use Rattle.gib_mono.proofs.Seeking.{asks_then, AskedSoFar, asked_start, asked_next, asked_end, asks_both, asks_same}
use Rattle.gib_mono.proofs.Walking.{split_is, empty_is}
use Rattle.gib_check.proofs.RowRules.{get_map, all_at}

-- the copy of a key's place

pub record CopyAt (g : GenericGlobals) (fs : List Form) (key : CopyKey) (found : List Copy) (i : ℕ) : Type 0 where
  pub copy : Copy
  pub there : slice_get found i ≡ Some copy
  pub is : copy_from g fs key ≡ Some copy
  pub below : KeyBelow (length fs) key

pub copy_at : (g : GenericGlobals) (fs : List Form) (ks : List CopyKey) (found : List Copy) (i : ℕ) (key : CopyKey) → AreCopies g fs ks found → slice_get ks i ≡ Some key → CopyAt g fs key found i
copy_at g fs [] [] i key h e = absurd cc
copy_at g fs [] (c ∷ cs) i key h e = absurd h
copy_at g fs (x ∷ ks) [] i key h e = absurd h
copy_at g fs (x ∷ ks) (c ∷ cs) zero key h e = let f : x ≡ key = (let q = e in cc) in subst (λ q. CopyAt g fs q (c ∷ cs) zero) f (record { copy = c; there = refl; is = h.0; below = h.1 })
copy_at g fs (x ∷ ks) (c ∷ cs) (suc i) key h e = let q = copy_at g fs ks cs i key h.2 e in record { copy = q.copy; there = q.there; is = q.is; below = q.below }

pub same_length : (g : GenericGlobals) (fs : List Form) (ks : List CopyKey) (found : List Copy) → AreCopies g fs ks found → length ks ≡ length found
same_length g fs [] [] h = refl
same_length g fs [] (c ∷ cs) h = absurd h
same_length g fs (x ∷ ks) [] h = absurd h
same_length g fs (x ∷ ks) (c ∷ cs) h = ap suc (same_length g fs ks cs h.2)

-- what a copy's types stand for is asked for, whatever was before

pub all_from : (g : GenericGlobals) (old from new : Search) (m : Meant) (asks : Meant → List Ask) → forms from.context ≡ forms old.context → from.found ≡ old.found → from.limit ≡ old.limit → meaning from.context ≡ m → Asks g from new asks → AsksAll g old new (asks m)
all_from g old from new m asks e f l n a = record {
  on = λ r at. (a.on m r (record { meaning = n; at = subst (λ q. Reached g q from.found from.limit r) (sym e) (subst (λ q. Reached g (forms old.context) q from.limit r) (sym f) (subst (λ q. Reached g (forms old.context) old.found q r) (sym l) at)) })).at;
}

pub all_both : (g : GenericGlobals) (old mid new : Search) (xs ys : List Ask) → AsksAll g old mid xs → AsksAll g mid new ys → AsksAll g old new (xs ++ ys)
all_both g old mid new xs ys a b = record { on = λ r at. subst (IsAt g new) (asks_then g r xs ys) (b.on (with_found r (λ found. add_asks g found xs)) (a.on r at)) }

-- at most 1,200 copies

one_there : (d : GenericDataTree) → HasGenericConstructor d → 1 ≤ length d.constructors
one_there d h = by d.constructors refl where
  by : (cs : List _) → d.constructors ≡ cs → 1 ≤ length cs
  by [] e = absurd (h e)
  by (c ∷ cs) e = omega arith

of_key : (g : GenericGlobals) (fs : List Form) (key : CopyKey) (c : Copy) → AllByRecursion HasGenericConstructor g.datas → copy_from g fs key ≡ Some c → 1 ≤ constructors_in (c ∷ []) + functions_in (c ∷ [])
of_key g fs (k.Data i is) c fine e = by (slice_get g.datas i) refl e where
  by : (o : Option GenericDataTree) → slice_get g.datas i ≡ o → data_asked o (forms_at fs is.items) ≡ Some c → 1 ≤ constructors_in (c ∷ []) + functions_in (c ∷ [])
  by None f q = absurd cc
  by (Some d) f q =
      let l = one_there d (all_at HasGenericConstructor g.datas i d fine f) in
      let n : constructors_in (c ∷ []) ≡ length d.constructors + 0 = ap (λ x. constructors_in (x ∷ [])) (sym (same_Some (DataOf d (forms_at fs is.items)) c q)) in
      omega (arith, l, n)
of_key g fs (k.Function i is) c fine e = by (slice_get g.functions i) e where
  by : (o : Option GenericFunctionTree) → function_asked o (forms_at fs is.items) ≡ Some c → 1 ≤ constructors_in (c ∷ []) + functions_in (c ∷ [])
  by None q = absurd cc
  by (Some f) q =
      let n : functions_in (c ∷ []) ≡ 1 = ap (λ x. functions_in (x ∷ [])) (sym (same_Some (FunctionOf f (forms_at fs is.items)) c q)) in
      omega (arith, n)

one_more : (c : Copy) (cs : List Copy) → constructors_in (c ∷ cs) + functions_in (c ∷ cs) ≡ (constructors_in (c ∷ []) + functions_in (c ∷ [])) + (constructors_in cs + functions_in cs)
one_more (DataOf d ts) cs = omega arith
one_more (FunctionOf f ts) cs = omega arith

pub few_copies : (g : GenericGlobals) (fs : List Form) (ks : List CopyKey) (found : List Copy) → AllByRecursion HasGenericConstructor g.datas → AreCopies g fs ks found → length found ≤ constructors_in found + functions_in found
few_copies g fs [] [] fine h = omega arith
few_copies g fs [] (c ∷ cs) fine h = absurd h
few_copies g fs (x ∷ ks) [] fine h = absurd h
few_copies g fs (x ∷ ks) (c ∷ cs) fine h =
    let l = few_copies g fs ks cs fine h.2 in
    let m = of_key g fs x c fine h.0 in
    let e = one_more c cs in
    omega (arith, l, m, e)

-- the walk

pub opened : (g : GenericGlobals) (fs : List Form) (kept : Kept) (limit : Option Span) (r : Result (List Copy) Span) → limit ≡ None → Reached g fs kept limit r → (found : List Copy) × (r ≡ Ok found) × IsFound g fs kept found
opened g fs kept None r e h = h
opened g fs kept (Some s) r e h = absurd cc

pub closed : (g : GenericGlobals) (fs : List Form) (kept : Kept) (limit : Option Span) (r : Result (List Copy) Span) (s : Span) → limit ≡ Some s → Reached g fs kept limit r → r ≡ Err s
closed g fs kept None r s e h = absurd cc
closed g fs kept (Some t) r s e h = h ∙ ap Err (same_Some t s e)

less_one : (n : ℕ) → 0 < n → (m : ℕ) × (n ≡ suc m)
less_one zero l = absurd (omega (arith, l))
less_one (suc n) l = (n, refl)

pub walked_next : (p : GenericProgramTree) (plain : ℕ) (s new : Search) (i : ℕ) → AllByRecursion HasGenericConstructor p.datas → Walked p plain s i → s.limit ≡ None → i < length s.found.keys → s.found.constructors ≤ 200 → s.found.functions ≤ 1000
    → ((found : List Copy) (c : Copy) → IsAt (globals_of_generic p) s (Ok found) → slice_get found i ≡ Some c → AsksAll (globals_of_generic p) s new (copy_asks (globals_of_generic p).rows c)) → Walked p plain new (i + 1)
walked_next p plain s new i fine h none l few_types few_functions step =
    let g = globals_of_generic p in
    let o = opened g (forms s.context) s.found s.limit h.result none h.at in
    let found = o.0 in
    let kept = o.2 in
    let many = same_length g (forms s.context) s.found.keys found kept.copies in
    let few = few_copies g (forms s.context) s.found.keys found fine kept.copies in
    let a = kept.constructors in
    let b = kept.functions in
    let e = h.enough in
    let n = less_one h.fuel (omega (arith, many, few, a, b, e, l, few_types, few_functions)) in
    let there = get_there found i (omega (arith, many, l)) in
    let asked = step found there.0 (subst (IsAt g s) o.1 h.at) there.1 in
    record {
      result = with_found h.result (λ f. add_asks g f (copy_asks g.rows there.0));
      at = asked.on h.result h.at;
      fuel = n.0;
      enough = (let m = n.1 in omega (arith, m, e));
      is = h.is ∙ ap (λ r. with_found r (λ f. walk h.fuel g f i)) o.1 ∙ ap (λ m. walk m g found i) n.1 ∙ ap (λ q. walk_one g found q (λ next. walk n.0 g next (suc i))) there.1
          ∙ (let k : suc i ≡ i + 1 = omega arith in ap (λ m. with_found (add_asks g found (copy_asks g.rows there.0)) (λ next. walk n.0 g next m)) k)
          ∙ ap (λ r. with_found (with_found r (λ f. add_asks g f (copy_asks g.rows there.0))) (λ f. walk n.0 g f (i + 1))) (sym o.1);
    } where
      get_there : (xs : List Copy) (j : ℕ) → j < length xs → (c : Copy) × (slice_get xs j ≡ Some c)
      get_there [] j m = absurd (omega (arith, m))
      get_there (x ∷ xs) zero m = (x, refl)
      get_there (x ∷ xs) (suc j) m = get_there xs j (omega (arith, m))

pub walked_goes : (p : GenericProgramTree) (plain : ℕ) (s : Search) (i : ℕ) → AllByRecursion HasGenericConstructor p.datas → Walked p plain s i → s.limit ≡ None → i < length s.found.keys → s.found.constructors ≤ 200 → s.found.functions ≤ 1000 → i < 1201 + plain
walked_goes p plain s i fine h none l few_types few_functions =
    let g = globals_of_generic p in
    let o = opened g (forms s.context) s.found s.limit h.result none h.at in
    let many = same_length g (forms s.context) s.found.keys o.0 (o.2).copies in
    let few = few_copies g (forms s.context) s.found.keys o.0 fine (o.2).copies in
    let a = (o.2).constructors in
    let b = (o.2).functions in
    omega (arith, many, few, a, b, l, few_types, few_functions)

pub walked_end : (p : GenericProgramTree) (plain : ℕ) (s : Search) (i : ℕ) → Walked p plain s i → s.limit ≡ None → length s.found.keys ≤ i → (found : List Copy) × (copies_of p ≡ Ok found) × IsFound (globals_of_generic p) (forms s.context) s.found found
walked_end p plain s i h none l =
    let g = globals_of_generic p in
    let o = opened g (forms s.context) s.found s.limit h.result none h.at in
    let many = same_length g (forms s.context) s.found.keys o.0 (o.2).copies in
    (o.0, h.is ∙ ap (λ r. with_found r (λ f. walk h.fuel g f i)) o.1 ∙ ends h.fuel g o.0 (omega (arith, many, l)), o.2) where
      none_there : (xs : List Copy) (j : ℕ) → length xs ≤ j → slice_get xs j ≡ None
      none_there [] j m = refl
      none_there (x ∷ xs) zero m = absurd (omega (arith, m))
      none_there (x ∷ xs) (suc j) m = none_there xs j (omega (arith, m))

      ends : (n : ℕ) (g : GenericGlobals) (found : List Copy) → length found ≤ i → walk n g found i ≡ Ok found
      ends zero g found m = refl
      ends (suc n) g found m = ap (λ q. walk_one g found q (λ next. walk n g next (suc i))) (none_there found i m)

pub walked_over : (p : GenericProgramTree) (plain : ℕ) (s : Search) (i : ℕ) (span : Span) → Walked p plain s i → s.limit ≡ Some span → copies_of p ≡ Err span
walked_over p plain s i span h some =
    let g = globals_of_generic p in
    h.is ∙ ap (λ r. with_found r (λ f. walk h.fuel g f i)) (closed g (forms s.context) s.found s.limit h.result span some h.at)

pub walked_stops : (p : GenericProgramTree) (plain : ℕ) (s : Search) (i : ℕ) → Walked p plain s i → (limit : Option Span) → s.limit ≡ limit → Rattle.std.specs.Prelude.is_some limit ≡ true → IsAt (globals_of_generic p) s (copies_of p)
walked_stops p plain s i h None e t = absurd cc
walked_stops p plain s i h (Some span) e t = subst (λ l. Reached (globals_of_generic p) (forms s.context) s.found l (copies_of p)) (sym e) (walked_over p plain s i span h e)

pub walked_all : (p : GenericProgramTree) (plain : ℕ) (s : Search) (i : ℕ) → Walked p plain s i → length s.found.keys ≤ i → IsAt (globals_of_generic p) s (copies_of p)
walked_all p plain s i h l = by s.limit refl where
  by : (limit : Option Span) → s.limit ≡ limit → IsAt (globals_of_generic p) s (copies_of p)
  by None e = let q = walked_end p plain s i h e l in subst (λ m. Reached (globals_of_generic p) (forms s.context) s.found m (copies_of p)) (sym e) (q.0, q.1, q.2)
  by (Some span) e = subst (λ m. Reached (globals_of_generic p) (forms s.context) s.found m (copies_of p)) (sym e) (walked_over p plain s i span h e)

pub walked_open : (p : GenericProgramTree) (plain : ℕ) (s : Search) (i : ℕ) → Walked p plain s i → s.limit ≡ None → IsOpen (globals_of_generic p) s
walked_open p plain s i h none =
    let o = opened (globals_of_generic p) (forms s.context) s.found s.limit h.result none h.at in
    record { found = o.0; at = subst (IsAt (globals_of_generic p) s) o.1 h.at }

-- fields and parameters

abbrev pub fields_asks : GenericParts → List GenericConstructor → Meant → List Ask
fields_asks p cs m = constructor_asks m (map (constructor_in p.exprs.words) cs)

pub fields_next : (p : GenericParts) (old now new : Search) (cs rest : List GenericConstructor) (d : GenericConstructor) (words : List Word) → 1 ≤ length rest → words ≡ run_words p.exprs.words (get_or rest 0 d).fields
    → AskedSoFar (globals_in p) old now (fields_asks p cs) (fields_asks p rest) → Asks (globals_in p) now new (λ m. types_asks m (stack_of words)) → AskedSoFar (globals_in p) old new (fields_asks p cs) (fields_asks p (take (length rest - 1) (drop 1 rest)))
fields_next p old now new cs rest d words l f h a =
    let is : rest ≡ get_or rest 0 d ∷ take (length rest - 1) (drop 1 rest) = split_is rest d l in
    asked_next (globals_in p) old now new (fields_asks p cs) (fields_asks p rest) (fields_asks p (take (length rest - 1) (drop 1 rest))) (λ m. types_asks m (stack_of words)) h
    (λ m. ap (λ r. fields_asks p r m) is ∙ ap (λ w. types_asks m (stack_of w) ++ fields_asks p (take (length rest - 1) (drop 1 rest)) m) (sym f)) a

pub fields_end : (p : GenericParts) (old now : Search) (cs rest : List GenericConstructor) → length rest < 1 → AskedSoFar (globals_in p) old now (fields_asks p cs) (fields_asks p rest) → Asks (globals_in p) old now (fields_asks p cs)
fields_end p old now cs rest l h = asked_end (globals_in p) old now (fields_asks p cs) (fields_asks p rest) h (λ m. ap (λ r. fields_asks p r m) (empty_is rest l))

abbrev pub parameters_asks : GenericParts → List GenericParameter → Meant → List Ask
parameters_asks p qs m = types_asks m (map (λ (q : GenericParameterTree). q.ty) (map (parameter_in p.exprs.words) qs))

-- the words of one type ask what the type asks
pub type_asks : (m : Meant) (words : List Word) (run : Run) (ws : List Word) → IsTypeRun words run → ws ≡ run_words words run → types_asks m (stack_of ws) ≡ written_asks m (type_in words run)
type_asks m words run ws h e =
    let s : stack_of ws ≡ h.1 ∷ [] = ap stack_of (e ∙ h.2) ∙ read_stack h.1 in
    let t : stack_of (run_words words run) ≡ h.1 ∷ [] = ap stack_of h.2 ∙ read_stack h.1 in
    ap (types_asks m) s ∙ nil (written_asks m h.1) ∙ ap (λ st. written_asks m (first_type st)) (sym t) where
      nil : (xs : List Ask) → xs ++ [] ≡ xs
      nil [] = refl
      nil (x ∷ xs) = ap (λ l. x ∷ l) (nil xs)

pub record ParametersAsked (p : GenericParts) (old now : Search) (qs rest : List GenericParameter) : Type 0 where
  pub asked : AskedSoFar (globals_in p) old now (parameters_asks p qs) (parameters_asks p rest)
  pub inside : AllByRecursion (IsParameterInside p.exprs.words) rest

pub parameters_start : (p : GenericParts) (old : Search) (qs : List GenericParameter) → AllByRecursion (IsParameterInside p.exprs.words) qs → ParametersAsked p old old qs qs
parameters_start p old qs h = record { asked = asked_start (globals_in p) old (parameters_asks p qs); inside = h }

pub parameters_next : (p : GenericParts) (old now new : Search) (qs rest : List GenericParameter) (d : GenericParameter) (words : List Word) → 1 ≤ length rest → words ≡ run_words p.exprs.words (get_or rest 0 d).ty
    → ParametersAsked p old now qs rest → Asks (globals_in p) now new (λ m. types_asks m (stack_of words)) → ParametersAsked p old new qs (take (length rest - 1) (drop 1 rest))
parameters_next p old now new qs rest d words l f h a =
    let q = get_or rest 0 d in
    let is : rest ≡ get_or rest 0 d ∷ take (length rest - 1) (drop 1 rest) = split_is rest d l in
    let here = subst (AllByRecursion (IsParameterInside p.exprs.words)) is h.inside in
    record {
      asked = asked_next (globals_in p) old now new (parameters_asks p qs) (parameters_asks p rest) (parameters_asks p (take (length rest - 1) (drop 1 rest))) (λ m. types_asks m (stack_of words)) h.asked
          (λ m. ap (λ r. parameters_asks p r m) is ∙ ap (λ as'. as' ++ parameters_asks p (take (length rest - 1) (drop 1 rest)) m) (sym (type_asks m p.exprs.words q.ty words here.0 f))) a;
      inside = here.1;
    }

pub parameters_end : (p : GenericParts) (old now : Search) (qs rest : List GenericParameter) → length rest < 1 → ParametersAsked p old now qs rest → Asks (globals_in p) old now (parameters_asks p qs)
parameters_end p old now qs rest l h = asked_end (globals_in p) old now (parameters_asks p qs) (parameters_asks p rest) h.asked (λ m. ap (λ r. parameters_asks p r m) (empty_is rest l))

abbrev pub runs_asks : GenericParts → List Run → Meant → List Ask
runs_asks p runs m = types_asks m (map (type_in p.exprs.words) runs)

pub record RunsAsked (p : GenericParts) (old now : Search) (runs rest : List Run) : Type 0 where
  pub asked : AskedSoFar (globals_in p) old now (runs_asks p runs) (runs_asks p rest)
  pub inside : AllByRecursion (IsTypeRun p.exprs.words) rest

pub runs_start : (p : GenericParts) (old : Search) (runs : List Run) → AllByRecursion (IsTypeRun p.exprs.words) runs → RunsAsked p old old runs runs
runs_start p old runs h = record { asked = asked_start (globals_in p) old (runs_asks p runs); inside = h }

pub runs_next : (p : GenericParts) (old now new : Search) (runs rest : List Run) (d : Run) (words : List Word) → 1 ≤ length rest → words ≡ run_words p.exprs.words (get_or rest 0 d)
    → RunsAsked p old now runs rest → Asks (globals_in p) now new (λ m. types_asks m (stack_of words)) → RunsAsked p old new runs (take (length rest - 1) (drop 1 rest))
runs_next p old now new runs rest d words l f h a =
    let run = get_or rest 0 d in
    let is : rest ≡ get_or rest 0 d ∷ take (length rest - 1) (drop 1 rest) = split_is rest d l in
    let here = subst (AllByRecursion (IsTypeRun p.exprs.words)) is h.inside in
    record {
      asked = asked_next (globals_in p) old now new (runs_asks p runs) (runs_asks p rest) (runs_asks p (take (length rest - 1) (drop 1 rest))) (λ m. types_asks m (stack_of words)) h.asked
          (λ m. ap (λ r. runs_asks p r m) is ∙ ap (λ as'. as' ++ runs_asks p (take (length rest - 1) (drop 1 rest)) m) (sym (type_asks m p.exprs.words run words here.0 f))) a;
      inside = here.1;
    }

pub runs_end : (p : GenericParts) (old now : Search) (runs rest : List Run) → length rest < 1 → RunsAsked p old now runs rest → Asks (globals_in p) old now (runs_asks p runs)
runs_end p old now runs rest l h = asked_end (globals_in p) old now (runs_asks p runs) (runs_asks p rest) h.asked (λ m. ap (λ r. runs_asks p r m) (empty_is rest l))

pub one_asked : (p : GenericParts) (old new : Search) (r : ResultRuns) (run : Run) (words : List Word) → r ≡ result.One run → AreResultsInside p.exprs.words r → words ≡ run_words p.exprs.words run → Asks (globals_in p) old new (λ m. types_asks m (stack_of words))
    → Asks (globals_in p) old new (λ m. results_asks m (results_in p.exprs.words r))
one_asked p old new r run words is inside e a =
    let h : IsTypeRun p.exprs.words run = subst (AreResultsInside p.exprs.words) is inside in
    asks_same (globals_in p) old new (λ m. types_asks m (stack_of words)) (λ m. results_asks m (results_in p.exprs.words r))
    (λ m. type_asks m p.exprs.words run words h e ∙ ap (λ q. results_asks m (results_in p.exprs.words q)) (sym is)) a

pub parts_asked : (p : GenericParts) (old new : Search) (r : ResultRuns) (runs : Vec Run) (rs : List Run) → r ≡ result.Several runs → rs ≡ runs.items → Asks (globals_in p) old new (λ m. types_asks m (map (type_in p.exprs.words) rs))
    → Asks (globals_in p) old new (λ m. results_asks m (results_in p.exprs.words r))
parts_asked p old new r runs rs is e a =
    asks_same (globals_in p) old new (λ m. types_asks m (map (type_in p.exprs.words) rs)) (λ m. results_asks m (results_in p.exprs.words r))
    (λ m. ap (λ l. types_asks m (map (type_in p.exprs.words) l)) e ∙ ap (λ q. results_asks m (results_in p.exprs.words q)) (sym is)) a

pub function_all : (p : GenericParts) (old first second new : Search) (qs : List GenericParameter) (gives : ResultRuns) (body : ℕ) → Asks (globals_in p) old first (parameters_asks p qs) → Asks (globals_in p) first second (λ m. results_asks m (results_in p.exprs.words gives)) → Asks (globals_in p) second new (asks_in p body)
    → Asks (globals_in p) old new (λ m. function_asks (globals_in p).rows m (map (parameter_in p.exprs.words) qs) (results_in p.exprs.words gives) (tree_of p.exprs body))
function_all p old first second new qs gives body a b c =
    asks_both (globals_in p) old first new (parameters_asks p qs) (λ m. results_asks m (results_in p.exprs.words gives) ++ asks_in p body m) a
    (asks_both (globals_in p) first second new (λ m. results_asks m (results_in p.exprs.words gives)) (asks_in p body) b c)

-- copies of declarations

-- with other type variables
abbrev pub entered : Search → List Ident → List TypeId → Search
entered s variables types = record { alloc = s.alloc; context = record { types = s.context.types; variables = variables; meant = types }; found = s.found; limit = s.limit }

pub data_copied : (p : GenericParts) (old new : Search) (place : ℕ) (decl : GenericData) (d : GenericDataTree) (variables : List Ident) (constructors : List GenericConstructor) (types : List TypeId) → slice_get (globals_in p).datas place ≡ Some d
    → slice_get p.datas place ≡ Some decl → variables ≡ decl.variables.items → constructors ≡ decl.constructors.items → Asks (globals_in p) (entered old variables types) new (fields_asks p constructors)
    → AsksAll (globals_in p) old new (copy_asks (globals_in p).rows (DataOf d (forms_at (forms old.context) types)))
data_copied p old new place decl d variables constructors types there at vs cs a =
    let is : data_in p.exprs.words decl ≡ d = same_Some (data_in p.exprs.words decl) d (sym (get_map (data_in p.exprs.words) p.datas place decl at) ∙ there) in
    subst (λ x. AsksAll (globals_in p) old new (copy_asks (globals_in p).rows (DataOf x (forms_at (forms old.context) types)))) is
    (subst (λ q. AsksAll (globals_in p) old new (constructor_asks (assign q (forms_at (forms old.context) types)) (map (constructor_in p.exprs.words) decl.constructors.items))) vs
    (subst (λ q. AsksAll (globals_in p) old new (constructor_asks (assign variables (forms_at (forms old.context) types)) (map (constructor_in p.exprs.words) q))) cs
    (all_from (globals_in p) old (entered old variables types) new (assign variables (forms_at (forms old.context) types)) (fields_asks p constructors) refl refl refl refl a)))

abbrev pub function_body : GenericParts → List GenericParameter → ResultRuns → ℕ → Meant → List Ask
function_body p qs gives body m = function_asks (globals_in p).rows m (map (parameter_in p.exprs.words) qs) (results_in p.exprs.words gives) (tree_of p.exprs body)

pub function_copied : (p : GenericParts) (old new : Search) (place : ℕ) (decl : GenericFunction) (f : GenericFunctionTree) (variables : List Ident) (parameters : List GenericParameter) (types : List TypeId) → slice_get (globals_in p).functions place ≡ Some f
    → slice_get p.functions place ≡ Some decl → variables ≡ decl.variables.items → parameters ≡ decl.parameters.items → Asks (globals_in p) (entered old variables types) new (function_body p parameters decl.result decl.body.0)
    → AsksAll (globals_in p) old new (copy_asks (globals_in p).rows (FunctionOf f (forms_at (forms old.context) types)))
function_copied p old new place decl f variables parameters types there at vs qs a =
    let is : function_in p.exprs decl ≡ f = same_Some (function_in p.exprs decl) f (sym (get_map (function_in p.exprs) p.functions place decl at) ∙ there) in
    subst (λ x. AsksAll (globals_in p) old new (copy_asks (globals_in p).rows (FunctionOf x (forms_at (forms old.context) types)))) is
    (subst (λ q. AsksAll (globals_in p) old new (function_body p decl.parameters.items decl.result decl.body.0 (assign q (forms_at (forms old.context) types)))) vs
    (subst (λ q. AsksAll (globals_in p) old new (function_body p q decl.result decl.body.0 (assign variables (forms_at (forms old.context) types)))) qs
    (all_from (globals_in p) old (entered old variables types) new (assign variables (forms_at (forms old.context) types)) (function_body p parameters decl.result decl.body.0) refl refl refl refl a)))

-- a key that was copied is of the same copy

key_ok : (g : GenericGlobals) (fs : List Form) (a b : CopyKey) → AreAlike a b → copy_from g fs a ≡ copy_from g fs b
key_ok g fs (k.Data i is) (k.Data j js) h = ap₂ (λ n l. data_asked (slice_get g.datas n) (forms_at fs l)) h.0 h.1
key_ok g fs (k.Data i is) (k.Function j js) h = absurd h
key_ok g fs (k.Function i is) (k.Data j js) h = absurd h
key_ok g fs (k.Function i is) (k.Function j js) h = ap₂ (λ n l. function_asked (slice_get g.functions n) (forms_at fs l)) h.0 h.1

key_low : (n : ℕ) (a b : CopyKey) → AreAlike a b → KeyBelow n a → KeyBelow n b
key_low n (k.Data i is) (k.Data j js) h l = subst (AreBelow n) h.1 l
key_low n (k.Data i is) (k.Function j js) h l = absurd h
key_low n (k.Function i is) (k.Data j js) h l = absurd h
key_low n (k.Function i is) (k.Function j js) h l = subst (AreBelow n) h.1 l

-- what is known of the copy of a place
pub record KeyKnown (g : GenericGlobals) (s : Search) (found : List Copy) (place : ℕ) (key : CopyKey) : Type 0 where
  pub copy : Copy
  pub there : slice_get found place ≡ Some copy
  pub is : copy_from g (forms s.context) key ≡ Some copy
  pub below : KeyBelow (length (forms s.context)) key

pub key_known : (g : GenericGlobals) (s : Search) (found : List Copy) (place : ℕ) (kept key : CopyKey) → IsAt g s (Ok found) → slice_get s.found.keys place ≡ Some kept → AreAlike kept key → KeyKnown g s found place key
key_known g s found place kept key at there alike = by s.limit at where
  by : (limit : Option Span) → Reached g (forms s.context) s.found limit (Ok found) → KeyKnown g s found place key
  by None h =
      let e : h.0 ≡ found = (let q = h.1 in cc) in
      let c = copy_at g (forms s.context) s.found.keys h.0 place kept (h.2).copies there in
      record { copy = c.copy; there = ap (λ l. slice_get l place) (sym e) ∙ c.there; is = sym (key_ok g (forms s.context) kept key alike) ∙ c.is; below = key_low (length (forms s.context)) kept key alike c.below }
  by (Some span) h = absurd cc

declared_below : {A : Type 0} (xs : List A) (i : ℕ) (o : Option A) → slice_get xs i ≡ o → (x : A) → o ≡ Some x → i < length xs
declared_below [] i o e x f = absurd cc
declared_below (y ∷ xs) zero o e x f = omega arith
declared_below (y ∷ xs) (suc i) o e x f = let l = declared_below xs i o e x f in omega (arith, l)

pub data_there : (g : GenericGlobals) (fs : List Form) (i : ℕ) (o : Option GenericDataTree) (ts : Forms) (c : Copy) → slice_get g.datas i ≡ o → data_asked o ts ≡ Some c → (d : GenericDataTree) × (slice_get g.datas i ≡ Some d) × (c ≡ DataOf d ts) × (i < length g.datas)
data_there g fs i None ts c e f = absurd cc
data_there g fs i (Some d) ts c e f = (d, e, sym (same_Some (DataOf d ts) c f), declared_below g.datas i (Some d) e d refl)

pub function_there : (g : GenericGlobals) (fs : List Form) (i : ℕ) (o : Option GenericFunctionTree) (ts : Forms) (c : Copy) → slice_get g.functions i ≡ o → function_asked o ts ≡ Some c → (f : GenericFunctionTree) × (slice_get g.functions i ≡ Some f) × (c ≡ FunctionOf f ts) × (i < length g.functions)
function_there g fs i None ts c e f = absurd cc
function_there g fs i (Some h) ts c e f = (h, e, sym (same_Some (FunctionOf h ts) c f), declared_below g.functions i (Some h) e h refl)

pub copy_all : (g : GenericGlobals) (old new : Search) (place : ℕ) (found : List Copy) (c d : Copy) → slice_get found place ≡ Some c → slice_get found place ≡ Some d → AsksAll g old new (copy_asks g.rows d) → AsksAll g old new (copy_asks g.rows c)
copy_all g old new place found c d e f a = subst (λ x. AsksAll g old new (copy_asks g.rows x)) (same_Some d c (sym f ∙ e)) a

pub main_copied : (p : GenericParts) (old new : Search) (variables : List Ident) (meant : List TypeId) (main : GenericMain) (parameters : List GenericParameter) → variables ≡ [] → meant ≡ [] → main ≡ p.main → parameters ≡ main.parameter ∷ []
    → Asks (globals_in p) (entered old variables meant) new (function_body p parameters (result.One main.result) main.body.0) → AsksAll (globals_in p) old new (main_asks (generic_program_of p))
main_copied p old new variables meant main parameters e f h q a =
    all_from (globals_in p) old (entered old [] []) new (assign [] NoForm) (function_body p (p.main.parameter ∷ []) (result.One p.main.result) p.main.body.0) refl refl refl refl
    (subst (λ x. Asks (globals_in p) (entered old [] []) new (function_body p (x.parameter ∷ []) (result.One x.result) x.body.0)) h
    (subst (λ x. Asks (globals_in p) (entered old [] []) new (function_body p x (result.One main.result) main.body.0)) q
    (subst (λ x. Asks (globals_in p) (entered old [] x) new (function_body p parameters (result.One main.result) main.body.0)) f
    (subst (λ x. Asks (globals_in p) (entered old x meant) new (function_body p parameters (result.One main.result) main.body.0)) e a))))

pub start_at : (g : GenericGlobals) (fs : List Form) (kept : Kept) → kept ≡ record { keys = []; constructors = 0; functions = 0 } → Reached g fs kept None (Ok [])
start_at g fs kept e = subst (λ q. Reached g fs q None (Ok [])) (sym e) ([], refl, record { copies = tt; constructors = refl; functions = refl })
