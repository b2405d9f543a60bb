-- What a core keeps whose bodies are made anew, where each of its bodies keeps it.
use Rattle.std.proofs.Common.{◌≡◌, ℕ, zero, suc, ◌<◌, Bool, true, false, not, ◌&&◌, ◌==◌, if◌then◌else◌, cond, filter, List, [], ◌∷◌, ◌++◌, map, length, Option, Some, None, refl, sym, ap, ◌∙◌, subst}
use Rattle.std.specs.List.{AllByRecursion}
use Rattle.gib_base.specs.declared.name.Name.{Name}
use Rattle.gib_types.specs.declared.table.ConId.{ConId}
use Rattle.gib_types.specs.Table.{Table}
use Rattle.gib_types.specs.Tree.{Datum}
use Rattle.gib_syntax.specs.Tree.{DataTree}
use Rattle.gib_syntax.specs.Meaning.{Outcome}
use Rattle.gib_core.specs.declared.atom.Atom.{Atom}
use Rattle.gib_core.specs.declared.atom.Variable.{Variable}
use Rattle.gib_core.specs.declared.atom.Access.{Access}
use Rattle.gib_core.specs.declared.atom.Access.TheVariants.{Offset, Skip, End}
use Rattle.gib_core.specs.declared.node.Node.{Node}
use Rattle.gib_core.specs.declared.program.CoreFunction.{CoreFunction}
use Rattle.gib_core.specs.declared.program.CoreMain.{CoreMain}
use Rattle.gib_core.specs.Arena.{term_of}
use Rattle.gib_core.specs.Parts.{Parts, AreInside, IsFunctionInside, results_of, function_term, core_of}
use Rattle.gib_core.specs.Tree.{Term, variables_from, FunctionTerm, CoreTree}
use Rattle.gib_core.specs.Meaning.{Calls, bind, mean, function_at, of_function, core_calls, core_run}
use Rattle.gib_core.specs.Erasing.{erase, erase_function, erase_core}
use Rattle.gib_core.specs.Ending.{Ended, is_known, known_in, stays_ended, narrowed, packed_from, all_packed, settled, ended}
use Rattle.gib_core.specs.declared.scope.Behind.{Behind}
use Rattle.gib_core.specs.Met.{Known, known, Setting, Line, PastLine, SideLine, ParLine, PrimLine, ReachLine, WriteLine, PointLine, CallLine, GiveLine, CaseLine, IfLine, SeveralLine, TupleLine, PartLine, Met, Body, bodies, met, met_body, opening}
use Rattle.gib_core.specs.Rules.{Before, is_among, is_reached, is_outside, one_tells, by_access, may_reach, gives_packed, call_fits, rules, least, next, before_body, LinesAreBuilt, IsBuilt, AreBuilt, any_other, is_empty, all_usable}
use Rattle.gib_core.specs.Walk.{body_of, body_of_main, with_body, remade, with_bodies}

-- What holds of all, holds of each item.
pub all_of : {A : Type 0} (P : A → Type 0) → ((x : A) → P x) → (xs : List A) → AllByRecursion P xs
all_of P h [] = tt
all_of P h (x ∷ xs) = (h x, all_of P h xs)

-- What holds of all, and what follows from it; two things that hold of all.
pub all_so : {A : Type 0} (P Q : A → Type 0) → ((x : A) → P x → Q x) → (xs : List A) → AllByRecursion P xs → AllByRecursion Q xs
all_so P Q so [] h = tt
all_so P Q so (x ∷ xs) h = (so x h.0, all_so P Q so xs h.1)

pub all_both : {A : Type 0} (P Q : A → Type 0) (xs : List A) → AllByRecursion P xs → AllByRecursion Q xs → AllByRecursion (λ (x : A). P x × Q x) xs
all_both P Q [] h k = tt
all_both P Q (x ∷ xs) h k = ((h.0, k.0), all_both P Q xs h.1 k.1)

-- A body made anew.
abbrev pub anew : (Body → Term) → Body → Body
anew h b = record { parameters = b.parameters; result = b.result; term = h b }

abbrev main_of : CoreTree → Body
main_of core = body_of_main core.main

-- What holds of each function's body, and of main's.
pub functions_of : (P : Body → Type 0) (main : Body) (fs : List FunctionTerm) → AllByRecursion P (map body_of fs ++ main ∷ []) → AllByRecursion (λ (f : FunctionTerm). P (body_of f)) fs
functions_of P main [] h = tt
functions_of P main (f ∷ fs) h = (h.0, functions_of P main fs h.1)

pub main_so : (P : Body → Type 0) (main : Body) (fs : List FunctionTerm) → AllByRecursion P (map body_of fs ++ main ∷ []) → P main
main_so P main [] h = h.0
main_so P main (f ∷ fs) h = main_so P main fs h.1

bodies_so : (h : Body → Term) (P Q : Body → Type 0) → ((b : Body) → P b → Q (anew h b)) → (main : Body) (fs : List FunctionTerm)
    → AllByRecursion P (map body_of fs ++ main ∷ []) → AllByRecursion Q (map body_of (map (with_body h) fs) ++ anew h main ∷ [])
bodies_so h P Q so main [] a = (so main a.0, tt)
bodies_so h P Q so main (f ∷ fs) a = (so (body_of f) a.0, bodies_so h P Q so main fs a.1)

-- What holds of each body.
pub remade_so : (h : Body → Term) (offsets : List ConId) (told : Bool) (P Q : Body → Type 0) → ((b : Body) → P b → Q (anew h b)) → (core : CoreTree) → AllByRecursion P (bodies core) → AllByRecursion Q (bodies (remade h offsets told core))
remade_so h offsets told P Q so core a = bodies_so h P Q so (main_of core) core.functions a

-- What is left.
functions_erased : (tb : Table) (h : Body → Term) (fs : List FunctionTerm) → AllByRecursion (λ (f : FunctionTerm). erase tb [] (h (body_of f)) ≡ erase tb [] f.body) fs
    → map (erase_function tb) (map (with_body h) fs) ≡ map (erase_function tb) fs
functions_erased tb h [] e = refl
functions_erased tb h (f ∷ fs) e = λ i. record (erase_function tb f) { body = e.0 i } ∷ functions_erased tb h fs e.1 i

pub remade_erased : (h : Body → Term) (offsets : List ConId) (told : Bool) (datas : List DataTree) (core : CoreTree) → AllByRecursion (λ (b : Body). erase core.table [] (h b) ≡ erase core.table [] b.term) (bodies core)
    → erase_core datas (remade h offsets told core) ≡ erase_core datas core
remade_erased h offsets told datas core e =
    let P : Body → Type 0 = λ b. erase core.table [] (h b) ≡ erase core.table [] b.term in
    λ i. record {
      datas = datas;
      functions = functions_erased core.table h core.functions (functions_of P (main_of core) core.functions e) i;
      main = record (erase_core datas core).main { body = main_so P (main_of core) core.functions e i };
    }

-- What is asked of the function of a name.
pub at_remade : {A : Type 0} (h : Body → Term) (go go' : Option FunctionTerm → A) → go' None ≡ go None → (fs : List FunctionTerm) (f : ℕ) → AllByRecursion (λ (k : FunctionTerm). go' (Some (with_body h k)) ≡ go (Some k)) fs
    → go' (function_at (map (with_body h) fs) f) ≡ go (function_at fs f)
at_remade h go go' n [] f e = n
at_remade h go go' n (k ∷ fs) f e = step (k.name.0 == f) (at_remade h go go' n fs f e.1)
  where
    step : (b : Bool) → go' (function_at (map (with_body h) fs) f) ≡ go (function_at fs f) → go' (if b then Some (with_body h k) else function_at (map (with_body h) fs) f) ≡ go (if b then Some k else function_at fs f)
    step true more = e.0
    step false more = more

-- What calls mean: the body means the same on all arguments.
abbrev pub MeansSame : Table → (Body → Term) → Body → Type 0
MeansSame tb h b = (call : Calls) (vs : List Datum) → mean tb call (h b) (bind (variables_from 0 b.parameters) vs []) ≡ mean tb call b.term (bind (variables_from 0 b.parameters) vs [])

functions_mean : (tb : Table) (h : Body → Term) (call : Calls) (vs : List Datum) (fs : List FunctionTerm) → AllByRecursion (λ (f : FunctionTerm). MeansSame tb h (body_of f)) fs
    → AllByRecursion (λ (f : FunctionTerm). mean tb call (h (body_of f)) (bind (variables_from 0 f.parameters) vs []) ≡ mean tb call f.body (bind (variables_from 0 f.parameters) vs [])) fs
functions_mean tb h call vs fs e = all_so (λ (f : FunctionTerm). MeansSame tb h (body_of f)) (λ (f : FunctionTerm). mean tb call (h (body_of f)) (bind (variables_from 0 f.parameters) vs []) ≡ mean tb call f.body (bind (variables_from 0 f.parameters) vs [])) (λ f m. m call vs) fs e

pub remade_calls : (h : Body → Term) (offsets : List ConId) (told : Bool) (core : CoreTree) → AllByRecursion (MeansSame core.table h) (bodies core) → (n : ℕ) → core_calls (remade h offsets told core) n ≡ core_calls core n
remade_calls h offsets told core e zero = refl
remade_calls h offsets told core e (suc n) =
    let go : Calls → List Datum → FunctionTerm → Outcome = λ call vs g. mean core.table call g.body (bind (variables_from 0 g.parameters) vs []) in
    λ i f vs. (
    ap (λ k. of_function (function_at (map (with_body h) core.functions) f) (go k vs)) (remade_calls h offsets told core e n)
    ∙ at_remade h (λ o. of_function o (go (core_calls core n) vs)) (λ o. of_function o (go (core_calls core n) vs)) refl core.functions f
    (functions_mean core.table h (core_calls core n) vs core.functions (functions_of (MeansSame core.table h) (main_of core) core.functions e))) i

pub remade_run : (h : Body → Term) (offsets : List ConId) (told : Bool) (core : CoreTree) → AllByRecursion (MeansSame core.table h) (bodies core) → (depth : ℕ) (v : Datum) → core_run (remade h offsets told core) depth v ≡ core_run core depth v
remade_run h offsets told core e depth v =
    ap (λ k. mean core.table k (h (main_of core)) ((0, v) ∷ [])) (remade_calls h offsets told core e depth)
    ∙ main_so (MeansSame core.table h) (main_of core) core.functions e (core_calls core depth) (v ∷ [])

-- Which parameters are ended, where ends are told or not: as before, where the same ends are known in each body.
abbrev pub KnowsSame : Table → (Body → Term) → Body → Type 0
KnowsSame tb h b = (es : List Ended) (z : Variable) → is_known tb es (h b) z ≡ is_known tb es b.term z

filtered_same : (p q : Ended → Bool) (xs : List Ended) → ((x : Ended) → p x ≡ q x) → filter p xs ≡ filter q xs
filtered_same p q [] h = refl
filtered_same p q (x ∷ xs) h = λ i. cond (h x i) (x ∷ filtered_same p q xs h i) (filtered_same p q xs h i)

-- Cores with the same functions up to their bodies, of which the same is known.
pub settled_same : (core other : CoreTree) → ((gs : List Ended) (e : Ended) → stays_ended core gs e ≡ stays_ended other gs e) → (n : ℕ) (gs : List Ended) → settled core n gs ≡ settled other n gs
settled_same core other h zero gs = refl
settled_same core other h (suc n) gs =
    let same : narrowed core gs ≡ narrowed other gs = filtered_same (stays_ended core gs) (stays_ended other gs) gs (h gs) in
    settled_same core other h n (narrowed core gs) ∙ ap (settled other n) same

packed_remade : (h : Body → Term) (fs : List FunctionTerm) → all_packed (map (with_body h) fs) ≡ all_packed fs
packed_remade h [] = refl
packed_remade h (g ∷ fs) = ap (λ es. packed_from g.name.0 0 g.parameters ++ es) (packed_remade h fs)

pub remade_ended : (h : Body → Term) (offsets : List ConId) (told : Bool) (core : CoreTree) → AllByRecursion (KnowsSame core.table h) (bodies core) → ended (remade h offsets told core) ≡ ended (record core { marked = told })
remade_ended h offsets told core e =
    let now = remade h offsets told core in
    let known = functions_of (KnowsSame core.table h) (main_of core) core.functions e in
    λ i. if told then (
    ap (λ es. settled now (length es) es) (packed_remade h core.functions)
    ∙ settled_same now (record core { marked = told }) (λ es x. at_remade h (known_in core.table es x.place) (known_in core.table es x.place) refl core.functions x.function
    (all_so (λ (g : FunctionTerm). KnowsSame core.table h (body_of g)) (λ (g : FunctionTerm). known_in core.table es x.place (Some (with_body h g)) ≡ known_in core.table es x.place (Some g)) (λ g k. k es (record { 0 = x.place })) core.functions known)) (length (all_packed core.functions)) (all_packed core.functions)) i else []

-- The rules look at functions' types alone and at the parameters that are ended.
module _ (h : Body → Term) (core : CoreTree) where
  types_same : {A : Type 0} (go : Option FunctionTerm → A) → ((k : FunctionTerm) → go (Some (with_body h k)) ≡ go (Some k)) → (f : ℕ) → go (function_at (map (with_body h) core.functions) f) ≡ go (function_at core.functions f)
  types_same go same f = at_remade h go go refl core.functions f (all_of (λ (k : FunctionTerm). go (Some (with_body h k)) ≡ go (Some k)) same core.functions)

  pub same_call : (b : Before) (s : Setting) (f : Name) (xs : List Atom) → rules (with_bodies h core) b s (CallLine f xs) ≡ rules core b s (CallLine f xs)
  same_call b s f xs = λ i.
      (4, any_other s xs)
      ∷ (6, types_same gives_packed (λ k. refl) f.0 i && not (is_empty s.destination))
      ∷ (8, not (all_usable s xs))
      ∷ (9, not (types_same (call_fits b s xs) (λ k. refl) f.0 i)) ∷ []

module _ (h : Body → Term) (core : CoreTree) (e : ended (with_bodies h core) ≡ ended core) where
  same_access : (b : Before) (s : Setting) (f : Option Behind) (by : Access) → by_access (with_bodies h core) b s f by ≡ by_access core b s f by
  same_access b s None by = refl
  same_access b s (Some f) Offset = refl
  same_access b s (Some f) (Skip z) = refl
  same_access b s (Some f) (End z) = λ i. f.before.0 == z.0 && (is_reached (known s.scope z) && (is_outside s.others && one_tells (e i) s.calls z))

  same_reach : (b : Before) (s : Setting) (k : Option Known) (by : Access) → may_reach (with_bodies h core) b s k by ≡ may_reach core b s k by
  same_reach b s None by = refl
  same_reach b s (Some k) by = ap (λ c. not k.reached && c) (same_access b s k.behind by)

  pub same_rules : (b : Before) (s : Setting) (line : Line) → rules (with_bodies h core) b s line ≡ rules core b s line
  same_rules b s (PastLine x k) = refl
  same_rules b s (SideLine kind x ty) = refl
  same_rules b s ParLine = refl
  same_rules b s (PrimLine x f y z) = refl
  same_rules b s (ReachLine y by) = λ i. (4, is_among s.others y) ∷ (8, not (same_reach b s (known s.scope y) by i)) ∷ []
  same_rules b s (WriteLine x k ss ps) = refl
  same_rules b s (PointLine x) = refl
  same_rules b s (CallLine f xs) = same_call h core b s f xs
  same_rules b s (GiveLine x) = refl
  same_rules b s (CaseLine x arms) = refl
  same_rules b s (IfLine x) = refl
  same_rules b s (SeveralLine xs tys) = refl
  same_rules b s (TupleLine tys ss packed) = refl
  same_rules b s PartLine = refl

  same_lines : (b : Before) (ms : List Met) → LinesAreBuilt core b ms → LinesAreBuilt (with_bodies h core) b ms
  same_lines b [] p = tt
  same_lines b (m ∷ ms) p = (ap least (same_rules b m.with m.line) ∙ p.0, same_lines (next core.table b m.line) ms p.1)

  -- Bodies whose lines are met as before are built as before.
  pub remade_built : ((b : Body) → met core.table (opening b) (h b) ≡ met_body core.table b) → AreBuilt core → AreBuilt (with_bodies h core)
  remade_built same built =
      let so : (b : Body) → IsBuilt core b → IsBuilt (with_bodies h core) (anew h b) = λ b p. subst (LinesAreBuilt (with_bodies h core) (before_body b)) (sym (same b)) (same_lines (before_body b) (met_body core.table b) p) in
      remade_so h core.offsets core.marked (IsBuilt core) (IsBuilt (with_bodies h core)) so core built

-- In the arena.
functions_made : (h : Term → Term) (n : ℕ) (f g : ℕ → Term) (fs : List CoreFunction) → AllByRecursion (IsFunctionInside n) fs → ((id : ℕ) → id < n → g id ≡ h (f id))
    → map (function_term g) fs ≡ map (with_body (λ b. h b.term)) (map (function_term f) fs)
functions_made h n f g [] inside e = refl
functions_made h n f g (d ∷ fs) inside e =
    λ i. record { name = d.name; parameters = d.parameters.items; result = results_of d.result; body = e d.body.0 inside.0 i } ∷ functions_made h n f g fs inside.1 e i

-- Where each term becomes another, the core is made anew.
pub parts_made : (h : Term → Term) (core made : Parts) (table : Table) (terms new : List Node) (functions : List CoreFunction) (main : CoreMain) (offsets : List ConId) (marked : Bool)
    → table ≡ core.table → terms ≡ core.terms → functions ≡ core.functions → main ≡ core.main → offsets ≡ core.offsets → marked ≡ core.marked
    → AreInside core → ((id : ℕ) → id < length terms → term_of new id ≡ h (term_of terms id))
    → made ≡ record { table = table; terms = new; functions = functions; main = main; offsets = offsets; marked = marked } → core_of made ≡ with_bodies (λ b. h b.term) (core_of core)
parts_made h core made table terms new functions main offsets marked a b c d e m inside is same =
    ap core_of same
    ∙ (λ i. core_of (record { table = a i; terms = new; functions = c i; main = d i; offsets = e i; marked = m i }))
    ∙ with_terms (subst (λ (ts : List Node). (id : ℕ) → id < length ts → term_of new id ≡ h (term_of ts id)) b is)
  where
    with_terms : ((id : ℕ) → id < length core.terms → term_of new id ≡ h (term_of core.terms id))
        → core_of (record { table = core.table; terms = new; functions = core.functions; main = core.main; offsets = core.offsets; marked = core.marked }) ≡ with_bodies (λ b. h b.term) (core_of core)
    with_terms k = λ i. record {
      table = core.table;
      functions = functions_made h (length core.terms) (term_of core.terms) (term_of new) core.functions inside.functions k i;
      main = record { parameter = core.main.parameter; result = core.main.result; body = k core.main.body.0 inside.main i };
      offsets = core.offsets;
      marked = core.marked;
    }
