-- The constructors that store offsets in a core whose fields are reached are found by their names.
use Rattle.std.proofs.Common.{ℕ, ◌+◌, Bool, true, false, if◌then◌else◌, List, [], ◌∷◌, ◌++◌, map, length}
use Rattle.std.specs.List.{AllByRecursion, flat_map}
use Rattle.gib_types.specs.declared.table.ConId.{ConId}
use Rattle.gib_types.specs.Table.{Table}
use Rattle.gib_core.specs.declared.atom.Variable.{Variable}
use Rattle.gib_core.specs.declared.atom.Access.TheVariants.{Offset, Skip, End}
use Rattle.gib_core.specs.declared.atom.AccessMode.{AccessMode}
use Rattle.gib_core.specs.declared.atom.AccessMode.TheVariants.{Skips, Offsets, Ends}
use Rattle.gib_core.specs.declared.atom.Ended.{Ended}
use Rattle.gib_core.specs.Tree.{Term, Then, Write, Point, CallTerm, Give, CaseTerm, IfTerm, Tuple, PartTerms, NoPart, PartThen, Bind, Past, One, Both, Prim, Reach, Side, On, Several, Branches, NoBranch, BranchThen, prepend, FunctionTerm, CoreTree}
use Rattle.gib_core.specs.Met.{Body}
use Rattle.gib_core.specs.Ordered.{IsFound, IsOrdered, BindOrdered, SideOrdered, PartsOrdered, BranchesOrdered, AreOrdered}
use Rattle.gib_core.specs.Reaching.{Later, uses, bind_uses, uses_any, ends_now, not_now, skips_from, offsets_from, untold_from, reaches, laters, untold, in_par, packed_variables, ended_by, all_offsets, offset_of, offsets_in, bind_offsets, side_offsets, part_offsets, branch_offsets, reach, reach_bind, reach_side, reach_parts, reach_branches, reach_function, reach_core}

module _ (tb : Table) (es : List Ended) where
  -- A term that is ordered is so behind the fields that are reached before it.
  behind_ends : (used : Variable → Bool) (fs : List Later) (n : ℕ) (u : Term) → IsOrdered tb n (prepend (ends_now used fs) u) → (m : ℕ) × IsOrdered tb m u
  behind_ends used [] n u h = (n, h)
  behind_ends used (f ∷ fs) n u h = by (used f.field) (λ m g. behind_ends used fs m u g) h
    where
      by : (b : Bool) → ((m : ℕ) → IsOrdered tb m (prepend (ends_now used fs) u) → (k : ℕ) × IsOrdered tb k u) → IsOrdered tb n (prepend (if b then Reach f.field (End f.before) ∷ ends_now used fs else ends_now used fs) u) → (k : ℕ) × IsOrdered tb k u
      by true more g = more g.1.0 g.1.2
      by false more g = more n g

  behind_skips : (t : Term) (z : Variable) (ys : List Variable) (n : ℕ) (u : Term) → IsOrdered tb n (prepend (skips_from t z ys) u) → (m : ℕ) × IsOrdered tb m u
  behind_skips t z [] n u h = (n, h)
  behind_skips t z (y ∷ ys) n u h = by (uses_any t (y ∷ ys)) (λ m g. behind_skips t y ys m u g) h
    where
      by : (b : Bool) → ((m : ℕ) → IsOrdered tb m (prepend (skips_from t y ys) u) → (k : ℕ) × IsOrdered tb k u) → IsOrdered tb n (prepend (if b then Reach y (Skip z) ∷ skips_from t y ys else []) u) → (k : ℕ) × IsOrdered tb k u
      by true more g = more g.1.0 g.1.2
      by false more g = (n, g)

  behind_offsets : (t : Term) (ys : List Variable) (n : ℕ) (u : Term) → IsOrdered tb n (prepend (offsets_from t ys) u) → (m : ℕ) × IsOrdered tb m u
  behind_offsets t [] n u h = (n, h)
  behind_offsets t (y ∷ ys) n u h = by (uses t y) (λ m g. behind_offsets t ys m u g) h
    where
      by : (b : Bool) → ((m : ℕ) → IsOrdered tb m (prepend (offsets_from t ys) u) → (k : ℕ) × IsOrdered tb k u) → IsOrdered tb n (prepend (if b then Reach y Offset ∷ offsets_from t ys else offsets_from t ys) u) → (k : ℕ) × IsOrdered tb k u
      by true more g = more g.1.0 g.1.2
      by false more g = more n g

  behind_reaches : (m : AccessMode) (t : Term) (xs : List Variable) (n : ℕ) (u : Term) → IsOrdered tb n (prepend (reaches m es t xs) u) → (k : ℕ) × IsOrdered tb k u
  behind_reaches Skips t [] n u h = (n, h)
  behind_reaches Offsets t [] n u h = (n, h)
  behind_reaches Ends t [] n u h = (n, h)
  behind_reaches Skips t (z ∷ ys) n u h = behind_skips t z ys n u h
  behind_reaches Offsets t (z ∷ ys) n u h = behind_offsets t ys n u h
  behind_reaches Ends t (z ∷ ys) n u h = behind_offsets t (untold_from es t z ys) n u h

  all_join : (js ks : List ConId) → AllByRecursion (IsFound tb) js → AllByRecursion (IsFound tb) ks → AllByRecursion (IsFound tb) (js ++ ks)
  all_join [] ks h g = g
  all_join (j ∷ js) ks h g = (h.0, all_join js ks h.1 g)

  own_found : (mode : AccessMode) (k : ConId) (t : Term) (ps : List Variable) → IsFound tb k → AllByRecursion (IsFound tb) (offset_of mode es k t ps)
  own_found mode k t ps h = by (uses_any t (untold mode es t ps))
    where
      by : (b : Bool) → AllByRecursion (IsFound tb) (if b then k ∷ [] else [])
      by true = (h, tt)
      by false = tt

  mutual
    term_found : (mode : AccessMode) (fs : List Later) (t : Term) (n : ℕ) → IsOrdered tb n (reach mode tb es fs t) → AllByRecursion (IsFound tb) (offsets_in mode tb es t)
    term_found mode fs (Then b rest) n h =
        let left : List Later = not_now (bind_uses b) fs in
        let g = behind_ends (bind_uses b) fs n (Then (reach_bind mode tb es b) (reach mode tb es left rest)) h in
        all_join (bind_offsets mode tb es b) (offsets_in mode tb es rest) (bind_found mode b g.0 g.1.0) (term_found mode left rest g.1.1.0 g.1.1.2)
    term_found mode fs (Write g k ss ps) n h = tt
    term_found mode fs (Point x) n h = tt
    term_found mode fs (CallTerm f xs) n h = tt
    term_found mode fs (Give x) n h = tt
    term_found mode fs (CaseTerm x bs) n h =
        let g = behind_ends (uses (CaseTerm x bs)) fs n (CaseTerm x (reach_branches mode tb es bs)) h in
        branches_found mode bs g.0 g.1.1
    term_found mode fs (IfTerm x t u) n h =
        let g = behind_ends (uses (IfTerm x t u)) fs n (IfTerm x (reach mode tb es [] t) (reach mode tb es [] u)) h in
        all_join (offsets_in mode tb es t) (offsets_in mode tb es u) (term_found mode [] t g.1.1.0 g.1.1.2) (term_found mode [] u g.1.2.0 g.1.2.2)
    term_found mode fs (Tuple tys ss ps) n h =
        let g = behind_ends (uses (Tuple tys ss ps)) fs n (Tuple tys ss (reach_parts mode tb es ps)) h in
        parts_found mode ps g.0 g.1.1

    bind_found : (mode : AccessMode) (b : Bind) (n : ℕ) → BindOrdered tb n (reach_bind mode tb es b) → AllByRecursion (IsFound tb) (bind_offsets mode tb es b)
    bind_found mode (Past g k) n h = tt
    bind_found mode (One s) n h = side_found mode s n h
    bind_found mode (Both fork l r) n h = all_join (side_offsets (in_par mode) tb es l) (side_offsets (in_par mode) tb es r) (side_found (in_par mode) l n h.0) (side_found (in_par mode) r h.1.0 h.1.2)
    bind_found mode (Prim x f y z) n h = tt
    bind_found mode (Reach y by) n h = tt

    side_found : (mode : AccessMode) (s : Side) (n : ℕ) → SideOrdered tb n (reach_side mode tb es s) → AllByRecursion (IsFound tb) (side_offsets mode tb es s)
    side_found mode (On kind x ty t) n h = term_found mode [] t (x.0 + 1) h.1
    side_found mode (Several xs tys t) n h = term_found mode [] t (Rattle.gib_core.specs.Ordered.behind_fields n xs) h.1

    parts_found : (mode : AccessMode) (ps : PartTerms) (n : ℕ) → PartsOrdered tb n (reach_parts mode tb es ps) → AllByRecursion (IsFound tb) (part_offsets mode tb es ps)
    parts_found mode NoPart n h = tt
    parts_found mode (PartThen t ps) n h = all_join (offsets_in mode tb es t) (part_offsets mode tb es ps) (term_found mode [] t h.0.0 h.0.2) (parts_found mode ps n h.1)

    branches_found : (mode : AccessMode) (bs : Branches) (n : ℕ) → BranchesOrdered tb n (reach_branches mode tb es bs) → AllByRecursion (IsFound tb) (branch_offsets mode tb es bs)
    branches_found mode NoBranch n h = tt
    branches_found mode (BranchThen k xs t bs) n h =
        let ps = packed_variables tb k xs in
        let fs = laters mode es t ps in
        let g = behind_reaches mode t ps h.0.4.0 (reach mode tb es fs t) h.0.4.2 in
        all_join (offset_of mode es k t ps) (offsets_in mode tb es t ++ branch_offsets mode tb es bs) (own_found mode k t ps h.0.3)
        (all_join (offsets_in mode tb es t) (branch_offsets mode tb es bs) (term_found mode fs t g.0 g.1) (branches_found mode bs n h.1))

functions_found : (mode : AccessMode) (tb : Table) (es : List Ended) (fs : List FunctionTerm) (m : Body)
    → AllByRecursion (λ (b : Body). IsOrdered tb (length b.parameters) b.term) (map (λ (f : FunctionTerm). record { parameters = f.parameters; result = f.result; term = f.body }) (map (reach_function mode tb es) fs) ++ m ∷ [])
    → AllByRecursion (IsFound tb) (flat_map (λ (f : FunctionTerm). offsets_in mode tb es f.body) fs) × IsOrdered tb (length m.parameters) m.term
functions_found mode tb es [] m h = (tt, h.0)
functions_found mode tb es (f ∷ fs) m h =
    let more = functions_found mode tb es fs m h.1 in
    (all_join tb es (offsets_in mode tb es f.body) (flat_map (λ (g : FunctionTerm). offsets_in mode tb es g.body) fs) (term_found tb es mode [] f.body (length f.parameters) h.0) more.0, more.1)

all_found : (mode : AccessMode) (core : CoreTree) → AreOrdered (reach_core mode core) → AllByRecursion (IsFound core.table) (all_offsets mode core)
all_found mode core h =
    let es : List Ended = ended_by mode core in
    let m : Body = record { parameters = core.main.parameter ∷ []; result = Rattle.gib_syntax.specs.Results.One core.main.result; term = reach mode core.table es [] core.main.body } in
    let all = functions_found mode core.table es core.functions m h in
    all_join core.table es (flat_map (λ (f : FunctionTerm). offsets_in mode core.table es f.body) core.functions) (offsets_in mode core.table es core.main.body) all.0 (term_found core.table es mode [] core.main.body 1 all.1)

-- A whole core.
pub offsets_found : (mode : AccessMode) (core : CoreTree) → AreOrdered (reach_core mode core) → AllByRecursion (IsFound (reach_core mode core).table) (reach_core mode core).offsets
offsets_found Skips core h = tt
offsets_found Offsets core h = all_found Offsets core h
offsets_found Ends core h = all_found Ends core h
