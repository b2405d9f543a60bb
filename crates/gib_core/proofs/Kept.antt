-- A line that breaks no rule where each field counts as reached breaks none in the core whose fields are reached, where what it
-- uses is reached.
use Rattle.std.proofs.Common.{◌≡◌, ℕ, Bool, true, false, not, ◌&&◌, ◌||◌, List, [], ◌∷◌, ◌++◌, map, Some, None, refl, sym, ap, ◌∙◌}
use Rattle.std.proofs.lemmas.Bool.{eq-eqb, not-false, and_from, and_parts, or_parts, or_from, or_left, or_right}
use Rattle.gib_base.specs.declared.name.Name.{Name}
use Rattle.gib_types.specs.declared.table.Ty.{Ty}
use Rattle.gib_types.specs.declared.table.ConId.{ConId}
use Rattle.gib_types.specs.Table.{Table}
use Rattle.gib_types.specs.declared.operator.Operator.{Operator}
use Rattle.gib_core.specs.declared.atom.Variable.{Variable}
use Rattle.gib_core.specs.declared.atom.Atom.{Atom}
use Rattle.gib_core.specs.declared.atom.Atom.TheVariants as atomic
use Rattle.gib_core.specs.declared.atom.AccessMode.{AccessMode}
use Rattle.gib_core.specs.declared.atom.Kind.{Kind}
use Rattle.gib_core.specs.declared.atom.Kind.TheVariants.{Here, Region, Scalar}
use Rattle.gib_core.specs.Tree.{FunctionTerm, CoreTree}
use Rattle.gib_core.specs.Meaning.{function_at}
use Rattle.gib_core.specs.Met.{Known, Setting, Line, PastLine, SideLine, PrimLine, WriteLine, PointLine, CallLine, GiveLine, CaseLine, IfLine, SeveralLine, TupleLine}
use Rattle.gib_core.specs.Reaching.{is_variable, has_variable, ended_by, reach, reach_function, reach_core}
use Rattle.gib_core.specs.Ending.{Ended}
use Rattle.gib_core.specs.Rules.{Before, is_bound, is_usable, all_usable, gives_packed, call_fits, any_bound, arm_variables, rules, least}
use Rattle.gib_core.specs.Reachable.{all_reached}
use Rattle.gib_core.proofs.Remade.{all_of, at_remade}
use Rattle.gib_core.proofs.Along.{none_broken, least_none}
use Rattle.gib_core.proofs.Cased.{reached_where_has}
use Rattle.gib_core.proofs.Skipped.{Serves}

-- A setting with another scope.
abbrev pub scoped : Setting → List Known → Setting
scoped s ks = record s { scope = ks }

usable_kept : (s : Setting) (ks : List Known) (x : Atom) → Serves (λ v. is_variable v x) s.scope ks → is_usable (all_reached s) x ≡ true → is_usable (scoped s ks) x ≡ true
usable_kept s ks (atomic.Variable x) h e = h x (eq-eqb x.0 x.0 refl) (sym (reached_where_has s.scope x) ∙ e)
usable_kept s ks (atomic.Whole z) h e = refl
usable_kept s ks (atomic.Truth t) h e = refl

all_kept : (s : Setting) (ks : List Known) (xs : List Atom) → Serves (λ v. has_variable v xs) s.scope ks → all_usable (all_reached s) xs ≡ true → all_usable (scoped s ks) xs ≡ true
all_kept s ks [] h e = refl
all_kept s ks (x ∷ xs) h e =
    let parts = and_parts (is_usable (all_reached s) x) (all_usable (all_reached s) xs) e in
    and_from (is_usable (scoped s ks) x) (all_usable (scoped s ks) xs)
    (usable_kept s ks x (λ v u. h v (or_left (is_variable v x) (has_variable v xs) u)) parts.0)
    (all_kept s ks xs (λ v u. h v (or_right (is_variable v x) (has_variable v xs) u)) parts.1)

variable_append : (v : Variable) (xs ys : List Atom) → has_variable v (xs ++ ys) ≡ (has_variable v xs || has_variable v ys)
variable_append v [] ys = refl
variable_append v (x ∷ xs) ys = go (is_variable v x) (variable_append v xs ys)
  where
    go : (b : Bool) → has_variable v (xs ++ ys) ≡ (has_variable v xs || has_variable v ys) → (b || has_variable v (xs ++ ys)) ≡ ((b || has_variable v xs) || has_variable v ys)
    go true e = refl
    go false e = e

-- A function has the same type as before.

packed_same : (mode : AccessMode) (tb : Table) (es : List Ended) (fs : List FunctionTerm) (f : ℕ) → gives_packed (function_at (map (reach_function mode tb es) fs) f) ≡ gives_packed (function_at fs f)
packed_same mode tb es fs f = at_remade (λ b. reach mode tb es [] b.term) gives_packed gives_packed refl fs f (all_of (λ (g : FunctionTerm). gives_packed (Some (reach_function mode tb es g)) ≡ gives_packed (Some g)) (λ g. refl) fs)

fits_same : (mode : AccessMode) (tb : Table) (es : List Ended) (b : Before) (s : Setting) (ks : List Known) (xs : List Atom) (fs : List FunctionTerm) (f : ℕ)
    → call_fits b (scoped s ks) xs (function_at (map (reach_function mode tb es) fs) f) ≡ call_fits b (all_reached s) xs (function_at fs f)
fits_same mode tb es b s ks xs fs f =
    at_remade (λ q. reach mode tb es [] q.term) (call_fits b (all_reached s) xs) (call_fits b (scoped s ks) xs) refl fs f
    (all_of (λ (g : FunctionTerm). call_fits b (scoped s ks) xs (Some (reach_function mode tb es g)) ≡ call_fits b (all_reached s) xs (Some g)) (λ g. refl) fs)

module _ (mode : AccessMode) (core : CoreTree) (b : Before) (s : Setting) (ks : List Known) where
  -- A line breaks no rule of the core whose fields are reached.
  abbrev pub IsFine : Line → Type 0
  IsFine line = least (rules (reach_core mode core) b (scoped s ks) line) ≡ None

  -- A line breaks no rule where each field counts as reached.
  abbrev pub IsGiven : Line → Type 0
  IsGiven line = least (rules core b (all_reached s) line) ≡ None

  pub past_kept : (h : Variable) (k : ConId) → IsGiven (PastLine h k) → IsFine (PastLine h k)
  past_kept h k e = e

  pub side_kept : (kind : Kind) (x : Variable) (ty : Ty) → IsGiven (SideLine kind x ty) → IsFine (SideLine kind x ty)
  side_kept Here x ty e = e
  side_kept Region x ty e = e
  side_kept Scalar x ty e = e

  pub prim_kept : (x : Variable) (f : Operator) (y z : Atom) → Serves (λ v. is_variable v y || is_variable v z) s.scope ks → IsGiven (PrimLine x f y z) → IsFine (PrimLine x f y z)
  prim_kept x f y z h e =
      let n = none_broken (rules core b (all_reached s) (PrimLine x f y z)) e in
      let xs = y ∷ z ∷ [] in
      let parts = or_parts (is_bound b.bound x) (not (all_usable (all_reached s) xs)) n.1.0 in
      least_none (rules (reach_core mode core) b (scoped s ks) (PrimLine x f y z)) (
        n.0,
        (
          or_from (is_bound b.bound x) (not (all_usable (scoped s ks) xs)) parts.0
              (ap not (all_kept s ks xs (λ v u. h v (two (is_variable v y) (is_variable v z) u)) (not-false (all_usable (all_reached s) xs) parts.1))),
          (n.1.1.0, tt),
        ),
      )
    where
      two : (p q : Bool) → (p || (q || false)) ≡ true → (p || q) ≡ true
      two true q u = refl
      two false true u = refl
      two false false u = u

  pub write_kept : (h : Variable) (k : ConId) (ss ps : List Atom) → Serves (λ v. has_variable v ss || has_variable v ps) s.scope ks → IsGiven (WriteLine h k ss ps) → IsFine (WriteLine h k ss ps)
  write_kept h k ss ps g e =
      let n = none_broken (rules core b (all_reached s) (WriteLine h k ss ps)) e in
      least_none (rules (reach_core mode core) b (scoped s ks) (WriteLine h k ss ps))
      (n.0, (n.1.0, (ap not (all_kept s ks (ss ++ ps) (λ v u. g v (sym (variable_append v ss ps) ∙ u)) (not-false (all_usable (all_reached s) (ss ++ ps)) n.1.1.0)), (n.1.1.1.0, tt))))

  pub point_kept : (x : Atom) → Serves (λ v. is_variable v x) s.scope ks → IsGiven (PointLine x) → IsFine (PointLine x)
  point_kept x h e =
      let n = none_broken (rules core b (all_reached s) (PointLine x)) e in
      least_none (rules (reach_core mode core) b (scoped s ks) (PointLine x))
      (n.0, (n.1.0, (ap not (usable_kept s ks x h (not-false (is_usable (all_reached s) x) n.1.1.0)), (n.1.1.1.0, tt))))

  pub call_kept : (f : Name) (xs : List Atom) → Serves (λ v. has_variable v xs) s.scope ks → IsGiven (CallLine f xs) → IsFine (CallLine f xs)
  call_kept f xs h e =
      let n = none_broken (rules core b (all_reached s) (CallLine f xs)) e in
      least_none (rules (reach_core mode core) b (scoped s ks) (CallLine f xs)) (
        n.0,
        (
          ap (λ p. p && not (Rattle.gib_core.specs.Rules.is_empty s.destination)) (packed_same mode core.table (ended_by mode core) core.functions f.0) ∙ n.1.0,
          (
            ap not (all_kept s ks xs h (not-false (all_usable (all_reached s) xs) n.1.1.0)),
            (ap not (fits_same mode core.table (ended_by mode core) b s ks xs core.functions f.0) ∙ n.1.1.1.0, tt),
          ),
        ),
      )

  pub give_kept : (x : Atom) → Serves (λ v. is_variable v x) s.scope ks → IsGiven (GiveLine x) → IsFine (GiveLine x)
  give_kept x h e =
      let n = none_broken (rules core b (all_reached s) (GiveLine x)) e in
      least_none (rules (reach_core mode core) b (scoped s ks) (GiveLine x))
      (n.0, (ap not (usable_kept s ks x h (not-false (is_usable (all_reached s) x) n.1.0)), (n.1.1.0, tt)))

  pub case_kept : (x : Atom) (arms : List (ConId × List Variable)) → Serves (λ v. is_variable v x) s.scope ks → IsGiven (CaseLine x arms) → IsFine (CaseLine x arms)
  case_kept x arms h e =
      let n = none_broken (rules core b (all_reached s) (CaseLine x arms)) e in
      let parts = or_parts (not (is_usable (all_reached s) x)) (any_bound (arm_variables arms) [] b.bound) n.1.1.0 in
      least_none (rules (reach_core mode core) b (scoped s ks) (CaseLine x arms))
      (n.0, (n.1.0, (or_from (not (is_usable (scoped s ks) x)) (any_bound (arm_variables arms) [] b.bound) (ap not (usable_kept s ks x h (not-false (is_usable (all_reached s) x) parts.0))) parts.1, tt)))

  pub if_kept : (x : Atom) → Serves (λ v. is_variable v x) s.scope ks → IsGiven (IfLine x) → IsFine (IfLine x)
  if_kept x h e =
      let n = none_broken (rules core b (all_reached s) (IfLine x)) e in
      least_none (rules (reach_core mode core) b (scoped s ks) (IfLine x))
      (n.0, (ap not (usable_kept s ks x h (not-false (is_usable (all_reached s) x) n.1.0)), (n.1.1.0, tt)))

  pub several_kept : (xs : List Variable) (tys : List Ty) → IsGiven (SeveralLine xs tys) → IsFine (SeveralLine xs tys)
  several_kept xs tys e = e

  pub tuple_kept : (tys : List Ty) (ss : List Atom) (packed : ℕ) → Serves (λ v. has_variable v ss) s.scope ks → IsGiven (TupleLine tys ss packed) → IsFine (TupleLine tys ss packed)
  tuple_kept tys ss packed h e =
      let n = none_broken (rules core b (all_reached s) (TupleLine tys ss packed)) e in
      least_none (rules (reach_core mode core) b (scoped s ks) (TupleLine tys ss packed))
      (n.0, (ap not (all_kept s ks ss h (not-false (all_usable (all_reached s) ss) n.1.0)), (n.1.1.0, (n.1.1.1.0, tt))))
