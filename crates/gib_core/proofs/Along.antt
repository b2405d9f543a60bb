-- Lines one behind another: what holds of both parts, and what they bind.
use Rattle.std.proofs.Common.{◌≡◌, ◌⊎◌, inl, inr, Bool, true, false, ◌==◌, ◌||◌, ◌&&◌, if◌then◌else◌, List, [], ◌∷◌, ◌++◌, Some, None, refl, sym, ap, ◌∙◌}
use Rattle.std.proofs.lemmas.Bool.{eqb-true, eq-eqb, both_ways, or_parts, or_from, or_right, or_cases, false_from_ne_true}
use Rattle.gib_types.specs.declared.table.Ty.{Ty}
use Rattle.gib_types.specs.declared.table.ConId.{ConId}
use Rattle.gib_types.specs.Table.{Table, fields_at}
use Rattle.gib_core.specs.declared.atom.Variable.{Variable}
use Rattle.gib_core.specs.declared.atom.Kind.TheVariants.{Here, Region, Scalar}
use Rattle.gib_core.specs.declared.atom.Atom.{Atom}
use Rattle.gib_core.specs.Tree.{Bind, CoreTree}
use Rattle.gib_core.specs.Met.{Setting, behind, met_bind, Line, PastLine, SideLine, ParLine, PrimLine, ReachLine, WriteLine, PointLine, CallLine, GiveLine, CaseLine, IfLine, SeveralLine, TupleLine, PartLine, Met}
use Rattle.gib_core.specs.Rules.{Bound, Before, Judgement, is_among, are_variables, is_bound, bind_fields, bind_arms, any_bound, arm_variables, rules, least, binds_new, next, next_all, LinesAreBuilt}
use Rattle.gib_core.specs.Inferring.{as_atoms, first_type, further_types}
use Rattle.gib_core.specs.Reachable.{all_reached, LinesAreReachable}

pub same_variable : (x y : Variable) → (x.0 == y.0) ≡ true → x ≡ y
same_variable x y e = λ i. record { 0 = eqb-true x.0 y.0 e i }

-- What tells two variables apart, once it is known of the one and not of the other.
pub apart : (f : Variable → Bool) (x y : Variable) → f x ≡ false → f y ≡ true → (x.0 == y.0) ≡ false
apart f x y e h = false_from_ne_true (x.0 == y.0) (λ same. both_ways (f y) (sym (ap f (same_variable x y same)) ∙ e) h)

pub differ_back : (x y : Variable) → (x.0 == y.0) ≡ false → (y.0 == x.0) ≡ false
differ_back x y e = false_from_ne_true (y.0 == x.0) (λ same. both_ways (x.0 == y.0) e (eq-eqb x.0 y.0 (sym (eqb-true y.0 x.0 same))))

-- The rules of a line that breaks none.

abbrev pub NoneBroken : List Judgement → Type 0
NoneBroken [] = Unit {0}
NoneBroken (r ∷ rs) = (r.1 ≡ false) × NoneBroken rs

pub none_broken : (rs : List Judgement) → least rs ≡ None → NoneBroken rs
none_broken [] e = tt
none_broken (r ∷ rs) e = let h = go r.1 e in (h.0, none_broken rs h.1)
  where
    go : (b : Bool) → (if b then Some r.0 else least rs) ≡ None → (b ≡ false) × (least rs ≡ None)
    go true q = absurd cc
    go false q = (refl, q)

pub least_none : (rs : List Judgement) → NoneBroken rs → least rs ≡ None
least_none [] h = refl
least_none (r ∷ rs) h = ap (λ b. if b then Some r.0 else least rs) h.0 ∙ least_none rs h.1

-- Bindings one behind another: what stands behind them, and their lines.

abbrev pub behind_all : Setting → List Bind → Setting
behind_all s [] = s
behind_all s (b ∷ bs) = behind_all (behind s b) bs

abbrev pub met_all : Table → Setting → List Bind → List Met
met_all table s [] = []
met_all table s (b ∷ bs) = met_bind table s b ++ met_all table (behind s b) bs

-- Lines in two parts.

pub next_append : (tb : Table) (b : Before) (xs ys : List Met) → next_all tb b (xs ++ ys) ≡ next_all tb (next_all tb b xs) ys
next_append tb b [] ys = refl
next_append tb b (m ∷ xs) ys = next_append tb (next tb b m.line) xs ys

module _ (core : CoreTree) where
  pub built_append : (b : Before) (xs ys : List Met) → LinesAreBuilt core b xs → LinesAreBuilt core (next_all core.table b xs) ys → LinesAreBuilt core b (xs ++ ys)
  built_append b [] ys h k = k
  built_append b (m ∷ xs) ys h k = (h.0, built_append (next core.table b m.line) xs ys h.1 k)

  pub reachable_append : (b : Before) (xs ys : List Met) → LinesAreReachable core b xs → LinesAreReachable core (next_all core.table b xs) ys → LinesAreReachable core b (xs ++ ys)
  reachable_append b [] ys h k = k
  reachable_append b (m ∷ xs) ys h k = (h.0, reachable_append (next core.table b m.line) xs ys h.1 k)

  pub reachable_split : (b : Before) (xs ys : List Met) → LinesAreReachable core b (xs ++ ys) → LinesAreReachable core b xs × LinesAreReachable core (next_all core.table b xs) ys
  reachable_split b [] ys h = (tt, h)
  reachable_split b (m ∷ xs) ys h =
      let r = reachable_split (next core.table b m.line) xs ys h.1 in
      ((h.0, r.0), r.1)

-- Variables among others.

pub among_append : (xs ys : List Variable) (y : Variable) → is_among (xs ++ ys) y ≡ (is_among xs y || is_among ys y)
among_append [] ys y = refl
among_append (x ∷ xs) ys y = go (x.0 == y.0) (among_append xs ys y)
  where
    go : (b : Bool) → is_among (xs ++ ys) y ≡ (is_among xs y || is_among ys y) → (b || is_among (xs ++ ys) y) ≡ ((b || is_among xs y) || is_among ys y)
    go true e = refl
    go false e = e

-- Variables are those that stand as their atoms.
pub own_atoms : (xs : List Variable) → are_variables xs (as_atoms xs) ≡ true
own_atoms [] = refl
own_atoms (x ∷ xs) = λ i. eq-eqb x.0 x.0 refl i && own_atoms xs i

-- The variables of a list differ from each other.
abbrev pub AreDistinct : List Variable → Type 0
AreDistinct [] = Unit {0}
AreDistinct (x ∷ xs) = (is_among xs x ≡ false) × AreDistinct xs

-- None of the variables was bound, nor is among these others.
unbound : (xs seen : List Variable) (bound : List Bound) (y : Variable) → any_bound xs seen bound ≡ false → is_among xs y ≡ true → (is_bound bound y ≡ false) × (is_among seen y ≡ false)
unbound [] seen bound y e h = absurd cc
unbound (x ∷ xs) seen bound y e h = go (or_cases (x.0 == y.0) (is_among xs y) h) (unbound xs (x ∷ seen) bound y parts.1)
  where
    parts : ((is_bound bound x || is_among seen x) ≡ false) × (any_bound xs (x ∷ seen) bound ≡ false)
    parts = or_parts (is_bound bound x || is_among seen x) (any_bound xs (x ∷ seen) bound) e

    go : ((x.0 == y.0) ≡ true) ⊎ (is_among xs y ≡ true) → (is_among xs y ≡ true → (is_bound bound y ≡ false) × ((x.0 == y.0 || is_among seen y) ≡ false)) → (is_bound bound y ≡ false) × (is_among seen y ≡ false)
    go (inl same) more' = or_parts (is_bound bound y) (is_among seen y) (ap (λ (v : Variable). is_bound bound v || is_among seen v) (sym (same_variable x y same)) ∙ parts.0)
    go (inr later) more' = let r = more' later in (r.0, (or_parts (x.0 == y.0) (is_among seen y) r.1).1)

pub arms_unbound : (xs : List Variable) (bound : List Bound) (y : Variable) → any_bound xs [] bound ≡ false → is_among xs y ≡ true → is_bound bound y ≡ false
arms_unbound xs bound y e h = (unbound xs [] bound y e h).0

pub arms_distinct : (xs seen : List Variable) (bound : List Bound) → any_bound xs seen bound ≡ false → AreDistinct xs
arms_distinct [] seen bound e = tt
arms_distinct (x ∷ xs) seen bound e =
    let rest = (or_parts (is_bound bound x || is_among seen x) (any_bound xs (x ∷ seen) bound) e).1 in
    (false_from_ne_true (is_among xs x) (λ h. both_ways (x.0 == x.0) (or_parts (x.0 == x.0) (is_among seen x) (unbound xs (x ∷ seen) bound x rest h).1).0 (eq-eqb x.0 x.0 refl)), arms_distinct xs (x ∷ seen) bound rest)

pub distinct_split : (xs ys : List Variable) → AreDistinct (xs ++ ys) → AreDistinct xs × AreDistinct ys × ((y : Variable) → is_among ys y ≡ true → is_among xs y ≡ false)
distinct_split [] ys h = (tt, h, λ y m. refl)
distinct_split (x ∷ xs) ys h =
    let r = distinct_split xs ys h.1 in
    let e = or_parts (is_among xs x) (is_among ys x) (sym (among_append xs ys x) ∙ h.0) in
    ((e.0, r.0), r.1, λ y m. or_from (x.0 == y.0) (is_among xs y) (apart (is_among ys) x y e.1 m) (r.2 y m))

-- What lines bind.

-- A line binds a variable.
abbrev pub line_binds : Line → Variable → Bool
line_binds (PastLine h k) y = h.0 == y.0
line_binds (SideLine kind x ty) y = x.0 == y.0
line_binds ParLine y = false
line_binds (PrimLine x f v w) y = x.0 == y.0
line_binds (ReachLine x by) y = false
line_binds (WriteLine h k ss ps) y = false
line_binds (PointLine x) y = false
line_binds (CallLine f xs) y = false
line_binds (GiveLine x) y = false
line_binds (CaseLine x arms) y = is_among (arm_variables arms) y
line_binds (IfLine x) y = false
line_binds (SeveralLine xs tys) y = is_among xs y
line_binds (TupleLine tys ss packed) y = false
line_binds PartLine y = false

-- None of the lines binds a variable.
abbrev pub NoneBinds : Variable → List Met → Type 0
NoneBinds y [] = Unit {0}
NoneBinds y (m ∷ ms) = (line_binds m.line y ≡ false) × NoneBinds y ms

pub none_split : (y : Variable) (xs ys : List Met) → NoneBinds y (xs ++ ys) → NoneBinds y xs × NoneBinds y ys
none_split y [] ys h = (tt, h)
none_split y (m ∷ xs) ys h = let r = none_split y xs ys h.1 in ((h.0, r.0), r.1)

fields_bound : (xs : List Variable) (types : List Ty) (bound : List Bound) (y : Variable) → is_bound (bind_fields xs types bound) y ≡ (is_among xs y || is_bound bound y)
fields_bound [] types bound y = refl
fields_bound (x ∷ xs) types bound y =
    fields_bound xs (further_types types) (record { variable = x; ty = first_type types } ∷ bound) y ∙ go (is_among xs y) (x.0 == y.0)
  where
    go : (a b : Bool) → (a || (b || is_bound bound y)) ≡ ((b || a) || is_bound bound y)
    go true true = refl
    go true false = refl
    go false true = refl
    go false false = refl

arms_bound : (tb : Table) (arms : List (ConId × List Variable)) (bound : List Bound) (y : Variable) → is_bound (bind_arms tb arms bound) y ≡ (is_among (arm_variables arms) y || is_bound bound y)
arms_bound tb [] bound y = refl
arms_bound tb (arm ∷ arms) bound y =
    arms_bound tb arms (bind_fields arm.1 (fields_at tb arm.0.0) bound) y
    ∙ ap (λ b. is_among (arm_variables arms) y || b) (fields_bound arm.1 (fields_at tb arm.0.0) bound y)
    ∙ go (is_among (arm_variables arms) y) (is_among arm.1 y)
    ∙ ap (λ b. b || is_bound bound y) (sym (among_append arm.1 (arm_variables arms) y))
  where
    go : (a b : Bool) → (a || (b || is_bound bound y)) ≡ ((b || a) || is_bound bound y)
    go true true = refl
    go true false = refl
    go false true = refl
    go false false = refl

pub line_bound : (tb : Table) (line : Line) (bound : List Bound) (y : Variable) → is_bound (binds_new tb line bound) y ≡ (line_binds line y || is_bound bound y)
line_bound tb (PastLine h k) bound y = refl
line_bound tb (SideLine kind x ty) bound y = refl
line_bound tb ParLine bound y = refl
line_bound tb (PrimLine x f v w) bound y = refl
line_bound tb (ReachLine x by) bound y = refl
line_bound tb (WriteLine h k ss ps) bound y = refl
line_bound tb (PointLine x) bound y = refl
line_bound tb (CallLine f xs) bound y = refl
line_bound tb (GiveLine x) bound y = refl
line_bound tb (CaseLine x arms) bound y = arms_bound tb arms bound y
line_bound tb (IfLine x) bound y = refl
line_bound tb (SeveralLine xs tys) bound y = fields_bound xs tys bound y
line_bound tb (TupleLine tys ss packed) bound y = refl
line_bound tb PartLine bound y = refl

-- What was bound stays bound.
pub stays_bound : (tb : Table) (ms : List Met) (b : Before) (y : Variable) → is_bound b.bound y ≡ true → is_bound (next_all tb b ms).bound y ≡ true
stays_bound tb [] b y h = h
stays_bound tb (m ∷ ms) b y h = stays_bound tb ms (next tb b m.line) y (line_bound tb m.line b.bound y ∙ or_right (line_binds m.line y) (is_bound b.bound y) h)

-- What is not bound behind lines is bound by none of them.
pub never_bound : (tb : Table) (ms : List Met) (b : Before) (y : Variable) → is_bound (next_all tb b ms).bound y ≡ false → NoneBinds y ms
never_bound tb [] b y h = tt
never_bound tb (m ∷ ms) b y h = (
  false_from_ne_true (line_binds m.line y) (λ binds. both_ways (is_bound (next_all tb b (m ∷ ms)).bound y) h
      (stays_bound tb ms (next tb b m.line) y (line_bound tb m.line b.bound y ∙ ap (λ c. c || is_bound b.bound y) binds))),
  never_bound tb ms (next tb b m.line) y h,
)

module _ (core : CoreTree) where
  line_new : (b : Before) (s : Setting) (line : Line) (y : Variable) → least (rules core b s line) ≡ None → is_bound b.bound y ≡ true → line_binds line y ≡ false
  line_new b s (PastLine h k) y e known = apart (is_bound b.bound) h y (none_broken (rules core b s (PastLine h k)) e).1.0 known
  line_new b s (SideLine Here x ty) y e known = apart (is_bound b.bound) x y (none_broken (rules core b s (SideLine Here x ty)) e).1.0 known
  line_new b s (SideLine Region x ty) y e known = apart (is_bound b.bound) x y (none_broken (rules core b s (SideLine Region x ty)) e).1.0 known
  line_new b s (SideLine Scalar x ty) y e known = apart (is_bound b.bound) x y (none_broken (rules core b s (SideLine Scalar x ty)) e).0 known
  line_new b s ParLine y e known = refl
  line_new b s (PrimLine x f v w) y e known = apart (is_bound b.bound) x y (or_parts (is_bound b.bound x) _ (none_broken (rules core b s (PrimLine x f v w)) e).1.0).0 known
  line_new b s (ReachLine x by) y e known = refl
  line_new b s (WriteLine h k ss ps) y e known = refl
  line_new b s (PointLine x) y e known = refl
  line_new b s (CallLine f xs) y e known = refl
  line_new b s (GiveLine x) y e known = refl
  line_new b s (CaseLine x arms) y e known =
      let new = (or_parts _ (any_bound (arm_variables arms) [] b.bound) (none_broken (rules core b s (CaseLine x arms)) e).1.1.0).1 in
      false_from_ne_true (is_among (arm_variables arms) y) (λ h. both_ways (is_bound b.bound y) (arms_unbound (arm_variables arms) b.bound y new h) known)
  line_new b s (IfLine x) y e known = refl
  line_new b s (SeveralLine xs tys) y e known =
      let new = (none_broken (rules core b s (SeveralLine xs tys)) e).0 in
      false_from_ne_true (is_among xs y) (λ h. both_ways (is_bound b.bound y) (arms_unbound xs b.bound y new h) known)
  line_new b s (TupleLine tys ss packed) y e known = refl
  line_new b s PartLine y e known = refl

  -- What was bound is bound by no line again.
  pub bound_once : (b : Before) (ms : List Met) (y : Variable) → LinesAreReachable core b ms → is_bound b.bound y ≡ true → NoneBinds y ms
  bound_once b [] y h known = tt
  bound_once b (m ∷ ms) y h known = (
    line_new b (all_reached m.with) m.line y h.0 known,
    bound_once (next core.table b m.line) ms y h.1 (stays_bound core.table (m ∷ []) b y known),
  )
