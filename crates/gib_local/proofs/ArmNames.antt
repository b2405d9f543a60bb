-- The names of arms, one after another.
use Rattle.std.proofs.Common.{◌≡◌, ℕ, ◌-◌, ◌<◌, ◌≤◌, List, [], ◌∷◌, take, drop, get_or, length, Ok, Err, refl, sym, ap, ◌∙◌, subst, arith}
use Rattle.std.specs.List.{AllByRecursion}
use Rattle.gib_syntax.specs.declared.tree.Ident.{Ident}
use Rattle.gib_check.specs.declared.counts.Counts.{Counts}
use Rattle.gib_check.specs.declared.fault.TypeFault.{TypeFault}
use Rattle.gib_check.specs.Answers.{IsFaultOf}
use Rattle.gib_check.specs.Faults.{Checked, and_then}
use Rattle.gib_check.proofs.Loops.{passed_on, along}
use Rattle.gib_types.specs.Table.{fields_at}
use Rattle.gib_check.proofs.RowLists.{rest-is}
use Rattle.gib_check.proofs.KnownWords.{then_same, then_then}
use Rattle.gib_local_parse.specs.declared.lines.LineArm.{LineArm}
use Rattle.gib_local_parse.specs.Tree.{Line}
use Rattle.gib_local_parse.specs.LineArena.{ArmsBelow, IsArmBelow, arms_from}
use Rattle.gib_local_parse.specs.ReadingTerms.{arms_text}
use Rattle.gib_local.specs.Knowing.{arm, constructor_of}
use Rattle.gib_local.specs.Naming.{Names, Declared, After', as_many, constructor, all_bound, check_line, check_arms}

-- An arm of these, and arms in order.
abbrev pub arm_in : Declared → (ℕ → Line) → LineArm → Names → Counts → Checked Counts
arm_in d f x s n = arm d s n x.constructor x.variables.items (f x.line.0)

abbrev pub check_each : Declared → (ℕ → Line) → List LineArm → Names → Counts → Checked Counts
check_each d f [] s n = Ok n
check_each d f (x ∷ arms) s n = and_then (arm_in d f x s n) (λ m. check_each d f arms s m)

-- A chain of rules with nothing behind it.
and_none : {A : Type 0} (c : Checked A) → c ≡ and_then c (λ x. Ok x)
and_none (Ok x) = refl
and_none (Err e) = refl

-- An arm with what follows it, regrouped.
arm_then : (d : Declared) (s : Names) (n : Counts) (k : Ident) (xs : List Ident) (t : Line) (go : Counts → Checked Counts) → and_then (constructor d.table k) (λ c. and_then (as_many (length xs) (length (fields_at d.table c)) k) (λ _. and_then (all_bound xs s n) (λ r. and_then (check_line d t r.names r.counts) go))) ≡ and_then (arm d s n k xs t) go
arm_then d s n k xs t go =
    sym (then_then (constructor_of d.table k (length xs)) (λ _. and_then (all_bound xs s n) (λ r. check_line d t r.names r.counts)) go
    ∙ then_then (constructor d.table k) (λ c. as_many (length xs) (length (fields_at d.table c)) k) (λ _. and_then (and_then (all_bound xs s n) (λ r. check_line d t r.names r.counts)) go)
    ∙ then_same (constructor d.table k) _ _ (λ c. then_same (as_many (length xs) (length (fields_at d.table c)) k) _ _ (λ _. then_then (all_bound xs s n) (λ r. check_line d t r.names r.counts) go)))

pub arms_are_each : (d : Declared) (f : ℕ → Line) (x : LineArm) (arms : List LineArm) (s : Names) (n : Counts) → check_arms d (arms_from f x arms) s n ≡ check_each d f (x ∷ arms) s n
arms_are_each d f x [] s n =
    then_same (constructor d.table x.constructor) _ _
    (λ c. then_same (as_many (length x.variables.items) (length (fields_at d.table c)) x.constructor) _ _
    (λ _. then_same (all_bound x.variables.items s n) _ _ (λ r. and_none (check_line d (f x.line.0) r.names r.counts))))
    ∙ arm_then d s n x.constructor x.variables.items (f x.line.0) (λ m. Ok m)
arms_are_each d f x (next ∷ arms) s n =
    then_same (constructor d.table x.constructor) _ _
    (λ c. then_same (as_many (length x.variables.items) (length (fields_at d.table c)) x.constructor) _ _
    (λ _. then_same (all_bound x.variables.items s n) _ _
    (λ r. then_same (check_line d (f x.line.0) r.names r.counts) _ _ (λ m. arms_are_each d f next arms s m))))
    ∙ arm_then d s n x.constructor x.variables.items (f x.line.0) (λ m. check_each d f (next ∷ arms) s m)

pub arms_of : (d : Declared) (f : ℕ → Line) (arms : List LineArm) (id : ℕ) (s : Names) (n : Counts) → ArmsBelow arms id → check_arms d (arms_text f arms) s n ≡ check_each d f arms s n
arms_of d f [] id s n h = elim h [ ]
arms_of d f (x ∷ arms) id s n h = arms_are_each d f x arms s n

-- Some of the arms were looked at.
pub record ArmsSoFar (d : Declared) (f : ℕ → Line) (id : ℕ) (start now : After') (arms rest : List LineArm) : Type 0 where
  pub below : AllByRecursion (IsArmBelow id) rest
  pub names : now.names ≡ start.names
  pub read : check_arms d (arms_text f arms) start.names start.counts ≡ check_each d f rest start.names now.counts

all_below : (arms : List LineArm) (id : ℕ) → ArmsBelow arms id → AllByRecursion (IsArmBelow id) arms
all_below [] id h = elim h [ ]
all_below (x ∷ arms) id h = h

pub arms_start : (d : Declared) (f : ℕ → Line) (id : ℕ) (start : After') (arms : List LineArm) → ArmsBelow arms id → ArmsSoFar d f id start start arms arms
arms_start d f id start arms h = record { below = all_below arms id h; names = refl; read = arms_of d f arms id start.names start.counts h }

module _ (d : Declared) (f : ℕ → Line) (id : ℕ) (start now : After') (arms : List LineArm) where
  after_arm : (x : LineArm) (rest : List LineArm) (c : Checked Counts) → ArmsSoFar d f id start now arms (x ∷ rest) → arm_in d f x now.names now.counts ≡ c → check_arms d (arms_text f arms) start.names start.counts ≡ and_then c (λ m. check_each d f rest start.names m)
  after_arm x rest c h e = h.read ∙ ap (λ z. and_then z (λ m. check_each d f rest start.names m)) (ap (λ s. arm_in d f x s now.counts) (sym h.names) ∙ e)

  pub arms_fail : (rest : List LineArm) (x : LineArm) (e : TypeFault) → 1 ≤ length rest → x ≡ get_or rest 0 x → ArmsSoFar d f id start now arms rest → IsFaultOf e (arm_in d f x now.names now.counts) → IsFaultOf e (check_arms d (arms_text f arms) start.names start.counts)
  arms_fail [] x e l q h g = absurd (omega (arith, l))
  arms_fail (y ∷ rest) x e l q h g =
      along e _ _ (after_arm y rest (arm_in d f y now.names now.counts) h refl) (passed_on e _ _ (subst (λ (z : LineArm). IsFaultOf e (arm_in d f z now.names now.counts)) q g))

  pub arms_next : (newer : After') (rest : List LineArm) (x : LineArm) → 1 ≤ length rest → x ≡ get_or rest 0 x → ArmsSoFar d f id start now arms rest → arm_in d f x now.names now.counts ≡ Ok newer.counts → newer.names ≡ now.names → ArmsSoFar d f id start newer arms (take (length rest - 1) (drop 1 rest))
  arms_next newer [] x l q h g s = absurd (omega (arith, l))
  arms_next newer (y ∷ rest) x l q h g s =
      subst (λ z. ArmsSoFar d f id start newer arms z) (sym (rest-is y rest))
      (record { below = h.below.1; names = s ∙ h.names; read = after_arm y rest (Ok newer.counts) h (subst (λ (z : LineArm). arm_in d f z now.names now.counts ≡ Ok newer.counts) q g) })

  pub arm_below : (rest : List LineArm) (x : LineArm) → 1 ≤ length rest → x ≡ get_or rest 0 x → ArmsSoFar d f id start now arms rest → x.line.0 < id
  arm_below [] x l q h = absurd (omega (arith, l))
  arm_below (y ∷ rest) x l q h = subst (λ (z : LineArm). z.line.0 < id) (sym q) h.below.0

  pub arms_stop : (rest : List LineArm) → length rest < 1 → ArmsSoFar d f id start now arms rest → check_arms d (arms_text f arms) start.names start.counts ≡ Ok now.counts
  arms_stop [] l h = h.read
  arms_stop (y ∷ rest) l h = absurd (omega (arith, l))
