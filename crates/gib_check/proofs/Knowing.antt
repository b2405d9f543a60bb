-- What is known of expressions, one after another.
use Rattle.std.proofs.Common.{◌≡◌, ℕ, zero, suc, ◌<◌, ◌≤◌, List, [], ◌∷◌, ◌++◌, map, length, get_or, Some, refl, sym, ap, ◌∙◌, subst, arith, slice_get, ◌⊎◌, inl, inr}
use Rattle.std.proofs.lemmas.Option.{slice_get-get_or, slice_get_read}
use Rattle.gib_base.specs.declared.Span.{Span}
use Rattle.gib_syntax.specs.declared.tree.Ident.{Ident}
use Rattle.gib_syntax.specs.declared.exprs.Arm.{Arm}
use Rattle.gib_syntax.specs.Tree.{Expression, Case}
use Rattle.gib_syntax.specs.Arena.{tree_of, arms_from, case_from}
use Rattle.gib_syntax.specs.Parts.{Parts, program_of}
use Rattle.gib_syntax.specs.Typing.{Globals, globals_of, arm_names}
use Rattle.gib_check.specs.declared.node_facts.NodeFacts.{NodeFacts as Facts}
use Rattle.gib_check.specs.Origins.{origin, outside_arm}
use Rattle.gib_check.specs.Origins.{fields_named}
use Rattle.gib_check.specs.ArmPlaces.{place_named, place_in, case_names, arm_name}
use Rattle.gib_check.specs.NodeFacts.{AreOf, AreFacts}
use Rattle.gib_check.specs.Checked.{IsChecked}

-- The names of the arms of a node.
names_from : (f : ℕ → Expression) (arm : Arm) (arms : List Arm) → arm_names (arms_from f arm arms) ≡ arm_name arm ∷ map arm_name arms
names_from f arm [] = refl
names_from f arm (next ∷ arms) = ap (λ l. arm_name arm ∷ l) (names_from f next arms)

pub names_of_case : (f : ℕ → Expression) (arms : List Arm) (p : Span) (x : Ident) → case_names (case_from f arms (Case p x)) ≡ map arm_name arms
names_of_case f [] p x = refl
names_of_case f (arm ∷ arms) p x = names_from f arm arms

pub known_origin : (g : Globals) (f : ℕ → Expression) (all : List Facts) (id : ℕ) (d : Facts) → id < length all → AreFacts g f all → (get_or all id d).origin ≡ origin g (f id)
known_origin g f all id d lt h = (h.by id (get_or all id d) (slice_get-get_or all id d lt)).origin_is

pub facts_none : (g : Globals) (f : ℕ → Expression) → AreFacts g f []
facts_none g f = record { by = λ id facts e. absurd cc }

-- What stands in a list with one more.
snoc_at : (l : List Facts) (last : Facts) (id : ℕ) (k : Facts) → slice_get (l ++ last ∷ []) id ≡ Some k → (slice_get l id ≡ Some k) ⊎ ((id ≡ length l) × (last ≡ k))
snoc_at [] last zero k e = inr (refl, (let same : last ≡ k = cc in same))
snoc_at [] last (suc id) k e = absurd cc
snoc_at (j ∷ l) last zero k e = inl e
snoc_at (j ∷ l) last (suc id) k e = elim (snoc_at l last id k e) [ inl h ↦ inl h | inr h ↦ inr (ap suc h.0, h.1) ]

pub facts_more : (g : Globals) (f : ℕ → Expression) (all longer : List Facts) (facts : Facts) (id : ℕ) → AreFacts g f all → longer ≡ all ++ facts ∷ [] → length all ≡ id → facts.origin ≡ origin g (f id) → ((con : ℕ) → place_in facts.arms con ≡ place_named g.table (case_names (f id)) con) → AreFacts g f longer
facts_more g f all longer facts id h e l o a = subst (λ z. AreFacts g f z) (sym e) (record { by = λ n k is. go n k (snoc_at all facts n k is) }) where
  go : (n : ℕ) (k : Facts) → (slice_get all n ≡ Some k) ⊎ ((n ≡ length all) × (facts ≡ k)) → AreOf g (f n) k
  go n k (inl is) = h.by n k is
  go n k (inr p) = subst (λ z. AreOf g (f z) k) (sym (p.0 ∙ l)) (subst (λ (z : Facts). AreOf g (f id) z) p.1 (record { origin_is = o; places = a }))

first_origin : (g : Globals) (f : ℕ → Expression) (arm : Arm) (arms : List Arm) (p : Span) (x : Ident) → origin g (case_from f (arm ∷ arms) (Case p x)) ≡ outside_arm arm.variables.items (fields_named g.table arm.constructor) (origin g (f arm.body.0))
first_origin g f arm [] p x = refl
first_origin g f arm (next ∷ arms) p x = refl

-- The type of a case comes from its first arm.
pub case_origin_is : (g : Globals) (f : ℕ → Expression) (arms : List Arm) (first : Arm) (p : Span) (x : Ident) → 1 ≤ length arms → first ≡ get_or arms 0 first → origin g (case_from f arms (Case p x)) ≡ outside_arm first.variables.items (fields_named g.table first.constructor) (origin g (f first.body.0))
case_origin_is g f [] first p x l e = absurd (omega (arith, l))
case_origin_is g f (arm ∷ arms) first p x l e = subst (λ (z : Arm). origin g (case_from f (arm ∷ arms) (Case p x)) ≡ outside_arm z.variables.items (fields_named g.table z.constructor) (origin g (f z.body.0))) (sym e) (first_origin g f arm arms p x)

-- What is known of an expression of a checked program.
pub facts_at : (parts now : Parts) (all : List Facts) (id : ℕ) (k : Facts) → IsChecked parts all → parts ≡ now → id < length now.exprs → k ≡ get_or all id k → AreOf (globals_of (program_of now)) (tree_of now.exprs id) k
facts_at parts now all id k h e lt at =
    subst (λ (p : Parts). AreOf (globals_of (program_of p)) (tree_of p.exprs id) k) e
    (h.known.by id k (slice_get_read all (length all) id k refl (let l = h.all in let m = ap (λ (p : Parts). length p.exprs) e in omega (arith, lt, l, m)) at))
