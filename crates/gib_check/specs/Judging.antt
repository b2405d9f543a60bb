-- What the check of a body keeps: the types that were met, the variables in scope, and counts.
use Rattle.std.specs.Prelude.{◌≡◌, ℕ, ◌+◌, ◌<◌, ◌≤◌, List, [], ◌∷◌, ◌++◌, map, length, take, drop, Option, Ok}
use Rattle.std.specs.List.{AllByRecursion}
use Rattle.gib_types.specs.declared.types.TypeId.{TypeId}
use Rattle.gib_types.specs.declared.types.TypeNode.{TypeNode}
use Rattle.gib_types.specs.Form.{Form, Forms, Meant}
use Rattle.gib_types.specs.Types.{form_at, forms_at, forms_of, AreBelow, GrowsTo}
use Rattle.gib_syntax.specs.declared.written.Word.{Word}
use Rattle.gib_syntax.specs.declared.exprs.Arm.{Arm}
use Rattle.gib_syntax.specs.Results.{Results, One, Several}
use Rattle.gib_syntax.specs.Forms.{formed, assign}
use Rattle.gib_syntax.specs.Words.{stack_of}
use Rattle.gib_syntax.specs.GenericTree.{GenericExpression, GenericGlobals}
use Rattle.gib_syntax.specs.GenericTyping.{FormScope, opaque}
use Rattle.gib_types.specs.declared.types.TypeNode.TheVariants as t
use Rattle.gib_syntax.specs.declared.generic.GenericNode.{GenericNode}
use Rattle.gib_syntax.specs.declared.generic.GenericNode.TheVariants as n
use Rattle.gib_check.specs.declared.counts.Counts.{Counts}
use Rattle.gib_check.specs.declared.rules.Part.{Part}
use Rattle.gib_check.specs.declared.rules.ResultIds.{ResultIds}
use Rattle.gib_check.specs.declared.rules.ResultIds.TheVariants as ids
use Rattle.gib_check.specs.declared.standing.Standing.{Standing}
use Rattle.gib_check.specs.declared.reading.Meaning.{Meaning}
use Rattle.gib_check.specs.declared.reading.Meaning.TheVariants as meaning
use Rattle.gib_check.specs.Faults.{Checked, and_then, FormPart, place, ArmHead, infer, infer_arm}
use Rattle.gib_check.specs.InScope.{ScopeOf, newest}

-- Variables with the numbers of their types, the newest first.
abbrev pub IdScope : Type 0
IdScope = ScopeOf TypeId

-- The number of a variable's type.
abbrev pub id_in : IdScope → ℕ → Option TypeId
id_in scope x = newest scope x

-- All numbers are below a number.
abbrev pub IsScopeBelow : ℕ → IdScope → Type 0
IsScopeBelow n scope = AllByRecursion (λ (b : ℕ × TypeId). b.1.0 < n) scope

-- A variable with its type, where numbers stand for these types.
abbrev pub form_of_bound : List Form → ℕ × TypeId → ℕ × Form
form_of_bound fs b = (b.0, form_at fs b.1.0)

-- The scope that it is.
abbrev pub scope_forms : List Form → IdScope → FormScope
scope_forms fs scope = map (form_of_bound fs) scope

-- What is kept.
pub record Judging : Type 0 where
  pub types : List TypeNode
  pub parts : List TypeId
  pub scope : IdScope
  pub counts : Counts

-- The types that numbers stand for.
abbrev pub forms : Judging → List Form
forms s = forms_of s.types

-- The variables in scope with their types.
abbrev pub in_scope : Judging → FormScope
in_scope s = scope_forms (forms s) s.scope

-- Numbers stand for what they stood for.
pub record Grows (old new : List TypeNode) : Type 0 where
  pub grows : GrowsTo (forms_of old) (forms_of new)
  pub longer : length old ≤ length new

-- More types were met, and all else is as it was.
pub record Keeps (old new : Judging) : Type 0 where
  pub grows : Grows old.types new.types
  pub parts : new.parts ≡ old.parts
  pub scope : in_scope new ≡ in_scope old
  pub counts : new.counts ≡ old.counts

-- A number stands for a type that was met.
pub record Meets (old new : List TypeNode) (id : TypeId) (f : Form) : Type 0 where
  pub grows : Grows old new
  pub below : id.0 < length new
  pub form : form_at (forms_of new) id.0 ≡ f

-- The types of these numbers.
abbrev pub listed : List Form → List TypeId → List Form
listed fs is = map (λ (i : TypeId). form_at fs i.0) is

-- What type variables stand for.
abbrev pub meant_by : List Form → Meaning → Meant
meant_by fs meaning.Opaque = opaque
meant_by fs (meaning.Given vs is) = assign vs.items (forms_at fs is.items)

-- All types that type variables stand for have numbers below a number.
abbrev pub IsMeaningBelow : ℕ → Meaning → Type 0
IsMeaningBelow n meaning.Opaque = Unit {0}
IsMeaningBelow n (meaning.Given vs is) = AreBelow n is.items

-- Words were read as types.
pub record Reads (old new : List TypeNode) (m : Meant) (words : List Word) (ids : List TypeId) : Type 0 where
  pub grows : Grows old new
  pub below : AreBelow (length new) ids
  pub types : listed (forms_of new) ids ≡ map (formed m) (stack_of words)

-- The types of a run of parts.
abbrev pub run_of : Judging → ℕ → ℕ → List TypeId
run_of s start count = take count (drop start s.parts)

-- The type of what an expression gives, or those of its parts.
abbrev pub forms_given : Judging → ResultIds → Results Form
forms_given s (ids.One id) = One (form_at (forms s) id.0)
forms_given s (ids.Several start count) = Several (listed (forms s) (run_of s start count))

-- The numbers of the types of what an expression gives: of the one thing, or of the parts.
abbrev pub ids_of : Judging → ResultIds → List TypeId
ids_of s (ids.One id) = id ∷ []
ids_of s (ids.Several start count) = run_of s start count

-- They were met.
abbrev pub AreMet : Judging → ResultIds → Type 0
AreMet s (ids.One id) = id.0 < length s.types
AreMet s (ids.Several start count) = (start + count ≤ length s.parts) × AreBelow (length s.types) (run_of s start count)

-- A part with its type, or those of its parts.
abbrev pub part_in : Judging → Part → FormPart
part_in s part = record { ty = forms_given s part.ty; place = part.place }

-- Parts with their types.
abbrev pub parts_in : Judging → List Part → List FormPart
parts_in s parts = map (part_in s) parts

-- Their types were met.
abbrev pub ArePartsMet : Judging → List Part → Type 0
ArePartsMet s parts = AllByRecursion (λ (part : Part). AreMet s part.ty) parts

-- More types and more parts were met.
pub record Advances (old new : Judging) : Type 0 where
  pub types : Grows old.types new.types
  pub more : List TypeId
  pub parts : new.parts ≡ old.parts ++ more

-- An expression after its check.
pub record Met (old new : Judging) (given : ResultIds) : Type 0 where
  pub advances : Advances old new
  pub here : AreMet new given

-- Parts after their check.
pub record AllMet (old new : Judging) (parts : List Part) : Type 0 where
  pub advances : Advances old new
  pub here : ArePartsMet new parts

-- An arm without its expression.
abbrev pub arm_head : Arm → ArmHead
arm_head arm = record { constructor = arm.constructor; variables = arm.variables.items }

-- The results of arms, in the order of the text, where the type's variables stand for these types.
abbrev pub infer_each_arm : GenericGlobals → List ℕ → Standing → Forms → (ℕ → GenericExpression) → FormScope → Counts → List Arm → Checked (List FormPart × Counts)
infer_each_arm g vars st ts f scope n [] = Ok ([], n)
infer_each_arm g vars st ts f scope n (arm ∷ arms) =
    and_then (infer_arm g.rows ts scope n arm.constructor arm.variables.items (λ inner m. infer g vars opaque st inner m (f arm.body.0)))
    (λ x. and_then (infer_each_arm g vars st ts f scope x.1 arms)
    (λ r. Ok (record { ty = x.0; place = place (f arm.body.0) } ∷ r.0, r.1)))

-- Families of nodes.
pub data Family : Type 0 where
  -- its parts are checked in the scope where it stands
  Plain : Family
  -- variables are bound
  Binding : Family
  -- there are several ways on
  Choosing : Family

-- The family of a node.
abbrev pub family_of : GenericNode → Family
family_of (n.Variable x) = Plain
family_of (n.Whole p v) = Plain
family_of (n.Truth p b) = Plain
family_of (n.Paren p a) = Plain
family_of (n.Operation p f a b) = Plain
family_of (n.Call f ws xs) = Plain
family_of (n.Make k ws xs) = Plain
family_of (n.Let p xs a b) = Binding
family_of (n.LetPar p l r b) = Binding
family_of (n.If p a b c) = Choosing
family_of (n.Case p x arms) = Choosing
family_of (n.Tuple p xs) = Plain

-- The type is `Int` or `Bool`.
abbrev pub IsClosed : TypeNode → Type 0
IsClosed t.Whole = Unit {0}
IsClosed t.Truth = Unit {0}
IsClosed (t.Variable x) = ⊥
IsClosed (t.Data x is) = ⊥
