-- What copying leaves.
use Rattle.std.specs.Prelude.{◌≡◌, ℕ, ◌+◌, ◌<◌, ◌≤◌, List, [], ◌∷◌, ◌++◌, length, map, take, drop, slice_get, Some}
use Rattle.std.specs.List.{AllByRecursion}
use Rattle.gib_types.specs.Form.{Form, Forms, WholeForm}
use Rattle.gib_types.specs.declared.types.TypeId.{TypeId}
use Rattle.gib_types.specs.Types.{form_at, AreBelow, GrowsTo}
use Rattle.gib_syntax.specs.declared.exprs.ExprId.{ExprId}
use Rattle.gib_syntax.specs.declared.exprs.Arm.{Arm}
use Rattle.gib_syntax.specs.declared.exprs.Node.{Node}
use Rattle.gib_syntax.specs.declared.program.GenericConstructor.{GenericConstructor}
use Rattle.gib_syntax.specs.declared.program.GenericData.{GenericData}
use Rattle.gib_syntax.specs.Arena.{tree_of, Grows, Makes, arguments_from}
use Rattle.gib_syntax.specs.Declarations.{number_of}
use Rattle.gib_syntax.specs.Results.{Results, One, Several, list_results}
use Rattle.gib_syntax.specs.declared.tree.Ident.{Ident}
use Rattle.gib_syntax.specs.declared.tree.Parameter.{Parameter}
use Rattle.gib_check.specs.declared.rules.ResultIds.{ResultIds}
use Rattle.gib_check.specs.declared.rules.ResultIds.TheVariants as ids
use Rattle.gib_syntax.specs.Forms.{formed, assign}
use Rattle.gib_syntax.specs.Words.{stack_of, run_words}
use Rattle.gib_syntax.specs.GenericParts.{GenericParts}
use Rattle.gib_syntax.specs.GenericTree.{GenericExpression, GenericArguments, GenericGlobals, place_named}
use Rattle.gib_syntax.specs.GenericTyping.{FormScope}
use Rattle.gib_mono.specs.declared.copier.Copier.{Copier}
use Rattle.gib_mono.specs.declared.copier.Copied.{Copied}
use Rattle.gib_mono.specs.Copying.{Naming, renamed, copy, copy_all, copy_variables, results_of, forms_of_all, forms_named, bind_forms}
use Rattle.gib_mono.specs.Naming.{naming_of}
use Rattle.gib_mono.specs.Reading.{listed}
use Rattle.gib_mono.specs.Scenes.{forms, meaning, scope_in, names_in, Keeps}
use Rattle.gib_mono.specs.declared.scene.InScope.{InScope}
use Rattle.gib_mono.specs.Sources.{globals_in}

-- How copies are named.
abbrev pub naming : Copier → Naming
naming s = naming_of s.base (names_in s.scene)

-- The types of a run of parts.
abbrev pub run_of : Copier → ℕ → ℕ → List TypeId
run_of s start count = take count (drop start s.parts.items)

-- The type of what an expression gives, or those of its parts.
abbrev pub forms_given : Copier → ResultIds → Results Form
forms_given s (ids.One id) = One (form_at (forms s.scene) id.0)
forms_given s (ids.Several start count) = Several (listed (forms s.scene) (run_of s start count))

-- They were met.
abbrev pub AreMet : Copier → ResultIds → Type 0
AreMet s (ids.One id) = id.0 < length s.scene.types
AreMet s (ids.Several start count) = (start + count ≤ length s.parts.items) × AreBelow (length s.scene.types) (run_of s start count)

-- The variables of names that are bound to what is given, with its types.
abbrev pub variables_given : Copier → List Ident → ResultIds → List Parameter
variables_given s xs given = copy_variables (naming s) xs (list_results (forms_given s given))

-- More parts were met.
pub record MoreParts (old new : Copier) : Type 0 where
  pub more : List TypeId
  pub is : new.parts.items ≡ old.parts.items ++ more

-- Expressions were put, types and parts were met, and nothing else changed.
pub record Stays (old new : Copier) : Type 0 where
  pub keeps : Keeps old.scene new.scene
  pub parts : MoreParts old new
  pub base : new.base ≡ old.base
  pub grows : Grows old.exprs new.exprs

-- A type has a number.
pub record Meets (old new : Copier) (id : TypeId) (f : Form) : Type 0 where
  pub stays : Stays old new
  pub below : id.0 < length new.scene.types
  pub form : form_at (forms new.scene) id.0 ≡ f

-- What gives one thing or several parts of these types was met.
pub record Gives (old new : Copier) (given : ResultIds) (r : Results Form) : Type 0 where
  pub stays : Stays old new
  pub met : AreMet new given
  pub forms : forms_given new given ≡ r

-- Types have numbers.
pub record MeetsAll (old new : Copier) (ids : List TypeId) (fs : List Form) : Type 0 where
  pub stays : Stays old new
  pub below : AreBelow (length new.scene.types) ids
  pub forms : listed (forms new.scene) ids ≡ fs

-- The first of types, `Int` where there is none.
abbrev pub first_form : List Form → Form
first_form [] = WholeForm
first_form (f ∷ fs) = f

-- One more expression was put.
pub record Puts (old new : Copier) (id : ExprId) (node : Node) : Type 0 where
  pub scene : new.scene ≡ old.scene
  pub parts : new.parts ≡ old.parts
  pub base : new.base ≡ old.base
  pub makes : Makes old.exprs new.exprs id.0 node

-- An expression was copied.
pub record Copies (g : GenericGlobals) (old new : Copier) (c : Copied) (e : GenericExpression) : Type 0 where
  pub stays : Stays old new
  pub inside : c.expr.0 < length new.exprs
  pub met : AreMet new c.given
  pub expr : tree_of new.exprs c.expr.0 ≡ copy g (naming old) (meaning old.scene) (scope_in old.scene) e
  pub forms : forms_given new c.given ≡ results_of g (meaning old.scene) (scope_in old.scene) e

-- Arguments were.
pub record CopiesAll (g : GenericGlobals) (old new : Copier) (ids : List ExprId) (es : GenericArguments) : Type 0 where
  pub stays : Stays old new
  pub inside : AllByRecursion (λ (i : ExprId). i.0 < length new.exprs) ids
  pub args : arguments_from (tree_of new.exprs) ids ≡ copy_all g (naming old) (meaning old.scene) (scope_in old.scene) es

-- The parts of a tuple were, with their types.
pub record CopiesTuple (g : GenericGlobals) (old new : Copier) (ids : List ExprId) (types : List TypeId) (es : GenericArguments) : Type 0 where
  pub all : CopiesAll g old new ids es
  pub below : AreBelow (length new.scene.types) types
  pub forms : listed (forms new.scene) types ≡ forms_of_all g (meaning old.scene) (scope_in old.scene) es

-- Variables came into scope.
pub record Binds (old new : Copier) (inner : FormScope) : Type 0 where
  pub puts : Grows old.exprs new.exprs
  pub parts : MoreParts old new
  pub base : new.base ≡ old.base
  pub grows : GrowsTo (forms old.scene) (forms new.scene)
  pub longer : length old.scene.types ≤ length new.scene.types
  pub meaning : meaning new.scene ≡ meaning old.scene
  pub names : names_in new.scene ≡ names_in old.scene
  pub scope : scope_in new.scene ≡ inner
  pub more : List InScope
  pub kept : new.scene.scope ≡ old.scene.scope ++ more

-- Only so many variables stayed in scope.
pub record Leaves (old new : Copier) (len : ℕ) : Type 0 where
  pub scene : new.scene ≡ record old.scene { scope = take len old.scene.scope }
  pub parts : new.parts ≡ old.parts
  pub base : new.base ≡ old.base
  pub exprs : new.exprs ≡ old.exprs

-- The scope of an arm, of a constructor at these types.
abbrev pub arm_scope : GenericGlobals → FormScope → Arm → Forms → FormScope
arm_scope g scope arm ts = bind_forms arm.variables.items (forms_named g.rows (place_named g.rows (number_of arm.constructor)) ts) scope

-- An arm was copied, as from a start.
pub record ArmIs (g : GenericGlobals) (old : Copier) (xs : List Node) (arm from : Arm) (e : GenericExpression) (ts : Forms) : Type 0 where
  pub inside : arm.body.0 < length xs
  pub constructor : arm.constructor ≡ renamed from.constructor ((naming old).constructors (number_of from.constructor) ts)
  pub variables : arm.variables.items ≡ from.variables.items
  pub expr : tree_of xs arm.body.0 ≡ copy g (naming old) (meaning old.scene) (arm_scope g (scope_in old.scene) from ts) e

-- An arm was copied, and gives this.
pub record CopiesArm (g : GenericGlobals) (old new : Copier) (arm : Arm) (given : ResultIds) (from : Arm) (body : GenericExpression) (ts : Forms) : Type 0 where
  pub stays : Stays old new
  pub is : ArmIs g old new.exprs arm from body ts
  pub met : AreMet new given
  pub forms : forms_given new given ≡ results_of g (meaning old.scene) (arm_scope g (scope_in old.scene) from ts) body

-- Arms were, one for each.
abbrev pub ArmsAre : GenericGlobals → (ℕ → GenericExpression) → Copier → List Node → Forms → List Arm → List Arm → Type 0
ArmsAre g f old xs ts [] [] = Unit {0}
ArmsAre g f old xs ts [] (b ∷ bs) = ⊥
ArmsAre g f old xs ts (a ∷ as') [] = ⊥
ArmsAre g f old xs ts (a ∷ as') (b ∷ bs) = ArmIs g old xs a b (f b.body.0) ts × ArmsAre g f old xs ts as' bs

-- Arms were copied behind others.
pub record CopiesArms (g : GenericGlobals) (f : ℕ → GenericExpression) (old new : Copier) (ts : Forms) (before after from : List Arm) : Type 0 where
  pub stays : Stays old new
  pub more : List Arm
  pub whole : after ≡ before ++ more
  pub each : ArmsAre g f old new.exprs ts more from
