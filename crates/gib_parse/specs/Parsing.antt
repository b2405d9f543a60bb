-- What the parser's functions answer, by the reading functions.
use Rattle.std.specs.Prelude.{◌≡◌, ◌<◌, ℕ, Bool, true, List, [], ◌∷◌, ◌++◌, length, Ok}
use Rattle.std.specs.List.{AllByRecursion}
use Rattle.gib_base.specs.declared.Span.{Span}
use Rattle.gib_base.specs.declared.token.Sign.{Sign}
use Rattle.gib_base.specs.declared.token.Sign.TheVariants as s
use Rattle.gib_base.specs.declared.token.Token.{Token}
use Rattle.gib_base.specs.declared.token.Token.TheVariants as t
use Rattle.gib_syntax.specs.declared.tree.Ident.{Ident}
use Rattle.gib_syntax.specs.declared.written.Word.{Word}
use Rattle.gib_syntax.specs.Forms.{WrittenType, WrittenTypes, NoType, MoreTypes}
use Rattle.gib_syntax.specs.Spelling.{Places}
use Rattle.gib_parse.specs.declared.types.Next.{Next}
use Rattle.gib_parse.specs.declared.types.Next.TheVariants as next
use Rattle.gib_syntax.specs.declared.exprs.ExprId.{ExprId}
use Rattle.gib_syntax.specs.declared.exprs.Arm as code
use Rattle.gib_syntax.specs.declared.program.GenericParameter.{GenericParameter}
use Rattle.gib_syntax.specs.declared.program.GenericConstructor.{GenericConstructor}
use Rattle.gib_syntax.specs.declared.program.GenericData.{GenericData}
use Rattle.gib_syntax.specs.declared.program.GenericMain.{GenericMain}
use Rattle.gib_syntax.specs.declared.written.Run.{Run}
use Rattle.gib_syntax.specs.declared.written.ResultRuns.{ResultRuns}
use Rattle.gib_syntax.specs.Words.{IsTypeRun, IsTypesRun, words_of, words_in, all_types}
use Rattle.gib_syntax.specs.GenericTree.{GenericExpression, GenericArguments, GenericArms, GenericVar, GenericCall, GenericNoArgument, GenericArgument, GenericLastArm}
use Rattle.gib_syntax.specs.GenericArena.{Arena, Grows, ArmsBelow, arms_from, nothing, tree_of}
use Rattle.gib_syntax.specs.GenericParts.{IsConstructorInside, IsDataInside, IsParameterInside, AreResultsInside}
use Rattle.gib_reads.specs.declared.stop.Stop.{Stop}
pub use Rattle.gib_reads.specs.Answers.{Fails, Gives, with_front}
use Rattle.gib_syntax.specs.declared.generic.Side.{Side}
use Rattle.gib_parse.specs.declared.expressions.Kind.{Kind}
use Rattle.gib_parse.specs.declared.expressions.Kind.TheVariants as kind
use Rattle.gib_parse.specs.Reading.{Read, Reader, then_at, want, binding_at, next_is, starts_atom, Opened, inside, type_at, Mode, Any, App, Atom, ArmTree, BoundTree}

-- Which expressions may stand at a place.
abbrev pub mode_of : Kind → Mode
mode_of kind.Any = Any
mode_of kind.Application = App
mode_of kind.Atom = Atom

-- An expression was read: it stands here, and those that were there stay.
pub record Reads (old new : Arena) (id : ℕ) : Type 0 where
  pub grows : Grows old new
  pub inside : id < length new.nodes

-- The same for the bodies of arms, one at least.
pub record ReadsArms (old new : Arena) (arms : List code.Arm) : Type 0 where
  pub grows : Grows old new
  pub inside : ArmsBelow arms (length new.nodes)

-- Something was read: it stands here, and what was there stays.
pub record Stands {B : Type 0} (Inside : Arena → B → Type 0) (old new : Arena) (b : B) : Type 0 where
  pub grows : Grows old new
  pub inside : Inside new b

-- Several things were.
pub record AllStand {B : Type 0} (Inside : Arena → B → Type 0) (old new : Arena) (bs : List B) : Type 0 where
  pub grows : Grows old new
  pub inside : AllByRecursion (Inside new) bs

-- Reading one takes tokens.
abbrev pub Takes : {A : Type 0} → Reader A → Type 0
Takes {A = A} p = (ts rest : List Token) (a : A) → p ts ≡ Ok (a, rest) → length rest < length ts

-- What stands in an arena does so as it grows, as the same tree.
abbrev pub Stays : {A B : Type 0} → (Arena → B → Type 0) → (Arena → B → A) → Type 0
Stays {B = B} Inside make = (old new : Arena) (b : B) → Grows old new → Inside old b → Inside new b × (make new b ≡ make old b)

-- A number is one of the arena's expressions.
abbrev pub IsExpressionIn : Arena → ExprId → Type 0
IsExpressionIn a id = id.0 < length a.nodes

-- Its tree.
abbrev pub expression_tree : Arena → ExprId → GenericExpression
expression_tree a id = tree_of a id.0

-- A run is a type of the arena.
abbrev pub IsTypeIn : Arena → Run → Type 0
IsTypeIn a run = IsTypeRun a.words run

-- A run is several types of the arena.
abbrev pub AreTypesIn : Arena → Run → Type 0
AreTypesIn a run = IsTypesRun a.words run

-- The types of a constructor's fields are types of the arena.
abbrev pub IsConstructorIn : Arena → GenericConstructor → Type 0
IsConstructorIn a c = IsConstructorInside a.words c

-- The types of a data declaration are.
abbrev pub IsDataIn : Arena → GenericData → Type 0
IsDataIn a d = IsDataInside a.words d

-- The type of a parameter is.
abbrev pub IsParameterIn : Arena → GenericParameter → Type 0
IsParameterIn a q = IsParameterInside a.words q

-- What a function gives stands here.
abbrev pub AreResultsIn : Arena → ResultRuns → Type 0
AreResultsIn a results = AreResultsInside a.words results

-- Types of several parts stand here.
abbrev pub ArePartTypesIn : Arena → List Run → Type 0
ArePartTypesIn a runs = AllByRecursion (IsTypeRun a.words) runs

-- Main stands here.
pub record IsMainIn (a : Arena) (m : GenericMain) : Type 0 where
  pub parameter : IsParameterInside a.words m.parameter
  pub result : IsTypeRun a.words m.result
  pub body : m.body.0 < length a.nodes

-- An arm as a tree.
abbrev pub arm_tree : (ℕ → GenericExpression) → code.Arm → ArmTree
arm_tree f arm = record { constructor = arm.constructor; variables = arm.variables.items; body = f arm.body.0 }

-- A binding as a tree.
abbrev pub bound_tree : (ℕ → GenericExpression) → Side → BoundTree
bound_tree f x = record { names = x.names; value = f x.value.0 }

-- Arms as a tree. A case has one at least; of none, it is an arm of no meaning.
abbrev pub arms_tree : (ℕ → GenericExpression) → List code.Arm → GenericArms
arms_tree f [] = GenericLastArm (record { name = record { 0 = 0 }; span = record { start = 0; end = 0 } }) [] nothing
arms_tree f (arm ∷ arms) = arms_from f arm arms

-- A variable alone, or a call with these type arguments.
abbrev pub call_tree : Ident → WrittenTypes → GenericArguments → GenericExpression
call_tree f ws GenericNoArgument = GenericVar f
call_tree f ws (GenericArgument a xs) = GenericCall f ws (GenericArgument a xs)

-- Whether a call may go on: behind type arguments an argument has to begin.
abbrev pub may_call : WrittenTypes → List Token → Bool
may_call NoType ts = true
may_call (MoreTypes w ws) ts = next_is starts_atom ts

-- A sign, and what is read behind it.
abbrev pub behind_at : {A : Type 0} → Sign → Reader A → Reader A
behind_at a p ts = then_at (want a ts) (λ _ ts. p ts)

-- The sign between two bindings, and the second one.
abbrev pub second_at : Places → Reader GenericExpression → Reader BoundTree
second_at at p = behind_at s.And (binding_at at p)

-- What stands next in a type, and what reading a type, or behind arguments of one, then goes on with.
abbrev pub Follows : Places → List Token → Next → List Token → Type 0
Follows at ts (next.Word w) rest =
    (a : WrittenType) × (words_of a ≡ w ∷ []) × (type_at at ts ≡ Ok (a, rest))
    × ((p : Span) (k : Ident) (xs : List WrittenType) (os : List Opened) → inside at p k xs os ts ≡ inside at p k (xs ++ a ∷ []) os rest)
Follows at ts (next.Open q d) rest =
    (type_at at ts ≡ inside at q d [] [] rest)
    × ((p : Span) (k : Ident) (xs : List WrittenType) (os : List Opened)
    → inside at p k xs os ts ≡ inside at q d [] (record { place = p; name = k; arguments = xs } ∷ os) rest)
Follows at ts next.Close rest = ts ≡ t.Sign s.Close ∷ rest

-- Neither a type nor more of one stands next.
pub record FailsHere (at : Places) (ts : List Token) (e : Stop) : Type 0 where
  pub alone : Fails e (type_at at ts)
  pub within : (p : Span) (k : Ident) (xs : List WrittenType) (os : List Opened) → Fails e (inside at p k xs os ts)

-- A type was read, and its words stand behind the others.
pub record ReadsWords (read : Read WrittenType) (old new : List Word) (rest : List Token) : Type 0 where
  pub ty : WrittenType
  pub words : new ≡ old ++ words_of ty
  pub is_read : read ≡ Ok (ty, rest)

-- Types were.
pub record ReadsAllWords (read : Read (List WrittenType)) (old new : List Word) (rest : List Token) : Type 0 where
  pub types : List WrittenType
  pub words : new ≡ old ++ words_in (all_types types)
  pub is_read : read ≡ Ok (types, rest)
