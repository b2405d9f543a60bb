-- The trees of LoCal texts.
use Rattle.std.specs.Prelude.{ℕ, Bool, List, Option}
use Rattle.gib_base.specs.declared.Span.{Span}
use Rattle.gib_syntax.specs.declared.tree.Ident.{Ident}
use Rattle.gib_syntax.specs.declared.tree.TypeName.{TypeName}
use Rattle.gib_syntax.specs.declared.tree.Parameter.{Parameter}
use Rattle.gib_types.specs.declared.operator.Operator.{Operator}
use Rattle.gib_syntax.specs.Tree.{DataTree}
pub use Rattle.gib_local_parse.specs.declared.tree.Mark.{Mark}
pub use Rattle.gib_local_parse.specs.declared.tree.Operand.{Operand}
pub use Rattle.gib_local_parse.specs.declared.tree.Operand.TheVariants.{Named, Number, Bit}
pub use Rattle.gib_local_parse.specs.declared.tree.Location.{Location}
pub use Rattle.gib_local_parse.specs.declared.tree.Location.TheVariants.{Start, Plus, After}
pub use Rattle.gib_local_parse.specs.declared.tree.Way.{Way}
pub use Rattle.gib_local_parse.specs.declared.tree.Way.TheVariants.{ByOffset, BySkip, ByEnd}

-- A term is a line of bindings with an end. Each binding and end carries the span of its first token.
mutual
  pub data Line : Type 0 where
    In : Span → Binding → Line → Line
    Given : Span → Operand → Line
    Pointed : Span → Ident → Mark → Line
    -- a call, with one argument at least
    Called : Ident → List Operand → Option Mark → Line
    Made : Ident → Mark → List Operand → Line
    Cased : Span → Ident → Arms → Line
    Chosen : Span → Operand → Line → Line → Line

  -- a binding of a line
  pub data Binding : Type 0 where
    NewRegion : Ident → Binding
    NewPlace : Ident → Location → Binding
    LetIn : Bound → Binding
    -- two sides; between them a name may be given to the place behind the left side's variable
    ParIn : Bound → Option (Ident × Ident) → Bound → Binding
    PrimIn : Ident → TypeName → Operand → Operator → Operand → Binding
    ReachIn : Ident → Way → Binding

  -- a variable with its type and place, and the term that it is bound to
  pub data Bound : Type 0 where
    Be : Ident → TypeName → Option Mark → Line → Bound

  -- at least one arm: a constructor, the variables of its fields, and a term
  pub data Arms : Type 0 where
    LastArm : Ident → List Ident → Line → Arms
    NextArm : Ident → List Ident → Line → Arms → Arms

-- A function.
pub record FunctionText : Type 0 where
  pub name : Ident
  pub parameters : List Parameter
  pub result : TypeName
  pub place : Option Mark
  pub body : Line

-- Main.
pub record MainText : Type 0 where
  pub parameter : Parameter
  pub result : TypeName
  pub place : Option Mark
  pub body : Line

-- A program with its places written out; the constructors whose heads store offsets are listed.
pub record LocalTree : Type 0 where
  pub datas : List DataTree
  pub offsets : List Ident
  pub functions : List FunctionText
  pub main : MainText
