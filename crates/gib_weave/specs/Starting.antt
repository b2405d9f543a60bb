-- Bodies with their code, and where the root starts.
use Rattle.std.specs.Prelude.{◌≡◌, ℕ, ◌≤◌, List, [], ◌∷◌, length, Some}
use Rattle.gib_types.specs.declared.table.Ty.{Ty}
use Rattle.gib_types.specs.declared.table.Ty.TheVariants.{Whole, Truth, Tree}
use Rattle.gib_types.specs.Table.{IsTable}
use Rattle.gib_core.specs.Tree.{FunctionTerm, CoreTree}
use Rattle.gib_core.specs.Meaning.{function_at}
use Rattle.gib_syntax.specs.Results as results
use Rattle.gib_code.specs.declared.instruction.AnswerType.TheVariants as of
use Rattle.gib_code.specs.Program.{CodeTree}
use Rattle.gib_core.specs.Fits.{Fits, AtEnd, body_needs, new_line, none_of, body_scope, dest_of}
use Rattle.gib_core.specs.Ending.{within_function, within_main}
use Rattle.gib_core.specs.Low.{laid_of, Returns, function_number}
use Rattle.gib_machine.specs.State.{State, Doing, Ready, eight, nesting, widest, whole_room, frame, Opening}
use Rattle.gib_machine.specs.Machine.{start_at, slots_at}
pub use Rattle.gib_weave.specs.Environment.{IsArgument}
use Rattle.gib_weave.specs.Continuing.{IsCode, nest}

-- The code of a function's body stands, and the body fits.
pub record IsBody (core : CoreTree) (code : CodeTree) (f : ℕ) (g : FunctionTerm) (i : ℕ) : Type 0 where
  pub low : IsCode core code (within_function core g) (body_scope (slots_at code.functions i) g.parameters) (start_at code.functions i) g.body (Returns [])
  pub fits : Fits core (body_needs core f) g.body (body_scope (slots_at code.functions i) g.parameters) (dest_of g.result) (new_line (within_function core g))
  pub enough : length g.parameters ≤ slots_at code.functions i
  pub nests : nest g.body ≤ nesting code

-- The code of each function is that of its body, which fits.
pub record AreBodies (core : CoreTree) (code : CodeTree) : Type 0 where
  pub laid : code.laid ≡ laid_of core
  pub table : IsTable code.laid.table
  pub bodies : (f : ℕ) (g : FunctionTerm) → function_at core.functions f ≡ Some g → IsBody core code f g (function_number core.functions f)

-- Main's code stands, and main fits.
pub record IsMain (core : CoreTree) (code : CodeTree) : Type 0 where
  pub low : IsCode core code (within_main core) (body_scope (slots_at code.functions (length core.functions)) (core.main.parameter ∷ [])) (start_at code.functions (length core.functions)) core.main.body (Returns [])
  pub fits : Fits core (AtEnd none_of) core.main.body (body_scope (slots_at code.functions (length core.functions)) (core.main.parameter ∷ [])) (dest_of (results.One core.main.result)) (new_line (within_main core))
  pub nests : nest core.main.body ≤ nesting code

-- Where a packed result is due, the machine begins with its region.
abbrev pub first_doing : Ty → Doing
first_doing Whole = Ready
first_doing Truth = Ready
first_doing (Tree t) = Opening

-- The machine of the root.
abbrev pub root_start : CoreTree → CodeTree → (w depth level : ℕ) → List ℕ → State
root_start core code w depth level tails = record {
  ip = start_at code.functions (length core.functions);
  words = frame (slots_at code.functions (length core.functions)) (w ∷ []);
  frames = [];
  depth = depth;
  level = level;
  pars = [];
  side = [];
  regions = [];
  tails = tails;
  room = whole_room code depth;
  width = widest code.functions;
  gave = [];
  result = of.One core.main.result;
  parts = eight [];
  doing = first_doing core.main.result;
}
