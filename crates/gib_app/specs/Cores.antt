-- The core of a program after each pass, and how its values lie in memory. A field is reached at the end of the field before it,
-- where a call told that, and else by an offset that its head stores; or each is reached by a walk over the field before it.
use Rattle.std.specs.Prelude.{ℕ, nat_lt, if◌then◌else◌}
use Rattle.gib_types.specs.declared.access.FieldAccess.{FieldAccess}
use Rattle.gib_types.specs.declared.access.FieldAccess.TheVariants as fields
use Rattle.gib_types.specs.Layout.{LaidOut}
use Rattle.gib_syntax.specs.Tree.{ProgramTree}
use Rattle.gib_core.specs.declared.atom.AccessMode.{AccessMode}
use Rattle.gib_core.specs.declared.atom.AccessMode.TheVariants.{Skips, Ends}
use Rattle.gib_core.specs.Tree.{CoreTree}
use Rattle.gib_core.specs.Inferring.{infer_program}
use Rattle.gib_core.specs.Low.{laid_of}
use Rattle.gib_core.specs.Marking.{mark_core}
use Rattle.gib_core.specs.Reaching.{reach_core}
use Rattle.gib_place.specs.Numbering.{place_core}
use Rattle.gib_words.specs.declared.plan.Options.{Options}

-- How fields are reached outside each `par`.
abbrev pub mode_of : FieldAccess → AccessMode
mode_of fields.Ends = Ends
mode_of fields.Skips = Skips

-- The core of a program whose values are built where they belong.
abbrev pub placed_program : ProgramTree → CoreTree
placed_program p = place_core (infer_program p)

-- And with the fields of its arms reached.
abbrev pub reached_program : FieldAccess → ProgramTree → CoreTree
reached_program access p = reach_core (mode_of access) (placed_program p)

-- The core of a program after a pass: 1 makes it of the program, 2 builds values where they belong, 3 reaches the fields
-- of arms, 4 marks the `par`s whose sides may run at the same time. The core after pass 4 is the one that runs.
abbrev pub core_after : FieldAccess → ℕ → ProgramTree → CoreTree
core_after access pass p =
    if nat_lt pass 2 then infer_program p else
    if nat_lt pass 3 then placed_program p else
    if nat_lt pass 4 then reached_program access p else mark_core (reached_program access p)

-- How the heads of a program's values lie in region memory: as in the core that runs. A constructor stores offsets where an arm
-- of it uses a packed field but the first whose place no end tells; where fields are reached by walks none does.
abbrev pub layouts_of : FieldAccess → ProgramTree → LaidOut
layouts_of access p = laid_of (core_after access 4 p)

-- The core that runs where these options are asked for.
abbrev pub core_asked : Options → ProgramTree → CoreTree
core_asked options p = core_after options.access 4 p

-- And its layouts.
abbrev pub layouts_asked : Options → ProgramTree → LaidOut
layouts_asked options p = layouts_of options.access p
