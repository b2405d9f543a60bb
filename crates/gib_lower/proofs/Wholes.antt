-- The code of a core from its parts.
use Rattle.std.proofs.Common.{◌≡◌, ◌<◌, ◌^◌, List, length, ap, sym, ◌∙◌, subst}
use Rattle.gib_types.specs.Layout.{LaidOut}
use Rattle.gib_code.specs.declared.instruction.Entry.{Entry}
use Rattle.gib_code.specs.Instruction.{Instruction}
use Rattle.gib_code.specs.Program.{CodeTree, Runs}
use Rattle.gib_core.specs.Tree.{CoreTree}
use Rattle.gib_core.specs.Parts.{Parts, core_of}
use Rattle.gib_core.specs.Low.{laid_of, IsLowered}
use Rattle.gib_core.specs.Fits.{AllFit, EachFits}
use Rattle.gib_lower.specs.Lowering.{lower_program}

pub same_code : (a b : Parts) (heads : LaidOut) (instrs : List Instruction) (entries : List Entry) (code : CodeTree) → a ≡ b → heads ≡ laid_of (core_of a)
    → instrs ≡ (lower_program (core_of a)).instructions → entries ≡ (lower_program (core_of a)).functions → code ≡ record { laid = heads; instructions = instrs; functions = entries }
    → code ≡ lower_program (core_of b)
same_code a b heads instrs entries code ab h is es e =
    let parts : record { laid = heads; instructions = instrs; functions = entries } ≡ lower_program (core_of a) = λ i. record { laid = h i; instructions = is i; functions = es i } in
    e ∙ parts ∙ ap (λ (p : Parts). lower_program (core_of p)) ab

pub lowered_code : (b c : Parts) (code : CodeTree) → c ≡ b → code ≡ lower_program (core_of b) → ((core : CoreTree) → IsLowered core (lower_program core)) → IsLowered (core_of c) code
lowered_code b c code cb e law =
    subst (λ (p : Parts). IsLowered (core_of p) code) (sym cb) (subst (λ (x : CodeTree). IsLowered (core_of b) x) (sym e) (law (core_of b)))

pub same_fits : (b c : Parts) → c ≡ b → AllFit (core_of b) → AllFit (core_of c)
same_fits b c e h = subst (λ (p : Parts). AllFit (core_of p)) (sym e) h

-- What a machine needs of code, from the law of what was lowered.
pub runs_code : (b c : Parts) (heads : LaidOut) (instrs : List Instruction) (entries : List Entry) (code : CodeTree) → c ≡ b
    → code ≡ record { laid = heads; instructions = instrs; functions = entries } → length instrs < 2 ^ 32 → IsLowered (core_of c) code → AllFit (core_of b) → EachFits (core_of b)
    → ((core : CoreTree) (x : CodeTree) → IsLowered core x → AllFit core → EachFits core → length x.instructions < 2 ^ 32 → Runs x) → Runs code
runs_code b c heads instrs entries code cb e few lo named each law =
    law (core_of c) code lo (same_fits b c cb named) (subst (λ (p : Parts). EachFits (core_of p)) (sym cb) each)
    (subst (λ (x : CodeTree). length x.instructions < 2 ^ 32) (sym e) few)
