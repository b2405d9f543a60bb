use Rattle.gib_syntax.specs.Parts.{program_of}
use Rattle.gib_syntax.specs.Declarations.{table_of_program}
use Rattle.gib_plain.specs.Running.{arm_of}
use Rattle.gib_plain.proofs.ArmsFound.{arm_there, arm_nowhere, got}
use Rattle.gib_plain.proofs.lookup.arm.Goals as goal

pub returns-in-Some : goal.returns-in-Some
returns-in-Some c = λ span x e.
    let there = arm_there (table_of_program (program_of c.args.typed.now)) c.args.arms.now c.args.con.0 c.in-Some.place c.arm_place.result (c.arm_place.ensures.arms c.args.arms.now span x e) c.in-Some.is in
    got c.args.arms.now c.in-Some.place c.get.result (arm_of (table_of_program (program_of c.args.typed.now)) c.args.arms.now c.args.con.0) c.get.ensures.lookup.0 c.get.ensures.lookup.1 there

pub returns-in-None : goal.returns-in-None
returns-in-None c = λ span x e.
    arm_nowhere (table_of_program (program_of c.args.typed.now)) c.args.arms.now c.args.con.0 c.arm_place.result (c.arm_place.ensures.arms c.args.arms.now span x e) c.in-None.is
