use Rattle.std.proofs.Common.{refl}
use Rattle.gib_words.proofs.commands.command_set.Goals as goal

pub returns : goal.returns
returns c =
    let one = c.add_command-program.ensures _ _ c.bare_program.ensures c.run_command.ensures refl in
    let two = c.add_command-program-2.ensures _ _ one c.plain_command.ensures refl in
    let three = c.add_command-program-3.ensures _ _ two c.check_command.ensures refl in
    let four = c.add_command-program-4.ensures _ _ three c.core_command.ensures refl in
    let five = c.add_command-program-5.ensures _ _ four c.code_command.ensures refl in
    let six = c.add_command-program-6.ensures _ _ five c.pack_command.ensures refl in
    let seven = c.add_command-program-7.ensures _ _ six c.show_command.ensures refl in
    let eight = c.add_command-program-8.ensures _ _ seven c.trace_command.ensures refl in
    let nine = c.add_command-program-9.ensures _ _ eight c.replay_command.ensures refl in
    let ten = c.add_command-program-10.ensures _ _ nine c.local_command.ensures refl in
    c.add_command.ensures _ _ ten c.gen_command.ensures refl
