use Rattle.std.proofs.Common.{◌≡◌, ◌<◌, length, refl, sym, ◌∙◌, arith}
use Rattle.gib_syntax.specs.GenericParts.{generic_program_of}
use Rattle.gib_mono.specs.Sources.{globals_in}
use Rattle.gib_mono.specs.Walk.{plain_copies, plain_functions}
use Rattle.gib_mono.proofs.Copies.{plain_good}
use Rattle.gib_mono.proofs.Plains.{still_open, types_next, types_done, functions_next, functions_done}
use Rattle.gib_mono.proofs.find.add_plain.Goals as goal

pub each_type-init : goal.each_type-init
each_type-init c = (record { before = Rattle.std.proofs.Common.[]; at = c.requires; whole = refl }, c.in_ok-types.ensures, c.in_ok-functions.ensures)

pub add_plain_type-requires-clause-on : goal.add_plain_type-requires-clause-on
add_plain_type-requires-clause-on c = still_open (globals_in c.args.source.now) c.each_type.search c.each_type.invariant.0.before c.each_type.invariant.0.at

pub each_type-preserved : goal.each_type-preserved
each_type-preserved c =
    let p = generic_program_of c.args.source.now in (
      types_next (globals_in c.args.source.now) (plain_copies p) c.each_type.search c.add_plain_type.new.search (globals_in c.args.source.now).datas c.each_type.next (plain_functions (globals_in c.args.source.now).functions)
          (plain_good p c.program-typed.ensures.inside.constructors c.program-typed.ensures.typed) (let e = c.each_type.invariant.1 in let l = c.each_type-test.true in omega (arith, e, l)) c.each_type.invariant.0 c.in_ok-add_plain_type.ensures,
      c.each_type.invariant.1,
      c.each_type.invariant.2,
    )

pub each_function-init : goal.each_function-init
each_function-init c = (
  types_done (globals_in c.args.source.now) (plain_copies (generic_program_of c.args.source.now)) c.each_type.search (globals_in c.args.source.now).datas c.each_type.next (globals_in c.args.source.now).functions (let e = c.each_type.invariant.1 in let l = c.each_type-test.false in omega (arith, e, l)) c.each_type.invariant.0,
  c.each_type.invariant.2,
)

pub add_plain_function-requires-clause-on : goal.add_plain_function-requires-clause-on
add_plain_function-requires-clause-on c = still_open (globals_in c.args.source.now) c.each_function.search c.each_function.invariant.0.before c.each_function.invariant.0.at

pub each_function-preserved : goal.each_function-preserved
each_function-preserved c =
    let p = generic_program_of c.args.source.now in (
      functions_next (globals_in c.args.source.now) (plain_copies p) c.each_function.search c.add_plain_function.new.search (globals_in c.args.source.now).functions c.each_function.next
          (plain_good p c.program-typed.ensures.inside.constructors c.program-typed.ensures.typed) (let e = c.each_function.invariant.1 in let l = c.each_function-test.true in omega (arith, e, l)) c.each_function.invariant.0 c.in_ok-add_plain_function.ensures,
      c.each_function.invariant.1,
    )

pub returns : goal.returns
returns c =
    functions_done (globals_in c.args.source.now) (plain_copies (generic_program_of c.args.source.now)) c.each_function.search (globals_in c.args.source.now).functions c.each_function.next (let e = c.each_function.invariant.1 in let l = c.each_function-test.false in omega (arith, e, l)) c.each_function.invariant.0
