use Rattle.std.proofs.Common.{arith}
use Rattle.gib_syntax.specs.GenericParts.{generic_program_of}
use Rattle.gib_mono.specs.Sources.{globals_in}
use Rattle.gib_mono.specs.Walk.{plain_copies, plain_functions, main_asks}
use Rattle.gib_mono.proofs.Plains.{asked_none, asked_type, types_asked, asked_function, functions_asked, plain_asked}
use Rattle.gib_mono.proofs.Seeking.{if_ok}
use Rattle.gib_mono.proofs.find.ask_plain.Goals as goal

pub each_type-init : goal.each_type-init
each_type-init c = (asked_none (globals_in c.args.source.now) c.args.search.now (plain_copies (generic_program_of c.args.source.now)), c.in_ok-types.ensures, c.in_ok-functions.ensures)

pub each_type-preserved : goal.each_type-preserved
each_type-preserved c = (
  asked_type (globals_in c.args.source.now) c.args.search.now c.each_type.search c.ask_plain_type.new.search (plain_copies (generic_program_of c.args.source.now)) (globals_in c.args.source.now).datas c.each_type.next (plain_functions (globals_in c.args.source.now).functions)
      (let e = c.each_type.invariant.1 in let l = c.each_type-test.true in omega (arith, e, l)) c.each_type.invariant.0 c.in_ok-ask_plain_type.ensures,
  c.each_type.invariant.1,
  c.each_type.invariant.2,
)

pub each_function-init : goal.each_function-init
each_function-init c = (
  types_asked (globals_in c.args.source.now) c.args.search.now c.each_type.search (plain_copies (generic_program_of c.args.source.now)) (globals_in c.args.source.now).datas c.each_type.next (globals_in c.args.source.now).functions
      (let e = c.each_type.invariant.1 in let l = c.each_type-test.false in omega (arith, e, l)) c.each_type.invariant.0,
  c.each_type.invariant.2,
)

pub each_function-preserved : goal.each_function-preserved
each_function-preserved c = (
  asked_function (globals_in c.args.source.now) c.args.search.now c.each_function.search c.ask_plain_function.new.search (plain_copies (generic_program_of c.args.source.now)) (globals_in c.args.source.now).functions c.each_function.next
      (let e = c.each_function.invariant.1 in let l = c.each_function-test.true in omega (arith, e, l)) c.each_function.invariant.0 c.in_ok-ask_plain_function.ensures,
  c.each_function.invariant.1,
)

pub returns : goal.returns
returns c =
    if_ok _ _ c.ask_main.result (λ u a. plain_asked (globals_in c.args.source.now) c.args.search.now c.each_function.search c.ask_main.new.search (plain_copies (generic_program_of c.args.source.now)) (main_asks (generic_program_of c.args.source.now))
    (functions_asked (globals_in c.args.source.now) c.args.search.now c.each_function.search (plain_copies (generic_program_of c.args.source.now)) (globals_in c.args.source.now).functions c.each_function.next
    (let e = c.each_function.invariant.1 in let l = c.each_function-test.false in omega (arith, e, l)) c.each_function.invariant.0) a) c.ask_main.ensures
