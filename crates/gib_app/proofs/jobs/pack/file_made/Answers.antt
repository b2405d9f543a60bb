use Rattle.std.proofs.Common.{ℕ, ◌<◌, length, subst, arith}
use Rattle.gib_types.specs.Table.{Table}
use Rattle.gib_syntax.specs.Parts.{program_of}
use Rattle.gib_syntax.specs.Declarations.{table_of_program}
use Rattle.gib_app.proofs.Packs.{PackLaws, long_stop_packs}
use Rattle.gib_app.proofs.jobs.pack.file_made.Goals as goal

pub returns-then-len-gt-FILE_BYTES-clause-stop : goal.returns-then-len-gt-FILE_BYTES-clause-stop
returns-then-len-gt-FILE_BYTES-clause-stop c =
    let p = program_of c.args.request.compiled.now.typed in
    let names = c.args.request.compiled.now.names in
    let L : Table → Type 0 = λ t. PackLaws t names.short in
    let laws : PackLaws (table_of_program p) names.short = subst L c.types.ensures (record { firsts = c.one_file.ensures.bytes; seconds = c.one_file.ensures.second; values = c.one_file.ensures.value; texts = c.texts_differ.ensures }) in
    let over = c.if-len-gt-FILE_BYTES.true in
    let len = c.len.ensures in
    let found = c.in-Ok.ensures.file in
    let many : 16777216 < length c.in-Ok.file.items = omega (arith, over, len) in
    long_stop_packs c.args.request.options.repacks c.args.request.options.first_version p names c.args.request.input.now c.requires.short laws found.0 c.in-Ok.file.items found.1 found.2 many

pub returns-clause-file : goal.returns-clause-file
returns-clause-file c =
    let found = c.in-Ok.ensures.file in
    record { value = found.0; short = c.requires.short; packable = found.1; is_file = found.2; few = omega (arith, c.if-len-gt-FILE_BYTES.false, c.len.ensures) }
