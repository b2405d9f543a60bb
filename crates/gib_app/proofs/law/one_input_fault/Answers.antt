use Rattle.std.proofs.Common.{subst}
use Rattle.gib_types.specs.Table.{Table}
use Rattle.gib_syntax.specs.Parts.{program_of}
use Rattle.gib_syntax.specs.Declarations.{table_of_program}
use Rattle.gib_app.proofs.InputLaws.{Laws, one_refusal, not_accepted}
use Rattle.gib_app.proofs.law.one_input_fault.Goals as goal

pub returns-clause-one : goal.returns-clause-one
returns-clause-one c = λ job options given f g h k.
    let p = program_of c.args.compiled.now.typed in
    let names = c.args.compiled.now.names in
    let L : Table → Type 0 = λ t. Laws t names.short in
    let laws : Laws (table_of_program p) names.short = subst L c.types-types.ensures (record {
      headers = c.refused_header.ensures;
      types = c.refused_description.ensures;
      payloads = c.refused_file.ensures;
      values = c.one_file.ensures.value;
      packs = record { firsts = c.one_file.ensures.bytes; seconds = c.one_file.ensures.second; values = c.one_file.ensures.value; texts = c.texts_differ.ensures };
      no_text = c.refusals_hold.ensures.no_text;
      images = c.one_fault.ensures;
      no_image = c.a_value_is_not_refused.ensures;
      one_place = c.refusals_hold.ensures.one_place;
    }) in
    one_refusal p names laws options given job f g h k

pub returns-clause-none : goal.returns-clause-none
returns-clause-none c = λ job options given f h a.
    let p = program_of c.args.compiled.now.typed in
    let names = c.args.compiled.now.names in
    let L : Table → Type 0 = λ t. Laws t names.short in
    let laws : Laws (table_of_program p) names.short = subst L c.types-types.ensures (record {
      headers = c.refused_header.ensures;
      types = c.refused_description.ensures;
      payloads = c.refused_file.ensures;
      values = c.one_file.ensures.value;
      packs = record { firsts = c.one_file.ensures.bytes; seconds = c.one_file.ensures.second; values = c.one_file.ensures.value; texts = c.texts_differ.ensures };
      no_text = c.refusals_hold.ensures.no_text;
      images = c.one_fault.ensures;
      no_image = c.a_value_is_not_refused.ensures;
      one_place = c.refusals_hold.ensures.one_place;
    }) in
    not_accepted p names laws options given job f h a
