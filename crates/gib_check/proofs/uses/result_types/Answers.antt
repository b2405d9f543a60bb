use Rattle.std.proofs.Common.{◌≡◌, List, map, sym, ap, ◌∙◌}
use Rattle.gib_types.specs.Form.{Form}
use Rattle.gib_syntax.specs.declared.written.ResultRuns.{ResultRuns}
use Rattle.gib_syntax.specs.declared.written.Run.{Run}
use Rattle.gib_syntax.specs.Forms.{formed}
use Rattle.gib_syntax.specs.GenericParts.{results_in}
use Rattle.gib_syntax.specs.Results.{Several, map_results}
use Rattle.gib_syntax.specs.Words.{type_in}
use Rattle.gib_check.specs.Judging.{forms, listed, meant_by}
use Rattle.gib_check.proofs.Growing.{keeps_advance, advances_on}
use Rattle.gib_check.proofs.UseTypes.{one_given}
use Rattle.gib_check.proofs.uses.result_types.Goals as goal

pub returns-in_ok-id-in-One-clause-forms : goal.returns-in_ok-id-in-One-clause-forms
returns-in_ok-id-in-One-clause-forms c =
    one_given c.args.named.now.exprs.words c.read_first.new.self (meant_by (forms c.args.state.now) c.args.meaning.now) c.in-One.run' c.words.result.now c.in_ok-id-in-One.id c.in_ok-id-in-One.ensures.met.form c.words.ensures
    ∙ ap (λ g. map_results (formed (meant_by (forms c.args.state.now) c.args.meaning.now)) (results_in c.args.named.now.exprs.words g)) (sym c.in-One.is)

pub returns-in_ok-id-in-One-clause-met : goal.returns-in_ok-id-in-One-clause-met
returns-in_ok-id-in-One-clause-met c = record { advances = keeps_advance c.args.state.now c.read_first.new.self c.read_first.ensures.keeps; here = c.in_ok-id-in-One.ensures.met.below }

pub returns-in_ok-given-in-Several-clause-forms : goal.returns-in_ok-given-in-Several-clause-forms
returns-in_ok-given-in-Several-clause-forms c =
    let m = meant_by (forms c.args.state.now) c.args.meaning.now in
    c.in_ok-given-in-Several.ensures.forms
    ∙ ap Several (ap (listed (forms c.part_types.new.state)) c.deref-in-Several.ensures.value ∙ c.in_ok-ids-in-Several.ensures.types ∙ ap (λ (rs : List Run). map (formed m) (map (type_in c.args.named.now.exprs.words) rs)) c.deref.ensures.value)
    ∙ ap (λ g. map_results (formed m) (results_in c.args.named.now.exprs.words g)) (sym c.in-Several.is)

pub returns-in_ok-given-in-Several-clause-met : goal.returns-in_ok-given-in-Several-clause-met
returns-in_ok-given-in-Several-clause-met c = record {
  advances = advances_on c.args.state.now c.part_types.new.state c.put_parts.new.self (keeps_advance c.args.state.now c.part_types.new.state c.in_ok-ids-in-Several.ensures.keeps) c.in_ok-given-in-Several.ensures.met.advances;
  here = c.in_ok-given-in-Several.ensures.met.here;
}
