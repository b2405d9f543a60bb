use Rattle.std.proofs.Common.{ap, sym, ◌∙◌, subst}
use Rattle.gib_types.specs.Table.{IsTable}
use Rattle.gib_local.specs.Builds.{program_in}
use Rattle.gib_local.specs.Building.{build_core}
use Rattle.gib_local.specs.Local.{named, placed}
use Rattle.gib_local.specs.Naming.{check_text}
use Rattle.gib_local_parse.specs.TextParts.{TextParts, text_of}
use Rattle.gib_local.proofs.Telling.{judges_for}
use Rattle.gib_local.proofs.making.named.Goals as goal

pub placed-requires : goal.placed-requires
placed-requires c = subst (λ (p : TextParts). IsTable (program_in p).table) (sym c.in-Ok.ensures.same) (c.in-Ok.ensures.table c.main-main.ensures.inside.constructors)

pub returns-in-Ok : goal.returns-in-Ok
returns-in-Ok c =
    judges_for c.placed.result (named (text_of c.args.text) (check_text (text_of c.args.text))) (placed (text_of c.in-Ok.known) (build_core (text_of c.in-Ok.known)))
    (ap (named (text_of c.args.text)) c.in-Ok.ensures.checked ∙ ap (λ (p : TextParts). placed (text_of p) (build_core (text_of p))) (sym c.in-Ok.ensures.same)) c.placed.ensures

pub returns-in-Err : goal.returns-in-Err
returns-in-Err c = c.of_names.ensures (text_of c.args.text) (check_text (text_of c.args.text)) c.in-Err.ensures.checked
