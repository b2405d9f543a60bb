use Rattle.std.proofs.Common.{ap, sym, ◌∙◌, subst}
use Rattle.gib_core.specs.Parts.{Parts, core_of}
use Rattle.gib_core.specs.Marking.{mark_core}
use Rattle.gib_loccheck.specs.Judging.{Says}
use Rattle.gib_local.specs.Counting.{broken_text}
use Rattle.gib_local_parse.specs.TextParts.{TextParts, text_of}
use Rattle.gib_local.proofs.Telling.{judged_done}
use Rattle.gib_local.proofs.making.judged.Goals as goal

pub returns-in-Ok : goal.returns-in-Ok
returns-in-Ok c =
    judged_done (core_of c.args.core) (core_of c.forks.result) (broken_text (text_of c.args.source.now) (core_of c.args.core)) (ap (λ (p : TextParts). broken_text (text_of p) (core_of c.args.core)) (sym c.known.ensures) ∙ c.in-Ok.ensures.unbroken)
    (c.forks.ensures.core ∙ ap (λ (k : Parts). mark_core (core_of k)) c.in-Ok.ensures.same)

pub returns-in-Err : goal.returns-in-Err
returns-in-Err c =
    c.of_rules.ensures (core_of c.args.core) (broken_text (text_of c.args.source.now) (core_of c.args.core)) (subst (λ (p : TextParts). Says c.in-Err.fault (broken_text (text_of p) (core_of c.args.core))) c.known.ensures c.in-Err.ensures.broken)
