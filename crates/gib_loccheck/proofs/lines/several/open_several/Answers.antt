use Rattle.std.proofs.Common.{ap, rules, ◌∙◌}
use Rattle.gib_core.specs.PartTypes.{types_in}
use Rattle.gib_core.specs.Met.{Setting, in_several}
use Rattle.gib_loccheck.proofs.Judges.{setting-kept}
use Rattle.gib_loccheck.proofs.lines.several.open_several.Goals as goal

pub returns-in_err-judge_several : goal.returns-in_err-judge_several
returns-in_err-judge_several c = λ core target f. let h = c.in_err-judge_several.ensures core target in search rules

pub returns : goal.returns
returns c = λ core target f.
    let passed = c.in_ok-judge_several.ensures core target in (
      passed.0,
      (
        passed.1,
        c.of_several.ensures c.judge_several.new.walk target
            ∙ ap (λ (s : Setting). in_several s (types_in c.args.parts.now.types)) (setting-kept c.args.walk.now c.judge_several.new.walk target passed.1),
      ),
    )
