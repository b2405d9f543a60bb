use Rattle.std.proofs.Common.{◌≡◌, ◌∷◌, List, reverse, sym, ap, ◌∙◌, arith}
use Rattle.gib_print.specs.Framing.{works}
use Rattle.gib_print.specs.declared.frame.Frame.{Frame}
use Rattle.gib_print.proofs.FrameLemmas.{joined_last}
use Rattle.gib_print.proofs.HeadLemmas.{none_after, pushed_frame}
use Rattle.gib_print.proofs.walk.innermost.Goals as goal

pub returns-then-joins_back-clause-entered : goal.returns-then-joins_back-clause-entered
returns-then-joins_back-clause-entered c = λ table same. joined_last table c.args.child c.args.frame (reverse c.args.frames.now.items) (none_after _ _ c.args.frame.next same (omega (arith, c.if-frame-fields.true))) (sym c.joins_back.ensures.joins ∙ c.if-joins_back.true)

pub returns-clause-entered : goal.returns-clause-entered
returns-clause-entered c = λ table _. ap (λ (fs : List Frame). works table (c.args.child ∷ fs)) (pushed_frame c.push.new.self.items c.args.frames.now.items c.args.frame c.in_ok-push.ensures.items)
