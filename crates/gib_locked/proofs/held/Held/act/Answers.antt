use Rattle.std.proofs.Common.{rules, ap, ◌∙◌, [], ◌∷◌, ◌++◌}
use Rattle.gib_weave.specs.Applied.{event_of}
use Rattle.gib_weave.specs.Woven.{weave_of}
use Rattle.gib_locked.specs.Lines.{counted_out}
use Rattle.gib_locked.proofs.Runs.{full, leads_on, leads_still, refused}
use Rattle.gib_locked.proofs.held.Held.act.Goals as goal

pub returns-then-has_ended : goal.returns-then-has_ended
returns-then-has_ended c = λ start h. (leads_on start c.args.self.now.weave c.happen.new.self.weave c.args.self.now.lines.all.items c.happen.new.self.lines.all.items (event_of c.in-Some.event) (c.in-Ok.ensures.written ∙ ap (λ ls. counted_out ls ++ event_of c.in-Some.event ∷ []) c.make_room.ensures.same) c.in-Ok.ensures.applied c.happen.ensures.lowered c.happen.ensures.sound h.0, search rules)

pub returns-else-has_ended : goal.returns-else-has_ended
returns-else-has_ended c = λ start h. (leads_on start c.args.self.now.weave c.happen.new.self.weave c.args.self.now.lines.all.items c.happen.new.self.lines.all.items (event_of c.in-Some.event) (c.in-Ok.ensures.written ∙ ap (λ ls. counted_out ls ++ event_of c.in-Some.event ∷ []) c.make_room.ensures.same) c.in-Ok.ensures.applied c.happen.ensures.lowered c.happen.ensures.sound h.0, rw (c.happen.ensures.end, c.if-not-goes_on.ensures) tt)

pub returns-in-Err-NotNow : goal.returns-in-Err-NotNow
returns-in-Err-NotNow c = λ start h.
    let old = c.args.self.now in
    let is = refused old.weave.lowered.code (weave_of old.weave) (weave_of c.happen.new.self.weave) (event_of c.in-Some.event) c.in-Err-NotNow.field-0 c.in-Err-NotNow.ensures.applied in
    (leads_still start old.weave c.happen.new.self.weave old.lines.all.items c.happen.new.self.lines.all.items (c.in-Err-NotNow.ensures.same ∙ c.make_room.ensures.same) is c.happen.ensures.lowered h.0, rw (c.happen.ensures.end, c.if-not-goes_on.ensures) tt)

pub returns-in-Err-Full : goal.returns-in-Err-Full
returns-in-Err-Full c = λ start h.
    let old = c.args.self.now in
    let is = refused old.weave.lowered.code (weave_of old.weave) (weave_of c.happen.new.self.weave) (event_of c.in-Some.event) c.in-Err-Full.field-0 c.in-Err-Full.ensures.applied in (
      leads_still start old.weave c.happen.new.self.weave old.lines.all.items c.happen.new.self.lines.all.items (c.in-Err-Full.ensures.same ∙ c.make_room.ensures.same) is c.happen.ensures.lowered h.0,
      full old.weave c.happen.new.self.weave (event_of c.in-Some.event) c.in-Err-Full.field-0 c.in-Err-Full.field-0-is c.in-Err-Full.ensures.applied c.happen.ensures.lowered,
    )

pub returns-in-Err-Memory : goal.returns-in-Err-Memory
returns-in-Err-Memory c = λ start h.
    let old = c.args.self.now in
    let is = refused old.weave.lowered.code (weave_of old.weave) (weave_of c.happen.new.self.weave) (event_of c.in-Some.event) c.in-Err-Memory.field-0 c.in-Err-Memory.ensures.applied in
    (leads_still start old.weave c.happen.new.self.weave old.lines.all.items c.happen.new.self.lines.all.items (c.in-Err-Memory.ensures.same ∙ c.make_room.ensures.same) is c.happen.ensures.lowered h.0, tt)
