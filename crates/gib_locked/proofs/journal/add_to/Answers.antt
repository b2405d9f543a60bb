use Rattle.std.proofs.Common.{◌≡◌, true, subst, sym, ◌∙◌, [], ◌∷◌, ◌++◌}
use Rattle.gib_locked.specs.Lines.{is_line}
use Rattle.gib_locked.proofs.LinesKeep.{counted_line, counted_longer, next_line, longer_line, is_longer, is_other}
use Rattle.gib_locked.proofs.journal.add_to.Goals as goal

pub returns-in-Some-with_more-clause-events : goal.returns-in-Some-with_more-clause-events
returns-in-Some-with_more-clause-events c = rw (c.push_reserved-in-Some-with_more.ensures.items, c.in-Some.ensures.items) (counted_longer c.pop.new.self.items c.in-Some.last c.in-Some-with_more.line c.args.event (is_longer c.in-Some.last c.args.event c.in-Some-with_more.line (sym c.with_more.ensures ∙ c.in-Some-with_more.is)))

pub returns-in-Some-with_more-clause-are : goal.returns-in-Some-with_more-clause-are
returns-in-Some-with_more-clause-are c = rw c.push_reserved-in-Some-with_more.ensures.items (longer_line c.pop.new.self.items c.in-Some.last c.in-Some-with_more.line c.args.event (is_longer c.in-Some.last c.args.event c.in-Some-with_more.line (sym c.with_more.ensures ∙ c.in-Some-with_more.is)) (rw (sym c.in-Some.ensures.items) c.requires.are))

pub returns-in-None-with_more-clause-events : goal.returns-in-None-with_more-clause-events
returns-in-None-with_more-clause-events c = rw (c.push_reserved-in-None-with_more-2.ensures.items, c.push_reserved-in-None-with_more.ensures.items, c.in-Some.ensures.items, c.line_of-in-None-with_more.ensures.value) (counted_line (c.pop.new.self.items ++ c.in-Some.last ∷ []) c.args.event)

pub returns-in-None-with_more-clause-are : goal.returns-in-None-with_more-clause-are
returns-in-None-with_more-clause-are c = rw (c.push_reserved-in-None-with_more-2.ensures.items, c.push_reserved-in-None-with_more.ensures.items, c.line_of-in-None-with_more.ensures.value) (next_line c.pop.new.self.items c.in-Some.last c.args.event (subst (λ l. is_line l ≡ true) c.line_of-in-None-with_more.ensures.value c.line_of-in-None-with_more.ensures.is) (is_other c.pop.new.self.items c.in-Some.last c.args.event (rw (sym c.in-Some.ensures.items) c.requires.are) (sym c.with_more.ensures ∙ c.in-None-with_more.is)) (rw (sym c.in-Some.ensures.items) c.requires.are))
