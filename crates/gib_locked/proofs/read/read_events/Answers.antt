use Rattle.std.proofs.Common.{◌≡◌, [], length, rules}
use Rattle.std.specs.Prelude.{codes}
use Rattle.gib_locked.proofs.ReadEvents.{behind_end, all_read, stuck_there, stuck_at_end}
use Rattle.gib_locked.proofs.read.read_events.Goals as goal

pub returns-then-not-is_empty : goal.returns-then-not-is_empty
returns-then-not-is_empty c =
    let e : c.in-Some.parts.front.now ≡ codes "end" = search rules in
    let some : c.in-Some.parts.rest.now ≡ [] → ⊥ = search rules in
    behind_end c.args.text.now c.lines.rest.now c.in-Some.parts.front.now c.in-Some.parts.rest.now c.lines.lines.items c.len.result c.lines.invariant.0 c.lines.invariant.1 c.in-Some.ensures e some (search rules)

pub returns-then-eq : goal.returns-then-eq
returns-then-eq c =
    let e : c.in-Some.parts.front.now ≡ codes "end" = search rules in
    let none : length c.in-Some.parts.rest.now ≡ 0 = search rules in
    all_read c.args.text.now c.lines.rest.now c.in-Some.parts.front.now c.in-Some.parts.rest.now c.lines.lines.items c.lines.invariant.1 c.in-Some.ensures e none

pub returns-in_default-read_next : goal.returns-in_default-read_next
returns-in_default-read_next c =
    let other : c.in-Some.parts.front.now ≡ codes "end" → ⊥ = search rules in
    stuck_there c.args.text.now c.lines.rest.now c.in-Some.parts.front.now c.in-Some.parts.rest.now c.lines.lines.items c.len-in_default-read_next.result c.lines.invariant.0 c.lines.invariant.1 c.in-Some.ensures other c.in_default-read_next.ensures (search rules)

pub returns : goal.returns
returns c = stuck_at_end c.args.text.now c.lines.rest.now c.lines.lines.items c.len-2.result c.lines.invariant.0 c.lines.invariant.1 c.in_default.ensures (search rules)
