use Rattle.std.proofs.Common.{rules}
use Rattle.gib_locked.proofs.HeadTexts.{are_small, first_is, second_is, third_is, not_within}
use Rattle.gib_locked.proofs.head.read_settings.Goals as goal

pub returns-in_default-read_named : goal.returns-in_default-read_named
returns-in_default-read_named c = λ s is. c.in_default-read_named.ensures s.chunks _ (are_small s).chunks (first_is c.args.text.now c.in-Some.depth.rest.now c.in-Some.depth.number s (search rules) c.in-Some.ensures is).1

pub returns-in_default-read_named-2 : goal.returns-in_default-read_named-2
returns-in_default-read_named-2 c = λ s is. c.in_default-read_named-2.ensures s.fork _ (are_small s).fork (second_is c.args.text.now c.in-Some.depth.rest.now c.in-Some-read_named.chunks.rest.now c.in-Some.depth.number c.in-Some-read_named.chunks.number s (search rules) (search rules) c.in-Some.ensures c.in-Some-read_named.ensures is).1

pub returns-in_default-read_access : goal.returns-in_default-read_access
returns-in_default-read_access c = λ s is. c.in_default-read_access.ensures s.access (third_is c.args.text.now c.in-Some.depth.rest.now c.in-Some-read_named.chunks.rest.now c.in-Some-read_named-2.fork.rest.now c.in-Some.depth.number c.in-Some-read_named.chunks.number c.in-Some-read_named-2.fork.number s (search rules) (search rules) (search rules) c.in-Some.ensures c.in-Some-read_named.ensures c.in-Some-read_named-2.ensures is).1

pub returns-then-not-are_settings : goal.returns-then-not-are_settings
returns-then-not-are_settings c = λ s is.
    not_within c.in-Some.depth.number c.in-Some-read_named.chunks.number c.in-Some-read_named-2.fork.number s
    (first_is c.args.text.now c.in-Some.depth.rest.now c.in-Some.depth.number s (search rules) c.in-Some.ensures is).0
    (second_is c.args.text.now c.in-Some.depth.rest.now c.in-Some-read_named.chunks.rest.now c.in-Some.depth.number c.in-Some-read_named.chunks.number s (search rules) (search rules) c.in-Some.ensures c.in-Some-read_named.ensures is).0
    (third_is c.args.text.now c.in-Some.depth.rest.now c.in-Some-read_named.chunks.rest.now c.in-Some-read_named-2.fork.rest.now c.in-Some.depth.number c.in-Some-read_named.chunks.number c.in-Some-read_named-2.fork.number s (search rules) (search rules) (search rules) c.in-Some.ensures c.in-Some-read_named.ensures c.in-Some-read_named-2.ensures is).0
    (search rules)
