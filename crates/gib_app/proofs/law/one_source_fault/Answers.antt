use Rattle.gib_base.specs.declared.token.Dialect.TheVariants as dialect
use Rattle.gib_app.proofs.SourceLaws.{Laws}
use Rattle.gib_app.proofs.LocatedLaws.{Laws as LocatedOnes}
use Rattle.gib_app.proofs.Dialects.{none_of, one_in}
use Rattle.gib_app.proofs.law.one_source_fault.Goals as goal

pub returns-clause-one : goal.returns-clause-one
returns-clause-one c =
    let laws : Laws = record { nothing = c.one_refusal.ensures.nothing; one = c.one_refusal.ensures.one; lexed = c.one_reading.ensures; text = c.one_text.ensures; blamed = c.one_blame.ensures.blamed; nested = c.one_blame.ensures.nested; either = c.one_blame.ensures.either; not_blamed = c.one_blame.ensures.not_blamed; not_nested = c.one_blame.ensures.not_nested; typed = c.faults_are_exact.ensures.none } in
    let located : LocatedOnes = record { nothing = c.one_refusal_in.ensures.nothing dialect.Located; one = c.one_refusal_in.ensures.one dialect.Located; lexed = c.one_reading_in.ensures dialect.Located; answered = c.texts_are_answered.ensures } in
    λ d source f g h k. one_in laws located d source f g h k

pub returns-clause-none : goal.returns-clause-none
returns-clause-none c =
    let laws : Laws = record { nothing = c.one_refusal.ensures.nothing; one = c.one_refusal.ensures.one; lexed = c.one_reading.ensures; text = c.one_text.ensures; blamed = c.one_blame.ensures.blamed; nested = c.one_blame.ensures.nested; either = c.one_blame.ensures.either; not_blamed = c.one_blame.ensures.not_blamed; not_nested = c.one_blame.ensures.not_nested; typed = c.faults_are_exact.ensures.none } in
    let located : LocatedOnes = record { nothing = c.one_refusal_in.ensures.nothing dialect.Located; one = c.one_refusal_in.ensures.one dialect.Located; lexed = c.one_reading_in.ensures dialect.Located; answered = c.texts_are_answered.ensures } in
    λ d source f h. none_of laws located d source f h
