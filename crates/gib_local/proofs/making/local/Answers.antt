use Rattle.std.proofs.Common.{ap, sym, ◌∙◌}
use Rattle.gib_base.specs.declared.token.Dialect.TheVariants.{Located}
use Rattle.gib_base.specs.Lexed.{Lexed}
use Rattle.gib_core.specs.Parts.{core_of}
use Rattle.gib_local.proofs.Telling.{only_answered, only_unlexed, refused_bytes, unlexed}
use Rattle.gib_local.proofs.making.local.Goals as goal

pub returns-clause-made : goal.returns-clause-made
returns-clause-made c =
    let t = c.in-Ok.ensures.lexed in
    let l = c.answered_is_local.ensures c.args.bytes.now c.in-Ok.tokens (core_of c.in-Ok-answered.core) t.is t.short t.few_names c.in-Ok-answered.ensures in
    (l.0, l.1, l.2, l.3, c.into_names.ensures ∙ ap (λ (x : Lexed). x.names) (sym l.4))

pub returns-in-Err-clause-refused : goal.returns-in-Err-clause-refused
returns-in-Err-clause-refused c = unlexed c.args.bytes.now c.in-Err.fault c.in-Err.ensures.refused

pub returns-in-Err-clause-only : goal.returns-in-Err-clause-only
returns-in-Err-clause-only c = λ core l b. only_unlexed (c.one_refusal_in.ensures.nothing Located) c.args.bytes.now c.in-Err.fault core l c.in-Err.ensures.refused

pub returns-in-Err-answered-clause-refused : goal.returns-in-Err-answered-clause-refused
returns-in-Err-answered-clause-refused c = refused_bytes c.args.bytes.now c.in-Ok.tokens c.in-Err-answered.fault c.in-Ok.ensures.lexed c.in-Err-answered.ensures

pub returns-in-Err-answered-clause-only : goal.returns-in-Err-answered-clause-only
returns-in-Err-answered-clause-only c = λ core l b. only_answered (c.one_reading_in.ensures Located) c.args.bytes.now c.in-Ok.tokens c.in-Err-answered.fault core l (c.texts_are_answered.ensures c.args.bytes.now core l b) c.in-Ok.ensures.lexed c.in-Err-answered.ensures
