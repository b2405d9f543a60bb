use Rattle.std.proofs.Common.{refl, sym, ap₂, ◌∙◌, subst}
use Rattle.gib_types.specs.Form.{has_long}
use Rattle.gib_types.specs.Types.{forms_of, forms_at, AreOnce}
use Rattle.gib_mono.proofs.Seeking.{none_is}
use Rattle.gib_mono.proofs.search.is_over.Goals as goal

pub returns-clause-short : goal.returns-clause-short
returns-clause-short c = λ e. record {
  same = refl;
  on = none_is c.args.search.now.limit (sym c.is_some.ensures ∙ c.if-is_some.false);
  short = ap₂ (λ ns is. has_long (forms_at (forms_of ns) is)) (sym c.types-met.ensures) (sym c.deref.ensures.value) ∙ sym c.has_long.ensures ∙ c.if-has_long.false;
  once = subst (λ ns. AreOnce (forms_of ns)) c.types-met.ensures c.len-count.ensures.once;
}
