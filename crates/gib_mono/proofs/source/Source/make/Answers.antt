use Rattle.std.proofs.Common.{sym, subst}
use Rattle.gib_syntax.specs.GenericParts.{generic_program_of}
use Rattle.gib_syntax.specs.GenericTyping.{IsTypedGeneric}
use Rattle.gib_mono.proofs.source.Source.make.Goals as goal

pub invariant_of-result : goal.invariant_of-result
invariant_of-result c = subst (λ p. IsTypedGeneric (generic_program_of p)) (sym c.in_ok-named.ensures) c.requires
