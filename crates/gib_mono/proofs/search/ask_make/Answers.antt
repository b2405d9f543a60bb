use Rattle.std.proofs.Common.{◌∷◌, false, length, refl, sym, subst}
use Rattle.gib_types.specs.Types.{AreBelow}
use Rattle.gib_syntax.specs.Forms.{formed_all}
use Rattle.gib_syntax.specs.Words.{all_types, stack_of}
use Rattle.gib_mono.specs.Reading.{AreUsesBelow}
use Rattle.gib_mono.specs.Searching.{Asks}
use Rattle.gib_mono.specs.Sources.{globals_in}
use Rattle.gib_mono.specs.Walk.{writtens_asks}
use Rattle.gib_mono.proofs.Seeking.{if_ok, named_asked}
use Rattle.gib_mono.proofs.search.ask_make.Goals as goal

pub ask_type-requires : goal.ask_type-requires
ask_type-requires c = subst (AreBelow (length c.read.new.self.types)) (sym c.into_vec.ensures) c.in_ok-reading.ensures.below.0

pub ask_uses-requires : goal.ask_uses-requires
ask_uses-requires c = subst (λ k. AreUsesBelow (length k.types) c.in_ok-reading.reading.uses) (sym c.in_ok-ask_type.ensures.context) c.in_ok-reading.ensures.below.1

pub returns : goal.returns
returns c =
    if_ok _ _ c.ask_uses.result (λ u h.
    subst (λ z. Asks (globals_in c.args.source.now) c.args.search.now c.ask_uses.new.search (λ m. record { function = false; name = z; types = formed_all m (all_types (stack_of c.args.words.now)); span = c.args.k.span } ∷ writtens_asks m (all_types (stack_of c.args.words.now)))) c.owner.ensures
    (named_asked (globals_in c.args.source.now) c.args.search.now (record { alloc = c.args.search.now.alloc; context = c.read.new.self; found = c.args.search.now.found; limit = c.args.search.now.limit }) c.ask_type.new.search c.ask_uses.new.search
    c.args.words.now c.in_ok-reading.reading false c.owner.result.0 c.args.k.span c.into_vec.result.items c.in_ok-reading.ensures refl refl c.into_vec.ensures c.in_ok-ask_type.ensures h)) c.ask_uses.ensures
