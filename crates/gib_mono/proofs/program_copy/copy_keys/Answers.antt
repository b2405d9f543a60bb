use Rattle.std.proofs.Common.{length, sym, subst}
use Rattle.gib_mono.specs.Declaring.{AreKeysInside}
use Rattle.gib_mono.specs.Sources.{globals_in}
use Rattle.gib_mono.proofs.program_copy.copy_keys.Goals as goal

pub copy_all-requires : goal.copy_all-requires
copy_all-requires c = subst (λ ns. AreKeysInside (globals_in c.args.source.now) (length ns) c.args.keys.now) (sym c.in_ok-name_copies.ensures.types) c.requires

pub returns : goal.returns
returns c = record {
  named = c.name_copies.new.copier;
  put = c.copy_all.new.copier;
  enters = c.in_ok-name_copies.ensures;
  declares = c.in_ok-declared.ensures;
  ends = c.in_ok-main.ensures;
}
