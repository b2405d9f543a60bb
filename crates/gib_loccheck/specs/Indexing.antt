-- Flags of constructors by their numbers.
use Rattle.std.specs.Prelude.{◌≡◌, Bool, List, Option}
use Rattle.gib_base.specs.Entries.{entry_at}
use Rattle.gib_types.specs.declared.table.ConId.{ConId}
use Rattle.gib_core.specs.Rules.{is_one_of}
use Rattle.gib_loccheck.specs.Found.{is_found}

-- The numbers at which something stands are those of these constructors.
pub record AreFlagged (constructors : List ConId) (flags : List (Option Bool)) : Type 0 where
  pub each : (k : ConId) → is_found (entry_at flags k.0) ≡ is_one_of constructors k
