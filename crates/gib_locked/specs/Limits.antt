-- The limits of what a weave is started with.
use Rattle.std.specs.Prelude.{ℕ, Bool, ◌&&◌, nat_le}

-- So many calls may be nested, so many chunks are there, and so many forks may be nested.
abbrev pub are_settings : (depth chunks fork : ℕ) → Bool
are_settings depth chunks fork = nat_le 1 depth && (nat_le depth 1000000 && (nat_le 16 chunks && (nat_le chunks 65536 && nat_le fork 64)))
