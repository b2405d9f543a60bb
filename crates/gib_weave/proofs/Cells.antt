-- What stands in a cell is one thing: a byte, nothing yet, or no cell.
use Rattle.std.proofs.Common.{◌≡◌, ℕ}
use Rattle.gib_mem.specs.Memory.{absent, fresh, byte}

pub fresh_byte : {b : ℕ} → fresh ≡ byte b → ⊥
fresh_byte e = absurd cc

pub byte_fresh : {b : ℕ} → byte b ≡ fresh → ⊥
byte_fresh e = absurd cc

pub byte_absent : {b : ℕ} → byte b ≡ absent → ⊥
byte_absent e = absurd cc

pub fresh_absent : fresh ≡ absent → ⊥
fresh_absent e = absurd cc

pub absent_fresh : absent ≡ fresh → ⊥
absent_fresh e = absurd cc

pub one_byte : {x y : ℕ} → byte x ≡ byte y → x ≡ y
one_byte e = cc
