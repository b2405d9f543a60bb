-- The packed fields of a value, one by one.
use Rattle.std.specs.Prelude.{◌≡◌, ◌<◌, ◌≤◌, ℕ, suc, true, List, ◌∷◌}
use Rattle.gib_mem.specs.Memory.{Store, byte}
use Rattle.gib_types.specs.declared.table.Ty.{Ty}
use Rattle.gib_types.specs.declared.table.Ty.TheVariants.{Whole, Truth, Tree}
use Rattle.gib_types.specs.declared.table.TyId.{TyId}
use Rattle.gib_types.specs.Layout.{LaidOut, has_offsets, packed_at}
use Rattle.gib_types.specs.Tree.{Datum, Data, more}
use Rattle.gib_packed.specs.Decoding.{Dec}

-- Field laid s a ts vs n v p z: of the fields vs of the types ts, of which the packed ones stand one after another from a
-- on, the packed one with number n (from 0) is v; it stands at p and ends at z.
pub data Field (laid : LaidOut) (s : Store) : ℕ → List Ty → Data → ℕ → Datum → ℕ → ℕ → Type 0 where
  this : {a z : ℕ} {t : TyId} {v : Datum} {ts : List Ty} {vs : Data} → Dec laid s a t.0 v z → Field laid s a (Tree t ∷ ts) (more v vs) 0 v a z
  later : {a y n p z : ℕ} {t : TyId} {w v : Datum} {ts : List Ty} {vs : Data} → Dec laid s a t.0 w y → Field laid s y ts vs n v p z
      → Field laid s a (Tree t ∷ ts) (more w vs) (suc n) v p z
  past_whole : {a n p z : ℕ} {w v : Datum} {ts : List Ty} {vs : Data} → Field laid s a ts vs n v p z → Field laid s a (Whole ∷ ts) (more w vs) n v p z
  past_truth : {a n p z : ℕ} {w v : Datum} {ts : List Ty} {vs : Data} → Field laid s a ts vs n v p z → Field laid s a (Truth ∷ ts) (more w vs) n v p z

-- At an address stands the head of a constructor that has offsets, and the number is that of one of its packed fields, counted
-- from 1, but not of the first one: the head stores where this field starts.
pub record IsStored (laid : LaidOut) (s : Store) (at field : ℕ) : Type 0 where
  pub con : ℕ
  pub tag : s at ≡ byte con
  pub below : con < 254
  pub offsets : has_offsets laid con ≡ true
  pub later : 2 ≤ field
  pub packed : field ≤ packed_at laid con
