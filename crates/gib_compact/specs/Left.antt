-- What of a value is left to pack, as the code keeps it.
use Rattle.std.specs.Prelude.{◌≡◌, ◌<◌, ℕ, suc, ◌+◌, List, [], ◌∷◌, ◌++◌, length, reverse, get_or}
use Rattle.gib_types.specs.Table.{fields_at}
use Rattle.gib_types.specs.Layout.{LaidOut, layout_at, scalar_size}
use Rattle.gib_types.specs.Tree.{Datum}
use Rattle.gib_mem.specs.Memory.{Store, Holds, byte}
use Rattle.gib_file.specs.Packed.{tree}
use Rattle.gib_packed.specs.Decoding.{Dec}
use Rattle.gib_compact.specs.declared.walk.Back.{Back}
use Rattle.gib_compact.specs.declared.walk.Walk.{Walk}
use Rattle.gib_compact.specs.declared.walk.Head.{Head}

-- Left laid s a n backs rest: n values are due from a on, one after another, and then those of each way back, the innermost
-- first; together their bytes are the rest.
pub data Left (laid : LaidOut) (s : Store) : ℕ → ℕ → List Back → List ℕ → Type 0 where
  over : {a : ℕ} → Left laid s a 0 [] []
  back : {a : ℕ} {b : Back} {bs : List Back} {rest : List ℕ} → Left laid s b.at b.due bs rest → Left laid s a 0 (b ∷ bs) rest
  value : {a t z n : ℕ} {v : Datum} {bs : List Back} {rest : List ℕ} → Dec laid s a t v z → Left laid s z n bs rest → Left laid s a (suc n) bs (tree v ++ rest)

-- What a walk has left.
abbrev pub IsLeft : LaidOut → Store → Walk → List ℕ → Type 0
IsLeft laid s w rest = Left laid s w.at w.due (reverse w.back.items) rest

-- Where the scalars of the head of k at h stand.
abbrev pub scalars_at : LaidOut → ℕ → ℕ → ℕ
scalars_at laid h k = h + 1 + (layout_at laid.table laid.with_offsets k).offsets

-- At h stands the head of the constructor k, and these are the bytes of its scalars.
pub record IsHead (laid : LaidOut) (s : Store) (h k : ℕ) (scalars : List ℕ) : Type 0 where
  pub tag : s h ≡ byte k
  pub small : k < 254
  pub known : k < length laid.table.rows
  pub holds : Holds s (scalars_at laid h k) scalars
  pub long : length scalars ≡ scalar_size (fields_at laid.table k)
  pub small_bytes : (i : ℕ) → get_or scalars i 0 < 256

-- The rest begins with the bytes of the head, and what is behind them is left now.
pub record Splits (laid : LaidOut) (s : Store) (head : Head) (new : Walk) (rest : List ℕ) : Type 0 where
  pub scalars : List ℕ
  pub later : List ℕ
  pub is : IsHead laid s head.at head.con.0 scalars
  pub left : IsLeft laid s new later
  pub whole : rest ≡ head.con.0 ∷ (scalars ++ later)

-- The head of the next value stands at h, and what the new walk has due is due behind this value.
pub record Found (laid : LaidOut) (s : Store) (h : ℕ) (new : Walk) (rest : List ℕ) : Type 0 where
  pub t : ℕ
  pub v : Datum
  pub end : ℕ
  pub later : List ℕ
  pub value : Dec laid s h t v end
  pub left : Left laid s end new.due (reverse new.back.items) later
  pub whole : rest ≡ tree v ++ later

-- From a on stand so many bytes with which the rest begins, and what is behind them is left now.
pub record Runs (laid : LaidOut) (s : Store) (a count : ℕ) (new : Walk) (rest : List ℕ) : Type 0 where
  pub bytes : List ℕ
  pub later : List ℕ
  pub holds : Holds s a bytes
  pub long : length bytes ≡ count
  pub small_bytes : (i : ℕ) → get_or bytes i 0 < 256
  pub left : IsLeft laid s new later
  pub whole : rest ≡ bytes ++ later

-- So many bytes with which the rest begins were passed, and what is behind them is left now.
pub record Passes (laid : LaidOut) (s : Store) (count : ℕ) (new : Walk) (rest : List ℕ) : Type 0 where
  pub bytes : List ℕ
  pub later : List ℕ
  pub long : length bytes ≡ count
  pub left : IsLeft laid s new later
  pub whole : rest ≡ bytes ++ later

-- The bytes with which the rest begins were written, and what is behind them is left now; so many of the most bytes are left.
pub record Puts (laid : LaidOut) (s : Store) (new : Walk) (most few : ℕ) (before now rest : List ℕ) : Type 0 where
  pub bytes : List ℕ
  pub later : List ℕ
  pub out : now ≡ before ++ bytes
  pub left : IsLeft laid s new later
  pub whole : rest ≡ bytes ++ later
  pub count : length bytes + few ≡ most
