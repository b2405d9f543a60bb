-- The text of a value in items.
use Rattle.std.specs.Prelude.{◌≡◌, ◌<◌, ℕ, List, [], ◌∷◌, ◌++◌, length, reverse}
use Rattle.gib_types.specs.declared.table.ConId.{ConId}
use Rattle.gib_types.specs.Layout.{LaidOut}
use Rattle.gib_types.specs.Tree.{Datum}
use Rattle.gib_mem.specs.Memory.{Store}
use Rattle.gib_value.specs.Text.{text}
use Rattle.gib_packed.specs.Decoding.{Dec}
use Rattle.gib_print.specs.Piece.{piece_text}
use Rattle.gib_print.specs.Framing.{works, printed_text, IsPrintable}
use Rattle.gib_print.specs.Working.{Left}
use Rattle.gib_print.specs.declared.frame.Frame.{Frame}
use Rattle.gib_print.specs.declared.piece.Piece.TheVariants as p
use Rattle.gib_print.specs.declared.turn.Printed.{Printed}
use Rattle.gib_print.specs.declared.turn.Progress.{Progress}
use Rattle.gib_print.specs.declared.item.Item.{Item}
use Rattle.gib_print.specs.declared.item.Item.TheVariants as i

-- IsItem laid names s item bytes: these are the bytes of the item, of a part a space and the text of the value that stands there.
pub data IsItem (laid : LaidOut) (names : List (List ℕ)) (s : Store) : Item → List ℕ → Type 0 where
  a_first : {con : ConId} → con.0 < length laid.table.rows → IsItem laid names s (i.First con) (piece_text laid.table names (p.First con))
  a_turn : {printed : Printed} → IsPrintable laid.table printed → IsItem laid names s (i.Turn printed) (printed_text laid.table names printed)
  a_part : {a t z : ℕ} {v : Datum} → Dec laid s a t v z → IsItem laid names s (i.Part a) (32 ∷ text laid.table names v)
  a_line : IsItem laid names s i.Line (10 ∷ [])

-- Cut laid names s items bytes: the bytes are those of the items, one behind another.
pub data Cut (laid : LaidOut) (names : List (List ℕ)) (s : Store) : List Item → List ℕ → Type 0 where
  none : Cut laid names s [] []
  more : {item : Item} {items : List Item} {bytes rest : List ℕ} → IsItem laid names s item bytes → Cut laid names s items rest
      → Cut laid names s (item ∷ items) (bytes ++ rest)

-- The frames of a walk print the rest.
abbrev pub IsLeft : LaidOut → List (List ℕ) → Store → Progress → List ℕ → Type 0
IsLeft laid names s progress rest = Left laid names s (works laid.table (reverse progress.frames.items)) progress.end rest

-- Something is left that the frames of a walk print.
abbrev pub HasNext : LaidOut → Store → Progress → Type 0
HasNext laid s progress = (names : List (List ℕ)) × (rest : List ℕ) × IsLeft laid names s progress rest

-- What is left begins with the bytes of the item, and what is behind them is left to these frames, where the last value ended at b.
pub record Comes (laid : LaidOut) (names : List (List ℕ)) (s : Store) (item : Item) (frames : List Frame) (b : ℕ) (rest : List ℕ) : Type 0 where
  pub bytes : List ℕ
  pub later : List ℕ
  pub is : IsItem laid names s item bytes
  pub left : Left laid names s (works laid.table frames) b later
  pub whole : bytes ++ later ≡ rest

-- Between these two the walk came to the item, whatever was left.
abbrev pub ComesNext : LaidOut → Store → Progress → Progress → Item → Type 0
ComesNext laid s before after item =
    (names : List (List ℕ)) (rest : List ℕ) → IsLeft laid names s before rest → Comes laid names s item (reverse after.frames.items) after.end rest
