-- How the logic stores a value: a list of marks, as a text with brackets.
use Rattle.std.specs.Prelude.{◌≡◌, ℕ, zero, suc, ℤ, pos, List, [], ◌∷◌, ◌++◌, true, false, refl}
use Rattle.std.proofs.Common.{ap, ◌∙◌, append_assoc}
use Rattle.std.specs.Coded.{Coded, code_by, coded×, coded_ℕ, coded_ℤ, coded_list}
use Rattle.gib_types.specs.Tree.{Datum, whole, truth, con, Data, none, more}

-- A mark: which one it is, and a number for the mark of a number.
abbrev Mark : Type 0
Mark = ℕ × ℤ

-- The marks of a value: 1 is a number, 2 is `False`, 3 is `True`, 4 and a tag together are a constructor; behind
-- it stand its fields, and 0 ends them.
abbrev mutual
  marks : Datum → List Mark
  marks (whole z) = (1, z) ∷ []
  marks (truth false) = (2, pos 0) ∷ []
  marks (truth true) = (3, pos 0) ∷ []
  marks (con k vs) = (suc (suc (suc (suc k))), pos 0) ∷ all_marks vs

  all_marks : Data → List Mark
  all_marks none = (0, pos 0) ∷ []
  all_marks (more v vs) = marks v ++ all_marks vs

-- A value before the first of these lists.
abbrev put : Datum → List Data → List Data
put v [] = []
put v (vs ∷ rest) = more v vs ∷ rest

-- The first list becomes a value's fields.
abbrev gather : ℕ → List Data → List Data
gather k [] = []
gather k (ws ∷ rest) = put (con k ws) rest

-- What a mark makes of the lists behind it.
abbrev mark : ℕ → ℤ → List Data → List Data
mark zero z rest = none ∷ rest
mark (suc zero) z rest = put (whole z) rest
mark (suc (suc zero)) z rest = put (truth false) rest
mark (suc (suc (suc zero))) z rest = put (truth true) rest
mark (suc (suc (suc (suc k)))) z rest = gather k rest

-- The lists of values that marks stand for, read from the last mark to the first.
abbrev unmarked : List Mark → List Data
unmarked [] = []
unmarked (m ∷ ms) = mark m.0 m.1 (unmarked ms)

-- The marks of a value are read back as the value, those of fields as the fields.
mutual
  unmarked-marks : (v : Datum) (rest : List Mark) → unmarked (marks v ++ rest) ≡ put v (unmarked rest)
  unmarked-marks (whole z) rest = refl
  unmarked-marks (truth false) rest = refl
  unmarked-marks (truth true) rest = refl
  unmarked-marks (con k vs) rest = ap (gather k) (unmarked-all_marks vs rest)

  unmarked-all_marks : (vs : Data) (rest : List Mark) → unmarked (all_marks vs ++ rest) ≡ vs ∷ unmarked rest
  unmarked-all_marks none rest = refl
  unmarked-all_marks (more v vs) rest = ap unmarked (append_assoc (marks v) (all_marks vs) rest) ∙ unmarked-marks v (all_marks vs ++ rest) ∙ ap (put v) (unmarked-all_marks vs rest)

-- The first of these values; of none, `False`.
abbrev first_of : Data → Datum
first_of none = truth false
first_of (more v vs) = v

-- The first value of the first list; of no list, `False`.
abbrev first_list : List Data → Datum
first_list [] = truth false
first_list (vs ∷ rest) = first_of vs

-- A value as marks, with the mark of an end behind them.
abbrev to_marks : Datum → List Mark
to_marks v = marks v ++ (0, pos 0) ∷ []

-- The value that marks stand for.
abbrev from_marks : List Mark → Datum
from_marks ms = first_list (unmarked ms)

-- The marks of a value stand for that value.
pub from_marks-to_marks : (v : Datum) → from_marks (to_marks v) ≡ v
from_marks-to_marks v = ap first_list (unmarked-marks v ((0, pos 0) ∷ []))

-- How a value is stored: as its list of marks.
abbrev pub datum_code : Coded Datum
datum_code = code_by (List Mark) (coded_list (coded× coded_ℕ coded_ℤ)) to_marks from_marks from_marks-to_marks
