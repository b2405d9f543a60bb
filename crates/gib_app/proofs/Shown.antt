-- A value of the copy has the text of the value that it is read as.
use Rattle.std.proofs.Common.{◌≡◌, ℕ, zero, suc, ◌<◌, List, [], ◌∷◌, ◌++◌, length, Option, Some, None, refl, ap, ◌∙◌, arith}
use Rattle.std.specs.Prelude.{slice_get}
use Rattle.gib_types.specs.declared.table.Ty.{Ty}
use Rattle.gib_types.specs.declared.table.Ty.TheVariants.{Whole, Truth, Tree}
use Rattle.gib_types.specs.Table.{Row, Table, if_owned, fields_at}
use Rattle.gib_types.specs.Tree.{Datum, whole, truth, con, Data, none, more, HasType, HaveTypes}
use Rattle.gib_value.specs.Text.{con_text, spell, spell_fields}
use Rattle.gib_syntax.specs.GenericTree.{GenericRow}
use Rattle.gib_mono.specs.Copied.{shown, shown_all}
use Rattle.gib_app.specs.GenericText.{generic_con_text, generic_spell, generic_spell_fields}

-- each constructor of the table has the text of the one that it is read as
abbrev pub AreShown : Table → List (List ℕ) → List GenericRow → List (List ℕ) → (ℕ → ℕ) → Type 0
AreShown table short rows names base = (d : ℕ) → d < length table.rows → con_text table short d ≡ generic_con_text rows names (base d)

inside : (rows : List Row) (t k : ℕ) → if_owned t k (slice_get rows k) ≡ Some k → k < length rows
inside rows t k h = step (slice_get rows k) refl h where
  short : (rows : List Row) (k : ℕ) (row : Row) → slice_get rows k ≡ Some row → k < length rows
  short [] k row e = absurd cc
  short (r ∷ rows) zero row e = omega arith
  short (r ∷ rows) (suc k) row e = let rest = short rows k row e in omega (arith, rest)

  step : (o : Option Row) → slice_get rows k ≡ o → if_owned t k o ≡ Some k → k < length rows
  step None e h = absurd cc
  step (Some row) e h = short rows k row e

mutual
  pub text_shown : (table : Table) (short : List (List ℕ)) (rows : List GenericRow) (names : List (List ℕ)) (base : ℕ → ℕ) → AreShown table short rows names base → (v : Datum) (ty : Ty) (rest : List ℕ) → HasType table v ty →
      spell table short v rest ≡ generic_spell rows names (shown base v) rest
  text_shown table short rows names base same (whole z) ty rest h = refl
  text_shown table short rows names base same (truth b) ty rest h = refl
  text_shown table short rows names base same (con k vs) Whole rest h = absurd h
  text_shown table short rows names base same (con k vs) Truth rest h = absurd h
  text_shown table short rows names base same (con k none) (Tree t) rest h = ap (λ (u : List ℕ). u ++ rest) (same k (inside table.rows t.0 k h.0))
  text_shown table short rows names base same (con k (more v vs)) (Tree t) rest h =
      ap (λ (u : List ℕ). 40 ∷ (u ++ 32 ∷ spell table short v (spell_fields table short vs rest))) (same k (inside table.rows t.0 k h.0))
      ∙ ap (λ (u : List ℕ). 40 ∷ (generic_con_text rows names (base k) ++ u)) (fields_shown table short rows names base same (more v vs) (fields_at table k) rest h.1)

  fields_shown : (table : Table) (short : List (List ℕ)) (rows : List GenericRow) (names : List (List ℕ)) (base : ℕ → ℕ) → AreShown table short rows names base → (vs : Data) (ts : List Ty) (rest : List ℕ) → HaveTypes table vs ts →
      spell_fields table short vs rest ≡ generic_spell_fields rows names (shown_all base vs) rest
  fields_shown table short rows names base same none ts rest h = refl
  fields_shown table short rows names base same (more v vs) [] rest h = absurd h
  fields_shown table short rows names base same (more v vs) (t ∷ ts) rest h =
      ap (λ (u : List ℕ). 32 ∷ spell table short v u) (fields_shown table short rows names base same vs ts rest h.1)
      ∙ ap (λ (u : List ℕ). 32 ∷ u) (text_shown table short rows names base same v t (generic_spell_fields rows names (shown_all base vs) rest) h.0)
