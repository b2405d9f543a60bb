-- Copies are shown by the names that they are copies of.
use Rattle.std.proofs.Common.{◌≡◌, ℕ, zero, suc, ◌<◌, List, [], ◌∷◌, ◌++◌, map, length, Some, refl, sym, ap, ◌∙◌, arith}
use Rattle.std.specs.Prelude.{slice_get}
use Rattle.std.specs.Option.{option_map}
use Rattle.std.proofs.lemmas.Option.{slice_get-map}
use Rattle.gib_types.specs.Table.{Row, name_of, name_at}
use Rattle.gib_syntax.specs.Declarations.{number_of, type_names, table_of_program}
use Rattle.gib_syntax.specs.Forms.{Forms, NoForm, MoreForms}
use Rattle.gib_syntax.specs.GenericTree.{GenericProgramTree, GenericRow, row_of, rows_of, globals_of_generic}
use Rattle.gib_mono.specs.Copying.{Naming}
use Rattle.gib_mono.specs.Copied.{Item}
use Rattle.gib_mono.specs.Walk.{Copy, DataCopy, datas_in, copied_program, Made, made_from, or_zero, base_of}
use Rattle.gib_mono.specs.Naming.{entry, entries, entry_place, number_with, naming_of, AreBelow}
use Rattle.gib_mono.specs.Showing.{source_text, long_text, short_name, long_name, long_texts, short_texts}
use Rattle.gib_mono.proofs.Here.{map_found, get_more_any, get_behind}
use Rattle.gib_mono.proofs.Tables.{made_row, rows_made, made_found, rows_at, row_placed}
use Rattle.gib_mono.proofs.Apart.{data_declared}
use Rattle.gib_mono.proofs.Whole.{IsSet}
use Rattle.gib_mono.proofs.Names.{place_right, constructors_named, types_named}

pub some_text : (names : List (List ℕ)) (x : ℕ) → x < length names → slice_get names x ≡ Some (source_text names x)
some_text [] x h = absurd (omega (arith, h))
some_text (n ∷ names) zero h = refl
some_text (n ∷ names) (suc x) h = some_text names x (omega (arith, h))

-- the text behind those of the source, at the number of an entry
text_at : (names : List (List ℕ)) (items : List Item) (show : Item → List ℕ) → ((x : ℕ) → show (entry x NoForm) ≡ source_text names x) → (n : ℕ) (x : ℕ) (ts : Forms) → x < length names → slice_get items n ≡ Some (entry x ts) →
    slice_get (names ++ map show items) (number_with (length names) items x ts) ≡ Some (show (entry x ts))
text_at names items show plain n x NoForm below e = get_more_any (List ℕ) names (map show items) x (source_text names x) (some_text names x below) ∙ ap Some (sym (plain x))
text_at names items show plain n x (MoreForms t ts) below e =
    get_behind (List ℕ) names (map show items) (entry_place items x (MoreForms t ts)) (show (entry x (MoreForms t ts)))
    (slice_get-map show items (entry_place items x (MoreForms t ts)) ∙ ap (option_map show) (place_right items n x (MoreForms t ts) e))

-- the number of the name of a constructor of the copy
pub name_is : (p : GenericProgramTree) (nm : Naming) (found : List Copy) (d : ℕ) (m : Made) → slice_get (made_from 0 (datas_in found)) d ≡ Some m → name_at (table_of_program (copied_program p nm found)) d ≡ nm.constructors (number_of m.constructor.name) m.copy.types
name_is p nm found d m e =
    ap name_of (ap (λ (rows : List Row). slice_get rows d) (rows_made nm (type_names (copied_program p nm found)) 0 (datas_in found))
    ∙ slice_get-map (made_row nm (type_names (copied_program p nm found))) (made_from 0 (datas_in found)) d ∙ ap (option_map (made_row nm (type_names (copied_program p nm found)))) e)

-- what is within a list stands there
pub within : (A : Type 0) (xs : List A) (i : ℕ) → i < length xs → (x : A) × (slice_get xs i ≡ Some x)
within A [] i h = absurd (omega (arith, h))
within A (x ∷ xs) zero h = (x, refl)
within A (x ∷ xs) (suc i) h = within A xs i (omega (arith, h))

-- the text of a constructor of the copy
pub made_shown : (p : GenericProgramTree) (found : List Copy) (names : List (List ℕ)) → AreBelow (length names) found → (d : ℕ) (m : Made) → slice_get (made_from 0 (datas_in found)) d ≡ Some m →
    slice_get (short_texts names (entries found)) (name_at (table_of_program (copied_program p (naming_of (length names) (entries found)) found)) d) ≡ Some (source_text names (number_of m.constructor.name))
made_shown p found names below d m e =
    let nm = naming_of (length names) (entries found) in
    let made = made_found 0 (datas_in found) d m e in
    let named = constructors_named found made.index made.place m.copy m.constructor made.copied made.there in
    ap (slice_get (short_texts names (entries found))) (name_is p nm found d m e)
    ∙ text_at names (entries found) (short_name names) (λ x. refl) named.0 (number_of m.constructor.name) m.copy.types
    (below named.0 (entry (number_of m.constructor.name) m.copy.types) named.1) named.1

-- and its name is one of the source's
pub made_below : (found : List Copy) (base : ℕ) → AreBelow base found → (d : ℕ) (m : Made) → slice_get (made_from 0 (datas_in found)) d ≡ Some m → number_of m.constructor.name < base
made_below found base below d m e =
    let made = made_found 0 (datas_in found) d m e in
    let named = constructors_named found made.index made.place m.copy m.constructor made.copied made.there in
    below named.0 (entry (number_of m.constructor.name) m.copy.types) named.1

-- a constructor of the copy has, in values, the text of the one that it is a copy of
pub shown_short : (p : GenericProgramTree) (found : List Copy) (names : List (List ℕ)) → IsSet p (naming_of (length names) (entries found)) (entries found) found → AreBelow (length names) found →
    (d : ℕ) → d < length (table_of_program (copied_program p (naming_of (length names) (entries found)) found)).rows →
    (row : GenericRow) × (slice_get (rows_of p.datas) (base_of (rows_of p.datas) found d) ≡ Some row)
    × (slice_get (short_texts names (entries found)) (name_at (table_of_program (copied_program p (naming_of (length names) (entries found)) found)) d) ≡ Some (source_text names row.name))
shown_short p found names is below d inside =
    let nm = naming_of (length names) (entries found) in
    let q = copied_program p nm found in
    let at = within Row (table_of_program q).rows d inside in
    let m = map_found Made Row (made_row nm (type_names q)) (made_from 0 (datas_in found)) d at.0 (ap (λ (rows : List Row). slice_get rows d) (sym (rows_made nm (type_names q) 0 (datas_in found))) ∙ at.1) in
    let made = made_found 0 (datas_in found) d m.0 m.1 in
    let own = data_declared (globals_of_generic p) found made.index (m.0).copy is.closed.good.declared made.copied in
    let row = rows_at p (m.0).copy.decl made.place (m.0).constructor own made.there in
    let base : base_of (rows_of p.datas) found d ≡ row.0 = ap (Rattle.gib_mono.specs.Walk.base_at (rows_of p.datas)) m.1 ∙ ap or_zero (row_placed p is.typed row.0 (row_of (m.0).copy.decl (m.0).constructor) row.1) in
    let named = constructors_named found made.index made.place (m.0).copy (m.0).constructor made.copied made.there in (
      row_of (m.0).copy.decl (m.0).constructor,
      ap (slice_get (rows_of p.datas)) base ∙ row.1,
      ap (slice_get (short_texts names (entries found))) (name_is p nm found d m.0 m.1)
          ∙ text_at names (entries found) (short_name names) (λ x. refl) named.0 (number_of (m.0).constructor.name) (m.0).copy.types
          (below named.0 (entry (number_of (m.0).constructor.name) (m.0).copy.types) named.1) named.1,
    )

-- a type of the copy has, in cores and descriptions, its name with its types
pub shown_long : (p : GenericProgramTree) (found : List Copy) (names : List (List ℕ)) → AreBelow (length names) found → (i : ℕ) (c : DataCopy) → slice_get (datas_in found) i ≡ Some c →
    slice_get (long_texts names (entries found)) (number_with (length names) (entries found) (number_of c.decl.name) c.types) ≡ Some (long_text names (number_of c.decl.name) c.types)
shown_long p found names below i c e =
    let named = types_named found i c e in
    text_at names (entries found) (long_name names) (λ x. refl) named.0 (number_of c.decl.name) c.types (below named.0 (entry (number_of c.decl.name) c.types) named.1) named.1
