-- Constructors of one copied type have different texts.
use Rattle.std.proofs.Common.{◌≡◌, ℕ, ◌<◌, List, [], length, Some, sym, ap, ap₂, ◌∙◌, arith}
use Rattle.std.specs.Prelude.{slice_get, unwrap_or}
use Rattle.std.specs.Option.{option_map}
use Rattle.std.proofs.lemmas.Option.{same_Some, slice_get-map}
use Rattle.gib_base.specs.Names.{AreNames}
use Rattle.gib_types.specs.Table.{Row, con_at, owner_of, name_of, name_at}
use Rattle.gib_types.proofs.Owners.{tag_back}
use Rattle.gib_syntax.specs.Declarations.{number_of, type_names, table_of_program, constructor_names}
use Rattle.gib_syntax.specs.Forms.{Forms}
use Rattle.gib_syntax.specs.GenericTree.{GenericProgramTree}
use Rattle.gib_syntax.specs.Tree.{ProgramTree}
use Rattle.gib_mono.specs.Copying.{Naming}
use Rattle.gib_mono.specs.Walk.{Copy, DataCopy, datas_in, copied_program, Made, made_from}
use Rattle.gib_mono.specs.Naming.{entries, naming_of, AreBelow}
use Rattle.gib_mono.specs.Showing.{source_text, short_texts}
use Rattle.gib_mono.proofs.Here.{map_found}
use Rattle.gib_mono.proofs.Tables.{one_place, made_row, rows_made, made_found}
use Rattle.gib_mono.proofs.Whole.{IsSet, constructor_names_differ}
use Rattle.gib_mono.proofs.Showing.{within, some_text, name_is, made_shown, made_below}

module _ (p : GenericProgramTree) (found : List Copy) (names : List (List ℕ)) (is : IsSet p (naming_of (length names) (entries found)) (entries found) found) (below : AreBelow (length names) found) (differ : AreNames names) where
  abbrev nm : Naming
  nm = naming_of (length names) (entries found)

  abbrev q : ProgramTree
  q = copied_program p nm found

  abbrev types : List ℕ
  types = type_names q

  abbrev texts : List (List ℕ)
  texts = short_texts names (entries found)

  -- the text of a constructor
  abbrev text_of : ℕ → List ℕ
  text_of d = unwrap_or (slice_get texts (name_at (table_of_program q) d)) []

  made_in : (d : ℕ) → d < length (table_of_program q).rows → (m : Made) × (slice_get (made_from 0 (datas_in found)) d ≡ Some m)
  made_in d inside =
      let at = within Row (table_of_program q).rows d inside in
      let m = map_found Made Row (made_row nm types) (made_from 0 (datas_in found)) d at.0 (ap (λ (rows : List Row). slice_get rows d) (sym (rows_made nm types 0 (datas_in found))) ∙ at.1) in
      (m.0, m.1)

  -- its type is numbered as the copy that it belongs to
  owned : (d t : ℕ) (m : Made) → slice_get (made_from 0 (datas_in found)) d ≡ Some m → owner_of (slice_get (table_of_program q).rows d) ≡ t → m.type_number ≡ t
  owned d t m e own =
      let at : slice_get (table_of_program q).rows d ≡ Some (made_row nm types m) =
      ap (λ (rows : List Row). slice_get rows d) (rows_made nm types 0 (datas_in found)) ∙ slice_get-map (made_row nm types) (made_from 0 (datas_in found)) d ∙ ap (option_map (made_row nm types)) e in
      sym (ap owner_of at) ∙ own

  same_copy : (d e t : ℕ) (m n : Made) → slice_get (made_from 0 (datas_in found)) d ≡ Some m → slice_get (made_from 0 (datas_in found)) e ≡ Some n → m.type_number ≡ t → n.type_number ≡ t → m.copy ≡ n.copy
  same_copy d e t m n a b f g =
      let x = made_found 0 (datas_in found) d m a in
      let y = made_found 0 (datas_in found) e n b in
      let index : x.index ≡ y.index = omega (arith, x.number, y.number, f, g) in
      same_Some m.copy n.copy (sym x.copied ∙ ap (slice_get (datas_in found)) index ∙ y.copied)

  name_found : (d : ℕ) (m : Made) → slice_get (made_from 0 (datas_in found)) d ≡ Some m → d < length (table_of_program q).rows → slice_get (constructor_names (table_of_program q)) d ≡ Some (nm.constructors (number_of m.constructor.name) m.copy.types)
  name_found d m e inside =
      let at = within Row (table_of_program q).rows d inside in
      slice_get-map (λ (r : Row). r.name) (table_of_program q).rows d ∙ ap (option_map (λ (r : Row). r.name)) at.1
      ∙ ap Some (sym (ap name_of at.1) ∙ name_is p nm found d m e)

  pub texts_apart : (t k j : ℕ) → con_at (table_of_program q) t k ≡ Some k → con_at (table_of_program q) t j ≡ Some j → text_of k ≡ text_of j → k ≡ j
  texts_apart t k j a b same =
      let x = tag_back (table_of_program q) t k k a in
      let y = tag_back (table_of_program q) t j j b in
      let m = made_in k x.1 in
      let n = made_in j y.1 in
      let copy = same_copy k j t m.0 n.0 m.1 n.1 (owned k t m.0 m.1 x.2) (owned j t n.0 n.1 y.2) in
      let text : source_text names (number_of (m.0).constructor.name) ≡ source_text names (number_of (n.0).constructor.name) =
      sym (ap (λ o. unwrap_or o []) (made_shown p found names below k m.0 m.1)) ∙ same ∙ ap (λ o. unwrap_or o []) (made_shown p found names below j n.0 n.1) in
      let number : number_of (m.0).constructor.name ≡ number_of (n.0).constructor.name =
      differ.differ (number_of (m.0).constructor.name) (number_of (n.0).constructor.name) (source_text names (number_of (m.0).constructor.name))
      (some_text names (number_of (m.0).constructor.name) (made_below found (length names) below k m.0 m.1))
      (some_text names (number_of (n.0).constructor.name) (made_below found (length names) below j n.0 n.1) ∙ ap Some (sym text)) in
      let key : nm.constructors (number_of (m.0).constructor.name) (m.0).copy.types ≡ nm.constructors (number_of (n.0).constructor.name) (n.0).copy.types =
      ap₂ (λ (x : ℕ) (ts : Forms). nm.constructors x ts) number (ap (λ (c : DataCopy). c.types) copy) in
      one_place (constructor_names (table_of_program q)) (nm.constructors (number_of (m.0).constructor.name) (m.0).copy.types) k j (constructor_names_differ p nm (entries found) found is)
      (name_found k m.0 m.1 x.1) (name_found j n.0 n.1 y.1 ∙ ap Some (sym key))
