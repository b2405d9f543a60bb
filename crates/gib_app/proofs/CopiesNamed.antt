-- The types and constructors of a source's copy have names as descriptions need them.
use Rattle.std.proofs.Common.{◌≡◌, ◌↔◌, ◌∙◌, ℕ, zero, suc, ◌<◌, List, [], ◌∷◌, length, map, Option, Some, subst, sym, ap}
use Rattle.std.specs.Prelude.{slice_get, slice_index, unwrap_or}
use Rattle.std.specs.Option.{option_map}
use Rattle.std.specs.List.{AllByRecursion}
use Rattle.std.proofs.lemmas.Option.{same_Some, slice_get-map, slice_get-get_or}
use Rattle.gib_base.specs.Lexed.{Lexed}
use Rattle.gib_base.specs.Names.{AreNames}
use Rattle.gib_base.specs.Texts.{TextsView}
use Rattle.gib_base.specs.Printing.{IsWritable, IsNameOf}
use Rattle.gib_base.specs.declared.token.Dialect.TheVariants as dialect
use Rattle.gib_base.specs.declared.token.Piece.TheVariants as kinds
use Rattle.gib_check.proofs.RowRules.{table_is}
use Rattle.gib_file.specs.Describing.{type_text, Describes}
use Rattle.gib_file.specs.Named.{IsName, IsTypeName, AreNamed}
use Rattle.gib_file.specs.Framed.{File2}
use Rattle.gib_file.proofs.SameTypes.{files_law}
use Rattle.gib_gen.proofs.Named.{word_of, type_name, lexed_names, written_below}
use Rattle.gib_syntax.specs.Declarations.{AreDifferent, number_of, type_names, table_of_program, input_type, output_type}
use Rattle.gib_syntax.specs.Forms.{Form, Forms, WholeForm, TruthForm, VariableForm, DataForm, NoForm, MoreForms}
use Rattle.gib_syntax.specs.GenericTree.{GenericDataTree, GenericProgramTree, GenericRow, row_of, rows_of, globals_of_generic}
use Rattle.gib_syntax.specs.Tree.{ProgramTree}
use Rattle.gib_types.specs.Table.{Row, IsTyBelow}
use Rattle.gib_types.specs.Tree.{Datum}
use Rattle.gib_value.specs.Reading.{IsWord}
use Rattle.gib_value.specs.Text.{con_text}
use Rattle.gib_mono.specs.Copied.{Item, IsItem, IsHere, AreHere}
use Rattle.gib_mono.specs.Copying.{Naming}
use Rattle.gib_mono.specs.Naming.{entry, entries, entry_place, number_with, naming_of}
use Rattle.gib_mono.specs.Showing.{source_text, long_text, long_name, long_texts}
use Rattle.gib_mono.specs.Walk.{Copy, DataOf, FunctionOf, DataCopy, datas_in, type_items, Made, made_from}
use Rattle.gib_mono.proofs.Apart.{type_key, data_declared, types_different}
use Rattle.gib_mono.proofs.Closing.{data_found}
use Rattle.gib_mono.proofs.Here.{map_found, get_more_any, get_behind, TypesHere}
use Rattle.gib_mono.proofs.Names.{place_right, constructors_named}
use Rattle.gib_mono.proofs.Showing.{some_text, name_is, shown_long, within}
use Rattle.gib_mono.proofs.Tables.{made_row, rows_made, rows_at, made_found, one_place}
use Rattle.gib_mono.proofs.Theorem.{copied_typed}
use Rattle.gib_mono.proofs.Whole.{IsSet, type_names_are, type_copied}
use Rattle.gib_app.specs.Headline.{copy_with}
use Rattle.gib_app.specs.Running.{IsProgram}
use Rattle.gib_app.proofs.Copied.{IsSpelled, texts_with, set, below, fine, row_holds, spelled_of}
use Rattle.gib_app.proofs.Held.{written, named_below, rows_are_words}
use Rattle.gib_app.proofs.NamedForms.{IsTypeWord, IsKnown, AreKnown, type_named, long_named, one_long}
use Rattle.gib_app.proofs.SpelledNames.{HaveNames, in_program}

-- ---- names of declared types

type_word : (names : List (List ℕ)) (x : ℕ) → x < length names → IsNameOf dialect.Source names kinds.Constructor x → IsTypeWord names x
type_word names x lt n =
    let is = type_name n.text n.whole n.is_so in
    let same : source_text names x ≡ n.text = ap (λ (o : Option (List ℕ)). unwrap_or o []) n.held in
    record {
      below = lt;
      word = subst IsWord (sym same) (word_of n.text n.whole n.is_so);
      not_whole = λ e. is.not_whole (sym same ∙ e);
      not_truth = λ e. is.not_truth (sym same ∙ e);
    }

abbrev HasTypeWord : List (List ℕ) → GenericDataTree → Type 0
HasTypeWord names d = IsTypeWord names (number_of d.name)

types_words : (names : List (List ℕ)) (ds : List GenericDataTree) → AllByRecursion (HaveNames (IsWritable names)) ds → AllByRecursion (λ (d : GenericDataTree). number_of d.name < length names) ds → AllByRecursion (HasTypeWord names) ds
types_words names [] h k = tt {0}
types_words names (d ∷ ds) h k = (type_word names (number_of d.name) k.0 h.0.0, types_words names ds h.1 k.1)

-- ---- the texts of names with types

long_at : (names : List (List ℕ)) (items : List Item) (n x : ℕ) (ts : Forms) → x < length names → slice_get items n ≡ Some (entry x ts) → slice_get (long_texts names items) (number_with (length names) items x ts) ≡ Some (long_text names x ts)
long_at names items n x NoForm lt e = get_more_any (List ℕ) names (map (long_name names) items) x (source_text names x) (some_text names x lt)
long_at names items n x (MoreForms t ts) lt e =
    get_behind (List ℕ) names (map (long_name names) items) (entry_place items x (MoreForms t ts)) (long_text names x (MoreForms t ts))
    (slice_get-map (long_name names) items (entry_place items x (MoreForms t ts)) ∙ ap (option_map (long_name names)) (place_right items n x (MoreForms t ts) e))

datas_here : (items : List Item) (cs : List Copy) (i : ℕ) (c : DataCopy) → TypesHere items cs → slice_get (datas_in cs) i ≡ Some c → AreHere items c.types
datas_here items [] i c h e = absurd cc
datas_here items (DataOf d ts ∷ cs) zero c h e = subst (λ (u : DataCopy). AreHere items u.types) (same_Some (record { decl = d; types = ts }) c e) h.0
datas_here items (DataOf d ts ∷ cs) (suc i) c h e = datas_here items cs i c h.1 e
datas_here items (FunctionOf f ts ∷ cs) i c h e = datas_here items cs i c h.1 e

module _ (source : List ℕ) (l : Lexed) (g : GenericProgramTree) (found : List Copy) (is : IsSpelled source l g found) where
  abbrev nm : Naming
  nm = naming_of (length l.names) (entries found)

  abbrev q : ProgramTree
  q = copy_with g l found

  abbrev texts : List (List ℕ)
  texts = long_texts l.names (entries found)

  abbrev own : IsSet g nm (entries found) found
  own = set source l g found is

  differ : AreNames l.names
  differ = lexed_names source l is.spelled.is_lexed is.spelled.few_names

  words : AllByRecursion (HasTypeWord l.names) g.datas
  words = types_words l.names g.datas (in_program (IsWritable l.names) g (written source l g is.spelled)).0 (named_below source l g is.spelled).types

  type_is_word : (i : ℕ) (c : DataCopy) → slice_get (datas_in found) i ≡ Some c → IsTypeWord l.names (number_of c.decl.name)
  type_is_word i c e = data_found (HasTypeWord l.names) g.datas (number_of c.decl.name) c.decl words (data_declared (globals_of_generic g) found i c own.closed.good.declared e)

  item_word : (t : ℕ) (ts : Forms) → IsItem (type_items found) t ts → IsTypeWord l.names t
  item_word t ts item =
      let c = type_copied g nm (entries found) found t ts own item in
      subst (IsTypeWord l.names) c.named (type_is_word c.index (record { decl = c.decl; types = ts }) c.there)

  mutual
    known : (f : Form) → IsHere (type_items found) f → IsKnown l.names f
    known WholeForm h = tt
    known TruthForm h = tt
    known (VariableForm x) h = absurd h
    known (DataForm t ts) h = (item_word t ts h.0, all_known ts h.1)

    all_known : (fs : Forms) → AreHere (type_items found) fs → AreKnown l.names fs
    all_known NoForm h = tt
    all_known (MoreForms f fs) h = (known f h.0, all_known fs h.1)

  copy_known : (i : ℕ) (c : DataCopy) → slice_get (datas_in found) i ≡ Some c → AreKnown l.names c.types
  copy_known i c e = all_known c.types (datas_here (type_items found) found i c own.here e)

  -- ---- types

  record IsTypeOf (t : ℕ) : Type 0 where
    copy : DataCopy
    there : slice_get (datas_in found) t ≡ Some copy
    named : slice_get (type_names q) t ≡ Some (type_key nm copy)
    text : type_text (table_of_program q) texts t ≡ long_text l.names (number_of copy.decl.name) copy.types

  names_are : type_names q ≡ map (type_key nm) (datas_in found)
  names_are = type_names_are nm (datas_in found)

  type_of_copy : (t : ℕ) → t < length (type_names q) → IsTypeOf t
  type_of_copy t lt =
      let at = within ℕ (type_names q) t lt in
      let c = map_found DataCopy ℕ (type_key nm) (datas_in found) t at.0 (ap (λ (xs : List ℕ). slice_get xs t) (sym names_are) ∙ at.1) in
      let named : slice_get (type_names q) t ≡ Some (type_key nm c.0) = at.1 ∙ ap Some c.2 in
      let index : slice_index (type_names q) t ≡ type_key nm c.0 = same_Some (slice_index (type_names q) t) (type_key nm c.0) (sym (slice_get-get_or (type_names q) t 0 lt) ∙ named) in
      record {
        copy = c.0;
        there = c.1;
        named = named;
        text = ap (λ (x : ℕ). unwrap_or (slice_get texts x) []) index ∙ ap (λ (o : Option (List ℕ)). unwrap_or o []) (shown_long g found l.names (below source l g found is) t c.0 c.1);
      }

  types_named : (t : ℕ) → t < length (type_names q) → IsTypeName (type_text (table_of_program q) texts t)
  types_named t lt =
      let c = type_of_copy t lt in
      subst IsTypeName (sym c.text) (type_named l.names (number_of c.copy.decl.name) c.copy.types (type_is_word t c.copy c.there) (copy_known t c.copy c.there))

  types_apart : (t u : ℕ) → t < length (type_names q) → u < length (type_names q) → type_text (table_of_program q) texts t ≡ type_text (table_of_program q) texts u → t ≡ u
  types_apart t u lt lu e =
      let c = type_of_copy t lt in
      let d = type_of_copy u lu in
      let same = one_long l.names differ (number_of c.copy.decl.name) (number_of d.copy.decl.name) c.copy.types d.copy.types (type_is_word t c.copy c.there) (type_is_word u d.copy d.there)
      (copy_known t c.copy c.there) (copy_known u d.copy d.there) (sym c.text ∙ e ∙ d.text) in
      let key : type_key nm c.copy ≡ type_key nm d.copy = ap (key_of (type_key nm c.copy)) same in
      one_place (type_names q) (type_key nm c.copy) t u
      (subst AreDifferent (sym names_are) (types_different nm (entries found) found own.naming own.closed.good.apart)) c.named (d.named ∙ ap Some (sym key))
    where
      -- the number of the name of a type
      key_of : ℕ → Form → ℕ
      key_of none' WholeForm = none'
      key_of none' TruthForm = none'
      key_of none' (VariableForm x) = none'
      key_of none' (DataForm x ts) = nm.types x ts

  -- ---- constructors

  constructors_are : (k : ℕ) → k < length (table_of_program q).rows → IsName (con_text (table_of_program q) texts k)
  constructors_are k lt =
      let at = within Row (table_of_program q).rows k lt in
      let m = map_found Made Row (made_row nm (type_names q)) (made_from 0 (datas_in found)) k at.0 (ap (λ (rows : List Row). slice_get rows k) (sym (rows_made nm (type_names q) 0 (datas_in found))) ∙ at.1) in
      let made = made_found 0 (datas_in found) k m.0 m.1 in
      let x = number_of (m.0).constructor.name in
      let ts = (m.0).copy.types in
      let listed = constructors_named found made.index made.place (m.0).copy (m.0).constructor made.copied made.there in
      let text : con_text (table_of_program q) texts k ≡ long_text l.names x ts =
      ap (λ (n : ℕ). unwrap_or (slice_get texts n) []) (name_is g nm found k m.0 m.1)
      ∙ ap (λ (o : Option (List ℕ)). unwrap_or o []) (long_at l.names (entries found) listed.0 x ts (below source l g found is listed.0 (entry x ts) listed.1) listed.1) in
      let declared = data_declared (globals_of_generic g) found made.index (m.0).copy own.closed.good.declared made.copied in
      let row = rows_at g (m.0).copy.decl made.place (m.0).constructor declared made.there in
      let word = row_holds (λ (r : GenericRow). IsWord (source_text l.names r.name)) (rows_of g.datas) row.0 (row_of (m.0).copy.decl (m.0).constructor) (rows_are_words source l g is.spelled) row.1 in
      subst IsName (sym text) (long_named l.names x ts word (copy_known made.index (m.0).copy made.copied))

  -- ---- all of it

  copy_named : AreNamed (table_of_program q) texts
  copy_named =
      let typed = copied_typed g nm (entries found) found own in
      record {
        declared = table_is q (record { types_differ = typed.types_differ; constructors_differ = typed.constructors_differ; few = typed.few_constructors; fields = typed.fields }) (fine source l g found is).datas;
        types = types_named;
        differ = types_apart;
        constructors = constructors_are;
      }

pub program_named : (source : List ℕ) (t : TextsView) (p : ProgramTree) → IsProgram source t p → AreNamed (table_of_program p) t.long
program_named source t p is =
    let A : ProgramTree → Type 0 = λ x. AreNamed (table_of_program x) (texts_with is.lexed is.copy.found).long in
    let B : TextsView → Type 0 = λ x. AreNamed (table_of_program p) x.long in
    subst B (sym is.copy.shown) (subst A (sym is.copy.is) (copy_named source is.lexed is.generic is.copy.found (spelled_of source t p is)))

pub program_input : (p : ProgramTree) → IsTyBelow (length (table_of_program p).types) (input_type p)
program_input p = written_below (type_names p) p.main.parameter.ty

pub program_output : (p : ProgramTree) → IsTyBelow (length (table_of_program p).types) (output_type p)
program_output p = written_below (type_names p) p.main.result

pub next_files : (source other : List ℕ) (names others : TextsView) (p q : ProgramTree) (description : List ℕ) → IsProgram source names p → IsProgram other others q
    → Describes (table_of_program p) names.long (output_type p) description → Describes (table_of_program q) others.long (input_type q) description
    → (v : Datum) (bytes : List ℕ) → File2 (table_of_program p) names.long (output_type p) v bytes ↔ File2 (table_of_program q) others.long (input_type q) v bytes
next_files source other names others p q description is also d e =
    files_law (table_of_program p) (table_of_program q) names.long others.long (output_type p) (input_type q) description (program_named source names p is) (program_named other others q also) (program_output p) (program_input q) d e
