-- The types and constructors of a program that is spelled and typed have names as descriptions need them.
use Rattle.std.proofs.Common.{◌≡◌, ◌≢◌, ◌∙◌, refl, ℕ, zero, suc, ◌<◌, List, [], ◌∷◌, ◌++◌, length, map, subst, sym, ap, arith, Bool, true, false, if◌then◌else◌, Option, Some, None}
use Rattle.std.specs.Prelude.{slice_get, slice_index, unwrap_or, nat_lt, ◌==◌, ◌^◌}
use Rattle.std.specs.List.{AllByRecursion, list_all}
use Rattle.std.proofs.lemmas.Option.{slice_get-get_or}
use Rattle.std.specs.Char.{is_ascii_digit, is_ascii_alphabetic}
use Rattle.gib_base.specs.declared.name.Name.{Name}
use Rattle.gib_base.specs.declared.token.Token.{Token}
use Rattle.gib_base.specs.declared.token.Token.TheVariants as t
use Rattle.gib_base.specs.declared.token.Sign.TheVariants as sign
use Rattle.gib_base.specs.declared.token.Piece.TheVariants as kinds
use Rattle.gib_base.specs.Names.{AreNames}
use Rattle.gib_base.specs.Piece.{Class, Blank, Letter, Digit, Dash, Equal, Single, Other, class_of, is_piece, is_name_byte, is_blank, is_sign_byte, ends}
use Rattle.gib_base.specs.Spelling.{piece_of, piece_in, value_from, dash_piece, equal_piece}
use Rattle.gib_base.specs.Lexed.{Lexed}
use Rattle.gib_base.specs.Printing.{IsWritable}
use Rattle.gib_lex.proofs.Again.{all_writable}
pub use Rattle.gib_lex.proofs.Differ.{lexed_names}
use Rattle.gib_types.specs.Table.{Table, Row, IsTable, IsTyBelow, name_of, name_at as con_name_at}
use Rattle.gib_syntax.specs.declared.tree.TypeName.{TypeName}
use Rattle.gib_syntax.specs.declared.tree.TypeName.TheVariants as ty
use Rattle.gib_syntax.specs.Tree.{ConstructorTree, DataTree, ProgramTree}
use Rattle.gib_syntax.specs.Spelling.{spell_type, spell_types, spell_more, spell_constructors, spell_datas, spell_functions, spell_main, spell_program}
use Rattle.gib_syntax.specs.Source.{Spells}
use Rattle.gib_syntax.specs.Plain.{written_of, generic_constructor, generic_data, generic_function, generic_main, generic_of}
use Rattle.gib_syntax.specs.Declarations.{number_of, place_of, tree_type, type_or, type_of_name, type_names, row_in, rows_from, table_of_program, input_type, output_type}
use Rattle.gib_syntax.specs.Fine.{HasConstructor}
use Rattle.gib_syntax.specs.GenericFine.{HasGenericConstructor}
use Rattle.gib_syntax.specs.Typing.{IsTypedProgram}
use Rattle.gib_check.proofs.RowRules.{table_is}
use Rattle.gib_check.proofs.Different.{place_within}
use Rattle.gib_value.specs.Text.{con_text}
use Rattle.gib_value.specs.Reading.{IsWord, AreWords}
use Rattle.gib_file.specs.Describing.{type_text}
use Rattle.gib_file.specs.Named.{IsName, IsTypeName, AreNamed}
use Rattle.gib_file.proofs.Words.{word_is_name}

-- ---- the tokens of names of types and constructors

-- this holds of the tokens of a declaration's names
abbrev HasName : (Token → Type 0) → ConstructorTree → Type 0
HasName T c = T (t.Constructor c.name.name)

abbrev HaveNames : (Token → Type 0) → DataTree → Type 0
HaveNames T d = T (t.Constructor d.name.name) × AllByRecursion (HasName T) d.constructors

after_type : (T : Token → Type 0) (a : TypeName) (rest : List Token) → AllByRecursion T (spell_type (written_of a) rest) → AllByRecursion T rest
after_type T (ty.Whole p) rest h = h.1
after_type T (ty.Truth p) rest h = h.1
after_type T (ty.Declared x) rest h = h.1

after_types : (T : Token → Type 0) (as' : List TypeName) (rest : List Token) → AllByRecursion T (spell_types (map written_of as') rest) → AllByRecursion T rest
after_types T [] rest h = h
after_types T (a ∷ as') rest h = after_types T as' rest (after_type T a (spell_types (map written_of as') rest) h)

in_more : (T : Token → Type 0) (cs : List ConstructorTree) (rest : List Token) → AllByRecursion T (spell_more (map generic_constructor cs) rest) → AllByRecursion (HasName T) cs × AllByRecursion T rest
in_more T [] rest h = (tt {0}, h)
in_more T (c ∷ cs) rest h =
    let more = in_more T cs rest (after_types T c.fields (spell_more (map generic_constructor cs) rest) h.1.1) in
    ((h.1.0, more.0), more.1)

in_constructors : (T : Token → Type 0) (cs : List ConstructorTree) (rest : List Token) → AllByRecursion T (spell_constructors (map generic_constructor cs) rest) → AllByRecursion (HasName T) cs × AllByRecursion T rest
in_constructors T [] rest h = (tt {0}, h)
in_constructors T (c ∷ cs) rest h =
    let more = in_more T cs rest (after_types T c.fields (spell_more (map generic_constructor cs) rest) h.1) in
    ((h.0, more.0), more.1)

in_datas : (T : Token → Type 0) (ds : List DataTree) (rest : List Token) → AllByRecursion T (spell_datas (map generic_data ds) rest) → AllByRecursion (HaveNames T) ds
in_datas T [] rest h = tt {0}
in_datas T (d ∷ ds) rest h =
    let here = in_constructors T d.constructors (t.Sign sign.Semicolon ∷ spell_datas (map generic_data ds) rest) h.1.1.1 in
    ((h.1.0, here.0), in_datas T ds rest here.1.1)

-- the number is that of a name whose token this holds of
abbrev IsNamed : (Token → Type 0) → ℕ → Type 0
IsNamed T number = (x : Name) × T (t.Constructor x) × (number ≡ x.0)

row_at : (T : Token → Type 0) (types : List ℕ) (owner : ℕ) (cs : List ConstructorTree) (more : List Row) (k : ℕ) → AllByRecursion (HasName T) cs
    → ((j : ℕ) → j < length more → IsNamed T (name_of (slice_get more j))) → k < length (map (row_in types owner) cs ++ more) → IsNamed T (name_of (slice_get (map (row_in types owner) cs ++ more) k))
row_at T types owner [] more k h rest lt = rest k lt
row_at T types owner (c ∷ cs) more zero h rest lt = (c.name.name, h.0, refl)
row_at T types owner (c ∷ cs) more (suc k) h rest lt = row_at T types owner cs more k h.1 rest (omega (arith, lt))

rows_at : (T : Token → Type 0) (types : List ℕ) (owner : ℕ) (ds : List DataTree) → AllByRecursion (HaveNames T) ds → (k : ℕ) → k < length (rows_from types owner ds) → IsNamed T (name_of (slice_get (rows_from types owner ds) k))
rows_at T types owner [] h k lt = absurd (omega (arith, lt))
rows_at T types owner (d ∷ ds) h k lt = row_at T types owner d.constructors (rows_from types (suc owner) ds) k h.0.1 (rows_at T types (suc owner) ds h.1) lt

types_at : (T : Token → Type 0) (ds : List DataTree) → AllByRecursion (HaveNames T) ds → (k : ℕ) → k < length (map (λ (d : DataTree). number_of d.name) ds) → IsNamed T (slice_index (map (λ (d : DataTree). number_of d.name) ds) k)
types_at T [] h k lt = absurd (omega (arith, lt))
types_at T (d ∷ ds) h zero lt = (d.name.name, h.0.0, refl)
types_at T (d ∷ ds) h (suc k) lt = types_at T ds h.1 k (omega (arith, lt))

-- ---- the text of a constructor's token is a word, and none of the language

letter_of : (x y d e q s : Bool) → (if x then Blank else (if y then Letter else (if d then Digit else (if e then Dash else (if q then Equal else (if s then Single else Other)))))) ≡ Letter → y ≡ true
letter_of true y d e q s h = absurd cc
letter_of false true d e q s h = refl
letter_of false false true e q s h = absurd cc
letter_of false false false true q s h = absurd cc
letter_of false false false false true s h = absurd cc
letter_of false false false false false true h = absurd cc
letter_of false false false false false false h = absurd cc

number_is_none : (b : Bool) (n : ℕ) → (if b then kinds.Number n else kinds.TooBig) ≡ kinds.Constructor → ⊥
number_is_none true n h = cc
number_is_none false n h = cc

sign_is_none : (b : Bool) → (if b then kinds.Sign sign.Arrow else kinds.Gap) ≡ kinds.Constructor → ⊥
sign_is_none true h = cc
sign_is_none false h = cc

dash_is_none : (rest : List ℕ) → dash_piece rest ≡ kinds.Constructor → ⊥
dash_is_none [] h = cc
dash_is_none (b ∷ rest) h = sign_is_none (b == 62) h

equal_is_none : (rest : List ℕ) → equal_piece rest ≡ kinds.Constructor → ⊥
equal_is_none [] h = cc
equal_is_none (b ∷ rest) h = cc

abbrev Ends : Class → List ℕ → Type 0
Ends c rest = ends c rest ≡ true

letter_piece : (c : Class) (b : ℕ) (rest : List ℕ) → class_of b ≡ c → Ends c rest → piece_in c b rest ≡ kinds.Constructor → (is_ascii_alphabetic b ≡ true) × (list_all is_name_byte rest ≡ true)
letter_piece Blank b rest e w h = absurd cc
letter_piece Letter b rest e w h = (letter_of (is_blank b) (is_ascii_alphabetic b) (is_ascii_digit b) (b == 45) (b == 61) (is_sign_byte b) e, w)
letter_piece Digit b rest e w h = absurd (number_is_none (nat_lt (value_from 0 (b ∷ rest)) (2 ^ 63)) (value_from 0 (b ∷ rest)) h)
letter_piece Dash b rest e w h = absurd (dash_is_none rest h)
letter_piece Equal b rest e w h = absurd (equal_is_none rest h)
letter_piece Single b rest e w h = absurd cc
letter_piece Other b rest e w h = absurd cc

pub word_of : (text : List ℕ) → is_piece text ≡ true → piece_of text ≡ kinds.Constructor → IsWord text
word_of [] w h = absurd cc
word_of (b ∷ rest) w h = letter_piece (class_of b) b rest refl w h

sign_apart : kinds.Sign sign.Int ≡ kinds.Constructor → ⊥
sign_apart e = cc

truth_apart : kinds.Sign sign.Bool ≡ kinds.Constructor → ⊥
truth_apart e = cc

pub con_name : (text : List ℕ) → is_piece text ≡ true → piece_of text ≡ kinds.Constructor → IsName text
con_name text w h = word_is_name text (word_of text w h)

pub type_name : (text : List ℕ) → is_piece text ≡ true → piece_of text ≡ kinds.Constructor → IsTypeName text
type_name text w h = record {
  named = con_name text w h;
  not_whole = λ e. sign_apart (sym (ap piece_of e) ∙ h);
  not_truth = λ e. truth_apart (sym (ap piece_of e) ∙ h);
}

-- what holds of the text of each constructor's token holds of a name
held_so : (P : List ℕ → Type 0) → ((text : List ℕ) → is_piece text ≡ true → piece_of text ≡ kinds.Constructor → P text)
    → (names : List (List ℕ)) (number : ℕ) → IsNamed (IsWritable names) number → P (unwrap_or (slice_get names number) [])
held_so P each names number h =
    let name = h.1 in
    let get : slice_get names number ≡ Some name.text = ap (slice_get names) h.2 ∙ name.held in
    subst P (sym (ap (λ o. unwrap_or o []) get)) (each name.text name.whole name.is_so)

-- ---- types that are written are declared

tree_below : (n : ℕ) (o : Option ℕ) → ((j : ℕ) → o ≡ Some j → j < n) → IsTyBelow n (type_or (tree_type o))
tree_below n None h = tt
tree_below n (Some j) h = h j refl

pub written_below : (types : List ℕ) (a : TypeName) → IsTyBelow (length types) (type_of_name types a)
written_below types (ty.Whole p) = tt
written_below types (ty.Truth p) = tt
written_below types (ty.Declared x) = tree_below (length types) (place_of types (number_of x)) (λ j e. place_within types (number_of x) j e)

-- ---- all of it

plain_some : (cs : List ConstructorTree) → map generic_constructor cs ≢ [] → cs ≢ []
plain_some [] h e = h refl
plain_some (c ∷ cs) h e = cc

some_constructors : (ds : List DataTree) → AllByRecursion HasGenericConstructor (map generic_data ds) → AllByRecursion HasConstructor ds
some_constructors [] h = tt
some_constructors (d ∷ ds) h = (plain_some d.constructors h.0, some_constructors ds h.1)

-- ---- types of one name are one

held : (o : Option (List ℕ)) → IsName (unwrap_or o []) → o ≡ Some (unwrap_or o [])
held None h = absurd h
held (Some w) h = refl

types_apart : (table : Table) (names : List (List ℕ)) → IsTable table → AreNames names → ((t : ℕ) → t < length table.types → IsTypeName (type_text table names t)) → (t u : ℕ) → t < length table.types → u < length table.types
    → type_text table names t ≡ type_text table names u → t ≡ u
types_apart table names declared differ types t u lt lu e =
    let a = held (slice_get names (slice_index table.types t)) (types t lt).named in
    let b = held (slice_get names (slice_index table.types u)) (types u lu).named in
    let number = differ.differ (slice_index table.types t) (slice_index table.types u) (type_text table names t) a (b ∙ ap Some (sym e)) in
    declared.types_differ t u (slice_index table.types t) (slice_get-get_or table.types t 0 lt) (slice_get-get_or table.types u 0 lu ∙ ap Some (sym number))

pub all_named : (text : List ℕ) (l : Lexed) (p : ProgramTree) → Spells text l (generic_of p) → AllByRecursion (HaveNames (IsWritable l.names)) p.datas
all_named text l p spells =
    let T : Token → Type 0 = IsWritable l.names in
    let P : List Token → Type 0 = AllByRecursion T in
    in_datas T p.datas (spell_functions (map generic_function p.functions) (spell_main (generic_main p.main) [])) (subst P spells.derived.spelled (all_writable text l spells.is_lexed))

pub all_differ : (text : List ℕ) (l : Lexed) (p : ProgramTree) → Spells text l (generic_of p) → AreNames l.names
all_differ text l p spells = lexed_names text l spells.is_lexed spells.few_names

pub types_are_words : (text : List ℕ) (l : Lexed) (p : ProgramTree) → Spells text l (generic_of p) → (t : ℕ) → t < length (table_of_program p).types → IsWord (type_text (table_of_program p) l.names t)
types_are_words text l p spells t lt =
    held_so IsWord word_of l.names (slice_index (type_names p) t) (types_at (IsWritable l.names) p.datas (all_named text l p spells) t lt)

pub constructors_are_words : (text : List ℕ) (l : Lexed) (p : ProgramTree) → Spells text l (generic_of p) → AreWords (table_of_program p) l.names
constructors_are_words text l p spells k lt =
    held_so IsWord word_of l.names (con_name_at (table_of_program p) k) (rows_at (IsWritable l.names) (type_names p) 0 p.datas (all_named text l p spells) k lt)

pub named : (text : List ℕ) (l : Lexed) (p : ProgramTree) → Spells text l (generic_of p) → IsTypedProgram p → AreNamed (table_of_program p) l.names
named text l p spells typed =
    let T : Token → Type 0 = IsWritable l.names in
    let names = all_named text l p spells in
    let declared = table_is p (record { types_differ = typed.types_differ; constructors_differ = typed.constructors_differ; few = typed.few_constructors; fields = typed.fields }) (some_constructors p.datas spells.derived.fine.datas) in
    let types : (k : ℕ) → k < length (type_names p) → IsTypeName (type_text (table_of_program p) l.names k) = λ k lt. held_so IsTypeName type_name l.names (slice_index (type_names p) k) (types_at T p.datas names k lt) in
    record {
      declared = declared;
      types = types;
      differ = types_apart (table_of_program p) l.names declared (all_differ text l p spells) types;
      constructors = λ k lt. word_is_name (con_text (table_of_program p) l.names k) (constructors_are_words text l p spells k lt);
    }

pub input_below : (p : ProgramTree) → IsTypedProgram p → IsTyBelow (length (table_of_program p).types) (input_type p)
input_below p typed = written_below (type_names p) p.main.parameter.ty

pub output_below : (p : ProgramTree) → IsTypedProgram p → IsTyBelow (length (table_of_program p).types) (output_type p)
output_below p typed = written_below (type_names p) p.main.result
