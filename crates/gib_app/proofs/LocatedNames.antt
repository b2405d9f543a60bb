-- The names of the constructors of a text that writes its places out are held.
use Rattle.std.proofs.Common.{◌≡◌, ℕ, zero, suc, ◌<◌, List, [], ◌∷◌, ◌++◌, length, map, subst, sym, arith}
use Rattle.std.specs.Prelude.{slice_get}
use Rattle.std.specs.List.{AllByRecursion}
use Rattle.gib_base.specs.Lexed.{Lexed, IsLexedIn}
use Rattle.gib_base.specs.Printing.{IsWritableIn}
use Rattle.gib_base.specs.declared.token.Dialect.TheVariants as dialect
use Rattle.gib_base.specs.declared.token.Sign.TheVariants as s
use Rattle.gib_base.specs.declared.token.Token.{Token}
use Rattle.gib_base.specs.declared.token.Token.TheVariants as t
use Rattle.gib_types.proofs.Once.{get_below}
use Rattle.gib_types.specs.Table.{Row, name_of}
use Rattle.gib_value.specs.Text.{AreHeld}
use Rattle.gib_syntax.specs.declared.tree.TypeName.{TypeName}
use Rattle.gib_syntax.specs.Declarations.{row_in, rows_from, table_of_program, type_names}
use Rattle.gib_syntax.specs.Tree.{ConstructorTree, DataTree, ProgramTree}
use Rattle.gib_local_parse.specs.Texts.{spell_alternative, spell_constructors, spell_data, spell_function, spell_list, spell_main, spell_offsets, spell_text, spell_type}
use Rattle.gib_local_parse.specs.Tree.{LocalTree}

-- what holds of all tokens holds of those of the constructors' names
module _ (T : Token → Type 0) where
  abbrev All : List Token → Type 0
  All = AllByRecursion T

  abbrev pub HasName : ConstructorTree → Type 0
  HasName c = T (t.Constructor c.name.name)

  abbrev pub HaveNames : DataTree → Type 0
  HaveNames d = AllByRecursion HasName d.constructors

  after_types : (ws : List TypeName) (rest : List Token) → All (spell_list spell_type ws rest) → All rest
  after_types [] rest h = h
  after_types (w ∷ ws) rest h = after_types ws rest h.1

  in_alternatives : (cs : List ConstructorTree) (rest : List Token) → All (spell_list spell_alternative cs rest) → AllByRecursion HasName cs × All rest
  in_alternatives [] rest h = (tt {0}, h)
  in_alternatives (c ∷ cs) rest h = let more = in_alternatives cs rest (after_types c.fields (spell_list spell_alternative cs rest) h.1.1) in ((h.1.0, more.0), more.1)

  in_constructors : (cs : List ConstructorTree) (rest : List Token) → All (spell_constructors cs rest) → AllByRecursion HasName cs × All rest
  in_constructors [] rest h = (tt {0}, h)
  in_constructors (c ∷ cs) rest h = let more = in_alternatives cs rest (after_types c.fields (spell_list spell_alternative cs rest) h.1) in ((h.0, more.0), more.1)

  pub in_datas : (ds : List DataTree) (rest : List Token) → All (spell_list spell_data ds rest) → AllByRecursion HaveNames ds
  in_datas [] rest h = tt {0}
  in_datas (d ∷ ds) rest h =
      let behind = spell_list spell_data ds rest in
      let cs = in_constructors d.constructors (t.Sign s.Semicolon ∷ behind) h.1.1.1 in
      (cs.0, in_datas ds rest cs.1.1)

module _ (names : List (List ℕ)) where
  abbrev W : Token → Type 0
  W = IsWritableIn dialect.Located names

  abbrev IsRowHeld : Row → Type 0
  IsRowHeld row = row.name < length names

  rows_held : (types : List ℕ) (owner : ℕ) (cs : List ConstructorTree) (more : List Row) → AllByRecursion (HasName W) cs → AllByRecursion IsRowHeld more → AllByRecursion IsRowHeld (map (row_in types owner) cs ++ more)
  rows_held types owner [] more h k = k
  rows_held types owner (c ∷ cs) more h k = (get_below names c.name.name.0 h.0.text h.0.held, rows_held types owner cs more h.1 k)

  all_held : (types : List ℕ) (owner : ℕ) (ds : List DataTree) → AllByRecursion (HaveNames W) ds → AllByRecursion IsRowHeld (rows_from types owner ds)
  all_held types owner [] h = tt {0}
  all_held types owner (d ∷ ds) h = rows_held types owner d.constructors (rows_from types (suc owner) ds) h.0 (all_held types (suc owner) ds h.1)

  row_held : (rows : List Row) (k : ℕ) → AllByRecursion IsRowHeld rows → k < length rows → name_of (slice_get rows k) < length names
  row_held [] k h lt = absurd (omega (arith, lt))
  row_held (r ∷ rows) zero h lt = h.0
  row_held (r ∷ rows) (suc k) h lt = row_held rows k h.1 (omega (arith, lt))

-- all tokens of a text can be written with its names
pub names_held : ((bytes : List ℕ) (l : Lexed) → IsLexedIn dialect.Located bytes l → AllByRecursion (IsWritableIn dialect.Located l.names) l.tokens) → (bytes : List ℕ) (l : Lexed) (x : LocalTree) → IsLexedIn dialect.Located bytes l
    → spell_text x [] ≡ l.tokens → (p : ProgramTree) → p.datas ≡ x.datas → AreHeld (table_of_program p) l.names
names_held writable bytes l x lexed spelled p same = λ k at.
    let W : Token → Type 0 = IsWritableIn dialect.Located l.names in
    let all = subst (AllByRecursion W) (sym spelled) (writable bytes l lexed) in
    let named = subst (AllByRecursion (HaveNames W)) (sym same) (in_datas W x.datas (spell_offsets x.offsets (spell_list spell_function x.functions (spell_main x.main []))) all) in
    row_held l.names (table_of_program p).rows k (all_held l.names (type_names p) 0 p.datas named) at
