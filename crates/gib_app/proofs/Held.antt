-- The names of a program's declarations are held, and those of its constructors are words.
use Rattle.std.proofs.Common.{ℕ, ◌<◌, List, [], ◌∷◌, ◌++◌, length, map, subst, sym, ap}
use Rattle.gib_types.proofs.Once.{get_below}
use Rattle.std.specs.List.{AllByRecursion}
use Rattle.gib_base.specs.declared.token.Token.{Token}
use Rattle.gib_base.specs.declared.token.Piece.TheVariants as kinds
use Rattle.gib_base.specs.declared.token.Dialect.TheVariants as dialect
use Rattle.gib_base.specs.Lexed.{Lexed}
use Rattle.gib_base.specs.Printing.{IsWritable, IsNameOf}
use Rattle.gib_lex.proofs.Again.{all_writable}
use Rattle.gib_syntax.specs.GenericTree.{GenericConstructorTree, GenericDataTree, GenericFunctionTree, GenericProgramTree, GenericRow, row_of, rows_of}
use Rattle.gib_syntax.specs.Spelling.{spell_program}
use Rattle.gib_syntax.specs.Source.{Spells}
use Rattle.gib_mono.specs.Naming.{AreNamedBelow}
use Rattle.gib_mono.specs.Showing.{source_text}
use Rattle.gib_value.specs.Reading.{IsWord}
use Rattle.gib_gen.proofs.Named.{word_of}
use Rattle.gib_app.proofs.SpelledNames.{HasName, HaveNames, IsFunctionNamed, in_program}

-- the names of all declarations are names of the source's
module _ (names : List (List ℕ)) where
  abbrev W : Token → Type 0
  W = IsWritable names

  constructors_below : (cs : List GenericConstructorTree) → AllByRecursion (HasName W) cs → AllByRecursion (λ (k : GenericConstructorTree). k.name.name.0 < length names) cs
  constructors_below [] h = tt {0}
  constructors_below (c ∷ cs) h = (get_below names c.name.name.0 h.0.text h.0.held, constructors_below cs h.1)

  datas_below : (ds : List GenericDataTree) → AllByRecursion (HaveNames W) ds → AllByRecursion (λ (d : GenericDataTree). d.name.name.0 < length names) ds
      × AllByRecursion (λ (d : GenericDataTree). AllByRecursion (λ (k : GenericConstructorTree). k.name.name.0 < length names) d.constructors) ds
  datas_below [] h = (tt {0}, tt {0})
  datas_below (d ∷ ds) h =
      let more = datas_below ds h.1 in
      ((get_below names d.name.name.0 h.0.0.text h.0.0.held, more.0), (constructors_below d.constructors h.0.1, more.1))

  functions_below : (fs : List GenericFunctionTree) → AllByRecursion (IsFunctionNamed W) fs → AllByRecursion (λ (f : GenericFunctionTree). f.name.name.0 < length names) fs
  functions_below [] h = tt {0}
  functions_below (f ∷ fs) h = (get_below names f.name.name.0 h.0.text h.0.held, functions_below fs h.1)

  abbrev IsRowWord : GenericRow → Type 0
  IsRowWord row = IsWord (source_text names row.name)

  word_at : (number : ℕ) → IsNameOf dialect.Source names kinds.Constructor number → IsWord (source_text names number)
  word_at number n = subst IsWord (sym (ap (λ o. Rattle.std.specs.Prelude.unwrap_or o []) n.held)) (word_of n.text n.whole n.is_so)

  rows_words : (d : GenericDataTree) (cs : List GenericConstructorTree) (more : List GenericRow) → AllByRecursion (HasName W) cs → AllByRecursion IsRowWord more → AllByRecursion IsRowWord (map (row_of d) cs ++ more)
  rows_words d [] more h k = k
  rows_words d (c ∷ cs) more h k = (word_at c.name.name.0 h.0, rows_words d cs more h.1 k)

  all_words : (ds : List GenericDataTree) → AllByRecursion (HaveNames W) ds → AllByRecursion IsRowWord (rows_of ds)
  all_words [] h = tt {0}
  all_words (d ∷ ds) h = rows_words d d.constructors (rows_of ds) h.0.1 (all_words ds h.1)

pub written : (text : List ℕ) (l : Lexed) (p : GenericProgramTree) → Spells text l p → AllByRecursion (IsWritable l.names) (spell_program p [])
written text l p spells = let P : List Token → Type 0 = AllByRecursion (IsWritable l.names) in subst P spells.derived.spelled (all_writable text l spells.is_lexed)

pub named_below : (text : List ℕ) (l : Lexed) (p : GenericProgramTree) → Spells text l p → AreNamedBelow (length l.names) p
named_below text l p spells =
    let names = in_program (IsWritable l.names) p (written text l p spells) in
    let datas = datas_below l.names p.datas names.0 in
    record { types = datas.0; constructors = datas.1; functions = functions_below l.names p.functions names.1 }

pub rows_are_words : (text : List ℕ) (l : Lexed) (p : GenericProgramTree) → Spells text l p → AllByRecursion (λ (row : GenericRow). IsWord (source_text l.names row.name)) (rows_of p.datas)
rows_are_words text l p spells = all_words l.names p.datas (in_program (IsWritable l.names) p (written text l p spells)).0
