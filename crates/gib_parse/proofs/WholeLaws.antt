-- What else is asked of the readers, from their laws.
use Rattle.std.proofs.Common.{◌≡◌, ℕ, zero, suc, ◌+◌, ◌-◌, ◌<◌, ◌≤◌, false, List, [], ◌∷◌, ◌++◌, length, take, refl, sym, ap, ◌∙◌, subst, arith}
use Rattle.std.specs.List.{AllByRecursion}
use Rattle.gib_base.specs.declared.token.Sign.TheVariants as s
use Rattle.gib_base.specs.declared.token.Token.{Token}
use Rattle.gib_base.specs.declared.token.Token.TheVariants as t
use Rattle.gib_syntax.specs.declared.tree.Ident.{Ident}
use Rattle.gib_syntax.specs.GenericTree.{GenericDataTree, GenericProgramTree}
use Rattle.gib_syntax.specs.GenericFine.{HasGenericConstructor, IsGenericFineProgram}
use Rattle.gib_syntax.specs.Spelling.{Places, IsPlacedProgram, Derives, spell_program, levels_program}
use Rattle.gib_parse.specs.Reading.{Fault, At, Nested, left_of, Mode, Any, Reader, Parts, many, is_sign, type_at, next_name_at, next_part_at, next_arm_at, next_type_at, alternative_at, data_at, parameter_at, function_at, next_is, type_parameters_at, parse, whole_in}
use Rattle.gib_parse.specs.Parsing.{Takes}
use Rattle.gib_parse.specs.Blaming.{Begun}
use Rattle.gib_reads.proofs.Tools.{done, failed, Holds}
use Rattle.gib_reads.proofs.Many.{Shrinks}
use Rattle.gib_reads.proofs.Local.{Kind, Refused, Deep, fault, LocalAt}
use Rattle.gib_reads.proofs.Past.{Past, refused_stays as stays}
use Rattle.gib_reads.proofs.Laws.{Text, World, Told, Taken, many_reads, alone, shrinks, agrees_begin}
use Rattle.gib_parse.proofs.TypeLaws.{type_reads}
use Rattle.gib_parse.proofs.ExpressionLaws.{PartsRead, next_name_reads, next_part_reads, next_arm_reads}
use Rattle.gib_parse.proofs.LevelLaws.{sunk, none_reads, parse_reads}
use Rattle.gib_parse.proofs.ProgramLaws.{whole_form, alternative_reads, data_reads, parameter_reads, function_reads, next_type_reads, datas_fine, all_reads}

-- Reading on one level less than n; below the first level all is too deep.
abbrev lower : Text → ℕ → Parts
lower x zero = sunk
lower x (suc n) = parse x.here n

abbrev level : Text → ℕ → World Parts
level x n = record { text = x; low = lower x n; high = parse x.here n; moved = parse x.there n }

level_reads : (x : Text) (n : ℕ) → PartsRead (level x n) n
level_reads x zero = none_reads x
level_reads x (suc n) = parse_reads x n

-- ---- tokens are taken

module _ (at : Places) (n : ℕ) where
  pub parse_shrinks : (m : Mode) → Shrinks (parse at n m)
  parse_shrinks m ts = shrinks (level_reads (alone at) n m [] ts).told

  pub next_shrinks : Shrinks (next_arm_at at (parse at n Any))
  next_shrinks ts = shrinks (next_arm_reads (level_reads (alone at) n) [] ts).told

  pub next_part_shrinks : Shrinks (next_part_at (parse at n Any))
  next_part_shrinks ts = shrinks (next_part_reads (level_reads (alone at) n) [] ts).told

  pub function_shrinks : Shrinks (function_at at (parse at n Any))
  function_shrinks ts = shrinks (function_reads (level_reads (alone at) n) [] ts).told

module _ (at : Places) where
  pub type_shrinks : Shrinks (type_at at)
  type_shrinks ts = shrinks (type_reads {w = level (alone at) 0} [] ts).told

  pub next_name_shrinks : Shrinks (next_name_at at)
  next_name_shrinks ts = shrinks (next_name_reads {w = level (alone at) 0} [] ts).told

  pub next_types_shrink : Shrinks (next_type_at at)
  next_types_shrink ts = shrinks (next_type_reads {w = level (alone at) 0} [] ts).told

  pub alternative_shrinks : Shrinks (alternative_at at)
  alternative_shrinks ts = shrinks (alternative_reads {w = level (alone at) 0} [] ts).told

  pub data_shrinks : Shrinks (data_at at)
  data_shrinks ts = shrinks (data_reads {w = level (alone at) 0} [] ts).told

  pub parameter_shrinks : Shrinks (parameter_at at)
  parameter_shrinks ts = shrinks (parameter_reads {w = level (alone at) 0} [] ts).told

-- ---- each takes tokens

takes_of : {A : Type 0} {p : Reader A} → Shrinks p → Takes p
takes_of sh ts rest a e = (sh ts).by a rest e

pub alternatives_take : (at : Places) → Takes (alternative_at at)
alternatives_take at = takes_of (alternative_shrinks at)

pub datas_take : (at : Places) → Takes (data_at at)
datas_take at = takes_of (data_shrinks at)

pub parameters_take : (at : Places) → Takes (parameter_at at)
parameters_take at = takes_of (parameter_shrinks at)

pub next_types_take : (at : Places) → Takes (next_type_at at)
next_types_take at = takes_of (next_types_shrink at)

pub functions_take : (at : Places) → Takes (function_at at (parse at 200 Any))
functions_take at = takes_of (function_shrinks at 200)

-- ---- the whole

pub read_constructors : (at : Places) (ts rest : List Token) (ds : List GenericDataTree) → many (is_sign s.Data) (data_at at) ts ≡ done ds rest
    → AllByRecursion HasGenericConstructor ds
read_constructors at ts rest ds e =
    datas_fine ds ((many_reads {w = level (alone at) 0} (is_sign s.Data) (λ at sub. data_at at) data_reads [] ts).told.taken ds rest e).fine

told_whole : (n : ℕ) (at : Places) (ws : List Token) → Told 0 (whole_form at n) [] (λ l. l) (whole_in n at) ws
unfolding whole_in
told_whole n at ws = (all_reads (level_reads (alone at) n) ws).told

-- What reading the whole tells.
pub record IsWhole (l : ℕ) (at : Places) (ts : List Token) (g : GenericProgramTree) (rest : List Token) : Type 0 where
  pub derived : Derives ts g
  pub level : levels_program g ≤ l
  pub placed : IsPlacedProgram at g
  pub left : rest ≡ []

is_whole : (l : ℕ) (at : Places) (ts : List Token) (g : GenericProgramTree) (rest : List Token) → rest ≡ []
    → Taken 0 (whole_form at l) (λ l. l) ts g rest → IsWhole l at ts g rest
is_whole l at ts g rest e o =
    let spelled : ts ≡ spell_program g [] = o.was ∙ o.spelled rest ∙ ap (spell_program g) e in
    let p = subst (λ (r : List Token). (whole_form at l).good g r) e o.good in
    record {
      derived = record { fine = o.fine; spelled = spelled };
      level = p.0.0;
      placed = record { datas = p.0.1; functions = p.0.2; main = p.0.3 };
      left = e;
    }

pub whole_sound : (l : ℕ) (at : Places) (ts : List Token) → Holds (whole_in l at ts) (IsWhole l at ts)
whole_sound l at ts = record { by = λ g rest e. let o = (told_whole l at ts).taken g rest e in is_whole l at ts g rest o.good.1 o }

-- Some program begins with the tokens before the one that is refused.
pub whole_begun : (at : Places) (n : ℕ) (ws : List Token) (j : ℕ) → whole_in n at ws ≡ failed (At j) → Begun ws j
whole_begun at n ws j e =
    let o = (told_whole n at ws).begins j e in
    let cut = agrees_begin j ws o.0 o.1 in
    (o.2.0, cut.0, record { fine = o.2.1; spelled = sym cut.1 ∙ o.2.2 })

-- A fault in a program is found at its token.
pub whole_local : (tok : Token) (xs ys : List Token) (at at' : Places) (shift : (k : ℕ) → at' (k + length ys) ≡ at (k + length xs)) (l : ℕ)
    (ws : List Token) → LocalAt tok xs ys at at' shift (whole_in l at) (whole_in l at') ws
unfolding whole_in
whole_local tok xs ys at at' shift l ws =
    (all_reads (level_reads (record { tok = tok; after = xs; more = ys; here = at; there = at'; shift = shift }) l) ws).local

-- ---- one level more

pub whole_past : (at : Places) (n : ℕ) (ws : List Token) → Past (whole_in n at) (whole_in (suc n) at) ws
unfolding whole_in
whole_past at n ws = (all_reads (parse_reads (alone at) n) ws).past

-- What is refused is refused at any level.
pub refused_stays : (at : Places) (n m j : ℕ) (ws : List Token) → n ≤ m → whole_in n at ws ≡ failed (At j) → whole_in m at ws ≡ failed (At j)
refused_stays at n m j ws le e = stays (λ l. whole_in l at) (whole_past at) ws n m j le e

goes_past : (n : ℕ) (at : Places) (ts : List Token) (left k : ℕ) (c : Kind) → whole_in n at ts ≡ failed (Nested left)
    → whole_in (suc n) at ts ≡ failed (fault c k) → k < left
goes_past n at ts left k c e f = (whole_past at n ts).sunk_bad left c k e f

-- With one level more, a fault stands behind the token that was nested too deep.
pub nested_goes_past : (n : ℕ) (at : Places) (ts : List Token) (left : ℕ) (bad : Fault) → whole_in n at ts ≡ failed (Nested left)
    → whole_in (suc n) at ts ≡ failed bad → left_of bad < left
nested_goes_past n at ts left (At k) e f = goes_past n at ts left k Refused e f
nested_goes_past n at ts left (Nested k) e f = goes_past n at ts left k Deep e f

-- ---- no type parameters

pub type_parameters_none : (at : Places) (rest : List Token) → next_is (is_sign s.OpenBracket) rest ≡ false
    → type_parameters_at at rest ≡ (let none : List Ident = [] in done none rest)
type_parameters_none at (t.Sign s.OpenBracket ∷ rest) e = absurd cc
type_parameters_none at rest e = refl
