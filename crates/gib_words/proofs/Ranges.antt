-- The numbers that words ask for are within their ranges.
use Rattle.std.specs.List.{AllByRecursion}
use Rattle.std.proofs.Common.{◌≡◌, ◌∙◌, ◌<◌, ◌≤◌, ℕ, Bool, cond, codes, true, false, refl, sym, ap, arith, subst, List, [], ◌∷◌, length, Option, Some, None, option_map}
use Rattle.std.specs.Prelude.{find, option_and_then, slice_get, nat_lt}
use Rattle.std.specs.Option.{option_map_or}
use Rattle.std.specs.Str.{bytes_eq}
use Rattle.std.specs.Str.Parse.{digits_value, without_leading_plus}
use Rattle.std.proofs.lemmas.Slice.Eq.{bytes_eq-Decides}
use Rattle.clap.specs.Facts.{parser_of_value}
use Rattle.clap.specs.Values.{read_as, reading_of}
use Rattle.clap.specs.ValueTests.{accepts, is_unsigned_in}
use Rattle.clap.specs.Walk.{Row, Rule, Text, arg_by_id, nothing_held, reading_by, row_text, rows_after}
use Rattle.clap.specs.Simple.{Shape}
use Rattle.clap.specs.Takes.{level_passes, value_passes, values_pass}
use Rattle.clap.specs.declared.builder.value_parser.Reading.{Reading}
use Rattle.clap.specs.declared.builder.value_parser.Reading.TheVariants as reading
use Rattle.clap.specs.declared.builder.value_parser.ValueParser.{ValueParser}
use Rattle.clap.specs.declared.builder.value_parser.ValueParser.TheVariants as vp
use Rattle.clap.proofs.ValueTestLemmas.{accepts-Accepts}
use Rattle.clap.proofs.WalkLemmas.{both}
use Rattle.gib_words.specs.Ranges.{AreOfRun}
use Rattle.gib_words.specs.Words.{byte_of, byte_or, number_in, number_or, options_of}
use Rattle.gib_words.proofs.Asking.{all_known, found_in}
use Rattle.gib_words.proofs.Filling.{AllFilled, Filled, Known, is_valued, level_filled}

-- ---- Numbers of rows

abbrev pub Within : (least most n : ℕ) → Type 0
Within least most n = (least ≤ n) × (n ≤ most)

abbrev digits : Text → ℕ
digits text = digits_value 10 (without_leading_plus text)

-- a text that passes writes a number in the range
passes_within : (a : Rule) (least most : ℕ) (text : Text) → a.parser ≡ Some (vp.Unsigned least most) → value_passes a text ≡ true → Within least most (digits text)
passes_within a least most text e passes =
    let P : Option ValueParser → Type 0 = λ p. accepts a.ignore_case (parser_of_value p) text ≡ true in
    let is = accepts-Accepts a.ignore_case (vp.Unsigned least most) text (subst P e passes) in
    (is.2, is.3)

-- what is read of the first value of a row, or stands where there is none, is in the range, where it is for each text that passes
module _ (least most : ℕ) (reads : Option Text → ℕ) (without : Within least most (reads None)) (with' : (text : Text) → Within least most (digits text) → Within least most (reads (Some text))) where
  of_values : (a : Rule) (how : Reading) (values : List Text) → a.parser ≡ Some (vp.Unsigned least most) → 0 < length values → values_pass a values ≡ true → how ≡ reading_by a
      → Within least most (reads (option_map (read_as how) (slice_get values 0)))
  of_values a how [] parser some passes is = absurd (omega (arith, some))
  of_values a how (v ∷ vs) parser some passes is =
      let written : how ≡ reading.AsWritten = is ∙ ap (λ (p : Option ValueParser). reading_of (parser_of_value p)) parser in
      let good = both (value_passes a v) _ passes in
      let R : Reading → Type 0 = λ h. Within least most (reads (Some (read_as h v))) in
      subst R (sym written) (with' v (passes_within a least most v parser good.0))

  of_rows : (c : List Rule) (rows : List Row) (id : Text) (a : Rule) → AllFilled c rows → arg_by_id c id ≡ Some a → is_valued a ≡ true → a.parser ≡ Some (vp.Unsigned least most)
      → Within least most (reads (option_and_then row_text (find (λ r. bytes_eq r.id id) rows)))
  of_rows c rows id a all at valued parser = go (find (λ r. bytes_eq r.id id) rows) refl
    where
      go : (o : Option Row) → find (λ r. bytes_eq r.id id) rows ≡ o → Within least most (reads (option_and_then row_text o))
      go None e = without
      go (Some r) e =
          let row = found_in (Filled c) (λ x. bytes_eq x.id id) rows r all e in
          let same : r.id ≡ id = (bytes_eq-Decides r.id id).0 row.1 in
          let filled = row.0 a (ap (arg_by_id c) same ∙ at) valued in
          of_values a r.reading r.values parser filled.0 filled.1 filled.2

-- a number, or what stands where it is left out
number_reads : (least most default : ℕ) → Within least most default → (text : Text) → Within least most (digits text) → Within least most (option_map_or (λ n. n) (number_in text) default)
number_reads least most default otherwise text here = go (is_unsigned_in 0 4294967295 text)
  where
    go : (b : Bool) → Within least most (option_map_or (λ n. n) (cond b (Some (digits text)) None) default)
    go true = here
    go false = otherwise

byte_reads : (least most default : ℕ) → Within least most default → (text : Text) → Within least most (digits text)
    → Within least most (option_map_or (λ n. n) (option_and_then byte_of (number_in text)) default)
byte_reads least most default otherwise text here = go (is_unsigned_in 0 4294967295 text)
  where
    small : (b : Bool) → Within least most (option_map_or (λ n. n) (cond b (Some (digits text)) None) default)
    small true = here
    small false = otherwise

    go : (b : Bool) → Within least most (option_map_or (λ n. n) (option_and_then byte_of (cond b (Some (digits text)) None)) default)
    go true = small (nat_lt (digits text) 256)
    go false = otherwise

-- ---- Levels of words

-- The argument of this name is a number in this range.
abbrev pub Numbered : Shape → Text → (least most : ℕ) → Type 0
Numbered s id least most = (a : Rule) × (arg_by_id s.rules id ≡ Some a) × (is_valued a ≡ true) × (a.parser ≡ Some (vp.Unsigned least most))

module _ (s : Shape) (words : List Text) (is : AllByRecursion (Known s.rules) s.rules) (passes : level_passes s [] nothing_held words false ≡ true) where
  abbrev rows : List Row
  rows = rows_after s.rules [] words

  pub number_within : (id : Text) (least most default : ℕ) → Numbered s id least most → Within least most default → Within least most (number_or id default rows)
  number_within id least most default n otherwise =
      of_rows least most (λ o. option_map_or (λ k. k) (option_and_then number_in o) default) otherwise (number_reads least most default otherwise) s.rules rows id n.0
      (level_filled s (all_known s.rules is) words is passes) n.1 n.2 n.3

  pub byte_within : (id : Text) (least most default : ℕ) → Numbered s id least most → Within least most default → Within least most (byte_or id default rows)
  byte_within id least most default n otherwise =
      of_rows least most (λ o. option_map_or (λ k. k) (option_and_then byte_of (option_and_then number_in o)) default) otherwise (byte_reads least most default otherwise) s.rules rows id n.0
      (level_filled s (all_known s.rules is) words is passes) n.1 n.2 n.3

  pub run_within : Numbered s (codes "workers") 1 64 → Numbered s (codes "depth") 1 1000000 → Numbered s (codes "chunks") 16 65536 → Numbered s (codes "fork") 0 64 → AreOfRun (options_of rows)
  run_within a b c d =
      let workers = number_within (codes "workers") 1 64 1 a (omega arith, omega arith) in
      let depth = number_within (codes "depth") 1 1000000 10000 b (omega arith, omega arith) in
      let chunks = number_within (codes "chunks") 16 65536 1024 c (omega arith, omega arith) in
      let fork = number_within (codes "fork") 0 64 4 d (omega arith, omega arith) in
      record {
        workers_least = workers.0;
        workers_most = workers.1;
        depth_least = depth.0;
        depth_most = depth.1;
        chunks_least = chunks.0;
        chunks_most = chunks.1;
        fork_most = fork.1;
      }

-- ---- Settings
