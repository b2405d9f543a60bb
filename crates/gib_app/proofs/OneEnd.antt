-- A job ends in one way: with a text, without a value for one reason, or for want of chunks.
use Rattle.gib_base.specs.Texts.{TextsView}
use Rattle.std.proofs.Common.{◌≡◌, refl, ap, ℕ, List, Option, Some, None, subst, sym, arith, Bool, false}
use Rattle.gib_types.specs.Tree.{Datum}
use Rattle.gib_syntax.specs.Tree.{ProgramTree}
use Rattle.gib_syntax.specs.Declarations.{table_of_program, input_type, output_type}
use Rattle.gib_file.specs.Framed.{File2}
use Rattle.gib_file.proofs.FileLaws.{file2_length}
use Rattle.gib_syntax.specs.Meaning.{Gives, Stops, run}
use Rattle.gib_types.specs.declared.reason.Reason.{Reason as Why}
use Rattle.gib_words.specs.declared.plan.Job.{Job}
use Rattle.gib_app.specs.declared.inputs.Format.{Format}
use Rattle.gib_app.specs.declared.inputs.Format.TheVariants.{Packed, Packable, Shown, Journaled}
use Rattle.gib_words.specs.declared.plan.Options.{Options}
use Rattle.gib_app.specs.declared.made.Reason.TheVariants.{Meant, Full, Long}
use Rattle.gib_app.specs.Rows.{Way, Plainly, ForFiles, ForSummary, ForJournal, ForPlaces, Row, Says, Evaluates, PacksValue, ShowsFile, FollowsJournal, row}
use Rattle.gib_words.specs.Plan.{Contents}
use Rattle.gib_app.specs.Running.{Program, IsOutput, IsSummary, IsPackedResult, IsLongResult, MeansNone}
use Rattle.gib_app.specs.Replaying.{journal_in}
use Rattle.gib_app.specs.Formats.{format_by, format_of, Accepts}
use Rattle.gib_app.specs.Jobs.{End, Prints, Does, DoesBy, DoesPack, IsSaid, PacksResult, packs_of, without_image}
use Rattle.gib_app.specs.Jobs.{NoValue as Without}
use Rattle.gib_app.specs.Ending.{ends_as, ends_in}
use Rattle.gib_app.proofs.Replays.{gives_or_stops, one_given, some_or_none, one_why, shown_or_valueless, shown_or_full, one_valueless, valueless_or_full}
use Rattle.gib_app.proofs.Doing.{AcceptsBy, row_accepts}
use Rattle.gib_app.proofs.Fitting.{valueless_packs}
use Rattle.gib_app.proofs.OneProgram.{Laws}

pub runs_well : Laws → (p : ProgramTree) (names : TextsView) (depth : ℕ) (input output : List ℕ) (meant : Why) → IsOutput p names depth input output → MeansNone p names depth input meant → ⊥
runs_well laws p names depth input output meant o d =
    let v = laws.filed (table_of_program p) _ (input_type p) d.value o.value input d.is_input.file o.is_input.file in
    let S : Datum → Type 0 = λ x. run p depth x ≡ Stops meant in
    gives_or_stops (run p depth o.value) o.result meant o.means (subst S v d.means)

sums_well : {names : TextsView} → Laws → (p : ProgramTree) (number levels depth : ℕ) (input output : List ℕ) (meant : Why) → IsSummary p names number levels depth input output → MeansNone p names depth input meant → ⊥
sums_well laws p number levels depth input output meant o d =
    let v = laws.filed (table_of_program p) _ (input_type p) d.value o.value input d.is_input.file o.is_input.file in
    let S : Datum → Type 0 = λ x. run p depth x ≡ Stops meant in
    gives_or_stops (run p depth o.value) o.result meant o.means (subst S v d.means)

said_well : Laws → (way : Way) (p : ProgramTree) (names : TextsView) (o : Options) (input text : List ℕ) (meant : Why) → IsSaid way p names o input text → MeansNone p names o.depth input meant → ⊥
said_well laws Plainly p names o input text meant h k = runs_well laws p names o.depth input text meant h k
said_well laws ForFiles p names o input text meant h k = runs_well laws p names o.depth input text meant h k
said_well laws ForSummary p names o input text meant h k = sums_well laws p o.number o.levels o.depth input text meant h k
said_well laws ForJournal p names o input text meant h k = runs_well laws p names o.depth input text meant h k
said_well laws ForPlaces p names o input text meant h k = runs_well laws p names o.depth input text meant h k

-- a program means none for one reason
pub one_meaning : Laws → (p : ProgramTree) (names : TextsView) (depth : ℕ) (input : List ℕ) (x y : Why) → MeansNone p names depth input x → MeansNone p names depth input y → x ≡ y
one_meaning laws p names depth input x y a b =
    let v = laws.filed (table_of_program p) _ (input_type p) b.value a.value input b.is_input.file a.is_input.file in
    let S : Datum → Type 0 = λ z. run p depth z ≡ Stops y in
    one_why (run p depth a.value) x y a.means (subst S v b.means)

-- a result with too long a packed file is a value
pub long_well : Laws → (p : ProgramTree) (names : TextsView) (depth : ℕ) (input : List ℕ) (meant : Why) → IsLongResult p names depth input → MeansNone p names depth input meant → ⊥
long_well laws p names depth input meant o d =
    let v = laws.filed (table_of_program p) _ (input_type p) d.value o.value input d.is_input.file o.is_input.file in
    let S : Datum → Type 0 = λ x. run p depth x ≡ Stops meant in
    gives_or_stops (run p depth o.value) o.result meant o.means (subst S v d.means)

-- a packed file that is made is not too long
pub packed_or_long : Laws → (p : ProgramTree) (names : TextsView) (depth : ℕ) (input bytes : List ℕ) → IsPackedResult p names depth input bytes → IsLongResult p names depth input → ⊥
packed_or_long laws p names depth input bytes a b =
    let v = laws.filed (table_of_program p) _ (input_type p) a.value b.value input a.is_input.file b.is_input.file in
    let M : Datum → Type 0 = λ x. run p depth x ≡ Gives a.result in
    let same = one_given (run p depth b.value) a.result b.result (subst M v a.means) b.means in
    let F : Datum → Type 0 = λ x. File2 (table_of_program p) names.long (output_type p) x bytes in
    let file = subst F same a.file in
    let long = b.long file.1.0 file.1.1 in
    let size = file2_length (table_of_program p) names.long (output_type p) b.result bytes file in
    let few = a.few in
    omega (arith, long, size, few)

-- where a text is due with a packed file that is asked for, that file is not too long
pub packs_or_long : Laws → (job : Job) (o : Options) (p : Program) (names : TextsView) (given : Contents) (text : List ℕ) (packed file : Option (List ℕ)) → DoesPack job o p names given packed (Prints text) → Does job o p names given file (Without Long) → ⊥
packs_or_long laws job o p names given text packed file h k = go (row job) h k
  where
    go : (r : Row) → PacksResult (packs_of r o) p.tree names o.depth given.second packed (Prints text) → DoesBy r o p names given file (Without Long) → ⊥
    go (Says said) h k = k
    go (Evaluates way) h k =
        let d = subst (λ (b : Bool). PacksResult b p.tree names o.depth given.second packed (Prints text)) k.2 h in
        packed_or_long laws p.tree names o.depth given.second d.0 d.2 k.1
    go PacksValue h k = k
    go ShowsFile h k = k
    go FollowsJournal h k = k

-- a packed file is made where there is a text
pub packed_text : (job : Job) (o : Options) (p : Program) (names : TextsView) (given : Contents) (bytes : List ℕ) (e : End) → DoesPack job o p names given (Some bytes) e → (text : List ℕ) × (e ≡ Prints text)
packed_text job o p names given bytes (Prints text) h = (text, refl)
packed_text job o p names given bytes (Without reason) h = absurd (some_or_none bytes (valueless_packs job o p names given (Some bytes) reason h))

-- without chunks no file is made
pub full_no_file : (r : Row) (o : Options) (p : Program) (names : TextsView) (given : Contents) (bytes : List ℕ) → DoesBy r o p names given (Some bytes) (Without Full) → ⊥
full_no_file (Says said) o p names given bytes h = h
full_no_file (Evaluates way) o p names given bytes h = some_or_none bytes h.0
full_no_file PacksValue o p names given bytes h = h
full_no_file ShowsFile o p names given bytes h = h
full_no_file FollowsJournal o p names given bytes h = some_or_none bytes h.0

-- how a job ends and how it is due to end: of text, a reason without a value and want of chunks only one

module _ (laws : Laws) (o : Options) (p : Program) (names : TextsView) (given : Contents) where
  pub text_or_none : (r : Row) (text : List ℕ) (x : Why) (file other : Option (List ℕ)) → DoesBy (ends_as r) (without_image o) p names given file (Prints text) → DoesBy r o p names given other (Without (Meant x)) → ⊥
  text_or_none (Says said) text x file other h k = k
  text_or_none (Evaluates way) text x file other h k = said_well laws (ends_in way) p.tree names (without_image o) given.second text x h.1 k.1
  text_or_none PacksValue text x file other h k = k
  text_or_none ShowsFile text x file other h k = k
  text_or_none FollowsJournal text x file other h k = shown_or_valueless laws.filed p.tree names given.second (journal_in given) false file text x h k.1

  pub none_or_text : (r : Row) (x : Why) (text : List ℕ) (file other : Option (List ℕ)) → DoesBy (ends_as r) (without_image o) p names given file (Without (Meant x)) → DoesBy r o p names given other (Prints text) → ⊥
  none_or_text (Says said) x text file other h k = h
  none_or_text (Evaluates way) x text file other h k = said_well laws way p.tree names o given.second text x k.1 h.1
  none_or_text PacksValue x text file other h k = h
  none_or_text ShowsFile x text file other h k = h
  none_or_text FollowsJournal x text file other h k = shown_or_valueless laws.filed p.tree names given.second (journal_in given) o.image other text x k h.1

  -- without a value, the reason is one
  pub one_end : (r : Row) (x y : Why) (file other : Option (List ℕ)) → DoesBy (ends_as r) (without_image o) p names given file (Without (Meant x)) → DoesBy r o p names given other (Without (Meant y)) → x ≡ y
  one_end (Says said) x y file other h k = absurd h
  one_end (Evaluates way) x y file other h k = one_meaning laws p.tree names o.depth given.second x y h.1 k.1
  one_end PacksValue x y file other h k = absurd h
  one_end ShowsFile x y file other h k = absurd h
  one_end FollowsJournal x y file other h k = one_valueless laws.filed p.tree names given.second (journal_in given) x y h.1 k.1

  -- a result with too long a packed file is a value
  pub long_or_none : (r : Row) (x : Why) (file other : Option (List ℕ)) → DoesBy (ends_as r) (without_image o) p names given file (Without (Meant x)) → DoesBy r o p names given other (Without Long) → ⊥
  long_or_none (Says said) x file other h k = k
  long_or_none (Evaluates way) x file other h k = long_well laws p.tree names o.depth given.second x k.1 h.1
  long_or_none PacksValue x file other h k = k
  long_or_none ShowsFile x file other h k = k
  long_or_none FollowsJournal x file other h k = k

  -- where a file is made, there is a value, or the file is one without
  pub file_or_none : (r : Row) (x : Why) (bytes : List ℕ) (e : End) (file : Option (List ℕ)) → DoesBy r o p names given (Some bytes) e → DoesBy (ends_as r) (without_image o) p names given file (Without (Meant x)) → e ≡ Without (Meant x)
  file_or_none r x bytes (Prints text) file h k = absurd (none_or_text r x text file (Some bytes) k h)
  file_or_none r x bytes (Without (Meant y)) file h k = ap (λ (z : Why). Without (Meant z)) (sym (one_end r x y file (Some bytes) k h))
  file_or_none r x bytes (Without Full) file h k = absurd (full_no_file r o p names given bytes h)
  file_or_none r x bytes (Without Long) file h k = absurd (long_or_none r x file (Some bytes) k h)

  -- a replay that prints, or that ends without a value, has its chunks
  pub text_or_full : (any : Options) (text : List ℕ) (file other : Option (List ℕ)) → DoesBy FollowsJournal any p names given file (Prints text) → DoesBy FollowsJournal o p names given other (Without Full) → ⊥
  text_or_full any text file other h k = shown_or_full laws.filed p.tree names given.second (journal_in given) any.image file text h k.1

  pub none_or_full : (x : Why) (file other : Option (List ℕ)) → DoesBy FollowsJournal o p names given file (Without (Meant x)) → DoesBy FollowsJournal o p names given other (Without Full) → ⊥
  none_or_full x file other h k = valueless_or_full laws.filed p.tree names given.second (journal_in given) x h.1 k.1

  -- where chunks run out, no file is made
  pub file_or_full : (bytes : List ℕ) (e : End) (other : Option (List ℕ)) → DoesBy FollowsJournal o p names given (Some bytes) e → DoesBy FollowsJournal o p names given other (Without Full) → ⊥
  file_or_full bytes (Prints text) other h k = text_or_full o text (Some bytes) other h k
  file_or_full bytes (Without (Meant x)) other h k = some_or_none bytes h.0
  file_or_full bytes (Without Full) other h k = some_or_none bytes h.0
  file_or_full bytes (Without Long) other h k = h

-- a job accepts what it is due to end with
pub ends_accept : (r : Row) (o : Options) (p : Program) (names : TextsView) (given : Contents) (file : Option (List ℕ)) (e : End) → DoesBy (ends_as r) o p names given file e → AcceptsBy (format_by r) o p names given
ends_accept (Says said) o p names given file e h = row_accepts (Says said) o p names given file e h
ends_accept (Evaluates way) o p names given file e h = row_accepts (Evaluates (ends_in way)) o p names given file e h
ends_accept PacksValue o p names given file e h = row_accepts PacksValue o p names given file e h
ends_accept ShowsFile o p names given file e h = row_accepts ShowsFile o p names given file e h
ends_accept FollowsJournal o p names given file e h = row_accepts FollowsJournal o p names given file e h

-- what it accepts does not hang on an image
pub accepts_without : (job : Job) (o : Options) (p : Program) (names : TextsView) (given : Contents) → Accepts job (without_image o) p names given → Accepts job o p names given
accepts_without job o p names given h = go (format_of job) h
  where
    go : (f : Option Format) → AcceptsBy f (without_image o) p names given → AcceptsBy f o p names given
    go None h = h
    go (Some Packed) h = h
    go (Some Packable) h = h
    go (Some Shown) h = h
    go (Some Journaled) h = h

-- what a job does, where it is a replay
pub as_replay : (r : Row) (o : Options) (p : Program) (names : TextsView) (given : Contents) (file : Option (List ℕ)) (e : End) → r ≡ FollowsJournal → DoesBy r o p names given file e → DoesBy FollowsJournal o p names given file e
as_replay r o p names given file e is h = let P : Row → Type 0 = λ x. DoesBy x o p names given file e in subst P is h

pub ends_replay : (r : Row) (o : Options) (p : Program) (names : TextsView) (given : Contents) (file : Option (List ℕ)) (e : End) → r ≡ FollowsJournal → DoesBy (ends_as r) o p names given file e → DoesBy FollowsJournal o p names given file e
ends_replay r o p names given file e is h = let P : Row → Type 0 = λ x. DoesBy (ends_as x) o p names given file e in subst P is h
