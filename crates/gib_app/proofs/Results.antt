-- What a source gives on an input, by what its copy gives.
use Rattle.gib_base.specs.Texts.{TextsView}
use Rattle.gib_base.specs.declared.token.Dialect.TheVariants as dialect
use Rattle.std.proofs.Common.{◌≡◌, ◌∙◌, refl, ℕ, List, [], ◌∷◌, ◌++◌, subst, sym, ap}
use Rattle.gib_types.specs.Tree.{Datum}
use Rattle.gib_syntax.specs.Tree.{ProgramTree}
use Rattle.gib_types.specs.Table.{Table}
use Rattle.gib_types.specs.declared.table.Ty.{Ty}
use Rattle.gib_file.specs.Framed.{File2}
use Rattle.gib_syntax.specs.Declarations.{table_of_program, input_type, output_type}
use Rattle.gib_syntax.specs.Meaning.{Reason, Outcome, Gives, Stops, run, OutcomeHas}
use Rattle.gib_base.specs.Lexed.{Lexed}
use Rattle.gib_base.specs.Names.{AreNames}
use Rattle.gib_types.specs.Tree.{HasType}
use Rattle.gib_file.proofs.FileLaws.{inside}
use Rattle.gib_lex.proofs.Differ.{lexed_names}
use Rattle.gib_syntax.specs.GenericTree.{GenericProgramTree, rows_of}
use Rattle.gib_mono.specs.Copied.{shown_outcome}
use Rattle.gib_mono.specs.Walk.{Copy, base_of}
use Rattle.gib_mono.specs.Naming.{entries}
use Rattle.gib_mono.specs.Showing.{long_texts}
use Rattle.gib_app.specs.GenericText.{generic_text}
use Rattle.gib_app.proofs.Copied.{IsSpelled, OnTree, texts_with, to_copy, of_copy, has, means, text_is, read_once}
use Rattle.gib_app.specs.Running.{sourced, IsProgram, IsInput, IsOutput, IsRunImage, IsPackedResult, IsLongResult, MeansNone, FillsUp, text_line}
use Rattle.gib_app.specs.Headline.{copy_with, copy_in, read_in, meant_in, Given, IsResult, IsResultImage, IsResultFile, HasLongFile, HasNoResult, IsTooBig}
use Rattle.gib_app.proofs.Replays.{one_given}
use Rattle.gib_app.proofs.OneEnd.{one_meaning, packed_or_long, runs_well}
use Rattle.gib_app.proofs.OneProgram.{Laws, joined, together}
use Rattle.gib_words.specs.declared.plan.Options.{Options}

-- a source's program and an input for its copy
abbrev given_of : (source input : List ℕ) (l : Lexed) (g : GenericProgramTree) (found : List Copy) (v : Datum) → IsSpelled source l g found → IsInput (copy_with g l found) (texts_with l found) v input → Given source input
given_of source input l g found v is h = record { lexed = l; program = g; found = found; value = v; spelled = is.spelled; typed = is.typed; within = is.within; short = h.short; file = h.file }

is_spelled : {source input : List ℕ} (given : Given source input) → IsSpelled source given.lexed given.program given.found
is_spelled given = record { spelled = given.spelled; typed = given.typed; within = given.within }

pub input_in : {source input : List ℕ} (given : Given source input) → IsInput (copy_in given) (texts_with given.lexed given.found) given.value input
input_in given = record { short = given.short; file = given.file }

-- two things that hold of the tree of a source hold of one
together_trees : Laws → (source : List ℕ) (P Q : ProgramTree → TextsView → Type 0) → OnTree source P → OnTree source Q → (p : ProgramTree) × (names : TextsView) × P p names × Q p names
together_trees laws source P Q a b =
    let both = together laws dialect.Source source (λ p names. P p.tree names) (λ p names. Q p.tree names) a b in (both.0.tree, both.1, both.2, both.3)

pub joined_trees : Laws → (source : List ℕ) (P Q : ProgramTree → TextsView → Type 0) → OnTree source P → OnTree source Q → OnTree source (λ p names. P p names × Q p names)
joined_trees laws source P Q a b = joined laws dialect.Source source (λ p names. P p.tree names) (λ p names. Q p.tree names) a b

-- of what holds of the copy with an input
pub from_given : {source input : List ℕ} (given : Given source input) (P : ProgramTree → TextsView → Type 0) → P (copy_in given) (texts_with given.lexed given.found) → OnTree source P
from_given {source} given P h = of_copy source P (record { lexed = given.lexed; generic = given.program; found = given.found; is_spelled = is_spelled given; holds = h })

input_typed : {source input : List ℕ} (given : Given source input) → HasType (table_of_program (copy_in given)) given.value (input_type (copy_in given))
input_typed {source} {input} given = (inside (table_of_program (copy_in given)) (long_texts given.lexed.names (entries given.found)) (input_type (copy_in given)) given.value input given.file).typed

-- what the copy gives is read as what the program means
means_in : {source input : List ℕ} (given : Given source input) (depth : ℕ) (o : Outcome) → run (copy_in given) depth given.value ≡ o → meant_in given depth ≡ shown_outcome (base_of (rows_of given.program.datas) given.found) o
means_in {source} given depth o e =
    sym (means source given.lexed given.program given.found (is_spelled given) depth given.value (input_typed given)) ∙ ap (shown_outcome (base_of (rows_of given.program.datas) given.found)) e

-- it is of the type of main's result
result_typed : {source input : List ℕ} (given : Given source input) (depth : ℕ) (u : Datum) → run (copy_in given) depth given.value ≡ Gives u → HasType (table_of_program (copy_in given)) u (output_type (copy_in given))
result_typed {source} given depth u e =
    let T : Outcome → Type 0 = OutcomeHas (table_of_program (copy_in given)) (output_type (copy_in given)) in
    subst T e (has source given.lexed given.program given.found (is_spelled given) depth given.value (input_typed given))

-- the other way round: what the program means is what the copy gives, read so
record Gave (source input : List ℕ) (given : Given source input) (depth : ℕ) (result : Datum) : Type 0 where
  value : Datum
  gives : run (copy_in given) depth given.value ≡ Gives value
  read : read_in given value ≡ result

gave : {source input : List ℕ} (given : Given source input) (depth : ℕ) (result : Datum) → meant_in given depth ≡ Gives result → Gave source input given depth result
gave {source} {input} given depth result m = by (run (copy_in given) depth given.value) refl where
  by : (o : Outcome) → run (copy_in given) depth given.value ≡ o → Gave source input given depth result
  by (Gives u) e = record { value = u; gives = e; read = let f : Gives (read_in given u) ≡ Gives result = sym (means_in given depth (Gives u) e) ∙ m in cc }
  by (Stops why) e = absurd (let f : Stops why ≡ Gives result = sym (means_in given depth (Stops why) e) ∙ m in cc)

stopped : {source input : List ℕ} (given : Given source input) (depth : ℕ) (why : Reason) → meant_in given depth ≡ Stops why → run (copy_in given) depth given.value ≡ Stops why
stopped given depth why m = by (run (copy_in given) depth given.value) refl where
  by : (o : Outcome) → run (copy_in given) depth given.value ≡ o → run (copy_in given) depth given.value ≡ Stops why
  by (Gives u) e = absurd (let f : Gives (read_in given u) ≡ Stops why = sym (means_in given depth (Gives u) e) ∙ m in cc)
  by (Stops other) e = let f : Stops other ≡ Stops why = sym (means_in given depth (Stops other) e) ∙ m in e ∙ f

-- the text of what the copy gives
line_in : {source input : List ℕ} (given : Given source input) (depth : ℕ) (u : Datum) → run (copy_in given) depth given.value ≡ Gives u →
    text_line (copy_in given) (texts_with given.lexed given.found) u ≡ generic_text (rows_of given.program.datas) given.lexed.names (read_in given u) ++ 10 ∷ []
line_in {source} given depth u e =
    ap (λ (t : List ℕ). t ++ 10 ∷ []) (text_is source given.lexed given.program given.found (is_spelled given) u (output_type (copy_in given)) (result_typed given depth u e))

-- names of a source are different texts
differ_in : {source input : List ℕ} (given : Given source input) → AreNames given.lexed.names
differ_in {source} given = lexed_names source given.lexed given.spelled.is_lexed given.spelled.few_names

-- a value of the copy that is read as what the program means is what the copy gives
gave_it : {source input : List ℕ} (given : Given source input) (depth : ℕ) (u : Datum) → HasType (table_of_program (copy_in given)) u (output_type (copy_in given)) → meant_in given depth ≡ Gives (read_in given u) → run (copy_in given) depth given.value ≡ Gives u
gave_it {source} given depth u h m =
    let w = gave given depth (read_in given u) m in
    let same = read_once source given.lexed given.program given.found (is_spelled given) (differ_in given) w.value u (output_type (copy_in given)) (result_typed given depth w.value w.gives) h w.read in
    w.gives ∙ ap Gives same

pub result_of : (source input : List ℕ) (depth : ℕ) (output : List ℕ) (on : OnTree source (λ p names. IsOutput p names depth input output)) → IsResult source input depth output
result_of source input depth output on =
    let c = to_copy source (λ p names. IsOutput p names depth input output) on in
    let given = given_of source input c.lexed c.generic c.found c.holds.value c.is_spelled c.holds.is_input in
    record {
      given = given;
      result = read_in given c.holds.result;
      means = means_in given depth (Gives c.holds.result) c.holds.means;
      is_text = c.holds.is_text ∙ line_in given depth c.holds.result c.holds.means;
    }

pub output_of : (source input : List ℕ) (depth : ℕ) (output : List ℕ) → IsResult source input depth output → OnTree source (λ p names. IsOutput p names depth input output)
output_of source input depth output h =
    let w = gave h.given depth h.result h.means in
    from_given h.given (λ p names. IsOutput p names depth input output) (record {
      value = h.given.value;
      result = w.value;
      is_input = input_in h.given;
      means = w.gives;
      is_text = h.is_text ∙ ap (λ (v : Datum). generic_text (rows_of h.given.program.datas) h.given.lexed.names v ++ 10 ∷ []) (sym w.read) ∙ sym (line_in h.given depth w.value w.gives);
    })

pub none_of : (source input : List ℕ) (depth : ℕ) (meant : Reason) → OnTree source (λ p names. MeansNone p names depth input meant) → HasNoResult source input depth meant
none_of source input depth meant on =
    let c = to_copy source (λ p names. MeansNone p names depth input meant) on in
    let given = given_of source input c.lexed c.generic c.found c.holds.value c.is_spelled c.holds.is_input in
    record { given = given; means = means_in given depth (Stops meant) c.holds.means }

pub of_none : (source input : List ℕ) (depth : ℕ) (meant : Reason) → HasNoResult source input depth meant → OnTree source (λ p names. MeansNone p names depth input meant)
of_none source input depth meant h =
    from_given h.given (λ p names. MeansNone p names depth input meant) (record { value = h.given.value; is_input = input_in h.given; means = stopped h.given depth meant h.means })

-- the same of a given copy

pub copy_result : (source input output : List ℕ) (depth : ℕ) (names : TextsView) (p : ProgramTree) → IsProgram source names p → IsOutput p names depth input output → IsResult source input depth output
copy_result source input output depth names p is h = result_of source input depth output (record { texts = names; program = sourced p; is_program = (is, refl); holds = h })

pub result_copy : (source input output : List ℕ) (depth : ℕ) → IsResult source input depth output → (names : TextsView) × (p : ProgramTree) × IsProgram source names p × IsOutput p names depth input output
result_copy source input output depth h = let on = output_of source input depth output h in (on.texts, on.program.tree, on.is_program.0, on.holds)

pub copy_none : (source input : List ℕ) (depth : ℕ) (meant : Reason) (names : TextsView) (p : ProgramTree) → IsProgram source names p → MeansNone p names depth input meant → HasNoResult source input depth meant
copy_none source input depth meant names p is h = none_of source input depth meant (record { texts = names; program = sourced p; is_program = (is, refl); holds = h })

pub none_copy : (source input : List ℕ) (depth : ℕ) (meant : Reason) → HasNoResult source input depth meant → (names : TextsView) × (p : ProgramTree) × IsProgram source names p × MeansNone p names depth input meant
none_copy source input depth meant h = let on = of_none source input depth meant h in (on.texts, on.program.tree, on.is_program.0, on.holds)

-- a packed file of the result, and one that is too long

pub file_result : (source input : List ℕ) (depth : ℕ) (bytes : List ℕ) → OnTree source (λ p names. IsPackedResult p names depth input bytes) → IsResultFile source input depth bytes
file_result source input depth bytes on =
    let c = to_copy source (λ p names. IsPackedResult p names depth input bytes) on in
    let given = given_of source input c.lexed c.generic c.found c.holds.value c.is_spelled c.holds.is_input in
    record { given = given; result = c.holds.result; means = means_in given depth (Gives c.holds.result) c.holds.means; file = c.holds.file; few = c.holds.few }

pub result_file : (source input : List ℕ) (depth : ℕ) (bytes : List ℕ) → IsResultFile source input depth bytes → OnTree source (λ p names. IsPackedResult p names depth input bytes)
result_file source input depth bytes h =
    from_given h.given (λ p names. IsPackedResult p names depth input bytes) (record {
      value = h.given.value;
      result = h.result;
      is_input = input_in h.given;
      means = gave_it h.given depth h.result h.file.0 h.means;
      file = h.file;
      few = h.few;
    })

pub long_result : (source input : List ℕ) (depth : ℕ) → HasLongFile source input depth → OnTree source (λ p names. IsLongResult p names depth input)
long_result source input depth h =
    from_given h.given (λ p names. IsLongResult p names depth input) (record {
      value = h.given.value;
      result = h.result;
      is_input = input_in h.given;
      means = gave_it h.given depth h.result h.typed h.means;
      long = h.long;
    })

pub image_result : (source input : List ℕ) (options : Options) (bytes : List ℕ) → OnTree source (λ p names. IsRunImage p names options input bytes) → IsResultImage source input options bytes
image_result source input options bytes on =
    let c = to_copy source (λ p names. IsRunImage p names options input bytes) on in
    let given = given_of source input c.lexed c.generic c.found c.holds.value c.is_spelled c.holds.is_input in
    record { given = given; result = c.holds.result; means = means_in given options.depth (Gives c.holds.result) c.holds.means; image = c.holds.image; few = c.holds.few }

pub long_of : (source input : List ℕ) (depth : ℕ) → OnTree source (λ p names. IsLongResult p names depth input) → HasLongFile source input depth
long_of source input depth on =
    let c = to_copy source (λ p names. IsLongResult p names depth input) on in
    let given = given_of source input c.lexed c.generic c.found c.holds.value c.is_spelled c.holds.is_input in
    record {
      given = given;
      result = c.holds.result;
      typed = result_typed given depth c.holds.result c.holds.means;
      means = means_in given depth (Gives c.holds.result) c.holds.means;
      long = c.holds.long;
    }

pub big_of : (source input : List ℕ) (options : Options) (forks : ℕ) → OnTree source (λ p names. FillsUp p names options forks input) → IsTooBig source input options forks
big_of source input options forks on =
    let c = to_copy source (λ p names. FillsUp p names options forks input) on in
    record { given = given_of source input c.lexed c.generic c.found c.holds.value c.is_spelled c.holds.is_input; tight = c.holds.tight }

-- The packed file is one too, or is too long

pub one_packed : Laws → ((table : Table) (names : List (List ℕ)) (ty : Ty) (v : Datum) (a b : List ℕ) → File2 table names ty v a → File2 table names ty v b → a ≡ b) →
    (source input : List ℕ) (depth : ℕ) (bytes other : List ℕ) → IsResultFile source input depth bytes → IsResultFile source input depth other → bytes ≡ other
one_packed laws second source input depth bytes other h k =
    let both = together_trees laws source (λ p names. IsPackedResult p names depth input bytes) (λ p names. IsPackedResult p names depth input other)
    (result_file source input depth bytes h) (result_file source input depth other k) in
    let p = both.0 in
    let names = both.1 in
    let a = both.2 in
    let b = both.3 in
    let same = laws.filed (table_of_program p) _ (input_type p) b.value a.value input b.is_input.file a.is_input.file in
    let M : Datum → Type 0 = λ x. run p depth x ≡ Gives b.result in
    let u = one_given (run p depth a.value) a.result b.result a.means (subst M same b.means) in
    let F : Datum → Type 0 = λ x. File2 (table_of_program p) names.long (output_type p) x bytes in
    second (table_of_program p) names.long (output_type p) b.result bytes other (subst F u a.file) b.file

pub short_or_long : Laws → (source input : List ℕ) (depth : ℕ) (bytes : List ℕ) → IsResultFile source input depth bytes → HasLongFile source input depth → ⊥
short_or_long laws source input depth bytes h k =
    let both = together_trees laws source (λ p names. IsPackedResult p names depth input bytes) (λ p names. IsLongResult p names depth input) (result_file source input depth bytes h) (long_result source input depth k) in
    packed_or_long laws both.0 both.1 depth input bytes both.2 both.3

pub one_result : Laws → (source input : List ℕ) (depth : ℕ) (output other : List ℕ) → IsResult source input depth output → IsResult source input depth other → output ≡ other
one_result laws source input depth output other h k =
    let both = together_trees laws source (λ p names. IsOutput p names depth input output) (λ p names. IsOutput p names depth input other)
    (output_of source input depth output h) (output_of source input depth other k) in
    let p = both.0 in
    let a = both.2 in
    let b = both.3 in
    let same = laws.filed (table_of_program p) _ (input_type p) b.value a.value input b.is_input.file a.is_input.file in
    let M : Datum → Type 0 = λ x. run p depth x ≡ Gives b.result in
    let u = one_given (run p depth a.value) a.result b.result a.means (subst M same b.means) in
    a.is_text ∙ ap (text_line p both.1) u ∙ sym b.is_text

pub no_result : Laws → (source input : List ℕ) (depth : ℕ) (output : List ℕ) (meant : Reason) → IsResult source input depth output → HasNoResult source input depth meant → ⊥
no_result laws source input depth output meant h k =
    let both = together_trees laws source (λ p names. IsOutput p names depth input output) (λ p names. MeansNone p names depth input meant)
    (output_of source input depth output h) (of_none source input depth meant k) in
    runs_well laws both.0 both.1 depth input output meant both.2 both.3

pub one_reason : Laws → (source input : List ℕ) (depth : ℕ) (x y : Reason) → HasNoResult source input depth x → HasNoResult source input depth y → x ≡ y
one_reason laws source input depth x y h k =
    let both = together_trees laws source (λ p names. MeansNone p names depth input x) (λ p names. MeansNone p names depth input y)
    (of_none source input depth x h) (of_none source input depth y k) in
    one_meaning laws both.0 both.1 depth input x y both.2 both.3

-- The text of the value that a packed file is of.
pub file_text : (source input : List ℕ) (depth : ℕ) (bytes : List ℕ) → IsResultFile source input depth bytes → (output : List ℕ) × IsResult source input depth output
file_text source input depth bytes h =
    (generic_text (rows_of h.given.program.datas) h.given.lexed.names (read_in h.given h.result) ++ 10 ∷ [], record { given = h.given; result = read_in h.given h.result; means = h.means; is_text = refl })

pub long_text : (source input : List ℕ) (depth : ℕ) → HasLongFile source input depth → (output : List ℕ) × IsResult source input depth output
long_text source input depth h =
    (generic_text (rows_of h.given.program.datas) h.given.lexed.names (read_in h.given h.result) ++ 10 ∷ [], record { given = h.given; result = read_in h.given h.result; means = h.means; is_text = refl })
