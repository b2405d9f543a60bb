-- What a run makes whose result is packed.
use Rattle.gib_base.specs.Texts.{TextsView}
use Rattle.std.proofs.Common.{◌≡◌, ◌∙◌, ◌≤◌, ◌<◌, refl, ap, sym, subst, subst₂, arith, ℕ, List, length, Option, Some, None, Bool, true, false, Result, Ok, Err, IfOk}
use Rattle.gib_types.specs.Table.{Table}
use Rattle.gib_types.specs.Tree.{HasType}
use Rattle.gib_value.specs.Text.{AreHeld}
use Rattle.gib_file.specs.Framed.{File2}
use Rattle.gib_file.proofs.FileLaws.{more_by_parts}
use Rattle.gib_packed.specs.Stands.{Stands}
use Rattle.gib_packed.specs.declared.root.Root.{Root}
use Rattle.gib_packed.proofs.Grow.{Stands-grows}
use Rattle.gib_packed.proofs.Typed.{Stands-typed}
use Rattle.gib_arena.specs.Sole.{sole_memory, sole_bounded}
use Rattle.gib_core.specs.LoweredParts.{LoweredParts}
use Rattle.gib_syntax.specs.Tree.{ProgramTree}
use Rattle.gib_syntax.specs.Declarations.{table_of_program, output_type}
use Rattle.gib_app.specs.declared.made.End.{End as KeptEnd}
use Rattle.gib_app.specs.declared.made.End.TheVariants as ends
use Rattle.gib_app.specs.declared.made.Made.{Made}
use Rattle.gib_app.specs.declared.made.Reason.{Reason}
use Rattle.gib_app.specs.declared.made.Reason.TheVariants.{Long}
use Rattle.gib_app.specs.declared.made.Valued.{Valued}
use Rattle.gib_words.specs.declared.plan.Options.{Options}
use Rattle.gib_app.specs.declared.stop.Stop.{Stop}
use Rattle.gib_app.specs.Cores.{layouts_asked}
use Rattle.gib_app.specs.Imaging.{IsShownWith}
use Rattle.gib_words.specs.declared.plan.Job.{Job}
use Rattle.gib_app.specs.Rows.{row}
use Rattle.gib_words.specs.Plan.{Contents}
use Rattle.gib_app.specs.Jobs.{End, Prints, NoValue, Does, DoesAll, PacksResult, Runs, RunsBoth, packs_of}
use Rattle.gib_app.specs.Kept.{EndsBy, EndsByBoth, StandsAgain, file_of, packed_of}
use Rattle.gib_app.specs.MachineRun.{IsMeant, IsMeantBy, cells_of}
use Rattle.gib_app.specs.Replaying.{IsImageFile}
use Rattle.gib_app.specs.Running.{Program, IsInput}
use Rattle.gib_app.proofs.Doing.{ends_without}
use Rattle.gib_app.proofs.Imaged.{image_made, shown_runs}

-- ---- The value that comes back

-- A value stands in a memory that knows more.
abbrev pub stands_later : {names : TextsView} (p : ProgramTree) (depth : ℕ) (input : List ℕ) (old new : Valued) → StandsAgain old new → IsMeantBy p names depth input old.ran
    → IsMeantBy p names depth input new.ran
stands_later p depth input old new again s =
    let one = Stands-grows again.known s.stands in
    let two = subst (λ (l : LoweredParts). Stands l.code.laid (cells_of new.ran.memory) old.ran.root (output_type p) s.result) (sym again.lowered) one in
    record {
      value = s.value;
      result = s.result;
      is_input = s.is_input;
      means = s.means;
      table = ap (λ (l : LoweredParts). l.code.laid.table) again.lowered ∙ s.table;
      stands = subst (λ (r : Root). Stands new.ran.lowered.code.laid (cells_of new.ran.memory) r (output_type p) s.result) (sym again.root) two;
    }

-- The same with the names that come back.
abbrev pub stands_named : (p : ProgramTree) (depth : ℕ) (input : List ℕ) (old new : Valued) → StandsAgain old new → IsMeantBy p old.names depth input old.ran
    → IsMeantBy p new.names depth input new.ran
stands_named p depth input old new again s =
    let later = stands_later {names = old.names} p depth input old new again s in
    record {
      value = s.value;
      result = s.result;
      is_input = subst (λ (ns : TextsView). IsInput p ns s.value input) (sym again.names) s.is_input;
      means = s.means;
      table = later.table;
      stands = later.stands;
    }

-- So a value that comes back is what its program means.
pub meant_again : (old new : Valued) → StandsAgain old new → IsMeant old → IsMeant new
meant_again old new again m = record { program = m.program; depth = m.depth; input = m.input; meant = stands_named m.program m.depth m.input old new again m.meant }

pub held_again : (old new : Valued) → StandsAgain old new → AreHeld old.ran.lowered.code.laid.table old.names.short → AreHeld new.ran.lowered.code.laid.table new.names.short
held_again old new again held = subst₂ (λ (t : Table) (ns : TextsView). AreHeld t ns.short) (ap (λ (l : LoweredParts). l.code.laid.table) (sym again.lowered)) (sym again.names) held

-- ---- How a run ends whose result is packed

module _ (p : ProgramTree) (o : Options) (input : List ℕ) (old new : Valued) (again : StandsAgain old new) (laid : old.ran.lowered.code.laid ≡ layouts_asked o p) (limit : (sole_memory old.ran.memory).limit ≤ o.chunks) (packs : o.packs ≡ true)
    (s : IsMeantBy p old.names o.depth input old.ran) where
  laid_again : new.ran.lowered.code.laid ≡ layouts_asked o p
  laid_again = ap (λ (l : LoweredParts). l.code.laid) again.lowered ∙ laid

  limit_again : (sole_memory new.ran.memory).limit ≤ o.chunks
  limit_again = let same = again.limit in omega (arith, same, limit)

  with_file : (bytes : List ℕ) → File2 (table_of_program p) old.names.long (output_type p) s.result bytes → length bytes ≤ 16777216 → (file packed : Option (List ℕ)) (e : KeptEnd) →
      IsShownWith o.image new.ran.lowered.code.laid (sole_memory new.ran.memory) new.ran.root p old.names s.result file e → packed ≡ Some bytes → EndsByBoth file packed e (RunsBoth p old.names o input)
  with_file bytes is_file few file packed (ends.Prints text) h made =
      let P : Bool → Type 0 = λ b. PacksResult b p old.names o.depth input packed (Prints text.items) in (
        shown_runs p old.names o input new.ran.lowered.code.laid (sole_memory new.ran.memory) new.ran.root (stands_later {names = old.names} p o.depth input old new again s)
            (sole_bounded new.ran.memory) laid_again limit_again o.image refl file (ends.Prints text) h,
        subst P (sym packs) (bytes, made, record { value = s.value; result = s.result; is_input = s.is_input; means = s.means; file = is_file; few = few }),
      )
  with_file bytes is_file few file packed (ends.Value value) h made = absurd h
  with_file bytes is_file few file packed (ends.NoValue reason) h made = absurd h

  without_file : ((bytes : List ℕ) → File2 (table_of_program p) old.names.long (output_type p) s.result bytes → 16777216 < length bytes) → (file packed : Option (List ℕ)) (e : KeptEnd) →
      IsImageFile o.image new.ran.lowered.code.laid (output_type p) (sole_memory new.ran.memory) new.ran.root s.result file → e ≡ ends.NoValue Long → packed ≡ None → EndsByBoth file packed e (RunsBoth p old.names o input)
  without_file long file packed e h is none =
      let E : KeptEnd → Type 0 = λ x. EndsByBoth file packed x (RunsBoth p old.names o input) in
      let P : Bool → Type 0 = λ b. PacksResult b p old.names o.depth input packed (NoValue Long) in
      let image = image_made {names = old.names} o.image p o input new.ran.lowered.code.laid (sole_memory new.ran.memory) new.ran.root (stands_later {names = old.names} p o.depth input old new again s)
      (sole_bounded new.ran.memory) laid_again limit_again file h in
      let typed = subst (λ (t : Table). HasType t s.result (output_type p)) s.table (Stands-typed s.stands) in
      let there : E (ends.NoValue Long) = (
        (image, record { value = s.value; result = s.result; is_input = s.is_input; means = s.means; long = more_by_parts (table_of_program p) old.names.long (output_type p) s.result typed long }, packs),
        subst P (sym packs) none,
      ) in
      subst E (sym is) there

  pub packed_run : (bytes : List ℕ) → File2 (table_of_program p) old.names.long (output_type p) s.result bytes → length bytes ≤ 16777216 → (r : Result Made Stop)
      → IfOk r (λ made. IsShownWith o.image new.ran.lowered.code.laid (sole_memory new.ran.memory) new.ran.root p new.names s.result (file_of made) made.end) → IfOk r (λ made. packed_of made ≡ Some bytes)
      → IfOk r (λ made. EndsByBoth (file_of made) (packed_of made) made.end (RunsBoth p old.names o input))
  packed_run bytes is_file few (Ok made) h is =
      let S : TextsView → Type 0 = λ ns. IsShownWith o.image new.ran.lowered.code.laid (sole_memory new.ran.memory) new.ran.root p ns s.result (file_of made) made.end in
      with_file bytes is_file few (file_of made) (packed_of made) made.end (subst S again.names h) is
  packed_run bytes is_file few (Err stop) h is = tt {0}

  pub long_run : ((bytes : List ℕ) → File2 (table_of_program p) old.names.long (output_type p) s.result bytes → 16777216 < length bytes) → (r : Result Made Stop)
      → IfOk r (λ made. IsImageFile o.image new.ran.lowered.code.laid (output_type p) (sole_memory new.ran.memory) new.ran.root s.result (file_of made)) → IfOk r (λ made. (made.end ≡ ends.NoValue Long) × (packed_of made ≡ None))
      → IfOk r (λ made. EndsByBoth (file_of made) (packed_of made) made.end (RunsBoth p old.names o input))
  long_run long (Ok made) h none = without_file long (file_of made) (packed_of made) made.end h none.0 none.1
  long_run long (Err stop) h none = tt {0}

-- ---- What makes no packed file

-- Both files and the end of what makes none.
pub ends_alone : (file packed : Option (List ℕ)) (e : KeptEnd) (P : Option (List ℕ) → End → Type 0) (Q : Option (List ℕ) → Option (List ℕ) → End → Type 0) → packed ≡ None → ((f : Option (List ℕ)) (x : End) → P f x → Q f None x)
    → EndsBy file e P → EndsByBoth file packed e Q
ends_alone file packed (ends.Prints text) P Q none go h = subst (λ (q : Option (List ℕ)). Q file q (Prints text.items)) (sym none) (go file (Prints text.items) h)
ends_alone file packed (ends.Value value) P Q none go h = (h.0, none, h.1, h.2, subst (λ (q : Option (List ℕ)). Q file q (Prints h.1)) (sym none) (go file (Prints h.1) h.3))
ends_alone file packed (ends.NoValue reason) P Q none go h = subst (λ (q : Option (List ℕ)). Q file q (NoValue reason)) (sym none) (go file (NoValue reason) h)

none_packed : (made : Made) → made.packed ≡ None → packed_of made ≡ None
none_packed made none = cc

pub made_alone : (r : Result Made Stop) (P : Option (List ℕ) → End → Type 0) (Q : Option (List ℕ) → Option (List ℕ) → End → Type 0) → IfOk r (λ made. made.packed ≡ None) → ((f : Option (List ℕ)) (x : End) → P f x → Q f None x)
    → IfOk r (λ made. EndsBy (file_of made) made.end P) → IfOk r (λ made. EndsByBoth (file_of made) (packed_of made) made.end Q)
made_alone (Ok made) P Q none go h = ends_alone (file_of made) (packed_of made) made.end P Q (none_packed made none) go h
made_alone (Err stop) P Q none go h = tt {0}

-- A run that is asked for none makes none.
pub runs_alone : (p : ProgramTree) (names : TextsView) (o : Options) (input : List ℕ) → o.packs ≡ false → (f : Option (List ℕ)) (x : End) → Runs p names o input f x → RunsBoth p names o input f None x
runs_alone p names o input off f x h = (h, let P : Bool → Type 0 = λ b. PacksResult b p names o.depth input None x in subst P (sym off) refl)

-- Nor does one that ends without a value.
pub runs_valueless : (p : ProgramTree) (names : TextsView) (o : Options) (input : List ℕ) (why : Reason) → Runs p names o input None (NoValue why) → RunsBoth p names o input None None (NoValue why)
runs_valueless p names o input why h = (h, go o.packs)
  where
    go : (b : Bool) → PacksResult b p names o.depth input None (NoValue why)
    go false = refl
    go true = refl

pub both_without : (made : Made) (why : Reason) (Q : Option (List ℕ) → Option (List ℕ) → End → Type 0) → made.file ≡ None → made.packed ≡ None → made.end ≡ ends.NoValue why → Q None None (NoValue why)
    → EndsByBoth (file_of made) (packed_of made) made.end Q
both_without made why Q file packed end' h =
    ends_alone (file_of made) (packed_of made) made.end (λ f x. Q f None x) Q (none_packed made packed) (λ f x k. k) (ends_without made why (λ f x. Q f None x) file end' h)

-- Nor does a job that makes none.
pub does_alone : (job : Job) (o : Options) (p : Program) (names : TextsView) (given : Contents) → packs_of (row job) o ≡ false → (f : Option (List ℕ)) (x : End) → Does job o p names given f x → DoesAll job o p names given f None x
does_alone job o p names given off f x h = (h, let P : Bool → Type 0 = λ b. PacksResult b p.tree names o.depth given.second None x in subst P (sym off) refl)
