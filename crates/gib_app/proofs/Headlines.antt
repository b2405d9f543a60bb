-- The promise of `run`, from how a call ends.
use Rattle.gib_base.specs.Texts.{TextsView}
use Rattle.gib_base.specs.declared.token.Dialect.TheVariants as dialect
use Rattle.std.proofs.lemmas.Option.{none-some}
use Rattle.std.proofs.Common.{◌≡◌, ◌∙◌, refl, ℕ, List, [], ◌∷◌, ◌++◌, Option, Some, None, IfSome, ◌⊎◌, inl, inr, subst, subst₂, sym, Bool, true, false, true≢false}
use Rattle.gib_syntax.specs.Tree.{ProgramTree}
use Rattle.gib_syntax.specs.Meaning.{run}
use Rattle.gib_app.proofs.Copied.{OnTree}
use Rattle.gib_types.specs.declared.reason.Reason.{Reason as Why}
use Rattle.gib_edge.specs.Causes.{Rose, told}
use Rattle.gib_edge.specs.Views.{Has, ShelfView, SinkView}
use Rattle.gib_app.specs.declared.status.Status.{Status}
use Rattle.gib_app.specs.declared.status.Status.TheVariants as status
use Rattle.gib_app.specs.declared.made.Reason.TheVariants.{Meant, Full, Long}
use Rattle.gib_words.specs.declared.plan.Options.{Options}
use Rattle.gib_words.specs.declared.plan.Job.TheVariants.{Run}
use Rattle.gib_words.specs.Plan.{Document, Write, Plan, Files, bytes_in, Contents}
use Rattle.gib_app.specs.Writes.{at_reading, AreMade, IsNamedIn, writes_of}
use Rattle.gib_app.specs.Formats.{inputs_of, Accepts}
use Rattle.gib_words.specs.Words.{asked}
use Rattle.gib_app.specs.Running.{Program, sourced, IsOutput, IsRunImage, IsPackedResult}
use Rattle.gib_app.specs.Jobs.{Prints, MakesImage, PacksResult, run_forks}
use Rattle.gib_app.specs.Causes.{OnProgram, OnBoth, EndsWithout, AsksProgram, IsStored, IsUnread}
use Rattle.gib_app.specs.Ending.{IsEnding, HasText, DueOfFiles, DueWithout, TakesAll}
use Rattle.gib_app.specs.Headline.{IsRun, IsPackingRun, Given, IsResult, IsResultImage, IsResultFile, HasLongFile, HasNoResult, IsTooBig, TellsWhatIsMeant, NoneFailed, NoWriteFailed}
use Rattle.gib_app.proofs.Performing.{asked_is}
use Rattle.gib_app.proofs.Fitting.{image_asked, packs_agrees, valueless_packs}
use Rattle.gib_app.proofs.FirstWriting.{others_after, written_first}
use Rattle.gib_app.proofs.JobWriting.{named_of_two, one_named}
use Rattle.gib_app.proofs.Writing.{written_last}
use Rattle.gib_app.proofs.Replays.{some_or_none}
use Rattle.gib_app.proofs.CallCauses.{Whole, cause_of}
use Rattle.gib_app.proofs.EndsDone.{done_due, fit_ends}
use Rattle.gib_app.proofs.EndsLong.{long_due}
use Rattle.gib_app.proofs.EndsNone.{none_due}
use Rattle.gib_app.proofs.OneProgram.{Laws}
use Rattle.gib_app.proofs.SameFiles.{packed_read, same_bytes, same_given}
use Rattle.gib_app.proofs.Results.{big_of, file_result, file_text, from_given, image_result, input_in, joined_trees, long_of, long_result, none_of, of_none, output_of, result_file, result_of}

-- A run of one document on another, with an image and a packed file of its result, or none.

abbrev any_plan : Document → Document → (image pack : Option (List ℕ)) → Options → Plan
any_plan program packed image pack options = record { first = []; source = program; inputs = packed ∷ []; target = image; pack = pack; job = Run; options = options }

record AnyRun (words : List (List ℕ)) (files : ShelfView) (out : SinkView) (source input : List ℕ) (options : Options) (front : List ℕ) : Type 0 where
  program : Document
  packed : Document
  image : Option (List ℕ)
  pack : Option (List ℕ)
  asks : asked words ≡ Some (any_plan program packed image pack options)
  source_is : bytes_in files.kept program ≡ Has source
  input_is : bytes_in files.kept packed ≡ Has input
  front_is : out.taken ≡ Some front

record NoFault (program packed : Document) (image pack : Option (List ℕ)) (before now : ShelfView) (out_before out_now : SinkView) : Type 0 where
  program_read : (name : List ℕ) → IsUnread before now program name → ⊥
  packed_read : (name : List ℕ) → IsUnread before now packed name → ⊥
  image_written : (name : List ℕ) → image ≡ Some name → Rose (before.writes name) (now.writes name) → ⊥
  packed_written : (name : List ℕ) → pack ≡ Some name → Rose (before.writes name) (now.writes name) → ⊥
  put : Rose out_before.faults out_now.faults → ⊥

-- what holds of the files of a run holds of their bytes
of_files : (words : List (List ℕ)) (before : ShelfView) (out : SinkView) (source input : List ℕ) (options : Options) (front : List ℕ) (r : AnyRun words before out source input options front)
    (P : Program → TextsView → Contents → Type 0) → OnBoth before.kept (any_plan r.program r.packed r.image r.pack options) P → OnProgram dialect.Source source (λ p names. P p names (record { second = input; further = [] }))
of_files words before out source input options front r P h =
    let es = same_bytes (bytes_in before.kept r.program) source h.source r.source_is h.source_held in
    let ei = same_given before.kept (inputs_of (any_plan r.program r.packed r.image r.pack options)) (record { second = input; further = [] }) h.given (r.input_is, refl) h.given_held in
    let S : List ℕ → Type 0 = λ s. OnProgram dialect.Source s (λ p names. P p names h.given) in
    let I : Contents → Type 0 = λ i. OnProgram dialect.Source source (λ p names. P p names i) in
    subst I ei (subst S es h.holds)

any_done : (tells : Bool) (words : List (List ℕ)) (before now : ShelfView) (out out_now : SinkView) (source input : List ℕ) (options : Options) (front said : List ℕ) →
    AnyRun words before out source input options front → IsEnding tells words before now out out_now status.Done said → (output : List ℕ) × IsResult source input options.depth output × (out_now.taken ≡ Some (front ++ output))
any_done tells words before now out out_now source input options front said r h =
    let plan = any_plan r.program r.packed r.image r.pack options in
    let P : Plan → Type 0 = λ q. OnBoth (at_reading tells before.kept q) q (Whole tells before now out out_now q) in
    let on = of_files words before out source input options front r (Whole tells before now out out_now plan) (asked_is (asked words) plan P r.asks h.0) in
    let T : Option (List ℕ) → Type 0 = λ t. IfSome t (λ first. out_now.taken ≡ Some (first ++ on.holds.0)) in (
      on.holds.0,
      result_of source input options.depth on.holds.0 (record { texts = on.texts; program = on.program; is_program = on.is_program; holds = on.holds.1.ended.does.1 }),
      subst T r.front_is on.holds.2,
    )

image_there : {names : TextsView} (tells : Bool) (before now : Files) (name : List ℕ) (asked_for : Bool) (p : ProgramTree) (options : Options) (input : List ℕ) (file : Option (List ℕ)) (ws : List Write) → (IsNamedIn ws name → ⊥)
    → IsStored (Some name) file → AreMade tells before now (writes_of file (Some name) ++ ws) → MakesImage asked_for p names options input file → (bytes : List ℕ) × (now name ≡ told tells bytes) × IsRunImage p names options input bytes
image_there tells before now name asked_for p options input None ws no' stored written made = absurd stored
image_there tells before now name false p options input (Some bytes) ws no' stored written made = cc
image_there tells before now name true p options input (Some bytes) ws no' stored written made = (bytes, written_first tells before now name bytes ws no' written, made)

any_image : (tells : Bool) (words : List (List ℕ)) (before now : ShelfView) (out out_now : SinkView) (source input : List ℕ) (options : Options) (front said name : List ℕ) →
    (r : AnyRun words before out source input options front) → r.image ≡ Some name → (r.pack ≡ Some name → ⊥) → IsEnding tells words before now out out_now status.Done said →
    (bytes : List ℕ) × (now.kept name ≡ told tells bytes) × IsResultImage source input options bytes
any_image tells words before now out out_now source input options front said name r named other h =
    let plan = any_plan r.program r.packed r.image r.pack options in
    let P : Plan → Type 0 = λ q. OnBoth (at_reading tells before.kept q) q (Whole tells before now out out_now q) in
    let on = of_files words before out source input options front r (Whole tells before now out out_now plan) (asked_is (asked words) plan P r.asks h.0) in
    let made = on.holds.1 in
    let S : Option (List ℕ) → Type 0 = λ t. IsStored t made.ended.file in
    let W : Option (List ℕ) → Type 0 = λ t. AreMade tells before.kept now.kept (writes_of made.ended.file t ++ writes_of made.ended.packed r.pack) in
    let there = image_there {names = on.texts} tells before.kept now.kept name options.image on.program.tree options input made.ended.file
    (writes_of made.ended.packed r.pack) (λ i. other (one_named made.ended.packed r.pack name i)) (subst S named made.stored) (subst W named made.ended.written) made.ended.does.0 in
    (there.0, there.1, image_result source input options there.0 (record { texts = on.texts; program = on.program; is_program = on.is_program; holds = there.2 }))

packed_there : {names : TextsView} (tells : Bool) (before now : Files) (name : List ℕ) (asked_for : Bool) (p : ProgramTree) (depth : ℕ) (input text : List ℕ) (packed : Option (List ℕ)) (ws : List Write) → IsStored (Some name) packed
    → AreMade tells before now (ws ++ writes_of packed (Some name)) → PacksResult asked_for p names depth input packed (Prints text) → (bytes : List ℕ) × (now name ≡ told tells bytes) × IsPackedResult p names depth input bytes
packed_there tells before now name asked_for p depth input text None ws stored written made = absurd stored
packed_there tells before now name false p depth input text (Some bytes) ws stored written made = cc
packed_there {names} tells before now name true p depth input text (Some bytes) ws stored written made =
    let same : made.0 ≡ bytes = let e = made.1 in cc in
    (bytes, written_last tells before now ws name bytes written, subst (IsPackedResult p names depth input) same made.2)

any_packed : (tells : Bool) (words : List (List ℕ)) (before now : ShelfView) (out out_now : SinkView) (source input : List ℕ) (options : Options) (front said name : List ℕ) →
    (r : AnyRun words before out source input options front) → r.pack ≡ Some name → IsEnding tells words before now out out_now status.Done said →
    (bytes : List ℕ) × (now.kept name ≡ told tells bytes) × IsResultFile source input options.depth bytes
any_packed tells words before now out out_now source input options front said name r named h =
    let plan = any_plan r.program r.packed r.image r.pack options in
    let P : Plan → Type 0 = λ q. OnBoth (at_reading tells before.kept q) q (Whole tells before now out out_now q) in
    let on = of_files words before out source input options front r (Whole tells before now out out_now plan) (asked_is (asked words) plan P r.asks h.0) in
    let made = on.holds.1 in
    let S : Option (List ℕ) → Type 0 = λ t. IsStored t made.ended.packed in
    let W : Option (List ℕ) → Type 0 = λ t. AreMade tells before.kept now.kept (writes_of made.ended.file r.image ++ writes_of made.ended.packed t) in
    let there = packed_there {names = on.texts} tells before.kept now.kept name options.packs on.program.tree options.depth input on.holds.0 made.ended.packed
    (writes_of made.ended.file r.image) (subst S named made.stored_packed) (subst W named made.ended.written) made.ended.packs in
    (there.0, there.1, file_result source input options.depth there.0 (record { texts = on.texts; program = on.program; is_program = on.is_program; holds = there.2 }))

any_long : (tells : Bool) (words : List (List ℕ)) (before now : ShelfView) (out out_now : SinkView) (source input : List ℕ) (options : Options) (front said : List ℕ) →
    (r : AnyRun words before out source input options front) → IsEnding tells words before now out out_now status.Long said →
    HasLongFile source input options.depth × (options.packs ≡ true) × ((name : List ℕ) → (r.image ≡ Some name → ⊥) → now.kept name ≡ before.kept name)
any_long tells words before now out out_now source input options front said r h =
    let plan = any_plan r.program r.packed r.image r.pack options in
    let P : Plan → Type 0 = λ q. OnBoth (at_reading tells before.kept q) q (EndsWithout tells before now Long q) in
    let on = of_files words before out source input options front r (EndsWithout tells before now Long plan) (asked_is (asked words) plan P r.asks h.0) in
    let ended = on.holds in
    let long = ended.does.1 in
    let none = valueless_packs Run options on.program on.texts (record { second = input; further = [] }) ended.packed Long ended.packs in
    let W : Option (List ℕ) → Type 0 = λ q. AreMade tells before.kept now.kept (writes_of ended.file r.image ++ writes_of q r.pack) in
    let written : W None = subst W none ended.written in (
      long_of source input options.depth (record { texts = on.texts; program = on.program; is_program = on.is_program; holds = long }),
      ended.does.2,
      λ name other. written name ∙ others_after tells before.kept (writes_of ended.file r.image ++ []) name
          (λ i. elim (named_of_two (writes_of ended.file r.image) [] name i) [
            | inl j ↦ other (one_named ended.file r.image name j)
            | inr j ↦ j
          ]),
    )

asked_image : {names : TextsView} (tells : Bool) (before now : Files) (name : List ℕ) (asked_for : Bool) (p : ProgramTree) (options : Options) (input : List ℕ) (file : Option (List ℕ)) → asked_for ≡ true →
    AreMade tells before now (writes_of file (Some name) ++ []) → MakesImage asked_for p names options input file → (bytes : List ℕ) × (now name ≡ told tells bytes) × IsRunImage p names options input bytes
asked_image tells before now name false p options input file on written made = absurd (true≢false (sym on))
asked_image tells before now name true p options input None on written made = absurd made
asked_image tells before now name true p options input (Some bytes) on written made = (bytes, written_first tells before now name bytes [] (λ i. i) written, made)

any_long_image : (tells : Bool) (words : List (List ℕ)) (before now : ShelfView) (out out_now : SinkView) (source input : List ℕ) (options : Options) (front said name : List ℕ) →
    (r : AnyRun words before out source input options front) → r.image ≡ Some name → IsEnding tells words before now out out_now status.Long said →
    (bytes : List ℕ) × (now.kept name ≡ told tells bytes) × IsResultImage source input options bytes
any_long_image tells words before now out out_now source input options front said name r named h =
    let plan = any_plan r.program r.packed r.image r.pack options in
    let P : Plan → Type 0 = λ q. OnBoth (at_reading tells before.kept q) q (EndsWithout tells before now Long q) in
    let on = of_files words before out source input options front r (EndsWithout tells before now Long plan) (asked_is (asked words) plan P r.asks h.0) in
    let ended = on.holds in
    let none = valueless_packs Run options on.program on.texts (record { second = input; further = [] }) ended.packed Long ended.packs in
    let W : Option (List ℕ) → Option (List ℕ) → Type 0 = λ t q. AreMade tells before.kept now.kept (writes_of ended.file t ++ writes_of q r.pack) in
    let written : W (Some name) None = subst₂ W named none ended.written in
    let there = asked_image {names = on.texts} tells before.kept now.kept name options.image on.program.tree options input ended.file (image_asked words plan name r.asks refl named) written ended.does.0 in
    (there.0, there.1, image_result source input options there.0 (record { texts = on.texts; program = on.program; is_program = on.is_program; holds = there.2 }))

any_none : (tells : Bool) (words : List (List ℕ)) (before now : ShelfView) (out : SinkView) (source input : List ℕ) (options : Options) (front : List ℕ) (x : Why) →
    AnyRun words before out source input options front → AsksProgram tells words before.kept (EndsWithout tells before now (Meant x)) → HasNoResult source input options.depth x
any_none tells words before now out source input options front x r h =
    let plan = any_plan r.program r.packed r.image r.pack options in
    let P : Plan → Type 0 = λ q. OnBoth (at_reading tells before.kept q) q (EndsWithout tells before now (Meant x) q) in
    let on = of_files words before out source input options front r (EndsWithout tells before now (Meant x) plan) (asked_is (asked words) plan P r.asks h) in
    none_of source input options.depth x (record { texts = on.texts; program = on.program; is_program = on.is_program; holds = on.holds.does.1 })

any_valueless : (tells : Bool) (words : List (List ℕ)) (before now : ShelfView) (out out_now : SinkView) (source input : List ℕ) (options : Options) (front said : List ℕ) (x : Why) →
    AnyRun words before out source input options front → IsEnding tells words before now out out_now (status.NoValue x) said → HasNoResult source input options.depth x
any_valueless tells words before now out out_now source input options front said x r h = any_none tells words before now out source input options front x r h.0

any_full : (tells : Bool) (words : List (List ℕ)) (before now : ShelfView) (out out_now : SinkView) (source input : List ℕ) (options : Options) (front said : List ℕ) →
    AnyRun words before out source input options front → IsEnding tells words before now out out_now status.Full said → IsTooBig source input options (run_forks options)
any_full tells words before now out out_now source input options front said r h =
    let plan = any_plan r.program r.packed r.image r.pack options in
    let P : Plan → Type 0 = λ q. OnBoth (at_reading tells before.kept q) q (EndsWithout tells before now Full q) in
    let on = of_files words before out source input options front r (EndsWithout tells before now Full plan) (asked_is (asked words) plan P r.asks h.0) in
    big_of source input options (run_forks options) (record { texts = on.texts; program = on.program; is_program = on.is_program; holds = on.holds.does.1 })

due_of : (tells : Bool) (words : List (List ℕ)) (before now : ShelfView) (out out_now : SinkView) (source input : List ℕ) (options : Options) (front : List ℕ) (r : AnyRun words before out source input options front) →
    NoFault r.program r.packed r.image r.pack before now out out_now → (P : Program → TextsView → Contents → Type 0) → OnProgram dialect.Source source (λ p names. P p names (record { second = input; further = [] })) →
    DueOfFiles tells before now (any_plan r.program r.packed r.image r.pack options) P
due_of tells words before now out out_now source input options front r quiet P on = record {
  source = source;
  given = record { second = input; further = [] };
  source_told = r.source_is;
  given_told = (r.input_is, refl);
  first_written = λ name h. absurd h;
  source_read = quiet.program_read;
  given_read = packed_read before now r.packed quiet.packed_read;
  holds = on;
}

-- the text of a run is due, with the packed file that is asked for
text_due : Laws → (source input : List ℕ) (options : Options) (output : List ℕ) (b : Bool) → options.packs ≡ b → (options.packs ≡ true → (bytes : List ℕ) × IsResultFile source input options.depth bytes) →
    OnTree source (λ p names. IsOutput p names options.depth input output) →
    OnTree source (λ p names. IsOutput p names options.depth input output × ((packed : Option (List ℕ)) × PacksResult options.packs p names options.depth input packed (Prints output)))
text_due laws source input options output false off packs on =
    let P : Bool → Type 0 = λ x. PacksResult x on.program.tree on.texts options.depth input None (Prints output) in
    record { texts = on.texts; program = on.program; is_program = on.is_program; holds = (on.holds, (None, subst P (sym off) refl)) }
text_due laws source input options output true asks packs on =
    let file = packs asks in
    let both = joined_trees laws source (λ p names. IsOutput p names options.depth input output) (λ p names. IsPackedResult p names options.depth input file.0) on (result_file source input options.depth file.0 file.1) in
    let P : Bool → Type 0 = λ x. PacksResult x both.program.tree both.texts options.depth input (Some file.0) (Prints output) in
    record { texts = both.texts; program = both.program; is_program = both.is_program; holds = (both.holds.0, (Some file.0, subst P (sym asks) (file.0, refl, both.holds.1))) }

any_ends_done : Laws → (tells : Bool) (words : List (List ℕ)) (before now : ShelfView) (out out_now : SinkView) (source input : List ℕ) (options : Options) (front output said : List ℕ) (end' : Status) →
    (r : AnyRun words before out source input options front) → NoFault r.program r.packed r.image r.pack before now out out_now → IsResult source input options.depth output →
    (options.packs ≡ true → (bytes : List ℕ) × IsResultFile source input options.depth bytes) →
    IsEnding tells words before now out out_now end' said → (end' ≡ status.Done) ⊎ (end' ≡ status.Memory) ⊎ (end' ≡ status.Full)
any_ends_done laws tells words before now out out_now source input options front output said end' r quiet h packs ends =
    let plan = any_plan r.program r.packed r.image r.pack options in
    let on = text_due laws source input options output options.packs refl packs (output_of source input options.depth output h) in
    let takes : TakesAll before now out out_now plan = record { target = quiet.image_written; pack = quiet.packed_written; out = quiet.put } in
    let due = due_of tells words before now out out_now source input options front r quiet (HasText plan)
    (record { texts = on.texts; program = on.program; is_program = on.is_program; holds = (None, output, (refl, on.holds.0), on.holds.1) }) in
    done_due laws tells (record { shelf = before; out = out }) (record { shelf = now; out = out_now }) plan (due, takes) end' (cause_of tells words (record { shelf = before; out = out }) (record { shelf = now; out = out_now }) plan r.asks end' said ends)

any_ends_long : Laws → (tells : Bool) (words : List (List ℕ)) (before now : ShelfView) (out out_now : SinkView) (source input : List ℕ) (options : Options) (front said : List ℕ) (end' : Status) →
    (r : AnyRun words before out source input options front) → NoFault r.program r.packed r.image r.pack before now out out_now → HasLongFile source input options.depth → options.packs ≡ true →
    IsEnding tells words before now out out_now end' said → (end' ≡ status.Long) ⊎ (end' ≡ status.Memory) ⊎ (end' ≡ status.Full)
any_ends_long laws tells words before now out out_now source input options front said end' r quiet h packs ends =
    let plan = any_plan r.program r.packed r.image r.pack options in
    let on = long_result source input options.depth h in
    let due = due_of tells words before now out out_now source input options front r quiet (DueWithout before now Long plan)
    (record { texts = on.texts; program = on.program; is_program = on.is_program; holds = ((None, (refl, on.holds, packs)), λ name bytes named does. quiet.image_written name named) }) in
    long_due laws tells (record { shelf = before; out = out }) (record { shelf = now; out = out_now }) plan (refl, due) end' (cause_of tells words (record { shelf = before; out = out }) (record { shelf = now; out = out_now }) plan r.asks end' said ends)

any_ends_valueless : Laws → (tells : Bool) (words : List (List ℕ)) (before now : ShelfView) (out out_now : SinkView) (source input : List ℕ) (options : Options) (front said : List ℕ) (x : Why) (end' : Status) →
    (r : AnyRun words before out source input options front) → NoFault r.program r.packed r.image r.pack before now out out_now → HasNoResult source input options.depth x →
    IsEnding tells words before now out out_now end' said → (end' ≡ status.NoValue x) ⊎ (end' ≡ status.Memory) ⊎ (end' ≡ status.Full)
any_ends_valueless laws tells words before now out out_now source input options front said x end' r quiet h ends =
    let plan = any_plan r.program r.packed r.image r.pack options in
    let on = of_none source input options.depth x h in
    let due = due_of tells words before now out out_now source input options front r quiet (DueWithout before now (Meant x) plan)
    (record { texts = on.texts; program = on.program; is_program = on.is_program; holds = ((None, (refl, on.holds)), λ name bytes named does. absurd (some_or_none bytes does.0)) }) in
    none_due laws tells (record { shelf = before; out = out }) (record { shelf = now; out = out_now }) plan x due end' (cause_of tells words (record { shelf = before; out = out }) (record { shelf = now; out = out_now }) plan r.asks end' said ends)

-- Chunks that are enough do not run out

-- the statuses of a run whose chunks are enough
abbrev IsFitting : Options → Status → Type 0
IsFitting options s = (s ≡ status.Done) ⊎ ((x : Why) × (s ≡ status.NoValue x)) ⊎ (s ≡ status.Memory) ⊎ ((s ≡ status.Long) × (options.packs ≡ true))

any_fits : Laws → (tells : Bool) (words : List (List ℕ)) (before now : ShelfView) (out out_now : SinkView) (source input : List ℕ) (options : Options) (front said : List ℕ) (end' : Status) →
    (r : AnyRun words before out source input options front) → NoFault r.program r.packed r.image r.pack before now out out_now → Given source input → (IsTooBig source input options (run_forks options) → ⊥) →
    IsEnding tells words before now out out_now end' said → IsFitting options end'
any_fits laws tells words before now out out_now source input options front said end' r quiet g fits ends =
    let plan = any_plan r.program r.packed r.image r.pack options in
    let E : Status → Type 0 = λ s. IsEnding tells words before now out out_now s said in
    let takes : TakesAll before now out out_now plan = record { target = quiet.image_written; pack = quiet.packed_written; out = quiet.put } in
    let due = due_of tells words before now out out_now source input options front r quiet (λ p names given. Accepts plan.job plan.options p names given)
    (from_given g (λ p names. Accepts plan.job plan.options (sourced p) names (record { second = input; further = [] })) (g.value, input_in g)) in
    elim (fit_ends laws tells (record { shelf = before; out = out }) (record { shelf = now; out = out_now }) plan (due, takes) end' (cause_of tells words (record { shelf = before; out = out }) (record { shelf = now; out = out_now }) plan r.asks end' said ends)) [
      | inl e ↦ inl e
      | inr (inl e) ↦ inr (inl e)
      | inr (inr (inl e)) ↦ inr (inr (inl e))
      | inr (inr (inr (inl e))) ↦ inr (inr (inr (e, (any_long tells words before now out out_now source input options front said r (subst E e ends)).1)))
      | inr (inr (inr (inr e))) ↦ absurd (fits (any_full tells words before now out out_now source input options front said r (subst E e ends)))
    ]

-- ---- A run without a packed file of its result

module _ (words : List (List ℕ)) (before : ShelfView) (out : SinkView) (source input : List ℕ) (options : Options) (front : List ℕ) (r : IsRun words before out source input options front) where
  abbrev bare : AnyRun words before out source input options front
  bare = record { program = r.program; packed = r.packed; image = r.image; pack = None; asks = r.asks; source_is = r.source_is; input_is = r.input_is; front_is = r.front_is }

  bare_packs : {X : Type 0} → options.packs ≡ true → X
  bare_packs on = absurd (true≢false (sym on ∙ packs_agrees words (any_plan r.program r.packed r.image None options) r.asks refl))

  bare_quiet : (now : ShelfView) (out_now : SinkView) → NoneFailed r.program r.packed r.image before now out out_now → NoFault r.program r.packed r.image None before now out out_now
  bare_quiet now out_now q = record { program_read = q.program_read; packed_read = q.packed_read; image_written = q.image_written; packed_written = λ name e h. none-some name e; put = q.put }

pub run_done : (tells : Bool) (words : List (List ℕ)) (before now : ShelfView) (out out_now : SinkView) (source input : List ℕ) (options : Options) (front said : List ℕ) → IsRun words before out source input options front → IsEnding tells words before now out out_now status.Done said → (output : List ℕ) × IsResult source input options.depth output × (out_now.taken ≡ Some (front ++ output))
run_done tells words before now out out_now source input options front said r h = any_done tells words before now out out_now source input options front said (bare words before out source input options front r) h

pub run_image : (tells : Bool) (words : List (List ℕ)) (before now : ShelfView) (out out_now : SinkView) (source input : List ℕ) (options : Options) (front said name : List ℕ) → (r : IsRun words before out source input options front) → r.image ≡ Some name → IsEnding tells words before now out out_now status.Done said →
    (bytes : List ℕ) × (now.kept name ≡ told tells bytes) × IsResultImage source input options bytes
run_image tells words before now out out_now source input options front said name r named h = any_image tells words before now out out_now source input options front said name (bare words before out source input options front r) named (none-some name) h

pub run_valueless : (tells : Bool) (words : List (List ℕ)) (before now : ShelfView) (out out_now : SinkView) (source input : List ℕ) (options : Options) (front said : List ℕ) (x : Why) →
    IsRun words before out source input options front → IsEnding tells words before now out out_now (status.NoValue x) said → HasNoResult source input options.depth x
run_valueless tells words before now out out_now source input options front said x r h = any_valueless tells words before now out out_now source input options front said x (bare words before out source input options front r) h

-- What the status of a run tells, by how the call ends.
pub run_tells : (tells : Bool) (words : List (List ℕ)) (before now : ShelfView) (out out_now : SinkView) (end' : Status) (said : List ℕ) → IsEnding tells words before now out out_now end' said
    → (source input : List ℕ) (options : Options) (front : List ℕ) → IsRun words before out source input options front → TellsWhatIsMeant source input options.depth front out_now end'
run_tells tells words before now out out_now status.Done said h source input options front r = run_done tells words before now out out_now source input options front said r h
run_tells tells words before now out out_now (status.NoValue x) said h source input options front r = run_valueless tells words before now out out_now source input options front said x r h
run_tells tells words before now out out_now status.Source said h source input options front r = tt
run_tells tells words before now out out_now status.Usage said h source input options front r = tt
run_tells tells words before now out out_now status.Full said h source input options front r = tt
run_tells tells words before now out out_now status.Memory said h source input options front r = tt
run_tells tells words before now out out_now status.ReadFault said h source input options front r = tt
run_tells tells words before now out out_now status.WriteFault said h source input options front r = tt
run_tells tells words before now out out_now status.Input said h source input options front r = tt
run_tells tells words before now out out_now status.Long said h source input options front r = tt

pub run_full : (tells : Bool) (words : List (List ℕ)) (before now : ShelfView) (out out_now : SinkView) (source input : List ℕ) (options : Options) (front said : List ℕ) → IsRun words before out source input options front → IsEnding tells words before now out out_now status.Full said → IsTooBig source input options (run_forks options)
run_full tells words before now out out_now source input options front said r h = any_full tells words before now out out_now source input options front said (bare words before out source input options front r) h

pub run_ends_done : Laws → (tells : Bool) (words : List (List ℕ)) (before now : ShelfView) (out out_now : SinkView) (source input : List ℕ) (options : Options) (front output said : List ℕ) (end' : Status) →
    (r : IsRun words before out source input options front) → NoneFailed r.program r.packed r.image before now out out_now → IsResult source input options.depth output → IsEnding tells words before now out out_now end' said → (end' ≡ status.Done) ⊎ (end' ≡ status.Memory) ⊎ (end' ≡ status.Full)
run_ends_done laws tells words before now out out_now source input options front output said end' r quiet h ends =
    any_ends_done laws tells words before now out out_now source input options front output said end' (bare words before out source input options front r) (bare_quiet words before out source input options front r now out_now quiet) h
    (λ on. bare_packs words before out source input options front r on) ends

pub run_ends_valueless : Laws → (tells : Bool) (words : List (List ℕ)) (before now : ShelfView) (out out_now : SinkView) (source input : List ℕ) (options : Options) (front said : List ℕ) (x : Why) (end' : Status) →
    (r : IsRun words before out source input options front) → NoneFailed r.program r.packed r.image before now out out_now → HasNoResult source input options.depth x → IsEnding tells words before now out out_now end' said → (end' ≡ status.NoValue x) ⊎ (end' ≡ status.Memory) ⊎ (end' ≡ status.Full)
run_ends_valueless laws tells words before now out out_now source input options front said x end' r quiet h ends =
    any_ends_valueless laws tells words before now out out_now source input options front said x end' (bare words before out source input options front r) (bare_quiet words before out source input options front r now out_now quiet) h ends

pub run_fits : Laws → (tells : Bool) (words : List (List ℕ)) (before now : ShelfView) (out out_now : SinkView) (source input : List ℕ) (options : Options) (front said : List ℕ) (end' : Status) →
    (r : IsRun words before out source input options front) → NoneFailed r.program r.packed r.image before now out out_now → Given source input → (IsTooBig source input options (run_forks options) → ⊥) → IsEnding tells words before now out out_now end' said →
    (end' ≡ status.Done) ⊎ ((x : Why) × (end' ≡ status.NoValue x)) ⊎ (end' ≡ status.Memory)
run_fits laws tells words before now out out_now source input options front said end' r quiet g fits ends =
    elim (any_fits laws tells words before now out out_now source input options front said end' (bare words before out source input options front r) (bare_quiet words before out source input options front r now out_now quiet) g fits ends) [
      | inl e ↦ inl e
      | inr (inl e) ↦ inr (inl e)
      | inr (inr (inl e)) ↦ inr (inr e)
      | inr (inr (inr e)) ↦ bare_packs words before out source input options front r e.1
    ]

-- ---- A run with one

same_name : (a b : List ℕ) → Some a ≡ Some b → a ≡ b
same_name a b e = cc

module _ (words : List (List ℕ)) (before : ShelfView) (out : SinkView) (source input : List ℕ) (options : Options) (front : List ℕ) (r : IsPackingRun words before out source input options front) where
  abbrev with_pack : AnyRun words before out source input options front
  with_pack = record { program = r.program; packed = r.packed; image = r.image; pack = Some r.pack; asks = r.asks; source_is = r.source_is; input_is = r.input_is; front_is = r.front_is }

  pack_on : options.packs ≡ true
  pack_on = packs_agrees words (any_plan r.program r.packed r.image (Some r.pack) options) r.asks refl

  pack_quiet : (now : ShelfView) (out_now : SinkView) → NoWriteFailed r.program r.packed r.image r.pack before now out out_now → NoFault r.program r.packed r.image (Some r.pack) before now out out_now
  pack_quiet now out_now q = record {
    program_read = q.others.program_read;
    packed_read = q.others.packed_read;
    image_written = q.others.image_written;
    packed_written = λ name e h. q.packed_written (subst (λ (n : List ℕ). Rose (before.writes n) (now.writes n)) (sym (same_name r.pack name e)) h);
    put = q.others.put;
  }

pub pack_done : (tells : Bool) (words : List (List ℕ)) (before now : ShelfView) (out out_now : SinkView) (source input : List ℕ) (options : Options) (front said : List ℕ) → IsPackingRun words before out source input options front → IsEnding tells words before now out out_now status.Done said → (output : List ℕ) × IsResult source input options.depth output × (out_now.taken ≡ Some (front ++ output))
pack_done tells words before now out out_now source input options front said r h = any_done tells words before now out out_now source input options front said (with_pack words before out source input options front r) h

pub pack_packed : (tells : Bool) (words : List (List ℕ)) (before now : ShelfView) (out out_now : SinkView) (source input : List ℕ) (options : Options) (front said : List ℕ) → (r : IsPackingRun words before out source input options front) → IsEnding tells words before now out out_now status.Done said → (bytes : List ℕ) × (now.kept r.pack ≡ told tells bytes) × IsResultFile source input options.depth bytes
pack_packed tells words before now out out_now source input options front said r h = any_packed tells words before now out out_now source input options front said r.pack (with_pack words before out source input options front r) refl h

pub pack_image : (tells : Bool) (words : List (List ℕ)) (before now : ShelfView) (out out_now : SinkView) (source input : List ℕ) (options : Options) (front said name : List ℕ) → (r : IsPackingRun words before out source input options front) → r.image ≡ Some name → (r.pack ≡ name → ⊥) → IsEnding tells words before now out out_now status.Done said →
    (bytes : List ℕ) × (now.kept name ≡ told tells bytes) × IsResultImage source input options bytes
pack_image tells words before now out out_now source input options front said name r named other h = any_image tells words before now out out_now source input options front said name (with_pack words before out source input options front r) named (λ e. other (same_name r.pack name e)) h

pub pack_long : (tells : Bool) (words : List (List ℕ)) (before now : ShelfView) (out out_now : SinkView) (source input : List ℕ) (options : Options) (front said : List ℕ) → IsPackingRun words before out source input options front → IsEnding tells words before now out out_now status.Long said → HasLongFile source input options.depth
pack_long tells words before now out out_now source input options front said r h = (any_long tells words before now out out_now source input options front said (with_pack words before out source input options front r) h).0

pub pack_long_image : (tells : Bool) (words : List (List ℕ)) (before now : ShelfView) (out out_now : SinkView) (source input : List ℕ) (options : Options) (front said name : List ℕ) → (r : IsPackingRun words before out source input options front) → r.image ≡ Some name → IsEnding tells words before now out out_now status.Long said →
    (bytes : List ℕ) × (now.kept name ≡ told tells bytes) × IsResultImage source input options bytes
pack_long_image tells words before now out out_now source input options front said name r named h = any_long_image tells words before now out out_now source input options front said name (with_pack words before out source input options front r) named h

pub pack_unwritten : (tells : Bool) (words : List (List ℕ)) (before now : ShelfView) (out out_now : SinkView) (source input : List ℕ) (options : Options) (front said name : List ℕ) → (r : IsPackingRun words before out source input options front) → (r.image ≡ Some name → ⊥) → IsEnding tells words before now out out_now status.Long said → now.kept name ≡ before.kept name
pack_unwritten tells words before now out out_now source input options front said name r other h = (any_long tells words before now out out_now source input options front said (with_pack words before out source input options front r) h).2 name other

pub pack_valueless : (tells : Bool) (words : List (List ℕ)) (before now : ShelfView) (out out_now : SinkView) (source input : List ℕ) (options : Options) (front said : List ℕ) (x : Why) →
    IsPackingRun words before out source input options front → IsEnding tells words before now out out_now (status.NoValue x) said → HasNoResult source input options.depth x
pack_valueless tells words before now out out_now source input options front said x r h = any_valueless tells words before now out out_now source input options front said x (with_pack words before out source input options front r) h

pub pack_full : (tells : Bool) (words : List (List ℕ)) (before now : ShelfView) (out out_now : SinkView) (source input : List ℕ) (options : Options) (front said : List ℕ) → IsPackingRun words before out source input options front → IsEnding tells words before now out out_now status.Full said → IsTooBig source input options (run_forks options)
pack_full tells words before now out out_now source input options front said r h = any_full tells words before now out out_now source input options front said (with_pack words before out source input options front r) h

pub pack_ends_done : Laws → (tells : Bool) (words : List (List ℕ)) (before now : ShelfView) (out out_now : SinkView) (source input : List ℕ) (options : Options) (front bytes said : List ℕ) (end' : Status) →
    (r : IsPackingRun words before out source input options front) → NoWriteFailed r.program r.packed r.image r.pack before now out out_now → IsResultFile source input options.depth bytes → IsEnding tells words before now out out_now end' said → (end' ≡ status.Done) ⊎ (end' ≡ status.Memory) ⊎ (end' ≡ status.Full)
pack_ends_done laws tells words before now out out_now source input options front bytes said end' r quiet h ends =
    let shown = file_text source input options.depth bytes h in
    any_ends_done laws tells words before now out out_now source input options front shown.0 said end' (with_pack words before out source input options front r) (pack_quiet words before out source input options front r now out_now quiet) shown.1 (λ on. (bytes, h)) ends

pub pack_ends_long : Laws → (tells : Bool) (words : List (List ℕ)) (before now : ShelfView) (out out_now : SinkView) (source input : List ℕ) (options : Options) (front said : List ℕ) (end' : Status) →
    (r : IsPackingRun words before out source input options front) → NoWriteFailed r.program r.packed r.image r.pack before now out out_now → HasLongFile source input options.depth → IsEnding tells words before now out out_now end' said → (end' ≡ status.Long) ⊎ (end' ≡ status.Memory) ⊎ (end' ≡ status.Full)
pack_ends_long laws tells words before now out out_now source input options front said end' r quiet h ends =
    any_ends_long laws tells words before now out out_now source input options front said end' (with_pack words before out source input options front r) (pack_quiet words before out source input options front r now out_now quiet) h (pack_on words before out source input options front r) ends

pub pack_ends_valueless : Laws → (tells : Bool) (words : List (List ℕ)) (before now : ShelfView) (out out_now : SinkView) (source input : List ℕ) (options : Options) (front said : List ℕ) (x : Why) (end' : Status) →
    (r : IsPackingRun words before out source input options front) → NoWriteFailed r.program r.packed r.image r.pack before now out out_now → HasNoResult source input options.depth x → IsEnding tells words before now out out_now end' said → (end' ≡ status.NoValue x) ⊎ (end' ≡ status.Memory) ⊎ (end' ≡ status.Full)
pack_ends_valueless laws tells words before now out out_now source input options front said x end' r quiet h ends =
    any_ends_valueless laws tells words before now out out_now source input options front said x end' (with_pack words before out source input options front r) (pack_quiet words before out source input options front r now out_now quiet) h ends

pub pack_fits : Laws → (tells : Bool) (words : List (List ℕ)) (before now : ShelfView) (out out_now : SinkView) (source input : List ℕ) (options : Options) (front said : List ℕ) (end' : Status) →
    (r : IsPackingRun words before out source input options front) → NoWriteFailed r.program r.packed r.image r.pack before now out out_now → Given source input → (IsTooBig source input options (run_forks options) → ⊥) → IsEnding tells words before now out out_now end' said →
    (end' ≡ status.Done) ⊎ ((x : Why) × (end' ≡ status.NoValue x)) ⊎ (end' ≡ status.Memory) ⊎ (end' ≡ status.Long)
pack_fits laws tells words before now out out_now source input options front said end' r quiet g fits ends =
    elim (any_fits laws tells words before now out out_now source input options front said end' (with_pack words before out source input options front r) (pack_quiet words before out source input options front r now out_now quiet) g fits ends) [
      | inl e ↦ inl e
      | inr (inl e) ↦ inr (inl e)
      | inr (inr (inl e)) ↦ inr (inr (inl e))
      | inr (inr (inr e)) ↦ inr (inr (inr e.0))
    ]
