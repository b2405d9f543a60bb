-- Where a plan that words ask for names a file to write, its job makes one.
use Rattle.gib_base.specs.Texts.{TextsView}
use Rattle.std.proofs.Common.{◌≡◌, ◌∙◌, Bool, true, false, refl, sym, ap, subst, subst₂, ℕ, List, Option, Some, None, is_some, true≢false}
use Rattle.clap.specs.Walk.{Text}
use Rattle.gib_types.specs.declared.table.Ty.{Ty}
use Rattle.gib_types.specs.Layout.{LaidOut}
use Rattle.gib_types.specs.Tree.{Datum}
use Rattle.gib_mem.specs.Memory.{Memory}
use Rattle.gib_packed.specs.declared.root.Root.{Root}
use Rattle.gib_syntax.specs.Declarations.{output_type}
use Rattle.gib_words.specs.declared.plan.Job.{Job}
use Rattle.gib_words.specs.declared.plan.Job.TheVariants.{Run}
use Rattle.gib_words.specs.declared.plan.Options.{Options}
use Rattle.gib_app.specs.Rows.{Plainly, ForFiles, ForSummary, ForJournal, ForPlaces, Says, Evaluates, PacksValue, ShowsFile, FollowsJournal, row, Row as JobRow}
use Rattle.gib_words.specs.Plan.{Plan, Files, Contents}
use Rattle.gib_app.specs.Writes.{AreWritten}
use Rattle.gib_words.specs.Words.{asked}
use Rattle.gib_app.specs.Running.{Program}
use Rattle.gib_app.specs.declared.made.End.{End as KeptEnd}
use Rattle.gib_app.specs.declared.made.End.TheVariants as ends
use Rattle.gib_app.specs.declared.made.Reason.{Reason}
use Rattle.gib_app.specs.Kept.{EndsByBoth}
use Rattle.gib_app.specs.Performing.{AreOrdered, IsDone}
use Rattle.gib_app.specs.Jobs.{End, Prints, NoValue, Does, DoesBy, DoesPack, DoesAll, MakesImage, PacksResult, packs_of}
use Rattle.gib_app.specs.Replaying.{IsImageFile, layouts_for}
use Rattle.gib_print.specs.Image.{image_of}
use Rattle.gib_app.specs.Causes.{IsStored, IsMade}
use Rattle.gib_app.proofs.Targets.{Fits, MakesFile, asked_fits, none_is_some}

-- ---- What was made

none_replayed : (image : Bool) (laid : LaidOut) (ty : Ty) (memory : Memory) (place : Root) (result : Datum) → image ≡ true → IsImageFile image laid ty memory place result None → ⊥
none_replayed false laid ty memory place result on d = true≢false (sym on)
none_replayed true laid ty memory place result on d = none_is_some (image_of memory place) d.0

made_none : (r : JobRow) (o : Options) (p : Program) (names : TextsView) (given : Contents) (text : List ℕ) → MakesFile r o → DoesBy r o p names given None (Prints text) → ⊥
made_none (Says said) o p names given text on d = on
made_none (Evaluates Plainly) o p names given text on d = on
made_none (Evaluates ForFiles) o p names given text on d = subst (λ (b : Bool). MakesImage b p.tree names o given.second None) on d.0
made_none (Evaluates ForSummary) o p names given text on d = on
made_none (Evaluates ForJournal) o p names given text on d = d.0
made_none (Evaluates ForPlaces) o p names given text on d = on
made_none PacksValue o p names given text on d = none_is_some d.0 d.1
made_none ShowsFile o p names given text on d = on
made_none FollowsJournal o p names given text on d =
    let end = d.holds in
    none_replayed o.image (layouts_for p.tree d.settings) (output_type p.tree) end.memory end.place end.result on end.is_file

stored : (r : Plan) (p : Program) (names : TextsView) (given : Contents) (text : List ℕ) → Fits r → (target file : Option (List ℕ)) → r.target ≡ target
    → Does r.job r.options p names given file (Prints text) → IsStored target file
stored r p names given text fits None file e d = tt {0}
stored r p names given text fits (Some name) None e d = made_none (row r.job) r.options p names given text (fits.makes name e) d
stored r p names given text fits (Some name) (Some bytes) e d = tt {0}

stored_packed : (r : Plan) (p : Program) (names : TextsView) (given : Contents) (text : List ℕ) → Fits r → (pack packed : Option (List ℕ)) → r.pack ≡ pack
    → DoesPack r.job r.options p names given packed (Prints text) → IsStored pack packed
stored_packed r p names given text fits None packed e d = tt {0}
stored_packed r p names given text fits (Some name) None e d =
    let k = subst (λ (b : Bool). PacksResult b p.tree names r.options.depth given.second None (Prints text)) (fits.packs ∙ ap is_some e) d in
    none_is_some k.0 k.1
stored_packed r p names given text fits (Some name) (Some bytes) e d = tt {0}

-- A run that words ask for has a name for the packed file of its result where that is asked for, and nowhere else.
pub packs_agrees : (words : List Text) (r : Plan) → asked words ≡ Some r → r.job ≡ Run → r.options.packs ≡ is_some r.pack
packs_agrees words r e is = ap (λ (j : Job). packs_of (row j) r.options) (sym is) ∙ (asked_fits words r e).packs

-- A run that has a name for its image is asked for it.
pub image_asked : (words : List Text) (r : Plan) (name : List ℕ) → asked words ≡ Some r → r.job ≡ Run → r.target ≡ Some name → r.options.image ≡ true
image_asked words r name e is named = subst (λ (j : Job). MakesFile (row j) r.options) is ((asked_fits words r e).makes name named)

-- A job that ends with a text made the files that are written.
pub is_made : (tells : Bool) (words : List (List ℕ)) (before now : Files) (r : Plan) (p : Program) (names : TextsView) (given : Contents) (text : List ℕ) (file packed : Option (List ℕ)) → asked words ≡ Some r
    → DoesAll r.job r.options p names given file packed (Prints text) → AreWritten tells before now r file packed → IsMade tells before now r p names given text
is_made tells words before now r p names given text file packed e d w = record {
  ended = record { file = file; packed = packed; does = d.0; packs = d.1; written = w };
  stored = stored r p names given text (asked_fits words r e) r.target file refl d.0;
  stored_packed = stored_packed r p names given text (asked_fits words r e) r.pack packed refl d.1;
}

-- ---- In which order

pub some_end : (file packed : Option (List ℕ)) (e : KeptEnd) (P : Option (List ℕ) → Option (List ℕ) → End → Type 0) → EndsByBoth file packed e P → (x : End) × P file packed x
some_end file packed (ends.Prints text) P h = (Prints text.items, h)
some_end file packed (ends.Value value) P h = (Prints h.2, h.4)
some_end file packed (ends.NoValue reason) P h = (NoValue reason, h)

pub both_end : (file packed : Option (List ℕ)) (e : KeptEnd) (bytes behind : List ℕ) (P : Option (List ℕ) → Option (List ℕ) → End → Type 0) → file ≡ Some bytes → packed ≡ Some behind → EndsByBoth file packed e P → (x : End) × P (Some bytes) (Some behind) x
both_end file packed e bytes behind P first second h =
    let x = some_end file packed e P h in
    (x.0, subst₂ (λ (f q : Option (List ℕ)). P f q x.0) first second x.1)

-- A job that ends without a value makes no packed file of it.
pub valueless_packs : (job : Job) (o : Options) (p : Program) (names : TextsView) (given : Contents) (packed : Option (List ℕ)) (reason : Reason) → DoesPack job o p names given packed (NoValue reason) → packed ≡ None
valueless_packs job o p names given packed reason d = go (packs_of (row job) o) d
  where
    go : (b : Bool) → PacksResult b p.tree names o.depth given.second packed (NoValue reason) → packed ≡ None
    go false k = k
    go true k = k

end_ordered : (r : Plan) (p : Program) (names : TextsView) (given : Contents) (file packed : Option (List ℕ)) (x : End) → Fits r → DoesAll r.job r.options p names given file packed x → AreOrdered r file packed
end_ordered r p names given file packed (NoValue reason) fits d = λ name named none. valueless_packs r.job r.options p names given packed reason d.1
end_ordered r p names given file packed (Prints text) fits d = λ name named none.
    absurd (made_none (row r.job) r.options p names given text (fits.makes name named) (subst (λ (f : Option (List ℕ)). Does r.job r.options p names given f (Prints text)) none d.0))

-- The packed file of a result is made only behind the other file, where words ask for that one.
pub are_ordered : (kept : Files) (r : Plan) (file packed : Option (List ℕ)) (e : KeptEnd) → ((words : List (List ℕ)) × (asked words ≡ Some r)) → IsDone kept r file packed e → AreOrdered r file packed
are_ordered kept r file packed e asks on =
    let p = on.holds.program in
    let names = on.holds.texts in
    let x = some_end file packed e (DoesAll r.job r.options p names on.given) on.holds.holds in
    end_ordered r p names on.given file packed x.0 (asked_fits asks.0 r asks.1) x.1
