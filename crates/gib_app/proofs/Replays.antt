-- What the events of one journal lead to is one.
use Rattle.gib_base.specs.Texts.{TextsView}
use Rattle.std.proofs.Common.{◌≡◌, ◌∙◌, refl, sym, subst, Bool, true, false, cond, ℕ, ◌*◌, List, [], ◌∷◌, Option, Some, None, Ok, Err, ap, ◌⊎◌, inl, inr}
use Rattle.gib_types.specs.declared.table.Ty.{Ty}
use Rattle.gib_types.specs.Layout.{LaidOut, head_size}
use Rattle.gib_types.specs.Table.{Table}
use Rattle.gib_types.specs.Tree.{Datum, whole, truth, con}
use Rattle.gib_file.specs.Framed.{File}
use Rattle.gib_mem.specs.Memory.{Memory, Store, after_draw}
use Rattle.gib_mem.specs.Plain.{nothing}
use Rattle.gib_mem.proofs.Puts.{puts_alone}
use Rattle.gib_mem.specs.Pointer.{pointer}
use Rattle.gib_packed.specs.Head.{head_bytes}
use Rattle.gib_region.specs.Region.{has_room, redirected}
use Rattle.gib_load.specs.Placement.{Open, begun, place_head, place_heads, placed_in, spot_of, with_room}
use Rattle.gib_load.specs.Preorder.{Head, heads}
use Rattle.gib_load.specs.Spot.{further, places}
use Rattle.gib_packed.specs.declared.root.Root.{Root}
use Rattle.gib_packed.specs.declared.root.Root.TheVariants as root
use Rattle.gib_code.specs.declared.answer.Answer.{Answer}
use Rattle.gib_code.specs.declared.answer.Answer.TheVariants as answer
use Rattle.gib_types.specs.declared.reason.Reason.{Reason}
use Rattle.gib_weave.specs.declared.task.WeaveFault.TheVariants as event
use Rattle.gib_locked.specs.declared.journal.Line.{Line}
use Rattle.gib_locked.specs.declared.settings.Settings.{Settings}
use Rattle.gib_locked.proofs.OneEnd.{not_answered}
use Rattle.gib_locked.proofs.ReadJournal.{text_is_one}
use Rattle.gib_syntax.specs.Results as results
use Rattle.gib_syntax.specs.Tree.{ProgramTree}
use Rattle.gib_syntax.specs.Declarations.{table_of_program, input_type}
use Rattle.gib_syntax.specs.Meaning.{Outcome, Gives, Stops, run}
use Rattle.gib_weave.specs.Sound.{IsAnswer}
use Rattle.gib_weave.proofs.Roots.{no_parts}
use Rattle.gib_app.specs.Replaying.{IsEndOf, IsShownEnd, IsValueless, LacksChunks, OnJournal, code_for, layouts_for, root_in, start_for}

-- A file is that of one value.
abbrev pub OneValue : Type 0
OneValue = (table : Table) (names : List (List ℕ)) (ty : Ty) (v w : Datum) (bytes : List ℕ) → File table names ty v bytes → File table names ty w bytes → v ≡ w

-- what holds of one input and one journal, holds of one value, of one start and of the same lines
pub both_on : {names : TextsView} → OneValue → (p : ProgramTree) (input bytes : List ℕ) (P Q : Datum → Settings → List Line → Type 0) → OnJournal p names input bytes P → OnJournal p names input bytes Q →
    (v : Datum) × (settings : Settings) × (lines : List Line) × P v settings lines × Q v settings lines
both_on one p input bytes P Q a b =
    let same = text_is_one b.settings a.settings b.lines a.lines b.is_journal.are a.is_journal.are (sym b.is_journal.text_is ∙ a.is_journal.text_is) in
    let V : Datum → Type 0 = λ v. Q v b.settings b.lines in
    let S : Settings → Type 0 = λ s. Q a.value s b.lines in
    let L : List Line → Type 0 = λ ls. Q a.value a.settings ls in
    let value = one (table_of_program p) _ (input_type p) b.value a.value input b.is_input.file a.is_input.file in
    (a.value, a.settings, a.lines, a.holds, subst L same.1 (subst S same.0 (subst V value b.holds)))

-- Nobody else draws where a replay starts.

room_alone : (r : Open) (room : Bool) → (cond {A = Open} room r (record { memory = redirected r.memory r.at r.memory.drawn; at = 4096 * r.memory.drawn })).memory.alone ≡ r.memory.alone
room_alone r true = refl
room_alone r false = puts_alone (after_draw r.memory r.memory.drawn) r.at (pointer 255 (4096 * r.memory.drawn))

heads_alone : (laid : LaidOut) (r : Open) (hs : List Head) → (place_heads laid r hs).memory.alone ≡ r.memory.alone
heads_alone laid r [] = refl
heads_alone laid r (h ∷ hs) =
    let size = head_size laid h.tag in
    let open' : Open = with_room r size in
    let bytes = head_bytes laid h.tag (places laid (further (spot_of open') size) h.fields) h.fields in
    heads_alone laid (place_head laid r h) hs ∙ (puts_alone open'.memory open'.at bytes ∙ room_alone r (has_room r.at size))

placed_alone : (laid : LaidOut) (m : Memory) (v : Datum) → (placed_in laid m v).memory.alone ≡ m.alone
placed_alone laid m (whole z) = refl
placed_alone laid m (truth b) = refl
placed_alone laid m (con k vs) = heads_alone laid (begun m) (heads (con k vs))

pub start_alone : (p : ProgramTree) (settings : Settings) (v : Datum) → (start_for p settings v).memory.alone ≡ true
start_alone p settings v = placed_alone (layouts_for p settings) (nothing settings.chunks) v

-- Where all events happen, none of them lacks chunks.
pub ends_or_lacks : (p : ProgramTree) (v : Datum) (settings : Settings) (lines : List Line) (m : Memory) (a : Answer) → IsEndOf p v settings lines m a → LacksChunks p v settings lines → ⊥
ends_or_lacks p v settings lines m a e (inl no') = no' e.goes_in
ends_or_lacks p v settings lines m a e (inr h) = not_answered (code_for p settings) (start_for p settings v) lines (start_alone p settings v) h.1 event.Full tt h.2 m a e.answered

pub gives_or_stops : (o : Outcome) (v : Datum) (why : Reason) → o ≡ Gives v → o ≡ Stops why → ⊥
gives_or_stops (Gives u) v why e f = cc
gives_or_stops (Stops other) v why e f = cc

pub one_why : (o : Outcome) (a b : Reason) → o ≡ Stops a → o ≡ Stops b → a ≡ b
one_why o a b e f = let both = sym e ∙ f in cc

-- an answer is a root for a value that was owed, or says why there is none
abbrev Told : LaidOut → Store → Ty → Outcome → Answer → Type 0
Told laid s ty owed a = ((place : Root) × (root_in a ≡ Ok place) × ((v : Datum) × (owed ≡ Gives v))) ⊎ ((why : Reason) × (a ≡ answer.NoValue why) × (root_in a ≡ Err why) × (owed ≡ Stops why))

told_by : (laid : LaidOut) (s : Store) (ty : Ty) (owed : Outcome) (a : Answer) → IsAnswer laid s (results.One ty) owed a → Told laid s ty owed a
told_by laid s ty owed (answer.Whole z) h = inl (root.Whole z, refl, (whole z, h.2))
told_by laid s ty owed (answer.Truth b) h = inl (root.Truth b, refl, (truth b, h.1))
told_by laid s ty owed (answer.At a) h = inl (root.At a, refl, (h.1, h.3))
told_by laid s ty owed (answer.Parts ws) h = absurd (no_parts ty h.0 h.2)
told_by laid s ty owed (answer.NoValue why) h = inr (why, refl, refl, h)

module _ (laid : LaidOut) (s : Store) (ty : Ty) (owed : Outcome) (a : Answer) (is : IsAnswer laid s (results.One ty) owed a) where
  pub root_there : (v : Datum) → owed ≡ Gives v → (place : Root) × (root_in a ≡ Ok place)
  root_there v e = elim (told_by laid s ty owed a is) [
    | inl r ↦ (r.0, r.1)
    | inr w ↦ absurd (gives_or_stops owed v w.0 e w.3)
  ]

  pub is_stopped : (why : Reason) → owed ≡ Stops why → a ≡ answer.NoValue why
  is_stopped why e = elim (told_by laid s ty owed a is) [
    | inl r ↦ absurd (gives_or_stops owed r.2.0 why r.2.1 e)
    | inr w ↦ w.1 ∙ ap answer.NoValue (one_why owed w.0 why w.3 e)
  ]

  pub stopped_so : (why : Reason) → root_in a ≡ Err why → (a ≡ answer.NoValue why) × (owed ≡ Stops why)
  stopped_so why e = elim (told_by laid s ty owed a is) [
    | inl r ↦ absurd (let both = sym r.1 ∙ e in cc)
    | inr w ↦
        let same : w.0 ≡ why = let both = sym w.2 ∙ e in cc in
        (w.1 ∙ ap answer.NoValue same, w.3 ∙ ap (λ (y : Reason). Stops y) same)
  ]

-- One outcome gives one value.
pub one_given : (o : Outcome) (u v : Datum) → o ≡ Gives u → o ≡ Gives v → u ≡ v
one_given o u v e f = let both = sym e ∙ f in cc

pub some_or_none : (bytes : List ℕ) → Some bytes ≡ None → ⊥
some_or_none bytes e = cc

module _ (one : OneValue) (p : ProgramTree) (names : TextsView) (input bytes : List ℕ) where
  pub shown_or_valueless : (image : Bool) (file : Option (List ℕ)) (text : List ℕ) (why : Reason) → OnJournal p names input bytes (IsShownEnd p names image file text) → OnJournal p names input bytes (IsValueless p why) → ⊥
  shown_or_valueless image file text why h k =
      let both = both_on one p input bytes (IsShownEnd p names image file text) (IsValueless p why) h k in
      gives_or_stops (run p both.1.depth both.0) both.3.result why both.3.means both.4.means

  pub one_valueless : (a b : Reason) → OnJournal p names input bytes (IsValueless p a) → OnJournal p names input bytes (IsValueless p b) → a ≡ b
  one_valueless a b h k =
      let both = both_on one p input bytes (IsValueless p a) (IsValueless p b) h k in
      one_why (run p both.1.depth both.0) a b both.3.means both.4.means

  pub shown_or_full : (image : Bool) (file : Option (List ℕ)) (text : List ℕ) → OnJournal p names input bytes (IsShownEnd p names image file text) → OnJournal p names input bytes (LacksChunks p) → ⊥
  shown_or_full image file text h k =
      let both = both_on one p input bytes (IsShownEnd p names image file text) (LacksChunks p) h k in
      ends_or_lacks p both.0 both.1 both.2 both.3.memory both.3.ends_with both.3.ended both.4

  pub valueless_or_full : (why : Reason) → OnJournal p names input bytes (IsValueless p why) → OnJournal p names input bytes (LacksChunks p) → ⊥
  valueless_or_full why h k =
      let both = both_on one p input bytes (IsValueless p why) (LacksChunks p) h k in
      ends_or_lacks p both.0 both.1 both.2 both.3.memory (answer.NoValue why) both.3.ended both.4
