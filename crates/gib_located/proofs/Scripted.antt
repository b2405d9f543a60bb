-- The ways through the script of a call.
use Rattle.std.proofs.Common.{◌≡◌, refl, sym, subst, ℕ, List, [], ◌∷◌, Bool, Some, Result, Ok, Err, inl, inr}
use Rattle.gib_edge.specs.Views.{ShelfView, SinkView}
use Rattle.gib_script.specs.Script.{Halt, Failed, NoPut, World, DidPut, MissedPut, Follows, OnShelf}
use Rattle.gib_script.proofs.Following.{on_return, on_halt}
use Rattle.gib_app.specs.declared.stop.Stop.TheVariants.{Usage, Source, Unread, Input, NoValue, Memory, Unwritten, Unput}
use Rattle.gib_located.specs.declared.located.Fault.{Fault}
use Rattle.gib_located.specs.declared.located.Fault.TheVariants as f
use Rattle.gib_located.specs.LocatedSource.{HasCoreText, IsFault, answer_for_fault}
use Rattle.gib_located.specs.LocatedScript.{read_script, text_script, located_script, halt_for, status_for}

abbrev unit : Type 0
unit = Unit {0}

abbrev pub world : ShelfView → SinkView → World
world shelf out = record { shelf = shelf; out = out }

-- The words name no file.
pub unnamed : (tells : Bool) (words : List (List ℕ)) (w : World) → ((program name : List ℕ) → words ≡ program ∷ name ∷ [] → ⊥) → Follows tells (located_script words) w w (Err (Failed (f.Stopped Usage)))
unnamed tells [] w h = (refl, refl)
unnamed tells (program ∷ []) w h = (refl, refl)
unnamed tells (program ∷ name ∷ []) w h = absurd (h program name refl)
unnamed tells (program ∷ name ∷ further ∷ rest) w h = (refl, refl)

-- The source is not read.
pub unread : (tells : Bool) (words : List (List ℕ)) (program name : List ℕ) (before now : ShelfView) (out : SinkView) (e : Halt Fault) → words ≡ program ∷ name ∷ []
    → OnShelf tells (read_script name) before now (Err e) → Follows tells (located_script words) (world before out) (world now out) (Err e)
unread tells words program name before now out e is h =
    let P : List (List ℕ) → Type 0 = λ ws. Follows tells (located_script ws) (world before out) (world now out) (Err e) in
    subst P (sym is) (on_halt tells (read_script name) text_script (world before out) (world now out) e (h out))

-- The source is read, and then it is answered.
pub answered : (tells : Bool) (words : List (List ℕ)) (program name : List ℕ) (before mid : ShelfView) (out : SinkView) (source : List ℕ) (v : World) (r : Result unit (Halt Fault)) → words ≡ program ∷ name ∷ []
    → OnShelf tells (read_script name) before mid (Ok source) → Follows tells (text_script source) (world mid out) v r → Follows tells (located_script words) (world before out) v r
answered tells words program name before mid out source v r is h k =
    let P : List (List ℕ) → Type 0 = λ ws. Follows tells (located_script ws) (world before out) v r in
    subst P (sym is) (on_return tells (read_script name) text_script (world before out) (world mid out) v source r (h out) k)

-- It has no text.
pub no_text : (tells : Bool) (source : List ℕ) (w : World) (fault : Fault) → IsFault source fault → Follows tells (text_script source) w w (Err (halt_for fault))
no_text tells source w (f.Stopped (Source fault)) h = inr (Err (f.Stopped (Source fault)), h, (refl, refl))
no_text tells source w (f.Stopped Memory) h = inl (refl, refl)
no_text tells source w (f.Stopped Usage) h = absurd h
no_text tells source w (f.Stopped (Unread name)) h = absurd h
no_text tells source w (f.Stopped (Input fault)) h = absurd h
no_text tells source w (f.Stopped (NoValue reason)) h = absurd h
no_text tells source w (f.Stopped (Unwritten name)) h = absurd h
no_text tells source w (f.Stopped Unput) h = absurd h
no_text tells source w f.NoText h = inr (Err f.NoText, h, (refl, refl))

-- Its text is put.
pub text_put : (tells : Bool) (source text : List ℕ) (shelf : ShelfView) (a b : SinkView) → HasCoreText source (Some text) → DidPut a b text → Follows tells (text_script source) (world shelf a) (world shelf b) (Ok (tt {0}))
text_put tells source text shelf a b has did = inr (Ok text, has, inr (b, did, (refl, refl)))

-- Its text is not put, or not all of it.
pub text_unput : (tells : Bool) (source text : List ℕ) (shelf : ShelfView) (a b : SinkView) → HasCoreText source (Some text) → MissedPut a b text → Follows tells (text_script source) (world shelf a) (world shelf b) (Err NoPut)
text_unput tells source text shelf a b has missed = inr (Ok text, has, inl (refl, refl, missed))

-- The status of a fault is that of the script.
pub status_of_fault : (fault : Fault) → (answer_for_fault fault).status ≡ status_for (Err (halt_for fault))
status_of_fault (f.Stopped (Source fault)) = refl
status_of_fault (f.Stopped Memory) = refl
status_of_fault (f.Stopped Usage) = refl
status_of_fault (f.Stopped (Unread name)) = refl
status_of_fault (f.Stopped (Input fault)) = refl
status_of_fault (f.Stopped (NoValue reason)) = refl
status_of_fault (f.Stopped (Unwritten name)) = refl
status_of_fault (f.Stopped Unput) = refl
status_of_fault f.NoText = refl
