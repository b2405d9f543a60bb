-- Facts of documents that may be told, and of what a sink took.
use Rattle.std.proofs.Common.{◌≡◌, refl, ℕ, List, [], ◌∷◌, subst}
use Rattle.gib_edge.specs.Causes.{IsAllOf}
use Rattle.gib_edge.specs.Views.{Held}
use Rattle.gib_words.specs.Plan.{Document, BuiltIn, Named, Files, bytes_in, Contents}
use Rattle.gib_app.specs.Formats.{Input}
use Rattle.gib_app.specs.Causes.{Holds, AreFurther, AreGiven}

-- shelves that keep the same tell the same of each document
same_bytes : (kept now : Files) (d : Document) → ((name : List ℕ) → now name ≡ kept name) → bytes_in now d ≡ bytes_in kept d
same_bytes kept now (BuiltIn bytes) e = refl
same_bytes kept now (Named name) e = e name

pub document_before : (kept now : Files) (d : Document) (bytes : List ℕ) → ((name : List ℕ) → now name ≡ kept name) → Holds now d bytes → Holds kept d bytes
document_before kept now d bytes e h = let P : Held → Type 0 = λ o. IsAllOf o bytes in subst P (same_bytes kept now d e) h

pub further_before : (kept now : Files) (inputs : List Input) (further : List (List ℕ)) → ((name : List ℕ) → now name ≡ kept name) → AreFurther now inputs further → AreFurther kept inputs further
further_before kept now [] further e h = h
further_before kept now (i ∷ is) [] e h = h
further_before kept now (i ∷ is) (bytes ∷ further) e h = (document_before kept now i.document bytes e h.0, further_before kept now is further e h.1)

pub held_before : (kept now : Files) (inputs : List Input) (given : Contents) → ((name : List ℕ) → now name ≡ kept name) → AreGiven now inputs given → AreGiven kept inputs given
held_before kept now [] given e h = h
held_before kept now (i ∷ is) given e h = (document_before kept now i.document given.second e h.0, further_before kept now is given.further e h.1)
