-- What asking leaves.
use Rattle.std.specs.Prelude.{◌≡◌, ℕ, ◌+◌, false, List, [], ◌∷◌, map, Option, Some, None, Result, Ok, Err}
use Rattle.gib_base.specs.declared.Span.{Span}
use Rattle.gib_types.specs.Form.{Form, Forms, Meant, has_long}
use Rattle.gib_types.specs.Types.{AreOnce}
use Rattle.gib_syntax.specs.GenericTree.{GenericGlobals, GenericProgramTree, globals_of_generic}
use Rattle.gib_mono.specs.declared.found.CopyKey.{CopyKey}
use Rattle.gib_mono.specs.declared.reading.Use.{Use}
use Rattle.gib_mono.specs.declared.search.Search.{Search}
use Rattle.gib_mono.specs.Walk.{Ask, Copy, add_ask, add_asks, add_new, is_found, constructors_in, with_found, walk, copies_of}
use Rattle.gib_mono.specs.Found.{Kept, AreDeclarations, copy_from, KeyBelow, IsFound}
use Rattle.gib_mono.specs.Contexts.{forms, meaning}
use Rattle.gib_mono.specs.Reading.{use_ask}

-- What is kept are the copies so far, or the first use over a limit was met.
abbrev pub Reached : GenericGlobals → List Form → Kept → Option Span → Result (List Copy) Span → Type 0
Reached g fs kept None r = (found : List Copy) × (r ≡ Ok found) × IsFound g fs kept found
Reached g fs kept (Some span) r = r ≡ Err span

-- A search got so far.
abbrev pub IsAt : GenericGlobals → Search → Result (List Copy) Span → Type 0
IsAt g s r = Reached g (forms s.context) s.found s.limit r

-- A key was added.
pub record AddsKey (old new : Search) (key : CopyKey) (constructors : ℕ) (span : Span) : Type 0 where
  pub context : new.context ≡ old.context
  pub added : (g : GenericGlobals) (found : List Copy) (c : Copy) → AreDeclarations g → AreOnce (forms old.context) → KeyBelow (Rattle.std.specs.Prelude.length (forms old.context)) key
      → copy_from g (forms old.context) key ≡ Some c → constructors_in (c ∷ []) ≡ constructors → IsFound g (forms old.context) old.found found → IsAt g new (add_new found c span (is_found found c))

-- One use was asked for.
pub record AsksOne (g : GenericGlobals) (old new : Search) (a : Ask) : Type 0 where
  pub context : new.context ≡ old.context
  pub at : (r : Result (List Copy) Span) → IsAt g old r → IsAt g new (with_found r (λ found. add_ask g found a))

-- No use over a limit was met so far, these types are short, and nothing has changed.
pub record GoesOn (old new : Search) (types : Forms) : Type 0 where
  pub same : new ≡ old
  pub on : new.limit ≡ None
  pub short : has_long types ≡ false
  pub once : AreOnce (forms old.context)

-- Uses were.
pub record AsksUses (g : GenericGlobals) (old new : Search) (uses : List Use) : Type 0 where
  pub context : new.context ≡ old.context
  pub at : (r : Result (List Copy) Span) → IsAt g old r → IsAt g new (with_found r (λ found. add_asks g found (map (use_ask (forms old.context)) uses)))

-- A search got so far where type variables stand for these types.
pub record Stands (g : GenericGlobals) (s : Search) (m : Meant) (r : Result (List Copy) Span) : Type 0 where
  pub meaning : meaning s.context ≡ m
  pub at : IsAt g s r

-- Uses were asked for, whatever type variables stand for.
pub record Asks (g : GenericGlobals) (old new : Search) (asks : Meant → List Ask) : Type 0 where
  pub on : (m : Meant) (r : Result (List Copy) Span) → Stands g old m r → Stands g new m (with_found r (λ found. add_asks g found (asks m)))

-- Uses were asked for, whatever the types.
pub record AsksAll (g : GenericGlobals) (old new : Search) (asks : List Ask) : Type 0 where
  pub on : (r : Result (List Copy) Span) → IsAt g old r → IsAt g new (with_found r (λ found. add_asks g found asks))

-- No use over a limit was met so far.
pub record IsOpen (g : GenericGlobals) (s : Search) : Type 0 where
  pub found : List Copy
  pub at : IsAt g s (Ok found)

-- Copies were walked up to a place, so that with what is left to walk they are all; behind the plain ones at most 1,200 are walked.
pub record Walked (p : GenericProgramTree) (plain : ℕ) (s : Search) (i : ℕ) : Type 0 where
  pub result : Result (List Copy) Span
  pub at : IsAt (globals_of_generic p) s result
  pub fuel : ℕ
  pub enough : fuel + i ≡ 1201 + plain
  pub is : copies_of p ≡ with_found result (λ found. walk fuel (globals_of_generic p) found i)
