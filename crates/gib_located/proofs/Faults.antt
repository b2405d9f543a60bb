-- The faults of the parts of a call are those of the call.
use Rattle.std.proofs.Common.{◌≡◌, ℕ, List, [], ◌∷◌, refl, sym, ap, subst, ◌∙◌}
use Rattle.gib_edge.specs.Views.{ShelfView, SinkView}
use Rattle.gib_edge.specs.Causes.{Rose}
use Rattle.gib_app.specs.declared.stop.Stop.TheVariants.{Usage, Source, Unread, Input, NoValue, Memory, Unwritten, Unput}
use Rattle.gib_located.specs.declared.located.Fault.{Fault}
use Rattle.gib_located.specs.declared.located.Fault.TheVariants as f
use Rattle.gib_located.specs.LocatedSource.{IsRead, IsFault, IsUnreadSource, IsCallFault}

-- A file that is not read.
pub unread_ends : (words : List (List ℕ)) (program file : List ℕ) (before now : ShelfView) (out : SinkView) → words ≡ program ∷ file ∷ []
    → (fault : Fault) → IsUnreadSource file before now fault → IsCallFault words before now out out fault
unread_ends words program file before now out w (f.Stopped (Unread name)) h =
    (program, w ∙ ap (λ (x : List ℕ). program ∷ x ∷ []) (sym h.0), subst (λ (x : List ℕ). Rose (before.reads x) (now.reads x)) (sym h.0) h.1, refl)
unread_ends words program file before now out w (f.Stopped Memory) h = refl
unread_ends words program file before now out w (f.Stopped Usage) h = absurd h
unread_ends words program file before now out w (f.Stopped (Source fault)) h = absurd h
unread_ends words program file before now out w (f.Stopped (Input fault)) h = absurd h
unread_ends words program file before now out w (f.Stopped (NoValue reason)) h = absurd h
unread_ends words program file before now out w (f.Stopped (Unwritten name)) h = absurd h
unread_ends words program file before now out w (f.Stopped Unput) h = absurd h
unread_ends words program file before now out w f.NoText h = absurd h

-- A source without a text.
pub fault_ends : (words : List (List ℕ)) (source : List ℕ) (before now : ShelfView) (out : SinkView) → IsRead words before.kept source
    → (fault : Fault) → IsFault source fault → IsCallFault words before now out out fault
fault_ends words source before now out read (f.Stopped (Source fault)) h = (source, read, h, refl)
fault_ends words source before now out read (f.Stopped Memory) h = refl
fault_ends words source before now out read (f.Stopped Usage) h = absurd h
fault_ends words source before now out read (f.Stopped (Unread name)) h = absurd h
fault_ends words source before now out read (f.Stopped (Input fault)) h = absurd h
fault_ends words source before now out read (f.Stopped (NoValue reason)) h = absurd h
fault_ends words source before now out read (f.Stopped (Unwritten name)) h = absurd h
fault_ends words source before now out read (f.Stopped Unput) h = absurd h
fault_ends words source before now out read f.NoText h = (source, read, h, refl)
