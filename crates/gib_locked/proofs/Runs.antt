-- A run that is one event longer.
use Rattle.std.proofs.Common.{◌≡◌, ℕ, List, [], ◌∷◌, ◌++◌, sym, ap, ◌∙◌, subst, subst₂, refl, Err}
use Rattle.gib_types.specs.Tree.{Datum}
use Rattle.gib_code.specs.Program.{CodeTree}
use Rattle.gib_core.specs.LoweredParts.{LoweredParts}
use Rattle.gib_weave.specs.declared.task.WeaveFault.{WeaveFault}
use Rattle.gib_weave.specs.declared.task.WeaveFault.TheVariants as fault
use Rattle.gib_weave.specs.Applied.{Applied, DrawsNow}
use Rattle.gib_weave.specs.Weave.{Weave, Event, Next, Legal, Enabled, none, more}
use Rattle.gib_weave.specs.Woven.{WeaveParts, IsSoundOn, weave_of}
use Rattle.gib_locked.specs.declared.journal.Line.{Line}
use Rattle.gib_locked.specs.Lines.{counted_out}
use Rattle.gib_locked.specs.Run.{Leads, IsFull}

pub legal_snoc : {code : CodeTree} {w w' w'' : Weave} {e : Event} (es : List Event) → Legal code w es w' → Next code w' e w'' → Legal code w (es ++ e ∷ []) w''
legal_snoc [] none n = more n none
legal_snoc (d ∷ es) (more m l) n = more m (legal_snoc es l n)

pub still_sound : (start w w' : WeaveParts) → w.lowered ≡ start.lowered → ((depth level : ℕ) (d : Datum) → IsSoundOn w.lowered depth level d (weave_of w) → IsSoundOn w.lowered depth level d (weave_of w'))
    → (depth level : ℕ) (d : Datum) → IsSoundOn start.lowered depth level d (weave_of w) → IsSoundOn start.lowered depth level d (weave_of w')
still_sound start w w' same keep depth level d = subst (λ l. IsSoundOn l depth level d (weave_of w) → IsSoundOn l depth level d (weave_of w')) same (keep depth level d)

pub leads_on : (start w w' : WeaveParts) (lines lines' : List Line) (e : Event) → counted_out lines' ≡ counted_out lines ++ e ∷ [] → Next w.lowered.code (weave_of w) e (weave_of w') → w'.lowered ≡ w.lowered
    → ((depth level : ℕ) (d : Datum) → IsSoundOn w.lowered depth level d (weave_of w) → IsSoundOn w.lowered depth level d (weave_of w'))
    → Leads start lines w → Leads start lines' w'
leads_on start w w' lines lines' e longer next same keep h = record {
  lowered = same ∙ h.lowered;
  legal = subst (λ es. Legal start.lowered.code (weave_of start) es (weave_of w')) (sym longer) (legal_snoc (counted_out lines) h.legal (subst (λ l. Next l.code (weave_of w) e (weave_of w')) h.lowered next));
  sound = λ depth level d s. still_sound start w w' h.lowered keep depth level d (h.sound depth level d s);
}

-- A refusal changes nothing.
pub leads_still : (start w w' : WeaveParts) (lines lines' : List Line) → lines' ≡ lines → weave_of w' ≡ weave_of w → w'.lowered ≡ w.lowered → Leads start lines w → Leads start lines' w'
leads_still start w w' lines lines' still is same h = record {
  lowered = same ∙ h.lowered;
  legal = subst₂ (λ ls v. Legal start.lowered.code (weave_of start) (counted_out ls) v) (sym still) (sym is) h.legal;
  sound = λ depth level d s. subst (λ v. IsSoundOn start.lowered depth level d v) (sym is) (h.sound depth level d s);
}

pub refused : (code : CodeTree) (v v' : Weave) (e : Event) (f : WeaveFault) → Applied code v e v' (Err f) → v' ≡ v
refused code v v' e fault.Memory h = h.0
refused code v v' e fault.NotNow h = h.0
refused code v v' e fault.Full h = h.0

pub full : (w w' : WeaveParts) (e : Event) (f : WeaveFault) → f ≡ fault.Full → Applied w.lowered.code (weave_of w) e (weave_of w') (Err f) → w'.lowered ≡ w.lowered → IsFull w'
full w w' e f is h same =
    let g = subst (λ x. Applied w.lowered.code (weave_of w) e (weave_of w') (Err x)) is h in (
      ap (λ (v : Weave). v.memory.drawn) g.0 ∙ (g.3 ∙ sym (ap (λ (v : Weave). v.memory.limit) g.0)),
      e,
      subst₂ (λ (l : LoweredParts) v. Enabled l.code v e) (sym same) (sym g.0) g.1,
      subst₂ (λ (l : LoweredParts) v. DrawsNow l.code v e) (sym same) (sym g.0) g.2,
    )

pub starts : (start v : WeaveParts) (lines : List Line) → start ≡ v → lines ≡ [] → Leads start lines v
starts start v lines is empty = rw (is, empty) (record { lowered = refl; legal = none; sound = λ depth level d s. s })
