-- Events that happen one after another.
use Rattle.std.proofs.Common.{◌≡◌, ℕ, zero, suc, ◌+◌, ◌-◌, ◌<◌, List, [], ◌∷◌, ◌++◌, length, take, drop, replicate, append_assoc, sym, ap, ◌∙◌, subst, subst₂, refl, arith, Err}
use lib.ListN.{get_or}
use Rattle.std.proofs.lemmas.List.{length-take-le, replicate-append-replicate, append-nil}
use Rattle.std.proofs.Math.Seq.{take-length, take-suc}
use Rattle.gib_types.specs.Tree.{Datum}
use Rattle.gib_syntax.specs.Results as results
use Rattle.gib_code.specs.Program.{CodeTree}
use Rattle.gib_core.specs.LoweredParts.{LoweredParts}
use Rattle.gib_core.specs.Meaning.{core_run}
use Rattle.gib_core.specs.Parts.{core_of}
use Rattle.gib_mem.specs.Memory.{Memory}
use Rattle.gib_code.specs.declared.answer.Answer.{Answer}
use Rattle.gib_weave.specs.declared.event.Event.{Event as TaskEvent}
use Rattle.gib_weave.specs.declared.task.WeaveFault.{WeaveFault}
use Rattle.gib_weave.specs.declared.task.WeaveFault.TheVariants as fault
use Rattle.gib_weave.specs.Applied.{Applied, DrawsNow, event_of}
use Rattle.gib_weave.specs.Sound.{IsAnswer}
use Rattle.gib_weave.specs.Weave.{Enabled, Event, Finished, Legal, Next, Weave, none, task}
use Rattle.gib_weave.specs.Woven.{IsMeant, IsSoundOn, WeaveParts, weave_of}
use Rattle.gib_locked.specs.Lines.{counted, counted_out}
use Rattle.gib_locked.specs.Replays.{Goes, IsAnswered, IsLeftOpen, IsNoEnd, IsRefused, StopsAmong, StopsAt}
use Rattle.gib_locked.specs.Run.{HasEnded, Leads}
use Rattle.gib_locked.specs.declared.journal.Line.{Line}
use Rattle.gib_locked.specs.declared.replay_fault.ReplayFault.{ReplayFault}
use Rattle.gib_locked.proofs.LinesKeep.{counted_append}
use Rattle.gib_locked.proofs.Runs.{legal_snoc, refused, still_sound}

pub goes_on : (start w w' : WeaveParts) (es : List Event) (e : Event) → Next w.lowered.code (weave_of w) e (weave_of w') → w'.lowered ≡ w.lowered
    → ((depth level : ℕ) (d : Datum) → IsSoundOn w.lowered depth level d (weave_of w) → IsSoundOn w.lowered depth level d (weave_of w'))
    → Goes start es w → Goes start (es ++ e ∷ []) w'
goes_on start w w' es e next same keep h = record {
  lowered = same ∙ h.lowered;
  legal = legal_snoc es h.legal (subst (λ l. Next l.code (weave_of w) e (weave_of w')) h.lowered next);
  sound = λ depth level d s. still_sound start w w' h.lowered keep depth level d (h.sound depth level d s);
}

goes_still : (start w w' : WeaveParts) (es : List Event) → weave_of w' ≡ weave_of w → w'.lowered ≡ w.lowered → Goes start es w → Goes start es w'
goes_still start w w' es is same h = record {
  lowered = same ∙ h.lowered;
  legal = subst (λ v. Legal start.lowered.code (weave_of start) es v) (sym is) h.legal;
  sound = λ depth level d s. subst (λ v. IsSoundOn start.lowered depth level d v) (sym is) (h.sound depth level d s);
}

-- One time more.
again : (es : List Event) (k : ℕ) (e : Event) → es ++ replicate (k + 1) e ≡ (es ++ replicate k e) ++ e ∷ []
again es k e = ap (λ xs. es ++ xs) (sym (replicate-append-replicate k 1 e)) ∙ sym (append_assoc es (replicate k e) (e ∷ []))

pub goes_again : (start w w' : WeaveParts) (es : List Event) (k : ℕ) (e : Event) → Next w.lowered.code (weave_of w) e (weave_of w') → w'.lowered ≡ w.lowered
    → ((depth level : ℕ) (d : Datum) → IsSoundOn w.lowered depth level d (weave_of w) → IsSoundOn w.lowered depth level d (weave_of w'))
    → Goes start (es ++ replicate k e) w → Goes start (es ++ replicate (k + 1) e) w'
goes_again start w w' es k e next same keep h = subst (λ xs. Goes start xs w') (sym (again es k e)) (goes_on start w w' (es ++ replicate k e) e next same keep h)

is_refused : (w w' : WeaveParts) (e : Event) (f : WeaveFault) → Applied w.lowered.code (weave_of w) e (weave_of w') (Err f) → w'.lowered ≡ w.lowered → IsRefused w'.lowered.code (weave_of w') e f
is_refused w w' e fault.Memory h same = tt
is_refused w w' e fault.NotNow h same = λ on. h.1 (subst₂ (λ (l : LoweredParts) v. Enabled l.code v e) same h.0 on)
is_refused w w' e fault.Full h same = (
  ap (λ (v : Weave). v.memory.drawn) h.0 ∙ (h.3 ∙ sym (ap (λ (v : Weave). v.memory.limit) h.0)),
  subst₂ (λ (l : LoweredParts) v. Enabled l.code v e) (sym same) (sym h.0) h.1,
  subst₂ (λ (l : LoweredParts) v. DrawsNow l.code v e) (sym same) (sym h.0) h.2,
)

pub stops_among : (start w w' : WeaveParts) (es : List Event) (k count : ℕ) (e : Event) (f : WeaveFault) → k < count → Applied w.lowered.code (weave_of w) e (weave_of w') (Err f) → w'.lowered ≡ w.lowered
    → Goes start (es ++ replicate k e) w → StopsAmong start es e count w' f
stops_among start w w' es k count e f fewer h same g = record { made = k; fewer = fewer; goes = goes_still start w w' (es ++ replicate k e) (refused w.lowered.code (weave_of w) (weave_of w') e f h) same g; refused = is_refused w w' e f h same }

-- A list of lines that leads somewhere, as events.
goes_of : (start w : WeaveParts) (ls : List Line) → Leads start ls w → Goes start (counted_out ls) w
goes_of start w ls h = record { lowered = h.lowered; legal = h.legal; sound = h.sound }

pub leads_none : (start w : WeaveParts) → w ≡ start → Leads start [] w
leads_none start w is = rw is (record { lowered = refl; legal = none; sound = λ depth level d s. s })

next_counted : (ls : List Line) (k : ℕ) (line : Line) → k < length ls → line ≡ get_or ls k line → counted_out (take (k + 1) ls) ≡ counted_out (take k ls) ++ counted line
next_counted ls k line lt is =
    let one : k + 1 ≡ suc k = omega arith in
    ap (λ n. counted_out (take n ls)) one ∙ (ap counted_out (take-suc ls k line lt) ∙ (ap (λ l. counted_out (take k ls ++ l ∷ [])) (sym is) ∙ (counted_append (take k ls) (line ∷ []) ∙ ap (λ es. counted_out (take k ls) ++ es) (append-nil (counted line)))))

pub leads_next : (start w w' : WeaveParts) (ls : List Line) (k count : ℕ) (line : Line) (e : TaskEvent) → k < length ls → line ≡ get_or ls k line → counted line ≡ replicate count (event_of e) → Leads start (take k ls) w
    → ((st : WeaveParts) (es : List Event) → Goes st es w → Goes st (es ++ replicate count (event_of e)) w') → Leads start (take (k + 1) ls) w'
leads_next start w w' ls k count line e lt is times h go =
    let g = go start (counted_out (take k ls)) (goes_of start w (take k ls) h) in
    let es : counted_out (take (k + 1) ls) ≡ counted_out (take k ls) ++ replicate count (event_of e) = next_counted ls k line lt is ∙ ap (λ xs. counted_out (take k ls) ++ xs) times in
    record { lowered = g.lowered; legal = subst (λ xs. Legal start.lowered.code (weave_of start) xs (weave_of w')) (sym es) g.legal; sound = g.sound }

pub leads_all : (start w : WeaveParts) (ls : List Line) (k : ℕ) → k ≡ length ls → Leads start (take k ls) w → Leads start ls w
leads_all start w ls k all h = subst (λ xs. Leads start xs w) (ap (λ n. take n ls) all ∙ take-length ls) h

pub stops_at : (start w w' : WeaveParts) (ls : List Line) (k count : ℕ) (line : Line) (e : TaskEvent) (f : WeaveFault) → k < length ls → line ≡ get_or ls k line → counted line ≡ replicate count (event_of e) → Leads start (take k ls) w
    → ((st : WeaveParts) (es : List Event) → Goes st es w → StopsAmong st es (event_of e) count w' f) → StopsAt start.lowered.code (weave_of start) ls (k + 3) f
stops_at start w w' ls k count line e f lt is times h go =
    let s = go start (counted_out (take k ls)) (goes_of start w (take k ls) h) in
    record {
      before = take k ls;
      line = line;
      behind = drop (suc k) ls;
      lines_are = cut ls k line lt ∙ ap (λ l. take k ls ++ l ∷ drop (suc k) ls) (sym is);
      number_is = ap (λ n. n + 3) (sym (length-take-le k ls (omega (arith, lt))));
      made = replicate s.made (event_of e);
      event = event_of e;
      rest = replicate (count - s.made - 1) (event_of e);
      events_are = times ∙ parts s.made s.fewer;
      weave = weave_of w';
      legal = s.goes.legal;
      refused = subst (λ (l : LoweredParts). IsRefused l.code (weave_of w') (event_of e) f) s.goes.lowered s.refused;
    }
  where
    cut : (ls : List Line) (k : ℕ) (d : Line) → k < length ls → ls ≡ take k ls ++ get_or ls k d ∷ drop (suc k) ls
    cut [] k d lt = absurd (omega (arith, lt))
    cut (l ∷ ls) zero d lt = refl
    cut (l ∷ ls) (suc k) d lt = ap (λ xs. l ∷ xs) (cut ls k d (omega (arith, lt)))

    parts : (made : ℕ) → made < count → replicate count (event_of e) ≡ replicate made (event_of e) ++ event_of e ∷ replicate (count - made - 1) (event_of e)
    parts made fewer = ap (λ n. replicate n (event_of e)) (sum made fewer) ∙ (sym (replicate-append-replicate made (suc (count - made - 1)) (event_of e)))
      where
        sum : (m : ℕ) → m < count → count ≡ m + suc (count - m - 1)
        sum m less = omega (arith, less)

pub left_open : (start w : WeaveParts) (ls : List Line) → Leads start ls w → (HasEnded w → ⊥) → IsLeftOpen start.lowered.code (weave_of start) ls
left_open start w ls h on = record { weave = weave_of w; legal = h.legal; goes_on = on }

-- From a weave that is the start of a root.
pub no_end : (start : WeaveParts) (code : CodeTree) (v : Weave) (ls : List Line) (f : ReplayFault) → start.lowered.code ≡ code → weave_of start ≡ v → IsNoEnd start.lowered.code (weave_of start) ls f → IsNoEnd code v ls f
no_end start code v ls f a b h = subst₂ (λ c w. IsNoEnd c w ls f) a b h

pub answered : (start w : WeaveParts) (code : CodeTree) (v : Weave) (ls : List Line) (memory : Memory) (a : Answer) → start.lowered.code ≡ code → weave_of start ≡ v → Leads start ls w → (task w.tasks 0).stage ≡ Finished a → memory ≡ (weave_of w).memory
    → IsAnswered code v ls memory a
answered start w code v ls memory a same is h ends left = record { weave = weave_of w; legal = subst₂ (λ c x. Legal c x (counted_out ls) (weave_of w)) same is h.legal; memory_is = sym left; root = ends }

pub meant : (start w : WeaveParts) (lowered : LoweredParts) (ls : List Line) (depth level : ℕ) (d : Datum) (memory : Memory) (a : Answer) → start.lowered ≡ lowered → Leads start ls w → IsSoundOn lowered depth level d (weave_of start)
    → ((depth level : ℕ) (d : Datum) → IsSoundOn w.lowered depth level d (weave_of w) → IsMeant w.lowered depth d (weave_of w) a) → memory ≡ (weave_of w).memory
    → IsAnswer lowered.code.laid memory.cells (results.One (core_of lowered.core).main.result) (core_run (core_of lowered.core) depth d) a
meant start w lowered ls depth level d memory a same h s means left =
    let kept = h.sound depth level d (subst (λ l. IsSoundOn l depth level d (weave_of start)) (sym same) s) in
    let m : IsMeant lowered depth d (weave_of w) a = subst (λ l. IsMeant l depth d (weave_of w) a) (h.lowered ∙ same) (means depth level d (subst (λ l. IsSoundOn l depth level d (weave_of w)) (sym h.lowered) kept)) in
    subst (λ (v : Memory). IsAnswer lowered.code.laid v.cells (results.One (core_of lowered.core).main.result) (core_run (core_of lowered.core) depth d) a) (sym left) m
