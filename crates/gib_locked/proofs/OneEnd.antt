-- The events of a journal lead to one end.
use Rattle.std.proofs.Common.{◌≡◌, ℕ, suc, ◌+◌, ◌<◌, List, [], ◌∷◌, ◌++◌, length, true, append_assoc, length-append, sym, ap, ◌∙◌, subst, subst₂, refl, arith}
use Rattle.gib_types.specs.Tree.{Datum}
use Rattle.gib_mem.specs.Memory.{Memory}
use Rattle.gib_mem.proofs.Puts.{puts_alone, puts_limit}
use Rattle.gib_core.specs.Cost.{run_cost}
use Rattle.gib_core.specs.LoweredParts.{LoweredParts}
use Rattle.gib_core.specs.Meaning.{core_run}
use Rattle.gib_core.specs.Parts.{core_of}
use Rattle.gib_core.specs.Tight.{Tight}
use Rattle.gib_code.specs.declared.answer.Answer.{Answer}
use Rattle.gib_code.specs.declared.answer.Answer.TheVariants.{NoValue}
use Rattle.gib_types.specs.declared.reason.Reason.TheVariants.{Deep}
use Rattle.gib_code.specs.Program.{CodeTree}
use Rattle.gib_weave.specs.declared.task.WeaveFault.{WeaveFault}
use Rattle.gib_weave.specs.declared.task.WeaveFault.TheVariants as fault
use Rattle.gib_weave.specs.Applied.{DrawsNow, IsDraw}
use Rattle.gib_weave.specs.Weave as ev
use Rattle.gib_weave.specs.Weave.{Event, Finished, IsFinished, Legal, Next, Stage, Weave, more, none, task}
use Rattle.gib_weave.specs.Woven.{IsSoundOn, WeaveParts, weave_of}
use Rattle.gib_weave.proofs.Picks.{next_enabled}
use Rattle.gib_weave.proofs.Progress.{weave_tight}
use Rattle.gib_weave.proofs.Single.{next_is_one}
use Rattle.gib_locked.specs.Lines.{counted, counted_out}
use Rattle.gib_locked.specs.Replays.{IsAnswered, IsLeftOpen, IsNoEnd, IsRefused, StopsAt}
use Rattle.gib_locked.specs.Run.{IsFull, Leads}
use Rattle.gib_locked.specs.declared.journal.Line.{Line}
use Rattle.gib_locked.specs.declared.replay_fault.ReplayFault.{ReplayFault}
use Rattle.gib_locked.specs.declared.replay_fault.ReplayFault.TheVariants as replay
use Rattle.gib_locked.proofs.LinesKeep.{counted_append}

head_same : {A : Type 0} (x y : A) (xs ys : List A) → x ∷ xs ≡ y ∷ ys → x ≡ y
head_same x y xs ys h = cc

tail_same : {A : Type 0} (x y : A) (xs ys : List A) → x ∷ xs ≡ y ∷ ys → xs ≡ ys
tail_same x y xs ys h = cc

-- What no event changes: whether others draw, and how many chunks there are.

next_alone : (code : CodeTree) (w v : Weave) (e : Event) → Next code w e v → v.memory.alone ≡ w.memory.alone
next_alone code w _ _ (ev.silent on e) = refl
next_alone code w _ _ (ev.get on e known) = refl
next_alone code w _ _ (ev.puts {a = a} {b = b} {bs = bs} on e) = puts_alone w.memory a (b ∷ bs)
next_alone code w _ _ (ev.draws on e dr) = refl
next_alone code w _ _ (ev.forks on e) = refl
next_alone code w _ _ (ev.steals on few st) = refl
next_alone code w _ _ (ev.takes_it on e q) = refl
next_alone code w _ _ (ev.finishes on e) = refl
next_alone code w _ _ (ev.joins_it on e q fin) = refl

next_limit : (code : CodeTree) (w v : Weave) (e : Event) → Next code w e v → v.memory.limit ≡ w.memory.limit
next_limit code w _ _ (ev.silent on e) = refl
next_limit code w _ _ (ev.get on e known) = refl
next_limit code w _ _ (ev.puts {a = a} {b = b} {bs = bs} on e) = puts_limit w.memory a (b ∷ bs)
next_limit code w _ _ (ev.draws on e dr) = refl
next_limit code w _ _ (ev.forks on e) = refl
next_limit code w _ _ (ev.steals on few st) = refl
next_limit code w _ _ (ev.takes_it on e q) = refl
next_limit code w _ _ (ev.finishes on e) = refl
next_limit code w _ _ (ev.joins_it on e q fin) = refl

pub legal_limit : (code : CodeTree) (w v : Weave) (es : List Event) → Legal code w es v → v.memory.limit ≡ w.memory.limit
legal_limit code w _ _ none = refl
legal_limit code w v _ (more {w' = u} {e = e} {es = es} n l) = legal_limit code u v es l ∙ next_limit code w u e n

-- The limit of a run is that of its start.
pub limit_stays : (start w : WeaveParts) (v : Weave) (ls : List Line) (memory : Memory) → weave_of start ≡ v → Leads start ls w → memory ≡ (weave_of w).memory → memory.limit ≡ v.memory.limit
limit_stays start w v ls memory is h left =
    ap (λ (m : Memory). m.limit) left ∙ (legal_limit start.lowered.code (weave_of start) (weave_of w) (counted_out ls) h.legal ∙ ap (λ (x : Weave). x.memory.limit) is)

-- A run is full only where its start may have too few chunks.
pub full_start : (start w : WeaveParts) (l : LoweredParts) (v : Weave) (ls : List Line) (depth level : ℕ) (d : Datum) → start.lowered ≡ l → weave_of start ≡ v → Leads start ls w → IsFull w → IsSoundOn l depth level d (weave_of start)
    → Tight v.memory.limit (run_cost (core_of l.core) depth level d)
full_start start w l v ls depth level d same is h full s =
    let kept = h.sound depth level d (subst (λ (k : LoweredParts). IsSoundOn k depth level d (weave_of start)) (sym same) s) in
    let core = core_of start.lowered.core in
    let bound = weave_tight core start.lowered.code core.main.result (core_run core depth d) depth level d (weave_of w) kept full.0 in
    subst₂ (λ (n : ℕ) (k : LoweredParts). Tight n (run_cost (core_of k.core) depth level d)) (limit_stays start w v ls (weave_of w).memory is h refl) same bound

-- A refusal for a reason other than want of memory: the event does not happen.

abbrev pub ForGood : WeaveFault → Type 0
ForGood fault.NotNow = Unit {0}
ForGood fault.Full = Unit {0}
ForGood fault.Memory = ⊥

no_draw : (code : CodeTree) (w v : Weave) (e : Event) → w.memory.drawn ≡ w.memory.limit → DrawsNow code w e → Next code w e v → ⊥
no_draw code w _ _ full h (ev.silent on e) = subst IsDraw e h
no_draw code w _ _ full h (ev.get on e known) = subst IsDraw e h
no_draw code w _ _ full h (ev.puts on e) = subst IsDraw e h
no_draw code w _ _ full h (ev.draws on e dr) = omega (arith, full, dr.order, dr.within)
no_draw code w _ _ full h (ev.forks on e) = h
no_draw code w _ _ full h (ev.steals on few st) = h
no_draw code w _ _ full h (ev.takes_it on e q) = h
no_draw code w _ _ full h (ev.finishes on e) = h
no_draw code w _ _ full h (ev.joins_it on e q fin) = h

stays_out : (code : CodeTree) (w : Weave) (e : Event) (f : WeaveFault) → ForGood f → IsRefused code w e f → (v : Weave) → Next code w e v → ⊥
stays_out code w e fault.NotNow good h v n = h (next_enabled code w v e n)
stays_out code w e fault.Full good h v n = no_draw code w v e h.0 h.2 n
stays_out code w e fault.Memory good h v n = good

-- All of the same events lead to one weave.
pub legal_is_one : (code : CodeTree) (w v v' : Weave) (es : List Event) → w.memory.alone ≡ true → Legal code w es v → Legal code w es v' → v ≡ v'
legal_is_one code w _ _ _ al none none = refl
legal_is_one code w v v' _ al (more {w' = u} {e = e} {es = es} n l) (more {w' = u'} m k) =
    let is = next_is_one code w u u' e al n m in
    legal_is_one code u v v' es (next_alone code w u e n ∙ al) l (subst (λ (x : Weave). Legal code x es v') (sym is) k)

-- Behind some of the events stands one that does not happen: then they do not all happen.
not_all : (code : CodeTree) (w u v : Weave) (es rest : List Event) (e : Event) → w.memory.alone ≡ true → Legal code w es u → ((x : Weave) → Next code u e x → ⊥) → Legal code w (es ++ e ∷ rest) v → ⊥
not_all code w _ v _ rest e al none out (more {w' = x} n l) = out x n
not_all code w u v _ rest e al (more {w' = x} {e = d} {es = es} n l) out (more {w' = y} m k) =
    let is = next_is_one code w x y d al n m in
    not_all code x u v es rest e (next_alone code w x d n ∙ al) l out (subst (λ (z : Weave). Legal code z (es ++ e ∷ rest) v) (sym is) k)

-- The first event that does not happen is one.
record OneStop (es es' : List Event) (e e' : Event) (u u' : Weave) : Type 0 where
  pub behind : length es ≡ length es'
  pub event : e ≡ e'
  pub weave : u ≡ u'

one_stop : (code : CodeTree) (w u u' : Weave) (es es' rest rest' : List Event) (e e' : Event) → w.memory.alone ≡ true → es ++ e ∷ rest ≡ es' ++ e' ∷ rest'
    → Legal code w es u → ((x : Weave) → Next code u e x → ⊥) → Legal code w es' u' → ((x : Weave) → Next code u' e' x → ⊥) → OneStop es es' e e' u u'
one_stop code w _ _ _ _ rest rest' e e' al same none out none out' = record { behind = refl; event = head_same e e' rest rest' same; weave = refl }
one_stop code w _ u' _ _ rest rest' e e' al same none out (more {w' = x} {e = d} {es = es} n l) out' = absurd (out x (subst (λ (y : Event). Next code w y x) (sym (head_same e d rest (es ++ e' ∷ rest') same)) n))
one_stop code w u _ _ _ rest rest' e e' al same (more {w' = x} {e = d} {es = es} n l) out none out' = absurd (out' x (subst (λ (y : Event). Next code w y x) (head_same d e' (es ++ e ∷ rest) rest' same) n))
one_stop code w u u' _ _ rest rest' e e' al same (more {w' = x} {e = d} {es = es} n l) out (more {w' = y} {e = d'} {es = es'} m k) out' =
    let is = head_same d d' (es ++ e ∷ rest) (es' ++ e' ∷ rest') same in
    let at = next_is_one code w x y d al n (subst (λ (z : Event). Next code w z y) (sym is) m) in
    let r = one_stop code x u u' es es' rest rest' e e' (next_alone code w x d n ∙ al) (tail_same d d' (es ++ e ∷ rest) (es' ++ e' ∷ rest') same) l out (subst (λ (z : Weave). Legal code z es' u') (sym at) k) out' in
    record { behind = ap suc r.behind; event = r.event; weave = r.weave }

-- The events of lines, the line of one of which is cut.
cut_out : (ls before behind : List Line) (line : Line) (made rest : List Event) (e : Event) → ls ≡ before ++ line ∷ behind → counted line ≡ made ++ e ∷ rest → counted_out ls ≡ (counted_out before ++ made) ++ e ∷ (rest ++ counted_out behind)
cut_out ls before behind line made rest e are cut =
    ap counted_out are ∙ (counted_append before (line ∷ behind) ∙ (ap (λ es. counted_out before ++ (es ++ counted_out behind)) cut
    ∙ (ap (λ es. counted_out before ++ es) (append_assoc made (e ∷ rest) (counted_out behind)) ∙ sym (append_assoc (counted_out before) made (e ∷ (rest ++ counted_out behind))))))

inside : (line : Line) (made rest : List Event) (e : Event) → counted line ≡ made ++ e ∷ rest → length made < length (counted line)
inside line made rest e cut = let a = ap length cut in let b = length-append made (e ∷ rest) in omega (arith, a, b)

-- An event stands in one line.
one_line : (b c r s : List Line) (l k : Line) (m n : ℕ) → b ++ l ∷ r ≡ c ++ k ∷ s → m < length (counted l) → n < length (counted k) → length (counted_out b) + m ≡ length (counted_out c) + n → length b ≡ length c
one_line [] [] r s l k m n same lt lt' at = refl
one_line [] (x ∷ c) r s l k m n same lt lt' at =
    let a = ap (λ y. length (counted y)) (head_same l x r (c ++ k ∷ s) same) in
    let b = length-append (counted x) (counted_out c) in
    absurd (omega (arith, a, b, lt, at))
one_line (x ∷ b) [] r s l k m n same lt lt' at =
    let a = ap (λ y. length (counted y)) (head_same x k (b ++ l ∷ r) s same) in
    let c = length-append (counted x) (counted_out b) in
    absurd (omega (arith, a, c, lt', at))
one_line (x ∷ b) (y ∷ c) r s l k m n same lt lt' at =
    let a = ap (λ z. length (counted z)) (head_same x y (b ++ l ∷ r) (c ++ k ∷ s) same) in
    let d = length-append (counted x) (counted_out b) in
    let e = length-append (counted y) (counted_out c) in
    ap suc (one_line b c r s l k m n (tail_same x y (b ++ l ∷ r) (c ++ k ∷ s) same) lt lt' (omega (arith, a, d, e, at)))

-- What becomes of a weave by the same lines.
module _ (code : CodeTree) (start : Weave) (lines : List Line) (al : start.memory.alone ≡ true) where
  module _ (number : ℕ) (f : WeaveFault) (good : ForGood f) (s : StopsAt code start lines number f) where
    out : (v : Weave) → Next code s.weave s.event v → ⊥
    out = stays_out code s.weave s.event f good s.refused

    parts : counted_out lines ≡ (counted_out s.before ++ s.made) ++ s.event ∷ (s.rest ++ counted_out s.behind)
    parts = cut_out lines s.before s.behind s.line s.made s.rest s.event s.lines_are s.events_are

    not_legal : (v : Weave) → Legal code start (counted_out lines) v → ⊥
    not_legal v h = not_all code start s.weave v (counted_out s.before ++ s.made) (s.rest ++ counted_out s.behind) s.event al s.legal out (subst (λ es. Legal code start es v) parts h)

  module _ (number number' : ℕ) (f f' : WeaveFault) (good : ForGood f) (good' : ForGood f') (s : StopsAt code start lines number f) (s' : StopsAt code start lines number' f') where
    same_stop : OneStop (counted_out s.before ++ s.made) (counted_out s'.before ++ s'.made) s.event s'.event s.weave s'.weave
    same_stop = one_stop code start s.weave s'.weave (counted_out s.before ++ s.made) (counted_out s'.before ++ s'.made) (s.rest ++ counted_out s.behind) (s'.rest ++ counted_out s'.behind) s.event s'.event al
        (sym (parts number f good s) ∙ parts number' f' good' s') s.legal (out number f good s) s'.legal (out number' f' good' s')

    -- the line is one
    pub one_number : number ≡ number'
    one_number =
        let a = length-append (counted_out s.before) s.made in
        let b = length-append (counted_out s'.before) s'.made in
        let at = same_stop.behind in
        let one = one_line s.before s'.before s.behind s'.behind s.line s'.line (length s.made) (length s'.made) (sym s.lines_are ∙ s'.lines_are) (inside s.line s.made s.rest s.event s.events_are) (inside s'.line s'.made s'.rest s'.event s'.events_are) (omega (arith, a, b, at)) in
        s.number_is ∙ (ap (λ n. n + 3) one ∙ sym s'.number_is)

  -- so is the reason
  pub not_both : (number number' : ℕ) → StopsAt code start lines number fault.NotNow → StopsAt code start lines number' fault.Full → ⊥
  not_both number number' s s' =
      let one = same_stop number number' fault.NotNow fault.Full tt tt s s' in
      s.refused (subst₂ (λ (w : Weave) (e : Event). ev.Enabled code w e) (sym one.weave) (sym one.event) s'.refused.1)

  pub not_open : (number : ℕ) (f : WeaveFault) → ForGood f → StopsAt code start lines number f → IsLeftOpen code start lines → ⊥
  not_open number f good s h = not_legal number f good s h.weave h.legal

  pub not_answered : (number : ℕ) (f : WeaveFault) → ForGood f → StopsAt code start lines number f → (m : Memory) (a : Answer) → IsAnswered code start lines m a → ⊥
  not_answered number f good s m a h = not_legal number f good s h.weave h.legal

  pub not_open_and_answered : IsLeftOpen code start lines → (m : Memory) (a : Answer) → IsAnswered code start lines m a → ⊥
  not_open_and_answered h m a k =
      let is = legal_is_one code start h.weave k.weave (counted_out lines) al h.legal k.legal in
      h.goes_on (subst (λ (w : Weave). IsFinished (task w.tasks 0).stage) (sym is) (subst IsFinished (sym k.root) tt))

  abbrev answer_of : Stage → Answer
  answer_of ev.Running = NoValue Deep
  answer_of (Finished a) = a
  answer_of ev.Joined = NoValue Deep

  -- two answers are one, over one memory
  pub one_answer : (m n : Memory) (a b : Answer) → IsAnswered code start lines m a → IsAnswered code start lines n b → (m ≡ n) × (a ≡ b)
  one_answer m n a b h k =
      let is = legal_is_one code start h.weave k.weave (counted_out lines) al h.legal k.legal in (
        sym h.memory_is ∙ (ap (λ (w : Weave). w.memory) is ∙ k.memory_is),
        ap answer_of (sym h.root ∙ (ap (λ (w : Weave). (task w.tasks 0).stage) is ∙ k.root)),
      )

  -- two reasons are one, want of memory aside
  pub one_fault : (f g : ReplayFault) → (f ≡ replay.Memory → ⊥) → (g ≡ replay.Memory → ⊥) → IsNoEnd code start lines f → IsNoEnd code start lines g → f ≡ g
  one_fault (replay.NotNow n) (replay.NotNow m) p q h k = ap replay.NotNow (one_number n m fault.NotNow fault.NotNow tt tt h k)
  one_fault (replay.NotNow n) replay.Full p q h k = absurd (not_both n k.0 h k.1)
  one_fault (replay.NotNow n) replay.Open p q h k = absurd (not_open n fault.NotNow tt h k)
  one_fault replay.Full (replay.NotNow m) p q h k = absurd (not_both m h.0 k h.1)
  one_fault replay.Full replay.Full p q h k = refl
  one_fault replay.Full replay.Open p q h k = absurd (not_open h.0 fault.Full tt h.1 k)
  one_fault replay.Open (replay.NotNow m) p q h k = absurd (not_open m fault.NotNow tt k h)
  one_fault replay.Open replay.Full p q h k = absurd (not_open k.0 fault.Full tt k.1 h)
  one_fault replay.Open replay.Open p q h k = refl
  one_fault replay.Memory g p q h k = absurd (p refl)
  one_fault (replay.NotNow n) replay.Memory p q h k = absurd (q refl)
  one_fault replay.Full replay.Memory p q h k = absurd (q refl)
  one_fault replay.Open replay.Memory p q h k = absurd (q refl)

  -- an end leaves no reason
  pub no_fault : (m : Memory) (a : Answer) (f : ReplayFault) → IsAnswered code start lines m a → IsNoEnd code start lines f → f ≡ replay.Memory
  no_fault m a (replay.NotNow n) h k = absurd (not_answered n fault.NotNow tt k m a h)
  no_fault m a replay.Full h k = absurd (not_answered k.0 fault.Full tt k.1 m a h)
  no_fault m a replay.Open h k = absurd (not_open_and_answered k m a h)
  no_fault m a replay.Memory h k = refl
