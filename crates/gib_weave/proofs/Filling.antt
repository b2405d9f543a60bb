-- A part fills its region, while the other regions of the group wait.
use Rattle.std.proofs.Common.{◌≡◌, ℕ, zero, suc, Bool, true, false, ◌+◌, ◌-◌, ◌<◌, ◌≤◌, List, [], ◌∷◌, ◌++◌, length, drop, refl, sym, ap, subst, ◌∙◌, arith}
use Rattle.std.proofs.lemmas.Bool.{true≢false}
use Rattle.std.proofs.lemmas.List.{length-drop}
use Rattle.gib_types.specs.declared.table.Ty.{Ty}
use Rattle.gib_types.specs.declared.table.Ty.TheVariants.{Whole, Truth, Tree}
use Rattle.gib_types.specs.Layout.{LaidOut}
use Rattle.gib_types.specs.Table.{tree_types}
use Rattle.gib_types.specs.Tree.{Datum}
use Rattle.gib_syntax.specs.Results as results
use Rattle.gib_syntax.specs.Results.{Results}
use Rattle.gib_mem.specs.Memory.{Store}
use Rattle.gib_packed.specs.Decoding.{Dec}
use Rattle.gib_core.specs.declared.atom.Variable.{Variable}
use Rattle.gib_core.specs.Tree.{CoreTree, PartTerms, NoPart, PartThen, parts_count}
use Rattle.gib_core.specs.Ending.{Within}
use Rattle.gib_core.specs.Low.{packed_slots}
use Rattle.gib_core.specs.Fits.{Scope, AreNew, Held, PartsFit, cased, loosen, packed_due, put}
use Rattle.gib_code.specs.Program.{CodeTree}
use Rattle.gib_machine.specs.State.{Slots, Frame, sink, cursor, Open as OpenRegion}
use Rattle.gib_weave.specs.EndWords.{WithEnd}
use Rattle.gib_weave.specs.Groups.{nth, Group, Holds, Starts}
use Rattle.gib_weave.specs.Continuing.{Kont, KEnd, KSide, KLast, KHere, KRegion, KScalar, KCall, KCallScalar, KPart, KSeveral, due, made}
use Rattle.gib_weave.specs.Stacks.{SeveralWaits, Stack}

-- How many packed parts there are: by their variables, their types, their terms.

pub slots_many : (sc : Scope) (tys : List Ty) (xs : List Variable) → AreNew sc tys xs → length (packed_slots tys xs) ≡ length (packed_due tys)
slots_many sc [] [] h = refl
slots_many sc [] (x ∷ xs) h = absurd h
slots_many sc (ty ∷ tys) [] h = absurd h
slots_many sc (Whole ∷ tys) (x ∷ xs) h = slots_many (put sc x.0 Held) tys xs h.1
slots_many sc (Truth ∷ tys) (x ∷ xs) h = slots_many (put sc x.0 Held) tys xs h.1
slots_many sc (Tree t ∷ tys) (x ∷ xs) h = ap suc (slots_many (put sc x.0 Held) tys xs h.1)

pub types_many : (tys : List Ty) → length (tree_types tys) ≡ length (packed_due tys)
types_many [] = refl
types_many (Whole ∷ tys) = types_many tys
types_many (Truth ∷ tys) = types_many tys
types_many (Tree t ∷ tys) = ap suc (types_many tys)

pub terms_many : (core : CoreTree) (w : Within) (ps : PartTerms) (ts : List ℕ) (sc : Scope) (go : Scope → Type 0) → PartsFit core w ps ts sc go → parts_count ps ≡ length ts
terms_many core w NoPart [] sc go h = refl
terms_many core w NoPart (t ∷ ts) sc go h = absurd h
terms_many core w (PartThen u ps) [] sc go h = absurd h
terms_many core w (PartThen u ps) (t ∷ ts) sc go h = ap suc (terms_many core w ps ts (loosen (cased u) sc) go h.1)

abbrev tail_of : {A : Type 0} → List A → List A
tail_of [] = []
tail_of (x ∷ xs) = xs

abbrev head_of : List ℕ → ℕ
head_of [] = 0
head_of (x ∷ xs) = x

pub drop_next : {A : Type 0} (n : ℕ) (xs : List A) (t : A) (ds : List A) → drop n xs ≡ t ∷ ds → drop (suc n) xs ≡ ds
drop_next {A} zero [] t ds e = absurd (let h = ap (λ (q : List A). length q) e in omega (arith, h))
drop_next zero (x ∷ xs) t ds e = ap tail_of e
drop_next {A} (suc n) [] t ds e = absurd (let h = ap (λ (q : List A). length q) e in omega (arith, h))
drop_next (suc n) (x ∷ xs) t ds e = drop_next n xs t ds e

-- The regions of a group, when the one of the running part changes.

nth_same : (j : ℕ) (p : OpenRegion) (rs : List OpenRegion) → j ≤ length rs → nth j (sink j (p ∷ rs)) ≡ p
nth_same zero p rs h = refl
nth_same (suc j) p [] h = absurd (omega (arith, h))
nth_same (suc j) p (r ∷ rs) h = nth_same j p rs (omega (arith, h))

nth_other : (m j : ℕ) (p q : OpenRegion) (rs : List OpenRegion) → (m ≡ j → ⊥) → j ≤ length rs → nth m (sink j (p ∷ rs)) ≡ nth m (sink j (q ∷ rs))
nth_other zero zero p q rs n h = absurd (n refl)
nth_other (suc m) zero p q rs n h = refl
nth_other m (suc j) p q [] n h = absurd (omega (arith, h))
nth_other zero (suc j) p q (r ∷ rs) n h = refl
nth_other (suc m) (suc j) p q (r ∷ rs) n h = nth_other m j p q rs (λ e. n (ap suc e)) (omega (arith, h))

nth_start : (m j : ℕ) (p q : OpenRegion) (rs : List OpenRegion) → p.start ≡ q.start → (nth m (sink j (p ∷ rs))).start ≡ (nth m (sink j (q ∷ rs))).start
nth_start zero zero p q rs e = e
nth_start (suc m) zero p q rs e = refl
nth_start zero (suc j) p q [] e = e
nth_start (suc m) (suc j) p q [] e = refl
nth_start zero (suc j) p q (r ∷ rs) e = refl
nth_start (suc m) (suc j) p q (r ∷ rs) e = nth_start m j p q rs e

drop_sink : (m j : ℕ) (p q : OpenRegion) (rs : List OpenRegion) → j < m → drop m (sink j (p ∷ rs)) ≡ drop m (sink j (q ∷ rs))
drop_sink zero j p q rs h = absurd (omega (arith, h))
drop_sink (suc m) zero p q rs h = refl
drop_sink (suc m) (suc j) p q [] h = refl
drop_sink (suc m) (suc j) p q (r ∷ rs) h = drop_sink m j p q rs (omega (arith, h))

pub sink_length : (j : ℕ) (p : OpenRegion) (rs : List OpenRegion) → length (sink j (p ∷ rs)) ≡ suc (length rs)
sink_length zero p rs = refl
sink_length (suc j) p [] = refl
sink_length (suc j) p (r ∷ rs) = ap suc (sink_length j p rs)

-- regions with fewer newer ones than that one has are as they were
holds_after : (laid : LaidOut) (s : Store) (j : ℕ) (p q : OpenRegion) (rs : List OpenRegion) (ts : List ℕ) (vs : List Datum) → length ts ≤ j → j ≤ length rs → Holds laid s ts vs (sink j (p ∷ rs)) → Holds laid s ts vs (sink j (q ∷ rs))
holds_after laid s j p q rs [] vs h l g = tt
holds_after laid s j p q rs (t ∷ ts) [] h l g =
    (subst (λ (r : OpenRegion). r.cur ≡ r.start) (nth_other (length ts) j p q rs (λ e. absurd (omega (arith, e, h))) l) g.0, holds_after laid s j p q rs ts [] (omega (arith, h)) l g.1)
holds_after laid s j p q rs (t ∷ ts) (v ∷ vs) h l g =
    (subst (λ (r : OpenRegion). Dec laid s r.start t v r.cur) (nth_other (length ts) j p q rs (λ e. absurd (omega (arith, e, h))) l) g.0, holds_after laid s j p q rs ts vs (omega (arith, h)) l g.1)

-- The next part is made, in its region p, which was q.
pub holds_more : (laid : LaidOut) (s : Store) (j : ℕ) (p q : OpenRegion) (rs : List OpenRegion) (ts : List ℕ) (vs : List Datum) (t : ℕ) (ds : List ℕ) (v : Datum) → drop (length vs) ts ≡ t ∷ ds → length ds ≡ j → j ≤ length rs
    → Dec laid s p.start t v p.cur → Holds laid s ts vs (sink j (q ∷ rs)) → Holds laid s ts (vs ++ v ∷ []) (sink j (p ∷ rs))
holds_more laid s j p q rs [] [] t ds v e h l dec g = absurd (let i = ap (λ (z : List ℕ). length z) e in omega (arith, i))
holds_more laid s j p q rs [] (w ∷ vs) t ds v e h l dec g = absurd (let i = ap (λ (z : List ℕ). length z) e in omega (arith, i))
holds_more laid s j p q rs (u ∷ us) [] t ds v e h l dec g =
    let n : length us ≡ j = ap (λ (z : List ℕ). length z) (ap tail_of e) ∙ h in (
      subst (λ (r : OpenRegion). Dec laid s r.start u v r.cur) (sym (ap (λ (m : ℕ). nth m (sink j (p ∷ rs))) n ∙ nth_same j p rs l)) (subst (λ (z : ℕ). Dec laid s p.start z v p.cur) (sym (ap head_of e)) dec),
      holds_after laid s j q p rs us [] (omega (arith, n)) l g.1,
    )
holds_more laid s j p q rs (u ∷ us) (w ∷ vs) t ds v e h l dec g =
    let n : length us ≡ j → ⊥ = λ i. let a = ap (λ (z : List ℕ). length z) e in let b = length-drop (length vs) us in absurd (omega (arith, i, a, b, h)) in
    (subst (λ (r : OpenRegion). Dec laid s r.start u w r.cur) (nth_other (length us) j q p rs n l) g.0, holds_more laid s j p q rs us vs t ds v e h l dec g.1)

-- The region of the next part is empty.
pub holds_fresh : (laid : LaidOut) (s : Store) (rs : List OpenRegion) (ts : List ℕ) (vs : List Datum) (t : ℕ) (ds : List ℕ) → drop (length vs) ts ≡ t ∷ ds → Holds laid s ts vs rs → (nth (length ds) rs).cur ≡ (nth (length ds) rs).start
holds_fresh laid s rs [] [] t ds e g = absurd (let i = ap (λ (z : List ℕ). length z) e in omega (arith, i))
holds_fresh laid s rs [] (w ∷ vs) t ds e g = absurd (let i = ap (λ (z : List ℕ). length z) e in omega (arith, i))
holds_fresh laid s rs (u ∷ us) [] t ds e g = subst (λ (z : List ℕ). (nth (length z) rs).cur ≡ (nth (length z) rs).start) (ap tail_of e) g.0
holds_fresh laid s rs (u ∷ us) (w ∷ vs) t ds e g = holds_fresh laid s rs us vs t ds e g.1

-- Of a line that waits for the parts only the starts of their regions are relied on.

abbrev at_start : ℕ → WithEnd
at_start w = record { word = w; last = 0 }

starts_filled : (sl : Slots) (xs : List ℕ) (j : ℕ) (p q : OpenRegion) (rs : List OpenRegion) → p.start ≡ q.start → Starts sl xs (sink j (p ∷ rs)) → Starts sl xs (sink j (q ∷ rs))
starts_filled sl [] j p q rs e h = tt
starts_filled sl (x ∷ xs) j p q rs e h = (h.0 ∙ ap at_start (nth_start (length xs) j p q rs e), starts_filled sl xs j p q rs e h.1)

abbrev is_one : Results Ty → Bool
is_one (results.One ty) = true
is_one (results.Several tys) = false

-- One thing is not several.
pub not_one : (ty : Ty) (o : Results Ty) (tys : List Ty) → o ≡ results.One ty → o ≡ results.Several tys → ⊥
not_one ty o tys d e = true≢false (sym (ap is_one d) ∙ ap is_one e)

abbrev types_in : Results Ty → List Ty
types_in (results.One ty) = []
types_in (results.Several tys) = tys

pub same_types : (us tys : List Ty) → results.Several us ≡ results.Several tys → us ≡ tys
same_types us tys e = ap types_in e

pub Stack-filled : (core : CoreTree) (code : CodeTree) (s : Store) (k : Kont) (sl : Slots) (fs : List Frame) (a j : ℕ) (p q : OpenRegion) (rs : List OpenRegion) (tys : List Ty) → p.start ≡ q.start → due k ≡ results.Several tys → j < length (packed_due tys)
    → Stack core code s k sl fs a (sink j (p ∷ rs)) → Stack core code s k sl fs a (sink j (q ∷ rs))
Stack-filled core code s (KEnd ty) sl fs a j p q rs tys e d lt h = absurd (not_one _ _ tys refl d)
Stack-filled core code s (KSide b) sl fs a j p q rs tys e d lt h = absurd (not_one _ _ tys refl d)
Stack-filled core code s (KLast l y t) sl fs a j p q rs tys e d lt h = absurd (not_one _ _ tys refl d)
Stack-filled core code s (KHere l x t u c k) sl fs a j p q rs tys e d lt h = absurd (not_one _ _ tys refl d)
Stack-filled core code s (KRegion l x t u c k) sl fs a j p q rs tys e d lt h = absurd (not_one _ _ tys refl d)
Stack-filled core code s (KScalar l x ty u c k) sl fs a j p q rs tys e d lt h = absurd (not_one _ _ tys refl d)
Stack-filled core code s (KCall gs c k) sl [] a j p q rs tys e d lt h = absurd h
Stack-filled core code s (KCall gs c k) sl (f ∷ fs) a j p q rs tys e d lt h = (h.0, h.1, h.2, h.3, h.4, h.5, h.6, Stack-filled core code s k f.words fs a j p q rs tys e d lt h.7)
Stack-filled core code s (KCallScalar x ty gs u c k) sl fs a j p q rs tys e d lt h = absurd (not_one _ _ tys refl d)
Stack-filled core code s (KPart l i t us ss vs ps c k) sl fs a j p q rs tys e d lt h = absurd (not_one _ _ tys refl d)
Stack-filled core code s (KSeveral l xs us u c k) sl fs a j p q rs tys e d lt h =
    let m = slots_many c.scope us xs h.3.new ∙ ap (λ (z : List Ty). length (packed_due z)) (same_types us tys d) in
    let g = drop_sink (length (packed_slots us xs)) j p q rs (omega (arith, lt, m)) in (
      starts_filled sl (packed_slots us xs) j p q rs e h.0,
      h.1,
      h.2,
      subst (λ (z : List OpenRegion). SeveralWaits core code s sl h.1 xs us u c (cursor z) k) g h.3,
      subst (λ (z : List OpenRegion). Stack core code s k sl fs c.front z) g h.4,
      subst (λ (z : List OpenRegion). Group code.laid s c.dest (made u) z) g h.5,
    )
