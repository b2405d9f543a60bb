-- Arms, and the branches of a case.
use Rattle.std.proofs.Common.{◌≡◌, ℕ, ◌+◌, ◌≤◌, Bool, false, ◌||◌, cond, List, [], ◌∷◌, ◌++◌, length, drop, get_or, reverse, refl, sym, ap, ◌∙◌, subst, arith, append_assoc}
use Rattle.std.specs.List.{list_any}
use Rattle.std.proofs.lemmas.List.{drop_more, reverse-append}
use Rattle.gib_types.specs.declared.table.ConId.{ConId}
use Rattle.gib_types.specs.Table.{Table}
use Rattle.gib_core.specs.declared.atom.Variable.{Variable}
use Rattle.gib_core.specs.declared.atom.Access.TheVariants.{Offset, Skip}
use Rattle.gib_core.specs.declared.atom.AccessMode.{AccessMode}
use Rattle.gib_core.specs.declared.atom.AccessMode.TheVariants.{Skips, Offsets, Ends}
use Rattle.gib_core.specs.declared.node.Branch.{Branch}
use Rattle.gib_core.specs.declared.node.Node.{Node}
use Rattle.gib_core.specs.declared.node.TermId.{TermId}
use Rattle.gib_core.specs.Tree.{Term, Reach, BranchThen, prepend}
use Rattle.gib_core.specs.Arena.{Grows, term_of, branches_from}
use Rattle.gib_core.specs.Reaching.{uses, uses_any, Later, laters, untold, untold_from, reach, skips_from, offsets_from, reaches, packed_variables, offset_of, offsets_in, branch_offsets, branches_use}
use Rattle.gib_access.specs.declared.work.Work.{Work}
use Rattle.gib_access.specs.Used.{Seen, Marks, Enters, since, unused, skips_by, offsets_by_use, reaches_by, offset_by}
use Rattle.gib_access.specs.Made.{Way, Walked, ReachesTerm, ReachesBranch, ReachesBranches, Fronts, arm_offsets}
use Rattle.gib_core.specs.declared.atom.Ended.{Ended}
use Rattle.gib_core.proofs.Fronting.{grows_more, branches_below_more}
use Rattle.gib_access.proofs.Walking.{or-none, marks_then, walked_then}
use Rattle.gib_core.specs.ArenaLaws.{branches_same_below}

any-same : (t : Term) (xs : List Variable) → list_any (uses t) xs ≡ uses_any t xs
any-same t [] = refl
any-same t (x ∷ xs) = ap (λ k. uses t x || k) (any-same t xs)

skip-same : (t : Term) (z : Variable) (ys : List Variable) → skips_by (uses t) z ys ≡ skips_from t z ys
skip-same t z [] = refl
skip-same t z (y ∷ ys) = (λ i. cond (any-same t (y ∷ ys) i) (Reach y (Skip z) ∷ skip-same t y ys i) [])

offsets-same : (t : Term) (ys : List Variable) → offsets_by_use (uses t) ys ≡ offsets_from t ys
offsets-same t [] = refl
offsets-same t (y ∷ ys) = (λ i. cond (uses t y) (Reach y Offset ∷ offsets-same t ys i) (offsets-same t ys i))

reaches-same : (mode : AccessMode) (es : List Ended) (t : Term) (xs : List Variable) → reaches_by mode (uses t) xs (untold mode es t xs) ≡ reaches mode es t xs
reaches-same mode es t [] = refl
reaches-same Skips es t (z ∷ ys) = skip-same t z ys
reaches-same Offsets es t (z ∷ ys) = offsets-same t ys
reaches-same Ends es t (z ∷ ys) = offsets-same t (untold_from es t z ys)

offset-same : (mode : AccessMode) (es : List Ended) (k : ConId) (t : Term) (xs : List Variable) → offset_by k (uses t) (untold mode es t xs) ≡ offset_of mode es k t xs
offset-same mode es k t xs = ap (λ b. cond b (k ∷ []) []) (any-same t (untold mode es t xs))

-- What was used since an arm began is what its term uses.
pub used-same : (old mid new : Seen) (start : ℕ) (u : Variable → Bool) → Enters old mid start → Marks mid new u → since new start ≡ u
used-same old mid new start u e m =
    let le : start ≤ mid.clock = (let q = e.clock in omega (arith, q)) in
    let each : (x : Variable) → since new start x ≡ u x = λ x. m.since start le x ∙ ap (λ (k : Bool). k || u x) (e.fresh x) in
    (λ i x. each x i)

pub entered : (old mid new : Seen) (start : ℕ) (u : Variable → Bool) → Enters old mid start → Marks mid new u → Marks old new u
entered old mid new start u e m =
    let none : (x : Variable) → (u x || false) ≡ u x = λ x. sym (or-none (u x)) in
    let all : Marks old new (λ x. u x || unused x) = marks_then old mid new unused u e.marks m in
    let same : (λ (x : Variable). u x || false) ≡ u = (λ i x. none x i) in
    subst (λ (v : Variable → Bool). Marks old new v) same all

-- An arm with its own fields reached.
pub branch_reached : (w : Way) (old mid walked new : Work) (start : ℕ) (made was : Branch) (t : Term) (body : TermId) (packed others : List Variable) (fs : List Later)
    → Enters old.stamps mid.stamps start → mid.terms ≡ old.terms → mid.offsets ≡ old.offsets
    → packed ≡ packed_variables w.table was.constructor was.variables.items → fs ≡ laters w.mode w.ended t packed → others ≡ untold w.mode w.ended t packed
    → ReachesTerm w fs mid walked body t → new.stamps ≡ walked.stamps → new.offsets ≡ offset_by was.constructor (since walked.stamps start) others ++ walked.offsets
    → Fronts walked.terms new.terms made.term body (reaches_by w.mode (since walked.stamps start) packed others) → made.constructor ≡ was.constructor → made.variables.items ≡ was.variables.items → ReachesBranch w old new made was t
branch_reached w old mid walked new start made was t body packed others fs en et eo ep ef ex h es eof f ek ev =
    let k = was.constructor in
    let fields = packed_variables w.table k was.variables.items in
    let used : since walked.stamps start ≡ uses t = used-same old.stamps mid.stamps walked.stamps start (uses t) en h.walked.marks in
    let others_are : others ≡ untold w.mode w.ended t fields = ex ∙ ap (untold w.mode w.ended t) ep in
    let laters_are : fs ≡ laters w.mode w.ended t fields = ef ∙ ap (laters w.mode w.ended t) ep in
    let reached : reaches_by w.mode (since walked.stamps start) packed others ≡ reaches w.mode w.ended t fields = (λ i. reaches_by w.mode (used i) (ep i) (others_are i)) ∙ reaches-same w.mode w.ended t fields in
    let own : offset_by k (since walked.stamps start) others ≡ offset_of w.mode w.ended k t fields = (λ i. offset_by k (used i) (others_are i)) ∙ offset-same w.mode w.ended k t fields in
    record {
      walked = record {
        grows = subst (λ (z : List Node). Grows z new.terms) et (grows_more mid.terms walked.terms new.terms h.walked.grows f.grows);
        marks = subst (λ (z : Seen). Marks old.stamps z (uses t)) (sym es) (entered old.stamps mid.stamps walked.stamps start (uses t) en h.walked.marks);
        offsets =
            eof
            ∙ (λ i. own i ++ (h.walked.offsets ∙ ap (λ z. offsets_in w.mode w.table w.ended t ++ z) eo) i)
            ∙ sym (append_assoc (offset_of w.mode w.ended k t fields) (offsets_in w.mode w.table w.ended t) old.offsets);
      };
      inside = f.inside;
      constructor = ek;
      variables = ev;
      term = f.is ∙ (λ i. prepend (reached i) (h.is i)) ∙ ap (λ (gs : List Later). prepend (reaches w.mode w.ended t fields) (reach w.mode w.table w.ended gs t)) laters_are;
    }

one-more : (w : Way) (f : ℕ → Term) (old now new : Work) (made b : Branch) (done bs : List Branch) → ReachesBranches w old now done (branches_from f bs) → ReachesBranch w now new made b (f b.term.0) → ReachesBranches w old new (made ∷ done) (branches_from f (b ∷ bs))
one-more w f old now new made b done bs h p =
    let k = b.constructor in
    let xs = b.variables.items in
    let t = f b.term.0 in
    let all = branch_offsets w.mode w.table w.ended (branches_from f bs) in
    let steps : Walked old new (branches_use (branches_from f (b ∷ bs))) (arm_offsets w k xs t ++ all) = walked_then old now new (branches_use (branches_from f bs)) (uses t) all (arm_offsets w k xs t) h.walked p.walked in
    record {
      walked = subst (λ z. Walked old new (branches_use (branches_from f (b ∷ bs))) z) (append_assoc (offset_of w.mode w.ended k t (packed_variables w.table k xs)) (offsets_in w.mode w.table w.ended t) all) steps;
      inside = (p.inside, branches_below_more (length now.terms) (length new.terms) done p.walked.grows.longer h.inside);
      are = (λ i. BranchThen (p.constructor i) (p.variables i) (p.term i) ((branches_same_below (term_of new.terms) (term_of now.terms) (length now.terms) done h.inside p.walked.grows.same ∙ h.are) i));
    }

pub reverse-push : {A : Type 0} (xs ys : List A) (x : A) → ys ≡ xs ++ x ∷ [] → reverse ys ≡ x ∷ reverse xs
reverse-push xs ys x e = ap reverse e ∙ reverse-append xs (x ∷ [])

-- One more branch, before the others.
pub branches_next : (w : Way) (f : ℕ → Term) (old now new : Work) (made b d : Branch) (done more bs : List Branch) (i j : ℕ) → j ≡ i + 1 → j ≤ length bs → b ≡ get_or bs i d → more ≡ done ++ made ∷ [] → ReachesBranches w old now (reverse done) (branches_from f (drop j bs)) → ReachesBranch w now new made b (f b.term.0) → ReachesBranches w old new (reverse more) (branches_from f (drop i bs))
branches_next w f old now new made b d done more bs i j ej le eb em h p =
    let rest = drop (i + 1) bs in
    let h' : ReachesBranches w old now (reverse done) (branches_from f rest) = subst (λ n. ReachesBranches w old now (reverse done) (branches_from f (drop n bs))) ej h in
    let both = one-more w f old now new made b (reverse done) rest h' p in
    let left : drop i bs ≡ b ∷ rest = drop_more bs i d (omega (arith, ej, le)) ∙ ap (λ (z : Branch). z ∷ rest) (sym eb) in
    subst (λ z. ReachesBranches w old new z (branches_from f (drop i bs))) (sym (reverse-push done more made em)) (subst (λ z. ReachesBranches w old new (made ∷ reverse done) (branches_from f z)) (sym left) both)
