-- What is known at the end of a term is told by then: the ended parameters of a body, and what a call's side tells.
use Rattle.std.proofs.Common.{◌≡◌, ℕ, Bool, true, false, cond, filter, length, arith, not, ◌||◌, ◌&&◌, ◌==◌, List, [], ◌∷◌, Option, Some, None, refl, sym, ap, subst, ◌∙◌}
use Rattle.std.proofs.lemmas.Bool.{eq-eqb, eqb-true, true≢false, or_left, or_right, and_parts, and_from}
use Rattle.gib_core.specs.Meaning.{function_at}
use Rattle.gib_core.specs.Ending.{known_in, stays_ended, narrowed, settled, all_packed}
use Rattle.gib_types.specs.Table.{fields_at}
use Rattle.gib_types.specs.declared.table.Ty.{Ty}
use Rattle.gib_types.specs.declared.table.ConId.{ConId}
use Rattle.gib_core.specs.declared.atom.Variable.{Variable}
use Rattle.gib_core.specs.declared.atom.Atom.{Atom}
use Rattle.gib_core.specs.declared.atom.Atom.TheVariants as a
use Rattle.gib_core.specs.Tree as t
use Rattle.gib_core.specs.Tree.{Term, Bind, Side, Branches, CoreTree, FunctionTerm}
use Rattle.gib_core.specs.Ending.{Within, Ended, ended, has_ended, call_ends, tells, is_known, all_known, lasts_known, last_packed, if_some}
use Rattle.gib_core.specs.Low.{Over, with_over}
use Rattle.gib_core.specs.Fits.{Line, Needs, Inner, AtEnd, Meets, Runs, and_also, finally, new_line, tell_line, arm_line, is_leaf, call_tells, side_tells, body_needs}

or_by : (x y : Bool) (P : Type 0) → (x ≡ true → P) → (y ≡ true → P) → (x || y) ≡ true → P
or_by true y P f g e = f refl
or_by false y P f g e = g e

-- More is told.
also_more : (f g : ℕ → Bool) (x : ℕ) → ((q : ℕ) → f q ≡ true → g q ≡ true) → (q : ℕ) → and_also f x q ≡ true → and_also g x q ≡ true
also_more f g x h q e = or_by (f q) (q == x) (and_also g x q ≡ true) (λ i. or_left (g q) (q == x) (h q i)) (λ i. or_right (g q) (q == x) i) e

finally_more : (f g : ℕ → Bool) (os : List Over) → ((q : ℕ) → f q ≡ true → g q ≡ true) → (q : ℕ) → finally f os q ≡ true → finally g os q ≡ true
finally_more f g [] h = h
finally_more f g (o ∷ os) h = finally_more (and_also f o.tree) (and_also g o.tree) os (also_more f g o.tree h)

runs_more : (f g : ℕ → Bool) (os : List Over) → ((q : ℕ) → f q ≡ true → g q ≡ true) → Runs f os → Runs g os
runs_more f g [] h r = tt
runs_more f g (o ∷ os) h r = (h o.field r.0, runs_more (and_also f o.tree) (and_also g o.tree) os (also_more f g o.tree h) r.1)

pub meets_more : (ns : Needs) (f g : ℕ → Bool) (os : List Over) → ((q : ℕ) → f q ≡ true → g q ≡ true) → Meets ns f os → Meets ns g os
meets_more (Inner n) f g os h m = λ q e. h q (m q e)
meets_more (AtEnd n) f g os h m = (runs_more f g os h m.0, λ q e. finally_more f g os h q (m.1 q e))

-- What must be told by the end of the line is told, or known of the term that is next.
pub record Promised (core : CoreTree) (ns : Needs) (u : Term) (ln : Line) : Type 0 where
  pub meets : Meets ns (λ q. ln.told q || is_known core.table (ended core) u (record { 0 = q })) ln.overs

module _ (core : CoreTree) (ns : Needs) where
  abbrev known : Term → ℕ → Bool
  known u q = is_known core.table (ended core) u (record { 0 = q })

  -- a term that knows less than before, in a line that was told the rest
  pub promise_on : (u u' : Term) (ln ln' : Line) → ln'.overs ≡ ln.overs → ((q : ℕ) → ln.told q ≡ true → ln'.told q ≡ true) → ((q : ℕ) → known u q ≡ true → (ln'.told q || known u' q) ≡ true) → Promised core ns u ln → Promised core ns u' ln'
  promise_on u u' ln ln' same keeps goes p = record {
    meets = subst (λ (os : List Over). Meets ns (λ q. ln'.told q || known u' q) os) (sym same)
        (meets_more ns (λ q. ln.told q || known u q) (λ q. ln'.told q || known u' q) ln.overs (λ q e. or_by (ln.told q) (known u q) ((ln'.told q || known u' q) ≡ true) (λ i. or_left (ln'.told q) (known u' q) (keeps q i)) (goes q) e) p.meets);
  }

  -- the end of a line: no call, and a call outside each `par`
  pub promise_leaf : (u : Term) (ln : Line) → ((q : ℕ) → known u q ≡ false) → Promised core ns u ln → Meets ns ln.told ln.overs
  promise_leaf u ln none p = meets_more ns (λ q. ln.told q || known u q) ln.told ln.overs (λ q e. or_by (ln.told q) (known u q) (ln.told q ≡ true) (λ i. i) (λ i. absurd (true≢false (sym i ∙ none q))) e) p.meets

  pub promise_call : (f : Rattle.gib_base.specs.declared.name.Name.Name) (xs : List Atom) (ln : Line) → ln.within.par ≡ false → Promised core ns (t.CallTerm f xs) ln → Meets ns (λ q. ln.told q || call_tells ln.within core f.0 xs q) ln.overs
  promise_call f xs ln np p = meets_more ns (λ q. ln.told q || known (t.CallTerm f xs) q) (λ q. ln.told q || call_tells ln.within core f.0 xs q) ln.overs
      (λ q e. subst (λ (b : Bool). (ln.told q || cond b false (call_ends (ended core) f.0 0 xs (record { 0 = q }))) ≡ true) (sym np) e) p.meets

  -- behind a binding
  pub promise_then : (kd : Rattle.gib_core.specs.declared.atom.Kind.Kind) (x : Variable) (ty : Ty) (s u : Term) (ln : Line) → ln.within.par ≡ false → Promised core ns (t.Then (t.One (t.On kd x ty s)) u) ln → Promised core ns u (tell_line (side_tells ln.within core s) ln)
  promise_then kd x ty s u ln np p = promise_on (t.Then (t.One (t.On kd x ty s)) u) u ln (tell_line (side_tells ln.within core s) ln) refl (λ q e. or_left (ln.told q) (side_tells ln.within core s q) e)
      (λ q e. or_by (tells (ended core) s (record { 0 = q })) (known u q) (((ln.told q || side_tells ln.within core s q) || known u q) ≡ true)
      (λ i. or_left (ln.told q || side_tells ln.within core s q) (known u q) (or_right (ln.told q) (side_tells ln.within core s q) (told_by s q i)))
      (λ i. or_right (ln.told q || side_tells ln.within core s q) (known u q) i) e) p
    where
      told_by : (s : Term) (q : ℕ) → tells (ended core) s (record { 0 = q }) ≡ true → side_tells ln.within core s q ≡ true
      told_by (t.Then b r) q i = i
      told_by (t.Write h k ss ps) q i = i
      told_by (t.Point y) q i = i
      told_by (t.CallTerm f xs) q i = subst (λ (b : Bool). cond b false (call_ends (ended core) f.0 0 xs (record { 0 = q })) ≡ true) (sym np) i
      told_by (t.Give y) q i = i
      told_by (t.CaseTerm y bs) q i = i
      told_by (t.IfTerm y r v) q i = i
      told_by (t.Tuple tys ss ps) q i = i

  -- the two sides of an `if`
  pub promise_if : (x : Atom) (u v : Term) (ln : Line) → Promised core ns (t.IfTerm x u v) ln → Promised core ns u ln × Promised core ns v ln
  promise_if x u v ln p = (
    promise_on (t.IfTerm x u v) u ln ln refl (λ q e. e) (λ q e. or_right (ln.told q) (known u q) (and_parts (known u q) (known v q) e).0) p,
    promise_on (t.IfTerm x u v) v ln ln refl (λ q e. e) (λ q e. or_right (ln.told q) (known v q) (and_parts (known u q) (known v q) e).1) p,
  )

flip : (x q : ℕ) → (x == q) ≡ true → (q == x) ≡ true
flip x q e = eq-eqb q x (sym (eqb-true x q e))

module _ (core : CoreTree) (n : ℕ → Bool) where
  -- an arm of a case, outside each `par`, in a function whose ends are told: what is known in each branch is in this one, and
  -- where the last packed fields' ends are known in each, this one's is
  pub promise_arm : (x : Variable) (bs : Branches) (k : ConId) (ys : List Variable) (u : Term) (ln : Line) → ln.within.ends ≡ true → ln.within.par ≡ false
      → ((q : ℕ) → all_known core.table (ended core) bs (record { 0 = q }) ≡ true → known core (AtEnd n) u q ≡ true)
      → (lasts_known core.table (ended core) bs ≡ true → if_some (last_packed None (fields_at core.table k.0) ys) (λ z. is_known core.table (ended core) u z) ≡ true)
      → Promised core (AtEnd n) (t.CaseTerm (a.Variable x) bs) ln → Promised core (AtEnd n) u (arm_line core x.0 k ys u ln)
  promise_arm x bs k ys u ln ends np all lasts p = record { meets = go (last_packed None (fields_at core.table k.0) ys) lasts }
    where
      K : Variable → Bool
      K z = is_known core.table (ended core) u z

      T : ℕ → Bool
      T q = ln.told q || (all_known core.table (ended core) bs (record { 0 = q }) || (x.0 == q && lasts_known core.table (ended core) bs))

      U : Option Variable → ℕ → Bool
      U o q = (ln.told q || ((ln.within.ends && is_leaf o) && q == x.0)) || K (record { 0 = q })

      within : (o : Option Variable) (P : ℕ → Bool) → ((q : ℕ) → U o q ≡ true → P q ≡ true) → ((q : ℕ) → (x.0 == q) ≡ true → lasts_known core.table (ended core) bs ≡ true → P q ≡ true) → (q : ℕ) → T q ≡ true → P q ≡ true
      within o P f g q e = or_by (ln.told q) (all_known core.table (ended core) bs (record { 0 = q }) || (x.0 == q && lasts_known core.table (ended core) bs)) (P q ≡ true)
          (λ i. f q (or_left (ln.told q || ((ln.within.ends && is_leaf o) && q == x.0)) (K (record { 0 = q })) (or_left (ln.told q) ((ln.within.ends && is_leaf o) && q == x.0) i)))
          (λ i. or_by (all_known core.table (ended core) bs (record { 0 = q })) (x.0 == q && lasts_known core.table (ended core) bs) (P q ≡ true)
          (λ j. f q (or_right (ln.told q || ((ln.within.ends && is_leaf o) && q == x.0)) (K (record { 0 = q })) (all q j)))
          (λ j. g q (and_parts (x.0 == q) (lasts_known core.table (ended core) bs) j).0 (and_parts (x.0 == q) (lasts_known core.table (ended core) bs) j).1) i) e

      some : (y : Variable) (b : Bool) → K y ≡ b → (lasts_known core.table (ended core) bs ≡ true → K y ≡ true) → Meets (AtEnd n) (U (Some y)) (with_over x.0 (Some y) b ln.overs)
      some y false e l = meets_more (AtEnd n) T (U (Some y)) ln.overs (within (Some y) (U (Some y)) (λ q i. i) (λ q i j. absurd (true≢false (sym (l j) ∙ e)))) p.meets
      some y true e l =
          let m = meets_more (AtEnd n) T (and_also (U (Some y)) x.0) ln.overs (within (Some y) (and_also (U (Some y)) x.0) (λ q i. or_left (U (Some y) q) (q == x.0) i) (λ q i j. or_right (U (Some y) q) (q == x.0) (flip x.0 q i))) p.meets in
          ((or_right (ln.told y.0 || ((ln.within.ends && false) && y.0 == x.0)) (K y) e, m.0), m.1)

      go : (o : Option Variable) → (lasts_known core.table (ended core) bs ≡ true → if_some o K ≡ true) → Meets (AtEnd n) (U o) (with_over x.0 o (ln.within.ends && (not ln.within.par && if_some o K)) ln.overs)
      go None l = meets_more (AtEnd n) T (U None) ln.overs (within None (U None) (λ q i. i)
          (λ q i j. or_left (ln.told q || ((ln.within.ends && true) && q == x.0)) (K (record { 0 = q })) (or_right (ln.told q) ((ln.within.ends && true) && q == x.0) (and_from (ln.within.ends && true) (q == x.0) (and_from ln.within.ends true ends refl) (flip x.0 q i))))) p.meets
      go (Some y) l = subst (λ (c : Bool). Meets (AtEnd n) (U (Some y)) (with_over x.0 (Some y) (c && (not ln.within.par && K y)) ln.overs)) (sym ends)
          (subst (λ (c : Bool). Meets (AtEnd n) (U (Some y)) (with_over x.0 (Some y) (not c && K y) ln.overs)) (sym np) (some y (K y) refl l))

-- where a body begins: the ended parameters stay as they are
pub promise_body : (core : CoreTree) (f : ℕ) (g : FunctionTerm) (w : Within) → function_at core.functions f ≡ Some g → ((q : ℕ) → has_ended (ended core) f q ≡ true → known_in core.table (ended core) q (function_at core.functions f) ≡ true) → Promised core (body_needs core f) g.body (new_line w)
promise_body core f g w e settled = record { meets = (tt, λ q h. subst (λ (o : Option FunctionTerm). known_in core.table (ended core) q o ≡ true) e (settled q h)) }

-- where a side begins: nothing is asked of it but what its call tells
pub promise_side : (core : CoreTree) (w : Within) (s : Term) → w.par ≡ false → Promised core (Inner (side_tells w core s)) s (new_line w)
promise_side core w (t.Then b u) np = record { meets = λ q h. absurd (true≢false (sym h)) }
promise_side core w (t.Write v k ss ps) np = record { meets = λ q h. absurd (true≢false (sym h)) }
promise_side core w (t.Point x) np = record { meets = λ q h. absurd (true≢false (sym h)) }
promise_side core w (t.CallTerm f xs) np = record { meets = λ q h. subst (λ (b : Bool). cond b false (call_ends (ended core) f.0 0 xs (record { 0 = q })) ≡ true) np h }
promise_side core w (t.Give x) np = record { meets = λ q h. absurd (true≢false (sym h)) }
promise_side core w (t.CaseTerm x bs) np = record { meets = λ q h. absurd (true≢false (sym h)) }
promise_side core w (t.IfTerm x u v) np = record { meets = λ q h. absurd (true≢false (sym h)) }
promise_side core w (t.Tuple tys ss ps) np = record { meets = λ q h. absurd (true≢false (sym h)) }

-- Each ended parameter is known at the end of its function's body.

no_pass : (p : Ended → Bool) (es : List Ended) (e : Ended) → filter p es ≡ e ∷ es → ⊥
no_pass p es e h = let s = Rattle.gib_core.proofs.Settles.shorter p es in let l = ap (λ (q : List Ended). length q) h in omega (arith, s, l)

same_pair : (p : Ended → Bool) (e : Ended) (f k : ℕ) → (e.function == f && e.place == k) ≡ true → p e ≡ true → p (record { function = f; place = k }) ≡ true
same_pair p e f k h g =
    subst (λ (q : ℕ). p (record { function = f; place = q }) ≡ true) (eqb-true e.place k (and_parts (e.function == f) (e.place == k) h).1)
    (subst (λ (q : ℕ). p (record { function = q; place = e.place }) ≡ true) (eqb-true e.function f (and_parts (e.function == f) (e.place == k) h).0) g)

passes : (p : Ended → Bool) (es : List Ended) → filter p es ≡ es → (f k : ℕ) → has_ended es f k ≡ true → p (record { function = f; place = k }) ≡ true
passes p [] h f k e = absurd (true≢false (sym e))
passes p (x ∷ es) h f k e = go (p x) refl h (λ g i. passes p es g f k i)
  where
    tail_of : List Ended → List Ended
    tail_of [] = []
    tail_of (y ∷ ys) = ys

    go : (b : Bool) → p x ≡ b → cond b (x ∷ filter p es) (filter p es) ≡ x ∷ es → (filter p es ≡ es → has_ended es f k ≡ true → p (record { function = f; place = k }) ≡ true) → p (record { function = f; place = k }) ≡ true
    go true q g r = or_by (x.function == f && x.place == k) (has_ended es f k) (p (record { function = f; place = k }) ≡ true) (λ i. same_pair p x f k i q) (λ i. r (ap tail_of g) i) e
    go false q g r = absurd (no_pass p es x g)

pub ended_known : (core : CoreTree) (f q : ℕ) → has_ended (ended core) f q ≡ true → known_in core.table (ended core) q (function_at core.functions f) ≡ true
ended_known core f q h = passes (stays_ended core (ended core)) (ended core) (stay core.marked) f q h
  where
    stay : (b : Bool) → narrowed core (cond b (settled core (length (all_packed core.functions)) (all_packed core.functions)) []) ≡ cond b (settled core (length (all_packed core.functions)) (all_packed core.functions)) []
    stay true = Rattle.gib_core.proofs.Settles.settles core (length (all_packed core.functions)) (all_packed core.functions) (omega arith)
    stay false = refl
