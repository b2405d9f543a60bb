-- What a line owes of ends by its end, and what the build rules know of it: how both go on from a term to its parts.
use Rattle.std.proofs.Common.{◌≡◌, inl, inr, ⊎_elim, ℕ, Bool, true, false, not, ◌||◌, ◌&&◌, ◌==◌, List, [], ◌∷◌, ◌++◌, Option, Some, None, refl, sym, ap, subst, ◌∙◌}
use Rattle.std.proofs.lemmas.Bool.{or_cases, or_left, or_right, both_ways, and_parts}
use Rattle.gib_types.specs.declared.table.Ty.{Ty}
use Rattle.gib_types.specs.declared.table.ConId.{ConId}
use Rattle.gib_types.specs.Table.{fields_at}
use Rattle.gib_base.specs.declared.name.Name.{Name}
use Rattle.gib_core.specs.declared.atom.Variable.{Variable}
use Rattle.gib_core.specs.declared.atom.Atom.{Atom}
use Rattle.gib_core.specs.declared.atom.Atom.TheVariants as a
use Rattle.gib_core.specs.declared.atom.Kind.{Kind}
use Rattle.gib_core.specs.Tree as t
use Rattle.gib_core.specs.Tree.{Term, Bind, Side, On, Several, Branches, CoreTree, FunctionTerm, variables_of}
use Rattle.gib_core.specs.Meaning.{function_at}
use Rattle.gib_core.specs.Met.{Setting, behind, left_of, right_of}
use Rattle.gib_core.specs.Rules.{is_outside, one_tells}
use Rattle.gib_core.specs.Ending.{Ended, Within, within_par, within_function, within_main, ended, has_ended, call_ends, is_telling, is_known, all_known, lasts_known, last_packed, if_some, some_ended}
use Rattle.gib_core.specs.Low.{Over, with_over, is_over}
use Rattle.gib_core.specs.Fits.{Line, Needs, Inner, AtEnd, Meets, new_line, none_of, tell_line, arm_line, call_tells, side_tells, body_needs}
use Rattle.gib_core.proofs.Promise.{Promised, promise_on, promise_leaf, promise_call, promise_then, promise_if, promise_arm, promise_body, ended_known}
use Rattle.gib_core.proofs.Suited.{told_behind, others_behind}

-- What the end of a line owes. A side owes what its call tells. In a body, which stands in no par, it is told or known of the term
-- that is next; where no ends are told in the function, nothing is owed.
abbrev pub Owes : CoreTree → Needs → Term → Line → Type 0
Owes core (Inner f) u ln = (q : ℕ) → f q ≡ true → side_tells ln.within core u q ≡ true
Owes core (AtEnd n) u ln = (ln.within.par ≡ false) × (ln.within.ends ≡ true → Promised core (AtEnd n) u ln) × (ln.within.ends ≡ false → (ln.overs ≡ []) × ((q : ℕ) → n q ≡ true → ⊥))

-- The term is no call.
abbrev pub IsCall : Term → Bool
IsCall (t.Then b u) = false
IsCall (t.Write h k ss ps) = false
IsCall (t.Point x) = false
IsCall (t.CallTerm f xs) = true
IsCall (t.Give x) = false
IsCall (t.CaseTerm x bs) = false
IsCall (t.IfTerm x u v) = false
IsCall (t.Tuple tys ss ps) = false

pub no_side : (w : Within) (core : CoreTree) (u : Term) (q : ℕ) → IsCall u ≡ false → side_tells w core u q ≡ false
no_side w core (t.Then b u) q e = refl
no_side w core (t.Write h k ss ps) q e = refl
no_side w core (t.Point x) q e = refl
no_side w core (t.CallTerm f xs) q e = absurd cc
no_side w core (t.Give x) q e = refl
no_side w core (t.CaseTerm x bs) q e = refl
no_side w core (t.IfTerm x u v) q e = refl
no_side w core (t.Tuple tys ss ps) q e = refl

by_ends : (b : Bool) (P : Type 0) → (b ≡ true → P) → (b ≡ false → P) → P
by_ends true P f g = f refl
by_ends false P f g = g refl

met_none : (n told : ℕ → Bool) (os : List Over) → os ≡ [] → ((q : ℕ) → n q ≡ true → ⊥) → Meets (AtEnd n) told os
met_none n told os e none = subst (λ (xs : List Over). Meets (AtEnd n) told xs) (sym e) (tt, λ q h. absurd (none q h))

-- The end of a line that is no call.
pub owes_leaf : (core : CoreTree) (ns : Needs) (u : Term) (ln : Line) → IsCall u ≡ false → ((q : ℕ) → is_known core.table (ended core) u (record { 0 = q }) ≡ false) → Owes core ns u ln → Meets ns ln.told ln.overs
owes_leaf core (Inner f) u ln no' none' h = λ q e. absurd (both_ways (side_tells ln.within core u q) (no_side ln.within core u q no') (h q e))
owes_leaf core (AtEnd n) u ln no' none' h = by_ends ln.within.ends (Meets (AtEnd n) ln.told ln.overs) (λ e. promise_leaf core (AtEnd n) u ln none' (h.1 e)) (λ e. let k = h.2 e in met_none n ln.told ln.overs k.0 k.1)

pub owes_call : (core : CoreTree) (ns : Needs) (f : Name) (xs : List Atom) (ln : Line) → Owes core ns (t.CallTerm f xs) ln → Meets ns (λ q. ln.told q || call_tells ln.within core f.0 xs q) ln.overs
owes_call core (Inner g) f xs ln h = λ q e. or_right (ln.told q) (call_tells ln.within core f.0 xs q) (h q e)
owes_call core (AtEnd n) f xs ln h =
    by_ends ln.within.ends (Meets (AtEnd n) (λ q. ln.told q || call_tells ln.within core f.0 xs q) ln.overs) (λ e. promise_call core (AtEnd n) f xs ln h.0 (h.1 e))
    (λ e. let k = h.2 e in met_none n (λ q. ln.told q || call_tells ln.within core f.0 xs q) ln.overs k.0 k.1)

-- Behind a binding.
pub owes_then : (core : CoreTree) (ns : Needs) (kd : Kind) (x : Variable) (ty : Ty) (s u : Term) (ln : Line) → Owes core ns (t.Then (t.One (On kd x ty s)) u) ln → Owes core ns u (tell_line (side_tells ln.within core s) ln)
owes_then core (Inner f) kd x ty s u ln h = λ q e. absurd (both_ways false refl (h q e))
owes_then core (AtEnd n) kd x ty s u ln h = (h.0, λ e. promise_then core (AtEnd n) kd x ty s u ln h.0 (h.1 e), h.2)

-- Behind any other binding, in a line that was told the rest.
pub owes_on : (core : CoreTree) (ns : Needs) (b : Bind) (u : Term) (ln ln' : Line) → ln'.within ≡ ln.within → ln'.overs ≡ ln.overs → ((q : ℕ) → ln.told q ≡ true → ln'.told q ≡ true) → ((z : Variable) → is_telling (ended core) b z ≡ false) → Owes core ns (t.Then b u) ln → Owes core ns u ln'
owes_on core (Inner f) b u ln ln' w o more none h = λ q e. absurd (both_ways false refl (h q e))
owes_on core (AtEnd n) b u ln ln' w o more none h = (
  ap (λ (v : Within). v.par) w ∙ h.0,
  λ e. promise_on core (AtEnd n) (t.Then b u) u ln ln' o more
      (λ q i. or_right (ln'.told q) (is_known core.table (ended core) u (record { 0 = q })) (other (is_telling (ended core) b (record { 0 = q })) (is_known core.table (ended core) u (record { 0 = q })) (none (record { 0 = q })) i))
      (h.1 (sym (ap (λ (v : Within). v.ends) w) ∙ e)),
  λ e. let k = h.2 (sym (ap (λ (v : Within). v.ends) w) ∙ e) in (o ∙ k.0, k.1),
)
  where
    other : (x y : Bool) → x ≡ false → (x || y) ≡ true → y ≡ true
    other true y e i = absurd cc
    other false y e i = i

-- The branches of an `if`.
pub owes_if : (core : CoreTree) (ns : Needs) (x : Atom) (u v : Term) (ln : Line) → Owes core ns (t.IfTerm x u v) ln → Owes core ns u ln × Owes core ns v ln
owes_if core (Inner f) x u v ln h = (λ q e. absurd (both_ways false refl (h q e)), λ q e. absurd (both_ways false refl (h q e)))
owes_if core (AtEnd n) x u v ln h = ((h.0, λ e. (promise_if core (AtEnd n) x u v ln (h.1 e)).0, h.2), (h.0, λ e. (promise_if core (AtEnd n) x u v ln (h.1 e)).1, h.2))

none_over : (x : ℕ) (o : Option Variable) (b : Bool) (os : List Over) → b ≡ false → with_over x o b os ≡ os
none_over x None b os e = refl
none_over x (Some y) true os e = absurd cc
none_over x (Some y) false os e = refl

-- An arm of a case.
pub owes_arm : (core : CoreTree) (ns : Needs) (x : Variable) (bs : Branches) (k : ConId) (ys : List Variable) (u : Term) (ln : Line)
    → ((q : ℕ) → all_known core.table (ended core) bs (record { 0 = q }) ≡ true → is_known core.table (ended core) u (record { 0 = q }) ≡ true)
    → (lasts_known core.table (ended core) bs ≡ true → if_some (last_packed None (fields_at core.table k.0) ys) (λ z. is_known core.table (ended core) u z) ≡ true)
    → Owes core ns (t.CaseTerm (a.Variable x) bs) ln → Owes core ns u (arm_line core x.0 k ys u ln)
owes_arm core (Inner f) x bs k ys u ln all lasts h = λ q e. absurd (both_ways false refl (h q e))
owes_arm core (AtEnd n) x bs k ys u ln all lasts h = (
  h.0,
  λ e. promise_arm core n x bs k ys u ln e h.0 all lasts (h.1 e),
  λ e. let j = h.2 e in (none_over x.0 (last_packed None (fields_at core.table k.0) ys) (is_over ln.within core k ys u) ln.overs (ap (λ b. b && (not ln.within.par && if_some (last_packed None (fields_at core.table k.0) ys) (λ z. is_known core.table (ended core) u z))) e) ∙ j.0, j.1),
)

-- A side, and a body, at their start.
pub owes_side : (core : CoreTree) (w : Within) (u : Term) → Owes core (Inner (side_tells w core u)) u (new_line w)
owes_side core w u = λ q e. e

pub owes_none : (core : CoreTree) (w : Within) (u : Term) → Owes core (Inner none_of) u (new_line w)
owes_none core w u = λ q e. absurd (both_ways false refl e)

some_has : (es : List Ended) (f q : ℕ) → has_ended es f q ≡ true → some_ended es f ≡ true
some_has [] f q e = absurd cc
some_has (x ∷ es) f q e =
    ⊎_elim (λ h. or_left (x.function == f) (some_ended es f) (and_parts (x.function == f) (x.place == q) h).0) (λ h. or_right (x.function == f) (some_ended es f) (some_has es f q h)) (or_cases (x.function == f && x.place == q) (has_ended es f q) e)

pub owes_body : (core : CoreTree) (f : ℕ) (g : FunctionTerm) → function_at core.functions f ≡ Some g → g.name.0 ≡ f → Owes core (body_needs core f) g.body (new_line (within_function core g))
owes_body core f g e same = (
  refl,
  λ h. promise_body core f g (within_function core g) e (ended_known core f),
  λ h. (refl, λ q i. both_ways (within_function core g).ends h (or_left (some_ended (ended core) g.name.0) _ (ap (some_ended (ended core)) same ∙ some_has (ended core) f q i))),
)

pub owes_main : (core : CoreTree) → Owes core (AtEnd none_of) core.main.body (new_line (within_main core))
owes_main core = (refl, λ h. record { meets = (tt, λ q e. absurd (both_ways false refl e)) }, λ h. (refl, λ q e. both_ways false refl e))

pub owes_own : (core : CoreTree) (g : FunctionTerm) → Owes core (AtEnd none_of) g.body (new_line (within_function core g))
owes_own core g = (refl, λ h. record { meets = (tt, λ q e. absurd (both_ways false refl e)) }, λ h. (refl, λ q e. both_ways false refl e))

-- What the rules know to be told in a line is told.
pub record Tells (core : CoreTree) (s : Setting) (ln : Line) : Type 0 where
  pub par : is_outside s.others ≡ true → ln.within.par ≡ false
  pub told : (z : Variable) → is_outside s.others ≡ true → one_tells (ended core) s.calls z ≡ true → ln.told z.0 ≡ true

-- A line begins.
pub tells_new : (core : CoreTree) (s : Setting) (w : Within) → s.calls ≡ [] → (is_outside s.others ≡ true → w.par ≡ false) → Tells core s (new_line w)
tells_new core s w e p = record { par = p; told = λ z o h. absurd (both_ways false refl (ap (λ cs. one_tells (ended core) cs z) (sym e) ∙ h)) }

-- An arm, or a branch of an `if`, has its own line.
pub tells_inner : (core : CoreTree) (s s' : Setting) (ln ln' : Line) → s'.calls ≡ [] → s'.others ≡ s.others → ln'.within ≡ ln.within → Tells core s ln → Tells core s' ln'
tells_inner core s s' ln ln' e o w h = record {
  par = λ i. ap (λ (v : Within). v.par) w ∙ h.par (ap is_outside (sym o) ∙ i);
  told = λ z i j. absurd (both_ways false refl (ap (λ cs. one_tells (ended core) cs z) (sym e) ∙ j));
}

side_call : (core : CoreTree) (w : Within) (kd : Kind) (x : Variable) (ty : Ty) (u : Term) (z : Variable) → w.par ≡ false → is_telling (ended core) (t.One (On kd x ty u)) z ≡ true → side_tells w core u z.0 ≡ true
side_call core w kd x ty (t.Then b r) z np i = i
side_call core w kd x ty (t.Write h k ss ps) z np i = i
side_call core w kd x ty (t.Point y) z np i = i
side_call core w kd x ty (t.CallTerm f xs) z np i = subst (λ (b : Bool). Rattle.std.proofs.Common.cond b false (call_ends (ended core) f.0 0 xs z) ≡ true) (sym np) i
side_call core w kd x ty (t.Give y) z np i = i
side_call core w kd x ty (t.CaseTerm y bs) z np i = i
side_call core w kd x ty (t.IfTerm y r v) z np i = i
side_call core w kd x ty (t.Tuple tys ss ps) z np i = i

-- Behind a binding.
pub tells_then : (core : CoreTree) (s : Setting) (kd : Kind) (x : Variable) (ty : Ty) (u : Term) (ln : Line) → Tells core s ln → Tells core (behind s (t.One (On kd x ty u))) (tell_line (side_tells ln.within core u) ln)
tells_then core s kd x ty u ln h = record {
  par = h.par;
  told = λ z o j. ⊎_elim (λ i. or_right (ln.told z.0) (side_tells ln.within core u z.0) (side_call core ln.within kd x ty u z (h.par o) i)) (λ i. or_left (ln.told z.0) (side_tells ln.within core u z.0) (h.told z o i))
      (or_cases (is_telling (ended core) (t.One (On kd x ty u)) z) (one_tells (ended core) s.calls z) (sym (told_behind core (ended core) (t.One (On kd x ty u)) s z) ∙ j));
}

pub tells_on : (core : CoreTree) (s : Setting) (b : Bind) (ln ln' : Line) → ln'.within ≡ ln.within → ((q : ℕ) → ln.told q ≡ true → ln'.told q ≡ true) → ((z : Variable) → is_telling (ended core) b z ≡ false) → Tells core s ln → Tells core (behind s b) ln'
tells_on core s b ln ln' w more none h = record {
  par = λ o. ap (λ (v : Within). v.par) w ∙ h.par (ap is_outside (sym (others_behind b s)) ∙ o);
  told = λ z o j. more z.0 (h.told z (ap is_outside (sym (others_behind b s)) ∙ o) (other (is_telling (ended core) b z) (one_tells (ended core) s.calls z) (none z) (sym (told_behind core (ended core) b s z) ∙ j)));
}
  where
    other : (x y : Bool) → x ≡ false → (x || y) ≡ true → y ≡ true
    other true y e i = absurd cc
    other false y e i = i

-- What a side tells; the line behind it, and behind a binding.
abbrev pub tells_of : Within → CoreTree → Side → ℕ → Bool
tells_of w core (On kd x ty u) = side_tells w core u
tells_of w core (Several xs tys u) = none_of

abbrev pub side_line : Within → CoreTree → Side → Line → Line
side_line w core x ln = tell_line (tells_of w core x) ln

abbrev pub bind_line : CoreTree → Bind → Line → Line
bind_line core (t.Past h k) ln = ln
bind_line core (t.One s) ln = side_line ln.within core s ln
bind_line core (t.Both false l r) ln = side_line (within_par ln.within) core r (side_line (within_par ln.within) core l ln)
bind_line core (t.Both true l r) ln = side_line (within_par (side_line (within_par ln.within) core l ln).within) core r (side_line (within_par ln.within) core l ln)
bind_line core (t.Prim x f y z) ln = ln
bind_line core (t.Reach y by) ln = ln

pub owes_behind : (core : CoreTree) (ns : Needs) (b : Bind) (u : Term) (ln : Line) → Owes core ns (t.Then b u) ln → Owes core ns u (bind_line core b ln)
owes_behind core ns (t.Past h k) u ln o = owes_on core ns (t.Past h k) u ln ln refl refl (λ q e. e) (λ z. refl) o
owes_behind core ns (t.One (On kd x ty s)) u ln o = owes_then core ns kd x ty s u ln o
owes_behind core ns (t.One (Several xs tys s)) u ln o = owes_on core ns (t.One (Several xs tys s)) u ln (tell_line none_of ln) refl refl (λ q e. or_left (ln.told q) false e) (λ z. refl) o
owes_behind core ns (t.Both false l r) u ln o =
    let w = within_par ln.within in
    owes_on core ns (t.Both false l r) u ln (tell_line (tells_of w core r) (tell_line (tells_of w core l) ln)) refl refl
    (λ q e. or_left (ln.told q || tells_of w core l q) (tells_of w core r q) (or_left (ln.told q) (tells_of w core l q) e)) (λ z. refl) o
owes_behind core ns (t.Both true l r) u ln o =
    let w = within_par ln.within in
    owes_on core ns (t.Both true l r) u ln (tell_line (tells_of w core r) (tell_line (tells_of w core l) ln)) refl refl
    (λ q e. or_left (ln.told q || tells_of w core l q) (tells_of w core r q) (or_left (ln.told q) (tells_of w core l q) e)) (λ z. refl) o
owes_behind core ns (t.Prim x f y z) u ln o = owes_on core ns (t.Prim x f y z) u ln ln refl refl (λ q e. e) (λ v. refl) o
owes_behind core ns (t.Reach y by) u ln o = owes_on core ns (t.Reach y by) u ln ln refl refl (λ q e. e) (λ v. refl) o

pub tells_behind : (core : CoreTree) (s : Setting) (b : Bind) (ln : Line) → Tells core s ln → Tells core (behind s b) (bind_line core b ln)
tells_behind core s (t.Past h k) ln o = tells_on core s (t.Past h k) ln ln refl (λ q e. e) (λ z. refl) o
tells_behind core s (t.One (On kd x ty u)) ln o = tells_then core s kd x ty u ln o
tells_behind core s (t.One (Several xs tys u)) ln o = tells_on core s (t.One (Several xs tys u)) ln (tell_line none_of ln) refl (λ q e. or_left (ln.told q) false e) (λ z. refl) o
tells_behind core s (t.Both false l r) ln o =
    let w = within_par ln.within in
    tells_on core s (t.Both false l r) ln (tell_line (tells_of w core r) (tell_line (tells_of w core l) ln)) refl
    (λ q e. or_left (ln.told q || tells_of w core l q) (tells_of w core r q) (or_left (ln.told q) (tells_of w core l q) e)) (λ z. refl) o
tells_behind core s (t.Both true l r) ln o =
    let w = within_par ln.within in
    tells_on core s (t.Both true l r) ln (tell_line (tells_of w core r) (tell_line (tells_of w core l) ln)) refl
    (λ q e. or_left (ln.told q || tells_of w core l q) (tells_of w core r q) (or_left (ln.told q) (tells_of w core l q) e)) (λ z. refl) o
tells_behind core s (t.Prim x f y z) ln o = tells_on core s (t.Prim x f y z) ln ln refl (λ q e. e) (λ v. refl) o
tells_behind core s (t.Reach y by) ln o = tells_on core s (t.Reach y by) ln ln refl (λ q e. e) (λ v. refl) o

-- A side of a par stands in a par.
abbrev pub MayTell : Setting → Within → Type 0
MayTell s w = is_outside s.others ≡ true → w.par ≡ false

outside_none : (xs ys : List Variable) → is_outside (xs ++ ys) ≡ true → xs ≡ []
outside_none [] ys e = refl
outside_none (x ∷ xs) ys e = absurd (both_ways false refl e)

-- A side binds some variable.
abbrev pub BindsSome : Side → Type 0
BindsSome x = variables_of x ≡ [] → ⊥

pub left_may : (s : Setting) (r : Side) (w : Within) → BindsSome r → MayTell (left_of s r) w
left_may s r w some = λ e. absurd (some (outside_none (variables_of r) s.others e))

pub right_may : (s : Setting) (l : Side) (w : Within) → BindsSome l → MayTell (right_of s l) w
right_may s l w some = λ e. absurd (some (outside_none (variables_of l) s.others e))
