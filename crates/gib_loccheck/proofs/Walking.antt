-- The lines of a term, from those of its parts.
use Rattle.std.proofs.Common.{◌≡◌, ℕ, ◌-◌, ◌≤◌, false, List, [], ◌∷◌, ◌++◌, refl, sym, ap, ◌∙◌, subst, arith, take, drop, get_or, length, map, reverse, append_assoc}
use Rattle.std.proofs.Math.Seq.{take-length}
use Rattle.std.proofs.lemmas.List.{reverse-append}
use Rattle.std.specs.Prelude.{Result}
use Rattle.gib_types.specs.declared.table.ConId.{ConId}
use Rattle.gib_types.specs.declared.operator.Operator.{Operator}
use Rattle.gib_core.specs.declared.atom.Variable.{Variable}
use Rattle.gib_core.specs.declared.atom.Atom.{Atom}
use Rattle.gib_core.specs.declared.node.Branch.{Branch}
use Rattle.gib_core.specs.Tree.{CoreTree, Term, IfTerm, CaseTerm, Bind, Prim, Both, Side}
use Rattle.gib_core.specs.Arena.{branches_from}
use Rattle.gib_core.specs.Met.{Setting, Met, ParLine, CaseLine, IfLine, met, met_bind, met_side, met_branches, reached, behind, behind_side, left_of, right_of, in_arm, in_branch, arms_of}
use Rattle.gib_loccheck.specs.declared.state.Walk.{Walk}
use Rattle.gib_loccheck.specs.declared.target.Target.{Target}
use Rattle.gib_loccheck.specs.declared.fault.LocFault.{LocFault}
use Rattle.gib_loccheck.specs.declared.fault.LocFault.TheVariants as fault
use Rattle.gib_loccheck.specs.Views.{in_scope, setting_of, at_line, arms_in, arm_of, destination_of, call_of}
use Rattle.gib_loccheck.specs.Judging.{one, Passes, Blames, Kept, Checks, Binds, Enters, past_side}
use Rattle.gib_loccheck.proofs.Branching.{ArmsSoFar}
use Rattle.gib_loccheck.proofs.Judges.{passes_then, checks_then, blames_front, blames_back, setting-kept, kept_then}

pub arms_known : (f : ℕ → Term) (bs : List Branch) → arms_of (branches_from f bs) ≡ arms_in bs
arms_known f [] = refl
arms_known f (b ∷ bs) = ap (λ z. arm_of b ∷ z) (arms_known f bs)

pub kept_binds : (a b c : Walk) (t target : Target) (bd : Bind) → Kept a b → Binds b c t (behind (setting_of b target) bd) → Binds a c t (behind (setting_of a target) bd)
kept_binds a b c t target bd k h = record {
  more = h.more;
  scope = h.scope ∙ ap (λ z. z ++ h.more) k.scope;
  others = h.others ∙ k.others;
  setting = h.setting ∙ ap (λ z. behind z bd) (setting-kept a b target k);
}

pub binds_both : (a b c : Walk) (inner target t : Target) (l r : Side) → Binds a b inner (behind_side (setting_of a target) l) → Binds b c t (behind_side (setting_of b inner) r)
    → Binds a c t (behind_side (behind_side (setting_of a target) l) r)
binds_both a b c inner target t l r p q = record {
  more = p.more ++ q.more;
  scope = q.scope ∙ ap (λ z. z ++ q.more) p.scope ∙ append_assoc a.scope.items p.more q.more;
  others = q.others ∙ p.others;
  setting = q.setting ∙ ap (λ z. behind_side z r) p.setting;
}

-- An operation, behind which its variable is in scope.
pub binds_prim : (a b c : Walk) (target next : Target) (x : Variable) (f : Operator) (y z : Atom) → Kept a b → Enters b c (reached x)
    → ((w : Walk) → setting_of w next ≡ record (setting_of w target) { whole = false }) → Binds a c next (behind (setting_of a target) (Prim x f y z))
binds_prim a b c target next x f y z k h e =
    let grown : c.scope.items ≡ a.scope.items ++ reached x ∷ [] = h.scope ∙ ap (λ ks. ks ++ reached x ∷ []) k.scope in
    let front : reverse c.scope.items ≡ reached x ∷ reverse a.scope.items = ap reverse grown ∙ reverse-append a.scope.items (reached x ∷ []) in
    let others : c.others.items ≡ a.others.items = h.others ∙ k.others in
    let calls : c.calls.items ≡ a.calls.items = h.calls ∙ k.calls in
    record {
      more = reached x ∷ [];
      scope = grown;
      others = others;
      setting = e c ∙ (λ i. record { destination = destination_of target.destination; due = target.due; scope = front i; others = reverse (others i); whole = false; calls = reverse (map call_of (calls i)) });
    }

module _ (core : CoreTree) where
  -- A case: its subject, and its branches.
  pub case_checks : (a b c : Walk) (target : Target) (x : Atom) (f : ℕ → Term) (bs : List Branch) (r : Result (Unit {0}) LocFault)
      → Passes core a b (one (setting_of a target) (CaseLine x (arms_in bs))) → Kept a b → Checks core b c (met_branches core.table (setting_of b target) (branches_from f bs)) r
      → Checks core a c (met core.table (setting_of a target) (CaseTerm x (branches_from f bs))) r
  case_checks a b c target x f bs r p k q =
      let s = setting_of a target in
      let p' = subst (λ (z : List (ConId × List Variable)). Passes core a b (one s (CaseLine x z))) (sym (arms_known f bs)) p in
      let q' = subst (λ (z : Setting). Checks core b c (met_branches core.table z (branches_from f bs)) r) (setting-kept a b target k) q in
      checks_then core a b c (one s (CaseLine x (arms_of (branches_from f bs)))) (met_branches core.table s (branches_from f bs)) r p' k q'

  pub case_blames_subject : (e : LocFault) (a : Walk) (target : Target) (x : Atom) (f : ℕ → Term) (bs : List Branch)
      → Blames core a (one (setting_of a target) (CaseLine x (arms_in bs))) e → Blames core a (met core.table (setting_of a target) (CaseTerm x (branches_from f bs))) e
  case_blames_subject e a target x f bs h =
      let s = setting_of a target in
      let h' = subst (λ (z : List (ConId × List Variable)). Blames core a (one s (CaseLine x z)) e) (sym (arms_known f bs)) h in
      blames_front core e a (one s (CaseLine x (arms_of (branches_from f bs)))) (met_branches core.table s (branches_from f bs)) h'

  -- Both branches of an `if`.
  inner_same : (a b : Walk) (target inner : Target) → Kept a b → ((w : Walk) → setting_of w inner ≡ record (setting_of w target) { whole = false }) → at_line (setting_of b inner) ≡ in_branch (setting_of a target)
  inner_same a b target inner k e = ap at_line (e b ∙ ap (λ (z : Setting). record z { whole = false }) (setting-kept a b target k))

  pub if_else_checks : (a b c d : Walk) (target first second : Target) (x : Atom) (t u : Term) (o : Result (Unit {0}) LocFault)
      → Passes core a b (one (setting_of a target) (IfLine x)) → Kept a b → ((w : Walk) → setting_of w first ≡ record (setting_of w target) { whole = false })
      → Passes core b c (met core.table (at_line (setting_of b first)) t) → Kept b c → ((w : Walk) → setting_of w second ≡ record (setting_of w target) { whole = false })
      → Checks core c d (met core.table (at_line (setting_of c second)) u) o
      → Checks core a d (met core.table (setting_of a target) (IfTerm x t u)) o
  if_else_checks a b c d target first second x t u o p k e q l f r =
      let s = setting_of a target in
      let q' = subst (λ (z : Setting). Passes core b c (met core.table z t)) (inner_same a b target first k e) q in
      let r' = subst (λ (z : Setting). Checks core c d (met core.table z u) o) (inner_same a c target second (kept_then a b c k l) f) r in
      checks_then core a b d (one s (IfLine x)) (met core.table (in_branch s) t ++ met core.table (in_branch s) u) o p k
      (checks_then core b c d (met core.table (in_branch s) t) (met core.table (in_branch s) u) o q' l r')

  pub if_else_blames_first : (e : LocFault) (a b : Walk) (target first : Target) (x : Atom) (t u : Term)
      → Passes core a b (one (setting_of a target) (IfLine x)) → Kept a b → ((w : Walk) → setting_of w first ≡ record (setting_of w target) { whole = false })
      → Blames core b (met core.table (at_line (setting_of b first)) t) e
      → Blames core a (met core.table (setting_of a target) (IfTerm x t u)) e
  if_else_blames_first e a b target first x t u p k i q =
      let s = setting_of a target in
      let q' = subst (λ (z : Setting). Blames core b (met core.table z t) e) (inner_same a b target first k i) q in
      blames_back core e a b (one s (IfLine x)) (met core.table (in_branch s) t ++ met core.table (in_branch s) u) p
      (blames_front core e b (met core.table (in_branch s) t) (met core.table (in_branch s) u) q')

  pub if_else_blames_condition : (e : LocFault) (a : Walk) (target : Target) (x : Atom) (t u : Term)
      → Blames core a (one (setting_of a target) (IfLine x)) e → Blames core a (met core.table (setting_of a target) (IfTerm x t u)) e
  if_else_blames_condition e a target x t u h =
      let s = setting_of a target in
      blames_front core e a (one s (IfLine x)) (met core.table (in_branch s) t ++ met core.table (in_branch s) u) h

  -- Two sides.
  par_passes : (a b : Walk) (s : Setting) → Passes core a b (one (in_scope a) ParLine) → Passes core a b (one s ParLine)
  par_passes a b s p = record { unbroken = refl; before = p.before; place = p.place }

  left_kept : (a b : Walk) (target : Target) (side : Side) → Kept a b → left_of (setting_of b target) side ≡ left_of (setting_of a target) side
  left_kept a b target side k = ap (λ (s : Setting). left_of s side) (setting-kept a b target k)

  right_kept : (a b : Walk) (target next : Target) (side : Side) → Kept a b → ((w : Walk) → setting_of w next ≡ past_side side (setting_of w target))
      → left_of (setting_of b next) side ≡ right_of (setting_of a target) side
  right_kept a b target next side k e = ap (λ (s : Setting). left_of s side) (e b ∙ ap (past_side side) (setting-kept a b target k))

  pub sides_check : (a b c d : Walk) (target next : Target) (l r : Side) (o : Result (Unit {0}) LocFault)
      → Passes core a b (one (in_scope a) ParLine) → Kept a b
      → Passes core b c (met_side core.table (left_of (setting_of b target) r) l) → Kept b c
      → ((w : Walk) → setting_of w next ≡ past_side l (setting_of w target))
      → Checks core c d (met_side core.table (left_of (setting_of c next) l) r) o
      → Checks core a d (met_bind core.table (setting_of a target) (Both false l r)) o
  sides_check a b c d target next l r o p k q m e h =
      let s = setting_of a target in
      let q' = subst (λ (z : Setting). Passes core b c (met_side core.table z l)) (left_kept a b target r k) q in
      let h' = subst (λ (z : Setting). Checks core c d (met_side core.table z r) o) (right_kept a c target next l (kept_then a b c k m) e) h in
      checks_then core a b d (one s ParLine) (met_side core.table (left_of s r) l ++ met_side core.table (right_of s l) r) o (par_passes a b s p) k
      (checks_then core b c d (met_side core.table (left_of s r) l) (met_side core.table (right_of s l) r) o q' m h')

  pub sides_blame_left : (e : LocFault) (a b : Walk) (target : Target) (l r : Side)
      → Passes core a b (one (in_scope a) ParLine) → Kept a b
      → Blames core b (met_side core.table (left_of (setting_of b target) r) l) e
      → Blames core a (met_bind core.table (setting_of a target) (Both false l r)) e
  sides_blame_left e a b target l r p k q =
      let s = setting_of a target in
      let q' = subst (λ (z : Setting). Blames core b (met_side core.table z l) e) (left_kept a b target r k) q in
      blames_back core e a b (one s ParLine) (met_side core.table (left_of s r) l ++ met_side core.table (right_of s l) r) (par_passes a b s p)
      (blames_front core e b (met_side core.table (left_of s r) l) (met_side core.table (right_of s l) r) q')

  pub sides_blame_par : (e : LocFault) (a : Walk) (target : Target) (l r : Side) → Blames core a (one (in_scope a) ParLine) e → Blames core a (met_bind core.table (setting_of a target) (Both false l r)) e
  sides_blame_par fault.Memory a target l r h = tt {0}
  sides_blame_par (fault.Rule n q) a target l r h = absurd cc

  -- One more branch.
  arms_step : (a b c : Walk) (target : Target) (f : ℕ → Term) (bs : List Branch) (whole : ℕ) (branch : Branch) (after : List Branch)
      → ArmsSoFar core a b target f bs (branch ∷ after) whole
      → Passes core b c (met core.table (in_arm core.table (setting_of b target) branch.constructor branch.variables.items) (f branch.term.0)) → Kept b c
      → ArmsSoFar core a c target f bs after whole
  arms_step a b c target f bs whole branch after so p k =
      let s = setting_of a target in
      let ms = met core.table (in_arm core.table s branch.constructor branch.variables.items) (f branch.term.0) in
      let p' = subst (λ (z : Setting). Passes core b c (met core.table (in_arm core.table z branch.constructor branch.variables.items) (f branch.term.0))) (setting-kept a b target so.kept) p in
      record {
        lines = so.lines ++ ms;
        all = so.all ∙ sym (append_assoc so.lines ms (met_branches core.table s (branches_from f after)));
        passes = passes_then core a b c so.lines ms so.passes p';
        kept = kept_then a b c so.kept k;
        below = so.below.1;
      }

  rest_of : (b : Branch) (left : List Branch) → take (length (b ∷ left) - 1) left ≡ left
  rest_of b left = ap (λ (n : ℕ). take n left) (omega arith) ∙ take-length left

  pub arms_next : (a b c : Walk) (target : Target) (f : ℕ → Term) (bs left : List Branch) (whole : ℕ) (branch : Branch) → 1 ≤ length left → branch ≡ get_or left 0 branch
      → ArmsSoFar core a b target f bs left whole
      → Passes core b c (met core.table (in_arm core.table (setting_of b target) branch.constructor branch.variables.items) (f branch.term.0)) → Kept b c
      → ArmsSoFar core a c target f bs (take (length left - 1) (drop 1 left)) whole
  arms_next a b c target f bs [] whole branch long at so p k = absurd (omega (arith, long))
  arms_next a b c target f bs (first ∷ left) whole branch long at so p k =
      subst (λ (z : List Branch). ArmsSoFar core a c target f bs z whole) (sym (rest_of first left))
      (arms_step a b c target f bs whole first left so
      (subst (λ (z : Branch). Passes core b c (met core.table (in_arm core.table (setting_of b target) z.constructor z.variables.items) (f z.term.0))) at p) k)

  pub arms_blame : (e : LocFault) (a b : Walk) (target : Target) (f : ℕ → Term) (bs left : List Branch) (whole : ℕ) (branch : Branch) → 1 ≤ length left → branch ≡ get_or left 0 branch
      → ArmsSoFar core a b target f bs left whole
      → Blames core b (met core.table (in_arm core.table (setting_of b target) branch.constructor branch.variables.items) (f branch.term.0)) e
      → Blames core a (met_branches core.table (setting_of a target) (branches_from f bs)) e
  arms_blame e a b target f bs [] whole branch long at so h = absurd (omega (arith, long))
  arms_blame e a b target f bs (first ∷ left) whole branch long at so h =
      let s = setting_of a target in
      let ms = met core.table (in_arm core.table s first.constructor first.variables.items) (f first.term.0) in
      let h1 = subst (λ (z : Branch). Blames core b (met core.table (in_arm core.table (setting_of b target) z.constructor z.variables.items) (f z.term.0)) e) at h in
      let h2 = subst (λ (z : Setting). Blames core b (met core.table (in_arm core.table z first.constructor first.variables.items) (f first.term.0)) e) (setting-kept a b target so.kept) h1 in
      let h3 = blames_front core e b ms (met_branches core.table s (branches_from f left)) h2 in
      subst (λ (z : List Met). Blames core a z e) (sym so.all) (blames_back core e a b so.lines (ms ++ met_branches core.table s (branches_from f left)) so.passes h3)
