-- Sides: what is in scope in their terms and behind them, and what is another side's.
use Rattle.std.proofs.Common.{◌≡◌, ℕ, ◌+◌, ◌<◌, List, [], ◌∷◌, ◌++◌, map, length, take, get_or, reverse, false, refl, sym, ap, ◌∙◌, subst}
use Rattle.std.proofs.Math.Seq.{take-length, take-append_seam}
use Rattle.std.proofs.lemmas.List.{reverse-append, reverse-reverse, take_more}
use Rattle.std.specs.Prelude.{Result, Ok, Err}
use Rattle.gib_core.specs.declared.atom.Variable.{Variable}
use Rattle.gib_core.specs.declared.node.BoundSide.{BoundSide}
use Rattle.gib_core.specs.declared.node.BoundSide.TheVariants as b
use Rattle.gib_core.specs.Tree.{CoreTree, Term, Side, variables_of}
use Rattle.gib_core.specs.Arena.{term_in, side_from}
use Rattle.gib_core.specs.Met.{Setting, Met, met, met_side, left_of, behind_side, stands_behind}
use Rattle.gib_loccheck.specs.declared.state.Walk.{Walk}
use Rattle.gib_loccheck.specs.declared.target.Target.{Target}
use Rattle.gib_loccheck.specs.declared.fault.LocFault.{LocFault}
use Rattle.gib_loccheck.specs.Views.{setting_of, at_line, destination_of, call_of}
use Rattle.gib_loccheck.specs.Judging.{one, Passes, Blames, Kept, Checks, Binds, Stays, EntersAll, HasOthers, side_line, inside}
use Rattle.gib_loccheck.proofs.Judges.{checks_then, blames_front, stays_passes, stays_blames}

-- Variables from the last to the first.
pub reversed_next : (xs : List Variable) (i : ℕ) (d : Variable) → i < length xs → reverse (take (i + 1) xs) ≡ get_or xs i d ∷ reverse (take i xs)
reversed_next xs i d lt = ap reverse (take_more xs i d lt) ∙ reverse-append (take i xs) (get_or xs i d ∷ [])

pub reversed_all : (xs : List Variable) → reverse xs ≡ reverse (take (length xs) xs)
reversed_all xs = ap reverse (sym (take-length xs))

pub reversed_none : (xs : List Variable) → reverse (take 0 xs) ≡ []
reversed_none xs = refl

-- What stands behind a side, whose variables are in scope.
pub enters_side : (a b : Walk) (target next : Target) (side : Side) → EntersAll a b (variables_of side) → destination_of next.destination ≡ stands_behind side (destination_of target.destination)
    → next.due ≡ target.due → next.whole ≡ false → Binds a b next (behind_side (setting_of a target) side)
enters_side a b target next side h d due whole = record {
  more = h.scope.more;
  scope = h.scope.is;
  others = h.others;
  setting = (λ i. record { destination = d i; due = due i; scope = h.variables i; others = reverse (h.others i); whole = whole i; calls = reverse (map call_of (h.calls i)) });
}

-- Beside another side, its variables are that one's.
others_met : (a b : Walk) (target : Target) (other : Side) → HasOthers a b (variables_of other) → setting_of b target ≡ left_of (setting_of a target) other
others_met a b target other h =
    let xs = variables_of other in
    let others : reverse b.others.items ≡ xs ++ reverse a.others.items =
    ap reverse h.others ∙ reverse-append a.others.items (reverse xs) ∙ ap (λ (zs : List Variable). zs ++ reverse a.others.items) (reverse-reverse xs) in
    (λ i. record { destination = (setting_of a target).destination; due = target.due; scope = reverse (h.scope i); others = others i; whole = target.whole; calls = reverse (map call_of (h.calls i)) })

module _ (core : CoreTree) where
  line_first : (s : Setting) (f : ℕ → Term) (side : BoundSide)
      → met_side core.table s (side_from f side) ≡ one s (side_line (side_from f side)) ++ met core.table (inside core.table s (side_from f side)) (f (term_in side).0)
  line_first s f (b.One x) = refl
  line_first s f (b.Several x) = refl

  -- The line of a side, and those of its term.
  pub side_checks : (u v w : Walk) (t : Target) (s : Setting) (f : ℕ → Term) (side : BoundSide) (r : Result (Unit {0}) LocFault)
      → Passes core u v (one s (side_line (side_from f side))) → Kept u v → at_line (setting_of v t) ≡ inside core.table s (side_from f side)
      → Checks core v w (met core.table (at_line (setting_of v t)) (f (term_in side).0)) r → Checks core u w (met_side core.table s (side_from f side)) r
  side_checks u v w t s f side r p k e h =
      let term = f (term_in side).0 in
      let within = inside core.table s (side_from f side) in
      let h' = subst (λ (z : Setting). Checks core v w (met core.table z term) r) e h in
      subst (λ (ms : List Met). Checks core u w ms r) (sym (line_first s f side)) (checks_then core u v w (one s (side_line (side_from f side))) (met core.table within term) r p k h')

  pub side_blames : (e : LocFault) (u : Walk) (s : Setting) (f : ℕ → Term) (side : BoundSide) → Blames core u (one s (side_line (side_from f side))) e → Blames core u (met_side core.table s (side_from f side)) e
  side_blames e u s f side h =
      subst (λ (ms : List Met). Blames core u ms e) (sym (line_first s f side))
      (blames_front core e u (one s (side_line (side_from f side))) (met core.table (inside core.table s (side_from f side)) (f (term_in side).0)) h)

  -- A side beside another one, whose variables leave again.
  pub beside_passes : (u v w x : Walk) (target : Target) (other side : Side) → HasOthers u v (variables_of other)
      → Passes core v w (met_side core.table (setting_of v target) side) → Stays w x → Passes core u x (met_side core.table (left_of (setting_of u target) other) side)
  beside_passes u v w x target other side h p stays =
      let p' = subst (λ (z : Setting). Passes core v w (met_side core.table z side)) (others_met u v target other h) p in
      stays_passes core u v w x (met_side core.table (left_of (setting_of u target) other) side) h.stays p' stays

  pub beside_blames : (e : LocFault) (u v : Walk) (target : Target) (other side : Side) → HasOthers u v (variables_of other)
      → Blames core v (met_side core.table (setting_of v target) side) e → Blames core u (met_side core.table (left_of (setting_of u target) other) side) e
  beside_blames e u v target other side h q =
      let q' = subst (λ (z : Setting). Blames core v (met_side core.table z side) e) (others_met u v target other h) q in
      stays_blames core e u v (met_side core.table (left_of (setting_of u target) other) side) h.stays q'

pub beside_kept : (u v w x : Walk) (xs : List Variable) (n : ℕ) → HasOthers u v xs → Kept v w → n ≡ length u.others.items
    → x.others.items ≡ take n w.others.items → x.scope.items ≡ w.scope.items → x.calls.items ≡ w.calls.items → Kept u x
beside_kept u v w x xs n h k len others scope calls = record {
  scope = scope ∙ k.scope ∙ h.scope;
  others = others ∙ (λ i. take (len i) (k.others i)) ∙ ap (λ (zs : List Variable). take (length u.others.items) zs) h.others ∙ take-append_seam u.others.items (reverse xs);
  calls = calls ∙ k.calls ∙ h.calls;
}
