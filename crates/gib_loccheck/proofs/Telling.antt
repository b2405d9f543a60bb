-- The calls before in a line, and whether one of them tells an end.
use Rattle.std.proofs.Common.{◌≡◌, ℕ, ◌+◌, ◌<◌, false, ◌||◌, ◌==◌, List, [], ◌∷◌, ◌++◌, map, length, take, get_or, reverse, refl, sym, ap, ◌∙◌, arith}
use Rattle.std.proofs.Math.Seq.{take-length}
use Rattle.std.proofs.lemmas.List.{reverse-append, map-append, take_more}
use Rattle.std.proofs.lemmas.Bool.{eqb-true, false_from_ne_true}
use Rattle.gib_core.specs.declared.atom.Variable.{Variable}
use Rattle.gib_core.specs.declared.atom.Atom.{Atom}
use Rattle.gib_core.specs.Tree.{Side, One}
use Rattle.gib_core.specs.declared.atom.Ended.{Ended}
use Rattle.gib_core.specs.Ending.{call_ends}
use Rattle.gib_core.specs.Met.{Setting, behind, behind_side, calls_behind}
use Rattle.gib_core.specs.Rules.{one_tells, is_outside}
use Rattle.gib_loccheck.specs.declared.state.Walk.{Walk}
use Rattle.gib_loccheck.specs.declared.target.Target.{Target}
use Rattle.gib_loccheck.specs.declared.state.Told.{Told}
use Rattle.gib_loccheck.specs.Views.{call_of, calls_of, setting_of}
use Rattle.gib_loccheck.specs.Judging.{Kept, Binds, Tells}
use Rattle.gib_loccheck.proofs.Judges.{setting-kept}

-- The first so many calls, the newest first.
abbrev pub first_calls : List Told → ℕ → List (Rattle.gib_base.specs.declared.name.Name.Name × List Atom)
first_calls cs i = reverse (map call_of (take i cs))

take_last : (cs : List Told) (i : ℕ) (d : Told) → i < length cs → map call_of (take (i + 1) cs) ≡ map call_of (take i cs) ++ call_of (get_or cs i d) ∷ []
take_last cs i d lt = ap (map call_of) (take_more cs i d lt) ∙ map-append call_of (take i cs) (get_or cs i d ∷ [])

one_more : (cs : List Told) (i : ℕ) (d : Told) → i < length cs → first_calls cs (i + 1) ≡ call_of (get_or cs i d) ∷ first_calls cs i
one_more cs i d lt = ap reverse (take_last cs i d lt) ∙ reverse-append (map call_of (take i cs)) (call_of (get_or cs i d) ∷ [])

-- One more call, behind the others.
pub told_next : (es : List Ended) (cs : List Told) (i : ℕ) (d : Told) (z : Variable) → i < length cs
    → one_tells es (first_calls cs (i + 1)) z ≡ (call_ends es (get_or cs i d).name.0 0 (get_or cs i d).arguments.items z || one_tells es (first_calls cs i) z)
told_next es cs i d z lt = ap (λ ks. one_tells es ks z) (one_more cs i d lt)

pub told_all : (es : List Ended) (cs : List Told) (z : Variable) → one_tells es (reverse (map call_of cs)) z ≡ one_tells es (first_calls cs (length cs)) z
told_all es cs z = ap (λ ks. one_tells es (reverse (map call_of ks)) z) (sym (take-length cs))

pub told_none : (es : List Ended) (cs : List Told) (z : Variable) → one_tells es (first_calls cs 0) z ≡ false
told_none es cs z = refl

-- No variable is another side's.
more_behind : (xs : List Variable) (x : Variable) → is_outside (xs ++ x ∷ []) ≡ false
more_behind [] x = refl
more_behind (y ∷ ys) x = refl

pub outside_none : (xs : List Variable) → is_outside (reverse xs) ≡ (length xs == 0)
outside_none [] = refl
outside_none (x ∷ xs) = ap is_outside (reverse-append (x ∷ []) xs) ∙ more_behind (reverse xs) x ∙ sym (false_from_ne_true (length (x ∷ xs) == 0) (λ s. let q = eqb-true (length (x ∷ xs)) 0 s in omega (arith, q)))

-- A side, behind which its variables are in scope and its call stands before.
pub binds_side : (a b c d : Walk) (t target : Target) (side : Side) → Kept a b → Binds b c t (behind_side (setting_of b target) side) → Tells c d (calls_behind side (calls_of c))
    → Binds a d t (behind (setting_of a target) (One side))
binds_side a b c d t target side k h m = record {
  more = h.more;
  scope = m.scope ∙ h.scope ∙ ap (λ z. z ++ h.more) k.scope;
  others = m.others ∙ h.others ∙ k.others;
  setting = told ∙ ap (λ (s : Setting). record s { calls = calls_behind side s.calls }) (h.setting ∙ ap (λ (s : Setting). behind_side s side) (setting-kept a b target k));
}
  where
    told : setting_of d t ≡ record (setting_of c t) { calls = calls_behind side (calls_of c) }
    told = (λ i. record { destination = (setting_of c t).destination; due = t.due; scope = reverse (m.scope i); others = reverse (m.others i); whole = t.whole; calls = m.told i })
