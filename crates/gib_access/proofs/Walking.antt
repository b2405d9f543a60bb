-- What the walk's steps leave behind.
use Rattle.std.proofs.Common.{◌≡◌, Bool, true, false, ◌||◌, List, ◌++◌, refl, sym, ap, ◌∙◌, arith, append_assoc}
use Rattle.gib_types.specs.declared.table.ConId.{ConId}
use Rattle.gib_core.specs.declared.atom.Variable.{Variable}
use Rattle.gib_access.specs.declared.work.Work.{Work}
use Rattle.gib_access.specs.Used.{Seen, Marks, since}
use Rattle.gib_access.specs.Made.{Walked}
use Rattle.gib_core.proofs.Fronting.{grows_more}

or-turn : (a b c : Bool) → (a || b) || c ≡ a || (c || b)
or-turn true b c = refl
or-turn false true true = refl
or-turn false true false = refl
or-turn false false true = refl
or-turn false false false = refl

pub or-none : (a : Bool) → a ≡ a || false
or-none true = refl
or-none false = refl

pub marks_none : (s : Seen) → Marks s s (λ x. false)
marks_none s = record { clock = omega arith; since = λ start le x. or-none (since s start x) }

-- What is walked first stands last in the text.
pub marks_then : (a b c : Seen) (u v : Variable → Bool) → Marks a b u → Marks b c v → Marks a c (λ x. v x || u x)
marks_then a b c u v p q = record {
  clock = (let l = p.clock in let m = q.clock in omega arith);
  since = λ start le x. q.since start (let l = p.clock in omega arith) x ∙ ap (λ (k : Bool). k || v x) (p.since start le x) ∙ or-turn (since a start x) (u x) (v x);
}

pub walked_then : (a b c : Work) (u v : Variable → Bool) (xs ys : List ConId) → Walked a b u xs → Walked b c v ys → Walked a c (λ x. v x || u x) (ys ++ xs)
walked_then a b c u v xs ys p q = record {
  grows = grows_more a.terms b.terms c.terms p.grows q.grows;
  marks = marks_then a.stamps b.stamps c.stamps u v p.marks q.marks;
  offsets = q.offsets ∙ ap (λ z. ys ++ z) p.offsets ∙ sym (append_assoc ys xs a.offsets);
}
