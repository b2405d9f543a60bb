-- Some lines behind others.
use Rattle.std.proofs.Common.{◌≡◌, ℕ, ◌+◌, List, [], ◌∷◌, ◌++◌, Option, Some, None, refl, sym, ap, ◌∙◌, reverse, map, arith, length, length-append}
use Rattle.gib_core.specs.Tree.{CoreTree}
use Rattle.gib_core.specs.Met.{Met}
use Rattle.gib_core.specs.Rules.{Before, Broken, or_later, or_else, least, rules, next, next_all, broken_from}
use Rattle.gib_loccheck.specs.declared.state.Walk.{Walk}
use Rattle.gib_loccheck.specs.declared.target.Target.{Target}
use Rattle.gib_loccheck.specs.declared.fault.LocFault.{LocFault}
use Rattle.gib_loccheck.specs.declared.fault.LocFault.TheVariants as fault
use Rattle.gib_loccheck.specs.Views.{before_of, setting_of, call_of}
use Rattle.std.specs.Prelude.{Result, Ok, Err}
use Rattle.gib_loccheck.specs.Judging.{Passes, Blames, Kept, Checks, Stays}
use Rattle.gib_core.proofs.Along.{next_append}

or_later-else : (r : Option ℕ) (p : ℕ) (a b : Broken) → or_later r p (or_else a b) ≡ or_else (or_later r p a) b
or_later-else None p a b = refl
or_later-else (Some r) p a b = refl

pub kept_then : (a b c : Walk) → Kept a b → Kept b c → Kept a c
kept_then a b c p q = record { scope = q.scope ∙ p.scope; others = q.others ∙ p.others; calls = q.calls ∙ p.calls }

module _ (core : CoreTree) where
  pub broken-append : (p : ℕ) (b : Before) (xs ys : List Met)
      → broken_from core p b (xs ++ ys) ≡ or_else (broken_from core p b xs) (broken_from core (p + length xs) (next_all core.table b xs) ys)
  broken-append p b [] ys = ap (λ (q : ℕ). broken_from core q b ys) (omega arith)
  broken-append p b (x ∷ xs) ys =
      ap (or_later (least (rules core b x.with x.line)) p) (broken-append (p + 1) (next core.table b x.line) xs ys)
      ∙ or_later-else (least (rules core b x.with x.line)) p (broken_from core (p + 1) (next core.table b x.line) xs) (broken_from core (p + 1 + length xs) (next_all core.table (next core.table b x.line) xs) ys)
      ∙ ap (λ (q : ℕ). or_else (or_later (least (rules core b x.with x.line)) p (broken_from core (p + 1) (next core.table b x.line) xs)) (broken_from core q (next_all core.table (next core.table b x.line) xs) ys)) (omega arith)

  -- Behind lines that pass, the first broken one of what follows is the first broken one of all.
  later : (a b : Walk) (xs ys : List Met) → Passes core a b xs → broken_from core a.place (before_of a) (xs ++ ys) ≡ broken_from core b.place (before_of b) ys
  later a b xs ys p =
      broken-append a.place (before_of a) xs ys
      ∙ ap (λ o. or_else o (broken_from core (a.place + length xs) (next_all core.table (before_of a) xs) ys)) p.unbroken
      ∙ (λ i. broken_from core (sym p.place i) (sym p.before i) ys)

  pub passes_then : (a b c : Walk) (xs ys : List Met) → Passes core a b xs → Passes core b c ys → Passes core a c (xs ++ ys)
  passes_then a b c xs ys p q = record {
    unbroken = later a b xs ys p ∙ q.unbroken;
    before = q.before ∙ ap (λ z. next_all core.table z ys) p.before ∙ sym (next_append core.table (before_of a) xs ys);
    place = omega (arith, p.place, q.place, length-append xs ys);
  }

  pub blames_front : (e : LocFault) (a : Walk) (xs ys : List Met) → Blames core a xs e → Blames core a (xs ++ ys) e
  blames_front fault.Memory a xs ys h = tt {0}
  blames_front (fault.Rule r p) a xs ys h =
      broken-append a.place (before_of a) xs ys ∙ ap (λ o. or_else o (broken_from core (a.place + length xs) (next_all core.table (before_of a) xs) ys)) h

  pub blames_back : (e : LocFault) (a b : Walk) (xs ys : List Met) → Passes core a b xs → Blames core b ys e → Blames core a (xs ++ ys) e
  blames_back fault.Memory a b xs ys p h = tt {0}
  blames_back (fault.Rule r q) a b xs ys p h = later a b xs ys p ∙ h

  -- What the walk answers of lines behind others that pass.
  pub checks_then : (a b c : Walk) (xs ys : List Met) (r : Result (Unit {0}) LocFault) → Passes core a b xs → Kept a b → Checks core b c ys r → Checks core a c (xs ++ ys) r
  checks_then a b c xs ys (Ok x) p k h = (passes_then a b c xs ys p h.0, kept_then a b c k h.1)
  checks_then a b c xs ys (Err e) p k h = blames_back e a b xs ys p h

  pub passes_none : (a : Walk) → Passes core a a []
  passes_none a = record { unbroken = refl; before = refl; place = omega arith }

  pub stays_before : (a b : Walk) → Stays a b → before_of b ≡ before_of a
  stays_before a b s = (λ i. record { bound = reverse (s.bound i); cased = reverse (s.cased i) })

  -- What is in scope judges nothing by itself.
  pub stays_passes : (a b c d : Walk) (ms : List Met) → Stays a b → Passes core b c ms → Stays c d → Passes core a d ms
  stays_passes a b c d ms s p t = record {
    unbroken = (λ i. broken_from core (sym s.place i) (sym (stays_before a b s) i) ms) ∙ p.unbroken;
    before = stays_before c d t ∙ p.before ∙ ap (λ z. next_all core.table z ms) (stays_before a b s);
    place = omega (arith, p.place, s.place, t.place);
  }

  pub stays_blames : (e : LocFault) (a b : Walk) (ms : List Met) → Stays a b → Blames core b ms e → Blames core a ms e
  stays_blames fault.Memory a b ms s h = tt {0}
  stays_blames (fault.Rule r q) a b ms s h = (λ i. broken_from core (sym s.place i) (sym (stays_before a b s) i) ms) ∙ h

pub stays_same : (a : Walk) → Stays a a
stays_same a = record { bound = refl; cased = refl; place = refl }

pub setting-kept : (old new : Walk) (t : Target) → Kept old new → setting_of new t ≡ setting_of old t
setting-kept old new t k = (λ i. record { destination = (setting_of old t).destination; due = t.due; scope = reverse (k.scope i); others = reverse (k.others i); whole = t.whole; calls = reverse (map call_of (k.calls i)) })
