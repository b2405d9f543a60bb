-- Each step on the slot of an answer keeps its rule.
use Rattle.std.proofs.Common.{◌≡◌, ◌≢◌, ℕ, zero, suc, eqb, eq-eqb, ne_eqb, List, [], ◌∷◌, get_or, set, refl, sym, ap, ◌∙◌, subst, arith, ⊎_elim, length-set, get_or-set_same}
use Rattle.std.specs.Prelude.{Option, None}
use mathlib.Core.Logic.{dite}
use mathlib.Core.Option.{none, some, some-injective, some-ne-none}
use native.Mathlib.Decide.{ℕ_discrete}
use prog.Atomic.{either}
use lib.ListN.{get_elem?}
use lib.Seq.{set-get_or}
use Rattle.atomic_table.specs.Table.{Me, step, keeps, takes, gives, stepped, Allows, Enters, opening}
use Rattle.atomic_table.proofs.Lists.{at_set, at_snoc, set_here}
use Rattle.gib_frame.specs.declared.due.Due.{Due}
use Rattle.gib_frame.specs.declared.due.Given.{Given}
use Rattle.gib_frame.specs.Slot.{Fits, OneSlot, Took, Gave}

abbrev My : Type 0
My = Me (Option Given) Due

told_set : (due : Due) (views : List Due) (id : ℕ) (v : Due) → v ≡ due → ((j : ℕ) (u : Due) → get_elem? views j ≡ some u → u ≡ due) → (j : ℕ) (u : Due) → get_elem? (set views id v) j ≡ some u → u ≡ due
told_set due views id v is all j u e = ⊎_elim (λ (t : (j ≡ id) × (v ≡ u)). sym t.1 ∙ is) (λ (t : (j ≢ id) × (get_elem? views j ≡ some u)). all j u t.1) (at_set views id j v u e)

pub sits : (due : Due) (slots : ℕ) → Enters (OneSlot due) slots 0 (λ n w. w ≡ due)
sits due slots s r _ _ = (due, record { one_word = r.one_word; at_home = r.at_home; fits = r.fits; told = λ j v e. ⊎_elim (λ k. r.told j v k) (λ (t : due ≡ v). sym t) (at_snoc s.views due v j e) }, refl)

none_there : (hs : List (mathlib.Core.Option.Option (Option Given))) (x : Option Given) → get_elem? (set hs 0 none) 0 ≡ some (some x) → ⊥
none_there [] x e = some-ne-none (some x) (sym e)
none_there (h ∷ hs) x e = some-ne-none x (sym (some-injective none (some x) e))

pub takes_it : (due : Due) (slots id old : ℕ) (me : My) → me.1 ≡ [] → old ≢ 3 → Allows (OneSlot due) slots id me 0 (λ n. either (eqb n old) 3 n) (Took (step slots 0 old 3 none) me)
takes_it due slots id old me empty not3 s r _ at _ = let n : ℕ = get_or s.words 0 0 in let is : me.0 ≡ due = r.told id me.0 at in let w = r.one_word in dite (ℕ_discrete n old)
    (λ hit. let y = r.at_home (λ e. not3 (sym hit ∙ e)) in (
      me.0,
      takes 0 y.0,
      y.1,
      subst (λ b. OneSlot due (stepped s 0 (either b 3 n) id me.1 me.0 (takes 0 y.0))) (sym (eq-eqb n old hit)) record {
        one_word = length-set s.words 0 3 ∙ r.one_word;
        at_home = λ ne. absurd (ne (get_or-set_same s.words 0 3 0 (omega arith)));
        fits = λ x e. absurd (none_there s.homes x e);
        told = told_set due s.views id me.0 is r.told;
      },
      (refl, (λ _. (y.0, ap (λ l. (0, y.0) ∷ l) empty, subst (λ d. Fits d y.0) (sym is) (r.fits y.0 y.1))), λ ne. absurd (ne hit)),
    ))
    (λ miss. (
      me.0,
      keeps,
      tt,
      subst (λ b. OneSlot due (stepped s 0 (either b 3 n) id me.1 me.0 keeps)) (sym (ne_eqb n old miss))
          (subst (λ (ws : List ℕ). OneSlot due record { words = ws; homes = s.homes; views = set s.views id me.0 }) (sym (set-get_or s.words 0 0))
          record { one_word = r.one_word; at_home = r.at_home; fits = r.fits; told = told_set due s.views id me.0 is r.told }),
      (refl, (λ hit. absurd (miss hit)), λ _. refl),
    ))

pub gives_it : (due : Due) (slots id new : ℕ) (me : My) (x : Option Given) → me.1 ≡ (0, x) ∷ [] → Fits me.0 x → slots ≡ 1 → Allows (OneSlot due) slots id me 0 (λ _. new) (λ _. Gave (step slots 0 new 0 none) me new)
gives_it due slots id new me x held fit one s r wide at _ = let is : me.0 ≡ due = r.told id me.0 at in let w = r.one_word in let here : get_elem? (set s.homes 0 (some x)) 0 ≡ some (some x) = set_here s.homes 0 (some x) (omega arith) in (
  me.0,
  gives,
  tt,
  subst (λ (c : List (ℕ × Option Given)). OneSlot due (stepped s 0 new id c me.0 gives)) (sym held) record {
    one_word = length-set s.words 0 new ∙ r.one_word;
    at_home = λ _. (x, here);
    fits = λ y e. let same : x ≡ y = some-injective x y (some-injective (some x) (some y) (sym here ∙ e)) in subst (λ z. Fits due z) same (subst (λ d. Fits d x) is fit);
    told = told_set due s.views id me.0 is r.told;
  },
  (refl, ap Rattle.atomic_table.specs.Table.rest held),
)

first_told : (due : Due) (j : ℕ) (v : Due) → get_elem? (due ∷ []) j ≡ some v → v ≡ due
first_told due zero v e = sym (some-injective due v e)
first_told due (suc j) v e = absurd (some-ne-none v (sym e))

pub opens : (due : Due) → OneSlot due (opening (0 ∷ []) (None ∷ []) due)
opens due = record { one_word = refl; at_home = λ _. (None, refl); fits = λ x e. let same : None ≡ x = some-injective None x (some-injective (some None) (some x) e) in subst (λ z. Fits due z) same tt; told = first_told due }
