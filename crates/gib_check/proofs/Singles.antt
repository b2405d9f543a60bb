-- The types of parts that are one thing each.
use Rattle.std.proofs.Common.{◌≡◌, ℕ, ◌-◌, ◌<◌, ◌≤◌, List, [], ◌∷◌, ◌++◌, take, drop, get_or, length, Ok, Err, refl, sym, ap, ◌∙◌, subst, arith, append_assoc}
use Rattle.std.proofs.lemmas.List.{append-nil}
use Rattle.gib_types.specs.declared.types.TypeId.{TypeId}
use Rattle.gib_types.specs.Form.{Form}
use Rattle.gib_types.specs.Types.{form_at, AreBelow}
use Rattle.gib_syntax.specs.Results.{One, Several}
use Rattle.gib_check.specs.declared.fault.Kind.TheVariants as kind
use Rattle.gib_check.specs.declared.rules.Part.{Part}
use Rattle.gib_check.specs.declared.rules.ResultIds.{ResultIds}
use Rattle.gib_check.specs.declared.rules.ResultIds.TheVariants as ids
use Rattle.gib_check.specs.Faults.{Checked, and_then, single_at, all_single}
use Rattle.gib_check.specs.Judging.{Judging, forms, listed, forms_given, AreMet, parts_in, ArePartsMet}
use Rattle.gib_check.proofs.RowLists.{rest-is}

-- Types put before those that follow.
abbrev before : List Form → Checked (List Form) → Checked (List Form)
before done r = and_then r (λ ts. Ok (done ++ ts))

before-none : (r : Checked (List Form)) → r ≡ before [] r
before-none (Ok ts) = refl
before-none (Err e) = refl

before-more : (done : List Form) (t : Form) (r : Checked (List Form)) → before done (and_then r (λ ts. Ok (t ∷ ts))) ≡ before (done ++ t ∷ []) r
before-more done t (Ok ts) = ap Ok (sym (append_assoc done (t ∷ []) ts))
before-more done t (Err e) = refl

-- Some of the parts were looked at.
pub record SinglesSoFar (s : Judging) (parts rest : List Part) (done : List TypeId) : Type 0 where
  pub read : all_single (parts_in s parts) ≡ before (listed (forms s) done) (all_single (parts_in s rest))
  pub met : ArePartsMet s rest
  pub below : AreBelow (length s.types) done

pub singles_start : (s : Judging) (parts : List Part) → ArePartsMet s parts → SinglesSoFar s parts parts []
singles_start s parts h = record { read = before-none (all_single (parts_in s parts)); met = h; below = tt }

pub listed_push : (fs : List Form) (done : List TypeId) (id : TypeId) → listed fs (done ++ id ∷ []) ≡ listed fs done ++ form_at fs id.0 ∷ []
listed_push fs [] id = refl
listed_push fs (i ∷ done) id = ap (λ l. form_at fs i.0 ∷ l) (listed_push fs done id)

pub below_push : (n : ℕ) (done : List TypeId) (id : TypeId) → AreBelow n done → id.0 < n → AreBelow n (done ++ id ∷ [])
below_push n [] id h l = (l, tt)
below_push n (i ∷ done) id h l = (h.0, below_push n done id h.1 l)

pub singles_next : (s : Judging) (parts rest : List Part) (d : Part) (done more : List TypeId) (id : TypeId) → 1 ≤ length rest → SinglesSoFar s parts rest done → (get_or rest 0 d).ty ≡ ids.One id → more ≡ done ++ id ∷ [] → SinglesSoFar s parts (take (length rest - 1) (drop 1 rest)) more
singles_next s parts [] d done more id l h e em = absurd (omega (arith, l))
singles_next s parts (part ∷ rest) d done more id l h e em =
    subst (λ z. SinglesSoFar s parts z more) (sym (rest-is part rest))
    (record {
      read = h.read
          ∙ ap (λ (r : ResultIds). before (listed (forms s) done) (and_then (single_at (forms_given s r) part.place) (λ t. and_then (all_single (parts_in s rest)) (λ ts. Ok (t ∷ ts))))) e
          ∙ before-more (listed (forms s) done) (form_at (forms s) id.0) (all_single (parts_in s rest))
          ∙ ap (λ z. before z (all_single (parts_in s rest))) (sym (ap (listed (forms s)) em ∙ listed_push (forms s) done id));
      met = h.met.1;
      below = subst (AreBelow (length s.types)) (sym em) (below_push (length s.types) done id h.below (subst (AreMet s) e h.met.0));
    })

pub singles_end : (s : Judging) (parts rest : List Part) (done : List TypeId) → length rest < 1 → SinglesSoFar s parts rest done → all_single (parts_in s parts) ≡ Ok (listed (forms s) done)
singles_end s parts [] done l h = h.read ∙ ap Ok (append-nil (listed (forms s) done))
singles_end s parts (part ∷ rest) done l h = absurd (omega (arith, l))

pub singles_fail : (s : Judging) (parts rest : List Part) (d : Part) (done : List TypeId) (start count : ℕ) → 1 ≤ length rest → SinglesSoFar s parts rest done → (get_or rest 0 d).ty ≡ ids.Several start count → all_single (parts_in s parts) ≡ Err (record { kind = kind.Shape; span = (get_or rest 0 d).place })
singles_fail s parts [] d done start count l h e = absurd (omega (arith, l))
singles_fail s parts (part ∷ rest) d done start count l h e =
    h.read ∙ ap (λ (r : ResultIds). before (listed (forms s) done) (and_then (single_at (forms_given s r) part.place) (λ t. and_then (all_single (parts_in s rest)) (λ ts. Ok (t ∷ ts))))) e
