-- The newest slot of a name.
use Rattle.std.proofs.Common.{◌≡◌, ℕ, ◌+◌, ◌<◌, List, [], ◌∷◌, ◌++◌, take, length, cond, sym, ap, ◌∙◌, get_or}
use Rattle.std.proofs.lemmas.List.{reverse-append, take_more}
use Rattle.std.proofs.lemmas.Bool.{eq-eqb, ne_eqb}
use Rattle.gib_types.specs.declared.table.Ty.{Ty}
use Rattle.gib_core.specs.declared.scope.Slot.{Slot}
use Rattle.gib_core.specs.declared.atom.Atom.{Atom}
use Rattle.gib_core.specs.Inferring.{atom_at, type_at}
use Rattle.gib_infer.specs.Made.{scope_of}

pub record FindsIn (slots : List Slot) (x : ℕ) (found : Atom) (of : Ty) : Type 0 where
  pub atom : found ≡ atom_at (scope_of slots) x
  pub ty : of ≡ type_at (scope_of slots) x

pub scope_of-push : (slots : List Slot) (s : Slot) → scope_of (slots ++ s ∷ []) ≡ s ∷ scope_of slots
scope_of-push slots s = reverse-append slots (s ∷ [])

finds_here : (slots : List Slot) (x : ℕ) (s : Slot) → s.name.0 ≡ x → FindsIn (slots ++ s ∷ []) x s.atom s.ty
finds_here slots x s e = record {
  atom = sym (ap (λ sc. atom_at sc x) (scope_of-push slots s) ∙ ap (λ b. cond b s.atom (atom_at (scope_of slots) x)) (eq-eqb s.name.0 x e));
  ty = sym (ap (λ sc. type_at sc x) (scope_of-push slots s) ∙ ap (λ b. cond b s.ty (type_at (scope_of slots) x)) (eq-eqb s.name.0 x e));
}

finds_past : (slots : List Slot) (x : ℕ) (s : Slot) (a : Atom) (t : Ty) → (s.name.0 ≡ x → ⊥) → FindsIn slots x a t → FindsIn (slots ++ s ∷ []) x a t
finds_past slots x s a t e h = record {
  atom = h.atom ∙ sym (ap (λ sc. atom_at sc x) (scope_of-push slots s) ∙ ap (λ b. cond b s.atom (atom_at (scope_of slots) x)) (ne_eqb s.name.0 x e));
  ty = h.ty ∙ sym (ap (λ sc. type_at sc x) (scope_of-push slots s) ∙ ap (λ b. cond b s.ty (type_at (scope_of slots) x)) (ne_eqb s.name.0 x e));
}

pub found_here : (slots : List Slot) (i x : ℕ) (d : Slot) → i < length slots → (get_or slots i d).name.0 ≡ x → FindsIn (take (i + 1) slots) x (get_or slots i d).atom (get_or slots i d).ty
found_here slots i x d lt e = rw (take_more slots i d lt) (finds_here (take i slots) x (get_or slots i d) e)

pub found_past : (slots : List Slot) (i x : ℕ) (d : Slot) (a : Atom) (t : Ty) → i < length slots → ((get_or slots i d).name.0 ≡ x → ⊥) → FindsIn (take i slots) x a t → FindsIn (take (i + 1) slots) x a t
found_past slots i x d a t lt e h = rw (take_more slots i d lt) (finds_past (take i slots) x (get_or slots i d) a t e h)
