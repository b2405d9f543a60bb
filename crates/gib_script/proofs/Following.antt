-- One script behind another.
use Rattle.std.proofs.Common.{◌≡◌, ◌∙◌, refl, sym, ap, subst, ℕ, List, Bool, Result, Ok, Err, inl, inr}
use Rattle.gib_edge.specs.Views.{ShelfView}
use Rattle.gib_script.specs.Script.{Script, Return, Fail, Choose, Read, Write, Put, Halt, Failed, NoRead, NoWrite, NoPut, NoMemory, World, HaltsRead, HaltsWrite, Follows, and_then}

ok_apart : {E X : Type 0} (x : X) (e : Halt E) → Ok x ≡ Err e → ⊥
ok_apart x e h = cc

same_ok : {E X : Type 0} (x y : X) (r : Result X (Halt E)) → r ≡ Ok x → r ≡ Ok y → x ≡ y
same_ok x y r h k = let both = sym h ∙ k in cc

pub same_err : {E X : Type 0} (d e : Halt E) (r : Result X (Halt E)) → r ≡ Err d → r ≡ Err e → d ≡ e
same_err d e r h k = let both = sym h ∙ k in cc

no_read : {E X : Type 0} (before now : ShelfView) (name : List ℕ) (most : ℕ) (x : X) → HaltsRead {E = E} before now name most (Ok x) → ⊥
no_read before now name most x (inl h) = ok_apart x (NoRead name) h.0
no_read before now name most x (inr h) = ok_apart x NoMemory h.0

no_write : {E X : Type 0} (before now : ShelfView) (name : List ℕ) (x : X) → HaltsWrite {E = E} before now name (Ok x) → ⊥
no_write before now name x (inl h) = ok_apart x (NoWrite name) h.0
no_write before now name x (inr h) = ok_apart x NoMemory h.0

-- a halt is the same, whatever was to be returned
read_as : {E X Y : Type 0} (before now : ShelfView) (name : List ℕ) (most : ℕ) (e : Halt E) → HaltsRead {E = E} {X = X} before now name most (Err e) → HaltsRead {E = E} {X = Y} before now name most (Err e)
read_as before now name most e (inl h) = inl (ap Err (same_err e (NoRead name) (Err e) refl h.0), h.1)
read_as before now name most e (inr h) = inr (ap Err (same_err e NoMemory (Err e) refl h.0), h.1)

write_as : {E X Y : Type 0} (before now : ShelfView) (name : List ℕ) (e : Halt E) → HaltsWrite {E = E} {X = X} before now name (Err e) → HaltsWrite {E = E} {X = Y} before now name (Err e)
write_as before now name e (inl h) = inl (ap Err (same_err e (NoWrite name) (Err e) refl h.0), h.1)
write_as before now name e (inr h) = inr (ap Err (same_err e NoMemory (Err e) refl h.0), h.1)

module _ {E X Y : Type 0} (tells : Bool) where
  -- the first returned, and the second was followed from there
  pub on_return : (s : Script E X) (f : X → Script E Y) (w m v : World) (x : X) (r : Result Y (Halt E)) → Follows tells s w m (Ok x) → Follows tells (f x) m v r → Follows tells (and_then s f) w v r
  on_return (Return y) f w m v x r h g =
      let S : World → Type 0 = λ a. Follows tells (f x) a v r in
      let T : X → Type 0 = λ a. Follows tells (f a) w v r in
      subst T (same_ok x y (Ok x) refl h.1) (subst S h.0 g)
  on_return (Fail e) f w m v x r h g = absurd (ok_apart x (Failed e) h.1)
  on_return (Choose A P k) f w m v x r (inl h) g = absurd (ok_apart x NoMemory h.1)
  on_return (Choose A P k) f w m v x r (inr h) g = inr (h.0, h.1, on_return (k h.0) f w m v x r h.2 g)
  on_return (Read name most k) f w m v x r (inl h) g = absurd (no_read w.shelf m.shelf name most x h.1)
  on_return (Read name most k) f w m v x r (inr h) g = inr (h.0, h.1, h.2, on_return (k h.1) f (record { shelf = h.0; out = w.out }) m v x r h.3 g)
  on_return (Write name bytes k) f w m v x r (inl h) g = absurd (no_write w.shelf m.shelf name x h.1)
  on_return (Write name bytes k) f w m v x r (inr h) g = inr (h.0, h.1, on_return k f (record { shelf = h.0; out = w.out }) m v x r h.2 g)
  on_return (Put bytes k) f w m v x r (inl h) g = absurd (ok_apart x NoPut h.1)
  on_return (Put bytes k) f w m v x r (inr h) g = inr (h.0, h.1, on_return k f (record { shelf = w.shelf; out = h.0 }) m v x r h.2 g)

  -- the first halted, and so did both
  pub on_halt : (s : Script E X) (f : X → Script E Y) (w v : World) (e : Halt E) → Follows tells s w v (Err e) → Follows tells (and_then s f) w v (Err e)
  on_halt (Return y) f w v e h = absurd (ok_apart y e (sym h.1))
  on_halt (Fail d) f w v e h = (h.0, ap Err (same_err e (Failed d) (Err e) refl h.1))
  on_halt (Choose A P k) f w v e (inl h) = inl (h.0, ap Err (same_err e NoMemory (Err e) refl h.1))
  on_halt (Choose A P k) f w v e (inr h) = inr (h.0, h.1, on_halt (k h.0) f w v e h.2)
  on_halt (Read name most k) f w v e (inl h) = inl (h.0, read_as w.shelf v.shelf name most e h.1)
  on_halt (Read name most k) f w v e (inr h) = inr (h.0, h.1, h.2, on_halt (k h.1) f (record { shelf = h.0; out = w.out }) v e h.3)
  on_halt (Write name bytes k) f w v e (inl h) = inl (h.0, write_as w.shelf v.shelf name e h.1)
  on_halt (Write name bytes k) f w v e (inr h) = inr (h.0, h.1, on_halt k f (record { shelf = h.0; out = w.out }) v e h.2)
  on_halt (Put bytes k) f w v e (inl h) = inl (h.0, ap Err (same_err e NoPut (Err e) refl h.1), h.2)
  on_halt (Put bytes k) f w v e (inr h) = inr (h.0, h.1, on_halt k f (record { shelf = w.shelf; out = h.0 }) v e h.2)
