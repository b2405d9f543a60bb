-- What a script calls, and what it leaves, by its shape.
use Rattle.std.proofs.Common.{◌≡◌, ◌∙◌, refl, sym, ap, subst, ℕ, zero, suc, List, [], ◌∷◌, ◌++◌, take, Option, Some, None, IfSome, Bool, Result, Ok, Err, inl, inr, append_assoc}
use Rattle.std.proofs.lemmas.List.{append-nil}
use Rattle.gib_edge.specs.Causes.{Appends, AppendsPart}
use Rattle.gib_edge.specs.Views.{Call, ReadOf, WriteOf, ShelfView}
use Rattle.gib_script.specs.Script.{Script, Return, Fail, Choose, Read, Write, Put, Halt, NoPut, World, Follows}
use Rattle.gib_script.specs.Shapes.{Calls, OnlyReads, IsOver, PutsLast, KeepsFiles}

-- ---- Calls

none_called : (a : Option (List Call)) (calls : List Call) → AppendsPart a a calls
none_called None calls = tt {0}
none_called (Some l) calls = (0, ap Some (sym (append-nil l)))

front_of_one : (n : ℕ) (call : Call) (rest : List Call) → (m : ℕ) × (take n (call ∷ []) ≡ take m (call ∷ rest))
front_of_one zero call rest = (0, refl)
front_of_one (suc zero) call rest = (1, refl)
front_of_one (suc (suc n)) call rest = (1, refl)

last_called : (a b : Option (List Call)) (call : Call) (rest : List Call) → AppendsPart a b (call ∷ []) → AppendsPart a b (call ∷ rest)
last_called None b call rest h = tt {0}
last_called (Some l) b call rest h = let m = front_of_one h.0 call rest in (m.0, h.1 ∙ ap (λ ys. Some (l ++ ys)) m.1)

first_called : (a b c : Option (List Call)) (call : Call) (rest : List Call) → Appends a b (call ∷ []) → AppendsPart b c rest → AppendsPart a c (call ∷ rest)
first_called None b c call rest h k = tt {0}
first_called (Some l) b c call rest h k =
    let P : Option (List Call) → Type 0 = λ o. IfSome o (λ before. (n : ℕ) × (c ≡ Some (before ++ take n rest))) in
    let q = subst P h k in
    (suc q.0, q.1 ∙ ap Some (append_assoc l (call ∷ []) (take q.0 rest)))

same_files : (w v : World) → v.shelf ≡ w.shelf → KeepsFiles w v
same_files w v e = record { same = λ name. ap (λ (a : ShelfView). a.kept name) e; writes = λ name. ap (λ (a : ShelfView). a.writes name) e }

module _ {E X : Type 0} where
  pub called : (tells : Bool) (s : Script E X) (calls : List Call) (w v : World) (r : Result X (Halt E)) → Calls s calls → Follows tells s w v r → AppendsPart w.shelf.calls v.shelf.calls calls
  called tells (Return x) calls w v r c h = let P : World → Type 0 = λ a. AppendsPart w.shelf.calls a.shelf.calls calls in subst P (sym h.0) (none_called w.shelf.calls calls)
  called tells (Fail e) calls w v r c h = let P : World → Type 0 = λ a. AppendsPart w.shelf.calls a.shelf.calls calls in subst P (sym h.0) (none_called w.shelf.calls calls)
  called tells (Choose A P k) calls w v r c (inl h) = let Q : World → Type 0 = λ a. AppendsPart w.shelf.calls a.shelf.calls calls in subst Q (sym h.0) (none_called w.shelf.calls calls)
  called tells (Choose A P k) calls w v r c (inr h) = called tells (k h.0) calls w v r (c h.0 h.1) h.2
  called tells (Read name most k) calls w v r c (inl (out, inl h)) =
      let P : List Call → Type 0 = AppendsPart w.shelf.calls v.shelf.calls in subst P (sym c.1) (last_called w.shelf.calls v.shelf.calls (ReadOf name most) c.0 h.1.once)
  called tells (Read name most k) calls w v r c (inl (out, inr h)) =
      let P : List Call → Type 0 = AppendsPart w.shelf.calls v.shelf.calls in subst P (sym c.1) (last_called w.shelf.calls v.shelf.calls (ReadOf name most) c.0 h.1.once)
  called tells (Read name most k) calls w v r c (inr h) =
      let P : List Call → Type 0 = AppendsPart w.shelf.calls v.shelf.calls in
      subst P (sym c.1) (first_called w.shelf.calls h.0.calls v.shelf.calls (ReadOf name most) c.0 h.2.called (called tells (k h.1) c.0 (record { shelf = h.0; out = w.out }) v r (c.2 h.1) h.3))
  called tells (Write name bytes k) calls w v r c (inl (out, inl h)) =
      let P : List Call → Type 0 = AppendsPart w.shelf.calls v.shelf.calls in subst P (sym c.1) (last_called w.shelf.calls v.shelf.calls (WriteOf name) c.0 h.1.once)
  called tells (Write name bytes k) calls w v r c (inl (out, inr h)) =
      let P : List Call → Type 0 = AppendsPart w.shelf.calls v.shelf.calls in subst P (sym c.1) (last_called w.shelf.calls v.shelf.calls (WriteOf name) c.0 h.1.once)
  called tells (Write name bytes k) calls w v r c (inr h) =
      let P : List Call → Type 0 = AppendsPart w.shelf.calls v.shelf.calls in
      subst P (sym c.1) (first_called w.shelf.calls h.0.calls v.shelf.calls (WriteOf name) c.0 h.1.called (called tells k c.0 (record { shelf = h.0; out = w.out }) v r c.2 h.2))
  called tells (Put bytes k) calls w v r c (inl h) = let Q : ShelfView → Type 0 = λ a. AppendsPart w.shelf.calls a.calls calls in subst Q (sym h.0) (none_called w.shelf.calls calls)
  called tells (Put bytes k) calls w v r c (inr h) = called tells k calls (record { shelf = w.shelf; out = h.0 }) v r c h.2

  -- ---- Files

  pub keeps_files : (tells : Bool) (s : Script E X) (w v : World) (r : Result X (Halt E)) → OnlyReads s → Follows tells s w v r → KeepsFiles w v
  keeps_files tells (Return x) w v r c h = same_files w v (ap (λ (a : World). a.shelf) h.0)
  keeps_files tells (Fail e) w v r c h = same_files w v (ap (λ (a : World). a.shelf) h.0)
  keeps_files tells (Choose A P k) w v r c (inl h) = same_files w v (ap (λ (a : World). a.shelf) h.0)
  keeps_files tells (Choose A P k) w v r c (inr h) = keeps_files tells (k h.0) w v r (c h.0 h.1) h.2
  keeps_files tells (Read name most k) w v r c (inl (out, inl h)) = record { same = h.1.same; writes = h.1.writes }
  keeps_files tells (Read name most k) w v r c (inl (out, inr h)) = record { same = h.1.same; writes = h.1.writes }
  keeps_files tells (Read name most k) w v r c (inr h) =
      let u = keeps_files tells (k h.1) (record { shelf = h.0; out = w.out }) v r (c h.1) h.3 in
      record { same = λ other. u.same other ∙ h.2.same other; writes = λ other. u.writes other ∙ h.2.writes other }
  keeps_files tells (Write name bytes k) w v r c h = absurd c
  keeps_files tells (Put bytes k) w v r c (inl h) = same_files w v h.0
  keeps_files tells (Put bytes k) w v r c (inr h) = let u = keeps_files tells k (record { shelf = w.shelf; out = h.0 }) v r c h.2 in record { same = u.same; writes = u.writes }

  -- ---- The sink

  over_returns : (tells : Bool) (s : Script E X) (w v : World) (r : Result X (Halt E)) → IsOver s → Follows tells s w v r → (x : X) × (r ≡ Ok x)
  over_returns tells (Return x) w v r o h = (x, h.1)
  over_returns tells (Fail e) w v r o h = absurd o
  over_returns tells (Choose A P k) w v r o h = absurd o
  over_returns tells (Read name most k) w v r o h = absurd o
  over_returns tells (Write name bytes k) w v r o h = absurd o
  over_returns tells (Put bytes k) w v r o h = absurd o

  -- a script that puts last puts nothing where it neither returns nor fails to put
  pub nothing_put : (tells : Bool) (s : Script E X) (w v : World) (r : Result X (Halt E)) → PutsLast s → Follows tells s w v r → ((x : X) → r ≡ Ok x → ⊥) → (r ≡ Err NoPut → ⊥) → v.out ≡ w.out
  nothing_put tells (Return x) w v r p h a b = ap (λ (z : World). z.out) h.0
  nothing_put tells (Fail e) w v r p h a b = ap (λ (z : World). z.out) h.0
  nothing_put tells (Choose A P k) w v r p (inl h) a b = ap (λ (z : World). z.out) h.0
  nothing_put tells (Choose A P k) w v r p (inr h) a b = nothing_put tells (k h.0) w v r (p h.0 h.1) h.2 a b
  nothing_put tells (Read name most k) w v r p (inl h) a b = h.0
  nothing_put tells (Read name most k) w v r p (inr h) a b = nothing_put tells (k h.1) (record { shelf = h.0; out = w.out }) v r (p h.1) h.3 a b
  nothing_put tells (Write name bytes k) w v r p (inl h) a b = h.0
  nothing_put tells (Write name bytes k) w v r p (inr h) a b = nothing_put tells k (record { shelf = h.0; out = w.out }) v r p h.2 a b
  nothing_put tells (Put bytes k) w v r p (inl h) a b = absurd (b h.1)
  nothing_put tells (Put bytes k) w v r p (inr h) a b = let o = over_returns tells k (record { shelf = w.shelf; out = h.0 }) v r p h.2 in absurd (a o.0 o.1)
