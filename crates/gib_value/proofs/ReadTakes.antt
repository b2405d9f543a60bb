-- What a token does.
use Rattle.std.proofs.Common.{◌≡◌, ℕ, ◌+◌, ◌≤◌, List, [], ◌∷◌, ◌++◌, length, map, Option, Some, None, MatchOption, refl, sym, ap, subst, ◌∙◌, arith, inl, inr}
use Rattle.std.specs.List.{AllByRecursion}
use Rattle.std.proofs.lemmas.List.{map-append}
use Rattle.gib_types.specs.declared.table.TyId.{TyId}
use Rattle.gib_types.specs.declared.table.Ty.{Ty}
use Rattle.gib_types.specs.declared.table.Ty.TheVariants as ty
use Rattle.gib_types.specs.Table.{Table}
use Rattle.gib_types.specs.Tree.{Datum, whole, truth, con, none}
use Rattle.gib_value.specs.declared.node.Node.{Node}
use Rattle.gib_value.specs.declared.node.Node.TheVariants as node
use Rattle.gib_value.specs.Due.{Due, Value, Name, Space}
use Rattle.gib_value.specs.Heap.{value_of, IsWithin}
use Rattle.gib_value.specs.Reading.{IsLeaf, Opens, HasFull, Steps, Refuses}
use Rattle.gib_value.proofs.HeapLemmas.{All-append}

pushed_values : (heap : List Datum) (done next : List Node) (n : Node) (v : Datum) → next ≡ done ++ n ∷ [] → value_of heap n ≡ v
    → map (value_of heap) next ≡ map (value_of heap) done ++ v ∷ []
pushed_values heap done next n v e f =
    ap (map (value_of heap)) e ∙ map-append (value_of heap) done (n ∷ []) ∙ ap (λ (u : Datum). map (value_of heap) done ++ u ∷ []) f

pushed_held : (heap : List Datum) (done next : List Node) (n : Node) → next ≡ done ++ n ∷ [] → AllByRecursion (IsWithin (length heap)) done → IsWithin (length heap) n
    → AllByRecursion (IsWithin (length heap)) next
pushed_held heap done next n e h k = subst (λ (l : List Node). AllByRecursion (IsWithin (length heap)) l) (sym e) (All-append (IsWithin (length heap)) done (n ∷ []) h (k, tt))

pub leaf_steps : (table : Table) (names : List (List ℕ)) (t : Ty) (token : List ℕ) (heap : List Datum) (done next : List Node) (n : Node) (wanted : List Due)
    → IsLeaf table names t token n → next ≡ done ++ n ∷ [] → AllByRecursion (IsWithin (length heap)) done → Steps table names (Value t) token heap heap done next wanted wanted
leaf_steps table names ty.Whole token heap done next n wanted (z, fits, is, e) grown held =
    let node_is : value_of heap n ≡ whole z = ap (value_of heap) e in
    record {
      more = [];
      can = record { z = z; fits = fits; is = is; after = refl };
      goes_on = refl;
      values = pushed_values heap done next n (whole z) grown node_is;
      held = pushed_held heap done next n grown held (subst (IsWithin (length heap)) (sym e) tt);
    }
leaf_steps table names ty.Truth token heap done next n wanted (b, is, e) grown held =
    let node_is : value_of heap n ≡ truth b = ap (value_of heap) e in
    record {
      more = [];
      can = record { b = b; is = is; after = refl };
      goes_on = refl;
      values = pushed_values heap done next n (truth b) grown node_is;
      held = pushed_held heap done next n grown held (subst (IsWithin (length heap)) (sym e) tt);
    }
leaf_steps table names (ty.Tree t) token heap done next n wanted (k, own, bare, is, e) grown held =
    let node_is : value_of heap n ≡ con k.0 none = ap (value_of heap) e in
    record {
      more = [];
      can = inl (record { con = k; own = own; bare = bare; is = is; after = refl });
      goes_on = refl;
      values = pushed_values heap done next n (con k.0 none) grown node_is;
      held = pushed_held heap done next n grown held (subst (IsWithin (length heap)) (sym e) (let le : 0 + 0 ≤ length heap = omega arith in le));
    }

pub opening_steps : (table : Table) (names : List (List ℕ)) (t : Ty) (token : List ℕ) (of : TyId) (heap : List Datum) (done : List Node) (wanted left : List Due)
    → Opens table t token of → left ≡ Name of ∷ wanted → AllByRecursion (IsWithin (length heap)) done → Steps table names (Value t) token heap heap done done wanted left
opening_steps table names ty.Whole token of heap done wanted left opens on held = absurd opens
opening_steps table names ty.Truth token of heap done wanted left opens on held = absurd opens
opening_steps table names (ty.Tree t) token of heap done wanted left (same, is, full) on held =
    let own : HasFull table t = subst (λ (u : TyId). HasFull table u) (sym same) full in
    record {
      more = Name of ∷ [];
      can = inr (record { con = own.con; own = own.own; some = own.some; is = is; after = ap (λ (u : TyId). Name u ∷ []) (sym same) });
      goes_on = on;
      values = refl;
      held = held;
    }

pub space_steps : (table : Table) (names : List (List ℕ)) (token : List ℕ) (heap : List Datum) (done : List Node) (wanted : List Due)
    → token ≡ 32 ∷ [] → AllByRecursion (IsWithin (length heap)) done → Steps table names Space token heap heap done done wanted wanted
space_steps table names token heap done wanted is held = record { more = []; can = (is, refl); goes_on = refl; values = refl; held = held }

pub value_refused : (table : Table) (names : List (List ℕ)) (t : Ty) (token : List ℕ) → ((n : Node) → IsLeaf table names t token n → ⊥) → ((of : TyId) → Opens table t token of → ⊥)
    → Refuses table names (Value t) token
value_refused table names ty.Whole token leaf opening more can = leaf (node.Whole can.z) (can.z, can.fits, can.is, refl)
value_refused table names ty.Truth token leaf opening more can = leaf (node.Truth can.b) (can.b, can.is, refl)
value_refused table names (ty.Tree t) token leaf opening more (inl b) = leaf (node.Con b.con 0 0) (b.con, b.own, b.bare, b.is, refl)
value_refused table names (ty.Tree t) token leaf opening more (inr o) = opening t (refl, o.is, record { con = o.con; own = o.own; some = o.some })

pub some_of : {A : Type 0} (o : Option A) (x : A) (P : Type 0) (Q : A → Type 0) → MatchOption o P Q → o ≡ Some x → Q x
some_of {A} o x P Q m e = let h : MatchOption (Some x) P Q = subst (λ (p : Option A). MatchOption p P Q) e m in h

pub none_of : {A : Type 0} (o : Option A) (P : Type 0) (Q : A → Type 0) → MatchOption o P Q → o ≡ None → P
none_of None P Q m e = m
none_of (Some x) P Q m e = absurd cc
