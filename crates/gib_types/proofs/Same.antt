-- Nodes that are equal are the same type, and types that are the same are of one node.
use Rattle.std.proofs.Common.{◌≡◌, ℕ, zero, suc, ◌+◌, ◌<◌, ◌≤◌, ◌==◌, ◌&&◌, ◌||◌, Bool, true, false, cond, List, [], ◌∷◌, ◌++◌, length, nat_lt, Option, Some, None, slice_get, refl, sym, ap, ◌∙◌, arith, true≢false, get_or, position}
use Rattle.std.specs.Cmp.Lexicographic.{pointwise}
use Rattle.std.specs.List.{list_any, position_or_len}
use Rattle.std.proofs.lemmas.Bool.{eqb-true, eq-eqb}
use Rattle.std.proofs.lemmas.List.Quantifiers.{position-Some}
use Rattle.std.proofs.lemmas.Option.{slice_get-get_or}
use borrow.Author.Tests.{lt-ltb}
use Rattle.indexmap.specs.IndexSet.{insert_key}
use Rattle.gib_types.specs.declared.types.TypeId.{TypeId}
use Rattle.gib_types.specs.declared.types.TypeNode.{TypeNode}
use Rattle.gib_types.specs.declared.types.TypeNode.TheVariants as t
use Rattle.gib_types.specs.Types.{form_at, forms_at, form_from, AreBelow, ArgumentsBelow, forms_of, AreOnce, IsNew, AreTypes}
use Rattle.gib_types.specs.Form.{Form, Forms, WholeForm, TruthForm, VariableForm, DataForm, NoForm, MoreForms}

abbrev pub node_eq : TypeNode → TypeNode → Bool
node_eq = (Rattle.gib_types.specs.contracts.types.TypeNodePartialEq.TheImpl.eq-value).it

abbrev pub ids_eq : List TypeId → List TypeId → Bool
ids_eq xs ys = pointwise (λ (a b : TypeId). a.0 == b.0) xs ys

left_of : (a b : Bool) → (a && b) ≡ true → a ≡ true
left_of true b e = refl
left_of false b e = e

right_of : (a b : Bool) → (a && b) ≡ true → b ≡ true
right_of true b e = e
right_of false b e = absurd (true≢false (sym e))

-- equal nodes are the same type

pub same_ids_forms : (fs : List Form) (xs ys : List TypeId) → ids_eq xs ys ≡ true → forms_at fs xs ≡ forms_at fs ys
same_ids_forms fs [] [] e = refl
same_ids_forms fs [] (y ∷ ys) e = absurd (true≢false (sym e))
same_ids_forms fs (x ∷ xs) [] e = absurd (true≢false (sym e))
same_ids_forms fs (x ∷ xs) (y ∷ ys) e =
    ap (λ i. MoreForms (form_at fs i) (forms_at fs xs)) (eqb-true x.0 y.0 (left_of (x.0 == y.0) (ids_eq xs ys) e)) ∙ ap (MoreForms (form_at fs y.0)) (same_ids_forms fs xs ys (right_of (x.0 == y.0) (ids_eq xs ys) e))

pub same_node : (fs : List Form) (a b : TypeNode) → node_eq a b ≡ true → form_from fs a ≡ form_from fs b
same_node fs t.Whole t.Whole e = refl
same_node fs t.Whole t.Truth e = absurd (true≢false (sym e))
same_node fs t.Whole (t.Variable y) e = absurd (true≢false (sym e))
same_node fs t.Whole (t.Data y ys) e = absurd (true≢false (sym e))
same_node fs t.Truth t.Whole e = absurd (true≢false (sym e))
same_node fs t.Truth t.Truth e = refl
same_node fs t.Truth (t.Variable y) e = absurd (true≢false (sym e))
same_node fs t.Truth (t.Data y ys) e = absurd (true≢false (sym e))
same_node fs (t.Variable x) t.Whole e = absurd (true≢false (sym e))
same_node fs (t.Variable x) t.Truth e = absurd (true≢false (sym e))
same_node fs (t.Variable x) (t.Variable y) e = ap VariableForm (eqb-true x y e)
same_node fs (t.Variable x) (t.Data y ys) e = absurd (true≢false (sym e))
same_node fs (t.Data x xs) t.Whole e = absurd (true≢false (sym e))
same_node fs (t.Data x xs) t.Truth e = absurd (true≢false (sym e))
same_node fs (t.Data x xs) (t.Variable y) e = absurd (true≢false (sym e))
same_node fs (t.Data x xs) (t.Data y ys) e =
    ap (λ n. DataForm n (forms_at fs xs.items)) (eqb-true x y (left_of (x == y) (ids_eq xs.items ys.items) e)) ∙ ap (DataForm y) (same_ids_forms fs xs.items ys.items (right_of (x == y) (ids_eq xs.items ys.items) e))

-- the same type is of one node

get_at : (fs : List Form) (i : ℕ) → i < length fs → slice_get fs i ≡ Some (form_at fs i)
get_at [] i l = absurd (omega (arith, l))
get_at (f ∷ fs) zero l = refl
get_at (f ∷ fs) (suc i) l = get_at fs i (omega (arith, l))

same_number : (fs : List Form) (i j : ℕ) → AreOnce fs → i < length fs → j < length fs → form_at fs i ≡ form_at fs j → i ≡ j
same_number fs i j a l m e = a.once i j (form_at fs i) (get_at fs i l) (get_at fs j m ∙ ap Some (sym e))

abbrev first_form : Forms → Form
first_form NoForm = WholeForm
first_form (MoreForms f fs) = f

abbrev other_forms : Forms → Forms
other_forms NoForm = NoForm
other_forms (MoreForms f fs) = fs

abbrev has_form : Forms → Bool
has_form NoForm = false
has_form (MoreForms f fs) = true

both_true : (a b : Bool) → a ≡ true → b ≡ true → (a && b) ≡ true
both_true a b e f = rw (e, f) refl

pub one_ids : (fs : List Form) (b : ℕ) (xs ys : List TypeId) → AreOnce fs → b ≤ length fs → AreBelow b xs → AreBelow b ys → forms_at fs xs ≡ forms_at fs ys → ids_eq xs ys ≡ true
one_ids fs b [] [] a l p q e = refl
one_ids fs b [] (y ∷ ys) a l p q e = absurd (true≢false (sym (ap has_form e)))
one_ids fs b (x ∷ xs) [] a l p q e = absurd (true≢false (ap has_form e))
one_ids fs b (x ∷ xs) (y ∷ ys) a l p q e =
    both_true (x.0 == y.0) (ids_eq xs ys)
    (eq-eqb x.0 y.0 (same_number fs x.0 y.0 a (let k = p.0 in omega (arith, k, l)) (let k = q.0 in omega (arith, k, l)) (ap first_form e)))
    (one_ids fs b xs ys a l p.1 q.1 (ap other_forms e))

abbrev name_in : Form → ℕ
name_in WholeForm = 0
name_in TruthForm = 0
name_in (VariableForm x) = x
name_in (DataForm x fs) = x

abbrev forms_in : Form → Forms
forms_in WholeForm = NoForm
forms_in TruthForm = NoForm
forms_in (VariableForm x) = NoForm
forms_in (DataForm x fs) = fs

abbrev kind_in : Form → ℕ
kind_in WholeForm = 0
kind_in TruthForm = 1
kind_in (VariableForm x) = 2
kind_in (DataForm x fs) = 3

pub one_node : (fs : List Form) (b : ℕ) (m n : TypeNode) → AreOnce fs → b ≤ length fs → ArgumentsBelow b m → ArgumentsBelow b n → form_from fs m ≡ form_from fs n → node_eq m n ≡ true
one_node fs b t.Whole t.Whole a l p q e = refl
one_node fs b t.Whole t.Truth a l p q e = let k = ap kind_in e in absurd (omega (arith, k))
one_node fs b t.Whole (t.Variable y) a l p q e = let k = ap kind_in e in absurd (omega (arith, k))
one_node fs b t.Whole (t.Data y ys) a l p q e = let k = ap kind_in e in absurd (omega (arith, k))
one_node fs b t.Truth t.Whole a l p q e = let k = ap kind_in e in absurd (omega (arith, k))
one_node fs b t.Truth t.Truth a l p q e = refl
one_node fs b t.Truth (t.Variable y) a l p q e = let k = ap kind_in e in absurd (omega (arith, k))
one_node fs b t.Truth (t.Data y ys) a l p q e = let k = ap kind_in e in absurd (omega (arith, k))
one_node fs b (t.Variable x) t.Whole a l p q e = let k = ap kind_in e in absurd (omega (arith, k))
one_node fs b (t.Variable x) t.Truth a l p q e = let k = ap kind_in e in absurd (omega (arith, k))
one_node fs b (t.Variable x) (t.Variable y) a l p q e = eq-eqb x y (ap name_in e)
one_node fs b (t.Variable x) (t.Data y ys) a l p q e = let k = ap kind_in e in absurd (omega (arith, k))
one_node fs b (t.Data x xs) t.Whole a l p q e = let k = ap kind_in e in absurd (omega (arith, k))
one_node fs b (t.Data x xs) t.Truth a l p q e = let k = ap kind_in e in absurd (omega (arith, k))
one_node fs b (t.Data x xs) (t.Variable y) a l p q e = let k = ap kind_in e in absurd (omega (arith, k))
one_node fs b (t.Data x xs) (t.Data y ys) a l p q e =
    both_true (x == y) (ids_eq xs.items ys.items) (eq-eqb x y (ap name_in e)) (one_ids fs b xs.items ys.items a l p q (ap forms_in e))

-- what a look-up of a node says of its type

record Equal (ns : List TypeNode) (n : TypeNode) : Type 0 where
  place : ℕ
  node : TypeNode
  there : slice_get ns place ≡ Some node
  equal : node_eq n node ≡ true

equal_after : (m : TypeNode) (ns : List TypeNode) (n : TypeNode) → Equal ns n → Equal (m ∷ ns) n
equal_after m ns n e = record { place = suc e.place; node = e.node; there = e.there; equal = e.equal }

equal_at : (m : TypeNode) (ns : List TypeNode) (n : TypeNode) (b : Bool) → node_eq n m ≡ b → (b || list_any (node_eq n) ns) ≡ true → (list_any (node_eq n) ns ≡ true → Equal ns n) → Equal (m ∷ ns) n
equal_at m ns n true f e go = record { place = 0; node = m; there = refl; equal = f }
equal_at m ns n false f e go = equal_after m ns n (go e)

any_equal : (ns : List TypeNode) (n : TypeNode) → list_any (node_eq n) ns ≡ true → Equal ns n
any_equal [] n e = absurd (true≢false (sym e))
any_equal (m ∷ ns) n e = equal_at m ns n (node_eq n m) refl e (any_equal ns n)

new_absent : (ns : List TypeNode) (counts : List ℕ) (n : TypeNode) → AreTypes ns counts → IsNew (forms_of ns) (form_from (forms_of ns) n) → Equal ns n → ⊥
new_absent ns counts n a new q = new.absent q.place (a.forms q.place q.node q.there ∙ ap Some (sym (same_node (forms_of ns) n q.node q.equal)))

not_any : (ns : List TypeNode) (n : TypeNode) (b : Bool) → list_any (node_eq n) ns ≡ b → (Equal ns n → ⊥) → b ≡ false
not_any ns n true e h = absurd (h (any_equal ns n e))
not_any ns n false e h = refl

pub inserted : (ns : List TypeNode) (counts : List ℕ) (n : TypeNode) → AreTypes ns counts → IsNew (forms_of ns) (form_from (forms_of ns) n) → insert_key node_eq ns n ≡ ns ++ n ∷ []
inserted ns counts n a new = let e = not_any ns n (list_any (node_eq n) ns) refl (new_absent ns counts n a new) in rw e refl

pub known_form : (ns : List TypeNode) (counts : List ℕ) (n : TypeNode) (i : ℕ) → AreTypes ns counts → position (node_eq n) ns ≡ Some i → slice_get (forms_of ns) i ≡ Some (form_from (forms_of ns) n)
known_form ns counts n i a e =
    let p = position-Some (node_eq n) ns i t.Whole e in
    a.forms i (get_or ns i t.Whole) (slice_get-get_or ns i t.Whole p.0) ∙ ap Some (sym (same_node (forms_of ns) n (get_or ns i t.Whole) p.1))

-- what no look-up finds is new

below_ids : (b c : ℕ) (is : List TypeId) → b ≤ c → AreBelow b is → AreBelow c is
below_ids b c [] l h = h
below_ids b c (i ∷ is) l h = ((let k = h.0 in omega (arith, k, l)), below_ids b c is l h.1)

below_node : (b c : ℕ) (n : TypeNode) → b ≤ c → ArgumentsBelow b n → ArgumentsBelow c n
below_node b c t.Whole l h = h
below_node b c t.Truth l h = h
below_node b c (t.Variable x) l h = h
below_node b c (t.Data x is) l h = below_ids b c is.items l h

record HasNode (ns : List TypeNode) (i : ℕ) : Type 0 where
  node : TypeNode
  there : slice_get ns i ≡ Some node

has_node : (ns : List TypeNode) (i : ℕ) → i < length ns → HasNode ns i
has_node [] i l = absurd (omega (arith, l))
has_node (n ∷ ns) zero l = record { node = n; there = refl }
has_node (n ∷ ns) (suc i) l = let r = has_node ns i (omega (arith, l)) in record { node = r.node; there = r.there }

form_below : (fs : List Form) (i : ℕ) (f : Form) → slice_get fs i ≡ Some f → i < length fs
form_below [] i f e = absurd cc
form_below (g ∷ fs) zero f e = omega arith
form_below (g ∷ fs) (suc i) f e = let l = form_below fs i f e in omega (arith, l)

found_at : (n m : TypeNode) (ns : List TypeNode) (b : Bool) → node_eq n m ≡ b → (b ≡ false → position_or_len (node_eq n) ns < length ns) → position_or_len (node_eq n) (m ∷ ns) < length (m ∷ ns)
found_at n m ns true e h = rw e (omega arith)
found_at n m ns false e h = let l = h refl in rw e (omega (arith, l))

found_below : (ns : List TypeNode) (n m : TypeNode) (i : ℕ) → slice_get ns i ≡ Some m → node_eq n m ≡ true → position_or_len (node_eq n) ns < length ns
found_below [] n m i e h = absurd cc
found_below (k ∷ ns) n m zero e h = let f : k ≡ m = (let g = e in cc) in found_at n k ns (node_eq n k) refl (λ x. absurd (true≢false (sym h ∙ ap (node_eq n) (sym f) ∙ x)))
found_below (k ∷ ns) n m (suc i) e h = found_at n k ns (node_eq n k) refl (λ x. found_below ns n m i e h)

found_some : (ns : List TypeNode) (n : TypeNode) → position_or_len (node_eq n) ns < length ns → position (node_eq n) ns ≡ Some (position_or_len (node_eq n) ns)
found_some ns n l = rw (lt-ltb _ _ l) refl

not_none : {A : Type 0} (x : A) → Rattle.std.proofs.Common.None ≡ Some x → ⊥
not_none x e = absurd cc

new_at : (ns : List TypeNode) (counts : List ℕ) (n : TypeNode) → AreTypes ns counts → ArgumentsBelow (length ns) n → position (node_eq n) ns ≡ None
    → (i : ℕ) → slice_get (forms_of ns) i ≡ Some (form_from (forms_of ns) n) → ⊥
new_at ns counts n a b e i p =
    let l = form_below (forms_of ns) i (form_from (forms_of ns) n) p in
    let many = a.many in
    let k : i < length ns = omega (arith, l, many) in
    let h = has_node ns i k in
    let f : form_from (forms_of ns) n ≡ form_from (forms_of ns) h.node = (let g = sym p ∙ a.forms i h.node h.there in cc) in
    let q = one_node (forms_of ns) (length ns) n h.node a.once (omega (arith, many)) b (below_node i (length ns) h.node (omega (arith, k)) (a.below i h.node h.there)) f in
    not_none (position_or_len (node_eq n) ns) (sym e ∙ found_some ns n (found_below ns n h.node i h.there q))

pub known_new : (ns : List TypeNode) (counts : List ℕ) (n : TypeNode) → AreTypes ns counts → ArgumentsBelow (length ns) n → position (node_eq n) ns ≡ None → IsNew (forms_of ns) (form_from (forms_of ns) n)
known_new ns counts n a b e = record { absent = new_at ns counts n a b e }

pub known_place : (ns : List TypeNode) (counts : List ℕ) (n : TypeNode) (i : ℕ) → AreTypes ns counts → position (node_eq n) ns ≡ Some i → i < length ns
known_place ns counts n i a e = (position-Some (node_eq n) ns i t.Whole e).0
