-- Keys are equal where the copies that they stand for are the same.
use Rattle.std.proofs.Common.{◌≡◌, ℕ, zero, suc, ◌+◌, ◌<◌, ◌≤◌, ◌==◌, ◌&&◌, ◌||◌, nat_lt, Bool, true, false, List, [], ◌∷◌, ◌++◌, length, Option, Some, None, slice_get, refl, sym, ap, ap₂, ◌∙◌, arith, subst, true≢false, get_or, position, length-append}
use borrow.Author.Tests.{lt-ltb}
use Rattle.std.specs.List.{list_any, position_or_len}
use Rattle.std.proofs.lemmas.Bool.{eqb-true, eq-eqb}
use Rattle.std.proofs.lemmas.List.Quantifiers.{position-Some}
use Rattle.std.proofs.lemmas.Option.{slice_get-get_or, same_Some, none-some}
use Rattle.indexmap.specs.IndexSet.{insert_key}
use Rattle.gib_syntax.specs.Declarations.{number_of}
use Rattle.gib_types.specs.declared.types.TypeId.{TypeId}
use Rattle.gib_mono.specs.declared.found.CopyKey.{CopyKey}
use Rattle.gib_mono.specs.declared.found.CopyKey.TheVariants as k
use Rattle.gib_types.specs.Types.{forms_at, AreBelow, AreOnce, GrowsTo}
use Rattle.gib_mono.specs.Found.{Kept, copy_from, KeyBelow, AreDeclarations, AreCopies, IsFound, same_ids, same_key, IsNewKey, types_by, functions_by, has_room}
use Rattle.gib_types.proofs.Once.{forms_more}
use Rattle.gib_types.proofs.Same.{ids_eq, same_ids_forms, one_ids}
use Rattle.gib_syntax.specs.Forms.{Form, Forms}
use Rattle.gib_syntax.specs.GenericTree.{GenericDataTree, GenericFunctionTree, GenericGlobals}
use Rattle.gib_types.specs.SameForm.{same_forms}
use Rattle.gib_mono.specs.Walk.{Copy, DataOf, FunctionOf, data_asked, function_asked, same_copy, is_found, constructors_in, functions_in, are_few}
use Rattle.gib_types.proofs.SameForms.{same_forms_are, same_forms_own}
use Rattle.gib_check.proofs.Growing.{below_more}

abbrev pub key_eq : CopyKey → CopyKey → Bool
key_eq = (Rattle.gib_mono.specs.contracts.found.CopyKeyPartialEq.TheImpl.eq-value).it

pub same_bool : (a b : Bool) → (a ≡ true → b ≡ true) → (b ≡ true → a ≡ true) → a ≡ b
same_bool true b f g = sym (f refl)
same_bool false true f g = g refl
same_bool false false f g = refl

pub ids_is : (xs ys : List TypeId) → ids_eq xs ys ≡ same_ids xs ys
ids_is [] [] = refl
ids_is [] (y ∷ ys) = refl
ids_is (x ∷ xs) [] = refl
ids_is (x ∷ xs) (y ∷ ys) = ap (λ b. (x.0 == y.0) && b) (ids_is xs ys)

pub key_is : (a b : CopyKey) → key_eq a b ≡ same_key a b
key_is (k.Data i is) (k.Data j js) = ap (λ b. (i == j) && b) (ids_is is.items js.items)
key_is (k.Data i is) (k.Function j js) = refl
key_is (k.Function i is) (k.Data j js) = refl
key_is (k.Function i is) (k.Function j js) = ap (λ b. (i == j) && b) (ids_is is.items js.items)

pub ids_forms : (fs : List Form) (xs ys : List TypeId) → AreOnce fs → AreBelow (length fs) xs → AreBelow (length fs) ys → same_ids xs ys ≡ same_forms (forms_at fs ys) (forms_at fs xs)
ids_forms fs xs ys a p q = same_bool (same_ids xs ys) (same_forms (forms_at fs ys) (forms_at fs xs))
    (λ e. subst (λ us. same_forms (forms_at fs ys) us ≡ true) (sym (same_ids_forms fs xs ys (ids_is xs ys ∙ e))) (same_forms_own (forms_at fs ys)))
    (λ e. sym (ids_is xs ys) ∙ one_ids fs (length fs) xs ys a (omega arith) p q (sym (same_forms_are (forms_at fs ys) (forms_at fs xs) e)))

record OfData (o : Option GenericDataTree) (ts : Forms) (c : Copy) : Type 0 where
  decl : GenericDataTree
  is : o ≡ Some decl
  copy : c ≡ DataOf decl ts

of_data : (o : Option GenericDataTree) (ts : Forms) (c : Copy) → data_asked o ts ≡ Some c → OfData o ts c
of_data None ts c e = absurd cc
of_data (Some d) ts c e = record { decl = d; is = refl; copy = (let f = e in cc) }

record OfFunction (o : Option GenericFunctionTree) (ts : Forms) (c : Copy) : Type 0 where
  decl : GenericFunctionTree
  is : o ≡ Some decl
  copy : c ≡ FunctionOf decl ts

of_function : (o : Option GenericFunctionTree) (ts : Forms) (c : Copy) → function_asked o ts ≡ Some c → OfFunction o ts c
of_function None ts c e = absurd cc
of_function (Some d) ts c e = record { decl = d; is = refl; copy = (let f = e in cc) }

module _ (g : GenericGlobals) (decls : AreDeclarations g) where
  data_names : (i j : ℕ) (d e : GenericDataTree) → slice_get g.datas i ≡ Some d → slice_get g.datas j ≡ Some e → (i == j) ≡ (number_of e.name == number_of d.name)
  data_names i j d e p q = same_bool (i == j) (number_of e.name == number_of d.name)
      (λ h. eq-eqb (number_of e.name) (number_of d.name) (ap (λ (x : GenericDataTree). number_of x.name) (sym (same_Some d e (sym p ∙ ap (slice_get g.datas) (eqb-true i j h) ∙ q)))))
      (λ h. eq-eqb i j (decls.datas i j d e p q (sym (eqb-true (number_of e.name) (number_of d.name) h))))

  function_names : (i j : ℕ) (d e : GenericFunctionTree) → slice_get g.functions i ≡ Some d → slice_get g.functions j ≡ Some e → (i == j) ≡ (number_of e.name == number_of d.name)
  function_names i j d e p q = same_bool (i == j) (number_of e.name == number_of d.name)
      (λ h. eq-eqb (number_of e.name) (number_of d.name) (ap (λ (x : GenericFunctionTree). number_of x.name) (sym (same_Some d e (sym p ∙ ap (slice_get g.functions) (eqb-true i j h) ∙ q)))))
      (λ h. eq-eqb i j (decls.functions i j d e p q (sym (eqb-true (number_of e.name) (number_of d.name) h))))

  module _ (fs : List Form) (once : AreOnce fs) where
    key_copy : (a b : CopyKey) (c d : Copy) → KeyBelow (length fs) a → KeyBelow (length fs) b → copy_from g fs a ≡ Some c → copy_from g fs b ≡ Some d → same_key a b ≡ same_copy d c
    key_copy (k.Data i is) (k.Data j js) c d p q e f =
        let x = of_data (slice_get g.datas i) (forms_at fs is.items) c e in
        let y = of_data (slice_get g.datas j) (forms_at fs js.items) d f in
        ap₂ (λ s t. s && t) (data_names i j x.decl y.decl x.is y.is) (ids_forms fs is.items js.items once p q) ∙ sym (ap₂ same_copy y.copy x.copy)
    key_copy (k.Data i is) (k.Function j js) c d p q e f =
        let x = of_data (slice_get g.datas i) (forms_at fs is.items) c e in
        let y = of_function (slice_get g.functions j) (forms_at fs js.items) d f in
        sym (ap₂ same_copy y.copy x.copy)
    key_copy (k.Function i is) (k.Data j js) c d p q e f =
        let x = of_function (slice_get g.functions i) (forms_at fs is.items) c e in
        let y = of_data (slice_get g.datas j) (forms_at fs js.items) d f in
        sym (ap₂ same_copy y.copy x.copy)
    key_copy (k.Function i is) (k.Function j js) c d p q e f =
        let x = of_function (slice_get g.functions i) (forms_at fs is.items) c e in
        let y = of_function (slice_get g.functions j) (forms_at fs js.items) d f in
        ap₂ (λ s t. s && t) (function_names i j x.decl y.decl x.is y.is) (ids_forms fs is.items js.items once p q) ∙ sym (ap₂ same_copy y.copy x.copy)

    pub found_is : (ks : List CopyKey) (found : List Copy) (a : CopyKey) (c : Copy) → KeyBelow (length fs) a → copy_from g fs a ≡ Some c → AreCopies g fs ks found → list_any (same_key a) ks ≡ is_found found c
    found_is [] [] a c p e h = refl
    found_is [] (d ∷ found) a c p e h = absurd h
    found_is (b ∷ ks) [] a c p e h = absurd h
    found_is (b ∷ ks) (d ∷ found) a c p e h = ap₂ (λ s t. s || t) (key_copy a b c d p h.1 e h.0) (found_is ks found a c p e h.2)

-- what a look-up of a key says

pub any_is : (a : CopyKey) (ks : List CopyKey) → list_any (key_eq a) ks ≡ list_any (same_key a) ks
any_is a [] = refl
any_is a (b ∷ ks) = ap₂ (λ s t. s || t) (key_is a b) (any_is a ks)

or_right : (a b : Bool) → b ≡ true → (a || b) ≡ true
or_right true b e = refl
or_right false b e = e

any_at : (p : CopyKey → Bool) (ks : List CopyKey) (i : ℕ) (b : CopyKey) → slice_get ks i ≡ Some b → p b ≡ true → list_any p ks ≡ true
any_at p [] i b e h = absurd cc
any_at p (x ∷ ks) zero b e h = let f : p x ≡ true = (ap p (same_Some x b e) ∙ h) in rw f refl
any_at p (x ∷ ks) (suc i) b e h = or_right (p x) (list_any p ks) (any_at p ks i b e h)

pub known_any : (ks : List CopyKey) (a : CopyKey) (i : ℕ) → position (key_eq a) ks ≡ Some i → list_any (same_key a) ks ≡ true
known_any ks a i e =
    let p = position-Some (key_eq a) ks i a e in
    sym (any_is a ks) ∙ any_at (key_eq a) ks i (get_or ks i a) (slice_get-get_or ks i a p.0) p.1

below_at : (p : CopyKey → Bool) (x : CopyKey) (ks : List CopyKey) (b : Bool) → p x ≡ b → (b || list_any p ks) ≡ true → (list_any p ks ≡ true → position_or_len p ks < length ks) → position_or_len p (x ∷ ks) < length (x ∷ ks)
below_at p x ks true f e go = rw f (omega arith)
below_at p x ks false f e go = let l = go e in rw f (omega (arith, l))

any_below : (p : CopyKey → Bool) (ks : List CopyKey) → list_any p ks ≡ true → position_or_len p ks < length ks
any_below p [] e = absurd (true≢false (sym e))
any_below p (x ∷ ks) e = below_at p x ks (p x) refl e (any_below p ks)

some_at : (p : CopyKey → Bool) (ks : List CopyKey) → position_or_len p ks < length ks → position p ks ≡ Some (position_or_len p ks)
some_at p ks l = rw (lt-ltb _ _ l) refl

absent_by : (p : CopyKey → Bool) (ks : List CopyKey) (b : Bool) → list_any p ks ≡ b → position p ks ≡ None → b ≡ false
absent_by p ks true e f = absurd (none-some (position_or_len p ks) (sym f ∙ some_at p ks (any_below p ks e)))
absent_by p ks false e f = refl

pub absent_any : (ks : List CopyKey) (a : CopyKey) → position (key_eq a) ks ≡ None → IsNewKey ks a
absent_any ks a e = sym (any_is a ks) ∙ absent_by (key_eq a) ks (list_any (key_eq a) ks) refl e

pub new_last : (ks : List CopyKey) (a : CopyKey) → IsNewKey ks a → insert_key key_eq ks a ≡ ks ++ a ∷ []
new_last ks a e = let f = any_is a ks ∙ e in rw f refl

-- one more copy

pub copies_push : (g : GenericGlobals) (fs : List Form) (ks : List CopyKey) (found : List Copy) (a : CopyKey) (c : Copy) → KeyBelow (length fs) a → copy_from g fs a ≡ Some c → AreCopies g fs ks found → AreCopies g fs (ks ++ a ∷ []) (found ++ c ∷ [])
copies_push g fs [] [] a c p e h = (e, p, tt)
copies_push g fs [] (d ∷ found) a c p e h = absurd h
copies_push g fs (b ∷ ks) [] a c p e h = absurd h
copies_push g fs (b ∷ ks) (d ∷ found) a c p e h = (h.0, h.1, copies_push g fs ks found a c p e h.2)

constructors_push : (found : List Copy) (c : Copy) → constructors_in (found ++ c ∷ []) ≡ constructors_in found + constructors_in (c ∷ [])
constructors_push [] c = omega arith
constructors_push (DataOf d ts ∷ found) c = let e = constructors_push found c in omega (arith, e)
constructors_push (FunctionOf f ts ∷ found) c = constructors_push found c

functions_push : (found : List Copy) (c : Copy) → functions_in (found ++ c ∷ []) ≡ functions_in found + functions_in (c ∷ [])
functions_push [] c = omega arith
functions_push (DataOf d ts ∷ found) c = functions_push found c
functions_push (FunctionOf f ts ∷ found) c = let e = functions_push found c in omega (arith, e)

types_in_key : (g : GenericGlobals) (fs : List Form) (a : CopyKey) (c : Copy) (n : ℕ) → copy_from g fs a ≡ Some c → constructors_in (c ∷ []) ≡ n → constructors_in (c ∷ []) ≡ types_by a n
types_in_key g fs (k.Data i is) c n e f = f
types_in_key g fs (k.Function i is) c n e f = ap (λ x. constructors_in (x ∷ [])) (of_function (slice_get g.functions i) (forms_at fs is.items) c e).copy

functions_in_key : (g : GenericGlobals) (fs : List Form) (a : CopyKey) (c : Copy) → copy_from g fs a ≡ Some c → functions_in (c ∷ []) ≡ functions_by a
functions_in_key g fs (k.Data i is) c e = ap (λ x. functions_in (x ∷ [])) (of_data (slice_get g.datas i) (forms_at fs is.items) c e).copy
functions_in_key g fs (k.Function i is) c e = ap (λ x. functions_in (x ∷ [])) (of_function (slice_get g.functions i) (forms_at fs is.items) c e).copy

pub found_push : (g : GenericGlobals) (fs : List Form) (kept : Kept) (found : List Copy) (a : CopyKey) (c : Copy) (n : ℕ) → KeyBelow (length fs) a → copy_from g fs a ≡ Some c → constructors_in (c ∷ []) ≡ n → IsFound g fs kept found
    → IsFound g fs (record { keys = kept.keys ++ a ∷ []; constructors = kept.constructors + types_by a n; functions = kept.functions + functions_by a }) (found ++ c ∷ [])
found_push g fs kept found a c n p e f h = record {
  copies = copies_push g fs kept.keys found a c p e h.copies;
  constructors = ap₂ (λ x y. x + y) h.constructors (sym (types_in_key g fs a c n e f)) ∙ sym (constructors_push found c);
  functions = ap₂ (λ x y. x + y) h.functions (sym (functions_in_key g fs a c e)) ∙ sym (functions_push found c);
}

pub few_is : (g : GenericGlobals) (fs : List Form) (kept : Kept) (found : List Copy) (a : CopyKey) (c : Copy) (n : ℕ) → KeyBelow (length fs) a → copy_from g fs a ≡ Some c → constructors_in (c ∷ []) ≡ n → IsFound g fs kept found
    → are_few (found ++ c ∷ []) ≡ has_room kept (types_by a n) (functions_by a)
few_is g fs kept found a c n p e f h =
    let q = found_push g fs kept found a c n p e f h in
    ap₂ (λ x y. nat_lt x 201 && nat_lt y 1001) (sym q.constructors) (sym q.functions)

pub found_same : (g : GenericGlobals) (fs : List Form) (found : List Copy) (ks ks' : List CopyKey) (n n' m m' : ℕ) → ks' ≡ ks → n' ≡ n → m' ≡ m
    → IsFound g fs (record { keys = ks; constructors = n; functions = m }) found → IsFound g fs (record { keys = ks'; constructors = n'; functions = m' }) found
found_same g fs found ks ks' n n' m m' e f h i = rw (e, f, h) i

-- what is kept stays where more types are met

ids_grow : (fs more : List Form) (is : List TypeId) → AreBelow (length fs) is → forms_at (fs ++ more) is ≡ forms_at fs is
ids_grow fs more is h = forms_more fs more (length fs) is h (omega arith)

key_grows : (g : GenericGlobals) (fs more : List Form) (a : CopyKey) → KeyBelow (length fs) a → copy_from g (fs ++ more) a ≡ copy_from g fs a
key_grows g fs more (k.Data i is) h = ap (data_asked (slice_get g.datas i)) (ids_grow fs more is.items h)
key_grows g fs more (k.Function i is) h = ap (function_asked (slice_get g.functions i)) (ids_grow fs more is.items h)

key_below : (n m : ℕ) (a : CopyKey) → n ≤ m → KeyBelow n a → KeyBelow m a
key_below n m (k.Data i is) l h = below_more n m is.items l h
key_below n m (k.Function i is) l h = below_more n m is.items l h

copies_grow : (g : GenericGlobals) (fs more : List Form) (ks : List CopyKey) (found : List Copy) → AreCopies g fs ks found → AreCopies g (fs ++ more) ks found
copies_grow g fs more [] [] h = h
copies_grow g fs more [] (c ∷ found) h = absurd h
copies_grow g fs more (a ∷ ks) [] h = absurd h
copies_grow g fs more (a ∷ ks) (c ∷ found) h =
    (key_grows g fs more a h.1 ∙ h.0, key_below (length fs) (length (fs ++ more)) a (let e = length-append fs more in omega (arith, e)) h.1, copies_grow g fs more ks found h.2)

pub found_grows : (g : GenericGlobals) (fs new : List Form) (kept : Kept) (found : List Copy) → GrowsTo fs new → IsFound g fs kept found → IsFound g new kept found
found_grows g fs new kept found e h =
    record { copies = subst (λ us. AreCopies g us kept.keys found) (sym e.is) (copies_grow g fs e.more kept.keys found h.copies); constructors = h.constructors; functions = h.functions }
