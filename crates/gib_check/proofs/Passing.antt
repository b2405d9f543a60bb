-- Where a type comes from, seen from outside of an arm.
use Rattle.std.proofs.Common.{◌≡◌, ℕ, zero, suc, ◌+◌, ◌-◌, ◌<◌, ◌≤◌, List, [], ◌∷◌, drop, length, get_or, refl, sym, ap, ap₂, ◌∙◌, subst, arith, ◌⊎◌, inl, inr}
use Rattle.std.proofs.lemmas.List.{drop_more, get_or-map, length-map}
use Rattle.std.proofs.Math.Seq.{drop-length}
use Rattle.gib_types.specs.declared.table.Ty.{Ty}
use Rattle.gib_syntax.specs.declared.tree.Ident.{Ident}
use Rattle.gib_syntax.specs.declared.tree.Parameter.{Parameter}
use Rattle.gib_syntax.specs.Declarations.{type_of_name}
use Rattle.gib_syntax.specs.Typing.{names_of, types_of}
use Rattle.gib_check.specs.declared.origin.TypeOrigin.{TypeOrigin}
use Rattle.gib_check.specs.declared.origin.TypeOrigin.TheVariants.{Fixed}
use Rattle.gib_check.specs.Origins.{outside, outside_arm}

no_field : (xs : List Ident) (o : TypeOrigin) → outside_arm xs [] o ≡ o
no_field [] o = refl
no_field (x ∷ xs) o = refl

pub passed_none : (xs : List Ident) (ts : List Ty) (o : TypeOrigin) (n : ℕ) → (n ≡ length xs) ⊎ (n ≡ length ts) → o ≡ outside_arm (drop n xs) (drop n ts) o
passed_none xs ts o n (inl e) = sym (ap (λ z. outside_arm z (drop n ts) o) (ap (λ k. drop k xs) e ∙ drop-length xs))
passed_none xs ts o n (inr e) = sym (ap (λ z. outside_arm (drop n xs) z o) (ap (λ k. drop k ts) e ∙ drop-length ts) ∙ no_field (drop n xs) o)

back : (n m : ℕ) → n ≡ m + 1 → n - 1 ≡ m
back n m e = omega (arith, e)

pub passed_more : (xs : List Ident) (ts : List Ty) (o here : TypeOrigin) (n : ℕ) (x : Ident) (t : Ty) → 0 < n → n ≤ length xs → n ≤ length ts → here ≡ outside_arm (drop n xs) (drop n ts) o → outside (get_or xs (n - 1) x) (Fixed (get_or ts (n - 1) t)) here ≡ outside_arm (drop (n - 1) xs) (drop (n - 1) ts) o
passed_more xs ts o here zero x t gt lx lt h = absurd (omega (arith, gt))
passed_more xs ts o here (suc n) x t gt lx lt h = subst (λ m. outside (get_or xs m x) (Fixed (get_or ts m t)) here ≡ outside_arm (drop m xs) (drop m ts) o) (sym (back (suc n) n (omega arith)))
    (sym (
    (λ i. outside_arm (drop_more xs n x (omega (arith, lx)) i) (drop_more ts n t (omega (arith, lt)) i) o)
    ∙ ap (λ z. outside (get_or xs n x) (Fixed (get_or ts n t)) z) ((let e : n + 1 ≡ suc n = omega arith in ap (λ m. outside_arm (drop m xs) (drop m ts) o) e) ∙ sym h)))

-- So for the variables of a binding of parts, with their types.
pub parts_none : (types : List ℕ) (qs : List Parameter) (o : TypeOrigin) (n : ℕ) → n ≡ length qs → o ≡ outside_arm (drop n (names_of qs)) (drop n (types_of types qs)) o
parts_none types qs o n e = passed_none (names_of qs) (types_of types qs) o n (inl (e ∙ sym (length-map qs (λ (q : Parameter). q.name))))

pub parts_more : (types : List ℕ) (qs : List Parameter) (o here : TypeOrigin) (n : ℕ) (q : Parameter) → 0 < n → n ≤ length qs → here ≡ outside_arm (drop n (names_of qs)) (drop n (types_of types qs)) o → outside (get_or qs (n - 1) q).name (Fixed (type_of_name types (get_or qs (n - 1) q).ty)) here ≡ outside_arm (drop (n - 1) (names_of qs)) (drop (n - 1) (types_of types qs)) o
parts_more types qs o here n q gt l h =
    let names = length-map qs (λ (q : Parameter). q.name) in
    let many = length-map qs (λ (q : Parameter). type_of_name types q.ty) in
    ap₂ (λ (x : Ident) (t : Ty). outside x (Fixed t) here)
    (sym (get_or-map (λ (q : Parameter). q.name) qs (n - 1) q q.name (omega (arith, gt, l))))
    (sym (get_or-map (λ (q : Parameter). type_of_name types q.ty) qs (n - 1) q (type_of_name types q.ty) (omega (arith, gt, l))))
    ∙ passed_more (names_of qs) (types_of types qs) o here n q.name (type_of_name types q.ty) gt (omega (arith, l, names)) (omega (arith, l, many)) h
