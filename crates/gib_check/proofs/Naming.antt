-- Names, and the place of each at the name's number.
use Rattle.std.proofs.Common.{◌≡◌, ℕ, suc, ◌<◌, ◌^◌, Bool, true, false, cond, eqb, List, [], ◌∷◌, ◌++◌, map, length, Option, Some, None, refl, sym, ap, ◌∙◌, subst, arith}
use Rattle.std.proofs.lemmas.Bool.{eqb-true, eq-eqb}
use Rattle.std.specs.Prelude.{is_some, IfSome}
use Rattle.gib_base.specs.declared.name.Name.{Name}
use Rattle.gib_syntax.specs.Declarations.{place_of, next_place}
use Rattle.gib_check.specs.Answers.{number}
use Rattle.gib_check.specs.Entries.{entry_at, ArePlaces}
use Rattle.gib_check.proofs.Different.{place_within}

place_new : (ys : List ℕ) (x : ℕ) → place_of ys x ≡ None → place_of (ys ++ x ∷ []) x ≡ Some (length ys)
place_new [] x e = ap (λ b. cond b (Some 0) None) (eq-eqb x x refl)
place_new (y ∷ ys) x e = go (eqb y x) (place_of ys x) refl e (λ q. place_new ys x q) where
  go : (b : Bool) (o : Option ℕ) → place_of ys x ≡ o → cond b (Some 0) (next_place o) ≡ None → (place_of ys x ≡ None → place_of (ys ++ x ∷ []) x ≡ Some (length ys)) → cond b (Some 0) (next_place (place_of (ys ++ x ∷ []) x)) ≡ Some (suc (length ys))
  go true o eo h more' = absurd cc
  go false None eo h more' = ap next_place (more' eo)
  go false (Some i) eo h more' = absurd cc

place_other : (ys : List ℕ) (x y : ℕ) → eqb x y ≡ false → place_of (ys ++ x ∷ []) y ≡ place_of ys y
place_other [] x y e = ap (λ b. cond b (Some 0) None) e
place_other (z ∷ ys) x y e = ap (λ o. cond (eqb z y) (Some 0) (next_place o)) (place_other ys x y e)

place_kept : (ys : List ℕ) (x y i : ℕ) → place_of ys y ≡ Some i → place_of (ys ++ x ∷ []) y ≡ place_of ys y
place_kept [] x y i e = absurd cc
place_kept (z ∷ ys) x y i e = go (eqb z y) (place_of ys y) refl e (λ j q. place_kept ys x y j q) where
  go : (b : Bool) (o : Option ℕ) → place_of ys y ≡ o → cond b (Some 0) (next_place o) ≡ Some i → ((j : ℕ) → place_of ys y ≡ Some j → place_of (ys ++ x ∷ []) y ≡ place_of ys y) → cond b (Some 0) (next_place (place_of (ys ++ x ∷ []) y)) ≡ cond b (Some 0) (next_place (place_of ys y))
  go true o eo h more' = refl
  go false None eo h more' = absurd cc
  go false (Some j) eo h more' = ap next_place (more' j eo)

numbers-push : (names : List Name) (n : Name) → map number (names ++ n ∷ []) ≡ map number names ++ n.0 ∷ []
numbers-push [] n = refl
numbers-push (m ∷ names) n = ap (λ l. m.0 ∷ l) (numbers-push names n)

length-numbers : (names : List Name) → length (map number names) ≡ length names
length-numbers [] = refl
length-numbers (m ∷ names) = ap suc (length-numbers names)

-- A name that was not there is put at its number.
pub name_put : (names new : List Name) (n : Name) (places after : List (Option ℕ)) (place : ℕ) (o : Option ℕ) → ArePlaces (map number names) places → new ≡ names ++ n ∷ [] → length new < 2 ^ 32 → o ≡ entry_at places n.0 → is_some o ≡ false → place ≡ length names → ((other : ℕ) → entry_at after other ≡ cond (eqb n.0 other) (Some place) (entry_at places other)) → ArePlaces (map number new) after
name_put names new n places after place o h e lt eo none ep put = record {
  few = let l = length-numbers new in omega (arith, l, lt);
  each = λ x. put x ∙ go x (eqb n.0 x) refl ∙ sym (ap (λ z. place_of (map number z) x) e ∙ ap (λ z. place_of z x) (numbers-push names n));
} where
  is : (q : Option ℕ) → is_some q ≡ false → q ≡ None
  is None r = refl
  is (Some i) r = absurd cc

  absent : place_of (map number names) n.0 ≡ None
  absent = sym (eo ∙ h.each n.0) ∙ is o none

  go : (x : ℕ) (b : Bool) → eqb n.0 x ≡ b → cond b (Some place) (entry_at places x) ≡ place_of (map number names ++ n.0 ∷ []) x
  go x true eb = subst (λ z. Some place ≡ place_of (map number names ++ n.0 ∷ []) z) (eqb-true n.0 x eb) (sym (place_new (map number names) n.0 absent ∙ ap Some (length-numbers names ∙ sym ep)))
  go x false eb = h.each x ∙ sym (place_other (map number names) n.0 x eb)

-- A name that was there keeps its first place.
pub name_kept : (names new : List Name) (n : Name) (places : List (Option ℕ)) (o : Option ℕ) → ArePlaces (map number names) places → new ≡ names ++ n ∷ [] → length new < 2 ^ 32 → o ≡ entry_at places n.0 → is_some o ≡ true → ArePlaces (map number new) places
name_kept names new n places o h e lt eo there = record {
  few = let l = length-numbers new in omega (arith, l, lt);
  each = λ x. h.each x ∙ sym (ap (λ z. place_of (map number z) x) e ∙ ap (λ z. place_of z x) (numbers-push names n) ∙ go x (eqb n.0 x) refl);
} where
  at : (q : Option ℕ) → is_some q ≡ true → (i : ℕ) × (q ≡ Some i)
  at None r = absurd cc
  at (Some i) r = (i, refl)

  go : (x : ℕ) (b : Bool) → eqb n.0 x ≡ b → place_of (map number names ++ n.0 ∷ []) x ≡ place_of (map number names) x
  go x true eb = let p = at o there in subst (λ z. place_of (map number names ++ n.0 ∷ []) z ≡ place_of (map number names) z) (eqb-true n.0 x eb) (place_kept (map number names) n.0 n.0 p.0 (sym (eo ∙ h.each n.0) ∙ p.1))
  go x false eb = place_other (map number names) n.0 x eb

-- A place that is found is one of the names.
pub place_inside : (names : List ℕ) (x : ℕ) (o : Option ℕ) → o ≡ place_of names x → IfSome o (λ place. place < length names)
place_inside names x None e = tt
place_inside names x (Some i) e = place_within names x i (sym e)
