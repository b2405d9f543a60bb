-- Values of one type have different texts.
use Rattle.std.proofs.Common.{◌≡◌, ℕ, Bool, true, false, List, [], ◌∷◌, ◌++◌, Some, refl, sym, ap, subst, ◌∙◌}
use Rattle.std.specs.Fmt.{signed_decimal}
use Rattle.gib_types.specs.declared.table.Ty.{Ty}
use Rattle.gib_types.specs.declared.table.Ty.TheVariants as ty
use Rattle.gib_types.specs.Table.{Table, fields_at}
use Rattle.gib_types.specs.Tree.{Datum, whole, truth, con, Data, none, more, HasType, HaveTypes}
use Rattle.gib_value.specs.Text.{truth_text, con_text, spell, spell_fields, text}
use Rattle.gib_value.specs.Reading.{IsWord}
use Rattle.gib_value.proofs.Numbers.{same_number}
use Rattle.gib_value.proofs.Tokens.{Ends, word_token, number_token, truth_word, same_front}
use Rattle.gib_value.proofs.Complete.{ends_fields, own_within}
use Rattle.gib_value.proofs.Agree.{Known}

same_truth : (a b : Bool) → truth_text a ≡ truth_text b → a ≡ b
same_truth true true e = refl
same_truth false false e = refl
same_truth true false e = absurd cc
same_truth false true e = absurd cc

same_tail : (x : ℕ) (xs ys : List ℕ) → x ∷ xs ≡ x ∷ ys → xs ≡ ys
same_tail x xs ys e = cc

-- a word does not begin with a parenthesis
word_no_paren : (w rest x : List ℕ) → IsWord w → w ++ x ≡ 40 ∷ rest → ⊥
word_no_paren [] rest x h e = h
word_no_paren (b ∷ w) rest x h e = let own : b ≡ 40 = cc in let letter = subst (λ (n : ℕ). IsWord (n ∷ w)) own h in let no = letter.0 in cc

con_word : (table : Table) (names : List (List ℕ)) → Known table names → (t : ℕ) (k : ℕ) → Rattle.gib_types.specs.Table.con_at table t k ≡ Some k → IsWord (con_text table names k)
con_word table names known t k own = known.words k (own_within table t k own)

-- constructors of one name, with what follows
same_name : (table : Table) (names : List (List ℕ)) → Known table names → (t k j : ℕ) (x y : List ℕ) → Rattle.gib_types.specs.Table.con_at table t k ≡ Some k → Rattle.gib_types.specs.Table.con_at table t j ≡ Some j
    → Ends x → Ends y → con_text table names k ++ x ≡ con_text table names j ++ y → (k ≡ j) × (x ≡ y)
same_name table names known t k j x y ok oj ex ey e =
    let kl = own_within table t k ok in
    let jl = own_within table t j oj in
    let s = same_front (con_text table names k) (con_text table names j) x y (word_token _ (known.words k kl)) (word_token _ (known.words j jl)) ex ey e in
    (known.apart t k j ok oj s.0, s.1)

mutual
  pub same_value : (table : Table) (names : List (List ℕ)) → Known table names → (v w : Datum) (t : Ty) (x y : List ℕ) → HasType table v t → HasType table w t → Ends x → Ends y
      → spell table names v x ≡ spell table names w y → (v ≡ w) × (x ≡ y)
  same_value table names known (whole z) (whole u) ty.Whole x y h k ex ey e =
      let s = same_front (signed_decimal z) (signed_decimal u) x y (number_token z h) (number_token u k) ex ey e in
      (ap whole (same_number z u h k s.0), s.1)
  same_value table names known (truth a) (truth b) ty.Truth x y h k ex ey e =
      let s = same_front (truth_text a) (truth_text b) x y (word_token _ (truth_word a)) (word_token _ (truth_word b)) ex ey e in
      (ap truth (same_truth a b s.0), s.1)
  same_value table names known (con k none) (con j none) (ty.Tree t) x y h g ex ey e =
      let s = same_name table names known t.0 k j x y h.0 g.0 ex ey e in
      (ap (λ (n : ℕ). con n none) s.0, s.1)
  same_value table names known (con k none) (con j (more w ws)) (ty.Tree t) x y h g ex ey e = absurd (word_no_paren (con_text table names k) _ x (con_word table names known t.0 k h.0) e)
  same_value table names known (con k (more v vs)) (con j none) (ty.Tree t) x y h g ex ey e = absurd (word_no_paren (con_text table names j) _ y (con_word table names known t.0 j g.0) (sym e))
  same_value table names known (con k (more v vs)) (con j (more w ws)) (ty.Tree t) x y h g ex ey e =
      let s = same_name table names known t.0 k j (spell_fields table names (more v vs) x) (spell_fields table names (more w ws) y) h.0 g.0 refl refl (same_tail 40 _ _ e) in
      let typed : HaveTypes table (more w ws) (fields_at table k) = subst (λ (n : ℕ). HaveTypes table (more w ws) (fields_at table n)) (sym s.0) g.1 in
      let r = same_fields table names known (more v vs) (more w ws) (fields_at table k) x y h.1 typed s.1 in
      (ap (λ (n : ℕ). con n (more v vs)) s.0 ∙ ap (con j) r.0, r.1)
  same_value table names known (whole z) (truth b) t x y h k ex ey e = absurd (apart t h k)
    where
      apart : (t : Ty) → HasType table (whole z) t → HasType table (truth b) t → ⊥
      apart ty.Whole h k = k
      apart ty.Truth h k = h
      apart (ty.Tree t) h k = h
  same_value table names known (whole z) (con j ws) t x y h k ex ey e = absurd (apart t h k)
    where
      apart : (t : Ty) → HasType table (whole z) t → HasType table (con j ws) t → ⊥
      apart ty.Whole h k = k
      apart ty.Truth h k = h
      apart (ty.Tree t) h k = h
  same_value table names known (truth b) (whole z) t x y h k ex ey e = absurd (apart t h k)
    where
      apart : (t : Ty) → HasType table (truth b) t → HasType table (whole z) t → ⊥
      apart ty.Whole h k = h
      apart ty.Truth h k = k
      apart (ty.Tree t) h k = h
  same_value table names known (truth b) (con j ws) t x y h k ex ey e = absurd (apart t h k)
    where
      apart : (t : Ty) → HasType table (truth b) t → HasType table (con j ws) t → ⊥
      apart ty.Whole h k = h
      apart ty.Truth h k = k
      apart (ty.Tree t) h k = h
  same_value table names known (con k vs) (whole z) t x y h g ex ey e = absurd (apart t h g)
    where
      apart : (t : Ty) → HasType table (con k vs) t → HasType table (whole z) t → ⊥
      apart ty.Whole h k = h
      apart ty.Truth h k = h
      apart (ty.Tree t) h k = k
  same_value table names known (con k vs) (truth b) t x y h g ex ey e = absurd (apart t h g)
    where
      apart : (t : Ty) → HasType table (con k vs) t → HasType table (truth b) t → ⊥
      apart ty.Whole h k = h
      apart ty.Truth h k = h
      apart (ty.Tree t) h k = k
  same_value table names known (whole z) (whole u) ty.Truth x y h k ex ey e = absurd h
  same_value table names known (whole z) (whole u) (ty.Tree t) x y h k ex ey e = absurd h
  same_value table names known (truth a) (truth b) ty.Whole x y h k ex ey e = absurd h
  same_value table names known (truth a) (truth b) (ty.Tree t) x y h k ex ey e = absurd h
  same_value table names known (con k vs) (con j ws) ty.Whole x y h g ex ey e = absurd h
  same_value table names known (con k vs) (con j ws) ty.Truth x y h g ex ey e = absurd h

  same_fields : (table : Table) (names : List (List ℕ)) → Known table names → (vs ws : Data) (ts : List Ty) (x y : List ℕ) → HaveTypes table vs ts → HaveTypes table ws ts
      → spell_fields table names vs x ≡ spell_fields table names ws y → (vs ≡ ws) × (x ≡ y)
  same_fields table names known none none ts x y h k e = (refl, same_tail 41 x y e)
  same_fields table names known none (more w ws) [] x y h k e = absurd k
  same_fields table names known none (more w ws) (t ∷ ts) x y h k e = absurd h
  same_fields table names known (more v vs) none [] x y h k e = absurd h
  same_fields table names known (more v vs) none (t ∷ ts) x y h k e = absurd k
  same_fields table names known (more v vs) (more w ws) [] x y h k e = absurd h
  same_fields table names known (more v vs) (more w ws) (t ∷ ts) x y h k e =
      let s = same_value table names known v w t (spell_fields table names vs x) (spell_fields table names ws y) h.0 k.0 (ends_fields table names vs x) (ends_fields table names ws y) (same_tail 32 _ _ e) in
      let r = same_fields table names known vs ws ts x y h.1 k.1 s.1 in
      (ap (λ (u : Datum). more u vs) s.0 ∙ ap (more w) r.0, r.1)

pub one_text : (table : Table) (names : List (List ℕ)) → Known table names → (t : Ty) (v w : Datum) → HasType table v t → HasType table w t → text table names v ≡ text table names w → v ≡ w
one_text table names known t v w h k e = (same_value table names known v w t [] [] h k tt tt e).0
