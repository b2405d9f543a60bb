-- Outcomes of several parts, taken together.
use Rattle.std.proofs.Common.{◌≡◌, true, false, List, [], ◌∷◌, ◌++◌, length, refl, sym, ap, ◌∙◌, arith}
use Rattle.gib_types.specs.declared.table.Ty.{Ty}
use Rattle.gib_types.specs.declared.table.Ty.TheVariants.{Whole, Truth, Tree}
use Rattle.gib_types.specs.Tree.{Datum}
use Rattle.gib_syntax.specs.Meaning.{Outcome, Gives, Stops, with_values, at_fields, with_fields}
use Rattle.gib_core.specs.Meaning.{merge}
use Rattle.gib_core.proofs.Agreeing.{Together, All, Lost, also, gather, with_all}

also_all : (v : Datum) (p : Together) (go : List Datum → Outcome) → with_all p (λ vs. go (v ∷ vs)) ≡ with_all (also (Gives v) p) go
also_all v (All vs) go = refl
also_all v (Lost why) go = refl

pub values_all : (os : List Outcome) (go : List Datum → Outcome) → with_values os go ≡ with_all (gather os) go
values_all [] go = refl
values_all (Stops why ∷ os) go = refl
values_all (Gives v ∷ os) go = values_all os (λ vs. go (v ∷ vs)) ∙ also_all v (gather os) go

also_same : (v : Datum) (p : Together) (z : Outcome) → with_all p (λ _. z) ≡ with_all (also (Gives v) p) (λ _. z)
also_same v (All vs) z = refl
also_same v (Lost why) z = refl

values_append : (os ps : List Outcome) (z : Outcome) → with_values (os ++ ps) (λ _. z) ≡ with_all (gather os) (λ _. with_all (gather ps) (λ _. z))
values_append [] ps z = values_all ps (λ _. z)
values_append (Stops why ∷ os) ps z = refl
values_append (Gives v ∷ os) ps z = values_append os ps z ∙ also_same v (gather os) (with_all (gather ps) (λ _. z))

abbrev Split : Outcome → Together → List Datum → Type 0
Split o p vs = (v : Datum) × (rest : List Datum) × (o ≡ Gives v) × (p ≡ All rest) × (vs ≡ v ∷ rest)

abbrev list_in : Together → List Datum
list_in (All vs) = vs
list_in (Lost why) = []

split : (o : Outcome) (p : Together) (vs : List Datum) → also o p ≡ All vs → Split o p vs
split (Stops why) p vs e = absurd cc
split (Gives v) (Lost why) vs e = absurd cc
split (Gives v) (All rest) vs e = (v, rest, refl, refl, sym (ap list_in e))

-- Where scalars and packed fields all have values, all have them.
merged : (types : List Ty) (os : List Outcome) → length os ≡ length types → (vs ws : List Datum) → gather (at_fields true types os) ≡ All vs → gather (at_fields false types os) ≡ All ws
    → gather os ≡ All (merge types vs ws)
merged [] [] e vs ws f g = refl
merged [] (o ∷ os) e vs ws f g = absurd cc
merged (t ∷ types) [] e vs ws f g = absurd cc
merged (Whole ∷ types) (o ∷ os) e vs ws f g =
    let s = split o (gather (at_fields true types os)) vs f in
    (λ i. also (s.2 i) (merged types os (omega (arith, e)) s.1 ws s.3 g i)) ∙ ap (λ l. All (merge (Whole ∷ types) l ws)) (sym s.4)
merged (Truth ∷ types) (o ∷ os) e vs ws f g =
    let s = split o (gather (at_fields true types os)) vs f in
    (λ i. also (s.2 i) (merged types os (omega (arith, e)) s.1 ws s.3 g i)) ∙ ap (λ l. All (merge (Truth ∷ types) l ws)) (sym s.4)
merged (Tree t ∷ types) (o ∷ os) e vs ws f g =
    let s = split o (gather (at_fields false types os)) ws g in
    (λ i. also (s.2 i) (merged types os (omega (arith, e)) vs s.1 f s.3 i)) ∙ ap (λ l. All (merge (Tree t ∷ types) vs l)) (sym s.4)

pub fields_merged : (types : List Ty) (os : List Outcome) (go : List Datum → Outcome) → length os ≡ length types
    → with_fields types os go ≡ with_all (gather (at_fields true types os)) (λ vs. with_all (gather (at_fields false types os)) (λ ws. go (merge types vs ws)))
fields_merged types os go e =
    values_append (at_fields true types os) (at_fields false types os) (with_values os go)
    ∙ ends (gather (at_fields true types os)) (gather (at_fields false types os)) refl refl
  where
    ends : (p q : Together) → gather (at_fields true types os) ≡ p → gather (at_fields false types os) ≡ q
        → with_all p (λ _. with_all q (λ _. with_values os go)) ≡ with_all p (λ vs. with_all q (λ ws. go (merge types vs ws)))
    ends (Lost why) q f g = refl
    ends (All vs) (Lost why) f g = refl
    ends (All vs) (All ws) f g = values_all os go ∙ ap (λ z. with_all z go) (merged types os e vs ws f g)
