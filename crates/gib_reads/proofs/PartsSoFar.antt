-- Things that stand in a store that grows, read one after another.
use Rattle.std.proofs.Common.{◌≡◌, Bool, true, List, [], ◌∷◌, ◌++◌, map, refl, sym, ap, ◌∙◌, subst}
use Rattle.std.specs.List.{AllByRecursion}
use Rattle.std.proofs.lemmas.List.{map_push}
use Rattle.gib_base.specs.declared.token.Token.{Token}
use Rattle.gib_reads.specs.Readers.{Read, Reader, next_is}
use Rattle.gib_reads.proofs.Tools.{done}
use Rattle.gib_reads.proofs.Many.{Shrinks}
use Rattle.gib_reads.proofs.SoFar.{SoFar, one_more}

-- What each thing is in the store stays as the store grows.
module _ {S A B : Type 0} {Grows : S → S → Type 0} (grows_more : (a b c : S) → Grows a b → Grows b c → Grows a c) (Inside : S → B → Type 0) (make : S → B → A) (stays : (old new : S) (b : B) → Grows old new → Inside old b → Inside new b × (make new b ≡ make old b)) where
  abbrev pub seen : S → List B → List A
  seen a bs = map (make a) bs

  pub within_more : (old new : S) (bs : List B) → Grows old new → AllByRecursion (Inside old) bs → AllByRecursion (Inside new) bs
  within_more old new [] g h = tt
  within_more old new (b ∷ bs) g h = ((stays old new b g h.0).0, within_more old new bs g h.1)

  within_push : (a : S) (bs : List B) (b : B) → AllByRecursion (Inside a) bs → Inside a b → AllByRecursion (Inside a) (bs ++ b ∷ [])
  within_push a [] b h i = (i, tt)
  within_push a (x ∷ bs) b h i = (h.0, within_push a bs b h.1 i)

  pub seen_same : (old new : S) (bs : List B) → Grows old new → AllByRecursion (Inside old) bs → seen new bs ≡ seen old bs
  seen_same old new [] g h = refl
  seen_same old new (b ∷ bs) g h = (λ k. (stays old new b g h.0).1 k ∷ seen_same old new bs g h.1 k)

  -- These were read; what was there stays.
  pub record PartsSoFar (old new : S) (all : Read (List A)) (starts : Token → Bool) (p : Reader A) (rest : List Token) (bs : List B) : Type 0 where
    pub grows : Grows old new
    pub inside : AllByRecursion (Inside new) bs
    pub read : SoFar all starts p rest (seen new bs)

  pub parts_more : (old new newer : S) (all : Read (List A)) (starts : Token → Bool) (p : Reader A) → Shrinks p → (rest after : List Token) (bs : List B) (b : B) → PartsSoFar old new all starts p rest bs → next_is starts rest ≡ true → Grows new newer → Inside newer b → p rest ≡ done (make newer b) after → PartsSoFar old newer all starts p after (bs ++ b ∷ [])
  parts_more old new newer all starts p sh rest after bs b so e g i r =
      let a = make newer b in
      let same : seen new bs ++ a ∷ [] ≡ seen newer (bs ++ b ∷ []) = ap (λ l. l ++ a ∷ []) (sym (seen_same new newer bs g so.inside)) ∙ sym (map_push (make newer) bs b) in
      record {
        grows = grows_more old new newer so.grows g;
        inside = within_push newer bs b (within_more new newer bs g so.inside) i;
        read = subst (λ (l : List A). SoFar all starts p after l) same (one_more all starts p sh rest after (seen new bs) a so.read e r);
      }
