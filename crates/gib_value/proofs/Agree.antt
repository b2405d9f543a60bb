-- Reading goes one way: where it is stuck no text goes on, and there is one such place.
use Rattle.std.proofs.Common.{◌≡◌, ℕ, ◌<◌, List, [], ◌∷◌, ◌++◌, length, drop, Some, refl, sym, ap, subst, ◌∙◌, arith, inl, inr}
use Rattle.std.proofs.lemmas.List.{length-drop}
use Rattle.gib_types.specs.declared.table.TyId.{TyId}
use Rattle.gib_types.specs.declared.table.ConId.{ConId}
use Rattle.gib_types.specs.declared.table.Ty.{Ty}
use Rattle.gib_types.specs.declared.table.Ty.TheVariants as ty
use Rattle.gib_types.specs.Table.{Table, con_at, fields_at}
use Rattle.gib_types.specs.Tree.{Datum, HasType}
use Rattle.gib_value.specs.Due.{Due, Value, Name, Space, Close}
use Rattle.gib_value.specs.Text.{con_text, text}
use Rattle.gib_value.specs.Reading.{IsWord, AreWords, AreApart, token_len, first_token, Cut, fields_wanted, CanStand, Stand, IsStuck, IsRefusedAt, IsTextOf, Refuses}
use Rattle.gib_value.proofs.Complete.{takes_text, own_within}

-- what is known of a table and names
pub record Known (table : Table) (names : List (List ℕ)) : Type 0 where
  pub words : AreWords table names
  pub apart : AreApart table names

pub no_paren : (token : List ℕ) → IsWord token → token ≡ 40 ∷ [] → ⊥
no_paren token h e = let w : IsWord (40 ∷ []) = subst IsWord e h in let no = w.0 in cc

one_con : (table : Table) (names : List (List ℕ)) → Known table names → (t : TyId) (token : List ℕ) (k j : ConId) → con_at table t.0 k.0 ≡ Some k.0 → con_at table t.0 j.0 ≡ Some j.0
    → token ≡ con_text table names k.0 → token ≡ con_text table names j.0 → k ≡ j
one_con table names known t token k j ok oj ek ej =
    let number : k.0 ≡ j.0 = known.apart t.0 k.0 j.0 ok oj (sym ek ∙ ej) in
    let id : ℕ → ConId = λ n. record { 0 = n } in
    ap id number

same_more : (table : Table) (names : List (List ℕ)) → Known table names → (w : Due) (token : List ℕ) (m n : List Due) → CanStand table names w token m → CanStand table names w token n → m ≡ n
same_more table names known Space token m n a b = a.1 ∙ sym b.1
same_more table names known (Close k) token m n a b = a.1 ∙ sym b.1
same_more table names known (Value ty.Whole) token m n a b = a.after ∙ sym b.after
same_more table names known (Value ty.Truth) token m n a b = a.after ∙ sym b.after
same_more table names known (Value (ty.Tree t)) token m n (inl a) (inl b) = a.after ∙ sym b.after
same_more table names known (Value (ty.Tree t)) token m n (inr a) (inr b) = a.after ∙ sym b.after
same_more table names known (Value (ty.Tree t)) token m n (inl a) (inr b) = absurd (no_paren (con_text table names a.con.0) (known.words a.con.0 (own_within table t.0 a.con.0 a.own)) (sym a.is ∙ b.is))
same_more table names known (Value (ty.Tree t)) token m n (inr a) (inl b) = absurd (no_paren (con_text table names b.con.0) (known.words b.con.0 (own_within table t.0 b.con.0 b.own)) (sym b.is ∙ a.is))
same_more table names known (Name t) token m n a b =
    let same = one_con table names known t token a.con b.con a.own b.own a.is b.is in
    a.after ∙ ap (λ (k : ConId). fields_wanted k (fields_at table k.0)) same ∙ sym b.after

-- where it is stuck nothing more is taken
stuck_stays : (table : Table) (names : List (List ℕ)) (wanted to : List Due) (rest last : List ℕ) (tokens : List (List ℕ)) → IsStuck table names wanted rest → Cut rest tokens last → Stand table names wanted tokens to
    → (rest ≡ last) × (wanted ≡ to)
stuck_stays table names wanted to rest last [] stuck cut stand = (cut, stand)
stuck_stays table names [] to rest last (t ∷ tokens) stuck cut stand = absurd stand
stuck_stays table names (w ∷ wanted) to rest last (t ∷ tokens) stuck cut (m, c, s) = absurd (stuck cut.0 m (subst (λ (x : List ℕ). CanStand table names w x m) cut.1 c))

-- what a reading takes more than another
record Further (table : Table) (names : List (List ℕ)) (rest last : List ℕ) (from to : List Due) : Type 0 where
  tokens : List (List ℕ)
  cut : Cut rest tokens last
  stand : Stand table names from tokens to

-- a reading that ends stuck goes at least as far as any
further : (table : Table) (names : List (List ℕ)) → Known table names → (bytes rest last : List ℕ) (from mid to : List Due) (a b : List (List ℕ))
    → Cut bytes a last → Stand table names from a to → IsStuck table names to last → Cut bytes b rest → Stand table names from b mid → Further table names rest last mid to
further table names known bytes rest last from mid to a [] cut stand stuck e s =
    record { tokens = a; cut = subst (λ (l : List ℕ). Cut l a last) e cut; stand = subst (λ (l : List Due). Stand table names l a to) s stand }
further table names known bytes rest last [] mid to a (u ∷ b) cut stand stuck h s = absurd s
further table names known bytes rest last (w ∷ from) mid to [] (u ∷ b) cut stand stuck h (m, c, s) =
    absurd (
    let own : IsStuck table names (w ∷ from) bytes = subst (λ (l : List ℕ). IsStuck table names (w ∷ from) l) (sym cut) (subst (λ (l : List Due). IsStuck table names l last) (sym stand) stuck) in
    own h.0 m (subst (λ (x : List ℕ). CanStand table names w x m) h.1 c))
further table names known bytes rest last (w ∷ from) mid to (t ∷ a) (u ∷ b) cut (n, d, r) stuck h (m, c, s) =
    let token : t ≡ u = cut.1 ∙ sym h.1 in
    let same : n ≡ m = same_more table names known w u n m (subst (λ (x : List ℕ). CanStand table names w x n) token d) c in
    further table names known (drop (token_len bytes) bytes) rest last (m ++ from) mid to a b cut.2 (subst (λ (l : List Due). Stand table names (l ++ from) a to) same r) stuck h.2 s

-- a text of the type is refused nowhere
pub not_refused : (table : Table) (names : List (List ℕ)) → Known table names → (t : Ty) (v : Datum) (bytes : List ℕ) (place : ℕ) → IsTextOf table names t v bytes → IsRefusedAt table names t bytes place → ⊥
not_refused table names known t v bytes place is r =
    let all = takes_text table names t v known.words is.typed in
    let f = further table names known bytes [] (drop place bytes) (Value t ∷ []) [] r.wanted r.tokens all.tokens r.cut r.stand r.stuck (subst (λ (l : List ℕ). Cut l all.tokens []) (sym is.is) all.cut) all.stand in
    end f.tokens f.cut f.stand
  where
    end : (tokens : List (List ℕ)) → Cut [] tokens (drop place bytes) → Stand table names [] tokens r.wanted → ⊥
    end [] cut stand = let own : IsStuck table names [] [] = subst (λ (l : List ℕ). IsStuck table names [] l) (sym cut) (subst (λ (l : List Due). IsStuck table names l (drop place bytes)) (sym stand) r.stuck) in own refl
    end (x ∷ tokens) cut stand = stand

-- bytes are refused at one place at most
pub one_place : (table : Table) (names : List (List ℕ)) → Known table names → (t : Ty) (bytes : List ℕ) (p q : ℕ) → IsRefusedAt table names t bytes p → IsRefusedAt table names t bytes q → p ≡ q
one_place table names known t bytes p q a b =
    let f = further table names known bytes (drop q bytes) (drop p bytes) (Value t ∷ []) b.wanted a.wanted a.tokens b.tokens a.cut a.stand a.stuck b.cut b.stand in
    let same = stuck_stays table names b.wanted a.wanted (drop q bytes) (drop p bytes) f.tokens b.stuck f.cut f.stand in
    omega (arith, ap length same.0, length-drop p bytes, length-drop q bytes, a.within, b.within)

-- the first of what is wanted refuses the token
abbrev First : Table → List (List ℕ) → List Due → List ℕ → Type 0
First table names [] token = Unit {0}
First table names (w ∷ wanted) token = Refuses table names w token

no_front : (table : Table) (names : List (List ℕ)) → Known table names → (bytes rest token : List ℕ) (from to : List Due) (a b : List (List ℕ))
    → Cut bytes (a ++ token ∷ []) rest → Stand table names from a to → First table names to token → Cut bytes b [] → Stand table names from b [] → ⊥
no_front table names known bytes rest token from to [] [] cut s f e r = let z : token_len bytes ≡ 0 = ap token_len e in omega (arith, cut.0)
no_front table names known bytes rest token [] to [] (u ∷ b) cut s f e r = r
no_front table names known bytes rest token (w ∷ from) to [] (u ∷ b) cut s f h (m, c, r) =
    let first : Refuses table names w token = subst (λ (l : List Due). First table names l token) (sym s) f in
    first m (subst (λ (x : List ℕ). CanStand table names w x m) (h.1 ∙ sym cut.1) c)
no_front table names known bytes rest token from to (t ∷ a) [] cut s f e r = let z : token_len bytes ≡ 0 = ap token_len e in omega (arith, cut.0)
no_front table names known bytes rest token [] to (t ∷ a) (u ∷ b) cut s f h r = s
no_front table names known bytes rest token (w ∷ from) to (t ∷ a) (u ∷ b) cut (n, d, s) f h (m, c, r) =
    let same_token : t ≡ u = cut.1 ∙ sym h.1 in
    let same : n ≡ m = same_more table names known w u n m (subst (λ (x : List ℕ). CanStand table names w x n) same_token d) c in
    no_front table names known (drop (token_len bytes) bytes) rest token (m ++ from) to a b cut.2 (subst (λ (l : List Due). Stand table names (l ++ from) a to) same s) f h.2 r

-- no text of the type begins with the tokens up to the refused one
pub no_text_begins : (table : Table) (names : List (List ℕ)) → Known table names → (t : Ty) (bytes : List ℕ) (place : ℕ) (r : IsRefusedAt table names t bytes place) → 0 < token_len (drop place bytes)
    → (v : Datum) (rest : List ℕ) → HasType table v t → Cut (text table names v) (r.tokens ++ first_token (drop place bytes) ∷ []) rest → ⊥
no_text_begins table names known t bytes place r lt v rest h cut =
    let all = takes_text table names t v known.words h in
    no_front table names known (text table names v) rest (first_token (drop place bytes)) (Value t ∷ []) r.wanted r.tokens all.tokens cut r.stand (first r.wanted r.stuck) all.cut all.stand
  where
    first : (wanted : List Due) → IsStuck table names wanted (drop place bytes) → First table names wanted (first_token (drop place bytes))
    first [] stuck = tt
    first (w ∷ wanted) stuck = stuck lt
