-- The text of a value of the type is read to its end.
use Rattle.std.proofs.Common.{◌≡◌, ℕ, ◌<◌, List, [], ◌∷◌, ◌++◌, length, take, drop, Some, refl, sym, ap, subst, ◌∙◌, arith, inl, inr}
use Rattle.std.specs.Fmt.{signed_decimal}
use Rattle.std.proofs.lemmas.List.{drop_at}
use Rattle.gib_types.specs.declared.table.ConId.{ConId}
use Rattle.gib_types.specs.declared.table.Ty.{Ty}
use Rattle.gib_types.specs.declared.table.Ty.TheVariants as ty
use Rattle.gib_types.specs.Table.{Table, con_at, fields_at}
use Rattle.gib_types.specs.Tree.{Datum, whole, truth, con, Data, none, more, HasType, HaveTypes}
use Rattle.gib_types.proofs.Owners.{con_at-owned, owned_within}
use Rattle.gib_value.specs.Due.{Due, Value, Name, Space, Close}
use Rattle.gib_value.specs.Text.{truth_text, con_text, spell, spell_fields, text}
use Rattle.gib_value.specs.Reading.{AreWords, token_len, Cut, fields_wanted, CanStand, Stand}
use Rattle.gib_value.proofs.Tokens.{Ends, IsToken, word_token, number_token, truth_word, front_take}

-- the tokens of the bytes up to the rest can stand, and leave so much wanted
pub record Takes (table : Table) (names : List (List ℕ)) (bytes : List ℕ) (from : List Due) (rest : List ℕ) (to : List Due) : Type 0 where
  pub tokens : List (List ℕ)
  pub cut : Cut bytes tokens rest
  pub stand : Stand table names from tokens to

Cut-append : (bytes : List ℕ) (a b : List (List ℕ)) (rest last : List ℕ) → Cut bytes a rest → Cut rest b last → Cut bytes (a ++ b) last
Cut-append bytes [] b rest last e h = subst (λ (l : List ℕ). Cut l b last) (sym e) h
Cut-append bytes (t ∷ a) b rest last g h = (g.0, g.1, Cut-append (drop (token_len bytes) bytes) a b rest last g.2 h)

Stand-append : (table : Table) (names : List (List ℕ)) (from : List Due) (a b : List (List ℕ)) (mid to : List Due) → Stand table names from a mid → Stand table names mid b to → Stand table names from (a ++ b) to
Stand-append table names from [] b mid to e h = subst (λ (l : List Due). Stand table names l b to) (sym e) h
Stand-append table names [] (t ∷ a) b mid to g h = absurd g
Stand-append table names (w ∷ from) (t ∷ a) b mid to (m, c, s) h = (m, c, Stand-append table names (m ++ from) a b mid to s h)

then_takes : (table : Table) (names : List (List ℕ)) (bytes mid rest : List ℕ) (from between to : List Due) → Takes table names bytes from mid between → Takes table names mid between rest to → Takes table names bytes from rest to
then_takes table names bytes mid rest from between to a b = record {
  tokens = a.tokens ++ b.tokens;
  cut = Cut-append bytes a.tokens b.tokens mid rest a.cut b.cut;
  stand = Stand-append table names from a.tokens b.tokens between to a.stand b.stand;
}

-- one token
takes_one : (table : Table) (names : List (List ℕ)) (token rest : List ℕ) (w : Due) (wanted extra : List Due) → 0 < length token → token_len (token ++ rest) ≡ length token
    → CanStand table names w token extra → Takes table names (token ++ rest) (w ∷ wanted) rest (extra ++ wanted)
takes_one table names token rest w wanted extra lt long can = record {
  tokens = token ∷ [];
  cut = (omega arith, sym (ap (λ (n : ℕ). take n (token ++ rest)) long ∙ front_take token rest), ap (λ (n : ℕ). drop n (token ++ rest)) long ∙ drop_at token rest (length token) refl);
  stand = (extra, can, refl);
}

takes_token : (table : Table) (names : List (List ℕ)) (token rest : List ℕ) (w : Due) (wanted extra : List Due) → IsToken token → Ends rest
    → CanStand table names w token extra → Takes table names (token ++ rest) (w ∷ wanted) rest (extra ++ wanted)
takes_token table names token rest w wanted extra t ends can = takes_one table names token rest w wanted extra t.some (t.first rest ends) can

pub own_within : (table : Table) (t k : ℕ) → con_at table t k ≡ Some k → k < length table.rows
own_within table t k e = owned_within table.rows t k (con_at-owned table t k k e).1

pub ends_fields : (table : Table) (names : List (List ℕ)) (vs : Data) (rest : List ℕ) → Ends (spell_fields table names vs rest)
ends_fields table names none rest = refl
ends_fields table names (more v vs) rest = refl

no_types : (table : Table) (ts : List Ty) → HaveTypes table none ts → length ts ≡ 0
no_types table [] h = refl
no_types table (t ∷ ts) h = absurd h

some_types : (table : Table) (v : Datum) (vs : Data) (ts : List Ty) → HaveTypes table (more v vs) ts → 0 < length ts
some_types table v vs [] h = absurd h
some_types table v vs (t ∷ ts) h = omega arith

mutual
  pub takes_value : (table : Table) (names : List (List ℕ)) → AreWords table names → (v : Datum) (t : Ty) (rest : List ℕ) (wanted : List Due) → HasType table v t → Ends rest
      → Takes table names (spell table names v rest) (Value t ∷ wanted) rest wanted
  takes_value table names words (whole z) ty.Whole rest wanted h ends = takes_token table names (signed_decimal z) rest (Value ty.Whole) wanted [] (number_token z h) ends (record { z = z; fits = h; is = refl; after = refl })
  takes_value table names words (whole z) ty.Truth rest wanted h ends = absurd h
  takes_value table names words (whole z) (ty.Tree t) rest wanted h ends = absurd h
  takes_value table names words (truth b) ty.Whole rest wanted h ends = absurd h
  takes_value table names words (truth b) ty.Truth rest wanted h ends = takes_token table names (truth_text b) rest (Value ty.Truth) wanted [] (word_token (truth_text b) (truth_word b)) ends (record { b = b; is = refl; after = refl })
  takes_value table names words (truth b) (ty.Tree t) rest wanted h ends = absurd h
  takes_value table names words (con k vs) ty.Whole rest wanted h ends = absurd h
  takes_value table names words (con k vs) ty.Truth rest wanted h ends = absurd h
  takes_value table names words (con k none) (ty.Tree t) rest wanted h ends =
      takes_token table names (con_text table names k) rest (Value (ty.Tree t)) wanted [] (word_token (con_text table names k) (words k (own_within table t.0 k h.0))) ends
      (inl (record { con = record { 0 = k }; own = h.0; bare = no_types table (fields_at table k) h.1; is = refl; after = refl }))
  takes_value table names words (con k (more v vs)) (ty.Tree t) rest wanted h ends =
      let name = con_text table names k in
      let some = some_types table v vs (fields_at table k) h.1 in
      let after = spell_fields table names (more v vs) rest in
      let id : ConId = record { 0 = k } in
      then_takes table names (40 ∷ (name ++ after)) (name ++ after) rest (Value (ty.Tree t) ∷ wanted) (Name t ∷ wanted) wanted
      (takes_one table names (40 ∷ []) (name ++ after) (Value (ty.Tree t)) wanted (Name t ∷ []) (omega arith) refl (inr (record { con = id; own = h.0; some = some; is = refl; after = refl })))
      (then_takes table names (name ++ after) after rest (Name t ∷ wanted) (fields_wanted id (fields_at table k) ++ wanted) wanted
      (takes_token table names name after (Name t) wanted (fields_wanted id (fields_at table k)) (word_token name (words k (own_within table t.0 k h.0))) (ends_fields table names (more v vs) rest)
      (record { con = id; own = h.0; some = some; is = refl; after = refl }))
      (takes_fields table names words (more v vs) (fields_at table k) id rest wanted h.1))

  takes_fields : (table : Table) (names : List (List ℕ)) → AreWords table names → (vs : Data) (ts : List Ty) (k : ConId) (rest : List ℕ) (wanted : List Due) → HaveTypes table vs ts
      → Takes table names (spell_fields table names vs rest) (fields_wanted k ts ++ wanted) rest wanted
  takes_fields table names words none [] k rest wanted h = takes_one table names (41 ∷ []) rest (Close k) wanted [] (omega arith) refl (refl, refl)
  takes_fields table names words none (t ∷ ts) k rest wanted h = absurd h
  takes_fields table names words (more v vs) [] k rest wanted h = absurd h
  takes_fields table names words (more v vs) (t ∷ ts) k rest wanted h =
      let after = spell_fields table names vs rest in
      let left = fields_wanted k ts ++ wanted in
      then_takes table names (32 ∷ spell table names v after) (spell table names v after) rest (Space ∷ Value t ∷ left) (Value t ∷ left) wanted
      (takes_one table names (32 ∷ []) (spell table names v after) Space (Value t ∷ left) [] (omega arith) refl (refl, refl))
      (then_takes table names (spell table names v after) after rest (Value t ∷ left) left wanted
      (takes_value table names words v t after left h.0 (ends_fields table names vs rest))
      (takes_fields table names words vs ts k rest wanted h.1))

pub takes_text : (table : Table) (names : List (List ℕ)) (t : Ty) (v : Datum) → AreWords table names → HasType table v t → Takes table names (text table names v) (Value t ∷ []) [] []
takes_text table names t v words h = takes_value table names words v t [] [] h tt
