-- What reading keeps from token to token.
use Rattle.std.proofs.Common.{◌≡◌, ℕ, zero, suc, ◌+◌, ◌-◌, ◌<◌, ◌≤◌, List, [], ◌∷◌, ◌++◌, length, take, drop, reverse, map, Some, refl, sym, ap, subst, ◌∙◌, arith, append_assoc, append-nil, length-append, inl, inr}
use Rattle.std.specs.List.{AllByRecursion}
use Rattle.std.proofs.lemmas.List.{reverse-append, length-take, length-drop, length-map, drop-drop, drop_at, take-append-le}
use Rattle.std.proofs.Math.Seq.{take-length, take-add}
use Rattle.gib_types.specs.declared.table.TyId.{TyId}
use Rattle.gib_types.specs.declared.table.ConId.{ConId}
use Rattle.gib_types.specs.declared.table.Ty.{Ty}
use Rattle.gib_types.specs.declared.table.Ty.TheVariants as ty
use Rattle.gib_types.specs.Table.{Table, con_at, fields_at}
use Rattle.gib_types.specs.Tree.{Datum, whole, truth, con, Data, none, more, data_of, list_of, HasType, HaveTypes}
use Rattle.gib_types.proofs.Owners.{con_at-owned, owned_within}
use Rattle.gib_value.specs.declared.node.Node.{Node}
use Rattle.gib_value.specs.Due.{Due, Value, Name, Space, Close}
use Rattle.gib_value.specs.Heap.{value_of, IsWithin}
use Rattle.gib_value.specs.Text.{con_text, spell, spell_fields}
use Rattle.gib_value.specs.Reading.{token_len, first_token, Cut, fields_wanted, CanStand, Stand, IsFull, closed, values_after, Steps, IsReady, IsStuck, IsRefusedAt, IsTextOf, Refuses}

-- ---- what completes a text

-- With these values done, bytes for what is wanted make the value v.
abbrev pub Completes : Table → List (List ℕ) → List Due → List Datum → List ℕ → Datum → Type 0
Completes table names [] vs bytes v = (vs ≡ v ∷ []) × (bytes ≡ [])
Completes table names (Space ∷ wanted) vs bytes v = (rest : List ℕ) × (bytes ≡ 32 ∷ rest) × Completes table names wanted vs rest v
Completes table names (Close k ∷ wanted) vs bytes v = (rest : List ℕ) × (bytes ≡ 41 ∷ rest) × Completes table names wanted (closed k.0 (length (fields_at table k.0)) vs) rest v
Completes table names (Value t ∷ wanted) vs bytes v = (u : Datum) × (rest : List ℕ) × HasType table u t × (bytes ≡ spell table names u rest) × Completes table names wanted (vs ++ u ∷ []) rest v
Completes table names (Name t ∷ wanted) vs bytes v =
    (k : ConId) × (us : Data) × (rest : List ℕ) × (con_at table t.0 k.0 ≡ Some k.0) × (0 < length (fields_at table k.0)) × HaveTypes table us (fields_at table k.0)
    × (bytes ≡ con_text table names k.0 ++ spell_fields table names us rest) × Completes table names wanted (vs ++ con k.0 us ∷ []) rest v

list_data : (us : Data) → data_of (list_of us) ≡ us
list_data none = refl
list_data (more u us) = ap (λ (l : Data). more u l) (list_data us)

length-types : (table : Table) (us : Data) (ts : List Ty) → HaveTypes table us ts → length (list_of us) ≡ length ts
length-types table none [] h = refl
length-types table none (t ∷ ts) h = absurd h
length-types table (more u us) [] h = absurd h
length-types table (more u us) (t ∷ ts) h = ap suc (length-types table us ts h.1)

-- fields that are wanted, and the end of their constructor
record Fields (table : Table) (names : List (List ℕ)) (k : ConId) (ts : List Ty) (wanted : List Due) (vs : List Datum) (bytes : List ℕ) (v : Datum) : Type 0 where
  us : Data
  rest : List ℕ
  typed : HaveTypes table us ts
  is : bytes ≡ spell_fields table names us rest
  completes : Completes table names wanted (closed k.0 (length (fields_at table k.0)) (vs ++ list_of us)) rest v

fields_complete : (table : Table) (names : List (List ℕ)) (k : ConId) (ts : List Ty) (wanted : List Due) (vs : List Datum) (bytes : List ℕ) (v : Datum)
    → Completes table names (fields_wanted k ts ++ wanted) vs bytes v → Fields table names k ts wanted vs bytes v
fields_complete table names k [] wanted vs bytes v (rest, is, h) = record {
  us = none;
  rest = rest;
  typed = tt;
  is = is;
  completes = subst (λ (l : List Datum). Completes table names wanted (closed k.0 (length (fields_at table k.0)) l) rest v) (sym (append-nil vs)) h;
}
fields_complete table names k (t ∷ ts) wanted vs bytes v (spaced, is, (u, after, typed, e, h)) =
    let f = fields_complete table names k ts wanted (vs ++ u ∷ []) after v h in
    record {
      us = more u f.us;
      rest = f.rest;
      typed = (typed, f.typed);
      is = is ∙ ap (λ (l : List ℕ). 32 ∷ l) (e ∙ ap (spell table names u) f.is);
      completes = subst (λ (l : List Datum). Completes table names wanted (closed k.0 (length (fields_at table k.0)) l) f.rest v) (append_assoc vs (u ∷ []) (list_of f.us)) f.completes;
    }

closed_last : (k : ℕ) (count : ℕ) (vs : List Datum) (us : Data) → length (list_of us) ≡ count → closed k count (vs ++ list_of us) ≡ vs ++ con k us ∷ []
closed_last k count vs us e =
    let at : length (vs ++ list_of us) - count ≡ length vs = omega (arith, length-append vs (list_of us)) in
    ap (λ (n : ℕ). take n (vs ++ list_of us) ++ con k (data_of (drop n (vs ++ list_of us))) ∷ []) at
    ∙ ap (λ (l : List Datum). l ++ con k (data_of (drop (length vs) (vs ++ list_of us))) ∷ []) (take-append-le (length vs) vs (list_of us) (omega arith) ∙ take-length vs)
    ∙ ap (λ (l : List Datum). vs ++ con k (data_of l) ∷ []) (drop_at vs (list_of us) (length vs) refl)
    ∙ ap (λ (l : Data). vs ++ con k l ∷ []) (list_data us)

name_back : (table : Table) (names : List (List ℕ)) (t : TyId) (token : List ℕ) (extra wanted : List Due) (vs : List Datum) (bytes : List ℕ) (v : Datum)
    → IsFull table names t token extra → Completes table names (extra ++ wanted) vs bytes v → Completes table names (Name t ∷ wanted) vs (token ++ bytes) v
name_back table names t token extra wanted vs bytes v full h =
    let k = full.con in
    let here = subst (λ (l : List Due). Completes table names (l ++ wanted) vs bytes v) full.after h in
    let f = fields_complete table names k (fields_at table k.0) wanted vs bytes v here in (
      k,
      f.us,
      f.rest,
      full.own,
      full.some,
      f.typed,
      ap (λ (l : List ℕ). l ++ bytes) full.is ∙ ap (λ (l : List ℕ). con_text table names k.0 ++ l) f.is,
      subst (λ (l : List Datum). Completes table names wanted l f.rest v) (closed_last k.0 (length (fields_at table k.0)) vs f.us (length-types table f.us (fields_at table k.0) f.typed)) f.completes,
    )

no_fields : (table : Table) (k : ℕ) → length (fields_at table k) ≡ 0 → HaveTypes table none (fields_at table k)
no_fields table k e = go (fields_at table k) e
  where
    go : (ts : List Ty) → length ts ≡ 0 → HaveTypes table none ts
    go [] e = tt
    go (t ∷ ts) e = absurd (omega arith)

-- a constructor with fields, spelled by its parenthesis
open_spell : (table : Table) (names : List (List ℕ)) (k : ℕ) (us : Data) (rest : List ℕ) → HaveTypes table us (fields_at table k) → 0 < length (fields_at table k)
    → 40 ∷ (con_text table names k ++ spell_fields table names us rest) ≡ spell table names (con k us) rest
open_spell table names k none rest h lt = absurd (let e = length-types table none (fields_at table k) h in omega arith)
open_spell table names k (more u us) rest h lt = refl

opened_back : (table : Table) (names : List (List ℕ)) (t : TyId) (token : List ℕ) (wanted : List Due) (vs : List Datum) (bytes : List ℕ) (v : Datum) → token ≡ 40 ∷ []
    → Completes table names (Name t ∷ wanted) vs bytes v → Completes table names (Value (ty.Tree t) ∷ wanted) vs (token ++ bytes) v
opened_back table names t token wanted vs bytes v e (k, us, rest, own, some, typed, is, c) =
    (con k.0 us, rest, (own, typed), ap (λ (l : List ℕ). l ++ bytes) e ∙ ap (λ (l : List ℕ). 40 ∷ l) is ∙ open_spell table names k.0 us rest typed some, c)

-- what completes the text after a token completes it with the token
pub back : (table : Table) (names : List (List ℕ)) (w : Due) (token : List ℕ) (extra wanted : List Due) (can : CanStand table names w token extra) (vs : List Datum) (bytes : List ℕ) (v : Datum)
    → Completes table names (extra ++ wanted) (values_after table names w token extra can vs) bytes v → Completes table names (w ∷ wanted) vs (token ++ bytes) v
back table names Space token extra wanted (is, after) vs bytes v h =
    (bytes, ap (λ (l : List ℕ). l ++ bytes) is, subst (λ (l : List Due). Completes table names (l ++ wanted) vs bytes v) after h)
back table names (Close k) token extra wanted (is, after) vs bytes v h =
    (bytes, ap (λ (l : List ℕ). l ++ bytes) is, subst (λ (l : List Due). Completes table names (l ++ wanted) (closed k.0 (length (fields_at table k.0)) vs) bytes v) after h)
back table names (Value ty.Whole) token extra wanted can vs bytes v h =
    (whole can.z, bytes, can.fits, ap (λ (l : List ℕ). l ++ bytes) can.is, subst (λ (l : List Due). Completes table names (l ++ wanted) (vs ++ whole can.z ∷ []) bytes v) can.after h)
back table names (Value ty.Truth) token extra wanted can vs bytes v h =
    (truth can.b, bytes, tt, ap (λ (l : List ℕ). l ++ bytes) can.is, subst (λ (l : List Due). Completes table names (l ++ wanted) (vs ++ truth can.b ∷ []) bytes v) can.after h)
back table names (Value (ty.Tree t)) token extra wanted (inl b) vs bytes v h = (
  con b.con.0 none,
  bytes,
  (b.own, no_fields table b.con.0 b.bare),
  ap (λ (l : List ℕ). l ++ bytes) b.is,
  subst (λ (l : List Due). Completes table names (l ++ wanted) (vs ++ con b.con.0 none ∷ []) bytes v) b.after h,
)
back table names (Value (ty.Tree t)) token extra wanted (inr o) vs bytes v h =
    opened_back table names t token wanted vs bytes v o.is (subst (λ (l : List Due). Completes table names (l ++ wanted) vs bytes v) o.after h)
back table names (Name t) token extra wanted can vs bytes v h = name_back table names t token extra wanted vs bytes v can h

-- ---- values for what is wanted

abbrev pub count_after : Table → Due → ℕ → ℕ
count_after table Space n = n
count_after table (Close k) n = n - length (fields_at table k.0) + 1
count_after table (Value t) n = n + 1
count_after table (Name t) n = n + 1

-- With so many values done, each constructor has its fields where it ends, and one value is left at the end.
abbrev pub AreReady : Table → List Due → ℕ → Type 0
AreReady table [] n = n ≡ 1
AreReady table (w ∷ wanted) n = IsReady table w n × AreReady table wanted (count_after table w n)

ready_fields : (table : Table) (k : ConId) (ts : List Ty) (wanted : List Due) (m n : ℕ) → k.0 < length table.rows → m + length ts ≡ n + length (fields_at table k.0)
    → AreReady table wanted (n + 1) → AreReady table (fields_wanted k ts ++ wanted) m
ready_fields table k [] wanted m n lt e h =
    ((lt, omega arith), (let same : m - length (fields_at table k.0) + 1 ≡ n + 1 = omega arith in subst (λ (i : ℕ). AreReady table wanted i) (sym same) h))
ready_fields table k (t ∷ ts) wanted m n lt e h = (tt, (tt, ready_fields table k ts wanted (m + 1) n lt (omega arith) h))

own_within : (table : Table) (t k : ℕ) → con_at table t k ≡ Some k → k < length table.rows
own_within table t k e = owned_within table.rows t k (con_at-owned table t k k e).1

length-closed : (k count : ℕ) (vs : List Datum) → count ≤ length vs → length (closed k count vs) ≡ length vs - count + 1
length-closed k count vs le = omega (arith, length-append (take (length vs - count) vs) (con k (data_of (drop (length vs - count) vs)) ∷ []), length-take (length vs - count) vs)

more_ready : (table : Table) (vs : List Datum) (v : Datum) (wanted : List Due) → AreReady table wanted (length vs + 1) → AreReady table wanted (length (vs ++ v ∷ []))
more_ready table vs v wanted h = let e : length vs + 1 ≡ length (vs ++ v ∷ []) = omega (arith, length-append vs (v ∷ [])) in subst (λ (i : ℕ). AreReady table wanted i) e h

pub ready_step : (table : Table) (names : List (List ℕ)) (w : Due) (token : List ℕ) (extra wanted : List Due) (can : CanStand table names w token extra) (vs : List Datum)
    → AreReady table (w ∷ wanted) (length vs) → AreReady table (extra ++ wanted) (length (values_after table names w token extra can vs))
ready_step table names Space token extra wanted can vs h = subst (λ (l : List Due). AreReady table (l ++ wanted) (length vs)) (sym can.1) h.1
ready_step table names (Close k) token extra wanted can vs h =
    subst (λ (l : List Due). AreReady table (l ++ wanted) (length (closed k.0 (length (fields_at table k.0)) vs))) (sym can.1)
    (subst (λ (i : ℕ). AreReady table wanted i) (sym (length-closed k.0 (length (fields_at table k.0)) vs h.0.1)) h.1)
ready_step table names (Value ty.Whole) token extra wanted can vs h = subst (λ (l : List Due). AreReady table (l ++ wanted) (length (vs ++ whole can.z ∷ []))) (sym can.after) (more_ready table vs (whole can.z) wanted h.1)
ready_step table names (Value ty.Truth) token extra wanted can vs h = subst (λ (l : List Due). AreReady table (l ++ wanted) (length (vs ++ truth can.b ∷ []))) (sym can.after) (more_ready table vs (truth can.b) wanted h.1)
ready_step table names (Value (ty.Tree t)) token extra wanted (inl b) vs h = subst (λ (l : List Due). AreReady table (l ++ wanted) (length (vs ++ con b.con.0 none ∷ []))) (sym b.after) (more_ready table vs (con b.con.0 none) wanted h.1)
ready_step table names (Value (ty.Tree t)) token extra wanted (inr o) vs h = subst (λ (l : List Due). AreReady table (l ++ wanted) (length vs)) (sym o.after) (tt, h.1)
ready_step table names (Name t) token extra wanted can vs h =
    subst (λ (l : List Due). AreReady table (l ++ wanted) (length vs)) (sym can.after)
    (ready_fields table can.con (fields_at table can.con.0) wanted (length vs) (length vs) (own_within table t.0 can.con.0 can.own) refl h.1)

-- ---- one more token

pub Cut-snoc : (bytes : List ℕ) (tokens : List (List ℕ)) (rest : List ℕ) → Cut bytes tokens rest → 0 < token_len rest → Cut bytes (tokens ++ first_token rest ∷ []) (drop (token_len rest) rest)
Cut-snoc bytes [] rest e lt = (subst (λ (l : List ℕ). 0 < token_len l) (sym e) lt, ap first_token (sym e), ap (λ (l : List ℕ). drop (token_len l) l) e)
Cut-snoc bytes (t ∷ tokens) rest h lt = (h.0, h.1, Cut-snoc (drop (token_len bytes) bytes) tokens rest h.2 lt)

pub Stand-snoc : (table : Table) (names : List (List ℕ)) (wanted : List Due) (tokens : List (List ℕ)) (w : Due) (after extra : List Due) (token : List ℕ)
    → Stand table names wanted tokens (w ∷ after) → CanStand table names w token extra → Stand table names wanted (tokens ++ token ∷ []) (extra ++ after)
Stand-snoc table names wanted [] w after extra token e can = subst (λ (l : List Due). Stand table names l (token ∷ []) (extra ++ after)) (sym e) (extra, can, refl)
Stand-snoc table names [] (t ∷ tokens) w after extra token h can = absurd h
Stand-snoc table names (x ∷ xs) (t ∷ tokens) w after extra token (m, c, s) can = (m, c, Stand-snoc table names (m ++ xs) tokens w after extra token s can)

-- ---- the loop

pub record Reads (table : Table) (names : List (List ℕ)) (t : Ty) (bytes : List ℕ) (at : ℕ) (heap : List Datum) (done : List Node) (wanted : List Due) : Type 0 where
  pub within : at ≤ length bytes
  pub tokens : List (List ℕ)
  pub cut : Cut bytes tokens (drop at bytes)
  pub stand : Stand table names (Value t ∷ []) tokens wanted
  pub ready : AreReady table wanted (length done)
  pub held : AllByRecursion (IsWithin (length heap)) done
  pub completes : (rest : List ℕ) (v : Datum) → Completes table names wanted (map (value_of heap) done) rest v → HasType table v t × (spell table names v [] ≡ take at bytes ++ rest)

pub reads_start : (table : Table) (names : List (List ℕ)) (t : Ty) (bytes : List ℕ) → Reads table names t bytes 0 [] [] (Value t ∷ [])
reads_start table names t bytes = record {
  within = omega arith;
  tokens = [];
  cut = refl;
  stand = refl;
  ready = (tt, omega arith);
  held = tt;
  completes = λ rest v h. start table names t rest v h;
}
  where
    start : (table : Table) (names : List (List ℕ)) (t : Ty) (rest : List ℕ) (v : Datum) → Completes table names (Value t ∷ []) [] rest v → HasType table v t × (spell table names v [] ≡ rest)
    start table names t rest v (u, after, typed, is, (same, nil)) =
        let own : u ≡ v = cc in
        (subst (λ (x : Datum). HasType table x t) own typed, ap (λ (x : Datum). spell table names x []) (sym own) ∙ ap (spell table names u) (sym nil) ∙ sym is)

pub reads_step : (table : Table) (names : List (List ℕ)) (t : Ty) (bytes : List ℕ) (at len : ℕ) (heap later : List Datum) (done next : List Node) (w : Due) (wanted left : List Due) (token : List ℕ)
    → Reads table names t bytes at heap done (w ∷ wanted) → len ≡ token_len (drop at bytes) → 0 < len → at + len ≤ length bytes → token ≡ take len (drop at bytes)
    → Steps table names w token heap later done next wanted left → Reads table names t bytes (at + len) later next left
reads_step table names t bytes at len heap later done next w wanted left token r long some le is s =
    let first : token ≡ first_token (drop at bytes) = is ∙ ap (λ (n : ℕ). take n (drop at bytes)) long in
    let vs = map (value_of heap) done in
    let after = values_after table names w token s.more s.can vs in
    let count : length next ≡ length after = sym (length-map next (value_of later)) ∙ ap length s.values in
    record {
      within = le;
      tokens = r.tokens ++ token ∷ [];
      cut = subst (λ (l : List ℕ). Cut bytes (r.tokens ++ token ∷ []) l) (ap (λ (n : ℕ). drop n (drop at bytes)) (sym long) ∙ drop-drop len at bytes)
          (subst (λ (x : List ℕ). Cut bytes (r.tokens ++ x ∷ []) (drop (token_len (drop at bytes)) (drop at bytes))) (sym first) (Cut-snoc bytes r.tokens (drop at bytes) r.cut (omega (arith, long, some))));
      stand = subst (λ (l : List Due). Stand table names (Value t ∷ []) (r.tokens ++ token ∷ []) l) (sym s.goes_on) (Stand-snoc table names (Value t ∷ []) r.tokens w wanted s.more token r.stand s.can);
      ready = subst (λ (l : List Due). AreReady table l (length next)) (sym s.goes_on)
          (subst (λ (i : ℕ). AreReady table (s.more ++ wanted) i) (sym count)
          (ready_step table names w token s.more wanted s.can vs (subst (λ (i : ℕ). AreReady table (w ∷ wanted) i) (sym (length-map done (value_of heap))) r.ready)));
      held = s.held;
      completes = λ rest v h.
          let here : Completes table names (s.more ++ wanted) after rest v = subst (λ (l : List Due). Completes table names l after rest v) s.goes_on (subst (λ (x : List Datum). Completes table names left x rest v) s.values h) in
          let old = r.completes (token ++ rest) v (back table names w token s.more wanted s.can vs rest v here) in
          (old.0, old.1 ∙ sym (append_assoc (take at bytes) token rest) ∙ ap (λ (l : List ℕ). (take at bytes ++ l) ++ rest) is ∙ ap (λ (l : List ℕ). l ++ rest) (sym (take-add at len bytes)));
    }

-- ---- where it ends

pub refused_here : (table : Table) (names : List (List ℕ)) (t : Ty) (bytes : List ℕ) (at : ℕ) (heap : List Datum) (done : List Node) (wanted : List Due)
    → Reads table names t bytes at heap done wanted → IsStuck table names wanted (drop at bytes) → IsRefusedAt table names t bytes at
refused_here table names t bytes at heap done wanted r stuck = record { within = r.within; tokens = r.tokens; wanted = wanted; cut = r.cut; stand = r.stand; stuck = stuck }

pub read_all : (table : Table) (names : List (List ℕ)) (t : Ty) (bytes : List ℕ) (at : ℕ) (heap : List Datum) (front : List Node) (root : Node)
    → Reads table names t bytes at heap (front ++ root ∷ []) [] → length bytes ≤ at → IsTextOf table names t (value_of heap root) bytes
read_all table names t bytes at heap [] root r le =
    let whole_text = r.completes [] (value_of heap root) (refl, refl) in
    record { typed = whole_text.0; is = sym (whole_text.1 ∙ append-nil (take at bytes) ∙ take_past at bytes le) }
  where
    take_past : (n : ℕ) (xs : List ℕ) → length xs ≤ n → take n xs ≡ xs
    take_past zero [] le = refl
    take_past zero (x ∷ xs) le = absurd (omega arith)
    take_past (suc n) [] le = refl
    take_past (suc n) (x ∷ xs) le = ap (λ (l : List ℕ). x ∷ l) (take_past n xs (omega arith))
read_all table names t bytes at heap (n ∷ front) root r le = absurd (omega (arith, r.ready, length-append front (root ∷ [])))

-- ---- the same of the code's stacks

pub reads_begin : (table : Table) (names : List (List ℕ)) (t : Ty) (bytes : List ℕ) (heap : List Datum) (done : List Node) (wanted before : List Due)
    → heap ≡ [] → done ≡ [] → wanted ≡ Value t ∷ before → before ≡ [] → Reads table names t bytes 0 heap done wanted
reads_begin table names t bytes heap done wanted before h d i b =
    let all : wanted ≡ Value t ∷ [] = i ∙ ap (λ (l : List Due). Value t ∷ l) b in
    subst (λ (l : List Due). Reads table names t bytes 0 heap done l) (sym all)
    (subst (λ (l : List Node). Reads table names t bytes 0 heap l (Value t ∷ [])) (sym d)
    (subst (λ (l : List Datum). Reads table names t bytes 0 l [] (Value t ∷ [])) (sym h) (reads_start table names t bytes)))

pub reads_turn : (table : Table) (names : List (List ℕ)) (t : Ty) (bytes rest : List ℕ) (at len : ℕ) (heap later : List Datum) (done next : List Node) (w : Due) (wanted behind : List Due) (left : List Due) (token : List ℕ)
    → Reads table names t bytes at heap done wanted → wanted ≡ w ∷ behind → rest ≡ drop at bytes → len ≡ token_len rest → (len ≡ 0 → ⊥) → len ≤ length rest → token ≡ take len rest
    → Steps table names w token heap later done next behind left → Reads table names t bytes (at + len) later next left
reads_turn table names t bytes rest at len heap later done next w wanted behind left token r e from long some le is s =
    reads_step table names t bytes at len heap later done next w behind left token
    (subst (λ (l : List Due). Reads table names t bytes at heap done l) e r)
    (long ∙ ap token_len from) (omega arith) (omega (arith, ap length from, length-drop at bytes, r.within)) (is ∙ ap (take len) from) s

pub refused_turn : (table : Table) (names : List (List ℕ)) (t : Ty) (bytes rest : List ℕ) (at len : ℕ) (heap : List Datum) (done : List Node) (w : Due) (wanted behind : List Due) (token : List ℕ)
    → Reads table names t bytes at heap done wanted → wanted ≡ w ∷ behind → rest ≡ drop at bytes → len ≡ token_len rest → token ≡ take len rest
    → Refuses table names w token → IsRefusedAt table names t bytes at
refused_turn table names t bytes rest at len heap done w wanted behind token r e from long is refused =
    let first : token ≡ first_token (drop at bytes) = is ∙ ap (λ (n : ℕ). take n rest) long ∙ ap first_token from in
    refused_here table names t bytes at heap done (w ∷ behind)
    (subst (λ (l : List Due). Reads table names t bytes at heap done l) e r)
    (λ lt extra can. refused extra (subst (λ (x : List ℕ). CanStand table names w x extra) (sym first) can))

pub refused_end : (table : Table) (names : List (List ℕ)) (t : Ty) (bytes : List ℕ) (at : ℕ) (heap : List Datum) (done : List Node) (wanted : List Due)
    → Reads table names t bytes at heap done wanted → wanted ≡ [] → at < length bytes → IsRefusedAt table names t bytes at
refused_end table names t bytes at heap done wanted r e lt =
    refused_here table names t bytes at heap done [] (subst (λ (l : List Due). Reads table names t bytes at heap done l) e r)
    (λ nil. let n = length-drop at bytes in let z : length (drop at bytes) ≡ 0 = ap length nil in omega arith)

pub read_end : (table : Table) (names : List (List ℕ)) (t : Ty) (bytes : List ℕ) (at : ℕ) (heap : List Datum) (done front : List Node) (root : Node) (wanted : List Due) (v : Datum)
    → Reads table names t bytes at heap done wanted → wanted ≡ [] → length bytes ≤ at → done ≡ front ++ root ∷ [] → v ≡ value_of heap root → IsTextOf table names t v bytes
read_end table names t bytes at heap done front root wanted v r e le d is =
    subst (λ (x : Datum). IsTextOf table names t x bytes) (sym is)
    (read_all table names t bytes at heap front root
    (subst (λ (l : List Node). Reads table names t bytes at heap l []) d (subst (λ (l : List Due). Reads table names t bytes at heap done l) e r)) le)
