-- The next head of what is left of a payload.
use Rattle.std.proofs.Common.{◌≡◌, ℕ, zero, suc, ◌+◌, ◌-◌, ◌*◌, ◌<◌, ◌≤◌, List, [], ◌∷◌, ◌++◌, length, drop, get_or, length-drop, refl, sym, ap, subst, subst₂, ◌∙◌, arith, append_assoc, append-nil, length-append, Bool, true, false, Option, Some, None}
use Rattle.std.proofs.Math.Seq.{drop-append_seam, drop-drop}
use Rattle.gib_mem.specs.Memory.{Memory}
use Rattle.gib_types.specs.declared.table.Ty.TheVariants as ty
use Rattle.gib_types.specs.declared.table.TyId.{TyId}
use Rattle.gib_types.specs.Table.{fields_at}
use Rattle.gib_types.specs.declared.layouts.Layout.{Layout}
use Rattle.gib_types.specs.Layout.{LaidOut, layout_at, head_size, has_offsets, packed_at, offset_size}
use Rattle.gib_types.specs.Tree.{Datum, whole, truth, con, Data, none, more}
use Rattle.gib_file.specs.Packed.{Packed}
use Rattle.gib_packed.specs.Scalars.{scalars}
use Rattle.gib_load.specs.Preorder.{Head, heads, all_heads}
use Rattle.gib_load.specs.Spot.{Spot, past_item, past_value, past_fields, places}
use Rattle.gib_load.specs.Gaps.{noted, filled, next_gap, later_gaps, gaps_from, with_gaps, first_gaps, stored_count}
use Rattle.gib_load.specs.Rest.{Rest, IsLong, bytes_of, IsHead, AreHeads, one_head, all_of, starts}
use Rattle.gib_load.proofs.Heads.{tree-bytes, heads-typed, scalars-length}
use Rattle.gib_load.proofs.Spots.{places-length}
use Rattle.gib_load.proofs.Noting.{filled_append, filled_none, filled_next, gaps_length}
use Rattle.gib_load.proofs.Parts.{drop_next}

-- the packed values among fields
abbrev pub roots : Data → List Head
roots none = []
roots (more (whole z) vs) = roots vs
roots (more (truth b) vs) = roots vs
roots (more (con k ws) vs) = record { tag = k; fields = ws } ∷ roots vs

-- behind values
abbrev past_all : LaidOut → Spot → List Head → Spot
past_all laid s [] = s
past_all laid s (h ∷ f) = past_all laid (past_fields laid (past_item s (head_size laid h.tag)) h.fields) f

roots-heads : (vs : Data) → all_heads vs ≡ all_of (roots vs)
roots-heads none = refl
roots-heads (more (whole z) vs) = roots-heads vs
roots-heads (more (truth b) vs) = roots-heads vs
roots-heads (more (con k ws) vs) = ap (λ (l : List Head). record { tag = k; fields = ws } ∷ (all_heads ws ++ l)) (roots-heads vs)

all_of-append : (f g : List Head) → all_of (f ++ g) ≡ all_of f ++ all_of g
all_of-append [] g = refl
all_of-append (h ∷ f) g =
    ap (λ (l : List Head). h ∷ (all_heads h.fields ++ l)) (all_of-append f g)
    ∙ ap (λ (l : List Head). h ∷ l) (sym (append_assoc (all_heads h.fields) (all_of f) (all_of g)))

pub all_of-long : (f : List Head) → length f ≤ length (all_of f)
all_of-long [] = omega arith
all_of-long (h ∷ f) = let a = all_of-long f in let l = length-append (all_heads h.fields) (all_of f) in omega (arith, a, l)

roots-starts : (laid : LaidOut) (s : Spot) (vs : Data) → places laid s vs ≡ starts laid s (roots vs)
roots-starts laid s none = refl
roots-starts laid s (more (whole z) vs) = roots-starts laid s vs
roots-starts laid s (more (truth b) vs) = roots-starts laid s vs
roots-starts laid s (more (con k ws) vs) = ap (λ (l : List ℕ). s.at ∷ l) (roots-starts laid (past_value laid s (con k ws)) vs)

roots-past : (laid : LaidOut) (s : Spot) (vs : Data) → past_fields laid s vs ≡ past_all laid s (roots vs)
roots-past laid s none = refl
roots-past laid s (more (whole z) vs) = roots-past laid s vs
roots-past laid s (more (truth b) vs) = roots-past laid s vs
roots-past laid s (more (con k ws) vs) = roots-past laid (past_value laid s (con k ws)) vs

starts-append : (laid : LaidOut) (s : Spot) (f g : List Head) → starts laid s (f ++ g) ≡ starts laid s f ++ starts laid (past_all laid s f) g
starts-append laid s [] g = refl
starts-append laid s (h ∷ f) g = ap (λ (l : List ℕ). s.at ∷ l) (starts-append laid (past_fields laid (past_item s (head_size laid h.tag)) h.fields) f g)

starts-length : (laid : LaidOut) (s : Spot) (f : List Head) → length (starts laid s f) ≡ length f
starts-length laid s [] = refl
starts-length laid s (h ∷ f) = omega (arith, starts-length laid (past_fields laid (past_item s (head_size laid h.tag)) h.fields) f)

-- the next head of those that are left, and what is behind it
pub record NextRest (laid : LaidOut) (noting : Bool) (spot : Spot) (now : Memory) (b : ℕ) (bytes : List ℕ) (dues : List (Option ℕ)) (target : Memory) (forest : List Head) : Type 0 where
  pub head : Head
  pub behind : List Head
  pub is_forest : forest ≡ head ∷ behind
  pub tag : b ≡ head.tag
  pub left : bytes ≡ (head.tag ∷ scalars head.fields) ++ bytes_of (all_heads head.fields ++ all_of behind)
  pub is : IsHead laid.table head
  pub typed : AreHeads laid.table (all_heads head.fields ++ all_of behind)
  pub long : IsLong laid noting (later_gaps dues) behind
  pub same : filled (noted now (next_gap dues) spot.at) (later_gaps dues) (starts laid (past_fields laid (past_item spot (head_size laid head.tag)) head.fields) behind) ≡ target

later_long : (laid : LaidOut) (noting : Bool) (ds : List (Option ℕ)) (h : Head) (f : List Head) → IsLong laid noting ds (h ∷ f) → IsLong laid noting (later_gaps ds) f
later_long laid false [] h f l = (refl, l.1)
later_long laid false (d ∷ ds) h f l = absurd (let e = ap length l.0 in omega (arith, e))
later_long laid true [] h f l = absurd (omega (arith, l))
later_long laid true (d ∷ ds) h f l = omega (arith, l)

pub next_rest : (laid : LaidOut) (noting : Bool) (spot : Spot) (now : Memory) (b : ℕ) (bs bytes : List ℕ) (dues : List (Option ℕ)) (target : Memory) → bytes ≡ b ∷ bs → (r : Rest laid noting spot now bytes dues target)
    → NextRest laid noting spot now b bytes dues target r.forest
next_rest laid noting spot now b bs bytes dues target e r = go r.forest r.left r.typed r.long r.same
  where
    go : (f : List Head) → bytes ≡ bytes_of (all_of f) → AreHeads laid.table (all_of f) → IsLong laid noting dues f → filled now dues (starts laid spot f) ≡ target → NextRest laid noting spot now b bytes dues target f
    go [] left typed long same = absurd cc
    go (h ∷ f) left (one_head is typed) long same = record {
      head = h;
      behind = f;
      is_forest = refl;
      tag = cc;
      left = left;
      is = is;
      typed = typed;
      long = later_long laid noting dues h f long;
      same = sym (filled_next now dues spot.at (starts laid (past_fields laid (past_item spot (head_size laid h.tag)) h.fields) f)) ∙ same;
    }

-- behind the last one
pub last_rest : (laid : LaidOut) (noting : Bool) (spot : Spot) (now : Memory) (bytes : List ℕ) (dues : List (Option ℕ)) (target : Memory) → bytes ≡ [] → (r : Rest laid noting spot now bytes dues target) → (r.forest ≡ []) × (now ≡ target)
last_rest laid noting spot now bytes dues target e r = go r.forest (sym r.left ∙ e) r.same
  where
    none_filled : (ds : List (Option ℕ)) → filled now ds [] ≡ now
    none_filled [] = refl
    none_filled (d ∷ ds) = refl

    go : (f : List Head) → bytes_of (all_of f) ≡ [] → filled now dues (starts laid spot f) ≡ target → (f ≡ []) × (now ≡ target)
    go [] q same = (refl, sym (none_filled dues) ∙ same)
    go (h ∷ f) q same = absurd cc

-- the same spot and memory
pub rest_same : (laid : LaidOut) (noting : Bool) (s s' : Spot) (m m' : Memory) (bytes : List ℕ) (dues : List (Option ℕ)) → s ≡ s' → m ≡ m' → (target : Memory) (room : ℕ) (r : Rest laid noting s m bytes dues target)
    → (length (all_of r.forest) ≤ room → (x : Rest laid noting s' m' bytes dues target) × (length (all_of x.forest) ≤ room)) × Rest laid noting s' m' bytes dues target
rest_same laid noting s s' m m' bytes dues e f target room r =
    let x : Rest laid noting s' m' bytes dues target = record {
      forest = r.forest;
      left = r.left;
      typed = r.typed;
      long = r.long;
      same = ap (λ (k : Memory). filled k dues (starts laid s' r.forest)) (sym f) ∙ ap (λ (k : Spot). filled m dues (starts laid k r.forest)) (sym e) ∙ r.same;
    } in
    (λ few. (x, few), x)

-- the values that are due behind it
module _ (laid : LaidOut) (h : Head) (f : List Head) (spot : Spot) (is : IsHead laid.table h) where
  pub heads_then : all_of (roots h.fields ++ f) ≡ all_heads h.fields ++ all_of f
  heads_then = all_of-append (roots h.fields) f ∙ ap (λ (l : List Head). l ++ all_of f) (sym (roots-heads h.fields))

  pub starts_then : starts laid (past_item spot (head_size laid h.tag)) (roots h.fields ++ f)
      ≡ places laid (past_item spot (head_size laid h.tag)) h.fields ++ starts laid (past_fields laid (past_item spot (head_size laid h.tag)) h.fields) f
  starts_then =
      starts-append laid (past_item spot (head_size laid h.tag)) (roots h.fields) f
      ∙ ap (λ (l : List ℕ). l ++ starts laid (past_all laid (past_item spot (head_size laid h.tag)) (roots h.fields)) f) (sym (roots-starts laid (past_item spot (head_size laid h.tag)) h.fields))
      ∙ ap (λ (x : Spot). places laid (past_item spot (head_size laid h.tag)) h.fields ++ starts laid x f) (sym (roots-past laid (past_item spot (head_size laid h.tag)) h.fields))

  pub places_many : length (places laid (past_item spot (head_size laid h.tag)) h.fields) ≡ packed_at laid h.tag
  places_many = places-length laid (past_item spot (head_size laid h.tag)) h.fields (fields_at laid.table h.tag) is.typed

  pub long_then : (noting stores : Bool) (base : ℕ) (ds : List (Option ℕ)) → IsLong laid noting ds f → IsLong laid noting (with_gaps noting (gaps_from stores base 0 (packed_at laid h.tag)) ds) (roots h.fields ++ f)
  long_then false stores base ds l = (l.0, l.1)
  long_then true stores base ds l =
      let x = length-append (gaps_from stores base 0 (packed_at laid h.tag)) ds in
      let y = gaps_length stores base 0 (packed_at laid h.tag) in
      let z = length-append (roots h.fields) f in
      let u = ap length (roots-starts laid (past_item spot (head_size laid h.tag)) h.fields) in
      let w = starts-length laid (past_item spot (head_size laid h.tag)) (roots h.fields) in
      let v = places_many in
      omega (arith, x, y, z, u, w, v, l)

  -- where the head is not placed
  none_filled : (noting : Bool) (base : ℕ) (m : Memory) (ds : List (Option ℕ)) → IsLong laid noting ds f
      → filled m (with_gaps noting (gaps_from false base 0 (packed_at laid h.tag)) ds) (places laid (past_item spot (head_size laid h.tag)) h.fields ++ starts laid (past_fields laid (past_item spot (head_size laid h.tag)) h.fields) f)
      ≡ filled m ds (starts laid (past_fields laid (past_item spot (head_size laid h.tag)) h.fields) f)
  none_filled false base m ds l = rw l.0 refl
  none_filled true base m ds l =
      filled_append m (gaps_from false base 0 (packed_at laid h.tag)) ds (places laid (past_item spot (head_size laid h.tag)) h.fields) (starts laid (past_fields laid (past_item spot (head_size laid h.tag)) h.fields) f)
      (gaps_length false base 0 (packed_at laid h.tag) ∙ sym places_many)
      ∙ ap (λ (x : Memory). filled x ds (starts laid (past_fields laid (past_item spot (head_size laid h.tag)) h.fields) f)) (filled_none m base 0 (packed_at laid h.tag) (places laid (past_item spot (head_size laid h.tag)) h.fields))

  pub unplaced : (noting : Bool) (base : ℕ) (m : Memory) (ds : List (Option ℕ)) (target : Memory) → IsLong laid noting ds f
      → filled m ds (starts laid (past_fields laid (past_item spot (head_size laid h.tag)) h.fields) f) ≡ target
      → filled m (with_gaps noting (gaps_from false base 0 (packed_at laid h.tag)) ds) (starts laid (past_item spot (head_size laid h.tag)) (roots h.fields ++ f)) ≡ target
  unplaced noting base m ds target l same = ap (filled m (with_gaps noting (gaps_from false base 0 (packed_at laid h.tag)) ds)) starts_then ∙ none_filled noting base m ds l ∙ same

-- before the first head
pub first_rest : (laid : LaidOut) (noting : Bool) (s : Spot) (now : Memory) (t : TyId) (k : ℕ) (vs : Data) (bytes : List ℕ) (dues : List (Option ℕ)) → Packed laid.table (ty.Tree t) (con k vs) bytes → dues ≡ first_gaps noting
    → (noting ≡ false → (x : ℕ) → x < length laid.table.rows → has_offsets laid x ≡ false) → Rest laid noting s now bytes dues now
first_rest laid noting s now t k vs bytes dues p e plain =
    let h : Head = record { tag = k; fields = vs } in
    let one : heads (con k vs) ≡ all_of (h ∷ []) = ap (λ (l : List Head). h ∷ l) (sym (append-nil (all_heads vs))) in
    record {
      forest = h ∷ [];
      left = p.1 ∙ tree-bytes (con k vs) ∙ ap bytes_of one;
      typed = subst (AreHeads laid.table) one (heads-typed laid.table (con k vs) (ty.Tree t) p.0);
      long = subst (λ (ds : List (Option ℕ)). IsLong laid noting ds (h ∷ [])) (sym e) (long noting plain h);
      same = ap (λ (ds : List (Option ℕ)). filled now ds (s.at ∷ [])) e ∙ same noting;
    }
  where
    long : (b : Bool) → (b ≡ false → (x : ℕ) → x < length laid.table.rows → has_offsets laid x ≡ false) → (h : Head) → IsLong laid b (first_gaps b) (h ∷ [])
    long false q h = (refl, q refl)
    long true q h = refl

    same : (b : Bool) → filled now (first_gaps b) (s.at ∷ []) ≡ now
    same false = refl
    same true = refl

pub first_parts : (laid : LaidOut) (noting : Bool) (s : Spot) (now : Memory) (t : TyId) (k : ℕ) (vs : Data) (bytes : List ℕ) (dues : List (Option ℕ)) (p : Packed laid.table (ty.Tree t) (con k vs) bytes) (e : dues ≡ first_gaps noting)
    (plain : noting ≡ false → (x : ℕ) → x < length laid.table.rows → has_offsets laid x ≡ false) → heads (con k vs) ≡ [] ++ all_of (first_rest laid noting s now t k vs bytes dues p e plain).forest
unfolding first_rest
first_parts laid noting s now t k vs bytes dues p e plain = ap (λ (l : List Head). record { tag = k; fields = vs } ∷ l) (sym (append-nil (all_heads vs)))

-- a head and its layout
module _ (laid : LaidOut) (payload : List ℕ) (at : ℕ) (lt : at < length payload) (h : Head) (later : List Head) (is : IsHead laid.table h) (left : drop at payload ≡ (h.tag ∷ scalars h.fields) ++ bytes_of later)
    (b : ℕ) (tag : b ≡ h.tag) (layout : Layout) (laid_out : layout ≡ layout_at laid.table laid.with_offsets b) where
  layout_is : layout ≡ layout_at laid.table laid.with_offsets h.tag
  layout_is = laid_out ∙ ap (λ (k : ℕ). layout_at laid.table laid.with_offsets k) tag

  pub head_is : layout.head ≡ head_size laid h.tag
  head_is = ap (λ (l : Layout). l.head) layout_is

  pub packed_is : layout.packed ≡ packed_at laid h.tag
  packed_is = ap (λ (l : Layout). l.packed) layout_is

  pub item_long : length (h.tag ∷ scalars h.fields) ≡ 1 + layout.scalars
  item_long =
      let a = scalars-length laid.table h.fields (fields_at laid.table h.tag) is.typed in
      let c = ap (λ (l : Layout). l.scalars) layout_is in
      omega (arith, a, c)

  pub scalars-long : layout.head ≡ 1 + layout.scalars + offset_size (has_offsets laid h.tag) (packed_at laid h.tag)
  scalars-long = let e = ap (λ (l : Layout). l.head) layout_is in let f = ap (λ (l : Layout). l.scalars) layout_is in omega (arith, e, f)

  pub item_fits : at + (1 + layout.scalars) ≤ length payload
  item_fits =
      let e = ap length left in
      let l = length-append (h.tag ∷ scalars h.fields) (bytes_of later) in
      let n = item_long in
      let d = length-drop at payload in
      omega (arith, e, l, n, d, lt)

  pub left_then : drop (at + (1 + layout.scalars)) payload ≡ bytes_of later
  left_then =
      let item = h.tag ∷ scalars h.fields in
      let m : at + (1 + layout.scalars) ≡ at + length item = let n = item_long in omega (arith, n) in
      ap (λ (k : ℕ). drop k payload) m ∙ sym (drop-drop (length item) at payload) ∙ ap (drop (length item)) left ∙ drop-append_seam item (bytes_of later)

-- a step of the walk over what is not placed
module _ (laid : LaidOut) (noting : Bool) (payload : List ℕ) (at : ℕ) (lt : at < length payload) (spot : Spot) (now : Memory) (dues : List (Option ℕ)) (target : Memory) (r : Rest laid noting spot now (drop at payload) dues target)
    (layout : Layout) (laid_out : layout ≡ layout_at laid.table laid.with_offsets (get_or payload at 0)) where
  pub nx : NextRest laid noting spot now (get_or payload at 0) (drop at payload) dues target r.forest
  nx = next_rest laid noting spot now (get_or payload at 0) (drop (at + 1) payload) (drop at payload) dues target (drop_next payload at lt) r

  pub rest_fits : at + (1 + layout.scalars) ≤ length payload
  rest_fits = item_fits laid payload at lt nx.head (all_heads nx.head.fields ++ all_of nx.behind) nx.is nx.left (get_or payload at 0) nx.tag layout laid_out

  pub rest_packed : layout.packed ≡ packed_at laid nx.head.tag
  rest_packed = packed_is laid payload at lt nx.head (all_heads nx.head.fields ++ all_of nx.behind) nx.is nx.left (get_or payload at 0) nx.tag layout laid_out

  pub rest_on : (base : ℕ) (s' : Spot) (m : Memory) (ds : List (Option ℕ)) → m ≡ noted now (next_gap dues) spot.at → ds ≡ with_gaps noting (gaps_from false base 0 layout.packed) (later_gaps dues) → s' ≡ past_item spot layout.head
      → Rest laid noting s' m (drop (at + (1 + layout.scalars)) payload) ds target
  rest_on base s' m ds me de se =
      let later = all_heads nx.head.fields ++ all_of nx.behind in
      let size = head_is laid payload at lt nx.head later nx.is nx.left (get_or payload at 0) nx.tag layout laid_out in
      let spot_is : s' ≡ past_item spot (head_size laid nx.head.tag) = se ∙ ap (past_item spot) size in
      let dues_are : ds ≡ with_gaps noting (gaps_from false base 0 (packed_at laid nx.head.tag)) (later_gaps dues) = de ∙ ap (λ (n : ℕ). with_gaps noting (gaps_from false base 0 n) (later_gaps dues)) rest_packed in
      let on = unplaced laid nx.head nx.behind spot nx.is noting base (noted now (next_gap dues) spot.at) (later_gaps dues) target nx.long nx.same in
      record {
        forest = roots nx.head.fields ++ nx.behind;
        left = left_then laid payload at lt nx.head later nx.is nx.left (get_or payload at 0) nx.tag layout laid_out ∙ ap bytes_of (sym (heads_then laid nx.head nx.behind spot nx.is));
        typed = subst (AreHeads laid.table) (sym (heads_then laid nx.head nx.behind spot nx.is)) nx.typed;
        long = subst (λ (x : List (Option ℕ)). IsLong laid noting x (roots nx.head.fields ++ nx.behind)) (sym dues_are) (long_then laid nx.head nx.behind spot nx.is noting false base (later_gaps dues) nx.long);
        same = ap (λ (x : Memory). filled x ds (starts laid s' (roots nx.head.fields ++ nx.behind))) me
            ∙ ap (λ (x : List (Option ℕ)). filled (noted now (next_gap dues) spot.at) x (starts laid s' (roots nx.head.fields ++ nx.behind))) dues_are
            ∙ ap (λ (x : Spot). filled (noted now (next_gap dues) spot.at) (with_gaps noting (gaps_from false base 0 (packed_at laid nx.head.tag)) (later_gaps dues)) (starts laid x (roots nx.head.fields ++ nx.behind))) spot_is
            ∙ on;
      }

  -- there is room for its gaps
  pub rest_room : (ds : List (Option ℕ)) (room : ℕ) → noting ≡ true → ds ≡ later_gaps dues → length (all_of r.forest) ≤ room → length ds + layout.packed ≤ room
  rest_room ds room on e few =
      let f = ap (λ (l : List Head). length (all_of l)) nx.is_forest in
      let a = all_of-long (roots nx.head.fields ++ nx.behind) in
      let h = ap length (heads_then laid nx.head nx.behind spot nx.is) in
      let l = long_then laid nx.head nx.behind spot nx.is noting false 0 (later_gaps dues) nx.long in
      let m : length (with_gaps true (gaps_from false 0 0 (packed_at laid nx.head.tag)) (later_gaps dues)) ≡ length (roots nx.head.fields ++ nx.behind) =
      subst (λ (b : Bool). IsLong laid b (with_gaps b (gaps_from false 0 0 (packed_at laid nx.head.tag)) (later_gaps dues)) (roots nx.head.fields ++ nx.behind)) on l in
      let x = length-append (gaps_from false 0 0 (packed_at laid nx.head.tag)) (later_gaps dues) in
      let y = gaps_length false 0 0 (packed_at laid nx.head.tag) in
      let n = ap length e in
      let p = rest_packed in
      omega (arith, f, a, h, m, x, y, n, p, few)

  pub rest_fewer : (base : ℕ) (s' : Spot) (m : Memory) (ds : List (Option ℕ)) (me : m ≡ noted now (next_gap dues) spot.at) (de : ds ≡ with_gaps noting (gaps_from false base 0 layout.packed) (later_gaps dues)) (se : s' ≡ past_item spot layout.head)
      (room : ℕ) → length (all_of r.forest) ≤ room
      → (x : Rest laid noting s' m (drop (at + (1 + layout.scalars)) payload) ds target) × (length (all_of x.forest) ≤ room)
  unfolding rest_on
  rest_fewer base s' m ds me de se room few = (rest_on base s' m ds me de se, fewer)
    where
      fewer : length (all_of (rest_on base s' m ds me de se).forest) ≤ room
      fewer =
          let f = ap (λ (l : List Head). length (all_of l)) nx.is_forest in
          let h = ap length (heads_then laid nx.head nx.behind spot nx.is) in
          omega (arith, f, h, few)
