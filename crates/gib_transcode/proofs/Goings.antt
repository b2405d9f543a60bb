-- How a text that goes on so goes on behind what was read of it.
use Rattle.std.proofs.Common.{◌≡◌, ◌<◌, ◌≤◌, ◌+◌, ℕ, suc, Some, List, [], ◌∷◌, ◌++◌, length, length-append, refl, sym, ap, subst, ◌∙◌, arith, append_assoc}
use Rattle.std.proofs.lemmas.List.{append-nil}
use Rattle.gib_types.specs.declared.table.Ty.{Ty}
use Rattle.gib_types.specs.declared.table.Ty.TheVariants.{Whole, Truth, Tree}
use Rattle.gib_types.specs.declared.table.TyId.{TyId}
use Rattle.gib_types.specs.Table.{Table, con_at, fields_at}
use Rattle.gib_types.specs.Tree.{Datum, whole, truth, con, Data, none, more, HasType, HaveTypes}
use Rattle.gib_value.specs.Text.{spell, spell_fields, con_text}
use Rattle.gib_value.specs.Reading.{IsTextOf}
use Rattle.gib_file.specs.Packed.{packed, tree, trees, number, bit, scalar, scalars}
use Rattle.gib_transcode.specs.Fronts.{Reads, Enters}
use Rattle.gib_transcode.specs.Rooms.{room, over}
use Rattle.gib_transcode.specs.Going.{Left, AreDue, due_text, filled, due_trees, HaveRoom, Goes}
use Rattle.gib_transcode.proofs.Overs.{over_length, over_append, over_over, over_room}

-- a value takes as much of the room as its type has
scalar_room : (table : Table) (v : Datum) (t : Ty) (ts : List Ty) → HasType table v t → length (room (t ∷ ts)) ≡ length (scalar v) + length (room ts)
scalar_room table (whole z) Whole ts is = omega arith
scalar_room table (truth b) Truth ts is = omega arith
scalar_room table (con k xs) (Tree t) ts is = omega arith
scalar_room table (whole z) Truth ts is = absurd is
scalar_room table (whole z) (Tree t) ts is = absurd is
scalar_room table (truth b) Whole ts is = absurd is
scalar_room table (truth b) (Tree t) ts is = absurd is
scalar_room table (con k xs) Whole ts is = absurd is
scalar_room table (con k xs) Truth ts is = absurd is

-- the scalars among values fill the room of their types
scalars_room : (table : Table) (ts : List Ty) (ws : Data) → HaveTypes table ws ts → length (scalars ws) ≡ length (room ts)
scalars_room table [] none has = refl
scalars_room table [] (more v ws) has = absurd has
scalars_room table (t ∷ ts) none has = absurd has
scalars_room table (t ∷ ts) (more v ws) (is, has) = omega (arith, length-append (scalar v) (scalars ws), scalars_room table ts ws has, scalar_room table v t ts is)

-- more bytes have no less room
more_room : (count n : ℕ) (due : List Left) → count ≤ n → HaveRoom count due → HaveRoom n due
more_room count n [] le room = tt
more_room count n (f ∷ due) le (fits, room) = (omega (arith, le, fits), more_room count n due le room)

-- what stands behind the room is not touched
filled_append : (table : Table) (due : List Left) (vs : List Data) (out behind : List ℕ) → AreDue table due vs → HaveRoom (length out) due
    → filled due vs (out ++ behind) ≡ filled due vs out ++ behind
filled_append table [] vs out behind are room = refl
filled_append table (f ∷ due) [] out behind are room = refl
filled_append table (f ∷ due) (ws ∷ vs) out behind (has, are) (fits, room) =
    let put = over f.place (scalars ws) out in
    ap (λ (l : List ℕ). filled due vs l) (over_append f.place (scalars ws) out behind (omega (arith, scalars_room table f.types ws has, fits)))
    ∙ filled_append table due vs put behind are (more_room (length out) (length put) due (omega (arith, over_length f.place (scalars ws) out)) room)

-- the text of a constructor with fields
opened_text : (table : Table) (names : List (List ℕ)) (k : ℕ) (ts : List Ty) (xs : Data) (rest : List ℕ) → HaveTypes table xs ts → 0 < length ts
    → spell table names (con k xs) rest ≡ 40 ∷ (con_text table names k ++ spell_fields table names xs rest)
opened_text table names k [] xs rest has some = absurd (omega (arith, some))
opened_text table names k (t ∷ ts) none rest has some = absurd has
opened_text table names k (t ∷ ts) (more v xs) rest has some = refl

-- the value of a constructor that was entered is of the type
entered_typed : {table : Table} {names : List (List ℕ)} {t : Ty} {k : ℕ} {bytes later old new : List ℕ} (xs : Data) → Enters table names t k bytes later old new
    → HaveTypes table xs (fields_at table k) → HasType table (con k xs) t
entered_typed {table} {k = k} xs e has = subst (λ (t : Ty). HasType table (con k xs) t) (sym e.is) (e.own, has)

-- a constructor without fields
pub bare_reads : (table : Table) (names : List (List ℕ)) (of : TyId) (k place : ℕ) (bytes later old new : List ℕ) → con_at table of.0 k ≡ Some k → length (fields_at table k) ≡ 0
    → bytes ≡ con_text table names k ++ later → length later ≤ length bytes → new ≡ old ++ k ∷ [] → Reads table names (Tree of) place bytes later old new place
bare_reads table names of k place bytes later old new own bare spelled shorter put =
    record { value = con k none; typed = (own, no_values (fields_at table k) bare); spelled = spelled; put = put; passed = omega arith; shorter = shorter }
  where
    no_values : (ts : List Ty) → length ts ≡ 0 → HaveTypes table none ts
    no_values [] e = tt
    no_values (t ∷ ts) e = absurd (omega (arith, e))

-- the same field with what is left behind it
abbrev pub left : List Ty → ℕ → Left
left ts place = record { types = ts; place = place }

-- what is put of a value goes from what is due to what is there
moved : (out value fields due : List ℕ) → out ++ ((value ++ fields) ++ due) ≡ (out ++ value) ++ (fields ++ due)
moved out value fields due = ap (λ (l : List ℕ). out ++ l) (append_assoc value fields due) ∙ sym (append_assoc out value (fields ++ due))

-- a constructor's room is filled, and its packed fields come
opened_bytes : (table : Table) (k : ℕ) (xs : Data) (old new : List ℕ) → HaveTypes table xs (fields_at table k) → new ≡ old ++ k ∷ room (fields_at table k)
    → over (length old + 1) (scalars xs) new ≡ old ++ k ∷ scalars xs
opened_bytes table k xs old new has put =
    ap (λ (n : ℕ). over n (scalars xs) new) (let more : length old + 1 ≡ suc (length old) = omega arith in more)
    ∙ ap (λ (l : List ℕ). over (suc (length old)) (scalars xs) l) put ∙ over_room old k (scalars xs) (room (fields_at table k)) (scalars_room table (fields_at table k) xs has)

-- there is room in a constructor that was entered
opened_room : {table : Table} {names : List (List ℕ)} {t : Ty} {k : ℕ} {bytes later old new : List ℕ} → Enters table names t k bytes later old new
    → length new ≡ length old + 1 + length (room (fields_at table k))
opened_room {table} {k = k} {old = old} e = let m = ap length e.put ∙ length-append old (k ∷ room (fields_at table k)) in omega (arith, m)

-- over one text that is read as of one type
module _ {table : Table} {names : List (List ℕ)} {ty : Ty} {all : List ℕ} where
  -- a value that is one token was read
  pub reads_goes : {t : Ty} {ts : List Ty} {place after : ℕ} {due : List Left} {bytes later old new : List ℕ}
      → Goes table names ty all (left (t ∷ ts) place ∷ due) (32 ∷ bytes) old → Reads table names t place bytes later old new after → Goes table names ty all (left ts after ∷ due) later new
  reads_goes {t} {ts} {place} {after} {due} {bytes} {later} {old} {new} go r = record { roomy = (fits, others); ends = on }
    where
      there : List ℕ
      there = over place (scalar r.value) old

      size : length there ≡ length old
      size = over_length place (scalar r.value) old

      more : length new ≡ length old + length (tree r.value)
      more = ap length r.put ∙ length-append there (tree r.value) ∙ ap (λ (n : ℕ). n + length (tree r.value)) size

      taken : after + length (room ts) ≤ length old
      taken = omega (arith, go.roomy.0, scalar_room table r.value t ts r.typed, r.passed)

      fits : after + length (room ts) ≤ length new
      fits = omega (arith, taken, more)

      others : HaveRoom (length new) due
      others = more_room (length old) (length new) due (omega (arith, more)) go.roomy.1

      on : (vs : List Data) → AreDue table (left ts after ∷ due) vs → later ≡ due_text table names vs
          → (v : Datum) × IsTextOf table names ty v all × (packed v ≡ filled (left ts after ∷ due) vs new ++ due_trees vs)
      on [] are is = absurd are
      on (ws ∷ vs) (has, are) is =
          let v = r.value in
          let g = go.ends (Data.more v ws ∷ vs) ((r.typed, has), are) (ap (λ (l : List ℕ). 32 ∷ l) (r.spelled ∙ ap (spell table names v) is)) in
          let both = over place (scalar v ++ scalars ws) old in
          let le : after + length (scalars ws) ≤ length there = omega (arith, taken, size, scalars_room table ts ws has) in
          let one : over after (scalars ws) new ≡ both ++ tree v =
          ap (λ (l : List ℕ). over after (scalars ws) l) r.put ∙ over_append after (scalars ws) there (tree v) le
          ∙ ap (λ (l : List ℕ). l ++ tree v) (over_over place after (scalar v) (scalars ws) old r.passed) in
          let far : filled due vs (over after (scalars ws) new) ≡ filled due vs both ++ tree v =
          ap (λ (l : List ℕ). filled due vs l) one
          ∙ filled_append table due vs both (tree v) are (more_room (length old) (length both) due (omega (arith, over_length place (scalar v ++ scalars ws) old)) go.roomy.1) in
          (g.0, g.1, g.2 ∙ moved (filled due vs both) (tree v) (trees ws) (due_trees vs) ∙ ap (λ (l : List ℕ). l ++ (trees ws ++ due_trees vs)) (sym far))

  -- a constructor was entered
  pub enters_goes : {t : Ty} {ts : List Ty} {place k : ℕ} {due : List Left} {bytes later old new : List ℕ}
      → Goes table names ty all (left (t ∷ ts) place ∷ due) (32 ∷ 40 ∷ bytes) old → Enters table names t k bytes later old new
      → Goes table names ty all (left (fields_at table k) (length old + 1) ∷ left ts place ∷ due) later new
  enters_goes {t} {ts} {place} {k} {due} {bytes} {later} {old} {new} go e = record { roomy = (inner, (outer, others)); ends = on }
    where
      size : length new ≡ length old + 1 + length (room (fields_at table k))
      size = opened_room e

      packs : length (room (t ∷ ts)) ≡ length (room ts)
      packs = ap (λ (t : Ty). length (room (t ∷ ts))) e.is

      inner : length old + 1 + length (room (fields_at table k)) ≤ length new
      inner = omega (arith, size)

      outer : place + length (room ts) ≤ length new
      outer = omega (arith, size, packs, go.roomy.0)

      others : HaveRoom (length new) due
      others = more_room (length old) (length new) due (omega (arith, size)) go.roomy.1

      on : (vs : List Data) → AreDue table (left (fields_at table k) (length old + 1) ∷ left ts place ∷ due) vs → later ≡ due_text table names vs
          → (v : Datum) × IsTextOf table names ty v all × (packed v ≡ filled (left (fields_at table k) (length old + 1) ∷ left ts place ∷ due) vs new ++ due_trees vs)
      on [] are is = absurd are
      on (xs ∷ []) are is = absurd are.1
      on (xs ∷ ws ∷ vs) (hasx, (has, are)) is =
          let spelled = ap (λ (l : List ℕ). 40 ∷ l) (e.spelled ∙ ap (λ (l : List ℕ). con_text table names k ++ l) is)
          ∙ sym (opened_text table names k (fields_at table k) xs (due_text table names (ws ∷ vs)) hasx e.some) in
          let g = go.ends (more (con k xs) ws ∷ vs) ((entered_typed xs e hasx, has), are) (ap (λ (l : List ℕ). 32 ∷ l) spelled) in
          let put = over place (scalars ws) old in
          let head : List ℕ = k ∷ scalars xs in
          let le : place + length (scalars ws) ≤ length old = omega (arith, packs, go.roomy.0, scalars_room table ts ws has) in
          let room : HaveRoom (length put) due = more_room (length old) (length put) due (omega (arith, over_length place (scalars ws) old)) go.roomy.1 in
          let far : filled due vs (over place (scalars ws) (over (length old + 1) (scalars xs) new)) ≡ filled due vs put ++ head =
          ap (λ (l : List ℕ). filled due vs (over place (scalars ws) l)) (opened_bytes table k xs old new hasx e.put)
          ∙ ap (λ (l : List ℕ). filled due vs l) (over_append place (scalars ws) old head le) ∙ filled_append table due vs put head are room in
          let behind = trees ws ++ due_trees vs in
          let last : (filled due vs put ++ (head ++ trees xs)) ++ behind ≡ (filled due vs put ++ head) ++ (trees xs ++ behind) =
          ap (λ (l : List ℕ). l ++ behind) (sym (append_assoc (filled due vs put) head (trees xs))) ∙ append_assoc (filled due vs put ++ head) (trees xs) behind in
          (g.0, g.1, g.2 ∙ moved (filled due vs put) (head ++ trees xs) (trees ws) (due_trees vs) ∙ last ∙ ap (λ (l : List ℕ). l ++ (trees xs ++ behind)) (sym far))

-- the whole text begins with a constructor
pub enters_first : {table : Table} {names : List (List ℕ)} {ty : Ty} {k : ℕ} {all bytes later old new : List ℕ}
    → all ≡ 40 ∷ bytes → Enters table names ty k bytes later old new → old ≡ [] → Goes table names ty all (left (fields_at table k) (length old + 1) ∷ []) later new
enters_first {table} {names} {ty} {k} {all} {bytes} {later} {old} {new} opens e nil = record { roomy = (fits, tt); ends = on }
  where
    fits : length old + 1 + length (room (fields_at table k)) ≤ length new
    fits = omega (arith, opened_room e)

    on : (vs : List Data) → AreDue table (left (fields_at table k) (length old + 1) ∷ []) vs → later ≡ due_text table names vs
        → (v : Datum) × IsTextOf table names ty v all × (packed v ≡ filled (left (fields_at table k) (length old + 1) ∷ []) vs new ++ due_trees vs)
    on [] are is = absurd are
    on (xs ∷ []) (has, are) is =
        let spelled = opens ∙ ap (λ (l : List ℕ). 40 ∷ l) (e.spelled ∙ ap (λ (l : List ℕ). con_text table names k ++ l) is)
        ∙ sym (opened_text table names k (fields_at table k) xs [] has e.some) in
        let text : IsTextOf table names ty (con k xs) all = record { typed = entered_typed xs e has; is = spelled } in
        let head : List ℕ = k ∷ scalars xs in
        let put : over (length old + 1) (scalars xs) new ≡ head = opened_bytes table k xs old new has e.put ∙ ap (λ (l : List ℕ). l ++ head) nil in
        (con k xs, text, ap (λ (l : List ℕ). head ++ l) (sym (append-nil (trees xs))) ∙ ap (λ (l : List ℕ). l ++ (trees xs ++ [])) (sym put))
    on (xs ∷ ws ∷ vs) are is = absurd are.1

-- a constructor was closed
pub shuts_goes : {table : Table} {names : List (List ℕ)} {ty : Ty} {all : List ℕ} {place : ℕ} {due : List Left} {rest out : List ℕ}
    → Goes table names ty all (left [] place ∷ due) (41 ∷ rest) out → Goes table names ty all due rest out
shuts_goes go = record { roomy = go.roomy.1; ends = λ vs are is. go.ends (none ∷ vs) (tt, are) (ap (λ (l : List ℕ). 41 ∷ l) is) }

-- nothing is due
pub goes_end : {table : Table} {names : List (List ℕ)} {ty : Ty} {all rest out : List ℕ}
    → Goes table names ty all [] rest out → rest ≡ [] → (v : Datum) × IsTextOf table names ty v all × (out ≡ packed v)
goes_end {out = out} go nil = let g = go.ends [] tt nil in (g.0, g.1, sym (g.2 ∙ append-nil out))
