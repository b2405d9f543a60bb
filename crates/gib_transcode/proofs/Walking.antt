-- The pass over a text, turn by turn.
use Rattle.std.proofs.Common.{◌≡◌, ◌≤◌, ◌<◌, ◌+◌, ℕ, suc, arith, List, [], ◌∷◌, ◌++◌, length, drop, reverse, get_or, Option, Some, None, IfSome, drop-cons, sym, ap, subst, ◌∙◌}
use Rattle.std.proofs.Math.ListN.{drop_of_length-le}
use Rattle.std.proofs.lemmas.List.{reverse-append}
use Rattle.gib_types.specs.declared.table.ConId.{ConId}
use Rattle.gib_types.specs.declared.table.Ty.{Ty}
use Rattle.gib_types.specs.declared.table.Ty.TheVariants.{Whole}
use Rattle.gib_types.specs.Table.{Table, fields_at}
use Rattle.gib_types.specs.Tree.{Datum}
use Rattle.gib_value.specs.Reading.{IsTextOf}
use Rattle.gib_file.specs.Packed.{packed}
use Rattle.gib_transcode.specs.Fronts.{Reads, Enters}
use Rattle.gib_transcode.specs.Going.{Left, left_of, due_of, Goes, Walks}
use Rattle.gib_transcode.specs.declared.opened.Open.{Open}
use Rattle.gib_transcode.proofs.Goings.{left, reads_goes, enters_goes, enters_first, shuts_goes, goes_end}

-- So many fields of a constructor are over, and this is the place of the next scalar.
abbrev pub open_at : ConId → ℕ → ℕ → Open
open_at con next place = record { con = con; next = next; place = place }

-- what is there is so
pub if_some : {A : Type 0} (o : Option A) (x : A) (P : A → Type 0) → IfSome o P → o ≡ Some x → P x
if_some {A} o x P h e = let k : IfSome (Some x) P = subst (λ (p : Option A). IfSome p P) e h in k

as_due : {table : Table} {names : List (List ℕ)} {ty : Ty} {all : List ℕ} {due later : List Left} {rest out : List ℕ} → due ≡ later → Goes table names ty all due rest out → Goes table names ty all later rest out
as_due {table} {names} {ty} {all} {rest = rest} {out = out} e go = subst (λ (d : List Left). Goes table names ty all d rest out) e go

as_rest : {table : Table} {names : List (List ℕ)} {ty : Ty} {all : List ℕ} {due : List Left} {rest same out : List ℕ} → rest ≡ same → Goes table names ty all due rest out → Goes table names ty all due same out
as_rest {table} {names} {ty} {all} {due} {out = out} e go = subst (λ (r : List ℕ). Goes table names ty all due r out) e go

-- what is due where a field is next
next_due : (table : Table) (top : Open) (outer : List Open) (fields : List Ty) (t : Ty) → fields ≡ fields_at table top.con.0 → top.next < length fields → get_or fields top.next Whole ≡ t
    → due_of table (top ∷ outer) ≡ left (t ∷ drop (top.next + 1) (fields_at table top.con.0)) top.place ∷ due_of table outer
next_due table top outer fields t same lt is =
    let one : suc top.next ≡ top.next + 1 = omega arith in
    ap (λ (ts : List Ty). left ts top.place ∷ due_of table outer)
    (subst (λ (l : List Ty). drop top.next l ≡ t ∷ drop (suc top.next) l) same (drop-cons fields top.next Whole lt ∙ ap (λ (x : Ty). x ∷ drop (suc top.next) fields) is)
    ∙ ap (λ (n : ℕ). t ∷ drop n (fields_at table top.con.0)) one)

none_due : (table : Table) (top : Open) (outer : List Open) (fields : List Ty) → fields ≡ fields_at table top.con.0 → length fields ≤ top.next
    → due_of table (top ∷ outer) ≡ left [] top.place ∷ due_of table outer
none_due table top outer fields same le =
    ap (λ (ts : List Ty). left ts top.place ∷ due_of table outer) (subst (λ (l : List Ty). drop top.next l ≡ []) same (drop_of_length-le fields {i = top.next} le))

-- over one text that is read as of one type
module _ {table : Table} {names : List (List ℕ)} {ty : Ty} {all : List ℕ} where
  -- the first constructor is entered
  pub walks_first : {k : ℕ} {bytes later old new : List ℕ} (outer : List Open)
      → all ≡ 40 ∷ bytes → Enters table names ty k bytes later old new → old ≡ [] → outer ≡ [] → (con : ConId) → con.0 ≡ k
      → Walks table names ty all (open_at con 0 1) outer later new
  walks_first {k} {later = later} {old = old} {new = new} outer opens e nil none con is =
      let due : due_of table (open_at con 0 1 ∷ reverse outer) ≡ left (fields_at table k) (length old + 1) ∷ [] =
      ap (λ (os : List Open). due_of table (open_at con 0 1 ∷ reverse os)) none ∙ ap (λ (c : ℕ). left (fields_at table c) 1 ∷ []) is
      ∙ ap (λ (l : List ℕ). left (fields_at table k) (length l + 1) ∷ []) (sym nil) in
      record { goes = as_due (sym due) (enters_first opens e nil) }

-- over a constructor that is open besides
module _ {table : Table} {names : List (List ℕ)} {ty : Ty} {all : List ℕ} {top : Open} {outer : List Open} {fields : List Ty} where
  -- a value that is one token was read
  pub walks_reads : {t : Ty} {bytes later old new : List ℕ} {place : ℕ}
      → Walks table names ty all top outer (32 ∷ bytes) old → fields ≡ fields_at table top.con.0 → top.next < length fields → get_or fields top.next Whole ≡ t
      → Reads table names t top.place bytes later old new place → Walks table names ty all (open_at top.con (top.next + 1) place) outer later new
  walks_reads {t} w same lt is r = record { goes = reads_goes (as_due (next_due table top (reverse outer) fields t same lt is) w.goes) r }

  -- a constructor was entered
  pub walks_enters : {inner : ConId} {place : ℕ} {more : List Open} {t : Ty} {rest bytes later old new : List ℕ}
      → Walks table names ty all top outer (32 ∷ rest) old → rest ≡ 40 ∷ bytes → fields ≡ fields_at table top.con.0 → top.next < length fields → get_or fields top.next Whole ≡ t
      → Enters table names t inner.0 bytes later old new → more ≡ outer ++ open_at top.con (top.next + 1) top.place ∷ [] → place ≡ length old + 1
      → Walks table names ty all (open_at inner 0 place) more later new
  walks_enters {inner} {place} {more} {t} {old = old} w opens same lt is e pushed at =
      let go = enters_goes (as_due (next_due table top (reverse outer) fields t same lt is) (as_rest (ap (λ (l : List ℕ). 32 ∷ l) opens) w.goes)) e in
      let behind = open_at top.con (top.next + 1) top.place in
      let others : due_of table (reverse more) ≡ due_of table (behind ∷ reverse outer) = ap (due_of table) (ap reverse pushed ∙ reverse-append outer (behind ∷ [])) in
      let inside : left (fields_at table inner.0) place ≡ left (fields_at table inner.0) (length old + 1) = ap (left (fields_at table inner.0)) at in
      record { goes = as_due (sym (ap (λ (l : Left). l ∷ due_of table (reverse more)) inside ∙ ap (λ (ds : List Left). left (fields_at table inner.0) (length old + 1) ∷ ds) others)) go }

-- and where one is closed
module _ {table : Table} {names : List (List ℕ)} {ty : Ty} {all : List ℕ} where
  -- a constructor was closed, and another one is open
  pub walks_shuts : {top behind : Open} {outer less : List Open} {fields : List Ty}
      {rest later out : List ℕ}
      → Walks table names ty all top outer rest out → rest ≡ 41 ∷ later → fields ≡ fields_at table top.con.0 → length fields ≤ top.next → outer ≡ less ++ behind ∷ []
      → Walks table names ty all behind less later out
  walks_shuts {top} {behind} {outer} {less} {fields} w shut same le popped =
      let go = shuts_goes (as_due (none_due table top (reverse outer) fields same le) (as_rest shut w.goes)) in
      record { goes = as_due (ap (due_of table) (ap reverse popped ∙ reverse-append less (behind ∷ []))) go }

  -- the last constructor was closed
  pub walks_end : {top : Open} {outer : List Open} {fields : List Ty} {rest later out : List ℕ}
      → Walks table names ty all top outer rest out → rest ≡ 41 ∷ later → fields ≡ fields_at table top.con.0 → length fields ≤ top.next → outer ≡ [] → later ≡ []
      → (v : Datum) × IsTextOf table names ty v all × (out ≡ packed v)
  walks_end {top} {outer} {fields} w shut same le none nil =
      let go = shuts_goes (as_due (none_due table top (reverse outer) fields same le) (as_rest shut w.goes)) in
      goes_end (as_due (ap (λ (os : List Open). due_of table (reverse os)) none) go) nil
