-- What a table keeps to find constructors.
use Rattle.std.proofs.Common.{◌≡◌, ℕ, Bool, true, false, ◌==◌, if◌then◌else◌, ◌+◌, ◌<◌, List, [], ◌∷◌, length, map, Option, Some, None, slice_get, nat_lt, count_by, get_or, refl, sym, ap, subst, ◌∙◌, arith, inl, inr}
use Rattle.std.proofs.lemmas.Bool.{cases_lt, eqb-true, eq-eqb}
use Rattle.std.proofs.lemmas.Option.{slice_get_within, slice_get-map, slice_get-get_or}
use Rattle.std.proofs.lemmas.List.{length-map, get_or_default}
use Rattle.gib_base.specs.declared.name.Name.{Name}
use Rattle.gib_base.specs.Entries.{entry_at}
use Rattle.gib_types.specs.declared.table.Constructor.{Constructor}
use Rattle.gib_types.specs.Row.{Row, Table, row_of, table_of}
use Rattle.gib_types.specs.Table.{rows_before, first_at, count_at, name_of, IsTable, IsNamed}
use Rattle.gib_types.specs.Index.{AreFirsts, IsIndexed, NamesDiffer, ArePlacesOf, HasName}
use Rattle.gib_types.proofs.Owners.{next_before}
use Rattle.std.proofs.lemmas.List.Recursion.{is_count_by}

-- how many rows are of types before this one, counted as the code counts them
pub count-map : (ty : ℕ) (cs : List Constructor) → rows_before ty (map row_of cs) ≡ count_by (λ (c : Constructor). nat_lt c.owner.0 ty) cs
count-map ty cs = is_count_by (λ (l : List Constructor). rows_before ty (map row_of l)) (λ (c : Constructor). nat_lt c.owner.0 ty) refl (λ c l. refl) cs

row_at : (cs : List Constructor) (i : ℕ) (c : Constructor) → slice_get cs i ≡ Some c → slice_get (map row_of cs) i ≡ Some (row_of c)
row_at cs i c is = slice_get-map row_of cs i ∙ ap (λ (o : Option Constructor). Rattle.std.specs.Prelude.option_map row_of o) is

pub names_differ : (types : List Name) (cs : List Constructor) → IsTable (table_of types cs) → NamesDiffer cs
names_differ types cs t i j c d ic jd e = t.names_differ i j (row_of c) (row_of d) (row_at cs i c ic) (row_at cs j d jd) e

-- the row is that of a constructor
record From (cs : List Constructor) (i : ℕ) (row : Row) : Type 0 where
  c : Constructor
  is : slice_get cs i ≡ Some c
  of : row_of c ≡ row

from : (cs : List Constructor) (i : ℕ) (row : Row) → slice_get (map row_of cs) i ≡ Some row → From cs i row
from cs i row e = go (slice_get cs i) refl
  where
    go : (o : Option Constructor) → slice_get cs i ≡ o → From cs i row
    go None is = absurd (let no : slice_get (map row_of cs) i ≡ None = slice_get-map row_of cs i ∙ ap (λ (o : Option Constructor). Rattle.std.specs.Prelude.option_map row_of o) is in cc)
    go (Some c) is = record { c = c; is = is; of = let at = row_at cs i c is in cc }

if_same : {A : Type 0} (m n : ℕ) (x y : A) → m ≡ n → (if m == n then x else y) ≡ x
if_same m n x y e = ap (λ (b : Bool). if b then x else y) (eq-eqb m n e)

if_not : {A : Type 0} (m n : ℕ) (x y : A) → (m ≡ n → ⊥) → (if m == n then x else y) ≡ y
if_not {A} m n x y other = go (m == n) refl
  where
    go : (b : Bool) → (m == n) ≡ b → (if m == n then x else y) ≡ y
    go true same = absurd (other (eqb-true m n same))
    go false e = ap (λ (b : Bool). if b then x else y) e

-- a constructor of a name in the table is one of the list, and back
named_has : (types : List Name) (cs : List Constructor) (name con : ℕ) → IsNamed (table_of types cs) name con → HasName cs con name
named_has types cs name con n = go (slice_get cs con) refl
  where
    go : (o : Option Constructor) → slice_get cs con ≡ o → HasName cs con name
    go None is = absurd (
        let lt : con < length cs = let w = n.within in omega (arith, length-map cs row_of) in
        elim cs as (λ l. con < length l → slice_get l con ≡ None → ⊥) [ [] ↦ λ lt is. absurd (omega arith) | (d ∷ ds) ↦ λ lt is. let at = slice_get-get_or (d ∷ ds) con d lt in cc ] lt is)
    go (Some c) is = record { c = c; is = is; named = sym (ap name_of (row_at cs con c is)) ∙ n.named }

has_named : (types : List Name) (cs : List Constructor) (name con : ℕ) → HasName cs con name → IsNamed (table_of types cs) name con
has_named types cs name con h = record {
  within = let lt = slice_get_within cs con h.c h.is in omega (arith, length-map cs row_of);
  named = ap name_of (row_at cs con h.c h.is) ∙ h.named;
}

pub indexed : (types : List Name) (cs : List Constructor) (firsts : List ℕ) (places : List (Option ℕ)) → IsTable (table_of types cs)
    → ((ty : ℕ) → ty < length types + 1 → get_or firsts ty 0 ≡ count_by (λ (c : Constructor). nat_lt c.owner.0 ty) cs)
    → length firsts ≡ length types + 1 → ArePlacesOf cs places → IsIndexed (table_of types cs) firsts places
indexed types cs firsts places t each long stand =
    let n : length (map (λ (n : Name). n.0) types) ≡ length types = length-map types (λ (n : Name). n.0) in
    record {
      rules = t;
      begin = record { each = λ ty lt. each ty (omega arith) ∙ sym (count-map ty cs); long = omega arith };
      stand = record {
        each = λ con row is. let f = from cs con row is in subst (λ (r : Row). entry_at places r.name ≡ Some con) f.of (stand.each con f.c f.is);
        only = λ name con is. has_named types cs name con (stand.only name con is);
      };
    }

-- ---- a constructor by its name

-- a constructor of the name stands where its place says
named_place : (table : Table) (firsts : List ℕ) (places : List (Option ℕ)) (name con : ℕ) → IsIndexed table firsts places → IsNamed table name con → entry_at places name ≡ Some con
named_place table firsts places name con t n = go (slice_get table.rows con) refl
  where
    go : (o : Option Row) → slice_get table.rows con ≡ o → entry_at places name ≡ Some con
    go None is = absurd (let at = slice_get-get_or table.rows con (record { name = 0; owner = 0; fields = [] }) n.within in cc)
    go (Some row) is = let e : row.name ≡ name = sym (ap name_of is) ∙ n.named in subst (λ (m : ℕ). entry_at places m ≡ Some con) e (t.stand.each con row is)

-- what stands at a name, and what none has
pub name_found : (seen table : Table) (firsts : List ℕ) (places : List (Option ℕ)) (name con : ℕ) → seen ≡ table → IsIndexed seen firsts places → entry_at places name ≡ Some con → IsNamed table name con
name_found seen table firsts places name con e t is = subst (λ (x : Table). IsNamed x name con) e (t.stand.only name con is)

pub name_absent : (seen table : Table) (firsts : List ℕ) (places : List (Option ℕ)) (name con : ℕ) → seen ≡ table → IsIndexed seen firsts places → entry_at places name ≡ None → IsNamed table name con → ⊥
name_absent seen table firsts places name con e t is n =
    let stands = named_place seen firsts places name con t (subst (λ (x : Table). IsNamed x name con) (sym e) n) in
    cc

-- one more place is written
pub put_next : (cs : List Constructor) (con : ℕ) (d : Constructor) (old new : List (Option ℕ)) → NamesDiffer cs → con < length cs
    → ((i : ℕ) (c : Constructor) → i < con → slice_get cs i ≡ Some c → entry_at old c.name.0 ≡ Some i)
    → ((other : ℕ) → entry_at new other ≡ (if (get_or cs con d).name.0 == other then Some con else entry_at old other))
    → (i : ℕ) (c : Constructor) → i < con + 1 → slice_get cs i ≡ Some c → entry_at new c.name.0 ≡ Some i
put_next cs con d old new differ lt had put i c le is =
    let at = slice_get-get_or cs con d lt in
    elim (cases_lt i con) [
      | inl less ↦
          put c.name.0
          ∙ if_not (get_or cs con d).name.0 c.name.0 (Some con) (entry_at old c.name.0) (λ e. let same = differ i con c (get_or cs con d) is at (sym e) in omega arith)
          ∙ had i c less is
      | inr ge ↦
          let e : i ≡ con = omega arith in
          let this : Some c ≡ Some (get_or cs con d) = sym is ∙ ap (slice_get cs) e ∙ at in
          let own : c ≡ get_or cs con d = cc in
          put c.name.0 ∙ if_same (get_or cs con d).name.0 c.name.0 (Some con) (entry_at old c.name.0) (sym (ap (λ (x : Constructor). x.name.0) own)) ∙ ap Some (sym e)
    ]

-- and nothing else
pub put_only : (cs : List Constructor) (con : ℕ) (d : Constructor) (old new : List (Option ℕ)) → con < length cs
    → ((name k : ℕ) → entry_at old name ≡ Some k → HasName cs k name)
    → ((other : ℕ) → entry_at new other ≡ (if (get_or cs con d).name.0 == other then Some con else entry_at old other))
    → (name k : ℕ) → entry_at new name ≡ Some k → HasName cs k name
put_only cs con d old new lt had put name k is = go ((get_or cs con d).name.0 == name) refl
  where
    go : (b : Bool) → ((get_or cs con d).name.0 == name) ≡ b → HasName cs k name
    go true same =
        let this : Some con ≡ Some k = sym (put name ∙ ap (λ (x : Bool). if x then Some con else entry_at old name) same) ∙ is in
        let e : con ≡ k = cc in
        subst (λ (j : ℕ). HasName cs j name) e (record { c = get_or cs con d; is = slice_get-get_or cs con d lt; named = eqb-true (get_or cs con d).name.0 name same })
    go false other = had name k (sym (put name ∙ ap (λ (x : Bool). if x then Some con else entry_at old name) other) ∙ is)

-- where the constructors of a type begin and end
pub count_read : (seen : Table) (firsts : List ℕ) (places : List (Option ℕ)) (table : Table) (ty next first : ℕ) → seen ≡ table → IsIndexed seen firsts places → ty < length table.types
    → next ≡ get_or firsts (ty + 1) next → first ≡ get_or firsts ty first → (first ≡ first_at table ty) × (next ≡ first_at table ty + count_at table ty)
count_read seen firsts places table ty next first e t lt n f =
    let b = subst (λ (x : Table). AreFirsts x firsts) e t.begin in
    let here : ty < length firsts = let l = b.long in omega arith in
    let after : ty + 1 < length firsts = let l = b.long in omega arith in (
      f ∙ get_or_default firsts ty first 0 here ∙ b.each ty (omega arith),
      n ∙ get_or_default firsts (ty + 1) next 0 after ∙ b.each (ty + 1) (omega arith) ∙ next_before ty table.rows,
    )
