-- The table of the tests keeps the rules of a table.
use Rattle.std.proofs.Common.{◌≡◌, ℕ, zero, suc, ◌+◌, ◌<◌, List, [], ◌∷◌, map, Option, Some, refl, sym, ap, subst, ◌∙◌, arith}
use Rattle.std.specs.Prelude.{slice_get}
use Rattle.gib_base.specs.declared.name.Name.{Name}
use Rattle.gib_types.specs.declared.table.Ty.{Ty}
use Rattle.gib_types.specs.declared.table.Ty.TheVariants.{Whole, Truth, Tree}
use Rattle.gib_types.specs.declared.table.Constructor.{Constructor}
use Rattle.gib_types.specs.Table.{Row, Table, row_of, table_of, con_at, IsRow, IsTable}

abbrev pub sample_types : List ℕ
sample_types = 0 ∷ []

abbrev entry : ℕ → List Ty → Row
entry name fields = record { name = name; owner = 0; fields = fields }

abbrev self : Ty
self = Tree (record { 0 = 0 })

abbrev leaf : Row
leaf = entry 10 (Whole ∷ Truth ∷ [])

abbrev node : Row
node = entry 11 (self ∷ Whole ∷ self ∷ [])

abbrev wide : Row
wide = entry 12 (self ∷ self ∷ self ∷ self ∷ self ∷ self ∷ self ∷ self ∷ [])

abbrev long : Row
long = entry 13 (Whole ∷ Whole ∷ Whole ∷ Whole ∷ Whole ∷ Whole ∷ Whole ∷ Whole ∷ [])

-- the constructors
abbrev pub sample_rows : List Row
sample_rows = leaf ∷ node ∷ wide ∷ long ∷ []

abbrev sample : Table
sample = record { types = sample_types; rows = sample_rows }

-- what a row at a place is
record Placed (con : ℕ) (r : Row) : Type 0 where
  named : r.name ≡ con + 10
  owned : r.owner ≡ 0
  good : IsRow 1 r

same_row : (con : ℕ) (a b : Row) → Placed con a → ◌≡◌ {A = Option Row} (Some a) (Some b) → Placed con b
same_row con a b h e = let same : a ≡ b = cc in subst (λ (r : Row). Placed con r) same h

placed : (con : ℕ) (r : Row) → slice_get sample_rows con ≡ Some r → Placed con r
placed zero r e = same_row 0 leaf r (record { named = refl; owned = refl; good = record { owned = omega arith; few = omega arith; known = (tt, (tt, tt)) } }) e
placed (suc zero) r e = same_row 1 node r (record { named = refl; owned = refl; good = record { owned = omega arith; few = omega arith; known = (omega arith, (tt, (omega arith, tt))) } }) e
placed (suc (suc zero)) r e = same_row 2 wide r (record { named = refl; owned = refl; good = record { owned = omega arith; few = omega arith; known = (omega arith, (omega arith, (omega arith, (omega arith, (omega arith, (omega arith, (omega arith, (omega arith, tt)))))))) } }) e
placed (suc (suc (suc zero))) r e = same_row 3 long r (record { named = refl; owned = refl; good = record { owned = omega arith; few = omega arith; known = (tt, (tt, (tt, (tt, (tt, (tt, (tt, (tt, tt)))))))) } }) e
placed (suc (suc (suc (suc con)))) r e = absurd cc

type_placed : (i name : ℕ) → slice_get sample_types i ≡ Some name → i ≡ 0
type_placed zero name e = refl
type_placed (suc i) name e = absurd cc

owned : (ty : ℕ) → ty < 1 → (con : ℕ) × con_at sample ty con ≡ Some con
owned zero lt = (0, refl)
owned (suc ty) lt = absurd (omega arith)

sample_ok : IsTable sample
sample_ok = record {
  few = omega arith;
  rows = λ con r e. (placed con r e).good;
  types_differ = λ i j name e h. type_placed i name e ∙ sym (type_placed j name h);
  names_differ = λ i j r s e h same. let a = placed i r e in let b = placed j s h in omega (arith, a.named, b.named, same);
  together = λ i j r s e h le. let a = placed i r e in let b = placed j s h in omega (arith, a.owned, b.owned);
  inhabited = owned;
}

pub sample_is_table : (types : List Name) (constructors : List Constructor) → map (λ (n : Name). n.0) types ≡ sample_types → map row_of constructors ≡ sample_rows → IsTable (table_of types constructors)
sample_is_table types constructors e h =
    let is : table_of types constructors ≡ sample = ap (λ (l : List ℕ). record { types = l; rows = map row_of constructors }) e ∙ ap (λ (l : List Row). record { types = sample_types; rows = l }) h in
    subst IsTable (sym is) sample_ok
