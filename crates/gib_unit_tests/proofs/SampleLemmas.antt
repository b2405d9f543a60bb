-- The tables for tests keep the rules of a table.
use Rattle.std.proofs.Common.{◌≡◌, ℕ, zero, suc, ◌+◌, ◌-◌, ◌≤◌, ◌<◌, List, [], ◌∷◌, map, Option, Some, refl, sym, subst, ◌∙◌, arith}
use Rattle.std.specs.Prelude.{slice_get, min}
use Rattle.gib_base.specs.declared.name.Name.{Name}
use Rattle.gib_types.specs.declared.table.Ty.TheVariants.{Whole, Truth}
use Rattle.gib_types.specs.declared.table.Constructor.{Constructor}
use Rattle.gib_types.specs.Table.{Row, Table, row_of, table_of, con_at, IsRow, IsTable}
use Rattle.gib_unit_tests.specs.Samples.{entry, tree, tree_table, mixed_table}

same_name : (a b : ℕ) → ◌≡◌ {A = Option ℕ} (Some a) (Some b) → b ≡ a
same_name a b e = cc

-- what a row at a place is
record Placed (con : ℕ) (r : Row) : Type 0 where
  below : con < 6
  named : r.name ≡ con + 10
  owned : r.owner ≡ min 1 (con - 1) + min 1 (con - 2) + min 1 (con - 3)
  good : IsRow 4 r

same_row : (con : ℕ) (a b : Row) → Placed con a → ◌≡◌ {A = Option Row} (Some a) (Some b) → Placed con b
same_row con a b h e = let same : a ≡ b = cc in subst (λ (r : Row). Placed con r) same h

placed : (con : ℕ) (r : Row) → slice_get mixed_table.rows con ≡ Some r → Placed con r
placed zero r e = same_row 0 (entry 10 0 (Whole ∷ [])) r (record { below = omega arith; named = refl; owned = refl; good = record { owned = omega arith; few = omega arith; known = (tt, tt) } }) e
placed (suc zero) r e = same_row 1 (entry 11 0 (tree 0 ∷ tree 0 ∷ [])) r (record { below = omega arith; named = refl; owned = refl; good = record { owned = omega arith; few = omega arith; known = (omega arith, (omega arith, tt)) } }) e
placed (suc (suc zero)) r e = same_row 2 (entry 12 1 (tree 0 ∷ Whole ∷ [])) r (record { below = omega arith; named = refl; owned = refl; good = record { owned = omega arith; few = omega arith; known = (omega arith, (tt, tt)) } }) e
placed (suc (suc (suc zero))) r e = same_row 3 (entry 13 2 (Truth ∷ [])) r (record { below = omega arith; named = refl; owned = refl; good = record { owned = omega arith; few = omega arith; known = (tt, tt) } }) e
placed (suc (suc (suc (suc zero)))) r e = same_row 4 (entry 14 3 []) r (record { below = omega arith; named = refl; owned = refl; good = record { owned = omega arith; few = omega arith; known = tt } }) e
placed (suc (suc (suc (suc (suc zero))))) r e = same_row 5 (entry 15 3 (Whole ∷ tree 3 ∷ [])) r (record { below = omega arith; named = refl; owned = refl; good = record { owned = omega arith; few = omega arith; known = (tt, (omega arith, tt)) } }) e
placed (suc (suc (suc (suc (suc (suc con)))))) r e = absurd cc

type_placed : (i name : ℕ) → slice_get mixed_table.types i ≡ Some name → name ≡ i
type_placed zero name e = same_name 0 name e
type_placed (suc zero) name e = same_name 1 name e
type_placed (suc (suc zero)) name e = same_name 2 name e
type_placed (suc (suc (suc zero))) name e = same_name 3 name e
type_placed (suc (suc (suc (suc i)))) name e = absurd cc

owned : (ty : ℕ) → ty < 4 → (con : ℕ) × con_at mixed_table ty con ≡ Some con
owned zero lt = (0, refl)
owned (suc zero) lt = (2, refl)
owned (suc (suc zero)) lt = (3, refl)
owned (suc (suc (suc zero))) lt = (4, refl)
owned (suc (suc (suc (suc ty)))) lt = absurd (omega arith)

in_order : (i j : ℕ) → i ≤ j → min 1 (i - 1) + min 1 (i - 2) + min 1 (i - 3) ≤ min 1 (j - 1) + min 1 (j - 2) + min 1 (j - 3)
in_order i j le = omega arith

pub mixed_ok : IsTable mixed_table
mixed_ok = record {
  few = omega arith;
  rows = λ con r e. (placed con r e).good;
  types_differ = λ i j name e h. sym (type_placed i name e) ∙ type_placed j name h;
  names_differ = λ i j r s e h same. let a = placed i r e in let b = placed j s h in omega (arith, a.named, b.named, same);
  together = λ i j r s e h le. let a = placed i r e in let b = placed j s h in omega (arith, a.owned, b.owned, in_order i j le);
  inhabited = owned;
}

-- what a row of the table of trees is
record PlacedTree (con : ℕ) (r : Row) : Type 0 where
  named : r.name ≡ con + 1
  owned : r.owner ≡ 0
  good : IsRow 1 r

same_tree_row : (con : ℕ) (a b : Row) → PlacedTree con a → ◌≡◌ {A = Option Row} (Some a) (Some b) → PlacedTree con b
same_tree_row con a b h e = let same : a ≡ b = cc in subst (λ (r : Row). PlacedTree con r) same h

tree_placed : (con : ℕ) (r : Row) → slice_get tree_table.rows con ≡ Some r → PlacedTree con r
tree_placed zero r e = same_tree_row 0 (entry 1 0 (Whole ∷ [])) r (record { named = refl; owned = refl; good = record { owned = omega arith; few = omega arith; known = (tt, tt) } }) e
tree_placed (suc zero) r e = same_tree_row 1 (entry 2 0 (tree 0 ∷ tree 0 ∷ [])) r (record { named = refl; owned = refl; good = record { owned = omega arith; few = omega arith; known = (omega arith, (omega arith, tt)) } }) e
tree_placed (suc (suc con)) r e = absurd cc

tree_type_placed : (i name : ℕ) → slice_get tree_table.types i ≡ Some name → i ≡ 0
tree_type_placed zero name e = refl
tree_type_placed (suc i) name e = absurd cc

tree_owned : (ty : ℕ) → ty < 1 → (con : ℕ) × con_at tree_table ty con ≡ Some con
tree_owned zero lt = (0, refl)
tree_owned (suc ty) lt = absurd (omega arith)

pub tree_ok : IsTable tree_table
tree_ok = record {
  few = omega arith;
  rows = λ con r e. (tree_placed con r e).good;
  types_differ = λ i j name e h. tree_type_placed i name e ∙ sym (tree_type_placed j name h);
  names_differ = λ i j r s e h same. let a = tree_placed i r e in let b = tree_placed j s h in omega (arith, a.named, b.named, same);
  together = λ i j r s e h le. let a = tree_placed i r e in let b = tree_placed j s h in omega (arith, a.owned, b.owned);
  inhabited = tree_owned;
}

-- a table with the names and rows of another is that one
pub same_parts : (table : Table) (types : List Name) (constructors : List Constructor) → map (λ (n : Name). n.0) types ≡ table.types → map row_of constructors ≡ table.rows
    → table_of types constructors ≡ table
same_parts table types constructors e f = λ i. record { types = e i; rows = f i }
