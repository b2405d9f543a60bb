-- Declarations that break no rule are those of a table.
use Rattle.std.proofs.Common.{◌≡◌, ℕ, suc, ◌≤◌, Bool, true, false, cond, eqb, List, [], ◌∷◌, ◌++◌, map, length, Option, Some, None, Ok, Err, refl, sym, ap, ap₂, ◌∙◌, subst, arith}
use Rattle.std.proofs.lemmas.List.{length-map, map-append}
use Rattle.std.specs.List.{AllByRecursion}
use Rattle.gib_types.specs.declared.table.Ty.{Ty}
use Rattle.gib_types.specs.declared.table.Ty.TheVariants.{Whole, Truth, Tree}
use Rattle.gib_types.specs.Table.{IsTable}
use Rattle.gib_syntax.specs.declared.tree.Ident.{Ident}
use Rattle.gib_syntax.specs.declared.tree.TypeName.{TypeName}
use Rattle.gib_syntax.specs.declared.tree.TypeName.TheVariants as ty
use Rattle.gib_syntax.specs.Tree.{ConstructorTree, DataTree, ProgramTree}
use Rattle.gib_syntax.specs.Fine.{HasConstructor}
use Rattle.gib_syntax.specs.Declarations.{number_of, place_of, next_place, tree_type, AreDifferent, type_names, row_in, rows_from, table_of_program}
use Rattle.gib_syntax.specs.Typing.{IsKnown, HasKnownFields, HasKnownConstructors}
use Rattle.gib_syntax.specs.GenericTree.{GenericDataTree, data_named, row_of, rows_of}
use Rattle.gib_syntax.specs.GenericTyping.{IsKnownType, HasKnownGenericFields, IsKnownData, variable_numbers}
use Rattle.gib_syntax.specs.Plain.{written_of, generic_of, generic_constructor, generic_data}
use Rattle.gib_check.specs.Faults.{Checked, and_then}
use Rattle.gib_check.specs.FirstFault.{check_declarations}
use Rattle.gib_check.specs.NameViews.{row_number}
use Rattle.gib_check.specs.Views.{tree_number, row_name}
use Rattle.gib_check.proofs.Programs as generic
use Rattle.gib_check.proofs.DataRules as data_rules
use Rattle.gib_check.proofs.RowRules.{table_is}
use Rattle.gib_local.specs.Building.{declared}
use Rattle.gib_local.specs.Naming.{check_text}
use Rattle.gib_local_parse.specs.Tree.{LocalTree}

names_are : (ds : List DataTree) → map data_rules.data_number (map generic_data ds) ≡ map tree_number ds
names_are [] = refl
names_are (d ∷ ds) = ap (λ l. number_of d.name ∷ l) (names_are ds)

constructors_are : (types : List ℕ) (owner : ℕ) (d : DataTree) (cs : List ConstructorTree) → map row_number (map (row_of (generic_data d)) (map generic_constructor cs)) ≡ map row_name (map (row_in types owner) cs)
constructors_are types owner d [] = refl
constructors_are types owner d (c ∷ cs) = ap (λ l. number_of c.name ∷ l) (constructors_are types owner d cs)

rows_alike : (types : List ℕ) (owner : ℕ) (ds : List DataTree) → map row_number (rows_of (map generic_data ds)) ≡ map row_name (rows_from types owner ds)
rows_alike types owner [] = refl
rows_alike types owner (d ∷ ds) =
    map-append row_number (map (row_of (generic_data d)) (map generic_constructor d.constructors)) (rows_of (map generic_data ds))
    ∙ ap₂ (λ (xs ys : List ℕ). xs ++ ys) (constructors_are types owner d d.constructors) (rows_alike types (suc owner) ds)
    ∙ sym (map-append row_name (map (row_in types owner) d.constructors) (rows_from types (suc owner) ds))

-- A declared type's name stands among the types.
named_too : (b : Bool) (d : DataTree) (o : Option ℕ) (p : Option GenericDataTree) → ((e : GenericDataTree) → p ≡ Some e → (t : Ty) × (tree_type o ≡ Some t)) → (e : GenericDataTree) → cond b (Some (generic_data d)) p ≡ Some e → (t : Ty) × (tree_type (cond b (Some 0) (next_place o)) ≡ Some t)
named_too true d o p h e q = (Tree (record { 0 = 0 }), refl)
named_too false d None p h e q = absurd (let f = h e q in let clash = f.1 in cc)
named_too false d (Some n) p h e q = (Tree (record { 0 = suc n }), refl)

type_there : (ds : List DataTree) (x : Ident) (e : GenericDataTree) → data_named (map generic_data ds) (number_of x) ≡ Some e → (t : Ty) × (tree_type (place_of (map tree_number ds) (number_of x)) ≡ Some t)
type_there [] x e q = absurd cc
type_there (d ∷ ds) x e q = named_too (eqb (number_of d.name) (number_of x)) d (place_of (map tree_number ds) (number_of x)) (data_named (map generic_data ds) (number_of x)) (type_there ds x) e q

pub known_too : (ds : List DataTree) (w : TypeName) → IsKnownType (map generic_data ds) [] (written_of w) → IsKnown (map tree_number ds) w
known_too ds (ty.Whole p) h = (Whole, refl)
known_too ds (ty.Truth p) h = (Truth, refl)
known_too ds (ty.Declared x) h = type_there ds x h.0 h.1

fields_too : (ds : List DataTree) (ws : List TypeName) → AllByRecursion (IsKnownType (map generic_data ds) []) (map written_of ws) → AllByRecursion (IsKnown (map tree_number ds)) ws
fields_too ds [] h = tt
fields_too ds (w ∷ ws) h = (known_too ds w h.0, fields_too ds ws h.1)

constructors_too : (ds : List DataTree) (cs : List ConstructorTree) → AllByRecursion (HasKnownGenericFields (map generic_data ds) []) (map generic_constructor cs) → AllByRecursion (HasKnownFields (map tree_number ds)) cs
constructors_too ds [] h = tt
constructors_too ds (c ∷ cs) h = ((subst (λ n. n ≤ 8) (length-map c.fields written_of) h.0.0, fields_too ds c.fields h.0.1), constructors_too ds cs h.1)

datas_too : (all ds : List DataTree) → AllByRecursion (IsKnownData (map generic_data all)) (map generic_data ds) → AllByRecursion (HasKnownConstructors (map tree_number all)) ds
datas_too all [] h = tt
datas_too all (d ∷ ds) h = (constructors_too all d.constructors h.0.1, datas_too all ds h.1)

-- The table of a program whose declarations break no rule.
pub declared_table : (p : ProgramTree) → check_declarations (generic_of p) ≡ Ok (tt {0}) → AllByRecursion HasConstructor p.datas → IsTable (table_of_program p)
declared_table p e h =
    let d = ((generic.declarations_hold (generic_of p)).by (tt {0}) e).datas in
    let same : map row_number (rows_of (map generic_data p.datas)) ≡ map row_name (table_of_program p).rows = rows_alike (type_names p) 0 p.datas in
    table_is p (record {
      types_differ = subst AreDifferent (names_are p.datas) d.types_differ;
      constructors_differ = subst AreDifferent same d.constructors_differ;
      few = (let few = d.few in
          let long = length-map (rows_of (map generic_data p.datas)) row_number in
          let many = length-map (table_of_program p).rows row_name in
          let names = ap (λ (z : List ℕ). length z) same in omega (arith, few, long, many, names));
      fields = datas_too p.datas p.datas d.datas;
    }) h

-- The first of several rules is kept.
first_ok : {B : Type 0} (c : Checked (Unit {0})) (go : Unit {0} → Checked B) (y : B) → and_then c go ≡ Ok y → c ≡ Ok (tt {0})
first_ok (Ok x) go y e = refl
first_ok (Err f) go y e = absurd cc

-- The table of a text whose names are in order.
pub text_table : (t : LocalTree) → check_text t ≡ Ok (tt {0}) → AllByRecursion HasConstructor t.datas → IsTable (table_of_program (declared t))
unfolding check_text
text_table t e h = declared_table (declared t) (first_ok (check_declarations (generic_of (declared t))) _ (tt {0}) e) h
