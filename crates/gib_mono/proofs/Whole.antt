-- The copied program has a copy of each thing that was asked for.
use Rattle.std.proofs.Common.{◌≡◌, ℕ, zero, suc, ◌+◌, Bool, true, false, ◌==◌, if◌then◌else◌, List, [], ◌∷◌, ◌++◌, map, Option, Some, None, refl, sym, ap, ◌∙◌, subst, arith}
use Rattle.std.specs.Prelude.{slice_get}
use Rattle.std.specs.Option.{option_map}
use Rattle.std.specs.List.{AllByRecursion}
use Rattle.std.proofs.lemmas.Option.{same_Some, slice_get-map}
use Rattle.std.proofs.lemmas.Bool.{eqb-true}
use Rattle.gib_types.specs.declared.table.Ty.{Ty}
use Rattle.gib_types.specs.declared.table.Ty.TheVariants.{Tree}
use Rattle.gib_types.specs.Table.{Row, if_owned, con_at, owner_of, fields_of}
use Rattle.gib_syntax.specs.Tree.{DataTree, FunctionTree}
use Rattle.gib_syntax.specs.Declarations.{number_of, place_of, AreDifferent, type_names, tree_type, type_or, type_of_name, table_of_program, constructor_names, constructor_named, function_named}
use Rattle.gib_syntax.specs.Typing.{globals_of}
use Rattle.gib_syntax.proofs.Soundness.{place_within, place_found}
use Rattle.gib_syntax.specs.Results.{Results, map_results, list_results}
use Rattle.gib_syntax.specs.Forms.{WrittenType, written_place, Form, Forms, DataForm, Meant, formed, assign}
use Rattle.gib_syntax.specs.GenericTree.{GenericConstructorTree, GenericDataTree, GenericParameterTree, GenericFunctionTree, GenericProgramTree, GenericRow, row_of, rows_of, GenericGlobals, globals_of_generic, place_named, generic_named, data_named}
use Rattle.gib_syntax.specs.GenericTyping.{IsTypedGeneric, IsKnownData, variable_numbers, field_forms, parameter_forms}
use Rattle.gib_syntax.specs.GenericFine.{HasGenericConstructor}
use Rattle.gib_mono.specs.Copying.{Naming, plain_type, copy_written, copy_data, copy_function, parameter_scope}
use Rattle.gib_mono.specs.Copied.{Item, IsItem, IsHere, Setting, plain, IsCopyOf, IsAsked, IsCopied}
use Rattle.gib_mono.specs.Walk.{Copy, DataOf, FunctionOf, DataCopy, FunctionCopy, datas_in, function_copies, copied_program, type_items, function_items, Made, made_of, made_from, or_zero, base_at, base_of, IsNaming, results_asks, types_asks, asks}
use Rattle.gib_mono.specs.Closed.{IsClosed, AreAnswered}
use Rattle.gib_mono.proofs.Scopes.{named_plain}
use Rattle.gib_mono.proofs.Closing.{data_found, data_has_name}
use Rattle.gib_mono.proofs.Copies.{answered_split}
use Rattle.gib_mono.proofs.Running.{generic_found, body_put}
use Rattle.gib_mono.proofs.Asking.{assign_here, results_types_here, types_here, constructors_here, parameters_known, parameter_forms_are, uses_asked, found_setting}
use Rattle.gib_mono.proofs.Here.{map_found, rows_are, rows_declared, TypesHere, types_here_at}
use Rattle.gib_mono.proofs.Tables.{made_row, rows_made, made_at, made_found, rows_at, row_placed}
use Rattle.gib_mono.proofs.Apart.{type_key, function_key, constructor_key, data_declared, function_declared, types_different, functions_different, constructors_different, function_at}
use Rattle.gib_mono.proofs.Covering.{same_tree}

-- Names of the copied program

pub type_names_are : (nm : Naming) (cs : List DataCopy) → map (λ (d : DataTree). number_of d.name) (map (λ (c : DataCopy). copy_data nm c.decl c.types) cs) ≡ map (type_key nm) cs
type_names_are nm [] = refl
type_names_are nm (c ∷ cs) = ap (λ (ns : List ℕ). type_key nm c ∷ ns) (type_names_are nm cs)

pub function_names_are : (g : GenericGlobals) (nm : Naming) (cs : List FunctionCopy) → map (λ (f : FunctionTree). number_of f.name) (map (λ (c : FunctionCopy). copy_function g nm c.function c.types) cs) ≡ map (function_key nm) cs
function_names_are g nm [] = refl
function_names_are g nm (c ∷ cs) = ap (λ (ns : List ℕ). function_key nm c ∷ ns) (function_names_are g nm cs)

made_names_are : (nm : Naming) (types : List ℕ) (ms : List Made) → map (λ (r : Row). r.name) (map (made_row nm types) ms) ≡ map (constructor_key nm) ms
made_names_are nm types [] = refl
made_names_are nm types (m ∷ ms) = ap (λ (ns : List ℕ). constructor_key nm m ∷ ns) (made_names_are nm types ms)

pub constructor_names_are : (p : GenericProgramTree) (nm : Naming) (found : List Copy) → constructor_names (table_of_program (copied_program p nm found)) ≡ map (constructor_key nm) (made_from 0 (datas_in found))
constructor_names_are p nm found =
    ap (λ (rows : List Row). map (λ (r : Row). r.name) rows) (rows_made nm (type_names (copied_program p nm found)) 0 (datas_in found))
    ∙ made_names_are nm (type_names (copied_program p nm found)) (made_from 0 (datas_in found))

-- What the proofs below rest on

-- the copies that the walk found, closed and named
pub record IsSet (p : GenericProgramTree) (nm : Naming) (names : List Item) (found : List Copy) : Type 0 where
  pub fine : AllByRecursion HasGenericConstructor p.datas
  pub typed : IsTypedGeneric p
  pub naming : IsNaming nm names found
  pub closed : IsClosed p found
  pub here : TypesHere (type_items found) found

-- the setting of the copied program
abbrev pub set_of : GenericProgramTree → Naming → List Copy → Setting
set_of p nm found = found_setting (globals_of_generic p) nm (globals_of (copied_program p nm found)) (base_of (rows_of p.datas) found) found

-- A copied type

pub record IsTypeCopy (p : GenericProgramTree) (found : List Copy) (t : ℕ) (ts : Forms) : Type 0 where
  pub index : ℕ
  pub decl : GenericDataTree
  pub there : slice_get (datas_in found) index ≡ Some (record { decl = decl; types = ts })
  pub named : number_of decl.name ≡ t
  pub own : data_named p.datas t ≡ Some decl

pub type_copied : (p : GenericProgramTree) (nm : Naming) (names : List Item) (found : List Copy) (t : ℕ) (ts : Forms) → IsSet p nm names found → IsItem (type_items found) t ts → IsTypeCopy p found t ts
type_copied p nm names found t ts is item =
    let c = map_found DataCopy Item (λ (c : DataCopy). record { name = number_of c.decl.name; types = c.types }) (datas_in found) item.0 (record { name = t; types = ts }) item.1 in
    let name : number_of (c.0).decl.name ≡ t = ap (λ (u : Item). u.name) (sym c.2) in
    let types : (c.0).types ≡ ts = ap (λ (u : Item). u.types) (sym c.2) in
    record {
      index = item.0;
      decl = (c.0).decl;
      there = c.1 ∙ ap (λ (us : Forms). Some (record { decl = (c.0).decl; types = us })) types;
      named = name;
      own = ap (data_named p.datas) (sym name) ∙ data_declared (globals_of_generic p) found item.0 c.0 is.closed.good.declared c.1;
    }

pub type_placed : (p : GenericProgramTree) (nm : Naming) (names : List Item) (found : List Copy) (t : ℕ) (ts : Forms) → IsSet p nm names found → (c : IsTypeCopy p found t ts) → place_of (type_names (copied_program p nm found)) (nm.types t ts) ≡ Some c.index
type_placed p nm names found t ts is c =
    let names_are = type_names_are nm (datas_in found) in
    place_found (type_names (copied_program p nm found)) (nm.types t ts) c.index
    (subst AreDifferent (sym names_are) (types_different nm names found is.naming is.closed.good.apart))
    (ap (λ (u : List ℕ). slice_get u c.index) names_are ∙ slice_get-map (type_key nm) (datas_in found) c.index ∙ ap (option_map (type_key nm)) c.there ∙ ap (λ (n : ℕ). Some (nm.types n ts)) c.named)

pub type_plain : (p : GenericProgramTree) (nm : Naming) (names : List Item) (found : List Copy) (t : ℕ) (ts : Forms) → IsSet p nm names found → (c : IsTypeCopy p found t ts) → plain (set_of p nm found) (DataForm t ts) ≡ Tree (record { 0 = c.index })
type_plain p nm names found t ts is c = ap (λ (u : Option ℕ). type_or (tree_type u)) (type_placed p nm names found t ts is c)

-- A copied constructor

-- the place of a constructor of a copied type
pub record IsPlaced (p : GenericProgramTree) (nm : Naming) (found : List Copy) (i : ℕ) (decl : GenericDataTree) (ts : Forms) (k : GenericConstructorTree) : Type 0 where
  pub place : ℕ
  pub made : slice_get (made_from 0 (datas_in found)) place ≡ Some (made_of i (record { decl = decl; types = ts }) k)

constructor_placed : (p : GenericProgramTree) (nm : Naming) (found : List Copy) (i j : ℕ) (decl : GenericDataTree) (ts : Forms) (k : GenericConstructorTree) → slice_get (datas_in found) i ≡ Some (record { decl = decl; types = ts }) → slice_get decl.constructors j ≡ Some k → IsPlaced p nm found i decl ts k
constructor_placed p nm found i j decl ts k e f =
    let d = made_at 0 (datas_in found) i j (record { decl = decl; types = ts }) k e f in
    let same : 0 + i ≡ i = omega arith in
    record { place = d.0; made = d.1 ∙ ap (λ (n : ℕ). Some (made_of n (record { decl = decl; types = ts }) k)) same }

-- what stands at a place of the table
row_at : (p : GenericProgramTree) (nm : Naming) (found : List Copy) (d : ℕ) (m : Made) → slice_get (made_from 0 (datas_in found)) d ≡ Some m →
    slice_get (table_of_program (copied_program p nm found)).rows d ≡ Some (made_row nm (type_names (copied_program p nm found)) m)
row_at p nm found d m e =
    ap (λ (rows : List Row). slice_get rows d) (rows_made nm (type_names (copied_program p nm found)) 0 (datas_in found))
    ∙ slice_get-map (made_row nm (type_names (copied_program p nm found))) (made_from 0 (datas_in found)) d ∙ ap (option_map (made_row nm (type_names (copied_program p nm found)))) e

pub constructor_names_differ : (p : GenericProgramTree) (nm : Naming) (names : List Item) (found : List Copy) → IsSet p nm names found → AreDifferent (constructor_names (table_of_program (copied_program p nm found)))
constructor_names_differ p nm names found is =
    subst AreDifferent (sym (constructor_names_are p nm found)) (constructors_different p nm names found 0 is.typed is.naming is.closed.good.apart is.closed.good.declared)

-- it is found by its name
named_at : (p : GenericProgramTree) (nm : Naming) (names : List Item) (found : List Copy) (d : ℕ) (m : Made) → IsSet p nm names found → slice_get (made_from 0 (datas_in found)) d ≡ Some m →
    constructor_named (table_of_program (copied_program p nm found)) (constructor_key nm m) ≡ Some d
named_at p nm names found d m is e =
    place_found (constructor_names (table_of_program (copied_program p nm found))) (constructor_key nm m) d (constructor_names_differ p nm names found is)
    (slice_get-map (λ (r : Row). r.name) (table_of_program (copied_program p nm found)).rows d ∙ ap (option_map (λ (r : Row). r.name)) (row_at p nm found d m e))

pub fields_plain : (nm : Naming) (types : List ℕ) (m : Meant) (ws : List WrittenType) → map (type_of_name types) (map (copy_written nm m) ws) ≡ map (plain_type nm types) (map (formed m) ws)
fields_plain nm types m [] = refl
fields_plain nm types m (w ∷ ws) =
    ap (λ (t : Ty). t ∷ map (type_of_name types) (map (copy_written nm m) ws)) (named_plain nm types (written_place w) (formed m w))
    ∙ ap (λ (ts : List Ty). plain_type nm types (formed m w) ∷ ts) (fields_plain nm types m ws)

-- the row of a constructor of a copied type
row_declared : (p : GenericProgramTree) (found : List Copy) (c : ℕ) (row : GenericRow) (ts : Forms) → IsTypedGeneric p → slice_get (rows_of p.datas) c ≡ Some row → (t : IsTypeCopy p found row.owner ts) → (j : ℕ) × (k : GenericConstructorTree) × (slice_get t.decl.constructors j ≡ Some k) × (row ≡ row_of t.decl k)
row_declared p found c row ts typed e t =
    let r = rows_are p typed c row e in
    let owner : number_of r.decl.name ≡ row.owner = ap (λ (u : GenericRow). u.owner) (sym r.is) in
    let same : r.decl ≡ t.decl = same_Some r.decl t.decl (sym r.own ∙ ap (data_named p.datas) owner ∙ t.own) in
    (r.place, r.constructor, ap (λ (u : GenericDataTree). slice_get u.constructors r.place) (sym same) ∙ r.there, r.is ∙ ap (λ (u : GenericDataTree). row_of u r.constructor) same)

copy_of : (p : GenericProgramTree) (nm : Naming) (names : List Item) (found : List Copy) (k c : ℕ) (row : GenericRow) (ts : Forms) → IsSet p nm names found → place_named (rows_of p.datas) k ≡ Some c → slice_get (rows_of p.datas) c ≡ Some row → IsItem (type_items found) row.owner ts →
    (d : ℕ) × IsCopyOf (set_of p nm found) c row ts k d
copy_of p nm names found k c row ts is placed e item =
    let t = type_copied p nm names found row.owner ts is item in
    let r = row_declared p found c row ts is.typed e t in
    let d = constructor_placed p nm found t.index r.0 t.decl ts r.1 t.there r.2 in
    let q = copied_program p nm found in
    let at = row_at p nm found d.place (made_of t.index (record { decl = t.decl; types = ts }) r.1) d.made in
    let name : number_of (r.1).name ≡ k =
    same_Some (number_of (r.1).name) k
    (ap (λ (u : GenericRow). Some u.name) (sym r.3) ∙ ap (option_map (λ (u : GenericRow). u.name)) (sym e) ∙ sym (slice_get-map (λ (u : GenericRow). u.name) (rows_of p.datas) c)
    ∙ place_within (map (λ (u : GenericRow). u.name) (rows_of p.datas)) k c placed) in (
      d.place,
      record {
        named = ap (λ (n : ℕ). constructor_named (table_of_program q) (nm.constructors n ts)) (sym name) ∙ named_at p nm names found d.place (made_of t.index (record { decl = t.decl; types = ts }) r.1) is d.made;
        shown = ap (base_at (rows_of p.datas)) d.made ∙ ap (λ (n : ℕ). or_zero (place_named (rows_of p.datas) n)) name ∙ ap or_zero placed;
        owner = ap (λ (u : Option Row). Tree (record { 0 = owner_of u })) at ∙ sym (type_plain p nm names found row.owner ts is t);
        fields = ap fields_of at ∙ fields_plain nm (type_names q) (assign t.decl.variables ts) (r.1).fields ∙ ap (λ (u : GenericRow). map (plain (set_of p nm found)) (field_forms u ts)) (sym r.3);
      },
    )

owned_row : (o : Option Row) (ty d : ℕ) → if_owned ty d o ≡ Some d → (row : Row) × (o ≡ Some row) × (row.owner ≡ ty)
owned_row None ty d e = absurd cc
owned_row (Some row) ty d e = (row, refl, step (row.owner == ty) (eqb-true row.owner ty) e) where
  step : (b : Bool) → (b ≡ true → row.owner ≡ ty) → (if b then Some d else None) ≡ Some d → row.owner ≡ ty
  step true is e = is refl
  step false is e = absurd cc

only_copies : (p : GenericProgramTree) (nm : Naming) (names : List Item) (found : List Copy) (t : ℕ) (ts : Forms) (i d : ℕ) → IsSet p nm names found → IsItem (type_items found) t ts → plain (set_of p nm found) (DataForm t ts) ≡ Tree (record { 0 = i }) →
    con_at (table_of_program (copied_program p nm found)) i d ≡ Some d →
    (k c : ℕ) × (row : GenericRow) × (place_named (rows_of p.datas) k ≡ Some c) × (slice_get (rows_of p.datas) c ≡ Some row) × (row.owner ≡ t) × (row.name ≡ k) × (constructor_named (table_of_program (copied_program p nm found)) (nm.constructors k ts) ≡ Some d)
only_copies p nm names found t ts i d is item type_is there =
    let q = copied_program p nm found in
    let c = type_copied p nm names found t ts is item in
    let index : c.index ≡ i = same_tree c.index i (sym (type_plain p nm names found t ts is c) ∙ type_is) in
    let row = owned_row (slice_get (table_of_program q).rows d) i d there in
    let m = map_found Made Row (made_row nm (type_names q)) (made_from 0 (datas_in found)) d row.0
    (ap (λ (rows : List Row). slice_get rows d) (sym (rows_made nm (type_names q) 0 (datas_in found))) ∙ row.1) in
    let made = made_found 0 (datas_in found) d m.0 m.1 in
    let zero_more : 0 + made.index ≡ made.index = omega arith in
    let number : made.index ≡ c.index = sym zero_more ∙ sym made.number ∙ ap (λ (u : Row). u.owner) (sym m.2) ∙ row.2 ∙ sym index in
    let same : record { decl = c.decl; types = ts } ≡ (m.0).copy = same_Some (record { decl = c.decl; types = ts }) (m.0).copy (sym c.there ∙ ap (slice_get (datas_in found)) (sym number) ∙ made.copied) in
    let own = data_declared (globals_of_generic p) found made.index (m.0).copy is.closed.good.declared made.copied in
    let at = rows_at p (m.0).copy.decl made.place (m.0).constructor own made.there in (
      number_of (m.0).constructor.name,
      at.0,
      row_of (m.0).copy.decl (m.0).constructor,
      row_placed p is.typed at.0 (row_of (m.0).copy.decl (m.0).constructor) at.1,
      at.1,
      ap (λ (u : DataCopy). number_of u.decl.name) (sym same) ∙ c.named,
      refl,
      ap (λ (us : Forms). constructor_named (table_of_program q) (nm.constructors (number_of (m.0).constructor.name) us)) (ap (λ (u : DataCopy). u.types) same) ∙ named_at p nm names found d m.0 is m.1,
    )

-- What declarations ask for

data_place : (found : List Copy) (i : ℕ) (c : DataCopy) → slice_get (datas_in found) i ≡ Some c → (n : ℕ) × (slice_get found n ≡ Some (DataOf c.decl c.types))
data_place [] i c e = absurd cc
data_place (DataOf d ts ∷ cs) zero c e = (0, ap (λ (u : DataCopy). Some (DataOf u.decl u.types)) (same_Some (record { decl = d; types = ts }) c e))
data_place (DataOf d ts ∷ cs) (suc i) c e = let n = data_place cs i c e in (suc n.0, n.1)
data_place (FunctionOf f ts ∷ cs) i c e = let n = data_place cs i c e in (suc n.0, n.1)

function_place : (found : List Copy) (i : ℕ) (c : FunctionCopy) → slice_get (function_copies found) i ≡ Some c → (n : ℕ) × (slice_get found n ≡ Some (FunctionOf c.function c.types))
function_place [] i c e = absurd cc
function_place (DataOf d ts ∷ cs) i c e = let n = function_place cs i c e in (suc n.0, n.1)
function_place (FunctionOf f ts ∷ cs) zero c e = (0, ap (λ (u : FunctionCopy). Some (FunctionOf u.function u.types)) (same_Some (record { function = f; types = ts }) c e))
function_place (FunctionOf f ts ∷ cs) (suc i) c e = let n = function_place cs i c e in (suc n.0, n.1)

each_here : (items : List Item) (m : Meant) (ks : List GenericConstructorTree) (j : ℕ) (k : GenericConstructorTree) → AllByRecursion (λ (c : GenericConstructorTree). AllByRecursion (IsHere items) (map (formed m) c.fields)) ks → slice_get ks j ≡ Some k → AllByRecursion (IsHere items) (map (formed m) k.fields)
each_here items m [] j k h e = absurd cc
each_here items m (b ∷ ks) zero k h e = subst (λ (u : GenericConstructorTree). AllByRecursion (IsHere items) (map (formed m) u.fields)) (same_Some b k e) h.0
each_here items m (b ∷ ks) (suc j) k h e = each_here items m ks j k h.1 e

-- fields of a copied type are here
pub copy_fields_here : (p : GenericProgramTree) (nm : Naming) (names : List Item) (found : List Copy) (i : ℕ) (decl : GenericDataTree) (ts : Forms) → IsSet p nm names found → slice_get (datas_in found) i ≡ Some (record { decl = decl; types = ts }) →
    AllByRecursion (λ (c : GenericConstructorTree). AllByRecursion (IsHere (type_items found)) (map (formed (assign decl.variables ts)) c.fields)) decl.constructors
copy_fields_here p nm names found i decl ts is e =
    let n = data_place found i (record { decl = decl; types = ts }) e in
    let own = data_declared (globals_of_generic p) found i (record { decl = decl; types = ts }) is.closed.good.declared e in
    (constructors_here (globals_of_generic p) found (variable_numbers decl.variables) (assign decl.variables ts)
    (assign_here (type_items found) decl.variables ts (types_here_at (type_items found) found n.0 (DataOf decl ts) is.here n.1)) decl.constructors
    ((data_found (IsKnownData p.datas) p.datas (number_of decl.name) decl is.typed.datas own).1) (is.closed.each n.0 (DataOf decl ts) n.1)).0

row_fields_here : (p : GenericProgramTree) (nm : Naming) (names : List Item) (found : List Copy) (c : ℕ) (row : GenericRow) (ts : Forms) → IsSet p nm names found → slice_get (rows_of p.datas) c ≡ Some row → IsItem (type_items found) row.owner ts → AllByRecursion (IsHere (type_items found)) (field_forms row ts)
row_fields_here p nm names found c row ts is e item =
    let t = type_copied p nm names found row.owner ts is item in
    let r = row_declared p found c row ts is.typed e t in
    subst (λ (u : GenericRow). AllByRecursion (IsHere (type_items found)) (field_forms u ts)) (sym r.3)
    (each_here (type_items found) (assign t.decl.variables ts) t.decl.constructors r.0 r.1 (copy_fields_here p nm names found t.index t.decl ts is t.there) r.2)

-- what a function's copy asks for
pub record IsFunctionHere (p : GenericProgramTree) (nm : Naming) (found : List Copy) (variables : List Rattle.gib_syntax.specs.declared.tree.Ident.Ident) (parameters : List GenericParameterTree) (result : Results WrittenType) (body : Rattle.gib_syntax.specs.GenericTree.GenericExpression) (m : Meant) : Type 0 where
  pub parameters_here : AllByRecursion (IsHere (type_items found)) (map (λ (q : GenericParameterTree). formed m q.ty) parameters)
  pub results_here : AllByRecursion (IsHere (type_items found)) (list_results (map_results (formed m) result))
  pub body_asked : IsAsked (set_of p nm found) m body

pub function_here : (p : GenericProgramTree) (nm : Naming) (found : List Copy) (variables : List Rattle.gib_syntax.specs.declared.tree.Ident.Ident) (parameters : List GenericParameterTree) (result : Results WrittenType) (body : Rattle.gib_syntax.specs.GenericTree.GenericExpression) (m : Meant) → IsTypedGeneric p →
    Rattle.gib_syntax.specs.GenericTyping.IsTypedGenericFunction (globals_of_generic p) variables parameters result body → Rattle.gib_mono.proofs.Asking.MeantHere (type_items found) m →
    AreAnswered (globals_of_generic p) found (Rattle.gib_mono.specs.Walk.function_asks (rows_of p.datas) m parameters result body) → IsFunctionHere p nm found variables parameters result body m
function_here p nm found variables parameters result body m typed own here h =
    let g = globals_of_generic p in
    let first = answered_split g found (types_asks m (map (λ (q : GenericParameterTree). q.ty) parameters)) (results_asks m result ++ asks g.rows m body) h in
    let second = answered_split g found (results_asks m result) (asks g.rows m body) first.1 in
    let is = body_put g variables parameters result body m own in
    record {
      parameters_here = subst (λ (us : List Form). AllByRecursion (IsHere (type_items found)) us) (parameter_forms_are m parameters)
          (types_here g found (variable_numbers variables) m here (map (λ (q : GenericParameterTree). q.ty) parameters) (parameters_known p.datas (variable_numbers variables) parameters own.known) first.0).0;
      results_here = (results_types_here g found (variable_numbers variables) m here result own.known_result second.0).0;
      body_asked = (uses_asked g nm (globals_of (copied_program p nm found)) (base_of (rows_of p.datas) found) found (rows_declared p typed) (variable_numbers variables) m here body (map_results (formed m) result) (parameter_scope m parameters) is.typed second.1).0;
    }

-- A copied function

pub record IsFunctionCopy (p : GenericProgramTree) (found : List Copy) (h : GenericFunctionTree) (ts : Forms) : Type 0 where
  pub index : ℕ
  pub there : slice_get (function_copies found) index ≡ Some (record { function = h; types = ts })

function_copied : (p : GenericProgramTree) (nm : Naming) (names : List Item) (found : List Copy) (x : ℕ) (h : GenericFunctionTree) (ts : Forms) → IsSet p nm names found → generic_named p.functions x ≡ Some h → IsItem (function_items found) x ts → IsFunctionCopy p found h ts
function_copied p nm names found x h ts is named item =
    let c = map_found FunctionCopy Item (λ (c : FunctionCopy). record { name = number_of c.function.name; types = c.types }) (function_copies found) item.0 (record { name = x; types = ts }) item.1 in
    let name : number_of (c.0).function.name ≡ x = ap (λ (u : Item). u.name) (sym c.2) in
    let same : (c.0).function ≡ h = same_Some (c.0).function h (sym (function_declared (globals_of_generic p) found item.0 c.0 is.closed.good.declared c.1) ∙ ap (generic_named p.functions) name ∙ named) in
    record {
      index = item.0;
      there = c.1 ∙ ap (λ (u : GenericFunctionTree). Some (record { function = u; types = (c.0).types })) same ∙ ap (λ (us : Forms). Some (record { function = h; types = us })) (ap (λ (u : Item). u.types) (sym c.2));
    }

pub copy_function_here : (p : GenericProgramTree) (nm : Naming) (names : List Item) (found : List Copy) (i : ℕ) (h : GenericFunctionTree) (ts : Forms) → IsSet p nm names found → slice_get (function_copies found) i ≡ Some (record { function = h; types = ts }) →
    IsFunctionHere p nm found h.variables h.parameters h.result h.body (assign h.variables ts)
copy_function_here p nm names found i h ts is e =
    let n = function_place found i (record { function = h; types = ts }) e in
    let own = function_declared (globals_of_generic p) found i (record { function = h; types = ts }) is.closed.good.declared e in
    function_here p nm found h.variables h.parameters h.result h.body (assign h.variables ts) is.typed
    (generic_found (globals_of_generic p) p.functions (number_of h.name) h is.typed.functions own)
    (assign_here (type_items found) h.variables ts (types_here_at (type_items found) found n.0 (FunctionOf h ts) is.here n.1)) (is.closed.each n.0 (FunctionOf h ts) n.1)

pub function_names_differ : (p : GenericProgramTree) (nm : Naming) (names : List Item) (found : List Copy) → IsSet p nm names found → AreDifferent (map (λ (f : FunctionTree). number_of f.name) (copied_program p nm found).functions)
function_names_differ p nm names found is =
    subst AreDifferent (sym (function_names_are (globals_of_generic p) nm (function_copies found))) (functions_different nm names found is.naming is.closed.good.apart)

function_found_at : (p : GenericProgramTree) (nm : Naming) (names : List Item) (found : List Copy) (x : ℕ) (h : GenericFunctionTree) (ts : Forms) → IsSet p nm names found → generic_named p.functions x ≡ Some h → (c : IsFunctionCopy p found h ts) →
    function_named (copied_program p nm found).functions (nm.functions x ts) ≡ Some (copy_function (globals_of_generic p) nm h ts)
function_found_at p nm names found x h ts is named c =
    ap (λ (n : ℕ). function_named (copied_program p nm found).functions (nm.functions n ts)) (sym (Rattle.gib_mono.proofs.Closing.function_has_name p.functions x h named))
    ∙ function_at (copied_program p nm found).functions c.index (copy_function (globals_of_generic p) nm h ts) (function_names_differ p nm names found is)
    (slice_get-map (λ (c : FunctionCopy). copy_function (globals_of_generic p) nm c.function c.types) (function_copies found) c.index ∙ ap (option_map (λ (c : FunctionCopy). copy_function (globals_of_generic p) nm c.function c.types)) c.there)

-- The copied program has what was asked for

pub is_copied : (p : GenericProgramTree) (nm : Naming) (names : List Item) (found : List Copy) → IsSet p nm names found → IsCopied (set_of p nm found)
is_copied p nm names found is = record {
  constructors = λ k c row ts placed e item. copy_of p nm names found k c row ts is placed e item;
  only = λ t ts i d item type_is there. only_copies p nm names found t ts i d is item type_is there;
  declared = λ t ts item. let c = type_copied p nm names found t ts is item in (c.index, type_plain p nm names found t ts is c);
  fields_here = λ c row ts e item. row_fields_here p nm names found c row ts is e item;
  functions = λ x h ts named item. function_found_at p nm names found x h ts is named (function_copied p nm names found x h ts is named item);
  parameters_here = λ x h ts named item. let c = function_copied p nm names found x h ts is named item in (copy_function_here p nm names found c.index h ts is c.there).parameters_here;
  results_here = λ x h ts named item. let c = function_copied p nm names found x h ts is named item in (copy_function_here p nm names found c.index h ts is c.there).results_here;
  bodies_asked = λ x h ts named item. let c = function_copied p nm names found x h ts is named item in (copy_function_here p nm names found c.index h ts is c.there).body_asked;
}
