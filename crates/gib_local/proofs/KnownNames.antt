-- Declarations by their names and places.
use Rattle.std.proofs.Common.{Bor, ◌≡◌, ℕ, zero, suc, ◌+◌, ◌<◌, Bool, true, false, cond, eqb, ltb, List, [], ◌∷◌, ◌++◌, map, length, get_or, Option, Some, None, Ok, Err, refl, sym, ap, ap₂, ◌∙◌, subst, arith, slice_get}
use Rattle.std.proofs.lemmas.Bool.{eqb-true, ltb-true, ltb-false}
use Rattle.std.proofs.lemmas.List.{map-append, length-map}
use Rattle.std.proofs.lemmas.Option.{slice_get_read, slice_get_past, slice_get-get_or}
use Rattle.std.specs.Prelude.{is_some, IfSome}
use Rattle.gib_types.specs.Row.{Row}
use Rattle.gib_types.specs.declared.table.Ty.{Ty}
use Rattle.gib_types.specs.declared.table.Ty.TheVariants.{Whole, Truth, Tree}
use Rattle.gib_types.specs.Table.{Table, fields_at, fields_of, is_scalar, tree_types}
use Rattle.gib_syntax.specs.declared.tree.Ident.{Ident}
use Rattle.gib_syntax.specs.declared.tree.ConstructorDecl.{ConstructorDecl}
use Rattle.gib_syntax.specs.declared.tree.DataDecl.{DataDecl}
use Rattle.gib_syntax.specs.Parts.{constructor_tree, data_tree}
use Rattle.gib_syntax.specs.Declarations.{number_of, place_of, next_place, type_of_name, row_in, rows_from, constructor_names, constructor_named, function_named}
use Rattle.gib_syntax.specs.Tree.{FunctionTree}
use Rattle.gib_check.specs.declared.fault.Kind.TheVariants as kind
use Rattle.gib_check.specs.Faults.{and_then, found}
use Rattle.gib_check.specs.Views.{tree_number}
use Rattle.gib_check.proofs.Different.{place_within}
use Rattle.gib_local.specs.declared.known.Kept.{Kept}
use Rattle.gib_local_parse.specs.declared.text.FunctionLines.{FunctionLines}
use Rattle.gib_local_parse.specs.LineArena.{tree_of}
use Rattle.gib_local_parse.specs.TextParts.{TextParts, function_text}
use Rattle.gib_local.specs.Building.{head, con, con_or, is_flat}
use Rattle.gib_local_parse.specs.Tree.{Line}
use Rattle.gib_local.specs.Knowing.{declared_of, function_number, kept_in, kept_name, all_kept, kept_count, count_of, kept_flat, flat_of, no_tree, constructor_of, function_of, IsKnown}
use Rattle.gib_local.specs.Naming.{as_many, constructor, function}

-- The name of a row.
abbrev row_name : Row → ℕ
row_name r = r.name

names_of_data : (types : List ℕ) (owner : ℕ) (cs : List ConstructorDecl) → map kept_name (map (kept_in types) cs) ≡ map row_name (map (row_in types owner) (map constructor_tree cs))
names_of_data types owner [] = refl
names_of_data types owner (c ∷ cs) = ap (λ l. c.name.name.0 ∷ l) (names_of_data types owner cs)

names_of_all : (types : List ℕ) (owner : ℕ) (ds : List DataDecl) → map kept_name (all_kept types ds) ≡ map row_name (rows_from types owner (map data_tree ds))
names_of_all types owner [] = refl
names_of_all types owner (d ∷ ds) =
    map-append kept_name (map (kept_in types) d.constructors.items) (all_kept types ds)
    ∙ ap₂ (λ (xs ys : List ℕ). xs ++ ys) (names_of_data types owner d.constructors.items) (names_of_all types (suc owner) ds)
    ∙ sym (map-append row_name (map (row_in types owner) (map constructor_tree d.constructors.items)) (rows_from types (suc owner) (map data_tree ds)))

counts_of_data : (types : List ℕ) (owner : ℕ) (cs : List ConstructorDecl) → map kept_count (map (kept_in types) cs) ≡ map count_of (map (row_in types owner) (map constructor_tree cs))
counts_of_data types owner [] = refl
counts_of_data types owner (c ∷ cs) = ap₂ (λ (n : ℕ) (l : List ℕ). n ∷ l) (sym (length-map c.fields.items (type_of_name types))) (counts_of_data types owner cs)

counts_of_all : (types : List ℕ) (owner : ℕ) (ds : List DataDecl) → map kept_count (all_kept types ds) ≡ map count_of (rows_from types owner (map data_tree ds))
counts_of_all types owner [] = refl
counts_of_all types owner (d ∷ ds) =
    map-append kept_count (map (kept_in types) d.constructors.items) (all_kept types ds)
    ∙ ap₂ (λ (xs ys : List ℕ). xs ++ ys) (counts_of_data types owner d.constructors.items) (counts_of_all types (suc owner) ds)
    ∙ sym (map-append count_of (map (row_in types owner) (map constructor_tree d.constructors.items)) (rows_from types (suc owner) (map data_tree ds)))

flats_of_data : (types : List ℕ) (owner : ℕ) (cs : List ConstructorDecl) → map kept_flat (map (kept_in types) cs) ≡ map flat_of (map (row_in types owner) (map constructor_tree cs))
flats_of_data types owner [] = refl
flats_of_data types owner (c ∷ cs) = ap (λ (l : List Bool). no_tree (map (type_of_name types) c.fields.items) ∷ l) (flats_of_data types owner cs)

flats_of_all : (types : List ℕ) (owner : ℕ) (ds : List DataDecl) → map kept_flat (all_kept types ds) ≡ map flat_of (rows_from types owner (map data_tree ds))
flats_of_all types owner [] = refl
flats_of_all types owner (d ∷ ds) =
    map-append kept_flat (map (kept_in types) d.constructors.items) (all_kept types ds)
    ∙ ap₂ (λ (xs ys : List Bool). xs ++ ys) (flats_of_data types owner d.constructors.items) (flats_of_all types (suc owner) ds)
    ∙ sym (map-append flat_of (map (row_in types owner) (map constructor_tree d.constructors.items)) (rows_from types (suc owner) (map data_tree ds)))

-- What the lists say of a text.
pub known_is : (parts : TextParts) (types constructors functions : List ℕ) (rows : List Kept) (datas : List DataDecl) → datas ≡ parts.datas → types ≡ map tree_number (map data_tree datas) → rows ≡ all_kept types datas → constructors ≡ map kept_name rows → functions ≡ map function_number parts.functions → IsKnown parts types constructors functions rows
known_is parts types constructors functions rows datas ed et er ec ef =
    let own : types ≡ (declared_of parts).table.types = et ∙ ap (λ ds. map tree_number (map data_tree ds)) ed in
    let all : rows ≡ all_kept (declared_of parts).table.types parts.datas = er ∙ ap₂ all_kept own ed in
    record {
      types_are = own;
      constructors_are = ec ∙ ap (map kept_name) all ∙ names_of_all (declared_of parts).table.types 0 parts.datas;
      functions_are = ef;
      counts_are = ap (map kept_count) all ∙ counts_of_all (declared_of parts).table.types 0 parts.datas;
      flats_are = ap (map kept_flat) all ∙ flats_of_all (declared_of parts).table.types 0 parts.datas;
    }

-- As many as are kept is as many fields as the table has.
same_count : (rows : List Kept) (others : List Row) (i : ℕ) (r : Kept) → map kept_count rows ≡ map count_of others → slice_get rows i ≡ Some r → r.count ≡ length (fields_of (slice_get others i))
same_count [] others i r e g = absurd cc
same_count (x ∷ rows) [] i r e g = absurd cc
same_count (x ∷ rows) (y ∷ others) zero r e g = (let same : x ≡ r = cc in let n : x.count ≡ length y.fields = cc in ap (λ (z : Kept). z.count) (sym same) ∙ n)
same_count (x ∷ rows) (y ∷ others) (suc i) r e g = same_count rows others i r (let t : map kept_count rows ≡ map count_of others = cc in t) g

pub as_many_rows : (rows : List Kept) (table : Table) → map kept_count rows ≡ map count_of table.rows → length rows ≡ length (constructor_names table)
as_many_rows rows table e = sym (length-map rows kept_count) ∙ ap (λ (z : List ℕ). length z) e ∙ length-map table.rows count_of ∙ sym (length-map table.rows row_name)

-- The count that is kept at a constructor's number.
pub count_at : (rows : List Kept) (table : Table) (i : ℕ) (r : Kept) → map kept_count rows ≡ map count_of table.rows → i < length rows → r ≡ get_or rows i r → r.count ≡ length (fields_at table i)
count_at rows table i r e l q = same_count rows table.rows i r e (slice_get-get_or rows i r l ∙ ap Some (sym q))

-- A place among names is below their number.
pub number_inside : (rows : List Kept) (table : Table) (x i : ℕ) → map kept_count rows ≡ map count_of table.rows → place_of (constructor_names table) x ≡ Some i → i < length rows
number_inside rows table x i e p = let l = place_within (constructor_names table) x i p in omega (arith, l, as_many_rows rows table e)

-- What a place among functions says of the function of the name.
AtFunction : (ℕ → Line) → List FunctionLines → Option ℕ → Option FunctionTree → Type 0
AtFunction f fs None p = p ≡ None
AtFunction f fs (Some i) p = (g : FunctionLines) → slice_get fs i ≡ Some g → p ≡ Some (head (function_text f g))

function_more : (f : ℕ → Line) (b : Bool) (g : FunctionLines) (fs : List FunctionLines) (o : Option ℕ) (p : Option FunctionTree) → AtFunction f fs o p → AtFunction f (g ∷ fs) (cond b (Some 0) (next_place o)) (cond b (Some (head (function_text f g))) p)
unfolding AtFunction
function_more f true g fs o p h = λ e q. (let same : g ≡ e = cc in ap (λ z. Some (head (function_text f z))) same)
function_more f false g fs None p h = h
function_more f false g fs (Some i) p h = h

function_all : (f : ℕ → Line) (fs : List FunctionLines) (x : ℕ) → AtFunction f fs (place_of (map function_number fs) x) (function_named (map head (map (function_text f) fs)) x)
unfolding AtFunction
function_all f [] x = refl
function_all f (g ∷ fs) x = function_more f (eqb (number_of g.name) x) g fs (place_of (map function_number fs) x) (function_named (map head (map (function_text f) fs)) x) (function_all f fs x)

-- The function at the place of a name, as the code finds it.
pub function_found : (inner parts : TextParts) (names : List ℕ) (fs : List FunctionLines) (x : Ident) (i : ℕ) (o : Option ℕ) (g : FunctionLines) → inner ≡ parts → names ≡ map function_number inner.functions → fs ≡ inner.functions → o ≡ place_of names (number_of x) → o ≡ Some i → g ≡ get_or fs i g → function (declared_of parts).functions x ≡ Ok (head (function_text (tree_of parts.lines) g))
unfolding AtFunction
function_found inner parts names fs x i o g same en ef eo e q =
    let p : place_of (map function_number inner.functions) (number_of x) ≡ Some i = ap (λ l. place_of l (number_of x)) (sym en) ∙ sym eo ∙ e in
    let l : i < length inner.functions = (let k = place_within (map function_number inner.functions) (number_of x) i p in let m = length-map inner.functions function_number in omega (arith, k, m)) in
    let at : slice_get inner.functions i ≡ Some g = slice_get-get_or inner.functions i g l ∙ ap (λ z. Some (get_or z i g)) (sym ef) ∙ ap Some (sym q) in
    subst (λ (z : TextParts). function (declared_of z).functions x ≡ Ok (head (function_text (tree_of z.lines) g))) same
    (ap (λ z. found z kind.Unknown x.span) ((subst (λ z. AtFunction (tree_of inner.lines) inner.functions z (function_named (declared_of inner).functions (number_of x))) p (function_all (tree_of inner.lines) inner.functions (number_of x))) g at))

pub function_missing : (inner parts : TextParts) (names : List ℕ) (x : Ident) (o : Option ℕ) → inner ≡ parts → names ≡ map function_number inner.functions → o ≡ place_of names (number_of x) → o ≡ None → function (declared_of parts).functions x ≡ Err (record { kind = kind.Unknown; span = x.span })
unfolding AtFunction
function_missing inner parts names x o same en eo e =
    subst (λ (z : TextParts). function (declared_of z).functions x ≡ Err (record { kind = kind.Unknown; span = x.span })) same
    (ap (λ z. found z kind.Unknown x.span) (subst (λ z. AtFunction (tree_of inner.lines) inner.functions z (function_named (declared_of inner).functions (number_of x))) (ap (λ l. place_of l (number_of x)) (sym en) ∙ sym eo ∙ e) (function_all (tree_of inner.lines) inner.functions (number_of x))))

-- A scalar is passed by, and a packed field stops.
pub scalar_passed : (t : Ty) (ts : List Ty) → is_scalar t ≡ true → no_tree (t ∷ ts) ≡ no_tree ts
scalar_passed Whole ts e = refl
scalar_passed Truth ts e = refl
scalar_passed (Tree u) ts e = absurd cc

pub tree_stops : (t : Ty) (ts : List Ty) → is_scalar t ≡ false → no_tree (t ∷ ts) ≡ false
tree_stops Whole ts e = absurd cc
tree_stops Truth ts e = absurd cc
tree_stops (Tree u) ts e = go (eqb (length (Tree u ∷ tree_types ts)) 0) refl where
  go : (b : Bool) → eqb (length (Tree u ∷ tree_types ts)) 0 ≡ b → b ≡ false
  go true q = absurd (let k = eqb-true (length (Tree u ∷ tree_types ts)) 0 q in omega (arith, k))
  go false q = refl

same_flat : (rows : List Kept) (others : List Row) (i : ℕ) (r : Kept) → map kept_flat rows ≡ map flat_of others → slice_get rows i ≡ Some r → r.flat ≡ no_tree (fields_of (slice_get others i))
same_flat [] others i r e g = absurd cc
same_flat (x ∷ rows) [] i r e g = absurd cc
same_flat (x ∷ rows) (y ∷ others) zero r e g = (let same : x ≡ r = cc in let n : x.flat ≡ flat_of y = cc in ap (λ (z : Kept). z.flat) (sym same) ∙ n)
same_flat (x ∷ rows) (y ∷ others) (suc i) r e g = same_flat rows others i r (let t : map kept_flat rows ≡ map flat_of others = cc in t) g

none_flat : (rows : List Kept) (others : List Row) (i : ℕ) → map kept_flat rows ≡ map flat_of others → slice_get rows i ≡ None → true ≡ no_tree (fields_of (slice_get others i))
none_flat [] [] i e g = refl
none_flat [] (y ∷ others) i e g = absurd cc
none_flat (x ∷ rows) [] i e g = refl
none_flat (x ∷ rows) (y ∷ others) zero e g = absurd cc
none_flat (x ∷ rows) (y ∷ others) (suc i) e g = none_flat rows others i (let t : map kept_flat rows ≡ map flat_of others = cc in t) g

-- The constructor that is looked at.
pub found_con : (inner parts : TextParts) (names : List ℕ) (k : Ident) (o : Option ℕ) (i : ℕ) → inner ≡ parts → names ≡ constructor_names (declared_of inner).table → o ≡ place_of names (number_of k) → o ≡ Some i → con (declared_of parts).table k ≡ record { 0 = i }
found_con inner parts names k o i same en eo e = subst (λ (z : TextParts). con (declared_of z).table k ≡ record { 0 = i }) same (ap con_or (ap (λ l. place_of l (number_of k)) (sym en) ∙ sym eo ∙ e))

pub missing_con : (inner parts : TextParts) (names : List ℕ) (k : Ident) (o : Option ℕ) → inner ≡ parts → names ≡ constructor_names (declared_of inner).table → o ≡ place_of names (number_of k) → o ≡ None → con (declared_of parts).table k ≡ record { 0 = 0 }
missing_con inner parts names k o same en eo e = subst (λ (z : TextParts). con (declared_of z).table k ≡ record { 0 = 0 }) same (ap con_or (ap (λ l. place_of l (number_of k)) (sym en) ∙ sym eo ∙ e))

pub flat_here : (inner parts : TextParts) (rows : List Kept) (i : ℕ) (r : Kept) → inner ≡ parts → map kept_flat rows ≡ map flat_of (declared_of inner).table.rows → slice_get rows i ≡ Some r → r.flat ≡ is_flat (declared_of parts).table (record { 0 = i })
flat_here inner parts rows i r same e g = subst (λ (z : TextParts). r.flat ≡ is_flat (declared_of z).table (record { 0 = i })) same (same_flat rows (declared_of inner).table.rows i r e g)

pub flat_nowhere : (inner parts : TextParts) (rows : List Kept) (i : ℕ) → inner ≡ parts → map kept_flat rows ≡ map flat_of (declared_of inner).table.rows → slice_get rows i ≡ None → true ≡ is_flat (declared_of parts).table (record { 0 = i })
flat_nowhere inner parts rows i same e g = subst (λ (z : TextParts). true ≡ is_flat (declared_of z).table (record { 0 = i })) same (none_flat rows (declared_of inner).table.rows i e g)

-- A constructor that is looked at by its number, or none.
pub got_row : (rows : List Kept) (i : ℕ) (found : Option (Bor Kept)) (r : Bor Kept) → is_some found ≡ ltb i (length rows) → IfSome found (λ x. x.now ≡ get_or rows i x.now) → found ≡ Some r → slice_get rows i ≡ Some r.now
got_row rows i found r s g e =
    let l : is_some (Some r) ≡ ltb i (length rows) = subst (λ (z : Option (Bor Kept)). is_some z ≡ ltb i (length rows)) e s in
    let h : r.now ≡ get_or rows i r.now = subst (λ (z : Option (Bor Kept)). IfSome z (λ x. x.now ≡ get_or rows i x.now)) e g in
    slice_get_read rows (length rows) i r.now refl (ltb-true i (length rows) (sym l)) h

pub no_row : (rows : List Kept) (i : ℕ) (found : Option (Bor Kept)) → is_some found ≡ ltb i (length rows) → found ≡ None → slice_get rows i ≡ None
no_row rows i found s e = slice_get_past rows i (ltb-false i (length rows) (sym s ∙ ap is_some e))

-- ---- as the code asks

found_is : (o : Option ℕ) (x : Ident) (i : ℕ) → found o kind.Unknown x.span ≡ Ok i → o ≡ Some i
found_is (Some n) x i e = let same : n ≡ i = cc in ap Some same
found_is None x i e = absurd cc

pub number_here : (inner parts : TextParts) (rows : List Kept) (k : Ident) (i : ℕ) → inner ≡ parts → map kept_count rows ≡ map count_of (declared_of inner).table.rows → constructor (declared_of parts).table k ≡ Ok i → i < length rows
number_here inner parts rows k i same e h =
    number_inside rows (declared_of inner).table (number_of k) i e
    (found_is (constructor_named (declared_of inner).table (number_of k)) k i (subst (λ (z : TextParts). constructor (declared_of z).table k ≡ Ok i) (sym same) h))

pub constructor_here : (inner parts : TextParts) (rows : List Kept) (k : Ident) (n i : ℕ) (r : Kept) → inner ≡ parts → map kept_count rows ≡ map count_of (declared_of inner).table.rows → constructor (declared_of parts).table k ≡ Ok i → r ≡ get_or rows i r → constructor_of (declared_of parts).table k n ≡ as_many n r.count k
constructor_here inner parts rows k n i r same e h q =
    ap (λ z. and_then z (λ c. as_many n (length (fields_at (declared_of parts).table c)) k)) h
    ∙ sym (ap (λ m. as_many n m k)
    (subst (λ (z : TextParts). r.count ≡ length (fields_at (declared_of z).table i)) same (count_at rows (declared_of inner).table i r e (number_here inner parts rows k i same e h) q)))

pub function_here : (inner parts : TextParts) (names : List ℕ) (fs : List FunctionLines) (x : Ident) (n i len : ℕ) (o : Option ℕ) (g : FunctionLines) → inner ≡ parts → names ≡ map function_number inner.functions → fs ≡ inner.functions → o ≡ place_of names (number_of x) → o ≡ Some i → g ≡ get_or fs i g → len ≡ length g.parameters.items → function_of (declared_of parts).functions x n ≡ as_many n len x
function_here inner parts names fs x n i len o g same en ef eo e q l =
    ap (λ z. and_then z (λ (f : FunctionTree). as_many n (length f.parameters) x)) (function_found inner parts names fs x i o g same en ef eo e q) ∙ ap (λ m. as_many n m x) (sym l)

pub no_function : (inner parts : TextParts) (names : List ℕ) (x : Ident) (n : ℕ) (o : Option ℕ) → inner ≡ parts → names ≡ map function_number inner.functions → o ≡ place_of names (number_of x) → o ≡ None → function_of (declared_of parts).functions x n ≡ Err (record { kind = kind.Unknown; span = x.span })
no_function inner parts names x n o same en eo e = ap (λ z. and_then z (λ (f : FunctionTree). as_many n (length f.parameters) x)) (function_missing inner parts names x o same en eo e)
