-- Declarations by their names and places.
use Rattle.std.proofs.Common.{◌≡◌, ℕ, zero, suc, ◌+◌, ◌<◌, Bool, true, false, cond, eqb, List, [], ◌∷◌, ◌++◌, map, length, get_or, Option, Some, None, Ok, Err, refl, sym, ap, ap₂, ◌∙◌, subst, arith, slice_get}
use Rattle.std.proofs.lemmas.List.{map-append, length-map, length_push}
use Rattle.std.proofs.lemmas.Option.{slice_get-get_or}
use Rattle.gib_syntax.specs.declared.tree.Ident.{Ident}
use Rattle.gib_syntax.specs.declared.written.Word.{Word}
use Rattle.gib_syntax.specs.declared.program.GenericConstructor.{GenericConstructor}
use Rattle.gib_syntax.specs.declared.program.GenericData.{GenericData}
use Rattle.gib_syntax.specs.declared.program.GenericFunction.{GenericFunction}
use Rattle.gib_syntax.specs.Declarations.{number_of, place_of, next_place}
use Rattle.gib_syntax.specs.Words.{run_words, stack_of}
use Rattle.gib_syntax.specs.GenericArena.{Arena}
use Rattle.gib_syntax.specs.GenericTree.{GenericDataTree, GenericFunctionTree, GenericRow, row_of, rows_of, generic_named, data_named}
use Rattle.gib_syntax.specs.GenericParts.{GenericParts, constructor_in, data_in, function_in}
use Rattle.gib_check.specs.declared.named.RowDecl.{RowDecl}
use Rattle.gib_check.specs.declared.fault.Kind.TheVariants as kind
use Rattle.gib_check.specs.Faults.{found, function, row_at, row_named, field_count}
use Rattle.gib_check.specs.NameViews.{generic_globals, data_number, function_number, row_number, variables_or, variables_at, row_decl, all_rows, row_in, row_option, kept_name, arity_of}
use Rattle.gib_check.proofs.Different.{place_within}

-- What stands at a seam.
at_seam : {A : Type 0} (pre : List A) (x : A) (xs : List A) → slice_get (pre ++ x ∷ xs) (length pre) ≡ Some x
at_seam [] x xs = refl
at_seam (y ∷ pre) x xs = at_seam pre x xs

shift : {A : Type 0} (xs : List A) (x : A) (ys : List A) → xs ++ x ∷ ys ≡ (xs ++ x ∷ []) ++ ys
shift [] x ys = refl
shift (z ∷ xs) x ys = ap (λ l. z ∷ l) (shift xs x ys)

rows_of_data : (parts : GenericParts) (i : ℕ) (d : GenericData) (cs : List GenericConstructor) → variables_at parts.datas i ≡ d.variables.items → map (row_in parts) (map (row_decl parts.exprs.words i d) cs) ≡ map (row_of (data_in parts.exprs.words d)) (map (constructor_in parts.exprs.words) cs)
rows_of_data parts i d [] e = refl
rows_of_data parts i d (c ∷ cs) e =
    ap₂ (λ (vs : List Ident) (rows : List GenericRow). record { name = number_of c.name; owner = number_of d.name; variables = vs; fields = stack_of (run_words parts.exprs.words c.fields) } ∷ rows) e (rows_of_data parts i d cs e)

rows_behind : (parts : GenericParts) (pre ds : List GenericData) → parts.datas ≡ pre ++ ds → map (row_in parts) (all_rows parts.exprs.words (length pre) ds) ≡ rows_of (map (data_in parts.exprs.words) ds)
rows_behind parts pre [] e = refl
rows_behind parts pre (d ∷ ds) e =
    let words = parts.exprs.words in
    let at : variables_at parts.datas (length pre) ≡ d.variables.items = ap (λ l. variables_or (slice_get l (length pre))) e ∙ ap variables_or (at_seam pre d ds) in
    map-append (row_in parts) (map (row_decl words (length pre) d) d.constructors.items) (all_rows words (length pre + 1) ds)
    ∙ ap₂ (λ (xs ys : List GenericRow). xs ++ ys) (rows_of_data parts (length pre) d d.constructors.items at)
    (ap (λ n. map (row_in parts) (all_rows words n ds)) (sym (length_push pre d)) ∙ rows_behind parts (pre ++ d ∷ []) ds (e ∙ shift pre d ds))

pub rows_are : (parts : GenericParts) → map (row_in parts) (all_rows parts.exprs.words 0 parts.datas) ≡ rows_of (map (data_in parts.exprs.words) parts.datas)
rows_are parts = rows_behind parts [] parts.datas refl

-- Kept rows, where the program is this one.
pub kept_rows : (program parts : GenericParts) (rows : List RowDecl) → rows ≡ all_rows program.exprs.words 0 program.datas → program ≡ parts → map (row_in parts) rows ≡ (generic_globals parts).rows
kept_rows program parts rows e same = subst (λ (z : GenericParts). map (row_in z) rows ≡ (generic_globals z).rows) same (ap (map (row_in program)) e ∙ rows_are program)

names_of_rows : (parts : GenericParts) (rows : List RowDecl) → map row_number (map (row_in parts) rows) ≡ map kept_name rows
names_of_rows parts [] = refl
names_of_rows parts (r ∷ rows) = ap (λ l. r.name.0 ∷ l) (names_of_rows parts rows)

get_map : (parts : GenericParts) (rows : List RowDecl) (i : ℕ) (r : RowDecl) → slice_get rows i ≡ Some r → slice_get (map (row_in parts) rows) i ≡ Some (row_in parts r)
get_map parts [] i r e = absurd cc
get_map parts (x ∷ rows) zero r e = let same : x ≡ r = cc in ap (λ z. Some (row_in parts z)) same
get_map parts (x ∷ rows) (suc i) r e = get_map parts rows i r e

-- The row at the place of its name.
pub row_found : (parts : GenericParts) (rows : List RowDecl) (x i : ℕ) (r : RowDecl) → map (row_in parts) rows ≡ (generic_globals parts).rows → place_of (map kept_name rows) x ≡ Some i → slice_get rows i ≡ Some r → Some (row_in parts r) ≡ row_named (generic_globals parts).rows x
row_found parts rows x i r e p g =
    sym
    (ap (λ l. row_named l x) (sym e)
    ∙ ap (λ l. row_at (map (row_in parts) rows) (place_of l x)) (names_of_rows parts rows)
    ∙ ap (row_at (map (row_in parts) rows)) p
    ∙ get_map parts rows i r g)

pub row_missing : (parts : GenericParts) (rows : List RowDecl) (x : ℕ) → map (row_in parts) rows ≡ (generic_globals parts).rows → place_of (map kept_name rows) x ≡ None → None ≡ row_named (generic_globals parts).rows x
row_missing parts rows x e p =
    sym
    (ap (λ l. row_named l x) (sym e)
    ∙ ap (λ l. row_at (map (row_in parts) rows) (place_of l x)) (names_of_rows parts rows)
    ∙ ap (row_at (map (row_in parts) rows)) p)

-- How many fields a kept row has.
counts_of_data : (words : List Word) (i : ℕ) (d : GenericData) (cs : List GenericConstructor) (j : ℕ) (r : RowDecl) → slice_get (map (row_decl words i d) cs) j ≡ Some r → r.count ≡ length (stack_of (run_words words r.fields))
counts_of_data words i d [] j r e = absurd cc
counts_of_data words i d (c ∷ cs) zero r e = let same : row_decl words i d c ≡ r = cc in subst (λ (z : RowDecl). z.count ≡ length (stack_of (run_words words z.fields))) same refl
counts_of_data words i d (c ∷ cs) (suc j) r e = counts_of_data words i d cs j r e

-- An item of two lists is one of either.
get_either : {A : Type 0} (P : A → Type 0) (xs ys : List A) (j : ℕ) (x : A) → ((i : ℕ) (y : A) → slice_get xs i ≡ Some y → P y) → ((i : ℕ) (y : A) → slice_get ys i ≡ Some y → P y) → slice_get (xs ++ ys) j ≡ Some x → P x
get_either P [] ys j x f g e = g j x e
get_either P (z ∷ xs) ys zero x f g e = f 0 x e
get_either P (z ∷ xs) ys (suc j) x f g e = get_either P xs ys j x (λ i y q. f (suc i) y q) g e

pub count_is : (words : List Word) (i : ℕ) (ds : List GenericData) (j : ℕ) (r : RowDecl) → slice_get (all_rows words i ds) j ≡ Some r → r.count ≡ length (stack_of (run_words words r.fields))
count_is words i [] j r e = absurd cc
count_is words i (d ∷ ds) j r e =
    get_either (λ (z : RowDecl). z.count ≡ length (stack_of (run_words words z.fields))) (map (row_decl words i d) d.constructors.items) (all_rows words (i + 1) ds) j r
    (counts_of_data words i d d.constructors.items) (count_is words (i + 1) ds) e

pub kept_count : (program parts : GenericParts) (rows : List RowDecl) (j : ℕ) (r : RowDecl) → rows ≡ all_rows program.exprs.words 0 program.datas → program ≡ parts → slice_get rows j ≡ Some r → r.count ≡ length (stack_of (run_words parts.exprs.words r.fields))
kept_count program parts rows j r e same g =
    subst (λ (z : GenericParts). r.count ≡ length (stack_of (run_words z.exprs.words r.fields))) same (count_is program.exprs.words 0 program.datas j r (sym (ap (λ l. slice_get l j) e) ∙ g))

-- What a place among types says of the type that is found.
AtData : List Word → List GenericData → Option ℕ → Option GenericDataTree → Type 0
AtData words ds None p = p ≡ None
AtData words ds (Some i) p = (d : GenericData) → slice_get ds i ≡ Some d → p ≡ Some (data_in words d)

data_more : (words : List Word) (b : Bool) (d : GenericData) (ds : List GenericData) (o : Option ℕ) (p : Option GenericDataTree) → AtData words ds o p → AtData words (d ∷ ds) (cond b (Some 0) (next_place o)) (cond b (Some (data_in words d)) p)
unfolding AtData
data_more words true d ds o p h = λ e q. (let same : d ≡ e = cc in ap (λ z. Some (data_in words z)) same)
data_more words false d ds None p h = h
data_more words false d ds (Some i) p h = h

data_all : (words : List Word) (ds : List GenericData) (x : ℕ) → AtData words ds (place_of (map data_number (map (data_in words) ds)) x) (data_named (map (data_in words) ds) x)
unfolding AtData
data_all words [] x = refl
data_all words (d ∷ ds) x = data_more words (eqb (number_of d.name) x) d ds (place_of (map data_number (map (data_in words) ds)) x) (data_named (map (data_in words) ds) x) (data_all words ds x)

pub data_found : (words : List Word) (ds : List GenericData) (x i : ℕ) (d : GenericData) → place_of (map data_number (map (data_in words) ds)) x ≡ Some i → slice_get ds i ≡ Some d → data_named (map (data_in words) ds) x ≡ Some (data_in words d)
unfolding AtData
data_found words ds x i d p g = (subst (λ o. AtData words ds o (data_named (map (data_in words) ds) x)) p (data_all words ds x)) d g

pub data_missing : (words : List Word) (ds : List GenericData) (x : ℕ) → place_of (map data_number (map (data_in words) ds)) x ≡ None → data_named (map (data_in words) ds) x ≡ None
unfolding AtData
data_missing words ds x p = subst (λ o. AtData words ds o (data_named (map (data_in words) ds) x)) p (data_all words ds x)

-- So for functions.
AtFunction : Arena → List GenericFunction → Option ℕ → Option GenericFunctionTree → Type 0
AtFunction a fs None p = p ≡ None
AtFunction a fs (Some i) p = (f : GenericFunction) → slice_get fs i ≡ Some f → p ≡ Some (function_in a f)

function_more : (a : Arena) (b : Bool) (f : GenericFunction) (fs : List GenericFunction) (o : Option ℕ) (p : Option GenericFunctionTree) → AtFunction a fs o p → AtFunction a (f ∷ fs) (cond b (Some 0) (next_place o)) (cond b (Some (function_in a f)) p)
unfolding AtFunction
function_more a true f fs o p h = λ e q. (let same : f ≡ e = cc in ap (λ z. Some (function_in a z)) same)
function_more a false f fs None p h = h
function_more a false f fs (Some i) p h = h

function_all : (a : Arena) (fs : List GenericFunction) (x : ℕ) → AtFunction a fs (place_of (map function_number (map (function_in a) fs)) x) (generic_named (map (function_in a) fs) x)
unfolding AtFunction
function_all a [] x = refl
function_all a (f ∷ fs) x = function_more a (eqb (number_of f.name) x) f fs (place_of (map function_number (map (function_in a) fs)) x) (generic_named (map (function_in a) fs) x) (function_all a fs x)

pub function_found : (a : Arena) (fs : List GenericFunction) (x : Ident) (i : ℕ) (f : GenericFunction) → place_of (map function_number (map (function_in a) fs)) (number_of x) ≡ Some i → slice_get fs i ≡ Some f → function (map (function_in a) fs) x ≡ Ok (function_in a f)
unfolding AtFunction
function_found a fs x i f p g = ap (λ o. found o kind.Unknown x.span) ((subst (λ o. AtFunction a fs o (generic_named (map (function_in a) fs) (number_of x))) p (function_all a fs (number_of x))) f g)

pub function_missing : (a : Arena) (fs : List GenericFunction) (x : Ident) → place_of (map function_number (map (function_in a) fs)) (number_of x) ≡ None → function (map (function_in a) fs) x ≡ Err (record { kind = kind.Unknown; span = x.span })
unfolding AtFunction
function_missing a fs x p = ap (λ o. found o kind.Unknown x.span) (subst (λ o. AtFunction a fs o (generic_named (map (function_in a) fs) (number_of x))) p (function_all a fs (number_of x)))

-- As the code finds them.
pub function_found_at : (program parts : GenericParts) (names : List ℕ) (fs : List GenericFunction) (x : Ident) (i : ℕ) (o : Option ℕ) (f : GenericFunction) → program ≡ parts → names ≡ map function_number (generic_globals program).functions → fs ≡ program.functions → o ≡ place_of names (number_of x) → o ≡ Some i → f ≡ get_or fs i f → function (generic_globals parts).functions x ≡ Ok (function_in parts.exprs f)
function_found_at program parts names fs x i o f same en ef eo e ed =
    let p : place_of (map function_number (map (function_in program.exprs) program.functions)) (number_of x) ≡ Some i = ap (λ l. place_of l (number_of x)) (sym en) ∙ sym eo ∙ e in
    let l : i < length program.functions =
    (let k = place_within (map function_number (map (function_in program.exprs) program.functions)) (number_of x) i p in
    let m = length-map (map (function_in program.exprs) program.functions) function_number in let n = length-map program.functions (function_in program.exprs) in omega (arith, k, m, n)) in
    let g : slice_get program.functions i ≡ Some f = slice_get-get_or program.functions i f l ∙ ap (λ z. Some (get_or z i f)) (sym ef) ∙ ap Some (sym ed) in
    subst (λ (z : GenericParts). function (generic_globals z).functions x ≡ Ok (function_in z.exprs f)) same (function_found program.exprs program.functions x i f p g)

pub function_missing_at : (program parts : GenericParts) (names : List ℕ) (x : Ident) (o : Option ℕ) → program ≡ parts → names ≡ map function_number (generic_globals program).functions → o ≡ place_of names (number_of x) → o ≡ None → function (generic_globals parts).functions x ≡ Err (record { kind = kind.Unknown; span = x.span })
function_missing_at program parts names x o same en eo e =
    subst (λ (z : GenericParts). function (generic_globals z).functions x ≡ Err (record { kind = kind.Unknown; span = x.span })) same
    (function_missing program.exprs program.functions x (ap (λ l. place_of l (number_of x)) (sym en) ∙ sym eo ∙ e))

pub arity_found_at : (program parts : GenericParts) (names : List ℕ) (ds : List GenericData) (x i : ℕ) (o : Option ℕ) (d : GenericData) (n : ℕ) → program ≡ parts → names ≡ map data_number (generic_globals program).datas → ds ≡ program.datas → o ≡ place_of names x → o ≡ Some i → d ≡ get_or ds i d → n ≡ length d.variables.items → Some n ≡ arity_of (data_named (generic_globals parts).datas x)
arity_found_at program parts names ds x i o d n same en ef eo e ed en' =
    let p : place_of (map data_number (map (data_in program.exprs.words) program.datas)) x ≡ Some i = ap (λ l. place_of l x) (sym en) ∙ sym eo ∙ e in
    let l : i < length program.datas =
    (let k = place_within (map data_number (map (data_in program.exprs.words) program.datas)) x i p in
    let m = length-map (map (data_in program.exprs.words) program.datas) data_number in let q = length-map program.datas (data_in program.exprs.words) in omega (arith, k, m, q)) in
    let g : slice_get program.datas i ≡ Some d = slice_get-get_or program.datas i d l ∙ ap (λ z. Some (get_or z i d)) (sym ef) ∙ ap Some (sym ed) in
    ap Some en' ∙ sym (subst (λ (z : GenericParts). arity_of (data_named (generic_globals z).datas x) ≡ Some (length d.variables.items)) same (ap arity_of (data_found program.exprs.words program.datas x i d p g)))

pub arity_missing_at : (program parts : GenericParts) (names : List ℕ) (x : ℕ) (o : Option ℕ) → program ≡ parts → names ≡ map data_number (generic_globals program).datas → o ≡ place_of names x → o ≡ None → None ≡ arity_of (data_named (generic_globals parts).datas x)
arity_missing_at program parts names x o same en eo e =
    sym (subst (λ (z : GenericParts). arity_of (data_named (generic_globals z).datas x) ≡ None) same (ap arity_of (data_missing program.exprs.words program.datas x (ap (λ l. place_of l x) (sym en) ∙ sym eo ∙ e))))

row_place : (names : List ℕ) (rows : List RowDecl) (x i : ℕ) (o : Option ℕ) (r : RowDecl) → names ≡ map kept_name rows → o ≡ place_of names x → o ≡ Some i → r ≡ get_or rows i r → (place_of (map kept_name rows) x ≡ Some i) × (slice_get rows i ≡ Some r)
row_place names rows x i o r en eo e ed =
    let p : place_of (map kept_name rows) x ≡ Some i = ap (λ l. place_of l x) (sym en) ∙ sym eo ∙ e in
    let l : i < length rows = (let k = place_within (map kept_name rows) x i p in let m = length-map rows kept_name in omega (arith, k, m)) in
    (p, slice_get-get_or rows i r l ∙ ap Some (sym ed))

pub row_found_at : (program parts : GenericParts) (names : List ℕ) (rows : List RowDecl) (x i : ℕ) (o : Option ℕ) (r : RowDecl) → program ≡ parts → rows ≡ all_rows program.exprs.words 0 program.datas → names ≡ map kept_name rows → o ≡ place_of names x → o ≡ Some i → r ≡ get_or rows i r → row_option parts (Some r) ≡ row_named (generic_globals parts).rows x
row_found_at program parts names rows x i o r same er en eo e ed =
    let p = row_place names rows x i o r en eo e ed in row_found parts rows x i r (kept_rows program parts rows er same) p.0 p.1

pub row_counted_at : (program parts : GenericParts) (names : List ℕ) (rows : List RowDecl) (x i : ℕ) (o : Option ℕ) (r : RowDecl) → program ≡ parts → rows ≡ all_rows program.exprs.words 0 program.datas → names ≡ map kept_name rows → o ≡ place_of names x → o ≡ Some i → r ≡ get_or rows i r → field_count (row_option parts (Some r)) ≡ r.count
row_counted_at program parts names rows x i o r same er en eo e ed =
    let p = row_place names rows x i o r en eo e ed in sym (kept_count program parts rows i r er same p.1)

pub row_missing_at : (program parts : GenericParts) (names : List ℕ) (rows : List RowDecl) (x : ℕ) (o : Option ℕ) → program ≡ parts → rows ≡ all_rows program.exprs.words 0 program.datas → names ≡ map kept_name rows → o ≡ place_of names x → o ≡ None → row_option parts None ≡ row_named (generic_globals parts).rows x
row_missing_at program parts names rows x o same er en eo e = row_missing parts rows x (kept_rows program parts rows er same) (ap (λ l. place_of l x) (sym en) ∙ sym eo ∙ e)
