-- Which copies a program needs, in the order in which they are first asked for, and where there are too many.
use Rattle.std.specs.Prelude.{◌≡◌, ℕ, zero, suc, ◌+◌, ◌==◌, ◌&&◌, ◌||◌, nat_lt, Bool, true, false, List, [], ◌∷◌, ◌++◌, length, map, slice_get, Option, Some, None, Result, Ok, Err}
use Rattle.gib_base.specs.declared.Span.{Span}
use Rattle.gib_types.specs.Form.{has_long}
use Rattle.gib_types.specs.SameForm.{same_forms}
use Rattle.gib_syntax.specs.declared.tree.Ident.{Ident}
use Rattle.gib_syntax.specs.Tree.{ProgramTree}
use Rattle.gib_syntax.specs.Declarations.{number_of}
use Rattle.gib_syntax.specs.Results.{Results, One, Several}
use Rattle.gib_syntax.specs.Forms.{WrittenType, WrittenTypes, WholeAt, TruthAt, VariableAt, DataAt, NoType, MoreTypes, Forms, NoForm, Meant, formed_all, assign}
use Rattle.gib_syntax.specs.GenericTree.{GenericExpression, GenericArguments, GenericArms, GenericVar, GenericNum, GenericBit, GenericParen, GenericOp, GenericCall, GenericMake, GenericLet, GenericPar, GenericIf, GenericCase, GenericTuple, GenericNoArgument, GenericArgument, GenericLastArm, GenericNextArm, GenericConstructorTree, GenericDataTree, GenericParameterTree, GenericFunctionTree, GenericProgramTree, GenericRow, GenericGlobals, globals_of_generic, place_named, generic_named, data_named}
use Rattle.gib_mono.specs.Copying.{Naming, owner_named, copy_data, copy_function, copy_main}
use Rattle.gib_mono.specs.Copied.{Item}

-- A type or a function with the types at which it is used, and the place of the name of the use.
pub record Ask : Type 0 where
  pub function : Bool
  pub name : ℕ
  pub types : Forms
  pub span : Span

-- A declaration with types for its type variables; a plain one has none.
pub data Copy : Type 0 where
  DataOf : GenericDataTree → Forms → Copy
  FunctionOf : GenericFunctionTree → Forms → Copy

abbrev mutual
  -- The uses in a written type: the outer name before those in its arguments.
  pub written_asks : Meant → WrittenType → List Ask
  written_asks m (WholeAt p) = []
  written_asks m (TruthAt p) = []
  written_asks m (VariableAt x) = []
  written_asks m (DataAt p x ws) = record { function = false; name = number_of x; types = formed_all m ws; span = x.span } ∷ writtens_asks m ws

  -- The uses in such types, in their order.
  pub writtens_asks : Meant → WrittenTypes → List Ask
  writtens_asks m NoType = []
  writtens_asks m (MoreTypes w ws) = written_asks m w ++ writtens_asks m ws

-- The uses in types, in their order.
abbrev pub types_asks : Meant → List WrittenType → List Ask
types_asks m [] = []
types_asks m (w ∷ ws) = written_asks m w ++ types_asks m ws

abbrev mutual
  -- The uses in an expression, in the order of the text. An arm's constructor asks nothing.
  pub asks : List GenericRow → Meant → GenericExpression → List Ask
  asks rows m (GenericVar x) = []
  asks rows m (GenericNum p n) = []
  asks rows m (GenericBit p b) = []
  asks rows m (GenericParen p e) = asks rows m e
  asks rows m (GenericOp p f a b) = asks rows m a ++ asks rows m b
  asks rows m (GenericCall f ws xs) =
      record { function = true; name = number_of f; types = formed_all m ws; span = f.span } ∷ (writtens_asks m ws ++ all_asks rows m xs)
  asks rows m (GenericMake k ws xs) =
      record { function = false; name = owner_named rows (place_named rows (number_of k)); types = formed_all m ws; span = k.span } ∷ (writtens_asks m ws ++ all_asks rows m xs)
  asks rows m (GenericLet p xs a b) = asks rows m a ++ asks rows m b
  asks rows m (GenericPar p xs a ys b c) = asks rows m a ++ (asks rows m b ++ asks rows m c)
  asks rows m (GenericIf p a b c) = asks rows m a ++ (asks rows m b ++ asks rows m c)
  asks rows m (GenericCase p x arms) = arm_asks rows m arms
  asks rows m (GenericTuple p xs) = all_asks rows m xs

  -- The uses in arguments.
  pub all_asks : List GenericRow → Meant → GenericArguments → List Ask
  all_asks rows m GenericNoArgument = []
  all_asks rows m (GenericArgument a xs) = asks rows m a ++ all_asks rows m xs

  -- The uses in the bodies of arms.
  pub arm_asks : List GenericRow → Meant → GenericArms → List Ask
  arm_asks rows m (GenericLastArm k xs e) = asks rows m e
  arm_asks rows m (GenericNextArm k xs e arms) = asks rows m e ++ arm_asks rows m arms

-- The uses in constructors' fields.
abbrev pub constructor_asks : Meant → List GenericConstructorTree → List Ask
constructor_asks m [] = []
constructor_asks m (c ∷ cs) = types_asks m c.fields ++ constructor_asks m cs

-- The uses in the type of a result, or in those of the parts.
abbrev pub results_asks : Meant → Results WrittenType → List Ask
results_asks m (One w) = written_asks m w
results_asks m (Several ws) = types_asks m ws

-- The uses in parameters, what a function gives, and a body.
abbrev pub function_asks : List GenericRow → Meant → List GenericParameterTree → Results WrittenType → GenericExpression → List Ask
function_asks rows m parameters result body = types_asks m (map (λ (q : GenericParameterTree). q.ty) parameters) ++ (results_asks m result ++ asks rows m body)

-- The uses in a copy.
abbrev pub copy_asks : List GenericRow → Copy → List Ask
copy_asks rows (DataOf d ts) = constructor_asks (assign d.variables ts) d.constructors
copy_asks rows (FunctionOf f ts) = function_asks rows (assign f.variables ts) f.parameters f.result f.body

-- Those of main.
abbrev pub main_asks : GenericProgramTree → List Ask
main_asks p = function_asks (globals_of_generic p).rows (assign [] NoForm) (p.main.parameter ∷ []) (One p.main.result) p.main.body

-- The copy that is asked for; none where nothing has the name, which typing excludes.
abbrev pub data_asked : Option GenericDataTree → Forms → Option Copy
data_asked None ts = None
data_asked (Some d) ts = Some (DataOf d ts)

-- The function that is asked for.
abbrev pub function_asked : Option GenericFunctionTree → Forms → Option Copy
function_asked None ts = None
function_asked (Some f) ts = Some (FunctionOf f ts)

-- The function or type of a name at these types.
abbrev pub asked : GenericGlobals → Bool → ℕ → Forms → Option Copy
asked g true x ts = function_asked (generic_named g.functions x) ts
asked g false x ts = data_asked (data_named g.datas x) ts

-- Whether copies are the same; declarations of one kind have different names.
abbrev pub same_copy : Copy → Copy → Bool
same_copy (DataOf d ts) (DataOf e us) = (number_of d.name == number_of e.name) && same_forms ts us
same_copy (DataOf d ts) (FunctionOf f us) = false
same_copy (FunctionOf f ts) (DataOf d us) = false
same_copy (FunctionOf f ts) (FunctionOf h us) = (number_of f.name == number_of h.name) && same_forms ts us

-- It is one of these.
abbrev pub is_found : List Copy → Copy → Bool
is_found [] c = false
is_found (b ∷ bs) c = same_copy b c || is_found bs c

-- How many constructors, and how many functions, copies are together.
abbrev pub constructors_in : List Copy → ℕ
constructors_in [] = 0
constructors_in (DataOf d ts ∷ cs) = length d.constructors + constructors_in cs
constructors_in (FunctionOf f ts ∷ cs) = constructors_in cs

-- How many functions copies are together.
abbrev pub functions_in : List Copy → ℕ
functions_in [] = 0
functions_in (DataOf d ts ∷ cs) = functions_in cs
functions_in (FunctionOf f ts ∷ cs) = 1 + functions_in cs

-- The copies are within the limits.
abbrev pub are_few : List Copy → Bool
are_few cs = nat_lt (constructors_in cs) 201 && nat_lt (functions_in cs) 1001

-- With one more copy, where there are few enough.
abbrev pub add_few : List Copy → Copy → Span → Bool → Result (List Copy) Span
add_few found c span true = Ok (found ++ c ∷ [])
add_few found c span false = Err span

-- With one more copy, where it is none of these.
abbrev pub add_new : List Copy → Copy → Span → Bool → Result (List Copy) Span
add_new found c span true = Ok found
add_new found c span false = add_few found c span (are_few (found ++ c ∷ []))

-- With the copy that is asked for, where its types are short.
abbrev pub add_short : List Copy → Option Copy → Span → Bool → Result (List Copy) Span
add_short found c span true = Err span
add_short found None span false = Ok found
add_short found (Some c) span false = add_new found c span (is_found found c)

-- One use.
abbrev pub add_ask : GenericGlobals → List Copy → Ask → Result (List Copy) Span
add_ask g found a = add_short found (asked g a.function a.name a.types) a.span (has_long a.types)

-- Goes on with copies.
abbrev pub with_found : Result (List Copy) Span → (List Copy → Result (List Copy) Span) → Result (List Copy) Span
with_found (Err span) go = Err span
with_found (Ok found) go = go found

-- Uses, in their order.
abbrev pub add_asks : GenericGlobals → List Copy → List Ask → Result (List Copy) Span
add_asks g found [] = Ok found
add_asks g found (a ∷ as') = with_found (add_ask g found a) (λ next. add_asks g next as')

-- One copy is walked.
abbrev pub walk_one : GenericGlobals → List Copy → Option Copy → (List Copy → Result (List Copy) Span) → Result (List Copy) Span
walk_one g found None go = Ok found
walk_one g found (Some c) go = with_found (add_asks g found (copy_asks g.rows c)) go

-- Copies are walked from a place on, first found first, so many at most.
abbrev pub walk : ℕ → GenericGlobals → List Copy → ℕ → Result (List Copy) Span
walk zero g found i = Ok found
walk (suc n) g found i = walk_one g found (slice_get found i) (λ next. walk n g next (suc i))

-- The declarations without type variables, each its own copy.
abbrev pub plain_data : GenericDataTree → List Ident → List Copy → List Copy
plain_data d [] rest = DataOf d NoForm ∷ rest
plain_data d (v ∷ vs) rest = rest

-- All types without type variables.
abbrev pub plain_datas : List GenericDataTree → List Copy
plain_datas [] = []
plain_datas (d ∷ ds) = plain_data d d.variables (plain_datas ds)

-- A function, where it has none.
abbrev pub plain_function : GenericFunctionTree → List Ident → List Copy → List Copy
plain_function f [] rest = FunctionOf f NoForm ∷ rest
plain_function f (v ∷ vs) rest = rest

-- All functions without type variables.
abbrev pub plain_functions : List GenericFunctionTree → List Copy
plain_functions [] = []
plain_functions (f ∷ fs) = plain_function f f.variables (plain_functions fs)

-- The uses in copies, in their order.
abbrev pub copies_asks : List GenericRow → List Copy → List Ask
copies_asks rows [] = []
copies_asks rows (c ∷ cs) = copy_asks rows c ++ copies_asks rows cs

-- The plain declarations.
abbrev pub plain_copies : GenericProgramTree → List Copy
plain_copies p = plain_datas p.datas ++ plain_functions p.functions

-- All copies of a program, the plain declarations first, or the first use that is over a limit. Within the limits there are at
-- most 1,200, so that many steps are enough.
abbrev pub copies_of : GenericProgramTree → Result (List Copy) Span
copies_of p =
    with_found (add_asks (globals_of_generic p) (plain_copies p) (copies_asks (globals_of_generic p).rows (plain_copies p) ++ main_asks p))
    (λ found. walk 1201 (globals_of_generic p) found (length (plain_copies p)))

-- The copied types and functions, in their order.
pub record DataCopy : Type 0 where
  pub decl : GenericDataTree
  pub types : Forms

-- A copied function.
pub record FunctionCopy : Type 0 where
  pub function : GenericFunctionTree
  pub types : Forms

-- The types among copies.
abbrev pub datas_in : List Copy → List DataCopy
datas_in [] = []
datas_in (DataOf d ts ∷ cs) = record { decl = d; types = ts } ∷ datas_in cs
datas_in (FunctionOf f ts ∷ cs) = datas_in cs

-- The functions among copies.
abbrev pub function_copies : List Copy → List FunctionCopy
function_copies [] = []
function_copies (DataOf d ts ∷ cs) = function_copies cs
function_copies (FunctionOf f ts ∷ cs) = record { function = f; types = ts } ∷ function_copies cs

-- The copied program.
abbrev pub copied_program : GenericProgramTree → Naming → List Copy → ProgramTree
copied_program p nm found = record {
  datas = map (λ (c : DataCopy). copy_data nm c.decl c.types) (datas_in found);
  functions = map (λ (c : FunctionCopy). copy_function (globals_of_generic p) nm c.function c.types) (function_copies found);
  main = copy_main (globals_of_generic p) nm p.main;
}

-- What was asked for.
abbrev pub type_items : List Copy → List Item
type_items found = map (λ (c : DataCopy). record { name = number_of c.decl.name; types = c.types }) (datas_in found)

-- The functions that were asked for.
abbrev pub function_items : List Copy → List Item
function_items found = map (λ (c : FunctionCopy). record { name = number_of c.function.name; types = c.types }) (function_copies found)

-- A copied constructor: the number of its type in the copy, the type's copy, and the constructor.
pub record Made : Type 0 where
  pub type_number : ℕ
  pub copy : DataCopy
  pub constructor : GenericConstructorTree

-- A constructor of the copy of a type that has this number.
abbrev pub made_of : ℕ → DataCopy → GenericConstructorTree → Made
made_of n c k = record { type_number = n; copy = c; constructor = k }

-- All copied constructors, of types that are numbered from a number on: the place of each is its tag.
abbrev pub made_from : ℕ → List DataCopy → List Made
made_from n [] = []
made_from n (c ∷ cs) = map (made_of n c) c.decl.constructors ++ made_from (suc n) cs

-- The tag in the program of a constructor of the copy.
abbrev pub or_zero : Option ℕ → ℕ
or_zero None = 0
or_zero (Some n) = n

-- The tag of the one that a copied constructor is a copy of.
abbrev pub base_at : List GenericRow → Option Made → ℕ
base_at rows None = 0
base_at rows (Some m) = or_zero (place_named rows (number_of m.constructor.name))

-- So for the constructor of a number.
abbrev pub base_of : List GenericRow → List Copy → ℕ → ℕ
base_of rows found d = base_at rows (slice_get (made_from 0 (datas_in found)) d)

-- Names of copies are given by a list of names with types; different ones have different numbers.
pub record IsNaming (nm : Naming) (names : List Item) (found : List Copy) : Type 0 where
  pub types : (i : ℕ) (c : DataCopy) → slice_get (datas_in found) i ≡ Some c
      → (n : ℕ) × (slice_get names n ≡ Some (record { name = number_of c.decl.name; types = c.types }))
  pub constructors : (i j : ℕ) (c : DataCopy) (k : GenericConstructorTree) → slice_get (datas_in found) i ≡ Some c
      → slice_get c.decl.constructors j ≡ Some k → (n : ℕ) × (slice_get names n ≡ Some (record { name = number_of k.name; types = c.types }))
  pub functions : (i : ℕ) (c : FunctionCopy) → slice_get (function_copies found) i ≡ Some c
      → (n : ℕ) × (slice_get names n ≡ Some (record { name = number_of c.function.name; types = c.types }))
  pub types_apart : (m n : ℕ) (a b : Item) → slice_get names m ≡ Some a → slice_get names n ≡ Some b → nm.types a.name a.types ≡ nm.types b.name b.types → a ≡ b
  pub constructors_apart : (m n : ℕ) (a b : Item) → slice_get names m ≡ Some a → slice_get names n ≡ Some b
      → nm.constructors a.name a.types ≡ nm.constructors b.name b.types → a ≡ b
  pub functions_apart : (m n : ℕ) (a b : Item) → slice_get names m ≡ Some a → slice_get names n ≡ Some b
      → nm.functions a.name a.types ≡ nm.functions b.name b.types → a ≡ b
