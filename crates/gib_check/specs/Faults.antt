-- The first rule of typing that an expression breaks, in the order in which its rules are looked at.
use Rattle.std.specs.Prelude.{◌≡◌, ℕ, suc, ◌+◌, ◌==◌, nat_lt, Bool, true, false, ◌&&◌, not, ◌||◌, is_some, is_none, List, [], ◌∷◌, length, map, slice_get, Option, Some, None, Result, Ok, Err}
use Rattle.std.specs.List.{list_all}
use Rattle.gib_base.specs.declared.Span.{Span}
use Rattle.gib_syntax.specs.declared.tree.Ident.{Ident}
use Rattle.gib_syntax.specs.Results.{Results, One, Several}
use Rattle.gib_syntax.specs.Declarations.{number_of, place_of}
use Rattle.gib_syntax.specs.Forms.{WrittenType, WrittenTypes, WholeAt, TruthAt, VariableAt, DataAt, NoType, MoreTypes, Form, Forms, WholeForm, TruthForm, VariableForm, DataForm, Meant, formed_all, count_written}
use Rattle.gib_types.specs.SameForm.{same_form}
use Rattle.gib_syntax.specs.GenericTree.{GenericExpression, GenericArguments, GenericArms, GenericVar, GenericNum, GenericBit, GenericParen, GenericOp, GenericCall, GenericMake, GenericLet, GenericPar, GenericIf, GenericCase, GenericTuple, GenericNoArgument, GenericArgument, GenericLastArm, GenericNextArm, GenericDataTree, GenericFunctionTree, GenericRow, GenericGlobals, place_named, generic_named, data_named}
use Rattle.gib_syntax.specs.GenericTyping.{FormScope, form_in, form_bound, operator_form, field_forms, parameter_forms, result_forms}
use Rattle.gib_check.specs.declared.counts.Counts.{Counts}
use Rattle.gib_check.specs.declared.fault.Fault.{Fault}
use Rattle.gib_check.specs.declared.fault.Kind.{Kind}
use Rattle.gib_check.specs.declared.fault.Kind.TheVariants as kind
use Rattle.gib_check.specs.declared.standing.Standing.{Standing}
use Rattle.gib_check.specs.declared.standing.Standing.TheVariants.{NoTuple, AnyTuple, TupleOf}

-- What is known after a rule, or the fault.
abbrev pub Checked : Type 0 → Type 0
Checked A = Result A Fault

-- Goes on where no rule was broken yet.
abbrev pub and_then : {A B : Type 0} → Checked A → (A → Checked B) → Checked B
and_then (Ok x) go = go x
and_then (Err fault) go = Err fault

-- A rule by its test: the answer where it holds, else a fault of this kind at this place.
abbrev pub allowed : {A : Type 0} → Bool → Kind → Span → A → Checked A
allowed true k at x = Ok x
allowed false k at x = Err (record { kind = k; span = at })

-- What was looked up, or a fault of this kind at this place.
abbrev pub found : {A : Type 0} → Option A → Kind → Span → Checked A
found (Some x) k at = Ok x
found None k at = Err (record { kind = k; span = at })

-- A part of an expression after its check: its type, or those of its parts, and where it stands.
pub record FormPart : Type 0 where
  pub ty : Results Form
  pub place : Span

-- Where an expression stands: at its first token; where it is in parentheses, that of the expression inside.
abbrev pub place : GenericExpression → Span
place (GenericVar x) = x.span
place (GenericNum p n) = p
place (GenericBit p b) = p
place (GenericParen p e) = place e
place (GenericOp p f a b) = p
place (GenericCall f ws xs) = f.span
place (GenericMake k ws xs) = k.span
place (GenericLet p xs a b) = p
place (GenericPar p xs a ys b c) = p
place (GenericIf p a b c) = p
place (GenericCase p x arms) = p
place (GenericTuple p xs) = p

-- `Limit`: one more expression, where 2,000 were not met yet.
abbrev pub one_more : Counts → Span → Checked Counts
one_more n at = allowed (nat_lt n.expressions 2000) kind.Limit at (record n { expressions = n.expressions + 1 })

-- `Twice`: a name that is not in scope yet.
abbrev pub unbound : FormScope → Ident → Checked (Unit {0})
unbound scope x = allowed (is_none (form_in scope (number_of x))) kind.Twice x.span (tt {0})

-- `Limit`: one more variable, where 200 were not met yet.
abbrev pub counted : Counts → Ident → Checked Counts
counted n x = allowed (nat_lt n.variables 200) kind.Limit x.span (record n { variables = n.variables + 1 })

-- One more variable, new in its scope.
abbrev pub new_variable : FormScope → Counts → Ident → Checked Counts
new_variable scope n x = and_then (unbound scope x) (λ _. counted n x)

-- `Unknown`: the type of a variable.
abbrev pub variable : FormScope → Ident → Checked Form
variable scope x = found (form_in scope (number_of x)) kind.Unknown x.span

-- A variable: one more expression, then its type.
abbrev pub infer_variable : FormScope → Counts → Ident → Checked (Results Form × Counts)
infer_variable scope n x = and_then (one_more n x.span) (λ m. and_then (variable scope x) (λ t. Ok (One t, m)))

-- A literal of this type.
abbrev pub infer_literal : Counts → Span → Form → Checked (Results Form × Counts)
infer_literal n at t = and_then (one_more n at) (λ m. Ok (One t, m))

-- `Count`: as many as there have to be.
abbrev pub as_many : ℕ → ℕ → Ident → Checked (Unit {0})
as_many n due at = allowed (n == due) kind.Count at.span (tt {0})

abbrev mutual
  -- The names of a written type from left to right: `Unknown`, a type variable that the declaration has not, or a type
  -- that is not declared; `Count`, more or fewer arguments than the declared type has variables; each at the name.
  pub known : List GenericDataTree → List ℕ → WrittenType → Checked (Unit {0})
  known datas vars (WholeAt p) = Ok (tt {0})
  known datas vars (TruthAt p) = Ok (tt {0})
  known datas vars (VariableAt x) = allowed (is_some (place_of vars (number_of x))) kind.Unknown x.span (tt {0})
  known datas vars (DataAt p x ws) =
      and_then (found (data_named datas (number_of x)) kind.Unknown x.span)
      (λ d. and_then (as_many (count_written ws) (length d.variables) x)
      (λ _. all_known datas vars ws))

  -- So for several, from left to right.
  pub all_known : List GenericDataTree → List ℕ → WrittenTypes → Checked (Unit {0})
  all_known datas vars NoType = Ok (tt {0})
  all_known datas vars (MoreTypes w ws) = and_then (known datas vars w) (λ _. all_known datas vars ws)

-- `Unknown`: the function of a name.
abbrev pub function : List GenericFunctionTree → Ident → Checked GenericFunctionTree
function functions f = found (generic_named functions (number_of f)) kind.Unknown f.span

-- The row of a number, where there is one.
abbrev pub row_at : List GenericRow → Option ℕ → Option GenericRow
row_at rows None = None
row_at rows (Some c) = slice_get rows c

-- The row of the constructor of a name, where it is declared.
abbrev pub row_named : List GenericRow → ℕ → Option GenericRow
row_named rows k = row_at rows (place_named rows k)

-- `Unknown`: the constructor of a name.
abbrev pub constructor : List GenericRow → Ident → Checked GenericRow
constructor rows k = found (row_named rows (number_of k)) kind.Unknown k.span

-- Whether the types of parts are the same, as many as there are.
abbrev pub same_lists : List Form → List Form → Bool
same_lists [] [] = true
same_lists [] (u ∷ us) = false
same_lists (t ∷ ts) [] = false
same_lists (t ∷ ts) (u ∷ us) = same_form t u && same_lists ts us

-- Whether types are, or those of parts.
abbrev pub same_results : Results Form → Results Form → Bool
same_results (One t) (One u) = same_form t u
same_results (One t) (Several us) = false
same_results (Several ts) (One u) = false
same_results (Several ts) (Several us) = same_lists ts us

-- `Shape`: the part has the type that is due, or its parts the types.
abbrev pub wanted : Results Form → FormPart → Checked (Unit {0})
wanted due part = allowed (same_results part.ty due) kind.Shape part.place (tt {0})

-- `Shape`: the part is none of several parts.
abbrev pub single_at : Results Form → Span → Checked Form
single_at (One t) at = Ok t
single_at (Several ts) at = Err (record { kind = kind.Shape; span = at })

-- The type of a part that is one thing.
abbrev pub single : FormPart → Checked Form
single part = single_at part.ty part.place

-- Each part is.
abbrev pub all_single : List FormPart → Checked (List Form)
all_single [] = Ok []
all_single (part ∷ parts) = and_then (single part) (λ t. and_then (all_single parts) (λ ts. Ok (t ∷ ts)))

-- Each part has its type.
abbrev pub all_wanted : List FormPart → List Form → Checked (Unit {0})
all_wanted [] ts = Ok (tt {0})
all_wanted (part ∷ parts) [] = Ok (tt {0})
all_wanted (part ∷ parts) (t ∷ ts) = and_then (wanted (One t) part) (λ _. all_wanted parts ts)

-- Each part has the one type, or its parts the types.
abbrev pub all_of : Results Form → List FormPart → Checked (Unit {0})
all_of t [] = Ok (tt {0})
all_of t (part ∷ parts) = and_then (wanted t part) (λ _. all_of t parts)

-- How many arguments there are.
abbrev pub argument_count : GenericArguments → ℕ
argument_count GenericNoArgument = 0
argument_count (GenericArgument a xs) = argument_count xs + 1

-- `Shape`: the declared type of a variable, by its name, with its arguments, where it is one; the fault is at the variable.
abbrev pub declared_type : Form → Ident → Checked (ℕ × Forms)
declared_type WholeForm x = Err (record { kind = kind.Shape; span = x.span })
declared_type TruthForm x = Err (record { kind = kind.Shape; span = x.span })
declared_type (VariableForm v) x = Err (record { kind = kind.Shape; span = x.span })
declared_type (DataForm t ts) x = Ok (t, ts)

-- An arm without its expression: its constructor and its variables.
pub record ArmHead : Type 0 where
  pub constructor : Ident
  pub variables : List Ident

-- The heads of arms, in the order of the text.
abbrev pub heads : GenericArms → List ArmHead
heads (GenericLastArm k xs e) = record { constructor = k; variables = xs } ∷ []
heads (GenericNextArm k xs e arms) = record { constructor = k; variables = xs } ∷ heads arms

-- The names of the arms' constructors.
abbrev pub head_names : List ArmHead → List ℕ
head_names hs = map (λ (h : ArmHead). number_of h.constructor) hs

-- `Unknown`: the constructor of each arm is declared.
abbrev pub all_declared : List GenericRow → List ArmHead → Checked (Unit {0})
all_declared rows [] = Ok (tt {0})
all_declared rows (h ∷ hs) = and_then (constructor rows h.constructor) (λ _. all_declared rows hs)

-- The row is there and of the type.
abbrev pub is_of : ℕ → Option GenericRow → Bool
is_of ty None = false
is_of ty (Some row) = row.owner == ty

-- No name stands twice.
abbrev pub are_different : List ℕ → Bool
are_different [] = true
are_different (x ∷ xs) = not (is_some (place_of xs x)) && are_different xs

-- A constructor of the type has one of the names.
abbrev pub is_there : ℕ → List ℕ → GenericRow → Bool
is_there ty names row = not (row.owner == ty) || is_some (place_of names row.name)

-- The names are those of the type's constructors, each once.
abbrev pub covers : List GenericRow → ℕ → List ℕ → Bool
covers rows ty names =
    list_all (λ k. is_of ty (row_named rows k)) names
    && (are_different names && list_all (is_there ty names) rows)

-- `Arms`: the arms are those of the type.
abbrev pub covered : List GenericRow → ℕ → List ℕ → Span → Checked (Unit {0})
covered rows ty names at = allowed (covers rows ty names) kind.Arms at (tt {0})

-- How many fields a constructor has, none where it is not declared.
abbrev pub field_count : Option GenericRow → ℕ
field_count None = 0
field_count (Some row) = length row.fields

-- The types of its fields, where its type's variables stand for these types.
abbrev pub fields_if : Option GenericRow → Forms → List Form
fields_if None ts = []
fields_if (Some row) ts = field_forms row ts

-- `Count`: each arm has as many variables as its constructor has fields.
abbrev pub all_counted : List GenericRow → List ArmHead → Checked (Unit {0})
all_counted rows [] = Ok (tt {0})
all_counted rows (h ∷ hs) =
    and_then (as_many (length h.variables) (field_count (row_named rows (number_of h.constructor))) h.constructor) (λ _. all_counted rows hs)

-- An arm's variables, one after another, with the types of the fields.
abbrev pub bind_all : FormScope → Counts → List Ident → List Form → Checked (FormScope × Counts)
bind_all scope n [] ts = Ok (scope, n)
bind_all scope n (x ∷ xs) [] = Ok (scope, n)
bind_all scope n (x ∷ xs) (t ∷ ts) = and_then (new_variable scope n x) (λ m. bind_all (form_bound x t scope) m xs ts)

-- The type of the first part, or those of its parts; there is one wherever this is asked.
abbrev pub first_type : List FormPart → Results Form
first_type [] = One WholeForm
first_type (part ∷ parts) = part.ty

-- What gives this may stand there.
abbrev pub MayGive : Standing → Results Form → Type 0
MayGive st (One t) = Unit {0}
MayGive NoTuple (Several ts) = ⊥
MayGive AnyTuple (Several ts) = Unit {0}
MayGive (TupleOf n) (Several ts) = length ts ≡ n

-- Where the body of a function stands.
abbrev pub standing_of : Results Form → Standing
standing_of (One t) = NoTuple
standing_of (Several ts) = TupleOf (length ts)

-- Where the right side for these variables stands.
abbrev pub standing_for : List Ident → Standing
standing_for [] = AnyTuple
standing_for (x ∷ []) = NoTuple
standing_for (x ∷ y ∷ ys) = AnyTuple

-- A tuple of so many parts stands there: `Shape` where none may, `Count` where the function gives more or fewer.
abbrev pub may_stand : Standing → ℕ → Span → Checked (Unit {0})
may_stand NoTuple count at = Err (record { kind = kind.Shape; span = at })
may_stand AnyTuple count at = Ok (tt {0})
may_stand (TupleOf due) count at = allowed (count == due) kind.Count at (tt {0})

-- The parts for several variables, of which this is the first: `Shape` where the right side is one thing, `Count` where it
-- has more or fewer parts.
abbrev pub parts_for : ℕ → Ident → FormPart → Results Form → Checked (List Form)
parts_for count x part (One t) = Err (record { kind = kind.Shape; span = part.place })
parts_for count x part (Several ts) = and_then (as_many (length ts) count x) (λ _. Ok ts)

-- The types of the variables of a binding, by its right side: one thing for one, parts for several. (The grammar has no binding
-- without variables; it would be none of either shape.)
abbrev pub types_bound : List Ident → FormPart → Checked (List Form)
types_bound [] part = Err (record { kind = kind.Shape; span = part.place })
types_bound (x ∷ []) part = and_then (single part) (λ t. Ok (t ∷ []))
types_bound (x ∷ y ∷ ys) part = parts_for (length (x ∷ y ∷ ys)) x part part.ty

-- One of the variables of a binding behind so many: new in its scope, then `Limit` where it is the ninth.
abbrev pub part_variable : ℕ → FormScope → Counts → Ident → Checked Counts
part_variable i scope n x = and_then (unbound scope x) (λ _. and_then (allowed (nat_lt i 8) kind.Limit x.span (tt {0})) (λ _. counted n x))

-- The variables of a binding behind so many, one after another.
abbrev pub bind_parts : ℕ → FormScope → Counts → List Ident → List Form → Checked (FormScope × Counts)
bind_parts i scope n [] ts = Ok (scope, n)
bind_parts i scope n (x ∷ xs) [] = Ok (scope, n)
bind_parts i scope n (x ∷ xs) (t ∷ ts) = and_then (part_variable i scope n x) (λ m. bind_parts (suc i) (form_bound x t scope) m xs ts)

-- The variables of a binding come into scope with what its right side gives.
abbrev pub bind_given : FormScope → Counts → List Ident → FormPart → Checked (FormScope × Counts)
bind_given scope n xs part = and_then (types_bound xs part) (λ ts. bind_parts 0 scope n xs ts)

-- So those of two sides: first both sides are looked at, then the variables of both come into scope, those of the left before.
abbrev pub bind_sides : FormScope → Counts → List Ident → FormPart → List Ident → FormPart → Checked (FormScope × Counts)
bind_sides scope n xs left ys right =
    and_then (types_bound xs left)
    (λ ts. and_then (types_bound ys right)
    (λ us. and_then (bind_parts 0 scope n xs ts)
    (λ middle. bind_parts 0 middle.0 middle.1 ys us)))

-- A tuple of so many parts: where it stands, the parts, and that none of them has parts itself.
abbrev pub infer_tuple : Standing → Counts → Span → ℕ → (Counts → Checked (List FormPart × Counts)) → Checked (Results Form × Counts)
infer_tuple st n p count results =
    and_then (one_more n p)
    (λ o. and_then (may_stand st count p)
    (λ _. and_then (results o)
    (λ r. and_then (all_single r.0)
    (λ ts. Ok (Several ts, r.1)))))

-- What is asked of the type arguments of a use: as many as type variables, and their names from left to right.
abbrev pub use_types : GenericGlobals → List ℕ → Ident → WrittenTypes → ℕ → Checked (Unit {0})
use_types g vars x ws variables = and_then (as_many (count_written ws) variables x) (λ _. all_known g.datas vars ws)

-- What is asked of a use before its arguments: its type arguments, then as many arguments as there have to be.
abbrev pub use_fits : GenericGlobals → List ℕ → Ident → WrittenTypes → ℕ → ℕ → ℕ → Checked (Unit {0})
use_fits g vars x ws count variables due = and_then (use_types g vars x ws variables) (λ _. as_many count due x)

-- What a function gives at these types, where these are its arguments.
abbrev pub called : GenericFunctionTree → Forms → List FormPart → Checked (Results Form)
called h ts parts = and_then (all_wanted parts (parameter_forms h ts)) (λ _. Ok (result_forms h ts))

-- So for a constructor.
abbrev pub made : GenericRow → Forms → List FormPart → Checked (Results Form)
made row ts parts = and_then (all_wanted parts (field_forms row ts)) (λ _. Ok (One (DataForm row.owner ts)))

-- What arguments, once they are checked, lead to, and the counts behind them.
abbrev pub use_gives : Checked (List FormPart × Counts) → (List FormPart → Checked (Results Form)) → Checked (Results Form × Counts)
use_gives results gives = and_then results (λ r. and_then (gives r.0) (λ t. Ok (t, r.1)))

-- A call with so many arguments: its function, what is asked before its arguments, the arguments, and their types.
abbrev pub infer_call : GenericGlobals → List ℕ → Meant → Counts → Ident → WrittenTypes → ℕ → (Counts → Checked (List FormPart × Counts)) → Checked (Results Form × Counts)
infer_call g vars m n f ws count results =
    and_then (one_more n f.span)
    (λ k. and_then (function g.functions f)
    (λ h. and_then (use_fits g vars f ws count (length h.variables) (length h.parameters))
    (λ _. use_gives (results k) (called h (formed_all m ws)))))

-- A constructor with so many arguments.
abbrev pub infer_make : GenericGlobals → List ℕ → Meant → Counts → Ident → WrittenTypes → ℕ → (Counts → Checked (List FormPart × Counts)) → Checked (Results Form × Counts)
infer_make g vars m n k ws count results =
    and_then (one_more n k.span)
    (λ o. and_then (constructor g.rows k)
    (λ row. and_then (use_fits g vars k ws count (length row.variables) (length row.fields))
    (λ _. use_gives (results o) (made row (formed_all m ws)))))

-- A case whose arms have these heads: its variable, the arms by their constructors, the arms, and that their
-- results have the type of the first one. The arms are asked with the arguments of the variable's type.
abbrev pub infer_case : List GenericRow → FormScope → Counts → Span → Ident → List ArmHead → (Forms → Counts → Checked (List FormPart × Counts)) → Checked (Results Form × Counts)
infer_case rows scope n p x hs results =
    and_then (one_more n p)
    (λ m. and_then (variable scope x)
    (λ s. and_then (declared_type s x)
    (λ t. and_then (all_declared rows hs)
    (λ _. and_then (covered rows t.0 (head_names hs) p)
    (λ _. and_then (all_counted rows hs)
    (λ _. and_then (results t.1 m)
    (λ r. and_then (all_of (first_type r.0) r.0)
    (λ _. Ok (first_type r.0, r.1)))))))))

-- An arm's result, in the scope of its variables.
abbrev pub infer_arm : List GenericRow → Forms → FormScope → Counts → Ident → List Ident → (FormScope → Counts → Checked (Results Form × Counts)) → Checked (Results Form × Counts)
infer_arm rows ts scope n k xs result =
    and_then (bind_all scope n xs (fields_if (row_named rows (number_of k)) ts)) (λ inner. result inner.0 inner.1)

abbrev mutual
  -- The type of an expression, or those of its parts, and the counts behind it, or the first broken rule: its own limit, then
  -- its own names and counts, then its parts from left to right, then the types of the parts.
  pub infer : GenericGlobals → List ℕ → Meant → Standing → FormScope → Counts → GenericExpression → Checked (Results Form × Counts)
  infer g vars m st scope n (GenericVar x) = infer_variable scope n x
  infer g vars m st scope n (GenericNum p v) = infer_literal n p WholeForm
  infer g vars m st scope n (GenericBit p b) = infer_literal n p TruthForm
  infer g vars m st scope n (GenericParen p e) = infer g vars m st scope n e
  infer g vars m st scope n (GenericOp p f a b) =
      and_then (one_more n p)
      (λ o. and_then (infer g vars m NoTuple scope o a)
      (λ x. and_then (infer g vars m NoTuple scope x.1 b)
      (λ y. and_then (wanted (One WholeForm) (record { ty = x.0; place = place a }))
      (λ _. and_then (wanted (One WholeForm) (record { ty = y.0; place = place b }))
      (λ _. Ok (One (operator_form f), y.1))))))
  infer g vars m st scope n (GenericCall f ws xs) = infer_call g vars m n f ws (argument_count xs) (λ o. infer_all g vars m scope o xs)
  infer g vars m st scope n (GenericMake k ws xs) = infer_make g vars m n k ws (argument_count xs) (λ o. infer_all g vars m scope o xs)
  infer g vars m st scope n (GenericLet p xs a b) =
      and_then (one_more n p)
      (λ o. and_then (infer g vars m (standing_for xs) scope o a)
      (λ s. and_then (bind_given scope s.1 xs (record { ty = s.0; place = place a }))
      (λ inner. infer g vars m st inner.0 inner.1 b)))
  infer g vars m st scope n (GenericPar p xs a ys b c) =
      and_then (one_more n p)
      (λ o. and_then (infer g vars m (standing_for xs) scope o a)
      (λ s. and_then (infer g vars m (standing_for ys) scope s.1 b)
      (λ t. and_then (bind_sides scope t.1 xs (record { ty = s.0; place = place a }) ys (record { ty = t.0; place = place b }))
      (λ inner. infer g vars m st inner.0 inner.1 c))))
  infer g vars m st scope n (GenericIf p a b c) =
      and_then (one_more n p)
      (λ o. and_then (infer g vars m NoTuple scope o a)
      (λ x. and_then (infer g vars m st scope x.1 b)
      (λ y. and_then (infer g vars m st scope y.1 c)
      (λ z. and_then (wanted (One TruthForm) (record { ty = x.0; place = place a }))
      (λ _. and_then (wanted y.0 (record { ty = z.0; place = place c }))
      (λ _. Ok (y.0, z.1)))))))
  infer g vars m st scope n (GenericCase p x arms) = infer_case g.rows scope n p x (heads arms) (λ ts o. infer_arms g vars m st ts scope o arms)
  infer g vars m st scope n (GenericTuple p xs) = infer_tuple st n p (argument_count xs) (λ o. infer_all g vars m scope o xs)

  -- Arguments or parts, from left to right.
  pub infer_all : GenericGlobals → List ℕ → Meant → FormScope → Counts → GenericArguments → Checked (List FormPart × Counts)
  infer_all g vars m scope n GenericNoArgument = Ok ([], n)
  infer_all g vars m scope n (GenericArgument a xs) =
      and_then (infer g vars m NoTuple scope n a)
      (λ x. and_then (infer_all g vars m scope x.1 xs)
      (λ r. Ok (record { ty = x.0; place = place a } ∷ r.0, r.1)))

  -- The results of arms, in the order of the text, where the type's variables stand for these types.
  pub infer_arms : GenericGlobals → List ℕ → Meant → Standing → Forms → FormScope → Counts → GenericArms → Checked (List FormPart × Counts)
  infer_arms g vars m st ts scope n (GenericLastArm k xs e) =
      and_then (infer_arm g.rows ts scope n k xs (λ inner o. infer g vars m st inner o e))
      (λ x. Ok (record { ty = x.0; place = place e } ∷ [], x.1))
  infer_arms g vars m st ts scope n (GenericNextArm k xs e arms) =
      and_then (infer_arm g.rows ts scope n k xs (λ inner o. infer g vars m st inner o e))
      (λ x. and_then (infer_arms g vars m st ts scope x.1 arms)
      (λ r. Ok (record { ty = x.0; place = place e } ∷ r.0, r.1)))
