-- What a program means: call by value on ordinary trees, with a bound on the depth of calls.
use Rattle.std.specs.Prelude.{◌≡◌, ℕ, zero, suc, ℤ, pos, ◌==◌, Bool, true, false, if◌then◌else◌, int_lt, int_rem, List, [], ◌∷◌, ◌++◌, map, Option, Some, None}
use Rattle.std.specs.Int.{w64, int_wrapping_add, int_wrapping_sub, int_wrapping_mul, int_wrapping_div}
use Rattle.std.specs.Ordering.{int_eq}
use Rattle.gib_types.specs.declared.table.Ty.{Ty}
use Rattle.gib_types.specs.Table.{Table, fields_at}
pub use Rattle.gib_types.specs.Table.{is_scalar, at_fields}
use Rattle.gib_types.specs.Tree.{Datum, Data, whole, truth, con, data_of, list_of, HasType, HaveTypes}
use Rattle.gib_syntax.specs.declared.tree.Ident.{Ident}
use Rattle.gib_types.specs.declared.operator.Operator.{Operator}
use Rattle.gib_types.specs.declared.operator.Operator.TheVariants as o
use Rattle.gib_syntax.specs.Tree.{Expression, Arguments, Arms, Var, Num, Bit, Paren, Op, Call, Make, Let, Par, If, Case, Tuple, LetSeveral, ParSeveral, NoArgument, Argument, LastArm, NextArm, FunctionTree, ProgramTree}
use Rattle.gib_syntax.specs.Results.{Results, One, Several}
use Rattle.gib_syntax.specs.Declarations.{number_of, constructor_named, function_named, table_of_program, type_of_name}
pub use Rattle.gib_syntax.specs.Typing.{names_of}
pub use Rattle.gib_types.specs.declared.reason.Reason.{Reason}
pub use Rattle.gib_types.specs.declared.reason.Reason.TheVariants.{Deep, Trap}

-- What an expression means: a value, or a reason why there is none.
pub data Outcome : Type 0 where
  Gives : Datum → Outcome
  Stops : Reason → Outcome

-- Variables and their values, the newest first.
abbrev pub Environment : Type 0
Environment = List (ℕ × Datum)

-- The value of a variable. Where nothing is said of a case that typing excludes, it is 0.
abbrev pub value_in : Environment → ℕ → Datum
value_in [] x = whole (pos 0)
value_in (b ∷ env) x = if b.0 == x then b.1 else value_in env x

-- Values for variables, in their order.
abbrev pub bind : List Ident → List Datum → Environment → Environment
bind [] vs env = env
bind (x ∷ xs) [] env = env
bind (x ∷ xs) (v ∷ vs) env = bind xs vs ((number_of x, v) ∷ env)

-- Goes on with a value.
abbrev pub with_value : Outcome → (Datum → Outcome) → Outcome
with_value (Stops why) go = Stops why
with_value (Gives v) go = go v

-- Goes on with the values of all, in their order; the first that has none gives its reason.
abbrev pub with_values : List Outcome → (List Datum → Outcome) → Outcome
with_values [] go = go []
with_values (Stops why ∷ rest) go = Stops why
with_values (Gives v ∷ rest) go = with_values rest (λ vs. go (v ∷ vs))

-- Goes on with the values of a constructor's arguments, which are evaluated scalars first, then the packed
-- ones; the values stand in declared order.
abbrev pub with_fields : List Ty → List Outcome → (List Datum → Outcome) → Outcome
with_fields types outcomes go =
    with_values (at_fields true types outcomes ++ at_fields false types outcomes) (λ _. with_values outcomes go)

-- The number where a value is one; of any other value, which typing excludes, 0.
abbrev pub number_in : Datum → ℤ
number_in (whole z) = z
number_in (truth b) = pos 0
number_in (con k vs) = pos 0

-- The value is `True`.
abbrev pub is_true : Datum → Bool
is_true (whole z) = false
is_true (truth b) = b
is_true (con k vs) = false

-- The value is made by this constructor.
abbrev pub is_made_by : Option ℕ → Datum → Bool
is_made_by None v = false
is_made_by (Some c) (whole z) = false
is_made_by (Some c) (truth b) = false
is_made_by (Some c) (con k vs) = c == k

-- The values of a constructor's fields, in declared order; a scalar has none.
abbrev pub parts : Datum → List Datum
parts (whole z) = []
parts (truth b) = []
parts (con k vs) = list_of vs

-- Parts as one value, from which they are taken again; it is no value of a type.
abbrev pub tuple : List Datum → Datum
tuple vs = con 0 (data_of vs)

-- A value for one variable, its parts for any other number of them.
abbrev pub bind_results : List Ident → Datum → Environment → Environment
bind_results [] v env = env
bind_results (x ∷ []) v env = (number_of x, v) ∷ env
bind_results (x ∷ y ∷ ys) v env = bind (x ∷ y ∷ ys) (parts v) env

-- The operators; sums, differences, products and quotients wrap modulo 2^64. A quotient is cut towards zero, and
-- what is left has the sign of the left operand. What is said of a division by 0 is not looked at.
abbrev pub operate : Operator → ℤ → ℤ → Datum
operate o.Add x y = whole (int_wrapping_add w64 x y)
operate o.Subtract x y = whole (int_wrapping_sub w64 x y)
operate o.Multiply x y = whole (int_wrapping_mul w64 x y)
operate o.Equal x y = truth (int_eq x y)
operate o.Less x y = truth (int_lt x y)
operate o.Quotient x y = whole (int_wrapping_div w64 x y)
operate o.Remainder x y = whole (int_rem x y)

-- Whether the operator divides, and by 0.
abbrev pub is_by_zero : Operator → ℤ → Bool
is_by_zero o.Add y = false
is_by_zero o.Subtract y = false
is_by_zero o.Multiply y = false
is_by_zero o.Equal y = false
is_by_zero o.Less y = false
is_by_zero o.Quotient y = int_eq y (pos 0)
is_by_zero o.Remainder y = int_eq y (pos 0)

-- No value where the test holds, else this one.
abbrev pub outcome_unless : Bool → Datum → Outcome
outcome_unless true v = Stops Trap
outcome_unless false v = Gives v

-- What an operation comes to: a division by 0 has no value.
abbrev pub outcome : Operator → ℤ → ℤ → Outcome
outcome f x y = outcome_unless (is_by_zero f y) (operate f x y)

-- What a constructor with these arguments means; of one that is not declared, which typing excludes, 0.
abbrev pub made : Table → Option ℕ → List Outcome → Outcome
made table None outcomes = Gives (whole (pos 0))
made table (Some c) outcomes = with_fields (fields_at table c) outcomes (λ vs. Gives (con c (data_of vs)))

-- The first outcome where the test holds, else the second.
abbrev pub choose : Bool → Outcome → Outcome → Outcome
choose true a b = a
choose false a b = b

abbrev mutual
  -- What an expression means, where a call of the function of a name with these arguments means `call`.
  pub eval : Table → (ℕ → List Datum → Outcome) → Expression → Environment → Outcome
  eval table call (Var x) env = Gives (value_in env (number_of x))
  eval table call (Num p n) env = Gives (whole (pos n))
  eval table call (Bit p b) env = Gives (truth b)
  eval table call (Paren p e) env = eval table call e env
  eval table call (Op p f a b) env =
      with_value (eval table call a env) (λ x. with_value (eval table call b env) (λ y. outcome f (number_in x) (number_in y)))
  eval table call (Call f xs) env = with_values (eval_all table call xs env) (call (number_of f))
  eval table call (Make k xs) env = made table (constructor_named table (number_of k)) (eval_all table call xs env)
  eval table call (Let p x a b) env = with_value (eval table call a env) (λ v. eval table call b ((number_of x, v) ∷ env))
  eval table call (Par p x a y b c) env =
      with_value (eval table call a env) (λ v. with_value (eval table call b env) (λ w. eval table call c ((number_of y, w) ∷ (number_of x, v) ∷ env)))
  eval table call (If p a b c) env = with_value (eval table call a env) (λ v. choose (is_true v) (eval table call b env) (eval table call c env))
  eval table call (Case p x arms) env = eval_arms table call arms (value_in env (number_of x)) env
  eval table call (Tuple p as' xs) env = with_fields (map (type_of_name table.types) as') (eval_all table call xs env) (λ vs. Gives (tuple vs))
  eval table call (LetSeveral p qs a b) env = with_value (eval table call a env) (λ v. eval table call b (bind_results (names_of qs) v env))
  eval table call (ParSeveral p qs a rs b c) env =
      with_value (eval table call a env) (λ v. with_value (eval table call b env)
      (λ w. eval table call c (bind_results (names_of rs) w (bind_results (names_of qs) v env))))

  -- What arguments mean, each by itself, in their order.
  pub eval_all : Table → (ℕ → List Datum → Outcome) → Arguments → Environment → List Outcome
  eval_all table call NoArgument env = []
  eval_all table call (Argument a xs) env = eval table call a env ∷ eval_all table call xs env

  -- The arm of the value's constructor, with its variables bound to the fields.
  pub eval_arms : Table → (ℕ → List Datum → Outcome) → Arms → Datum → Environment → Outcome
  eval_arms table call (LastArm k xs e) v env =
      choose (is_made_by (constructor_named table (number_of k)) v) (eval table call e (bind xs (parts v) env)) (Gives (whole (pos 0)))
  eval_arms table call (NextArm k xs e arms) v env =
      choose (is_made_by (constructor_named table (number_of k)) v) (eval table call e (bind xs (parts v) env)) (eval_arms table call arms v env)

-- Goes on with a function; where there is none, which typing excludes, the outcome is 0.
abbrev pub of_function : Option FunctionTree → (FunctionTree → Outcome) → Outcome
of_function None go = Gives (whole (pos 0))
of_function (Some f) go = go f

-- What a call means, with so much depth left: with none it is too deep; else the body's meaning with one less.
abbrev pub calls : ProgramTree → ℕ → ℕ → List Datum → Outcome
calls p zero f arguments = Stops Deep
calls p (suc n) f arguments =
    of_function (function_named p.functions f)
    (λ g. eval (table_of_program p) (calls p n) g.body (bind (names_of g.parameters) arguments []))

-- What an expression of a program means, with so much depth left, where variables have these values.
abbrev pub means : ProgramTree → ℕ → Environment → Expression → Outcome
means p n env e = eval (table_of_program p) (calls p n) e env

-- What a program means: main's body, with its parameter.
abbrev pub run : ProgramTree → ℕ → Datum → Outcome
run p depth v = means p depth ((number_of p.main.parameter.name, v) ∷ []) p.main.body

-- The value is of the type, or one of parts of the types.
abbrev pub HasResults : Table → Datum → Results Ty → Type 0
HasResults table v (One t) = HasType table v t
HasResults table v (Several ts) = (vs : Data) × (v ≡ con 0 vs) × HaveTypes table vs ts

-- The value that an outcome gives, where it gives one, is so.
abbrev pub OutcomeGives : Table → Results Ty → Outcome → Type 0
OutcomeGives table r (Gives v) = HasResults table v r
OutcomeGives table r (Stops why) = Unit {0}

-- The value that an outcome gives, where it gives one, is of the type.
abbrev pub OutcomeHas : Table → Ty → Outcome → Type 0
OutcomeHas table ty o = OutcomeGives table (One ty) o
