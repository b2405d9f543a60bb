-- The machine's state, what it still owes, and the work that is left.
use Rattle.std.specs.Prelude.{◌≡◌, ℕ, zero, suc, ◌+◌, ◌<◌, ◌≤◌, if◌then◌else◌, Bool, true, false, pos, List, [], ◌∷◌, ◌++◌, map, Option, Some, None, MatchOption, get_or, drop, length}
use Rattle.gib_types.specs.declared.table.Ty.{Ty}
use Rattle.gib_types.specs.Table.{Table, fields_at}
use Rattle.gib_types.specs.Tree.{Datum, whole, truth, con, data_of}
use Rattle.gib_syntax.specs.declared.exprs.Arm.{Arm}
use Rattle.gib_base.specs.declared.Span.{Span}
use Rattle.gib_plain.specs.declared.lookup.Next.{Next}
use Rattle.gib_plain.specs.declared.lookup.Next.TheVariants as x
use Rattle.gib_syntax.specs.Tree.{Expression, Arguments, Arms, Var, Num, Bit, Paren, Op, Call, Make, Let, Par, If, Case, Tuple, LetSeveral, ParSeveral, NoArgument, Argument, LastArm, NextArm, FunctionTree, ProgramTree}
use Rattle.gib_syntax.specs.Arena.{tree_of, arguments_from}
use Rattle.gib_syntax.specs.Parts.{Parts, program_of}
use Rattle.gib_syntax.specs.declared.tree.TypeName.{TypeName}
use Rattle.gib_syntax.specs.Declarations.{number_of, constructor_named, function_named, table_of_program, type_of_name}
pub use Rattle.gib_check.specs.ArmPlaces.{is_number}
use Rattle.gib_plain.specs.Turns.{in_turn, in_place}
use Rattle.gib_syntax.specs.Meaning.{Reason, Outcome, Gives, Stops, Environment, value_in, bind, bind_results, tuple, with_values, number_in, is_true, is_made_by, parts, outcome, choose, eval, eval_all, names_of, calls}

-- An expression whose parts are being evaluated: the calls left, the variables in scope, the values of the
-- parts that are done, and the expression's number.
pub record Waiting : Type 0 where
  pub left : ℕ
  pub env : Environment
  pub finished : List Datum
  pub id : ℕ

-- What comes next: an expression, the value of one, or nothing since one has no value.
pub data Doing : Type 0 where
  Entering : (id : ℕ) → Doing
  Leaving : (v : Datum) → Doing
  Ended : (why : Reason) → Doing

-- What comes next where a frame gives this.
abbrev pub doing_for : Outcome → Doing
doing_for (Gives v) = Leaving v
doing_for (Stops why) = Ended why

-- The frames from the oldest on, the calls left, the variables in scope, and what comes next.
pub record State : Type 0 where
  pub frames : List Waiting
  pub left : ℕ
  pub env : Environment
  pub doing : Doing

-- Arguments as a list.
abbrev pub expressions_of : Arguments → List Expression
expressions_of NoArgument = []
expressions_of (Argument a xs) = a ∷ expressions_of xs

-- The field types of a constructor, where there is one.
abbrev pub fields_made : Table → Option ℕ → List Ty
fields_made table None = []
fields_made table (Some c) = fields_at table c

-- The types of the parts of a tuple.
abbrev pub types_in : Table → List TypeName → List Ty
types_in table as' = map (type_of_name table.types) as'

-- The parts of an expression that are evaluated before all else, in the order in which they are evaluated.
abbrev pub first_parts : Table → Expression → List Expression
first_parts table (Var x) = []
first_parts table (Num p n) = []
first_parts table (Bit p b) = []
first_parts table (Paren p e) = []
first_parts table (Op p f a b) = a ∷ b ∷ []
first_parts table (Call f xs) = expressions_of xs
first_parts table (Make k xs) = in_turn (fields_made table (constructor_named table (number_of k))) (expressions_of xs)
first_parts table (Let p x a b) = a ∷ []
first_parts table (Par p x a y b c) = a ∷ b ∷ []
first_parts table (If p a b c) = a ∷ []
first_parts table (Case p x arms) = []
first_parts table (Tuple p as' xs) = in_turn (types_in table as') (expressions_of xs)
first_parts table (LetSeveral p qs a b) = a ∷ []
first_parts table (ParSeveral p qs a rs b c) = a ∷ b ∷ []

-- What comes next at a place among the first parts of an expression, where these are the trees of numbers.
abbrev pub IsNext : (ℕ → Expression) → Table → Expression → ℕ → Next → Type 0
IsNext f table e at (x.Part found) =
    MatchOption found (drop at (first_parts table e) ≡ []) (λ i. drop at (first_parts table e) ≡ f i.0 ∷ drop (at + 1) (first_parts table e))
IsNext f table e at (x.Tuple ts is) = (span : Span) × (e ≡ Tuple span ts.now (arguments_from f is.now))

-- The value at a place, 0 where there is none.
abbrev pub value_at : List Datum → ℕ → Datum
value_at vs i = get_or vs i (whole (pos 0))

-- What a constructor gives for the values of its arguments in the order of evaluation, where there is one.
abbrev pub made_of : Table → Option ℕ → List Datum → Outcome
made_of table None vs = Gives (whole (pos 0))
made_of table (Some c) vs = Gives (con c (data_of (in_place (fields_at table c) vs)))

-- What a body may mention: the table, and with so much depth left the meaning of calls, and how many steps
-- they take.
pub record Around : Type 0 where
  pub table : Table
  pub call : ℕ → List Datum → Outcome
  pub steps : ℕ → List Datum → ℕ

-- What an expression gives.
abbrev pub means_in : Around → Expression → Environment → Outcome
means_in a e env = eval a.table a.call e env

-- What each of these gives.
abbrev pub all_mean : Around → List Expression → Environment → List Outcome
all_mean a [] env = []
all_mean a (e ∷ es) env = means_in a e env ∷ all_mean a es env

-- What an expression gives, once its first parts have these values.
abbrev pub finish : Around → Expression → Environment → List Datum → Outcome
finish a (Var x) env vs = Gives (whole (pos 0))
finish a (Num p n) env vs = Gives (whole (pos 0))
finish a (Bit p b) env vs = Gives (whole (pos 0))
finish a (Paren p e) env vs = Gives (whole (pos 0))
finish a (Op p f l r) env vs = outcome f (number_in (value_at vs 0)) (number_in (value_at vs 1))
finish a (Call f xs) env vs = a.call (number_of f) vs
finish a (Make k xs) env vs = made_of a.table (constructor_named a.table (number_of k)) vs
finish a (Let p x l b) env vs = means_in a b (bind (x ∷ []) vs env)
finish a (Par p x l y r b) env vs = means_in a b (bind (x ∷ y ∷ []) vs env)
finish a (If p c t e) env vs = choose (is_true (value_at vs 0)) (means_in a t env) (means_in a e env)
finish a (Case p x arms) env vs = Gives (whole (pos 0))
finish a (Tuple p as' xs) env vs = Gives (tuple (in_place (types_in a.table as') vs))
finish a (LetSeveral p qs l b) env vs = means_in a b (bind_results (names_of qs) (value_at vs 0) env)
finish a (ParSeveral p qs l rs r b) env vs = means_in a b (bind_results (names_of rs) (value_at vs 1) (bind_results (names_of qs) (value_at vs 0) env))

-- Steps.

-- The number that f gives for the values of all, 0 where one has none.
abbrev pub if_values : List Outcome → (List Datum → ℕ) → ℕ
if_values [] f = f []
if_values (Stops why ∷ os) f = 0
if_values (Gives v ∷ os) f = if_values os (λ vs. f (v ∷ vs))

-- One of two numbers.
abbrev pub pick : Bool → ℕ → ℕ → ℕ
pick true m n = m
pick false m n = n

abbrev mutual
  -- How many steps an expression takes at most; so for its arguments and for the arm of a value.
  pub cost : Around → Expression → Environment → ℕ
  cost a (Var x) env = 1
  cost a (Num p n) env = 1
  cost a (Bit p b) env = 1
  cost a (Paren p e) env = 1 + cost a e env
  cost a (Op p f l r) env = 1 + (1 + cost a l env + (1 + cost a r env))
  cost a (Call f xs) env = 1 + (cost_all a xs env + if_values (eval_all a.table a.call xs env) (a.steps (number_of f)))
  cost a (Make k xs) env = 1 + cost_all a xs env
  cost a (Let p x l b) env = 1 + (1 + cost a l env + if_values (eval a.table a.call l env ∷ []) (λ vs. cost a b (bind (x ∷ []) vs env)))
  cost a (Par p x l y r b) env =
      1 + (1 + cost a l env + (1 + cost a r env) + if_values (eval a.table a.call l env ∷ eval a.table a.call r env ∷ []) (λ vs. cost a b (bind (x ∷ y ∷ []) vs env)))
  cost a (If p c t e) env =
      1 + (1 + cost a c env + if_values (eval a.table a.call c env ∷ []) (λ vs. pick (is_true (value_at vs 0)) (cost a t env) (cost a e env)))
  cost a (Case p x arms) env = 1 + cost_arms a arms (value_in env (number_of x)) env
  cost a (Tuple p as' xs) env = 1 + cost_all a xs env
  cost a (LetSeveral p qs l b) env =
      1 + (1 + cost a l env + if_values (eval a.table a.call l env ∷ []) (λ vs. cost a b (bind_results (names_of qs) (value_at vs 0) env)))
  cost a (ParSeveral p qs l rs r b) env =
      1 + (1 + cost a l env + (1 + cost a r env)
      + if_values (eval a.table a.call l env ∷ eval a.table a.call r env ∷ []) (λ vs. cost a b (bind_results (names_of rs) (value_at vs 1) (bind_results (names_of qs) (value_at vs 0) env))))

  -- The steps of all arguments.
  pub cost_all : Around → Arguments → Environment → ℕ
  cost_all a NoArgument env = 0
  cost_all a (Argument e xs) env = 1 + cost a e env + cost_all a xs env

  -- The steps of the arm that a value takes.
  pub cost_arms : Around → Arms → Datum → Environment → ℕ
  cost_arms a (LastArm k xs e) v env = pick (is_made_by (constructor_named a.table (number_of k)) v) (cost a e (bind xs (parts v) env)) 0
  cost_arms a (NextArm k xs e arms) v env = pick (is_made_by (constructor_named a.table (number_of k)) v) (cost a e (bind xs (parts v) env)) (cost_arms a arms v env)

-- How many steps these parts take at most, with one more for each.
abbrev pub costs : Around → List Expression → Environment → ℕ
costs a [] env = 0
costs a (e ∷ es) env = 1 + cost a e env + costs a es env

-- How many steps an expression takes once its first parts have these values.
abbrev pub finish_cost : Around → Expression → Environment → List Datum → ℕ
finish_cost a (Var x) env vs = 0
finish_cost a (Num p n) env vs = 0
finish_cost a (Bit p b) env vs = 0
finish_cost a (Paren p e) env vs = 0
finish_cost a (Op p f l r) env vs = 0
finish_cost a (Call f xs) env vs = a.steps (number_of f) vs
finish_cost a (Make k xs) env vs = 0
finish_cost a (Let p x l b) env vs = cost a b (bind (x ∷ []) vs env)
finish_cost a (Par p x l y r b) env vs = cost a b (bind (x ∷ y ∷ []) vs env)
finish_cost a (If p c t e) env vs = pick (is_true (value_at vs 0)) (cost a t env) (cost a e env)
finish_cost a (Case p x arms) env vs = 0
finish_cost a (Tuple p as' xs) env vs = 0
finish_cost a (LetSeveral p qs l b) env vs = cost a b (bind_results (names_of qs) (value_at vs 0) env)
finish_cost a (ParSeveral p qs l rs r b) env vs = cost a b (bind_results (names_of rs) (value_at vs 1) (bind_results (names_of qs) (value_at vs 0) env))

-- What f says of the function, 0 where there is none.
abbrev pub function_cost : Option FunctionTree → (FunctionTree → ℕ) → ℕ
function_cost None f = 0
function_cost (Some g) f = f g

-- How many steps a call takes at most, with so much depth left
abbrev pub call_cost : ProgramTree → ℕ → ℕ → List Datum → ℕ
call_cost p zero f arguments = 0
call_cost p (suc n) f arguments =
    function_cost (function_named p.functions f)
    (λ g. cost (record { table = table_of_program p; call = calls p n; steps = call_cost p n }) g.body (bind (names_of g.parameters) arguments []))

-- A program with so much depth left.
abbrev pub around : ProgramTree → ℕ → Around
around p n = record { table = table_of_program p; call = calls p n; steps = call_cost p n }

-- What the machine owes.

-- The program, and the trees of its expressions by their numbers.
pub record Code : Type 0 where
  pub program : ProgramTree
  pub tree : ℕ → Expression

-- A program as the code keeps it.
abbrev pub code_of : Parts → Code
code_of p = record { program = program_of p; tree = tree_of p.exprs }

-- What a body may mention, with so much depth left.
abbrev pub at : Code → ℕ → Around
at c n = around c.program n

-- What an expression gives, with so much depth left.
abbrev pub gives : Code → ℕ → Expression → Environment → Outcome
gives c n e env = means_in (at c n) e env

-- The parts of a frame that are not done.
abbrev pub left_parts : Code → Waiting → List Expression
left_parts c f = drop (length f.finished) (first_parts (table_of_program c.program) (c.tree f.id))

-- What a frame gives where all its parts have these values.
abbrev pub finished : Code → Waiting → List Datum → Outcome
finished c f vs = finish (at c f.left) (c.tree f.id) f.env vs

-- What a frame gives once the rest of its parts is evaluated.
abbrev pub complete : Code → Waiting → Outcome
complete c f = with_values (all_mean (at c f.left) (left_parts c f) f.env) (λ vs. finished c f (f.finished ++ vs))

-- The frame with one more part done.
abbrev pub with_done : Waiting → Datum → Waiting
with_done f v = record f { finished = f.finished ++ v ∷ [] }

-- What a frame makes of the outcome of a part.
abbrev pub after : Code → Waiting → Outcome → Outcome
after c f (Stops why) = Stops why
after c f (Gives v) = complete c (with_done f v)

-- What all frames make of an outcome, the newest first.
abbrev pub resume : Code → List Waiting → Outcome → Outcome
resume c [] o = o
resume c (f ∷ fs) o = after c f (resume c fs o)

-- What the newest frame waits for.
abbrev pub outcome_now : Code → State → Outcome
outcome_now c s = elim s.doing [ Entering i ↦ gives c s.left (c.tree i) s.env | Leaving v ↦ Gives v | Ended why ↦ Stops why ]

-- What the whole run gives.
abbrev pub owes : Code → State → Outcome
owes c s = resume c s.frames (outcome_now c s)

-- The work that is left.

-- How many steps that takes.
abbrev pub finished_cost : Code → Waiting → List Datum → ℕ
finished_cost c f vs = finish_cost (at c f.left) (c.tree f.id) f.env vs

-- How many steps a frame takes to its end.
abbrev pub complete_cost : Code → Waiting → ℕ
complete_cost c f =
    costs (at c f.left) (left_parts c f) f.env
    + if_values (all_mean (at c f.left) (left_parts c f) f.env) (λ vs. finished_cost c f (f.finished ++ vs))

-- The same after the outcome of a part.
abbrev pub after_cost : Code → Waiting → Outcome → ℕ
after_cost c f (Stops why) = 0
after_cost c f (Gives v) = 1 + complete_cost c (with_done f v)

-- How many steps all frames take after an outcome, the newest first.
abbrev pub stack_cost : Code → List Waiting → Outcome → ℕ
stack_cost c [] o = 0
stack_cost c (f ∷ fs) o = stack_cost c fs o + after_cost c f (resume c fs o)

-- How many steps what comes next takes.
abbrev pub doing_cost : Code → State → ℕ
doing_cost c s = elim s.doing [ Entering i ↦ cost (at c s.left) (c.tree i) s.env | Leaving v ↦ 0 | Ended why ↦ 0 ]

-- A number that falls with each step.
abbrev pub work : Code → State → ℕ
work c s = stack_cost c s.frames (outcome_now c s) + doing_cost c s

-- The state owes this outcome, within so many steps.
pub record Comes (c : Code) (s : State) (o : Outcome) (n : ℕ) : Type 0 where
  pub same : owes c s ≡ o
  pub within : work c s ≤ n

-- The state owes what these frames make of the outcome, within the steps that it then takes and so many more.
abbrev pub ComesTo : Code → State → List Waiting → Outcome → ℕ → Type 0
ComesTo c s fs o n = Comes c s (resume c fs o) (stack_cost c fs o + n)

-- A step: the same is owed, and less work is left.
pub record Goes (c : Code) (old new : State) : Type 0 where
  pub same : owes c new ≡ owes c old
  pub less : work c new < work c old

-- The newest frame's variables are in scope.
pub record IsReady (s : State) (fs : List Waiting) (f : Waiting) : Type 0 where
  pub frames : s.frames ≡ fs ++ f ∷ []
  pub left : s.left ≡ f.left
  pub env : s.env ≡ f.env

-- A frame of which no part is done.
abbrev pub frame_at : State → ℕ → Waiting
frame_at s id = record { left = s.left; env = s.env; finished = []; id = id }

-- No frame waits.
abbrev pub is_empty : List Waiting → Bool
is_empty [] = true
is_empty (f ∷ fs) = false

-- The run has its outcome.
abbrev pub is_over : State → Bool
is_over s = elim s.doing [ Entering i ↦ false | Leaving v ↦ is_empty s.frames | Ended why ↦ true ]

-- Cases.

-- The first arm of a constructor.
abbrev pub arm_of : Table → List Arm → ℕ → Option Arm
arm_of table [] k = None
arm_of table (arm ∷ arms) k = if is_number (constructor_named table (number_of arm.constructor)) k then Some arm else arm_of table arms k

-- The value is a number or a truth value.
abbrev pub IsScalar : Datum → Type 0
IsScalar (whole z) = Unit {0}
IsScalar (truth b) = Unit {0}
IsScalar (con c vs) = ⊥

-- The value's constructor.
abbrev pub IsMadeBy : ℕ → Datum → Type 0
IsMadeBy k (whole z) = ⊥
IsMadeBy k (truth b) = ⊥
IsMadeBy k (con c vs) = c ≡ k
