-- What the machine's moves do to what it owes and to the work that is left.
use Rattle.std.proofs.Common.{◌≡◌, ℕ, ◌+◌, ◌≤◌, true, false, List, [], ◌∷◌, ◌++◌, Some, map, length, drop, refl, sym, ap, ◌∙◌, arith, append_assoc, append-nil, length-append}
use Rattle.std.proofs.Math.Nat.{zero-add}
use Rattle.gib_types.specs.declared.table.Ty.{Ty}
use Rattle.gib_types.specs.declared.table.Ty.TheVariants.{Whole, Truth, Tree}
use Rattle.gib_types.specs.Table.{fields_at, at_fields}
use Rattle.gib_types.specs.Tree.{Datum, con, data_of}
use Rattle.gib_syntax.specs.Tree.{Expression, Arguments, Var, Num, Bit, Paren, Op, Call, Make, Let, Par, If, Case, Tuple, LetSeveral, ParSeveral, NoArgument, Argument}
use Rattle.gib_syntax.specs.Declarations.{number_of, constructor_named, table_of_program}
use Rattle.gib_syntax.specs.Meaning.{Reason, Outcome, Gives, Stops, Environment, tuple, with_value, with_values, with_fields, eval_all, made}
use Rattle.gib_plain.specs.Running.{Waiting, Code, Around, at, gives, means_in, all_mean, expressions_of, first_parts, left_parts, finish, finished, complete, after, with_done, resume, if_values, cost, cost_all, costs, finish_cost, finished_cost, complete_cost, after_cost, stack_cost, fields_made, types_in, made_of}
use Rattle.gib_plain.specs.Turns.{in_turn, in_place}
use Rattle.gib_plain.proofs.InTurn.{map_turn, fields_in_turn}

pub resume-snoc : (c : Code) (fs : List Waiting) (f : Waiting) (o : Outcome) → resume c (fs ++ f ∷ []) o ≡ resume c fs (after c f o)
resume-snoc c [] f o = refl
resume-snoc c (g ∷ fs) f o = ap (after c g) (resume-snoc c fs f o)

pub stack_cost-snoc : (c : Code) (fs : List Waiting) (f : Waiting) (o : Outcome) → stack_cost c (fs ++ f ∷ []) o ≡ stack_cost c fs (after c f o) + after_cost c f o
stack_cost-snoc c [] f o = refl
stack_cost-snoc c (g ∷ fs) f o =
    let e = stack_cost-snoc c fs f o in
    let r = ap (after_cost c g) (resume-snoc c fs f o) in
    omega (arith, e, r)

pub resume-stops : (c : Code) (fs : List Waiting) (why : Reason) → resume c fs (Stops why) ≡ Stops why
resume-stops c [] why = refl
resume-stops c (f ∷ fs) why = ap (after c f) (resume-stops c fs why)

pub stack_cost-stops : (c : Code) (fs : List Waiting) (why : Reason) → stack_cost c fs (Stops why) ≡ 0
stack_cost-stops c [] why = refl
stack_cost-stops c (f ∷ fs) why =
    let e = stack_cost-stops c fs why in
    let r = ap (after_cost c f) (resume-stops c fs why) in
    omega (arith, e, r)

-- ---- the next part of a frame

with_values-same : (os : List Outcome) (g h : List Datum → Outcome) → ((vs : List Datum) → g vs ≡ h vs) → with_values os g ≡ with_values os h
with_values-same [] g h e = e []
with_values-same (Stops why ∷ os) g h e = refl
with_values-same (Gives v ∷ os) g h e = with_values-same os (λ vs. g (v ∷ vs)) (λ vs. h (v ∷ vs)) (λ vs. e (v ∷ vs))

if_values-same : (os : List Outcome) (g h : List Datum → ℕ) → ((vs : List Datum) → g vs ≡ h vs) → if_values os g ≡ if_values os h
if_values-same [] g h e = e []
if_values-same (Stops why ∷ os) g h e = refl
if_values-same (Gives v ∷ os) g h e = if_values-same os (λ vs. g (v ∷ vs)) (λ vs. h (v ∷ vs)) (λ vs. e (v ∷ vs))

if_values-none : (os : List Outcome) → if_values os (λ vs. 0) ≡ 0
if_values-none [] = refl
if_values-none (Stops why ∷ os) = refl
if_values-none (Gives v ∷ os) = if_values-none os

done_parts : (c : Code) (f : Waiting) (v : Datum) → drop (length f.finished + 1) (first_parts (table_of_program c.program) (c.tree f.id)) ≡ left_parts c (with_done f v)
done_parts c f v = ap (λ n. drop n (first_parts (table_of_program c.program) (c.tree f.id))) (sym (length-append f.finished (v ∷ [])))

next_then : (c : Code) (f : Waiting) (rest : List Expression) (o : Outcome) → drop (length f.finished + 1) (first_parts (table_of_program c.program) (c.tree f.id)) ≡ rest → with_values (o ∷ all_mean (at c f.left) rest f.env) (λ vs. finished c f (f.finished ++ vs)) ≡ after c f o
next_then c f rest (Stops why) e = refl
next_then c f rest (Gives v) e =
    with_values-same (all_mean (at c f.left) rest f.env) (λ vs. finished c f (f.finished ++ (v ∷ vs))) (λ vs. finished c f ((f.finished ++ v ∷ []) ++ vs)) (λ vs. ap (finished c f) (sym (append_assoc f.finished (v ∷ []) vs)))
    ∙ ap (λ es. with_values (all_mean (at c f.left) es f.env) (λ vs. finished c f ((f.finished ++ v ∷ []) ++ vs))) (sym e ∙ done_parts c f v)

next_cost : (c : Code) (f : Waiting) (rest : List Expression) (o : Outcome) → drop (length f.finished + 1) (first_parts (table_of_program c.program) (c.tree f.id)) ≡ rest → after_cost c f o ≤ 1 + costs (at c f.left) rest f.env + if_values (o ∷ all_mean (at c f.left) rest f.env) (λ vs. finished_cost c f (f.finished ++ vs))
next_cost c f rest (Stops why) e = omega arith
next_cost c f rest (Gives v) e =
    let same = if_values-same (all_mean (at c f.left) rest f.env) (λ vs. finished_cost c f (f.finished ++ (v ∷ vs))) (λ vs. finished_cost c f ((f.finished ++ v ∷ []) ++ vs)) (λ vs. ap (finished_cost c f) (sym (append_assoc f.finished (v ∷ []) vs))) in
    let all = ap (λ es. costs (at c f.left) es f.env + if_values (all_mean (at c f.left) es f.env) (λ vs. finished_cost c f ((f.finished ++ v ∷ []) ++ vs))) (sym e ∙ done_parts c f v) in
    omega (arith, same, all)

pub complete-next : (c : Code) (f : Waiting) (e : Expression) → left_parts c f ≡ e ∷ drop (length f.finished + 1) (first_parts (table_of_program c.program) (c.tree f.id)) → complete c f ≡ after c f (gives c f.left e f.env)
complete-next c f e is =
    ap (λ es. with_values (all_mean (at c f.left) es f.env) (λ vs. finished c f (f.finished ++ vs))) is
    ∙ next_then c f (drop (length f.finished + 1) (first_parts (table_of_program c.program) (c.tree f.id))) (gives c f.left e f.env) refl

pub complete_cost-next : (c : Code) (f : Waiting) (e : Expression) → left_parts c f ≡ e ∷ drop (length f.finished + 1) (first_parts (table_of_program c.program) (c.tree f.id)) → after_cost c f (gives c f.left e f.env) + cost (at c f.left) e f.env ≤ complete_cost c f
complete_cost-next c f e is =
    let rest = drop (length f.finished + 1) (first_parts (table_of_program c.program) (c.tree f.id)) in
    let whole : complete_cost c f ≡ costs (at c f.left) (e ∷ rest) f.env + if_values (gives c f.left e f.env ∷ all_mean (at c f.left) rest f.env) (λ vs. finished_cost c f (f.finished ++ vs)) =
    ap (λ es. costs (at c f.left) es f.env + if_values (all_mean (at c f.left) es f.env) (λ vs. finished_cost c f (f.finished ++ vs))) is in
    let b = next_cost c f rest (gives c f.left e f.env) refl in
    omega (arith, whole, b)

-- ---- a frame whose parts are all done

pub complete-all : (c : Code) (f : Waiting) → left_parts c f ≡ [] → complete c f ≡ finished c f f.finished
complete-all c f e =
    ap (λ es. with_values (all_mean (at c f.left) es f.env) (λ vs. finished c f (f.finished ++ vs))) e
    ∙ ap (finished c f) (append-nil f.finished)

pub complete_cost-all : (c : Code) (f : Waiting) → left_parts c f ≡ [] → complete_cost c f ≡ finished_cost c f f.finished
complete_cost-all c f e =
    ap (λ es. costs (at c f.left) es f.env + if_values (all_mean (at c f.left) es f.env) (λ vs. finished_cost c f (f.finished ++ vs))) e
    ∙ zero-add (finished_cost c f (f.finished ++ []))
    ∙ ap (finished_cost c f) (append-nil f.finished)

-- ---- an expression that begins with its parts

args_mean : (a : Around) (xs : Arguments) (env : Environment) → eval_all a.table a.call xs env ≡ all_mean a (expressions_of xs) env
args_mean a NoArgument env = refl
args_mean a (Argument e xs) env = ap (λ os. means_in a e env ∷ os) (args_mean a xs env)

args_cost : (a : Around) (xs : Arguments) (env : Environment) → cost_all a xs env ≡ costs a (expressions_of xs) env
args_cost a NoArgument env = refl
args_cost a (Argument e xs) env = ap (λ n. 1 + cost a e env + n) (args_cost a xs env)

-- The meanings of arguments in turn are those of the arguments, in turn.
mean_map : (a : Around) (es : List Expression) (env : Environment) → all_mean a es env ≡ map (λ e. means_in a e env) es
mean_map a [] env = refl
mean_map a (e ∷ es) env = ap (λ os. means_in a e env ∷ os) (mean_map a es env)

turn_mean : (a : Around) (ts : List Ty) (es : List Expression) (env : Environment) → all_mean a (in_turn ts es) env ≡ in_turn ts (all_mean a es env)
turn_mean a ts es env = mean_map a (in_turn ts es) env ∙ map_turn (λ e. means_in a e env) ts es ∙ ap (in_turn ts) (sym (mean_map a es env))

-- Arguments in turn take as many steps as in declared order.
costs_append : (a : Around) (ds es : List Expression) (env : Environment) → costs a (ds ++ es) env ≡ costs a ds env + costs a es env
costs_append a [] es env = omega arith
costs_append a (d ∷ ds) es env = omega (arith, costs_append a ds es env)

kinds_cost : (a : Around) (ts : List Ty) (es : List Expression) (env : Environment) → costs a (at_fields true ts es) env + (costs a (at_fields false ts es) env + costs a (drop (length ts) es) env) ≡ costs a es env
kinds_cost a [] es env = omega arith
kinds_cost a (t ∷ ts) [] env = refl
kinds_cost a (Whole ∷ ts) (e ∷ es) env = omega (arith, kinds_cost a ts es env)
kinds_cost a (Truth ∷ ts) (e ∷ es) env = omega (arith, kinds_cost a ts es env)
kinds_cost a (Tree t ∷ ts) (e ∷ es) env = omega (arith, kinds_cost a ts es env)

turn_cost : (a : Around) (ts : List Ty) (es : List Expression) (env : Environment) → costs a (in_turn ts es) env ≡ costs a es env
turn_cost a ts es env =
    let rest = drop (length ts) es in
    omega (arith, costs_append a (at_fields true ts es) (at_fields false ts es ++ rest) env, costs_append a (at_fields false ts es) rest env, kinds_cost a ts es env)

-- Expressions that the machine begins by their parts.
abbrev pub IsBegun : Around → Expression → Type 0
IsBegun a (Var x) = ⊥
IsBegun a (Num p n) = ⊥
IsBegun a (Bit p b) = ⊥
IsBegun a (Paren p e) = ⊥
IsBegun a (Op p f l r) = Unit {0}
IsBegun a (Call f xs) = Unit {0}
IsBegun a (Make k xs) = (c : ℕ) × (constructor_named a.table (number_of k) ≡ Some c)
IsBegun a (Let p x l b) = Unit {0}
IsBegun a (Par p x l y r b) = Unit {0}
IsBegun a (If p c t e) = Unit {0}
IsBegun a (Case p x arms) = ⊥
IsBegun a (Tuple p as' xs) = Unit {0}
IsBegun a (LetSeveral p qs l b) = Unit {0}
IsBegun a (ParSeveral p qs l rs r b) = Unit {0}

one : (o : Outcome) (go : Datum → Outcome) (h : List Datum → Outcome) → ((v : Datum) → go v ≡ h (v ∷ [])) → with_value o go ≡ with_values (o ∷ []) h
one (Stops why) go h e = refl
one (Gives v) go h e = e v

two : (o q : Outcome) (go : Datum → Datum → Outcome) (h : List Datum → Outcome) → ((v w : Datum) → go v w ≡ h (v ∷ w ∷ [])) → with_value o (λ v. with_value q (go v)) ≡ with_values (o ∷ q ∷ []) h
two (Stops why) q go h e = refl
two (Gives v) (Stops why) go h e = refl
two (Gives v) (Gives w) go h e = e v w

pub begin-mean : (a : Around) (e : Expression) (env : Environment) → IsBegun a e → means_in a e env ≡ with_values (all_mean a (first_parts a.table e) env) (λ vs. finish a e env vs)
begin-mean a (Var x) env h = absurd h
begin-mean a (Num p n) env h = absurd h
begin-mean a (Bit p b) env h = absurd h
begin-mean a (Paren p e) env h = absurd h
begin-mean a (Op p f l r) env h = two (means_in a l env) (means_in a r env) _ (λ vs. finish a (Op p f l r) env vs) (λ v w. refl)
begin-mean a (Call f xs) env h = ap (λ os. with_values os (a.call (number_of f))) (args_mean a xs env)
begin-mean a (Make k xs) env h =
    let ts = fields_at a.table h.0 in
    let os = all_mean a (expressions_of xs) env in
    ap (λ o. made a.table o (eval_all a.table a.call xs env)) h.1
    ∙ ap (λ os. with_fields ts os (λ vs. Gives (con h.0 (data_of vs)))) (args_mean a xs env)
    ∙ fields_in_turn ts os (λ vs. Gives (con h.0 (data_of vs)))
    ∙ ap (λ os. with_values os (λ vs. Gives (con h.0 (data_of (in_place ts vs))))) (sym (turn_mean a ts (expressions_of xs) env))
    ∙ ap (λ o. with_values (all_mean a (in_turn (fields_made a.table o) (expressions_of xs)) env) (λ vs. made_of a.table o vs)) (sym h.1)
begin-mean a (Let p x l b) env h = one (means_in a l env) _ (λ vs. finish a (Let p x l b) env vs) (λ v. refl)
begin-mean a (Par p x l y r b) env h = two (means_in a l env) (means_in a r env) _ (λ vs. finish a (Par p x l y r b) env vs) (λ v w. refl)
begin-mean a (If p c t e) env h = one (means_in a c env) _ (λ vs. finish a (If p c t e) env vs) (λ v. refl)
begin-mean a (Case p x arms) env h = absurd h
begin-mean a (Tuple p as' xs) env h =
    let ts = types_in a.table as' in
    ap (λ os. with_fields ts os (λ vs. Gives (tuple vs))) (args_mean a xs env)
    ∙ fields_in_turn ts (all_mean a (expressions_of xs) env) (λ vs. Gives (tuple vs))
    ∙ ap (λ os. with_values os (λ vs. Gives (tuple (in_place ts vs)))) (sym (turn_mean a ts (expressions_of xs) env))
begin-mean a (LetSeveral p qs l b) env h = one (means_in a l env) _ (λ vs. finish a (LetSeveral p qs l b) env vs) (λ v. refl)
begin-mean a (ParSeveral p qs l rs r b) env h = two (means_in a l env) (means_in a r env) _ (λ vs. finish a (ParSeveral p qs l rs r b) env vs) (λ v w. refl)

pub begin-cost : (a : Around) (e : Expression) (env : Environment) → IsBegun a e → costs a (first_parts a.table e) env + if_values (all_mean a (first_parts a.table e) env) (λ vs. finish_cost a e env vs) + 1 ≤ cost a e env
begin-cost a (Var x) env h = absurd h
begin-cost a (Num p n) env h = absurd h
begin-cost a (Bit p b) env h = absurd h
begin-cost a (Paren p e) env h = absurd h
begin-cost a (Op p f l r) env h = omega (arith, if_values-none (means_in a l env ∷ means_in a r env ∷ []))
begin-cost a (Call f xs) env h = omega (arith, args_cost a xs env, ap (λ os. if_values os (a.steps (number_of f))) (args_mean a xs env))
begin-cost a (Make k xs) env h =
    let ts = fields_made a.table (constructor_named a.table (number_of k)) in
    omega (arith, args_cost a xs env, turn_cost a ts (expressions_of xs) env, if_values-none (all_mean a (in_turn ts (expressions_of xs)) env))
begin-cost a (Let p x l b) env h = omega arith
begin-cost a (Par p x l y r b) env h = omega arith
begin-cost a (If p c t e) env h = omega arith
begin-cost a (Case p x arms) env h = absurd h
begin-cost a (Tuple p as' xs) env h =
    let ts = types_in a.table as' in
    omega (arith, args_cost a xs env, turn_cost a ts (expressions_of xs) env, if_values-none (all_mean a (in_turn ts (expressions_of xs)) env))
begin-cost a (LetSeveral p qs l b) env h = omega arith
begin-cost a (ParSeveral p qs l rs r b) env h = omega arith
