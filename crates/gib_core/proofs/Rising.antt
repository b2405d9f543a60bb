-- The cost does not fall with the levels of forks.
use Rattle.std.proofs.Common.{ℕ, zero, suc, ◌≤◌, Bool, true, false, List, [], ◌∷◌, map, Option, Some, None, arith}
use Rattle.gib_types.specs.Table.{Table}
use Rattle.gib_types.specs.Tree.{Datum}
use Rattle.gib_syntax.specs.Meaning.{Outcome, Gives, Stops, Environment, is_true, is_made_by, parts}
use Rattle.gib_core.specs.declared.atom.Kind.{Kind}
use Rattle.gib_core.specs.declared.atom.Kind.TheVariants.{Here, Region, Scalar}
use Rattle.gib_core.specs.Tree.{Term, Then, Write, Point, CallTerm, Give, CaseTerm, IfTerm, Tuple, PartTerms, NoPart, PartThen, Bind, Past, One, Both, Prim, Reach, Side, On, Several, Branches, NoBranch, BranchThen, variables_from, FunctionTerm, CoreTree}
use Rattle.gib_core.specs.Meaning.{Calls, value, bind, Reached, Went, Halted, mean, run, function_at, core_calls}
use Rattle.gib_core.specs.Cost.{Cost, Costs, IsAtMost, plus, cost_from, choose_cost, inside, own_of_right, own_right, cost_with, cost, cost_bind, cost_side, cost_parts, cost_branches, cost_of_function, call_costs, run_cost}

alike : (a : Cost) → IsAtMost a a
alike a = (omega arith, omega arith)

both : {a b c d : Cost} → IsAtMost a b → IsAtMost c d → IsAtMost (plus a c) (plus b d)
both h g = (omega (arith, h.0, g.0), omega (arith, h.1, g.1))

-- More levels outside are no fewer inside.
more_inside : (fork : Bool) (m n : ℕ) → m ≤ n → inside fork m ≤ inside fork n
more_inside false m n h = h
more_inside true zero zero h = omega arith
more_inside true zero (suc n) h = omega arith
more_inside true (suc m) zero h = absurd (omega (arith, h))
more_inside true (suc m) (suc n) h = omega (arith, h)

more_on_the_right : (fork : Bool) (m n : ℕ) (kind : Kind) → m ≤ n → IsAtMost (own_of_right fork m kind) (own_of_right fork n kind)
more_on_the_right false m n kind h = (omega arith, omega arith)
more_on_the_right true zero zero kind h = (omega arith, omega arith)
more_on_the_right true zero (suc n) Here h = (omega arith, omega arith)
more_on_the_right true zero (suc n) Region h = (omega arith, omega arith)
more_on_the_right true zero (suc n) Scalar h = (omega arith, omega arith)
more_on_the_right true (suc m) zero kind h = absurd (omega (arith, h))
more_on_the_right true (suc m) (suc n) Here h = (omega arith, omega arith)
more_on_the_right true (suc m) (suc n) Region h = (omega arith, omega arith)
more_on_the_right true (suc m) (suc n) Scalar h = (omega arith, omega arith)

right_rises : (fork : Bool) (m n : ℕ) (s : Side) → m ≤ n → IsAtMost (own_right fork m s) (own_right fork n s)
right_rises fork m n (On kind x ty t) h = more_on_the_right fork m n kind h
right_rises fork m n (Several xs tys t) h = (omega arith, omega arith)

-- What calls cost does not fall.
abbrev Rises : Costs → Type 0
Rises costs = (m n f : ℕ) (vs : List Datum) → m ≤ n → IsAtMost (costs m f vs) (costs n f vs)

from_rises : (x : Reached) (go go' : Environment → Cost) → ((env : Environment) → IsAtMost (go env) (go' env)) → IsAtMost (cost_from x go) (cost_from x go')
from_rises (Halted why) go go' h = (omega arith, omega arith)
from_rises (Went env) go go' h = h env

with_rises : (o : Outcome) (a c : Cost) → IsAtMost a c → IsAtMost (cost_with o a) (cost_with o c)
with_rises (Stops why) a c h = (omega arith, omega arith)
with_rises (Gives v) a c h = h

choice_rises : (b : Bool) (a a' c c' : Cost) → IsAtMost a a' → IsAtMost c c' → IsAtMost (choose_cost b a c) (choose_cost b a' c')
choice_rises true a a' c c' h g = h
choice_rises false a a' c c' h g = g

module _ (tb : Table) (call : Calls) (costs : Costs) (rising : Rises costs) where
  mutual
    term_rises : (m n : ℕ) (u : Term) (env : Environment) → m ≤ n → IsAtMost (cost tb call costs m u env) (cost tb call costs n u env)
    term_rises m n (Then b rest) env h =
        both (bind_rises m n b env h) (from_rises (run tb call b env) (λ e. cost tb call costs m rest e) (λ e. cost tb call costs n rest e) (λ e. term_rises m n rest e h))
    term_rises m n (Write x k ss ps) env h = (omega arith, omega arith)
    term_rises m n (Point x) env h = (omega arith, omega arith)
    term_rises m n (CallTerm f xs) env h = rising m n f.0 (map (value env) xs) h
    term_rises m n (Give x) env h = (omega arith, omega arith)
    term_rises m n (CaseTerm x bs) env h = branches_rise m n bs (value env x) env h
    term_rises m n (IfTerm x u v) env h =
        choice_rises (is_true (value env x)) (cost tb call costs m u env) (cost tb call costs n u env) (cost tb call costs m v env) (cost tb call costs n v env) (term_rises m n u env h) (term_rises m n v env h)
    term_rises m n (Tuple tys ss ps) env h = parts_rise m n ps env h

    bind_rises : (m n : ℕ) (b : Bind) (env : Environment) → m ≤ n → IsAtMost (cost_bind tb call costs m b env) (cost_bind tb call costs n b env)
    bind_rises m n (Past x k) env h = (omega arith, omega arith)
    bind_rises m n (One s) env h = both (alike _) (side_rises m n s env h)
    bind_rises m n (Both fork l r) env h =
        both (both (alike _) (side_rises (inside fork m) (inside fork n) l env (more_inside fork m n h))) (both (right_rises fork m n r h) (side_rises (inside fork m) (inside fork n) r env (more_inside fork m n h)))
    bind_rises m n (Prim x f y z) env h = (omega arith, omega arith)
    bind_rises m n (Reach y by) env h = (omega arith, omega arith)

    side_rises : (m n : ℕ) (s : Side) (env : Environment) → m ≤ n → IsAtMost (cost_side tb call costs m s env) (cost_side tb call costs n s env)
    side_rises m n (On kind x ty u) env h = term_rises m n u env h
    side_rises m n (Several xs tys u) env h = term_rises m n u env h

    parts_rise : (m n : ℕ) (ps : PartTerms) (env : Environment) → m ≤ n → IsAtMost (cost_parts tb call costs m ps env) (cost_parts tb call costs n ps env)
    parts_rise m n NoPart env h = (omega arith, omega arith)
    parts_rise m n (PartThen u ps) env h = both (term_rises m n u env h) (with_rises (mean tb call u env) (cost_parts tb call costs m ps env) (cost_parts tb call costs n ps env) (parts_rise m n ps env h))

    branches_rise : (m n : ℕ) (bs : Branches) (v : Datum) (env : Environment) → m ≤ n → IsAtMost (cost_branches tb call costs m bs v env) (cost_branches tb call costs n bs v env)
    branches_rise m n NoBranch v env h = (omega arith, omega arith)
    branches_rise m n (BranchThen k xs u rest) v env h =
        choice_rises (is_made_by (Some k.0) v) (cost tb call costs m u (bind xs (parts v) env)) (cost tb call costs n u (bind xs (parts v) env)) (cost_branches tb call costs m rest v env) (cost_branches tb call costs n rest v env)
        (term_rises m n u (bind xs (parts v) env) h) (branches_rise m n rest v env h)

function_rises : (core : CoreTree) (d m n : ℕ) (vs : List Datum) (h : m ≤ n) → Rises (call_costs core d) → (o : Option FunctionTerm)
    → IsAtMost (cost_of_function o (λ g. cost core.table (core_calls core d) (call_costs core d) m g.body (bind (variables_from 0 g.parameters) vs [])))
    (cost_of_function o (λ g. cost core.table (core_calls core d) (call_costs core d) n g.body (bind (variables_from 0 g.parameters) vs [])))
function_rises core d m n vs h rising None = (omega arith, omega arith)
function_rises core d m n vs h rising (Some g) = term_rises core.table (core_calls core d) (call_costs core d) rising m n g.body (bind (variables_from 0 g.parameters) vs []) h

calls_rise : (core : CoreTree) (d : ℕ) → Rises (call_costs core d)
calls_rise core zero m n f vs h = (omega arith, omega arith)
calls_rise core (suc d) m n f vs h = function_rises core d m n vs h (calls_rise core d) (function_at core.functions f)

pub run_rises : (core : CoreTree) (depth m n : ℕ) (v : Datum) → m ≤ n → IsAtMost (run_cost core depth m v) (run_cost core depth n v)
run_rises core depth m n v h = both (term_rises core.table (core_calls core depth) (call_costs core depth) (calls_rise core depth) m n core.main.body ((0, v) ∷ []) h) (alike _)
