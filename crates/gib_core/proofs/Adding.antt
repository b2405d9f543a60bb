-- Costs add up.
use Rattle.std.proofs.Common.{◌≡◌, ℕ, ◌+◌, List, [], ◌∷◌, sym, ap, ◌∙◌, arith}
use Rattle.gib_types.specs.Table.{Table}
use Rattle.gib_syntax.specs.Meaning.{Environment}
use Rattle.gib_core.specs.Tree.{Term, Bind, prepend}
use Rattle.gib_core.specs.Meaning.{Calls, Reached, Went, Halted, and_on, run, run_all}
use Rattle.gib_core.specs.Cost.{Cost, Costs, nothing, plus, cost_from, cost, cost_bind, cost_all}

pub two : (a b c d : ℕ) → a ≡ c → b ≡ d → ◌≡◌ {A = Cost} (record { regions = a; items = b }) (record { regions = c; items = d })
two a b c d e f = ap (λ (x : ℕ). record { regions = x; items = b }) e ∙ ap (λ (x : ℕ). record { regions = c; items = x }) f

pub plus_nothing : (a : Cost) → plus nothing a ≡ a
plus_nothing a = two (0 + a.regions) (0 + a.items) a.regions a.items (omega arith) (omega arith)

pub nothing_plus : (a : Cost) → plus a nothing ≡ a
nothing_plus a = two (a.regions + 0) (a.items + 0) a.regions a.items (omega arith) (omega arith)

pub plus_assoc : (a b c : Cost) → plus (plus a b) c ≡ plus a (plus b c)
plus_assoc a b c = two _ _ _ _ (omega arith) (omega arith)

-- bindings and then a term
pub cost_prepend : (tb : Table) (call : Calls) (costs : Costs) (n : ℕ) (bs : List Bind) (t : Term) (env : Environment)
    → cost tb call costs n (prepend bs t) env ≡ plus (cost_all tb call costs n bs env) (cost_from (run_all tb call bs env) (λ e. cost tb call costs n t e))
cost_prepend tb call costs n [] t env = sym (plus_nothing (cost tb call costs n t env))
cost_prepend tb call costs n (b ∷ bs) t env = go (run tb call b env) (λ e. cost_prepend tb call costs n bs t e)
  where
    go : (r : Reached) → ((e : Environment) → cost tb call costs n (prepend bs t) e ≡ plus (cost_all tb call costs n bs e) (cost_from (run_all tb call bs e) (λ e'. cost tb call costs n t e')))
        → plus (cost_bind tb call costs n b env) (cost_from r (λ e. cost tb call costs n (prepend bs t) e))
        ≡ plus (plus (cost_bind tb call costs n b env) (cost_from r (λ e. cost_all tb call costs n bs e))) (cost_from (and_on r (λ e. run_all tb call bs e)) (λ e. cost tb call costs n t e))
    go (Halted why) h = sym (nothing_plus (plus (cost_bind tb call costs n b env) nothing))
    go (Went e) h = ap (λ (c : Cost). plus (cost_bind tb call costs n b env) c) (h e)
        ∙ sym (plus_assoc (cost_bind tb call costs n b env) (cost_all tb call costs n bs e) (cost_from (run_all tb call bs e) (λ e'. cost tb call costs n t e')))
