use Rattle.std.proofs.Common.{◌≡◌, ◌-◌, ◌+◌, ◌∙◌, ap, sym, arith, take, drop, ℕ}
use Rattle.gib_syntax.specs.Meaning.{value_in, Environment}
use Rattle.gib_plain.specs.Stacks.{env_of}
use Rattle.gib_plain.proofs.Names.{newest-at, found-newest, not-newest}
use Rattle.gib_plain.proofs.stack.newest.Goals as goal

pub returns-then-vars-i-clause-value : goal.returns-then-vars-i-clause-value
returns-then-vars-i-clause-value c = λ heap.
    let vars = c.args.vars.now in
    let i = c.vars.i - 1 in
    let up : i + 1 ≡ c.vars.i = omega arith in
    let at = newest-at heap vars c.args.base i _ (omega arith) (omega (arith, c.vars.invariant.1)) in
    sym (found-newest _ _ _ c.args.name.0 c.if-vars-i.true)
    ∙ ap (λ (env : Environment). value_in env c.args.name.0) (sym at ∙ ap (λ (n : ℕ). env_of heap (drop c.args.base (take n vars))) up)
    ∙ c.vars.invariant.2 heap

pub vars-preserved : goal.vars-preserved
vars-preserved c =
    let vars = c.args.vars.now in
    let i = c.vars.i - 1 in
    let up : i + 1 ≡ c.vars.i = omega arith in (
      omega arith,
      omega (arith, c.vars.invariant.1),
      λ heap.
          let at = newest-at heap vars c.args.base i _ (omega arith) (omega (arith, c.vars.invariant.1)) in
          sym (not-newest _ _ _ c.args.name.0 c.if-vars-i.false)
          ∙ ap (λ (env : Environment). value_in env c.args.name.0) (sym at ∙ ap (λ (n : ℕ). env_of heap (drop c.args.base (take n vars))) up)
          ∙ c.vars.invariant.2 heap,
    )
