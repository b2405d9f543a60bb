use Rattle.std.proofs.Common.{◌≡◌, List, arith, subst, ap, ◌∙◌}
use Rattle.std.specs.Prelude.{OnOk}
use Rattle.gib_base.specs.declared.token.Token.{Token}
use Rattle.gib_core.specs.Arena.{term_of}
use Rattle.gib_local.specs.Builds.{destination_of}
use Rattle.gib_local_print.specs.LineTokens.{put_branch}
use Rattle.gib_local_print.specs.LocatedText.{given}
use Rattle.gib_local_print.proofs.PutLines.{line_put, all_branches_put}
use Rattle.gib_local_print.proofs.print.+terms.Goals as goal

pub put_term-returns : goal.put_term-returns
put_term-returns t c =
    line_put given c.args.from.now.types.now c.args.from.now.terms.now (destination_of c.args.target.now.destination) _ _ c.args.target.now.at c.args.id.0 c.in_ok-bindings.last.0 c.bindings.i c.in_ok-bindings.bindings.items
    c.deref.result.now c.in_ok-befores.befores.items c.args.out.now c.put_end.new.out c.bindings.out c.in_ok-bindings.ensures (omega (arith, c.bindings-test.false)) c.in_ok-destination.ensures c.deref.ensures.value
    c.in_ok-befores.ensures.each c.in_ok-befores.ensures.behind c.in_ok-put_end.ensures c.bindings.invariant.1

pub put_branches-returns : goal.put_branches-returns
put_branches-returns t c =
    let tb = c.args.from.now.types.now in
    let f = term_of c.args.from.now.terms.now in
    let d = destination_of c.args.target.now.destination in
    let at = c.args.target.now.at in
    let first = c.index-branches-0.result in
    let P : List Token → Type 0 = λ l. OnOk c.put_branch-2.result (c.put_branch-2.new.out ≡ l) in
    subst P
    (ap (λ (l : List Token). put_branch given tb f first d at l) c.branches.invariant.2
    ∙ all_branches_put given tb f c.args.branches.now c.branches.i first d at c.args.out.now c.branches.invariant.0 c.branches.invariant.1 c.branches-test.false c.index-branches-0.is)
    c.put_branch-2.ensures
