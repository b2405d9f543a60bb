use Rattle.std.proofs.Common.{suc, length, ◌≡◌, sym, ◌∙◌, arith, subst}
use Rattle.gib_syntax.specs.Arena.{Makes, PartsBelow}
use Rattle.gib_mono.proofs.Baring.{BareSoFar, bare_more, bare_none, bare_over, next_below, next_single}
use Rattle.gib_mono.proofs.plain.bare_exprs.Goals as goal

pub nodes-init : goal.nodes-init
nodes-init c = bare_none c.args.exprs c.new-made.result c.into_iter-left.result.rest.items (c.into_iter-left.ensures.rest ∙ c.into_nodes.ensures.nodes)

pub bare_node-requires : goal.bare_node-requires
bare_node-requires c = next_single c.args.exprs c.nodes.number c.nodes.made c.nodes.left.rest.items c.next.new.self.rest.items c.in-Some.node c.into_nodes.ensures.arena c.requires c.nodes.invariant c.in-Some.ensures.cases.0

pub put_next-requires : goal.put_next-requires
put_next-requires c =
    subst (λ n. PartsBelow n (length c.nodes.made)) (sym c.bare_node.ensures)
    (next_below c.args.exprs c.nodes.number c.nodes.made c.nodes.left.rest.items c.next.new.self.rest.items c.in-Some.node c.into_nodes.ensures.arena c.requires c.nodes.invariant c.in-Some.ensures.cases.0)

pub nodes-preserved : goal.nodes-preserved
nodes-preserved c =
    let e : suc c.nodes.number ≡ c.in-Some-checked_add.following = omega (arith, c.in-Some-checked_add.ensures) in
    subst (λ n. BareSoFar c.args.exprs n c.put_next.new.made c.next.new.self.rest.items) e
    (bare_more c.args.exprs c.nodes.number c.nodes.made c.put_next.new.made c.nodes.left.rest.items c.next.new.self.rest.items c.in-Some.node c.into_nodes.ensures.arena c.requires c.nodes.invariant c.in-Some.ensures.cases.0
    (subst (Makes c.nodes.made c.put_next.new.made c.nodes.number) c.bare_node.ensures c.in_ok-put_next.ensures))

pub returns : goal.returns
returns c = bare_over c.args.exprs c.nodes.number c.nodes.made c.nodes.left.rest.items c.nodes.invariant (sym c.nodes.left.rest.ok.0 ∙ c.in_default.ensures.cases.0)
