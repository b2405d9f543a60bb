use Rattle.std.proofs.Common.{rules, ◌≡◌, ◌∷◌, refl, sym, ap, ◌∙◌, subst, length, arith}
use Rattle.std.proofs.lemmas.Result.{err_from_is_err_and}
use Rattle.gib_base.specs.declared.token.Sign.{Sign}
use Rattle.gib_base.specs.declared.token.Token.TheVariants as token
use Rattle.gib_local_parse.specs.Sources.{places_at}
use Rattle.gib_reads.specs.Readers.{Read, then_at}
use Rattle.gib_reads.specs.Answers.{Gives}
use Rattle.gib_reads.proofs.Tools.{done}
use Rattle.gib_local_parse.specs.Tree.{Line, In, Cased, Chosen, Binding, LetIn, ParIn, Bound, Be}
use Rattle.gib_local_parse.specs.LineArena.{binding_from, side_from, tree_of}
use Rattle.gib_local_parse.specs.ReadingTerms.{arm_text, arms_text}
use Rattle.gib_local_parse.specs.Grammar.{binding_at, case_at, if_at, in_at, parse}
use Rattle.gib_local_parse.proofs.ArmLoops.{grows_none, grows_more, arms_more, arms_done, first_arm_fails, arms_fail, arms_shorter, case_is}
use Rattle.gib_local_parse.proofs.Calls.{arm_done, bound_done, case_done, if_done, line_done, one_is, par_done, plain_stands, binding_below, binding_stays}
use Rattle.gib_local_parse.proofs.terms.+terms.Goals as goal

pub arms-returns-in_err-first-clause-read : goal.arms-returns-in_err-first-clause-read
arms-returns-in_err-first-clause-read t c =
    let p = err_from_is_err_and c.from_residual.result c.from_residual.ensures.1 in
    rw (p.1, p.2)
    (first_arm_fails (places_at c.args.depth.now) c.args.depth.now.level c.args.tokens.now c.in_err-first.field-0.0 c.in_err-first.ensures.read)

pub arms-returns-in_err-next-clause-read : goal.arms-returns-in_err-next-clause-read
arms-returns-in_err-next-clause-read t c =
    let p = err_from_is_err_and c.from_residual-in_err-next.result c.from_residual-in_err-next.ensures.1 in
    rw (p.1, p.2)
    (arms_fail c.args.lines.now c.arms.lines (places_at c.args.depth.now) c.args.depth.now.level c.args.tokens.now c.arms.rest.now c.arms.arms.items c.in_err-next.field-0.0 c.arms.invariant (sym c.begins.ensures ∙ c.arms-test.true) c.in_err-next.ensures.read)

pub arms-arms-smaller : goal.arms-arms-smaller
arms-arms-smaller t c =
    arms_shorter (places_at c.args.depth.now) c.args.depth.now.level c.arms.rest.now c.in_ok-next.after.now (arm_text (tree_of c.next_arm.new.lines) c.in_ok-next.next) c.in_ok-next.ensures.read

pub arms-arms-preserved : goal.arms-arms-preserved
arms-arms-preserved t c =
    rw c.in_ok-push-2.ensures.items
    (arms_more c.args.lines.now c.arms.lines c.next_arm.new.lines (places_at c.args.depth.now) c.args.depth.now.level c.args.tokens.now c.arms.rest.now c.in_ok-next.after.now c.arms.arms.items c.in_ok-next.next c.arms.invariant (sym c.begins.ensures ∙ c.arms-test.true) c.in_ok-next.ensures.kept.grows c.in_ok-next.ensures.kept.inside c.in_ok-next.ensures.read)

pub arms-returns-clause-read : goal.arms-returns-clause-read
arms-returns-clause-read t c =
    arms_done c.args.lines.now c.arms.lines (places_at c.args.depth.now) c.args.depth.now.level c.args.tokens.now c.arms.rest.now c.arms.arms.items c.arms.invariant (sym c.begins.ensures ∙ c.arms-test.false)

pub case_of-returns-clause-kept : goal.case_of-returns-clause-kept
case_of-returns-clause-kept t c =
    let made = c.in_ok-id.ensures.made in
    record { grows = grows_more c.args.lines.now c.arms.new.lines c.put.new.self c.in_ok-arms.ensures.kept.grows made.grows; inside = made.inside }

pub if_then-returns-clause-kept : goal.if_then-returns-clause-kept
if_then-returns-clause-kept t c =
    let made = c.in_ok-id.ensures.made in
    let first = grows_more c.args.lines.now c.term.new.lines c.term-2.new.lines c.in_ok-then_part.ensures.kept.grows c.in_ok-else_part.ensures.kept.grows in
    record { grows = grows_more c.args.lines.now c.term-2.new.lines c.put.new.self first made.grows; inside = made.inside }

pub line-returns-clause-kept : goal.line-returns-clause-kept
line-returns-clause-kept t c =
    let made = c.in_ok-id.ensures.made in
    let both = grows_more c.args.lines.now c.binding.new.lines c.term.new.lines c.in_ok-binding.ensures.kept.grows c.in_ok-rest.ensures.kept.grows in
    record { grows = grows_more c.args.lines.now c.term.new.lines c.put.new.self both made.grows; inside = made.inside }

pub case_of-returns-clause-read : goal.case_of-returns-clause-read
case_of-returns-clause-read t c =
    let at = places_at c.args.depth.now in
    let sub = parse at c.args.depth.now.level in
    let span = at (length c.args.tokens.now) in
    let mid = c.arms.new.lines in
    let arms = c.in_ok-arms.arms.items in
    let x = c.in_ok-variable.variable in
    ap (λ (z : Read (Unit {0})). then_at z (λ _ rest. case_at at sub span rest)) c.in_ok-tokens.ensures
    ∙ case_done at sub span c.in_ok-tokens.tokens.now c.in_ok-variable.tokens.now c.in_ok-tokens-2.tokens.now c.in_ok-tokens-3.tokens.now c.in_ok-arms.tokens.now c.in_ok-tokens-4.tokens.now x (arms_text (tree_of mid) arms)
    c.in_ok-variable.ensures c.in_ok-tokens-2.ensures c.in_ok-tokens-3.ensures c.in_ok-arms.ensures.read c.in_ok-tokens-4.ensures
    ∙ ap (λ (u : Line). done u c.in_ok-tokens-4.tokens.now) (sym (c.in_ok-id.ensures.made.tree ∙ case_is (tree_of mid) arms (length mid) (Cased c.span_at-span.result x) c.in_ok-arms.ensures.kept.inside ∙ (λ i. Cased (c.span_at-span.ensures i) x (arms_text (tree_of mid) arms))))

pub line-put-requires : goal.line-put-requires
line-put-requires t c =
    let rest = c.in_ok-rest.ensures.kept in
    (binding_below c.in_ok-binding.binding (length c.binding.new.lines) (length c.term.new.lines) rest.grows.longer c.in_ok-binding.ensures.kept.inside, rest.inside)

pub line-returns-clause-read : goal.line-returns-clause-read
line-returns-clause-read t c =
    let at = places_at c.args.depth.now in
    let old = c.binding.new.lines in
    let mid = c.term.new.lines in
    let kept = c.in_ok-rest.ensures.kept in
    let span = at (length c.args.tokens.now) in
    let u = tree_of mid c.in_ok-rest.rest.0 in
    let b = binding_from (tree_of old) c.in_ok-binding.binding in
    ap (in_at (parse at c.args.depth.now.level) span) c.in_ok-binding.ensures.read
    ∙ line_done (parse at c.args.depth.now.level) span b u c.in_ok-binding.tokens.now c.in_ok-tokens.tokens.now c.in_ok-rest.tokens.now c.in_ok-tokens.ensures c.in_ok-rest.ensures.read
    ∙ ap (λ (u : Line). done u c.in_ok-rest.tokens.now) (sym (c.in_ok-id.ensures.made.tree ∙ (λ i. In (c.span_at-span.ensures i) (binding_stays old mid c.in_ok-binding.binding kept.grows c.in_ok-binding.ensures.kept.inside i) u)))

pub let_one-returns-in-Some-clause-kept : goal.let_one-returns-in-Some-clause-kept
let_one-returns-in-Some-clause-kept t c = plain_stands c.args.lines.now c.operation.result (grows_none c.args.lines.now) c.operation.ensures.below

pub let_one-returns-in-Some-clause-read : goal.let_one-returns-in-Some-clause-read
let_one-returns-in-Some-clause-read t c =
    let at = places_at c.args.depth.now in
    let sub = parse at c.args.depth.now.level in
    let x = c.in_ok-name.name in
    let w = c.in_ok-ty.ty in
    let read = one_is at sub c.args.tokens.now c.in_ok-name.tokens.now c.in_ok-tokens.tokens.now c.in_ok-ty.tokens.now x w c.in_ok-name.ensures c.in_ok-tokens.ensures c.in_ok-ty.ensures ∙ c.in-Some.ensures at sub x w in
    subst (λ (r : Read Binding). Gives (λ x. (binding_from (tree_of c.args.lines.now) x.0, x.1.now)) c.operation.result r) (sym read) (c.operation.ensures.read (tree_of c.args.lines.now))

pub binding_by-returns-in-LetRegion-clause-kept : goal.binding_by-returns-in-LetRegion-clause-kept
binding_by-returns-in-LetRegion-clause-kept t c = plain_stands c.args.lines.now c.new_region.result (grows_none c.args.lines.now) c.new_region.ensures.below

pub binding_by-returns-in-LetRegion-clause-read : goal.binding_by-returns-in-LetRegion-clause-read
binding_by-returns-in-LetRegion-clause-read t c =
    subst (λ (sign : Sign). Gives (λ x. (binding_from (tree_of c.args.lines.now) x.0, x.1.now)) c.new_region.result (binding_at (places_at c.args.depth.now) (parse (places_at c.args.depth.now) c.args.depth.now.level) (token.Sign sign ∷ c.args.tokens.now)))
    (sym c.in-LetRegion.is) (c.new_region.ensures.read (tree_of c.args.lines.now))

pub binding_by-returns-in-LetLocation-clause-kept : goal.binding_by-returns-in-LetLocation-clause-kept
binding_by-returns-in-LetLocation-clause-kept t c = plain_stands c.args.lines.now c.new_place.result (grows_none c.args.lines.now) c.new_place.ensures.below

pub binding_by-returns-in-LetLocation-clause-read : goal.binding_by-returns-in-LetLocation-clause-read
binding_by-returns-in-LetLocation-clause-read t c =
    subst (λ (sign : Sign). Gives (λ x. (binding_from (tree_of c.args.lines.now) x.0, x.1.now)) c.new_place.result (binding_at (places_at c.args.depth.now) (parse (places_at c.args.depth.now) c.args.depth.now.level) (token.Sign sign ∷ c.args.tokens.now)))
    (sym c.in-LetLocation.is) (c.new_place.ensures.read (tree_of c.args.lines.now))

pub binding_by-returns-in-Reach-clause-kept : goal.binding_by-returns-in-Reach-clause-kept
binding_by-returns-in-Reach-clause-kept t c = plain_stands c.args.lines.now c.reach.result (grows_none c.args.lines.now) c.reach.ensures.below

pub binding_by-returns-in-Reach-clause-read : goal.binding_by-returns-in-Reach-clause-read
binding_by-returns-in-Reach-clause-read t c =
    subst (λ (sign : Sign). Gives (λ x. (binding_from (tree_of c.args.lines.now) x.0, x.1.now)) c.reach.result (binding_at (places_at c.args.depth.now) (parse (places_at c.args.depth.now) c.args.depth.now.level) (token.Sign sign ∷ c.args.tokens.now)))
    (sym c.in-Reach.is) (c.reach.ensures.read (tree_of c.args.lines.now))

pub binding_by-returns-in-Let-clause-read : goal.binding_by-returns-in-Let-clause-read
binding_by-returns-in-Let-clause-read t c =
    subst (λ (sign : Sign). Gives (λ x. (binding_from (tree_of c.let_in.new.lines) x.0, x.1.now)) c.let_in.result (binding_at (places_at c.args.depth.now) (parse (places_at c.args.depth.now) c.args.depth.now.level) (token.Sign sign ∷ c.args.tokens.now)))
    (sym c.in-Let.is) c.let_in.ensures.read

pub let_one-returns-in_ok-side-in-None-clause-kept : goal.let_one-returns-in_ok-side-in-None-clause-kept
let_one-returns-in_ok-side-in-None-clause-kept t c = record { grows = c.in_ok-side-in-None.ensures.kept.grows; inside = c.in_ok-side-in-None.ensures.kept.inside }

pub let_one-returns-in_ok-side-in-None-clause-read : goal.let_one-returns-in_ok-side-in-None-clause-read
let_one-returns-in_ok-side-in-None-clause-read t c =
    let at = places_at c.args.depth.now in
    let sub = parse at c.args.depth.now.level in
    let x = c.in_ok-name.name in
    let w = c.in_ok-ty.ty in
    one_is at sub c.args.tokens.now c.in_ok-name.tokens.now c.in_ok-tokens.tokens.now c.in_ok-ty.tokens.now x w c.in_ok-name.ensures c.in_ok-tokens.ensures c.in_ok-ty.ensures
    ∙ c.in-None.ensures at sub x w
    ∙ ap (λ (r : Read Bound). then_at r (λ b rest. done (LetIn b) rest)) c.in_ok-side-in-None.ensures.read

pub side_rest-returns-clause-kept : goal.side_rest-returns-clause-kept
side_rest-returns-clause-kept t c = c.in_ok-line.ensures.kept

pub side_rest-returns-clause-read : goal.side_rest-returns-clause-read
side_rest-returns-clause-read t c =
    let at = places_at c.args.depth.now in
    let sub = parse at c.args.depth.now.level in
    bound_done at sub c.args.typed.name c.args.typed.ty c.args.tokens.now c.in_ok-mark.tokens.now c.in_ok-tokens.tokens.now c.in_ok-line.tokens.now c.in_ok-mark.mark (tree_of c.term.new.lines c.in_ok-line.line.0)
    c.in_ok-mark.ensures c.in_ok-tokens.ensures c.in_ok-line.ensures.read

pub let_par-returns-clause-kept : goal.let_par-returns-clause-kept
let_par-returns-clause-kept t c =
    let left = c.in_ok-left.ensures.kept in
    let right = c.in_ok-right.ensures.kept in
    let low = left.inside in
    let longer = right.grows.longer in
    record { grows = grows_more c.args.lines.now c.side.new.lines c.side-2.new.lines left.grows right.grows; inside = (omega (arith, low, longer), right.inside) }

pub let_par-returns-clause-read : goal.let_par-returns-clause-read
let_par-returns-clause-read t c =
    let at = places_at c.args.depth.now in
    let sub = parse at c.args.depth.now.level in
    let l = c.in_ok-left.left in
    let left = side_from (tree_of c.side.new.lines) l in
    let right = side_from (tree_of c.side-2.new.lines) c.in_ok-right.right in
    let names = c.in_ok-names.names in
    par_done at sub c.args.tokens.now c.in_ok-left.tokens.now c.in_ok-tokens.tokens.now c.in_ok-names.tokens.now c.in_ok-right.tokens.now left right names
    c.in_ok-left.ensures.read c.in_ok-tokens.ensures c.in_ok-names.ensures c.in_ok-right.ensures.read
    ∙ ap (λ (u : Line). done (ParIn (Be l.name l.ty l.mark u) names right) c.in_ok-right.tokens.now) (sym (c.in_ok-right.ensures.kept.grows.same l.line.0 c.in_ok-left.ensures.kept.inside))

pub arm-returns-clause-kept : goal.arm-returns-clause-kept
arm-returns-clause-kept t c = c.in_ok-line.ensures.kept

pub arm-returns-clause-read : goal.arm-returns-clause-read
arm-returns-clause-read t c =
    let at = places_at c.args.depth.now in
    let sub = parse at c.args.depth.now.level in
    arm_done at sub c.args.tokens.now c.in_ok-constructor.tokens.now c.in_ok-variables.tokens.now c.in_ok-tokens.tokens.now c.in_ok-line.tokens.now c.in_ok-constructor.constructor c.in_ok-variables.variables.items (tree_of c.term.new.lines c.in_ok-line.line.0)
    c.in_ok-constructor.ensures c.in_ok-variables.ensures c.in_ok-tokens.ensures c.in_ok-line.ensures.read

pub case_of-put-requires : goal.case_of-put-requires
case_of-put-requires t c = c.in_ok-arms.ensures.kept.inside

pub if_then-put-requires : goal.if_then-put-requires
if_then-put-requires t c =
    let first = c.in_ok-then_part.ensures.kept.inside in
    let longer = c.in_ok-else_part.ensures.kept.grows.longer in
    (omega (arith, first, longer), c.in_ok-else_part.ensures.kept.inside)

pub if_then-returns-clause-read : goal.if_then-returns-clause-read
if_then-returns-clause-read t c =
    let at = places_at c.args.depth.now in
    let sub = parse at c.args.depth.now.level in
    let span = at (length c.args.tokens.now) in
    let x = c.in_ok-condition.condition in
    let first = c.in_ok-then_part.then_part.0 in
    let second = c.in_ok-else_part.else_part.0 in
    let mid = c.term.new.lines in
    let last = c.term-2.new.lines in
    ap (λ (z : Read (Unit {0})). then_at z (λ _ rest. if_at at sub span rest)) c.in_ok-tokens.ensures
    ∙ if_done at sub span c.in_ok-tokens.tokens.now c.in_ok-condition.tokens.now c.in_ok-tokens-2.tokens.now c.in_ok-then_part.tokens.now c.in_ok-tokens-3.tokens.now c.in_ok-else_part.tokens.now x (tree_of mid first) (tree_of last second)
    c.in_ok-condition.ensures c.in_ok-tokens-2.ensures c.in_ok-then_part.ensures.read c.in_ok-tokens-3.ensures c.in_ok-else_part.ensures.read
    ∙ ap (λ (u : Line). done u c.in_ok-else_part.tokens.now) (sym (c.in_ok-id.ensures.made.tree ∙ (λ i. Chosen (c.span_at-span.ensures i) x (c.in_ok-else_part.ensures.kept.grows.same first c.in_ok-then_part.ensures.kept.inside i) (tree_of last second))))
