use Rattle.std.proofs.Common.{◌≡◌, ◌+◌, ◌<◌, ◌^◌, ℕ, ap, sym, ◌∙◌, subst, arith}
use Rattle.gib_mem.specs.Memory.{Memory, Store, Holds}
use Rattle.gib_packed.specs.Head.{address}
use Rattle.gib_packed.specs.Decoding.{Dec, Points}
use Rattle.gib_packed.specs.Reaching.{Turns, there, turn}
use Rattle.gib_packed.proofs.Steps.{hops}
use Rattle.gib_packed.proofs.HoldsLemmas.{Holds-rest, same_byte}
use Rattle.gib_packed.proofs.WalkLemmas.{known_below}
use Rattle.gib_packed.proofs.FollowLemmas.{ReachesWithin, Dec-reaches, hop_within, Dec-redirect, Reaches-known}
use Rattle.gib_packed.proofs.read.pass_redirects.Goals as goal

points : {s : Store} {a tag b : ℕ} → tag ≡ 255 → Points s a tag b → Points s a 255 b
points {s = s} {a = a} {b = b} e p = subst (λ (x : ℕ). Points s a x b) e p

pub get-tag-requires : goal.get-tag-requires
get-tag-requires g c =
    Reaches-known (Dec-reaches (known_below (g.M.Mem.view c.args.mem.now) (g.met.M.Mem.bounded c.args.mem.now)) c.requires.1.3)

pub redirects-init : goal.redirects-init
redirects-init g c = record {
  same = c.get-tag.ensures.same;
  tagged = c.get-tag.ensures.value;
  reaches = Dec-reaches (known_below (g.M.Mem.view c.args.mem.now) (g.met.M.Mem.bounded c.args.mem.now)) c.requires.1.3;
  leads = λ h l. l;
  stands = λ laid t v z d. d;
}

pub word_at-place-requires : goal.word_at-place-requires
word_at-place-requires g c =
    let r = hop_within _ c.redirects.invariant.reaches c.redirects.invariant.tagged (omega arith) in
    (r.target, r.points.fits, subst (λ (m : Memory). Holds m.cells (c.redirects.place + 1) (address r.target)) (sym c.redirects.invariant.same) (Holds-rest r.points.bytes))

pub get-tag-requires-in-redirects : goal.get-tag-requires-in-redirects
get-tag-requires-in-redirects g c =
    let r = hop_within _ c.redirects.invariant.reaches c.redirects.invariant.tagged (omega arith) in
    let is = c.word_at-place.ensures.value r.target r.points.fits (subst (λ (m : Memory). Holds m.cells (c.redirects.place + 1) (address r.target)) (sym c.redirects.invariant.same) (Holds-rest r.points.bytes)) in
    let s = (g.M.Mem.view c.args.mem.now).cells in
    let reaches = subst (λ (x : ℕ). ReachesWithin s (2 ^ 44) x) (sym is) r.reaches in
    let k = Reaches-known reaches in
    (k.0, ap (λ (m : Memory). m.cells c.word_at-place.result) (c.word_at-place.ensures.same ∙ c.redirects.invariant.same) ∙ k.1)

pub redirects-preserved : goal.redirects-preserved
redirects-preserved g c =
    let r = hop_within _ c.redirects.invariant.reaches c.redirects.invariant.tagged (omega arith) in
    let is = c.word_at-place.ensures.value r.target r.points.fits (subst (λ (m : Memory). Holds m.cells (c.redirects.place + 1) (address r.target)) (sym c.redirects.invariant.same) (Holds-rest r.points.bytes)) in
    let s = (g.M.Mem.view c.args.mem.now).cells in
    record {
      same = c.get-tag-in-redirects.ensures.same ∙ c.word_at-place.ensures.same ∙ c.redirects.invariant.same;
      tagged = sym (ap (λ (m : Memory). m.cells c.word_at-place.result) (c.word_at-place.ensures.same ∙ c.redirects.invariant.same)) ∙ c.get-tag-in-redirects.ensures.value;
      reaches = subst (λ (x : ℕ). ReachesWithin s (2 ^ 44) x) (sym is) r.reaches;
      leads = λ h l. c.redirects.invariant.leads h (turn (points c.redirects-test.true r.points) (subst (λ (x : ℕ). Turns s x h) is l));
      stands = λ laid t v z d. subst (λ (x : ℕ). Dec laid s x t v z) (sym is) (Dec-redirect (c.redirects.invariant.stands laid t v z d) (points c.redirects-test.true r.points));
    }

pub redirects-smaller : goal.redirects-smaller
redirects-smaller g c =
    let r = hop_within _ c.redirects.invariant.reaches c.redirects.invariant.tagged (omega arith) in
    let is = c.word_at-place.ensures.value r.target r.points.fits (subst (λ (m : Memory). Holds m.cells (c.redirects.place + 1) (address r.target)) (sym c.redirects.invariant.same) (Holds-rest r.points.bytes)) in
    let s = (g.M.Mem.view c.args.mem.now).cells in
    subst (λ (x : ℕ). hops (2 ^ 44) s x < hops (2 ^ 44) s c.redirects.place) (sym is) r.fewer

pub returns-clause-turns : goal.returns-clause-turns
returns-clause-turns g c = c.redirects.invariant.leads _ there

pub returns-clause-past : goal.returns-clause-past
returns-clause-past g c = λ e. c.redirects-test.false (same_byte (g.M.Mem.view c.args.mem.now).cells c.redirects.place _ _ c.redirects.invariant.tagged e)

pub returns-clause-value : goal.returns-clause-value
returns-clause-value g c = λ laid t v z d. c.redirects.invariant.stands laid t v z d
