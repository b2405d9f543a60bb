use Rattle.std.proofs.Common.{◌+◌, ◌<◌, ◌^◌, ℕ, ap, sym, ◌∙◌, subst, arith}
use Rattle.gib_mem.specs.Memory.{Memory, Holds}
use Rattle.gib_packed.specs.Head.{address}
use Rattle.gib_packed.specs.Decoding.{Dec}
use Rattle.gib_packed.specs.Reaching.{Leads, here, on}
use Rattle.gib_packed.proofs.Steps.{hops}
use Rattle.gib_packed.proofs.HoldsLemmas.{Holds-rest}
use Rattle.gib_packed.proofs.WalkLemmas.{known_below}
use Rattle.gib_packed.proofs.FollowLemmas.{ReachesWithin, Dec-reaches, hop_within, Dec-hop, Reaches-known}
use Rattle.gib_packed.proofs.read.follow.Goals as goal

pub get-tag-requires : goal.get-tag-requires
get-tag-requires g c =
    Reaches-known (Dec-reaches (known_below (g.M.Mem.view c.args.mem.now) (g.met.M.Mem.bounded c.args.mem.now)) c.requires.1.3)

pub hops-init : goal.hops-init
hops-init g c = record {
  same = c.get-tag.ensures.same;
  tagged = c.get-tag.ensures.value;
  reaches = Dec-reaches (known_below (g.M.Mem.view c.args.mem.now) (g.met.M.Mem.bounded c.args.mem.now)) c.requires.1.3;
  leads = λ h l. l;
  stands = λ laid t v z d. (z, d);
}

pub word_at-place-requires : goal.word_at-place-requires
word_at-place-requires g c =
    let r = hop_within _ c.hops.invariant.reaches c.hops.invariant.tagged (omega arith) in
    (r.target, r.points.fits, subst (λ (m : Memory). Holds m.cells (c.hops.place + 1) (address r.target)) (sym c.hops.invariant.same) (Holds-rest r.points.bytes))

pub get-tag-requires-in-hops : goal.get-tag-requires-in-hops
get-tag-requires-in-hops g c =
    let r = hop_within _ c.hops.invariant.reaches c.hops.invariant.tagged (omega arith) in
    let is = c.word_at-place.ensures.value r.target r.points.fits (subst (λ (m : Memory). Holds m.cells (c.hops.place + 1) (address r.target)) (sym c.hops.invariant.same) (Holds-rest r.points.bytes)) in
    let s = (g.M.Mem.view c.args.mem.now).cells in
    let reaches = subst (λ (x : ℕ). ReachesWithin s (2 ^ 44) x) (sym is) r.reaches in
    let k = Reaches-known reaches in
    (k.0, ap (λ (m : Memory). m.cells c.word_at-place.result) (c.word_at-place.ensures.same ∙ c.hops.invariant.same) ∙ k.1)

pub hops-preserved : goal.hops-preserved
hops-preserved g c =
    let r = hop_within _ c.hops.invariant.reaches c.hops.invariant.tagged (omega arith) in
    let is = c.word_at-place.ensures.value r.target r.points.fits (subst (λ (m : Memory). Holds m.cells (c.hops.place + 1) (address r.target)) (sym c.hops.invariant.same) (Holds-rest r.points.bytes)) in
    let s = (g.M.Mem.view c.args.mem.now).cells in
    record {
      same = c.get-tag-in-hops.ensures.same ∙ c.word_at-place.ensures.same ∙ c.hops.invariant.same;
      tagged = sym (ap (λ (m : Memory). m.cells c.word_at-place.result) (c.word_at-place.ensures.same ∙ c.hops.invariant.same)) ∙ c.get-tag-in-hops.ensures.value;
      reaches = subst (λ (x : ℕ). ReachesWithin s (2 ^ 44) x) (sym is) r.reaches;
      leads = λ h l. c.hops.invariant.leads h (on r.points (omega arith) (subst (λ (x : ℕ). Leads s x h) is l));
      stands = λ laid t v z d.
          let q = c.hops.invariant.stands laid t v z d in
          let p = Dec-hop _ q.1 r.points (omega arith) in
          (p.0, subst (λ (x : ℕ). Dec laid s x t v p.0) (sym is) p.1);
    }

pub hops-smaller : goal.hops-smaller
hops-smaller g c =
    let r = hop_within _ c.hops.invariant.reaches c.hops.invariant.tagged (omega arith) in
    let is = c.word_at-place.ensures.value r.target r.points.fits (subst (λ (m : Memory). Holds m.cells (c.hops.place + 1) (address r.target)) (sym c.hops.invariant.same) (Holds-rest r.points.bytes)) in
    let s = (g.M.Mem.view c.args.mem.now).cells in
    subst (λ (x : ℕ). hops (2 ^ 44) s x < hops (2 ^ 44) s c.hops.place) (sym is) r.fewer

pub returns-clause-leads : goal.returns-clause-leads
returns-clause-leads g c = c.hops.invariant.leads _ (here c.hops.invariant.tagged (omega arith))

pub returns-clause-value : goal.returns-clause-value
returns-clause-value g c = λ laid t v z d. c.hops.invariant.stands laid t v z d
