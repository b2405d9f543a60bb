use Rattle.std.proofs.Common.{ℕ, ◌-◌, reverse, sym, subst, arith}
use Rattle.gib_mem.specs.Memory.{Memory}
use Rattle.gib_packed.specs.Decoding.{Dec}
use Rattle.gib_packed.specs.Reaching.{Leads}
use Rattle.gib_packed.proofs.SpanLemmas.{Dec-known}
use Rattle.gib_packed.proofs.WalkLemmas.{known_below}
use Rattle.gib_compact.specs.Left.{Left}
use Rattle.gib_compact.proofs.LeftLemmas.{next_value, ends_behind, leads_tag}
use Rattle.gib_compact.proofs.walk.find.Goals as goal

pub returns-then-head-place-clause-found : goal.returns-then-head-place-clause-found
returns-then-head-place-clause-found g c = λ laid rest l.
    let r = next_value c.requires.due l in
    let d = c.pass_redirects-place.ensures.value laid r.t r.v r.end r.stands in
    let s = (g.M.Mem.view c.args.mem.now).cells in
    record {
      t = r.t;
      v = r.v;
      end = r.end;
      later = r.later;
      value = subst (λ (x : ℕ). Dec laid s x r.t r.v r.end) (sym c.if-head-place.true) d;
      left = r.left;
      whole = r.whole;
    }

pub returns-then-head-place-clause-tag : goal.returns-then-head-place-clause-tag
returns-then-head-place-clause-tag g c =
    leads_tag (subst (λ (m : Memory). Leads m.cells c.pass_redirects-place.result c.follow-head.result) c.pass_redirects-place.ensures.same c.follow-head.ensures.leads)

pub overflow_add-place : goal.overflow_add-place
overflow_add-place g c =
    let d = c.pass_redirects-place.ensures.value _ _ _ _ c.requires.value.1.3 in
    let known = Dec-known d in
    let below = (known_below (g.M.Mem.view c.args.mem.now) (g.met.M.Mem.bounded c.args.mem.now)).below c.pass_redirects-place.result known.0 known.1 in
    omega (arith, below)

pub returns-clause-found : goal.returns-clause-found
returns-clause-found g c = λ laid rest l.
    let r = next_value c.requires.due l in
    let same = c.pass_redirects-place.ensures.same in
    let d = c.pass_redirects-place.ensures.value laid r.t r.v r.end r.stands in
    let f = c.follow-head.ensures.value laid r.t r.v r.end (subst (λ (m : Memory). Dec laid m.cells c.pass_redirects-place.result r.t r.v r.end) (sym same) d) in
    let leads = subst (λ (m : Memory). Leads m.cells c.pass_redirects-place.result c.follow-head.result) same c.follow-head.ensures.leads in
    let stop = ends_behind c.pass_redirects-place.ensures.past leads c.if-head-place.false d in
    let s = (g.M.Mem.view c.args.mem.now).cells in
    record {
      t = r.t;
      v = r.v;
      end = f.0;
      later = r.later;
      value = subst (λ (m : Memory). Dec laid m.cells c.follow-head.result r.t r.v f.0) same f.1;
      left = c.in_ok-leave.ensures.left laid s f.0 r.later (subst (λ (x : ℕ). Left laid s x (c.args.walk.now.due - 1) (reverse c.args.walk.now.back.items) r.later) stop r.left);
      whole = r.whole;
    }

pub returns-clause-tag : goal.returns-clause-tag
returns-clause-tag g c =
    leads_tag (subst (λ (m : Memory). Leads m.cells c.pass_redirects-place.result c.follow-head.result) c.pass_redirects-place.ensures.same c.follow-head.ensures.leads)
