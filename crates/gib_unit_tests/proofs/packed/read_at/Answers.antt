use Rattle.std.proofs.Common.{subst, sym, ◌∙◌}
use Rattle.gib_mem.specs.Memory.{Memory}
use Rattle.gib_types.specs.Layout.{LaidOut}
use Rattle.gib_packed.specs.Decoding.{Decodes}
use Rattle.gib_packed.specs.Example.{laid}
use Rattle.gib_unit_tests.proofs.packed.read_at.Goals as goal

pub tag_at-tag-requires : goal.tag_at-tag-requires
tag_at-tag-requires g c = (laid, c.requires.place _ c.requires.bytes)

pub pass_redirects-place-requires : goal.pass_redirects-place-requires
pass_redirects-place-requires g c = (laid, subst (λ (m : Memory). Decodes laid m.cells c.args.at) (sym c.tag_at-tag.ensures.same) (c.requires.place _ c.requires.bytes))

pub follow-head-requires : goal.follow-head-requires
follow-head-requires g c = (laid, subst (λ (m : Memory). Decodes laid m.cells c.args.at) (sym (c.pass_redirects-place.ensures.same ∙ c.tag_at-tag.ensures.same)) (c.requires.place _ c.requires.bytes))

pub skip-end-requires : goal.skip-end-requires
skip-end-requires g c =
    let here = subst (λ (m : Memory). Decodes laid m.cells c.args.at) (sym (c.follow-head.ensures.same ∙ c.pass_redirects-place.ensures.same ∙ c.tag_at-tag.ensures.same)) (c.requires.place _ c.requires.bytes) in
    subst (λ (l : LaidOut). Decodes l (g.M.Mem.view c.follow-head.new.mem).cells c.args.at) (sym c.requires.laid) here
