use Rattle.std.proofs.Common.{length, subst}
use Rattle.gib_types.specs.Types.{forms_at}
use Rattle.gib_syntax.specs.Forms.{assign, formed}
use Rattle.gib_syntax.specs.Words.{first_type, stack_of}
use Rattle.gib_mono.specs.Made.{Meets}
use Rattle.gib_mono.specs.Scenes.{forms}
use Rattle.gib_mono.proofs.Meeting.{parts_start, parts_next, parts_end}
use Rattle.gib_mono.proofs.Read.{forms_grow}
use Rattle.gib_mono.proofs.Walking.{empty_is, split_is}
use Rattle.gib_mono.proofs.copier.Copier.meet_all_at.Goals as goal
use Rattle.gib_check.proofs.Growing.{below_more}

pub runs-init : goal.runs-init
runs-init c = parts_start c.args.source.now.exprs.words (assign c.args.variables.now (forms_at (forms c.args.self.now.scene) c.args.types.now)) c.args.self.now c.new-ids.result.items c.args.runs.now c.new-ids.ensures.items

pub meet_at-requires : goal.meet_at-requires
meet_at-requires c = below_more (length c.args.self.now.scene.types) (length c.runs.self.scene.types) c.args.types.now c.runs.invariant.stays.keeps.longer c.requires

pub runs-preserved : goal.runs-preserved
runs-preserved c =
    parts_next c.args.source.now.exprs.words (assign c.args.variables.now (forms_at (forms c.args.self.now.scene) c.args.types.now)) c.args.self.now c.runs.self c.meet_at.new.self c.runs.ids.items c.push.new.self.items c.runs.rest.now _ c.args.runs.now _ c.words.result.now c.in_ok-id.id
    (split_is c.runs.rest.now _ c.in-len1-up.len_at_least) c.words.ensures c.runs.invariant
    (subst (λ ts. Meets c.runs.self c.meet_at.new.self c.in_ok-id.id (formed (assign c.args.variables.now ts) (first_type (stack_of c.words.result.now)))) (forms_grow c.args.self.now.scene.types c.runs.self.scene.types c.args.types.now c.runs.invariant.stays.keeps.grows c.requires) c.in_ok-id.ensures)
    c.in_ok-push.ensures.items

pub returns : goal.returns
returns c =
    parts_end c.args.source.now.exprs.words (assign c.args.variables.now (forms_at (forms c.args.self.now.scene) c.args.types.now)) c.args.self.now c.runs.self c.runs.ids.items c.runs.rest.now c.args.runs.now (empty_is c.runs.rest.now c.in_default.len_below) c.runs.invariant
