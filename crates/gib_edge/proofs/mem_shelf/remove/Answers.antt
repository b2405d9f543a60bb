use Rattle.std.proofs.Common.{◌≡◌, ◌∙◌, ap, rules}
use Rattle.std.proofs.lemmas.Fn.{filter_same}
use Rattle.gib_edge.specs.Files.{held, others}
use Rattle.gib_edge.proofs.FileLemmas.{held-left}
use Rattle.gib_edge.proofs.mem_shelf.remove.Goals as goal

pub returns-clause-items : goal.returns-clause-items
returns-clause-items c = filter_same _ _ _ (λ x b f' k. search rules) _ _ c.retain.ensures.filtered

pub returns-clause-left : goal.returns-clause-left
returns-clause-left c =
    let e : c.retain.new.self.items ≡ others c.args.name.now c.args.files.now.items = filter_same _ _ _ (λ x b f' k. search rules) _ _ c.retain.ensures.filtered in
    λ other. ap (λ fs. held fs other) e ∙ held-left c.args.name.now other c.args.files.now.items
