use Rattle.std.proofs.Common.{◌++◌}
use Rattle.gib_core.specs.CoreText.{indent}
use Rattle.gib_core.proofs.Indented.{indent_written}
use Rattle.gib_core.proofs.text.push_indent.Goals as goal

pub levels-preserved : goal.levels-preserved
levels-preserved c = indent_written c.levels.out.items c.extend_from_slice.new.self.items (c.args.out.now.items ++ indent c.args.level) c.levels.left c.levels-test.true c.in_ok-extend_from_slice.ensures.items c.levels.invariant
