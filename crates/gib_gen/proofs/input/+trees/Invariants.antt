use Rattle.gib_gen.proofs.input.+trees.Given as goal

abbrev pub decreases-push_tree : goal.decreases-push_tree
decreases-push_tree l = l.levels
