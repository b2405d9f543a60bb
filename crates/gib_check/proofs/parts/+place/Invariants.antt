use Rattle.gib_check.proofs.parts.+place.Given as goal

abbrev pub decreases-place : goal.decreases-place
decreases-place l = l.id.0
