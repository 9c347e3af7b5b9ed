use Rattle.spec_texts.proofs.paths.+push_place.Given as goal

abbrev pub decreases-push_place : goal.decreases-push_place
decreases-push_place l = l.place.0
