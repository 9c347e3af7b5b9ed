use Rattle.spec_cases.proofs.arena.Formulas.+same_place.Given as goal

abbrev pub decreases-same_place : goal.decreases-same_place
decreases-same_place l = l.a.0
