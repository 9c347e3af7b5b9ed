use Rattle.spec_cases.proofs.evaluating.+takes_others.Given as goal

abbrev pub decreases-takes_others : goal.decreases-takes_others
decreases-takes_others l = l.arms.0
