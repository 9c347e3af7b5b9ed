use Rattle.spec_steps.proofs.excluding.+none_before.Given as goal

abbrev pub decreases-none_before : goal.decreases-none_before
decreases-none_before l = l.variant
