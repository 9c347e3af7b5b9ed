use Rattle.spec_cases.proofs.trails.Trails.+add_facts.Given as goal

abbrev pub decreases-add_facts : goal.decreases-add_facts
decreases-add_facts l = l.limit
