use Rattle.core_rule_sets.proofs.equal_sites.EqualSites.contains.Goals as goal

pub returns-clause-partition : goal.returns-clause-partition
returns-clause-partition c = rw (← c.self.view_is) c.in_same_set.ensures.partition
