use Rattle.core_rules.proofs.term_env.TermEnv.check_definition.Goals as goal

pub returns-clause-checks : goal.returns-clause-checks
returns-clause-checks c = rw c.in-Rule.is c.check_rule.ensures.checks

pub returns-clause-places : goal.returns-clause-places
returns-clause-places c =
    rw c.in-Rule.is c.check_rule.ensures.places
