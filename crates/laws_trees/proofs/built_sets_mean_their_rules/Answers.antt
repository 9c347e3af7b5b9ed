use Rattle.laws_trees.proofs.built_sets_mean_their_rules.Goals as goal

pub returns : goal.returns
returns c = λ p t set h b.
    record {
      match = c.built_sets_match_by_demands.ensures p t set h b;
      outcome = c.taken_rules_give_their_outcome.ensures p t set h b;
      outcome_under_picks = c.taken_rules_give_their_outcome_under_picks.ensures p t set h b;
      results = c.results_are_held.ensures p t set h b;
    }
