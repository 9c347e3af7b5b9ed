use Rattle.laws_code.proofs.CodeScopes.{code_of_accepted_is_scoped_lem}
use Rattle.laws_code.proofs.code_of_accepted_is_scoped.Goals as goal

pub returns : goal.returns
returns c = code_of_accepted_is_scoped_lem c.best_trees_bind_before_use.ensures c.printed_code_is_scoped.ensures c.built_sets_loop_over_bound.ensures
