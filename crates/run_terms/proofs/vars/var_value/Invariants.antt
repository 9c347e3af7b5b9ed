use Rattle.std.proofs.Common.{◌≡◌, option_map, take}
use Rattle.model.specs.rules.Matching.{var_value}
use Rattle.run_terms.specs.ValueViews.{value_view}
use Rattle.run_terms.specs.SourceViews.{vars_view}
use Rattle.run_terms.proofs.vars.var_value.Given as goal

abbrev pub invariant-loop-entry : goal.invariant-loop-entry
invariant-loop-entry l = option_map (λ v. value_view v.now) l.found ≡ var_value (vars_view (take l.entry-index l.vars)) l.var.0
