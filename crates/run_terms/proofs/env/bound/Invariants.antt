use Rattle.std.proofs.Common.{◌≡◌, option_map, take}
use Rattle.model.specs.trees.Run.{bound_to}
use Rattle.run_terms.specs.RunViews.{env_view}
use Rattle.run_terms.specs.ValueViews.{content_view}
use Rattle.run_terms.proofs.env.bound.Given as goal

abbrev pub invariant-loop-entry : goal.invariant-loop-entry
invariant-loop-entry l = option_map (λ c. content_view c.now) l.found ≡ bound_to (env_view (take l.entry-index l.env)) l.site
