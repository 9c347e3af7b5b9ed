use Rattle.std.proofs.Common.{◌≡◌, drop}
use Rattle.model.specs.trees.Run.{used_values}
use Rattle.run_terms.specs.RunViews.{env_view, stage_view}
use Rattle.run_terms.proofs.EnvSteps.{after}
use Rattle.run_terms.proofs.env.used_values.Given as goal

abbrev pub invariant-loop-site : goal.invariant-loop-site
invariant-loop-site g l =
    let w = stage_view g.E.Externs.functions l.stage in
    after l.out.items (used_values w (env_view l.env) (drop l.site-index l.wanted)) ≡ used_values w (env_view l.env) l.wanted
