use Rattle.std.proofs.Common.{◌∙◌, Some, option_map, take, if◌then◌else◌, rules, sym, ap}
use Rattle.model.specs.trees.Run.{bound_to}
use Rattle.run_terms.specs.RunViews.{env_view}
use Rattle.run_terms.specs.ValueViews.{content_view}
use Rattle.run_terms.proofs.EnvSteps.{bound_more}
use Rattle.run_terms.proofs.env.bound.Goals.{then-eq, else-eq}
use Rattle.run_terms.proofs.env.bound.Goals as goal

pub loop-entry-preserved : goal.loop-entry-preserved
loop-entry-preserved c =
    let e = c.entry-item.result in
    let before = bound_to (env_view (take c.loop-entry.entry-index c.args.env.now)) c.args.site in
    let more = bound_more c.args.env.now e c.loop-entry.entry-index c.args.site (search rules) c.entry-item.is in
    elim c.if-eq.branch [
      | then-eq w ↦ ap (option_map (λ r. content_view r.now)) w.found-is ∙ sym (more ∙ ap (λ b. if b then Some (content_view e.1) else before) (sym c.eq.ensures ∙ w.if-eq.true))
      | else-eq w ↦ ap (option_map (λ r. content_view r.now)) w.found-is ∙ c.loop-entry.invariant ∙ sym (more ∙ ap (λ b. if b then Some (content_view e.1) else before) (sym c.eq.ensures ∙ w.if-eq.false))
    ]
