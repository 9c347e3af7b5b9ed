use Rattle.std.proofs.Common.{◌≡◌, ◌∙◌, Some, option_map, option_copied, take, if◌then◌else◌, rules, sym, ap}
use Rattle.model.specs.rules.Matching.{var_value}
use Rattle.run_terms.specs.ValueViews.{value_view}
use Rattle.run_terms.specs.SourceViews.{vars_view}
use Rattle.run_terms.proofs.VarSteps.{copied_value, var_more}
use Rattle.run_terms.proofs.vars.var_value.Goals.{then-eq, else-eq}
use Rattle.run_terms.proofs.vars.var_value.Goals as goal

pub loop-entry-preserved : goal.loop-entry-preserved
loop-entry-preserved c =
    let e = c.entry-item.result in
    let before = var_value (vars_view (take c.loop-entry.entry-index c.args.vars.now)) c.args.var.0 in
    let more = var_more c.args.vars.now e c.loop-entry.entry-index c.args.var.0 (search rules) c.entry-item.is in
    elim c.if-eq.branch [
      | then-eq w ↦
          ap (option_map (λ r. value_view r.now)) w.found-is ∙ copied_value w.as_ref-found.result e.1 w.as_ref-found.ensures.value
          ∙ sym (more ∙ ap (λ b. if b then option_map value_view e.1 else before) (sym c.eq.ensures ∙ w.if-eq.true))
      | else-eq w ↦
          ap (option_map (λ r. value_view r.now)) w.found-is ∙ c.loop-entry.invariant
          ∙ sym (more ∙ ap (λ b. if b then option_map value_view e.1 else before) (sym c.eq.ensures ∙ w.if-eq.false))
    ]
