use Rattle.std.proofs.Common.{◌≡◌, ◌≤◌, drop, length, option_map}
use Rattle.cranelift_isle.specs.RuleViews.{rule_view, rule_views}
use Rattle.model.specs.rules.Choice.{chosen}
use Rattle.model.specs.rules.Meaning.{total}
use Rattle.run_terms.specs.RunViews.{arg_views}
use Rattle.run_terms.specs.SourceViews.{of_terms}
use Rattle.report_traces.specs.RuleVerdicts.{rules_above}
use Rattle.report_traces.proofs.verdicts.chosen_above.Given as goal

abbrev pub invariant-loop-at : goal.invariant-loop-at
invariant-loop-at g l =
    let program = of_terms l.source.terms.now in
    let m = total (g.E.Externs.functions l.source.externs.now) in
    record {
      within : l.at ≤ length l.rules;
      best : option_map (λ r. rule_view r.now) l.best ≡ chosen program m (rules_above (rule_view l.rule) (rule_views (drop l.at l.rules))) (arg_views l.args);
    }

abbrev pub decreases-loop-at : goal.decreases-loop-at
decreases-loop-at g l = l.at
