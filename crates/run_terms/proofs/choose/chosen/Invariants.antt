use Rattle.std.proofs.Common.{◌≡◌, ◌≤◌, drop, length, option_map}
use Rattle.core_typed.specs.RuleViews.{rule_view}
use Rattle.run_terms.specs.RunViews.{arg_views}
use Rattle.model.specs.rules.Meaning.{total}
use Rattle.run_terms.specs.SourceViews.{of_terms}
use Rattle.run_terms.proofs.ChoiceSteps.{chosen_from}
use Rattle.run_terms.proofs.choose.chosen.Given as goal

abbrev pub invariant-loop-at : goal.invariant-loop-at
invariant-loop-at g l =
    let program = of_terms l.source.terms.now in
    let m = total (g.E.Externs.functions l.source.externs.now) in
    record {
      within : l.at ≤ length l.rules;
      best : option_map (λ r. rule_view r.now) l.best ≡ chosen_from program m l.term.0 (arg_views l.args) (drop l.at l.rules);
    }

abbrev pub decreases-loop-at : goal.decreases-loop-at
decreases-loop-at g l = l.at
