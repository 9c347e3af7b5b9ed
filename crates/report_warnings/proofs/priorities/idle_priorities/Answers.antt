use Rattle.std.proofs.Common.{List, map, ◌++◌, arith, sym, ap, ◌∙◌}
use Rattle.std.proofs.lemmas.List.{append-nil, drop_all}
use Rattle.core_syntax.specs.SyntaxViews.{position}
use Rattle.core_rule_sets.specs.declared.trie_again.Rule.{Rule}
use Rattle.report_warnings.specs.IdlePriorities.{idle_places}
use Rattle.report_warnings.proofs.IdlePriorities.{all_places_seen}
use Rattle.report_warnings.proofs.priorities.idle_priorities.Goals as goal

pub returns : goal.returns
returns c =
    let told = map position c.loop-rule.idle.items in
    let rules = c.args.rules.now in
    sym (append-nil told)
    ∙ ap (λ (l : List Rule). told ++ idle_places rules l) (sym (drop_all c.loop-rule.rule-index rules (omega (arith, c.loop-rule-test.false))))
    ∙ c.loop-rule.invariant
    ∙ all_places_seen rules
