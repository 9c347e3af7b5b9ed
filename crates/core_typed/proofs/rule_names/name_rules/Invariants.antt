use Rattle.core_terms.specs.TermViews.{term_views}
use Rattle.core_typed.specs.RuleViews.{rule_views}
use Rattle.core_typed.proofs.NameSteps.{NamedUpTo}
use Rattle.core_typed.proofs.rule_names.name_rules.Given as goal

abbrev pub invariant-loop-i : goal.invariant-loop-i
invariant-loop-i l = NamedUpTo (term_views l.terms) (rule_views l.initial.rules.items) (rule_views l.rules.items) l.i
