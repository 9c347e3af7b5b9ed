use Rattle.std.proofs.Common.{All, drop, map}
use Rattle.core_terms.specs.TermViews.{term_views}
use Rattle.core_typed.specs.RuleViews.{rule_view}
use Rattle.core_rules.specs.Constructors.{CallsMade}
use Rattle.core_rules.proofs.term_env.TermEnv.rules_call_made.Given as goal

abbrev pub invariant-loop-rule : goal.invariant-loop-rule
invariant-loop-rule l = (All (CallsMade (term_views l.self.terms.items)) (map rule_view (drop l.rule-index l.rules)) → All (CallsMade (term_views l.self.terms.items)) (map rule_view l.rules)) × (All (CallsMade (term_views l.self.terms.items)) (map rule_view l.rules) → All (CallsMade (term_views l.self.terms.items)) (map rule_view (drop l.rule-index l.rules)))
