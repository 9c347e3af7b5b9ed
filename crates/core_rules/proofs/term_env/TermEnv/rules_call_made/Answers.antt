use Rattle.std.proofs.Common.{All, drop, map}
use Rattle.std.proofs.lemmas.List.{drop_all}
use Rattle.std.proofs.lemmas.List.Elements.{All-nil, All-cons, All-head, All-tail}
use Rattle.core_terms.specs.TermViews.{term_views}
use Rattle.core_typed.specs.RuleViews.{rule_view}
use Rattle.core_rules.specs.Constructors.{CallsMade}
use Rattle.core_rules.proofs.Deciding.{decided_next, decided_wrong, decided_last, decided_not, decided_so, refuted}
use Rattle.core_rules.proofs.term_env.TermEnv.rules_call_made.Goals as goal

pub loop-rule-preserved : goal.loop-rule-preserved
loop-rule-preserved c =
    decided_next (λ es. All (CallsMade (term_views c.args.self.now.terms.items)) (map rule_view es)) (λ x. CallsMade (term_views c.args.self.now.terms.items) (rule_view x)) (All-nil (CallsMade (term_views c.args.self.now.terms.items))) (λ x xs a b. All-cons (CallsMade (term_views c.args.self.now.terms.items)) (rule_view x) (map rule_view xs) a b) (λ x xs h. All-head (CallsMade (term_views c.args.self.now.terms.items)) (rule_view x) (map rule_view xs) h) (λ x xs h. All-tail (CallsMade (term_views c.args.self.now.terms.items)) (rule_view x) (map rule_view xs) h) c.args.rules.now c.loop-rule.rule-index c.rule-item.result c.loop-rule-test.true c.rule-item.is (c.rule_calls_made.ensures.0 c.if-not-rule_calls_made.false) c.loop-rule.invariant

pub returns-then-not-rule_calls_made : goal.returns-then-not-rule_calls_made
returns-then-not-rule_calls_made c =
    decided_not (decided_wrong (λ es. All (CallsMade (term_views c.args.self.now.terms.items)) (map rule_view es)) (λ x. CallsMade (term_views c.args.self.now.terms.items) (rule_view x)) (All-nil (CallsMade (term_views c.args.self.now.terms.items))) (λ x xs a b. All-cons (CallsMade (term_views c.args.self.now.terms.items)) (rule_view x) (map rule_view xs) a b) (λ x xs h. All-head (CallsMade (term_views c.args.self.now.terms.items)) (rule_view x) (map rule_view xs) h) (λ x xs h. All-tail (CallsMade (term_views c.args.self.now.terms.items)) (rule_view x) (map rule_view xs) h) c.args.rules.now c.loop-rule.rule-index c.rule-item.result c.loop-rule-test.true c.rule-item.is (refuted c.rule_calls_made.result _ c.rule_calls_made.ensures c.if-not-rule_calls_made.true) c.loop-rule.invariant)

pub returns : goal.returns
returns c =
    decided_so (decided_last (λ es. All (CallsMade (term_views c.args.self.now.terms.items)) (map rule_view es)) (λ x. CallsMade (term_views c.args.self.now.terms.items) (rule_view x)) (All-nil (CallsMade (term_views c.args.self.now.terms.items))) (λ x xs a b. All-cons (CallsMade (term_views c.args.self.now.terms.items)) (rule_view x) (map rule_view xs) a b) (λ x xs h. All-head (CallsMade (term_views c.args.self.now.terms.items)) (rule_view x) (map rule_view xs) h) (λ x xs h. All-tail (CallsMade (term_views c.args.self.now.terms.items)) (rule_view x) (map rule_view xs) h) c.args.rules.now (drop c.loop-rule.rule-index c.args.rules.now) (drop_all c.loop-rule.rule-index c.args.rules.now c.loop-rule-test.false) c.loop-rule.invariant)
