use Rattle.std.proofs.Common.{All, drop, map}
use Rattle.std.proofs.lemmas.List.{drop_all}
use Rattle.std.proofs.lemmas.List.Elements.{All-nil, All-cons, All-head, All-tail}
use Rattle.core_terms.specs.TermViews.{term_views}
use Rattle.core_typed.specs.RuleViews.{iflet_view}
use Rattle.core_rules.specs.Constructors.{IfLetCallsMade}
use Rattle.core_rules.proofs.Deciding.{decided_next, decided_wrong, decided_last, decided_not, decided_so, refuted}
use Rattle.core_rules.proofs.term_env.TermEnv.iflets_call_made.Goals as goal

pub loop-iflet-preserved : goal.loop-iflet-preserved
loop-iflet-preserved c =
    decided_next (λ es. All (IfLetCallsMade (term_views c.args.self.now.terms.items)) (map iflet_view es)) (λ x. IfLetCallsMade (term_views c.args.self.now.terms.items) (iflet_view x)) (All-nil (IfLetCallsMade (term_views c.args.self.now.terms.items))) (λ x xs a b. All-cons (IfLetCallsMade (term_views c.args.self.now.terms.items)) (iflet_view x) (map iflet_view xs) a b) (λ x xs h. All-head (IfLetCallsMade (term_views c.args.self.now.terms.items)) (iflet_view x) (map iflet_view xs) h) (λ x xs h. All-tail (IfLetCallsMade (term_views c.args.self.now.terms.items)) (iflet_view x) (map iflet_view xs) h) c.args.iflets.now c.loop-iflet.iflet-index c.iflet-item.result c.loop-iflet-test.true c.iflet-item.is (c.calls_made.ensures.0 c.if-not-calls_made.false) c.loop-iflet.invariant

pub returns-then-not-calls_made : goal.returns-then-not-calls_made
returns-then-not-calls_made c =
    decided_not (decided_wrong (λ es. All (IfLetCallsMade (term_views c.args.self.now.terms.items)) (map iflet_view es)) (λ x. IfLetCallsMade (term_views c.args.self.now.terms.items) (iflet_view x)) (All-nil (IfLetCallsMade (term_views c.args.self.now.terms.items))) (λ x xs a b. All-cons (IfLetCallsMade (term_views c.args.self.now.terms.items)) (iflet_view x) (map iflet_view xs) a b) (λ x xs h. All-head (IfLetCallsMade (term_views c.args.self.now.terms.items)) (iflet_view x) (map iflet_view xs) h) (λ x xs h. All-tail (IfLetCallsMade (term_views c.args.self.now.terms.items)) (iflet_view x) (map iflet_view xs) h) c.args.iflets.now c.loop-iflet.iflet-index c.iflet-item.result c.loop-iflet-test.true c.iflet-item.is (refuted c.calls_made.result _ c.calls_made.ensures c.if-not-calls_made.true) c.loop-iflet.invariant)

pub returns : goal.returns
returns c =
    decided_so (decided_last (λ es. All (IfLetCallsMade (term_views c.args.self.now.terms.items)) (map iflet_view es)) (λ x. IfLetCallsMade (term_views c.args.self.now.terms.items) (iflet_view x)) (All-nil (IfLetCallsMade (term_views c.args.self.now.terms.items))) (λ x xs a b. All-cons (IfLetCallsMade (term_views c.args.self.now.terms.items)) (iflet_view x) (map iflet_view xs) a b) (λ x xs h. All-head (IfLetCallsMade (term_views c.args.self.now.terms.items)) (iflet_view x) (map iflet_view xs) h) (λ x xs h. All-tail (IfLetCallsMade (term_views c.args.self.now.terms.items)) (iflet_view x) (map iflet_view xs) h) c.args.iflets.now (drop c.loop-iflet.iflet-index c.args.iflets.now) (drop_all c.loop-iflet.iflet-index c.args.iflets.now c.loop-iflet-test.false) c.loop-iflet.invariant)
