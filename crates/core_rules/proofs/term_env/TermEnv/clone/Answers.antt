use Rattle.std.proofs.Common.{◌≡◌, refl, map}
use Rattle.core_terms.specs.TermViews.{term_view}
use Rattle.core_typed.specs.RuleViews.{rule_view}
use Rattle.core_typed.proofs.Copies.{clone_says}
use Rattle.core_rules.proofs.TermCopies.{term_copied}
use Rattle.core_rules.proofs.term_env.TermEnv.clone.Goals as goal

pub returns : goal.returns
returns c =
    let env = c.args.self.now in
    let terms : map term_view c.in_ok-clone.field-0.items ≡ map term_view env.terms.items = clone_says term_view _ term_copied env.terms.items c.in_ok-clone.field-0.items c.in_ok-clone.ensures.cases.0 in
    let rules : map rule_view c.in_ok-clone-3.field-0.items ≡ map rule_view env.rules.items = clone_says rule_view _ (λ x y h. h) env.rules.items c.in_ok-clone-3.field-0.items c.in_ok-clone-3.ensures.cases.0 in
    let by_name = c.in_ok-clone-2.ensures.same (λ x y h. h) (λ x y h. h) in
    let rule_by_name = c.in_ok-clone-4.ensures.same (λ x y h. h) (λ x y h. h) in
    let by_types = c.in_ok-clone-5.ensures.same (λ x y h i. (h.0 i, h.1 i)) (λ x y h. h) in
    rw (terms, rules, by_name, rule_by_name, by_types) refl
