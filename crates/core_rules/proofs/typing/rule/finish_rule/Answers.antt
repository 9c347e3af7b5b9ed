use Rattle.std.proofs.Common.{◌≡◌, map, option_map, refl, ap, rules}
use Rattle.std.proofs.lemmas.Int.{to_z-of_z}
use mir.Val.{SFits}
use mir.Syntax.{w64}
use Rattle.core_syntax.specs.SyntaxViews as S
use Rattle.core_terms.specs.TermViews.{term_view}
use Rattle.core_types.specs.Envs.{names_of}
use Rattle.core_typed.specs.PatternViews.{pattern_views, pattern_parts}
use Rattle.core_rules.specs.RuleReadings.{sides_view}
use Rattle.core_typed.specs.RuleViews.{var_view}
use Rattle.core_typed.proofs.Copies.{clone_says}
use Rattle.core_rules.proofs.RuleForms.{rule_is, listed}
use Rattle.core_rules.proofs.typing.rule.finish_rule.Goals as goal

pub returns-clause-view : goal.returns-clause-view
returns-clause-view c =
    let fits : SFits w64 c.prio_of.result = search rules in
    rw (to_z-of_z w64 c.prio_of.result fits)
    (rule_is (S.rule_view c.args.rule.now) c.args.id.0 (term_view c.args.term.now) (sides_view c.args.sides) (names_of c.args.tyenv.now) c.args.vars.now.items
    (pattern_views c.args.sides.args.items) (map var_view c.in_ok-vars.vars.items) _ (option_map (λ n. n.0) c.in_ok-name.name)
    (listed (pattern_views c.args.sides.args.items) pattern_parts refl (λ q rest. refl))
    (clone_says var_view (λ x y. y ≡ x) (λ x y h. ap var_view h) c.args.vars.now.items c.in_ok-vars.vars.items c.in_ok-vars.ensures.cases.0)
    c.prio_of.ensures c.in_ok-name.ensures.number)
