use Rattle.std.proofs.Common.{◌≡◌, [], length, rules, refl, sym, subst}
use Rattle.model.specs.lists.TermTable.{rule_of}
use Rattle.core_rules.specs.RuleListTaking.{DoesRules}
use Rattle.core_typed.specs.RuleViews.{rule_views}
use Rattle.core_syntax.specs.SyntaxViews.{definition_view, rule_view as tree_view}
use Rattle.core_syntax.specs.Positions.{definition_positions}
use Rattle.core_syntax.proofs.Positioned.{among_left, notes_nothing}
use Rattle.core_typed.specs.RuleNaming.{rules_at}
use Rattle.core_rules.proofs.PartPlaces.{added_rule}
use Rattle.core_rules.proofs.RuleListsTaken.{nothing_done, rule_added as done_with, rule_left_out as done_without}
use Rattle.core_rules.proofs.term_env.TermEnv.collect_definition.Goals as goal

pub returns-in_default-2-clause-places : goal.returns-in_default-2-clause-places
returns-in_default-2-clause-places c =
    rw c.in-Rule.is c.in_ok-made.ensures.places

pub returns-clause-places : goal.returns-clause-places
returns-clause-places c =
    rw c.in-Rule.is c.in_ok-made.ensures.places

pub returns-in_default-clause-places : goal.returns-in_default-clause-places
returns-in_default-clause-places c =
    notes_nothing _ _ _ refl

pub returns-in_default-clause-stand : goal.returns-in_default-clause-stand
returns-in_default-clause-stand c =
    among_left (rules_at (rule_views c.args.rules.now.items)) (definition_positions (definition_view c.args.def.now))

pub returns-in_default-2-clause-stand : goal.returns-in_default-2-clause-stand
returns-in_default-2-clause-stand c =
    among_left (rules_at (rule_views c.args.rules.now.items)) (definition_positions (definition_view c.args.def.now))

pub returns-clause-stand : goal.returns-clause-stand
returns-clause-stand c =
    let stands = rw c.in-Some.is at c.in_ok-made.ensures.stands in
    rw (c.in_ok-push.ensures.items, c.in-Rule.is) (added_rule c.args.rules.now.items c.in-Some.made (tree_view c.in-Rule.rule) stands)

pub returns-in_default-clause-exact : goal.returns-in_default-clause-exact
returns-in_default-clause-exact c =
    let none : rule_of (definition_view c.args.def.now) ≡ [] = search rules in
    let before = rule_views c.args.rules.now.items in
    let errors = c.args.work.now.errors.items in
    subst (λ rs. DoesRules c.args.self.now c.args.tyenv.now c.args.tyenv.now rs before before errors errors) (sym none) (nothing_done c.args.self.now c.args.tyenv.now before errors)

pub returns-in_default-2-clause-exact : goal.returns-in_default-2-clause-exact
returns-in_default-2-clause-exact c =
    let id : c.len.result ≡ length c.args.rules.now.items = search rules in
    rw c.in-Rule.is
    (done_without c.args.self.now c.args.tyenv.now c.collect_rule.new.tyenv (tree_view c.in-Rule.rule) c.len.result c.in_ok-made.field-0 c.args.rules.now.items
    c.args.work.now.errors.items c.collect_rule.new.work.errors.items id c.in_default-2.is c.in_ok-made.ensures.exact)

pub returns-clause-exact : goal.returns-clause-exact
returns-clause-exact c =
    let id : c.len.result ≡ length c.args.rules.now.items = search rules in
    rw c.in-Rule.is
    (done_with c.args.self.now c.args.tyenv.now c.collect_rule.new.tyenv (tree_view c.in-Rule.rule) c.len.result c.in_ok-made.field-0 c.in-Some.made c.args.rules.now.items c.push.new.self.items
    c.args.work.now.errors.items c.collect_rule.new.work.errors.items id c.in-Some.is c.in_ok-push.ensures.items c.in_ok-made.ensures.exact)
