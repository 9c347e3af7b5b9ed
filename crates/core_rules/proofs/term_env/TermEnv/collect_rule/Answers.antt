use Rattle.std.proofs.Common.{◌++◌, option_map, subst, sym, ap, ◌∙◌}
use Rattle.core_syntax.specs.Positions.{NotesAt, rule_positions}
use Rattle.core_syntax.specs.SyntaxViews.{rule_view}
use Rattle.core_typed.specs.RuleViews.{rule_view as typed_view}
use Rattle.core_rules.specs.RuleListTaking.{DoesRule}
use Rattle.core_rules.specs.RulePositions.{with_templates}
use Rattle.core_rules.proofs.RuleListsTaken.{rule_behind, placed_behind}
use Rattle.core_rules.proofs.term_env.TermEnv.collect_rule.Goals as goal

pub returns-clause-places : goal.returns-clause-places
returns-clause-places c =
    let ps = with_templates c.args.self.now (rule_positions (rule_view c.args.rule.now)) in
    let mid = c.type_rule.new.work.errors.items in
    let alone = subst (λ es. NotesAt ps es mid) (ap (λ v. v.items) c.replace-errors.ensures.after ∙ c.new-none.ensures.items) c.in_ok-made.ensures.places in
    let same = c.in_ok-append.ensures.items ∙ ap (λ v. v.items ++ mid) c.replace-errors.ensures.value in
    subst (NotesAt ps c.args.work.now.errors.items) (sym same) (placed_behind ps c.args.work.now.errors.items mid alone)

pub returns-clause-exact : goal.returns-clause-exact
returns-clause-exact c =
    let env = c.args.self.now in
    let old = c.args.tyenv.now in
    let new = c.type_rule.new.tyenv in
    let tree = rule_view c.args.rule.now in
    let mid = c.type_rule.new.work.errors.items in
    let made = option_map typed_view c.in_ok-made.made in
    let alone = subst (λ es. DoesRule env old new tree c.args.id.0 made es mid) (ap (λ v. v.items) c.replace-errors.ensures.after ∙ c.new-none.ensures.items) c.in_ok-made.ensures.exact in
    let same = c.in_ok-append.ensures.items ∙ ap (λ v. v.items ++ mid) c.replace-errors.ensures.value in
    subst (DoesRule env old new tree c.args.id.0 made c.args.work.now.errors.items) (sym same) (rule_behind env old new tree c.args.id.0 made c.args.work.now.errors.items mid alone)
