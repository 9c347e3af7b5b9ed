use Rattle.std.proofs.Common.{IsTrue, map}
use Rattle.std.specs.List.{flat_map}
use Rattle.core_syntax.specs.Expressions.{terms_of_expr}
use Rattle.core_syntax.specs.SyntaxViews.{expr_view, iflet_view, rule_view}
use Rattle.model.specs.lists.Syntax.{Position, Name}
use Rattle.core_rules.specs.Constructors.{has_constructor_if_there, uses_of_rule, AreFoundMade}
use Rattle.core_typed.specs.Elaborating.{Checks}
use Rattle.core_rules.specs.PatternUses.{found_term}
use Rattle.core_rules.proofs.CheckedUses.{on_then, checks_all}
use Rattle.core_syntax.specs.Positions.{NotesAt, expr_positions, iflet_positions, rule_positions}
use Rattle.core_syntax.proofs.Positioned.{notes_parts}
use Rattle.core_rules.proofs.PartPlaces.{rule_iflets, rule_value}
use Rattle.core_rules.proofs.term_env.TermEnv.check_rule.Goals as goal

pub returns-clause-checks : goal.returns-clause-checks
returns-clause-checks c =
    on_then c.check_expr.result (Checks c.check_iflets.new.errors.items c.check_expr.new.errors.items (AreFoundMade c.args.self.now c.args.tyenv.now (terms_of_expr (expr_view c.args.rule.now.expr))))
    (Checks c.args.errors.now.items c.check_expr.new.errors.items (AreFoundMade c.args.self.now c.args.tyenv.now (uses_of_rule (rule_view c.args.rule.now))))
    (checks_all (λ (u : Position × Name). IsTrue (has_constructor_if_there (found_term c.args.self.now c.args.tyenv.now u.1.text))) (flat_map (λ i. terms_of_expr i.expr) (map iflet_view c.args.rule.now.iflets.items)) (terms_of_expr (expr_view c.args.rule.now.expr))
    c.args.errors.now.items c.check_iflets.new.errors.items c.check_expr.new.errors.items (rw c.deref.ensures.value at c.in_ok-check_iflets.ensures.checks))
    c.check_expr.ensures.checks

pub returns-clause-places : goal.returns-clause-places
returns-clause-places c =
    let tree = rule_view c.args.rule.now in
    let first = flat_map iflet_positions (map iflet_view c.args.rule.now.iflets.items) in
    let last = expr_positions (expr_view c.args.rule.now.expr) in
    on_then c.check_expr.result (NotesAt last c.check_iflets.new.errors.items c.check_expr.new.errors.items) (NotesAt (rule_positions tree) c.args.errors.now.items c.check_expr.new.errors.items)
    (notes_parts first last (rule_positions tree) c.args.errors.now.items c.check_iflets.new.errors.items c.check_expr.new.errors.items (rule_iflets tree) (rule_value tree) (rw c.deref.ensures.value at c.in_ok-check_iflets.ensures.places))
    c.check_expr.ensures.places
