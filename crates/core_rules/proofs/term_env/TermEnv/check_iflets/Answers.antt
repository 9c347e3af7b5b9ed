use Rattle.std.proofs.Common.{IsTrue, map, refl}
use Rattle.std.specs.List.{flat_map}
use Rattle.std.proofs.lemmas.List.{drop_all}
use Rattle.core_syntax.specs.Expressions.{terms_of_expr}
use Rattle.core_syntax.specs.SyntaxViews.{expr_view, iflet_view}
use Rattle.model.specs.lists.Syntax.{Position, Name}
use Rattle.core_rules.specs.Constructors.{has_constructor_if_there}
use Rattle.core_rules.specs.PatternUses.{found_term}
use Rattle.core_rules.proofs.CheckedUses.{checked_first, checked_next, checked_last, left_at}
use Rattle.core_syntax.specs.Positions.{expr_positions, iflet_positions}
use Rattle.core_syntax.proofs.Positioned.{among_same, among_both, notes_nothing, notes_parts}
use Rattle.core_rules.proofs.PartPlaces.{given_inside, each_inside}
use Rattle.core_rules.proofs.term_env.TermEnv.check_iflets.Goals as goal

pub loop-iflet-init : goal.loop-iflet-init
loop-iflet-init c = (checked_first (λ (u : Position × Name). IsTrue (has_constructor_if_there (found_term c.args.self.now c.args.tyenv.now u.1.text))) _ _, notes_nothing _ _ _ refl)

pub loop-iflet-preserved : goal.loop-iflet-preserved
loop-iflet-preserved c = (
  checked_next (λ (u : Position × Name). IsTrue (has_constructor_if_there (found_term c.args.self.now c.args.tyenv.now u.1.text))) _ _ (terms_of_expr (expr_view c.iflet-item.result.expr)) _ _ _ _
      (left_at (λ i. terms_of_expr (expr_view i.expr)) (λ is. flat_map (λ i. terms_of_expr i.expr) (map iflet_view is)) (λ i rest. refl) c.args.iflets.now c.loop-iflet.iflet-index c.iflet-item.result c.loop-iflet-test.true c.iflet-item.is)
      c.loop-iflet.invariant.0 c.in_ok-check_expr.ensures.checks,
  (
      let all = flat_map iflet_positions (map iflet_view c.args.iflets.now) in
      let one = iflet_view c.iflet-item.result in
      notes_parts all (expr_positions one.expr) all c.args.errors.now.items c.loop-iflet.errors.items c.check_expr.new.errors.items (among_same all)
      (among_both (expr_positions one.expr) (iflet_positions one) all (given_inside one) (each_inside iflet_positions iflet_view c.args.iflets.now c.loop-iflet.iflet-index c.iflet-item.result c.loop-iflet-test.true c.iflet-item.is))
      c.loop-iflet.invariant.1 c.in_ok-check_expr.ensures.places
      ),
)

pub returns-clause-checks : goal.returns-clause-checks
returns-clause-checks c =
    checked_last (λ (u : Position × Name). IsTrue (has_constructor_if_there (found_term c.args.self.now c.args.tyenv.now u.1.text))) _ _ _ (rw (drop_all c.loop-iflet.iflet-index c.args.iflets.now c.loop-iflet-test.false) at c.loop-iflet.invariant.0)

pub returns-clause-places : goal.returns-clause-places
returns-clause-places c =
    c.loop-iflet.invariant.1
