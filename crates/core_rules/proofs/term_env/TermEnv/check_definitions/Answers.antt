use Rattle.std.proofs.Common.{IsTrue, refl}
use Rattle.std.specs.List.{flat_map}
use Rattle.std.proofs.lemmas.List.{drop_all}
use Rattle.core_syntax.specs.SyntaxViews.{definition_view, definition_views}
use Rattle.model.specs.lists.Syntax.{Position, Name}
use Rattle.model.specs.lists.TermTable.{rule_trees}
use Rattle.core_rules.specs.Constructors.{has_constructor_if_there, uses_of_rule, uses_of_definition}
use Rattle.core_rules.specs.PatternUses.{found_term}
use Rattle.core_rules.proofs.NamedLimits.{rules_before}
use Rattle.core_rules.proofs.RuleBreachSteps.{first_used, next_used, last_used}
use Rattle.core_rules.proofs.CheckedUses.{checked_first, checked_next, checked_last, left_at, uses_split}
use Rattle.core_syntax.specs.Positions.{definition_positions, positions_of}
use Rattle.core_syntax.proofs.Positioned.{among_same, notes_nothing, notes_parts}
use Rattle.core_rules.proofs.PartPlaces.{each_inside}
use Rattle.core_rules.proofs.term_env.TermEnv.check_definitions.Goals as goal

pub loop-def-init : goal.loop-def-init
loop-def-init c = (checked_first (λ (u : Position × Name). IsTrue (has_constructor_if_there (found_term c.args.self.now c.args.tyenv.now u.1.text))) _ _, notes_nothing _ _ _ refl, first_used c.args.self.now c.args.tyenv.now (rule_trees (definition_views c.args.defs.now)) c.args.errors.now.items)

pub loop-def-preserved : goal.loop-def-preserved
loop-def-preserved c = (
  checked_next (λ (u : Position × Name). IsTrue (has_constructor_if_there (found_term c.args.self.now c.args.tyenv.now u.1.text))) _ _ (uses_of_definition (definition_view c.def-item.result)) _ _ _ _
      (left_at (λ d. uses_of_definition (definition_view d)) (λ ds. flat_map uses_of_rule (rule_trees (definition_views ds))) uses_split c.args.defs.now c.loop-def.def-index c.def-item.result c.loop-def-test.true c.def-item.is)
      c.loop-def.invariant.0 c.in_ok-check_definition.ensures.checks,
  (
      let all = positions_of (definition_views c.args.defs.now) in
      let one = definition_positions (definition_view c.def-item.result) in
      notes_parts all one all c.args.errors.now.items c.loop-def.errors.items c.check_definition.new.errors.items (among_same all)
      (each_inside definition_positions definition_view c.args.defs.now c.loop-def.def-index c.def-item.result c.loop-def-test.true c.def-item.is) c.loop-def.invariant.1 c.in_ok-check_definition.ensures.places
      ),
  next_used c.args.self.now c.args.tyenv.now c.args.errors.now.items c.loop-def.errors.items c.check_definition.new.errors.items c.args.defs.now c.loop-def.def-index c.def-item.result c.loop-def-test.true c.def-item.is
      c.loop-def.invariant.2 c.in_ok-check_definition.ensures.checks c.in_ok-check_definition.ensures.places,
)

pub returns-clause-checks : goal.returns-clause-checks
returns-clause-checks c =
    checked_last (λ (u : Position × Name). IsTrue (has_constructor_if_there (found_term c.args.self.now c.args.tyenv.now u.1.text))) _ _ _ (rw (drop_all c.loop-def.def-index c.args.defs.now c.loop-def-test.false) at c.loop-def.invariant.0)

pub returns-clause-places : goal.returns-clause-places
returns-clause-places c =
    c.loop-def.invariant.1

pub returns-clause-breach : goal.returns-clause-breach
returns-clause-breach c =
    last_used c.args.self.now c.args.tyenv.now (rule_trees (definition_views c.args.defs.now)) (rules_before c.args.defs.now c.loop-def.def-index) c.args.errors.now.items c.loop-def.errors.items c.loop-def.invariant.2
