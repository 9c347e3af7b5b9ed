use Rattle.std.proofs.Common.{◌++◌, refl}
use Rattle.core_syntax.specs.SyntaxViews.{definition_views, definition_view}
use Rattle.core_rules.proofs.Readings.{keep_none, keep_on}
use Rattle.core_syntax.specs.Positions.{OccurAmong, definition_positions, positions_of}
use Rattle.core_syntax.proofs.Positioned.{among_same, among_both, notes_nothing, among_none, among_join, notes_parts}
use Rattle.core_rules.specs.RulePositions.{with_templates}
use Rattle.core_typed.specs.RuleViews.{rule_views}
use Rattle.core_typed.specs.RuleNaming.{rules_at}
use Rattle.core_rules.proofs.ErrorPositions.{among_with}
use Rattle.core_rules.proofs.PartPlaces.{each_inside}
use Rattle.core_rules.proofs.RuleListsTaken.{none_done, next_done, all_done}
use Rattle.core_rules.proofs.term_env.TermEnv.collect_rules.Goals as goal

pub loop-def-init : goal.loop-def-init
loop-def-init c = (
  keep_none c.args.tyenv.now c.requires,
  notes_nothing _ _ _ refl,
  rw c.in_ok-rules.ensures.items (among_none (positions_of (definition_views c.args.defs.now))),
  none_done c.args.self.now c.args.tyenv.now c.args.work.now.errors.items c.in_ok-rules.rules.items c.in_ok-rules.ensures.items,
)

pub loop-def-preserved : goal.loop-def-preserved
loop-def-preserved c = (
  keep_on c.args.tyenv.now c.loop-def.tyenv c.collect_definition.new.tyenv c.loop-def.invariant.0 c.collect_definition.ensures.keeps,
  (
      let env = c.args.self.now in
      let all = positions_of (definition_views c.args.defs.now) in
      let one = definition_positions (definition_view c.def-item.result) in
      let inside : OccurAmong one all = each_inside definition_positions definition_view c.args.defs.now c.loop-def.def-index c.def-item.result c.loop-def-test.true c.def-item.is in
      notes_parts (with_templates env all) (with_templates env one) (with_templates env all) c.args.work.now.errors.items c.loop-def.work.errors.items c.collect_definition.new.work.errors.items (among_same (with_templates env all)) (among_with env one all inside) c.loop-def.invariant.1 c.in_ok-collect_definition.ensures.places
      ),
  (
      let env = c.args.self.now in
      let all = positions_of (definition_views c.args.defs.now) in
      let one = definition_positions (definition_view c.def-item.result) in
      let inside : OccurAmong one all = each_inside definition_positions definition_view c.args.defs.now c.loop-def.def-index c.def-item.result c.loop-def-test.true c.def-item.is in
      let before = rules_at (rule_views c.loop-def.rules.items) in
      among_both (rules_at (rule_views c.collect_definition.new.rules.items)) (before ++ one) all c.in_ok-collect_definition.ensures.stand (among_join before one all c.loop-def.invariant.2 inside)
      ),
  next_done c.args.self.now c.args.tyenv.now c.loop-def.tyenv c.collect_definition.new.tyenv c.loop-def.invariant.0 c.args.work.now.errors.items c.loop-def.work.errors.items c.collect_definition.new.work.errors.items
      c.args.defs.now c.loop-def.def-index c.def-item.result c.loop-def-test.true c.def-item.is
      (rule_views c.loop-def.rules.items) (rule_views c.collect_definition.new.rules.items) c.loop-def.invariant.3 c.in_ok-collect_definition.ensures.exact,
)

pub returns-clause-places : goal.returns-clause-places
returns-clause-places c =
    c.loop-def.invariant.1

pub returns-clause-stand : goal.returns-clause-stand
returns-clause-stand c =
    c.loop-def.invariant.2

pub returns-clause-exact : goal.returns-clause-exact
returns-clause-exact c =
    all_done c.args.self.now c.args.tyenv.now c.loop-def.tyenv c.args.work.now.errors.items c.loop-def.work.errors.items c.args.defs.now c.loop-def.def-index c.loop-def-test.false (rule_views c.loop-def.rules.items) c.loop-def.invariant.3
