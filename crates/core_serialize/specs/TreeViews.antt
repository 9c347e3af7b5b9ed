-- The tree that a block is: its steps, tests and arms without where they lie in memory, sites by their numbers.
use Rattle.std.specs.Prelude.{List, [], ◌∷◌}
use Rattle.core_syntax.specs.SyntaxViews.{position}
use Rattle.model.specs.trees.Trees.{Tree, no_step, step, Check, match_at, equal_at, loop_at, return_at, Arms, no_arm, arm}
use Rattle.core_serialize.specs.declared.serialize.Block.{Block, Block', Row_of-EvalStep, end_of-EvalStep, more_of-EvalStep}
use Rattle.core_serialize.specs.declared.serialize.EvalStep.{EvalStep}
use Rattle.core_serialize.specs.declared.serialize.MatchArm.{MatchArm, MatchArm'}
use Rattle.core_serialize.specs.declared.serialize.ControlFlow.{ControlFlow, Match', Equal, Loop, Return, Row_of-MatchArm, end_of-MatchArm, more_of-MatchArm}
use Rattle.core_rule_sets.specs.SiteViews.{constraint_view}

unfoldable mutual
  pub tree_view : Block → Tree
  tree_view (Block' shape rows) = row_steps rows

  pub row_steps : {m : _} → Row_of-EvalStep m → Tree
  row_steps end_of-EvalStep = no_step
  row_steps (more_of-EvalStep binds check rest) = step binds.items (check_view check) (row_steps rest)

  pub check_view : ControlFlow → Check
  check_view (Match' source shape rows) = match_at source (row_arms rows)
  check_view (Equal a b body) = equal_at a b (tree_view body)
  check_view (Loop result body) = loop_at result (tree_view body)
  check_view (Return pos result) = return_at (position pos) result

  pub row_arms : {m : _} → Row_of-MatchArm m → Arms
  row_arms end_of-MatchArm = no_arm
  row_arms (more_of-MatchArm a rest) = arm_view a (row_arms rest)

  -- an arm before others
  pub arm_view : MatchArm → Arms → Arms
  arm_view (MatchArm' constraint bindings body) = λ rest. arm (constraint_view constraint) bindings.items (tree_view body) rest

-- the same at lists of steps and of arms
abbrev pub steps_view : List EvalStep → Tree
steps_view [] = no_step
steps_view (s ∷ rest) = step s.bind_order.items (check_view s.check) (steps_view rest)

abbrev pub arms_view : List MatchArm → Arms
arms_view [] = no_arm
arms_view (a ∷ rest) = arm_view a (arms_view rest)
