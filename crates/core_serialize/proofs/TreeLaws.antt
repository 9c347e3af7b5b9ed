-- The tree that a block is, by its vectors.
use Rattle.std.proofs.Common.{◌≡◌, refl, sym, ap, ◌∙◌, ℕ, Option, Vec}
use Rattle.std.specs.declared.alloc.Global.{Global}
use denote.Hole.Carrier
use Rattle.core_syntax.specs.declared.syntax.Pos.{Pos}
use Rattle.core_syntax.specs.SyntaxViews.{position}
use Rattle.core_rule_sets.specs.declared.trie_again.Constraint.{Constraint}
use Rattle.core_serialize.specs.declared.serialize.Block.{Block, out-Block, roll-Block, roll-out-Block, Row_of-EvalStep, end_of-EvalStep, more_of-EvalStep, items-the_row-EvalStep, items_hidden-the_row-EvalStep-1}
use Rattle.core_serialize.specs.declared.serialize.EvalStep.{EvalStep}
use Rattle.core_serialize.specs.declared.serialize.MatchArm.{MatchArm, roll-MatchArm}
use Rattle.core_serialize.specs.declared.serialize.ControlFlow.{Match, Equal, Loop, Return, Row_of-MatchArm, end_of-MatchArm, more_of-MatchArm, items-the_row-MatchArm, items_hidden-the_row-MatchArm-0}
use Rattle.core_serialize.specs.declared.serialize.ControlFlow.TheBlock.{hidden-the_row-EvalStep-1, hidden-the_row-MatchArm-0}
use Rattle.model.specs.trees.Trees.{step, match_at, equal_at, loop_at, return_at, Arms, arm}
use Rattle.core_rule_sets.specs.SiteViews.{constraint_view}
use Rattle.core_serialize.specs.TreeViews.{tree_view, row_steps, check_view, row_arms, arm_view, steps_view, arms_view}

row_steps-items : {m : _} (r : Row_of-EvalStep m) → row_steps r ≡ steps_view (items-the_row-EvalStep m r)
unfolding row_steps
row_steps-items end_of-EvalStep = refl
row_steps-items (more_of-EvalStep binds check rest) = ap (step binds.items (check_view check)) (row_steps-items rest)

row_arms-items : {m : _} (r : Row_of-MatchArm m) → row_arms r ≡ arms_view (items-the_row-MatchArm m r)
unfolding row_arms
row_arms-items end_of-MatchArm = refl
row_arms-items (more_of-MatchArm a rest) = ap (arm_view a) (row_arms-items rest)

pub block_seen : (v : Vec EvalStep Global) → tree_view (roll-Block record { steps = v }) ≡ steps_view v.items
unfolding tree_view roll-Block Carrier.roll
block_seen v = row_steps-items (hidden-the_row-EvalStep-1 v) ∙ ap steps_view (items_hidden-the_row-EvalStep-1 v)

-- the steps of any block
pub block_steps : (b : Block) → tree_view b ≡ steps_view (out-Block b).steps.items
block_steps b = ap tree_view (sym (roll-out-Block b)) ∙ block_seen (out-Block b).steps

pub match_seen : (source : ℕ) (v : Vec MatchArm Global) → check_view (Match source v) ≡ match_at source (arms_view v.items)
unfolding check_view
match_seen source v = ap (match_at source) (row_arms-items (hidden-the_row-MatchArm-0 v) ∙ ap arms_view (items_hidden-the_row-MatchArm-0 v))

pub equal_seen : (a b : ℕ) (body : Block) → check_view (Equal a b body) ≡ equal_at a b (tree_view body)
unfolding check_view
equal_seen a b body = refl

pub loop_seen : (result : ℕ) (body : Block) → check_view (Loop result body) ≡ loop_at result (tree_view body)
unfolding check_view
loop_seen result body = refl

pub return_seen : (pos : Pos) (result : ℕ) → check_view (Return pos result) ≡ return_at (position pos) result
unfolding check_view
return_seen pos result = refl

pub arm_seen : (constraint : Constraint) (bindings : Vec (Option ℕ) Global) (body : Block) (rest : Arms) → arm_view (roll-MatchArm record { constraint = constraint; bindings = bindings; body = body }) rest ≡ arm (constraint_view constraint) bindings.items (tree_view body) rest
unfolding arm_view roll-MatchArm Carrier.roll
arm_seen constraint bindings body rest = refl

-- for code that makes trees
pub ruleset tree_steps = (block_seen, match_seen, equal_seen, loop_seen, return_seen, arm_seen)
