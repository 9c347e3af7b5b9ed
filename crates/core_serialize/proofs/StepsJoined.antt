-- Lists of steps and of arms, with more behind them.
use Rattle.std.proofs.Common.{◌≡◌, List, [], ◌∷◌, ◌++◌, refl, ap}
use Rattle.model.specs.trees.Trees.{Tree, step, join, Arms, no_arm}
use Rattle.core_serialize.specs.declared.serialize.EvalStep.{EvalStep}
use Rattle.core_serialize.specs.declared.serialize.MatchArm.{MatchArm}
use Rattle.core_serialize.specs.TreeViews.{check_view, steps_view, arm_view, arms_view}

pub step_joined : (xs : List EvalStep) (s : EvalStep) (t : Tree) → join (steps_view (xs ++ s ∷ [])) t ≡ join (steps_view xs) (step s.bind_order.items (check_view s.check) t)
step_joined [] s t = refl
step_joined (x ∷ xs) s t = ap (step x.bind_order.items (check_view x.check)) (step_joined xs s t)

pub steps_joined : (xs ys : List EvalStep) → steps_view (xs ++ ys) ≡ join (steps_view xs) (steps_view ys)
steps_joined [] ys = refl
steps_joined (x ∷ xs) ys = ap (step x.bind_order.items (check_view x.check)) (steps_joined xs ys)

-- arms, and these behind them
abbrev pub arms_before : List MatchArm → Arms → Arms
arms_before [] rest = rest
arms_before (a ∷ xs) rest = arm_view a (arms_before xs rest)

pub arms_end : (xs : List MatchArm) → arms_before xs no_arm ≡ arms_view xs
arms_end [] = refl
arms_end (a ∷ xs) = ap (arm_view a) (arms_end xs)

pub arm_joined : (xs : List MatchArm) (a : MatchArm) (rest : Arms) → arms_before (xs ++ a ∷ []) rest ≡ arms_before xs (arm_view a rest)
arm_joined [] a rest = refl
arm_joined (x ∷ xs) a rest = ap (arm_view x) (arm_joined xs a rest)
