-- The steps of a tree in reading order, each with the tests on the way to it.
use Rattle.std.specs.Prelude.{ℕ, List, [], ◌∷◌, ◌++◌, map}
use Rattle.cranelift_isle.specs.Sites.{Constraint}
use Rattle.cranelift_isle.specs.Trees.{Tree, no_step, step, Check, match_at, equal_at, loop_at, return_at, Arms, no_arm, arm}
use Rattle.cranelift_isle.specs.SiteViews.{constraint_view}
use Rattle.core_serialize.specs.declared.serialize.EvalStep.{EvalStep}
use Rattle.cranelift_isle.specs.TreeViews.{check_view}
use Rattle.report_queries.specs.declared.walk.Turn.{Turn}
use Rattle.report_queries.specs.declared.walk.Turn.TheVariants as T
use Rattle.report_queries.specs.declared.walk.Visit.{Visit}

-- a test on the way to a step: the arm that was taken, the sites that were equal, the answers that are gone over
pub data Passed : Type 0 where
  met : (source : ℕ) (constraint : Constraint) → Passed
  equal : (a b : ℕ) → Passed
  one_of : (result : ℕ) → Passed

-- a step where it stands: the tests on the way to it, outermost first, the sites that it binds, and its test or end with all
-- that is inside it
pub record PlacedStep : Type 0 where
  pub path : List Passed
  pub binds : List ℕ
  pub check : Check

-- each step once: a step, then those inside it, arm by arm, then the next one
abbrev mutual
  pub steps_from : List Passed → Tree → List PlacedStep
  steps_from path no_step = []
  steps_from path (step binds check rest) =
      record { path = path; binds = binds; check = check } ∷ (steps_inside path check ++ steps_from path rest)

  pub steps_inside : List Passed → Check → List PlacedStep
  steps_inside path (match_at source arms) = steps_of_arms path source arms
  steps_inside path (equal_at a b body) = steps_from (path ++ equal a b ∷ []) body
  steps_inside path (loop_at result body) = steps_from (path ++ one_of result ∷ []) body
  steps_inside path (return_at at result) = []

  pub steps_of_arms : List Passed → ℕ → Arms → List PlacedStep
  steps_of_arms path source no_arm = []
  steps_of_arms path source (arm constraint fields body rest) =
      steps_from (path ++ met source constraint ∷ []) body ++ steps_of_arms path source rest

-- the steps of a whole tree
abbrev pub steps_from_root : Tree → List PlacedStep
steps_from_root tree = steps_from [] tree

abbrev pub turn_view : Turn → Passed
turn_view (T.Arm source constraint) = met source (constraint_view constraint)
turn_view (T.Equal a b) = equal a b
turn_view (T.Loop result) = one_of result

abbrev pub turn_views : List Turn → List Passed
turn_views ts = map turn_view ts

abbrev pub step_place : List Turn → EvalStep → PlacedStep
step_place path s = record { path = turn_views path; binds = s.bind_order.items; check = check_view s.check }

abbrev pub visit_view : Visit → PlacedStep
visit_view v = step_place v.path.items v.step.now

abbrev pub visit_views : List Visit → List PlacedStep
visit_views vs = map visit_view vs
