-- Which returns of a tree are dead: they stand behind another return of their block, or inside what stands behind one.
use Rattle.std.specs.Prelude.{◌≡◌, false, IsPermutation, List, [], ◌∷◌, ◌++◌, map}
use Rattle.model.specs.lists.Syntax.{Position}
use Rattle.model.specs.trees.Trees.{Tree, no_step, step, Check, match_at, equal_at, loop_at, return_at, Arms, no_arm, arm}
use Rattle.model.specs.trees.Run.{World, run}

-- the returns of a tree as they stand in it, by the places of their rules
abbrev mutual
  pub returns : Tree → List Position
  returns no_step = []
  returns (step binds check rest) = returns_in check ++ returns rest

  pub returns_in : Check → List Position
  returns_in (match_at source arms) = returns_among arms
  returns_in (equal_at a b body) = returns body
  returns_in (loop_at result body) = returns body
  returns_in (return_at at result) = at ∷ []

  pub returns_among : Arms → List Position
  returns_among no_arm = []
  returns_among (arm constraint fields body rest) = returns body ++ returns_among rest

-- all returns of what stands behind a return, each with that one
abbrev pub behind : Position → Tree → List (Position × Position)
behind first rest = map (λ at. (at, first)) (returns rest)

-- the dead returns of a tree as they stand in it, each with the first return that it stands behind
abbrev mutual
  pub dead_returns : Tree → List (Position × Position)
  dead_returns no_step = []
  dead_returns (step binds (match_at source arms) rest) = dead_among arms ++ dead_returns rest
  dead_returns (step binds (equal_at a b body) rest) = dead_returns body ++ dead_returns rest
  dead_returns (step binds (loop_at result body) rest) = dead_returns body ++ dead_returns rest
  dead_returns (step binds (return_at at result) rest) = behind at rest

  pub dead_among : Arms → List (Position × Position)
  dead_among no_arm = []
  dead_among (arm constraint fields body rest) = dead_returns body ++ dead_among rest

-- the tree, each block ended by its first return
abbrev mutual
  pub without_dead : Tree → Tree
  without_dead no_step = no_step
  without_dead (step binds (match_at source arms) rest) = step binds (match_at source (arms_without_dead arms)) (without_dead rest)
  without_dead (step binds (equal_at a b body) rest) = step binds (equal_at a b (without_dead body)) (without_dead rest)
  without_dead (step binds (loop_at result body) rest) = step binds (loop_at result (without_dead body)) (without_dead rest)
  without_dead (step binds (return_at at result) rest) = step binds (return_at at result) no_step

  pub arms_without_dead : Arms → Arms
  arms_without_dead no_arm = no_arm
  arms_without_dead (arm constraint fields body rest) = arm constraint fields (without_dead body) (arms_without_dead rest)

-- in a term that isn't multi, no run comes to a dead return: without them a tree runs alike
abbrev pub DeadReturnsNeverRun : Type 0
DeadReturnsNeverRun = (tree : Tree) (w : World) → w.multi ≡ false → run (without_dead tree) w ≡ run tree w

-- these are what is cut off: the returns of a tree are those that stay, and the dead ones
abbrev pub DeadReturnsAreCutOff : Type 0
DeadReturnsAreCutOff = (tree : Tree) → IsPermutation (returns tree) (returns (without_dead tree) ++ map (λ d. d.0) (dead_returns tree))
