-- The code of the trees of a stage, and the depth from which on bodies get labels.
use Rattle.std.specs.Prelude.{◌≡◌, ◌-◌, ℕ, suc, Bool, true, false}
use Rattle.std.specs.Bool.{◌==◌}
use Rattle.model.specs.trees.Trees.{Tree, Check, Arms}
use Rattle.model_code.specs.Code.{Block, no_statement, statement, Statement, CodeArms}
use Rattle.model_code.specs.TreeCode.{tree_code, check_code, arms_code}
use Rattle.model_code.specs.Flat.{within, flat, flat_at, leaving, leaving_last}
use Rattle.core_rule_sets.specs.SiteViews.{site_views}
use Rattle.rust_code.specs.declared.stage.Stage.{Stage}
use Rattle.rust_code.specs.HeldViews.{passes_in}

-- how much deeper bodies nest without labels
abbrev pub room_at : ℕ → ℕ
room_at n = 12 - n

abbrev pub is_deep : ℕ → Bool
is_deep n = room_at n == 0

abbrev pub code_in : Stage → Tree → Block
code_in stage tree = tree_code tree (site_views stage.sites.now) (passes_in stage)

abbrev pub check_in : Stage → Check → Statement
check_in stage check = check_code check (site_views stage.sites.now) (passes_in stage)

abbrev pub arms_in : Stage → Arms → CodeArms
arms_in stage arms = arms_code arms (site_views stage.sites.now) (passes_in stage)

-- a body at this depth
abbrev pub body_in : Stage → Tree → ℕ → Block
body_in stage body n = within (is_deep n) (leaving (code_in stage body) is_deep (suc n)) (flat (code_in stage body) is_deep (suc n))

-- a block at this depth, within a label or not
abbrev pub shaped : Bool → Block → ℕ → Block
shaped true b n = leaving b is_deep n
shaped false b n = flat b is_deep n

-- a test before what follows it; where it ends the block of a label, nothing follows
abbrev pub with_check : Bool → Statement → ℕ → Block → Block
with_check true s n rest = leaving_last s is_deep n
with_check false s n rest = statement (flat_at s is_deep n) rest

abbrev pub IsWhereEnded : Bool → Block → Type 0
IsWhereEnded ends rest = ends ≡ true → rest ≡ no_statement
