-- Tests at the end of a block, with a label around it in place of braces behind each.
use Rattle.std.specs.Prelude.{◌≡◌, ℕ, Option}
use Rattle.model.specs.trees.Run.{World, Env, Trace}
use Rattle.model_code.specs.Code.{PlaceUse, Block, no_statement, statement, Statement, match_on, if_equal, labelled, unless_let, unless_equal, CodeArms, no_code_arm, code_arm}
use Rattle.model_code.specs.CodeRuns.{run_statement}

-- a block whose last statement is a test with one outcome: the block is left where it isn't met, and what followed inside
-- follows flatly
abbrev mutual
  pub opened : Block → Block
  opened no_statement = no_statement
  opened (statement s no_statement) = opened_last s
  opened (statement s (statement next rest)) = statement s (opened (statement next rest))

  pub opened_last : Statement → Block
  opened_last (match_on u arms) = opened_match u arms
  opened_last (if_equal a b body) = statement (unless_equal a b) (opened body)
  opened_last s = statement s no_statement

  pub opened_match : PlaceUse → CodeArms → Block
  opened_match u no_code_arm = statement (match_on u no_code_arm) no_statement
  opened_match u (code_arm pattern fields body no_code_arm) = statement (unless_let u pattern fields) (opened body)
  opened_match u (code_arm pattern fields body (code_arm p2 f2 b2 rest)) = statement (match_on u (code_arm pattern fields body (code_arm p2 f2 b2 rest))) no_statement

-- within a label that changes nothing
abbrev pub OpenedRunsSame : Type 0
OpenedRunsSame = (b : Block) (w : World) (most : Option ℕ) (env : Env) (t : Trace) → run_statement (labelled (opened b)) w most env t ≡ run_statement (labelled b) w most env t
