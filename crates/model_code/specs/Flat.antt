-- Code whose long chains of tests don't nest: past some depths the body of a test gets a label, and tests at its end leave it.
use Rattle.std.specs.Prelude.{◌≡◌, ◌&&◌, ℕ, suc, Bool, true, false, Option}
use Rattle.model.specs.trees.Run.{World, Env, Trace}
use Rattle.model_code.specs.Code.{PlaceUse, Block, no_statement, statement, Statement, match_on, if_equal, for_each_of, labelled, unless_let, unless_equal, CodeArms, no_code_arm, code_arm}
use Rattle.model_code.specs.CodeRuns.{run_block}

-- no label, and no test that leaves one
abbrev mutual
  pub unlabelled : Block → Bool
  unlabelled no_statement = true
  unlabelled (statement s rest) = unlabelled_at s && unlabelled rest

  pub unlabelled_at : Statement → Bool
  unlabelled_at (match_on u arms) = unlabelled_arms arms
  unlabelled_at (if_equal a b body) = unlabelled body
  unlabelled_at (for_each_of v from body) = unlabelled body
  unlabelled_at (labelled body) = false
  unlabelled_at (unless_let u pattern fields) = false
  unlabelled_at (unless_equal a b) = false
  unlabelled_at s = true

  pub unlabelled_arms : CodeArms → Bool
  unlabelled_arms no_code_arm = true
  unlabelled_arms (code_arm pattern fields body rest) = unlabelled body && unlabelled_arms rest

abbrev pub within : Bool → Block → Block → Block
within true leaving flat = statement (labelled leaving) no_statement
within false leaving flat = flat

-- at depth n: as it is, with the bodies of its tests within labels where these are deep; and the same within a label, with
-- the tests at its end leaving it
abbrev mutual
  pub flat : Block → (ℕ → Bool) → ℕ → Block
  flat no_statement deep n = no_statement
  flat (statement s rest) deep n = statement (flat_at s deep n) (flat rest deep n)

  pub flat_at : Statement → (ℕ → Bool) → ℕ → Statement
  flat_at (match_on u arms) deep n = match_on u (flat_arms arms deep n)
  flat_at (if_equal a b body) deep n = if_equal a b (within (deep n) (leaving body deep (suc n)) (flat body deep (suc n)))
  flat_at (for_each_of v from body) deep n = for_each_of v from (within (deep n) (leaving body deep (suc n)) (flat body deep (suc n)))
  flat_at s deep n = s

  pub flat_arms : CodeArms → (ℕ → Bool) → ℕ → CodeArms
  flat_arms no_code_arm deep n = no_code_arm
  flat_arms (code_arm pattern fields body rest) deep n = code_arm pattern fields (within (deep n) (leaving body deep (suc n)) (flat body deep (suc n))) (flat_arms rest deep n)

  pub leaving : Block → (ℕ → Bool) → ℕ → Block
  leaving no_statement deep n = no_statement
  leaving (statement s no_statement) deep n = leaving_last s deep n
  leaving (statement s (statement next rest)) deep n = statement (flat_at s deep n) (leaving (statement next rest) deep n)

  pub leaving_last : Statement → (ℕ → Bool) → ℕ → Block
  leaving_last (match_on u arms) deep n = leaving_match u arms deep n
  leaving_last (if_equal a b body) deep n = statement (unless_equal a b) (leaving body deep n)
  leaving_last (for_each_of v from body) deep n = statement (for_each_of v from (within (deep n) (leaving body deep (suc n)) (flat body deep (suc n)))) no_statement
  leaving_last s deep n = statement s no_statement

  pub leaving_match : PlaceUse → CodeArms → (ℕ → Bool) → ℕ → Block
  leaving_match u no_code_arm deep n = statement (match_on u no_code_arm) no_statement
  leaving_match u (code_arm pattern fields body no_code_arm) deep n = statement (unless_let u pattern fields) (leaving body deep n)
  leaving_match u (code_arm pattern fields body (code_arm p2 f2 b2 rest)) deep n =
      statement (match_on u (code_arm pattern fields (within (deep n) (leaving body deep (suc n)) (flat body deep (suc n))) (code_arm p2 f2 (within (deep n) (leaving b2 deep (suc n)) (flat b2 deep (suc n))) (flat_arms rest deep n)))) no_statement

-- wherever the labels are, they change nothing
abbrev pub FlatRunsSame : Type 0
FlatRunsSame =
    (b : Block) (deep : ℕ → Bool) (n : ℕ) (w : World) (most : Option ℕ) (env : Env) (t : Trace) → unlabelled b ≡ true
    → run_block (flat b deep n) w most env t ≡ run_block b w most env t
