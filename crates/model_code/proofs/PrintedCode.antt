-- The code that is printed: without labels where it is made, then flat; it runs as the tree.
use Rattle.std.proofs.Common.{◌≡◌, ℕ, suc, true, List, [], ◌∷◌, Some, None, refl, ap, subst, ◌∙◌, arith}
use Rattle.std.proofs.lemmas.Bool.{and_from}
use Rattle.model.specs.sites.Sites.{Site}
use Rattle.model.specs.trees.Trees.{Tree, no_step, step, Check, match_at, equal_at, loop_at, return_at, Arms, no_arm, arm}
use Rattle.model.specs.trees.Run.{run, at_start}
use Rattle.model_code.specs.Code.{Block}
use Rattle.model_code.specs.CodeRuns.{outcome_of, code_run}
use Rattle.model_code.specs.TreeCode.{Passes, binds_code, tree_code, check_code, arms_code}
use Rattle.model_code.specs.CodeLaws.{IsCut}
use Rattle.model_code.specs.Flat.{unlabelled, unlabelled_at, unlabelled_arms, flat}
use Rattle.model_code.specs.PrintedCode.{PrintedCodeRuns}
use Rattle.model_code.proofs.BestCode.{code_of_best_trees_runs_lem}
use Rattle.model_code.proofs.CodeCut.{code_stops_at_bound_lem}
use Rattle.model_code.proofs.Flattening.{flat_runs_same_lem}

module _ (sites : List Site) (p : Passes) where
  binds_unlabelled : (ss : List ℕ) (rest : Block) → unlabelled rest ≡ true → unlabelled (binds_code sites p ss rest) ≡ true
  binds_unlabelled [] rest h = h
  binds_unlabelled (s ∷ ss) rest h = grind (arith, binds_unlabelled ss rest h, and_from)

  mutual
    pub tree_unlabelled : (tree : Tree) → unlabelled (tree_code tree sites p) ≡ true
    tree_unlabelled no_step = refl
    tree_unlabelled (step binds check rest) = binds_unlabelled binds _ (and_from _ _ (check_unlabelled check) (tree_unlabelled rest))

    check_unlabelled : (check : Check) → unlabelled_at (check_code check sites p) ≡ true
    check_unlabelled (match_at source arms) = arms_unlabelled arms
    check_unlabelled (equal_at a b body) = tree_unlabelled body
    check_unlabelled (loop_at result body) = grind (arith, tree_unlabelled body)
    check_unlabelled (return_at at result) = refl

    arms_unlabelled : (arms : Arms) → unlabelled_arms (arms_code arms sites p) ≡ true
    arms_unlabelled no_arm = refl
    arms_unlabelled (arm constraint fields body rest) = and_from _ _ (tree_unlabelled body) (arms_unlabelled rest)

pub printed_code_runs_lem : PrintedCodeRuns
printed_code_runs_lem set tree w p deep n best same =
    let code : Block = tree_code tree w.sites p in
    let whole : code_run (flat code deep n) w None ≡ run tree w = ap outcome_of (flat_runs_same_lem code deep n w None [] at_start (tree_unlabelled w.sites p tree)) ∙ code_of_best_trees_runs_lem set tree w p best same in
    record { whole = whole; cut = λ most. subst (λ o. IsCut (suc most) o (code_run (flat code deep n) w (Some (suc most)))) whole (code_stops_at_bound_lem (flat code deep n) w most) }
