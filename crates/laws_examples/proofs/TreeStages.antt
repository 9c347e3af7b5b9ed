-- Trees that the judge passes are best and sound, those that it refuses aren't: by computing.
use Rattle.std.proofs.Common.{◌≡◌, ◌∷◌, [], pos, Bool, true, List, not, arith}
use Rattle.std.proofs.lemmas.Grind.{common_steps}
use Rattle.std.specs.List.{list_all}
use Rattle.std.specs.Ordering.{int_eq}
use Rattle.std.proofs.lemmas.Bool.{and_parts}
use Rattle.std.proofs.lemmas.Bool.Decides.{Decides-int_eq, not_from_Decides}
use Rattle.model.proofs.Members.{each_passes, member_from_get}
use Rattle.model.specs.sites.Sites.{SetRule, SiteSet}
use Rattle.model.specs.trees.Judge.{is_best_tree, returns_apart}
use Rattle.model.specs.trees.Trees.{Tree}
use Rattle.model.specs.trees.WellBuilt.{HasOnePriority}
use Rattle.laws_trees.proofs.JudgeExactness.{not_exact}
use Rattle.laws_trees.proofs.binding.BindingJudge.{binding_judge_is_exact_lem}
use Rattle.laws_trees.proofs.Marking.{tree_judge_is_exact_lem}
use Rattle.laws_trees.proofs.Soundness.{best_trees_are_sound_lem}
use Rattle.laws_trees.proofs.WellBuilt.{passes_well_built, set_passes}
use Rattle.laws_trees.specs.BestLaws.{binds_as_marked}
use Rattle.laws_examples.specs.Stages.{AreRefused, IsJudged}

-- whether the rules have no priority
abbrev pub has_no_priorities : List SetRule → Bool
has_no_priorities rules = list_all (λ (r : SetRule). int_eq r.prio (pos 0)) rules

pub no_priorities : (rules : List SetRule) → has_no_priorities rules ≡ true → HasOnePriority rules
no_priorities rules h i j r q e f = grind (arith, common_steps, member_from_get rules, Decides-int_eq, each_passes, member_from_get)

pub judged_with : (set : SiteSet) (multi : Bool) (tree : Tree) → (multi ≡ true → HasOnePriority set.rules) → is_best_tree set tree ≡ true → returns_apart set.rules ≡ true → set_passes set ≡ true
    → binds_as_marked set multi tree ≡ true → IsJudged set multi tree
judged_with set multi tree same h apart passes binds = grind (arith, common_steps, tree_judge_is_exact_lem, passes_well_built, best_trees_are_sound_lem, binding_judge_is_exact_lem)

-- in a multi term
pub judged_multi : (set : SiteSet) (tree : Tree) → has_no_priorities set.rules ≡ true → is_best_tree set tree ≡ true → returns_apart set.rules ≡ true → set_passes set ≡ true
    → binds_as_marked set true tree ≡ true → IsJudged set true tree
judged_multi set tree none h apart passes binds = judged_with set true tree (λ e. no_priorities set.rules none) h apart passes binds

-- trees that fail
pub refused : (set : SiteSet) (trees : List Tree) → returns_apart set.rules ≡ true → list_all (λ t. not (is_best_tree set t)) trees ≡ true → AreRefused set trees
refused set (tree ∷ trees) apart h = grind (arith, common_steps, refused set trees apart, and_parts, not_exact, not_from_Decides, tree_judge_is_exact_lem)
refused set [] apart h = tt
