-- Trees are best, and those near them are refused: by computing.
use Rattle.std.proofs.Common.{◌≡◌, ◌||◌, true, refl, not, arith}
use Rattle.std.specs.List.{list_all}
use Rattle.model.specs.trees.Judge.{is_best_tree, returns_apart}
use Rattle.laws_trees.proofs.WellBuilt.{set_passes}
use Rattle.laws_trees.specs.BestLaws.{binds_as_marked}
use Rattle.laws_examples.proofs.TreeStages.{has_no_priorities, judged_with, no_priorities, refused}
use Rattle.laws_examples.specs.RulesBetween.{between_sample}
use Rattle.laws_examples.specs.Dropped.{dropped_sample}
use Rattle.laws_examples.specs.EmittedFirst.{emitted_first_sample}
use Rattle.laws_examples.specs.Equal.{equal_sample}
use Rattle.laws_examples.specs.Hiding.{hidden_sample}
use Rattle.laws_examples.specs.Prio.{prio_sample}
use Rattle.laws_examples.specs.UntestedRules.{surplus_sample}
use Rattle.laws_examples.specs.Ties.{ties_sample}
use Rattle.laws_examples.specs.Stages.{OneIsBest, TreeSample}

one_is_best : (s : TreeSample) → not s.multi || has_no_priorities s.set.rules ≡ true → is_best_tree s.set s.tree ≡ true → returns_apart s.set.rules ≡ true → set_passes s.set ≡ true
    → binds_as_marked s.set s.multi s.tree ≡ true → list_all (λ t. not (is_best_tree s.set t)) s.near_trees ≡ true → OneIsBest s
one_is_best s plain best apart passes binds near =
    (judged_with s.set s.multi s.tree (λ t. no_priorities s.set.rules (grind (arith, has_no_priorities))) best apart passes binds, refused s.set s.near_trees apart near)

pub between_is_best : OneIsBest between_sample
between_is_best = one_is_best between_sample refl refl refl refl refl refl

pub dropped_is_best : OneIsBest dropped_sample
dropped_is_best = one_is_best dropped_sample refl refl refl refl refl refl

pub emitted_first_is_best : OneIsBest emitted_first_sample
emitted_first_is_best = one_is_best emitted_first_sample refl refl refl refl refl refl

pub equal_is_best : OneIsBest equal_sample
equal_is_best = one_is_best equal_sample refl refl refl refl refl refl

pub hidden_is_best : OneIsBest hidden_sample
hidden_is_best = one_is_best hidden_sample refl refl refl refl refl refl

pub prio_is_best : OneIsBest prio_sample
prio_is_best = one_is_best prio_sample refl refl refl refl refl refl

pub surplus_is_best : OneIsBest surplus_sample
surplus_is_best = one_is_best surplus_sample refl refl refl refl refl refl

pub ties_is_best : OneIsBest ties_sample
ties_is_best = one_is_best ties_sample refl refl refl refl refl refl
