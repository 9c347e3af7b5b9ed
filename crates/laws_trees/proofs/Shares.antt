-- Where the greatest tests are made, nowhere would an open test cover more rules than the test made.
use Rattle.std.proofs.Common.{◌≡◌, ℕ, ◌≤◌, Bool, false, List, ◌∷◌, ◌++◌, length, Option, ap, subst₂, arith}
use Rattle.std.proofs.lemmas.Bool.{or_left, cases_lt}
use Rattle.std.proofs.lemmas.Grind.{common_steps}
use Rattle.model.specs.sites.Sites.{Constraint, SiteSet}
use Rattle.model.specs.trees.Trees.{Marked, m_no_step, m_step, MarkedCheck, m_match, m_equal, m_loop, m_return, MarkedArms, m_no_arm, m_arm, marks}
use Rattle.model.specs.trees.Places.{Around, nothing_around, in_arm, in_equal, in_loop, after_step}
use Rattle.model.specs.trees.Sound.{is_return}
use Rattle.model.specs.trees.Tests.{Test, match_test, equal_test, loop_test, cover, Score, score, is_greater}
use Rattle.model.specs.trees.Best.{IsMade, IsEnd, BestSteps, BestCheck, BestArms, NoneCoversMore, CoversMost, SharesMost, SharesMostIn, SharesMostAmong}
use Rattle.laws_trees.specs.BestLaws.{BestTreesShareMost}

count_at_most : (x y : Score) → is_greater x y ≡ false → x.count ≤ y.count
count_at_most x y h = grind (arith, common_steps, cases_lt, or_left)

module _ (set : SiteSet) where
  count_is : (ar : Around) (here : List ℕ) (t : Test) → (score set ar here t).count ≡ length (cover set.rules here t)
  count_is ar here t = grind (arith, common_steps)

  made_covers_most : (ar : Around) (held later : List ℕ) (t : Test) → IsMade set ar held later t → CoversMost set ar (held ++ later) t
  made_covers_most ar held later t made u o =
      subst₂ (λ x y. x ≤ y) (count_is ar (held ++ later) u) (count_is ar (held ++ later) t)
      (count_at_most (score set ar (held ++ later) u) (score set ar (held ++ later) t) (made.test.greatest u o))

  end_covers_none : (ar : Around) (here : List ℕ) → IsEnd set ar here → NoneCoversMore set ar here 0
  end_covers_none ar here end u o = (let e : length (cover set.rules here u) ≡ 0 = ap length (end.over u o) in omega arith)

  mutual
    steps_share : (m : Marked) (ar : Around) (closing : Bool) → BestSteps set ar closing m → SharesMost set ar closing m
    steps_share m_no_step ar closing best = tt
    steps_share (m_step binds check rest) ar closing best = (check_shares check ar closing (marks rest) best.1, steps_share rest (after_step set ar check) (is_return check) best.2)

    check_shares : (check : MarkedCheck) (ar : Around) (closing : Bool) (later : List ℕ) → BestCheck set ar closing later check → SharesMostIn set ar closing later check
    check_shares (m_match source arms) ar closing later best = (made_covers_most ar _ later (match_test source) best.1, arms_share arms ar source _ best.2)
    check_shares (m_equal a b body) ar closing later best = (made_covers_most ar (marks body) later (equal_test a b) best.1, steps_share body (in_equal set ar a b) false best.2)
    check_shares (m_loop result body) ar closing later best = ((best.1.0, best.1.1, made_covers_most ar (marks body) later (loop_test best.1.0) best.1.2), steps_share body (in_loop set ar result) false best.2)
    check_shares (m_return rule) ar closing later best = λ e. end_covers_none ar (rule ∷ later) (best e)

    arms_share : (arms : MarkedArms) (ar : Around) (source : ℕ) (before : Option Constraint) → BestArms set ar source before arms → SharesMostAmong set ar source arms
    arms_share m_no_arm ar source before best = tt
    arms_share (m_arm constraint fields body rest) ar source before best = (steps_share body (in_arm set ar source constraint fields) false best.4, arms_share rest ar source _ best.5)

pub best_trees_share_most_lem : BestTreesShareMost
best_trees_share_most_lem set m best = steps_share set m nothing_around false best
