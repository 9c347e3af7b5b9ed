-- Among the tests around a return no site is matched twice, and no equality tests two sites that the others join.
use Rattle.std.proofs.Common.{◌≡◌, ℕ, Bool, true, false, List, [], ◌∷◌, Option, Some, None, slice_get, refl, arith}
use Rattle.std.proofs.lemmas.Bool.{and_from}
use Rattle.std.proofs.lemmas.Grind.{common_steps}
use Rattle.model.specs.sites.Sites.{Constraint, SetRule, SiteSet}
use Rattle.model.specs.trees.Trees.{Marked, m_no_step, m_step, MarkedCheck, m_match, m_equal, m_loop, m_return, MarkedArms, m_no_arm, m_arm, marks, return_of, plain, plain_check, plain_arms}
use Rattle.model.specs.trees.Places.{Around, nothing_around, in_arm, in_equal, in_loop, after_step}
use Rattle.model.specs.trees.Sound.{is_return}
use Rattle.model.specs.trees.Tests.{match_test, IsOpen}
use Rattle.model.specs.trees.Best.{BestSteps, BestCheck, BestArms, are_distinct, are_apart, no_site_twice, no_site_twice_in, no_site_twice_among}
use Rattle.laws_trees.specs.BestLaws.{SitesAreTestedOnce}
use Rattle.laws_trees.proofs.Pairs.{independent_apart}
use Rattle.laws_trees.proofs.DistinctSources.{matched_around, IsStraight, straight_at_start, straight_after, straight_arm, straight_equal, straight_loop}

return_once : (o : Option SetRule) (matched : List ℕ) (joined : List (ℕ × ℕ)) → are_distinct matched ≡ true → are_apart [] joined ≡ true → no_site_twice_in matched joined (return_of o) ≡ true
return_once o matched joined h k = grind (arith, common_steps, and_from)

module _ (set : SiteSet) where
  mutual
    steps_once : (m : Marked) (ar : Around) (closing : Bool) → IsStraight ar → BestSteps set ar closing m → no_site_twice (matched_around ar) ar.joined (plain set.rules m) ≡ true
    steps_once m_no_step ar closing straight best = refl
    steps_once (m_step binds check rest) ar closing straight best =
        and_from (no_site_twice_in (matched_around ar) ar.joined (plain_check set.rules check)) (no_site_twice (matched_around ar) ar.joined (plain set.rules rest))
        (check_once check ar closing (marks rest) straight best.1)
        (steps_once rest (after_step set ar check) (is_return check) (straight_after set ar straight check) best.2)

    check_once : (check : MarkedCheck) (ar : Around) (closing : Bool) (later : List ℕ) → IsStraight ar → BestCheck set ar closing later check → no_site_twice_in (matched_around ar) ar.joined (plain_check set.rules check) ≡ true
    check_once (m_match source arms) ar closing later straight best = arms_once arms ar source None best.1.test.open_here straight best.2
    check_once (m_equal a b body) ar closing later straight best = steps_once body (in_equal set ar a b) false (straight_equal set ar straight a b best.1.test.open_here) best.2
    check_once (m_loop result body) ar closing later straight best = steps_once body (in_loop set ar result) false (straight_loop set ar straight result best.1.0 best.1.1 best.1.2.test.open_here) best.2
    check_once (m_return rule) ar closing later straight best = return_once (slice_get set.rules rule) (matched_around ar) ar.joined straight.matched (independent_apart ar.joined straight.joined)

    arms_once : (arms : MarkedArms) (ar : Around) (source : ℕ) (before : Option Constraint) → IsOpen set ar (match_test source) → IsStraight ar → BestArms set ar source before arms
        → no_site_twice_among (source ∷ matched_around ar) ar.joined (plain_arms set.rules arms) ≡ true
    arms_once m_no_arm ar source before free straight best = refl
    arms_once (m_arm constraint fields body rest) ar source before free straight best =
        and_from (no_site_twice (source ∷ matched_around ar) ar.joined (plain set.rules body)) (no_site_twice_among (source ∷ matched_around ar) ar.joined (plain_arms set.rules rest))
        (steps_once body (in_arm set ar source constraint fields) false (straight_arm set ar straight source constraint fields free) best.4)
        (arms_once rest ar source (Some constraint) free straight best.5)

pub sites_are_tested_once_lem : SitesAreTestedOnce
sites_are_tested_once_lem set m best = steps_once set m nothing_around false straight_at_start best
