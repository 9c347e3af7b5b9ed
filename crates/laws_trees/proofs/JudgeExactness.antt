-- The judge of a marked tree is exact.
use Rattle.std.proofs.Common.{◌≡◌, ◌≢◌, ℕ, ◌==◌, Bool, false, not, ◌&&◌, ◌||◌, nat_lt, List, [], ◌∷◌, length, get_or, Option, Some, None, Decides, count_by, refl, eqb-true, eq-eqb, ltb-true, lt-ltb, arith}
use Rattle.std.specs.Cmp.Lexicographic.{pointwise}
use Rattle.std.specs.List.{list_all}
use Rattle.std.proofs.lemmas.Bool.{and_parts, and_from}
use Rattle.std.proofs.lemmas.Slice.Eq.{bytes_eq-Decides}
use Rattle.std.proofs.lemmas.List.Sums.{AllPass-from_list_all, list_all-from_AllPass}
use Rattle.std.proofs.lemmas.Grind.{common_steps}
use Rattle.model.specs.sites.Sites.{Site, iterator_site, Constraint, SiteSet}
use Rattle.model.specs.trees.Trees.{Marked, m_no_step, m_step, MarkedCheck, m_match, m_equal, m_loop, m_return, MarkedArms, m_no_arm, m_arm, marks, marks_arms, plain}
use Rattle.model.specs.trees.Places.{Around, uses, bind_order, fields_of, in_arm, in_equal, in_loop, after_step}
use Rattle.model.specs.trees.Run.{iterated}
use Rattle.model.specs.rules.Outcome.{then_option}
use Rattle.model.specs.trees.Sound.{is_return, IsAfter, ReturnsEach}
use Rattle.model.specs.trees.Tests.{Test, match_test, equal_test, loop_test, IsOpen, up_to, Score, score, is_greater}
use Rattle.model.specs.trees.Best.{IsMade, IsEnd, BestSteps, BestCheck, BestArms}
use Rattle.model.specs.trees.Judge.{none_greater, is_empty, is_made, is_loop_made, is_end, asks_at, is_after, sites_eq, best_steps, best_check, best_arms, is_marked_once, marks_each, is_best}
use Rattle.laws_trees.specs.BestLaws.{IsBestMarked, JudgeIsExact}
use Rattle.model.proofs.Members.{each_passes, all_pass, in_up_to, from_up_to}
use Rattle.laws_trees.proofs.OpenTests.{all_open}
use Rattle.laws_trees.proofs.Constraints.{all_ask_exact, fields_exact}

pub not_exact : (b : Bool) → Decides (not b) (b ≡ false)
not_exact b = grind (arith, common_steps)

pub empty_exact : (xs : List ℕ) → Decides (is_empty xs) (xs ≡ [])
empty_exact xs = grind (arith, common_steps)

some_exact : (xs : List ℕ) → Decides (not (is_empty xs)) (xs ≢ [])
some_exact xs = grind (arith, common_steps)

three : {P Q R : Type 0} (x y z : Bool) → Decides x P → Decides y Q → Decides z R → Decides (x && y && z) (P × Q × R)
three x y z dx dy dz = grind (arith, common_steps, and_parts, and_from)

arm_exact : {P Q R S T U : Type 0} (p q r s t u : Bool) → Decides p P → Decides q Q → Decides r R → Decides s S → Decides t T → Decides u U → Decides (p && q && r && s && t && u) (P × Q × R × S × T × U)
arm_exact p q r s t u dp dq dr ds dt du = grind (arith, common_steps, and_parts, and_from)

module _ (set : SiteSet) where
  greatest_exact : (ar : Around) (here : List ℕ) (top : Score) → Decides (none_greater set ar here top) ((u : Test) → IsOpen set ar u → is_greater (score set ar here u) top ≡ false)
  greatest_exact ar here top = grind (arith, common_steps, all_open, not_exact)

  made_exact : (ar : Around) (held later : List ℕ) (t : Test) → Decides (is_made set ar held later t) (IsMade set ar held later t)
  made_exact ar held later t = grind (arith, common_steps, greatest_exact, bytes_eq-Decides, some_exact, and_parts, and_from)

  abbrev IsLoopMade : Around → List ℕ → List ℕ → Option Site → Type 0
  IsLoopMade ar held later o = (source : ℕ) × (o ≡ Some (iterator_site source)) × IsMade set ar held later (loop_test source)

  abbrev source_or_none : Option Site → ℕ
  source_or_none (Some (iterator_site source)) = source
  source_or_none _ = 0

  loop_exact : (ar : Around) (held later : List ℕ) (o : Option Site) → Decides (is_loop_made set ar held later (then_option o iterated)) (IsLoopMade ar held later o)
  loop_exact ar held later o = grind (arith, common_steps, made_exact ar held later)

  end_exact : (ar : Around) (here : List ℕ) → Decides (is_end set ar here) (IsEnd set ar here)
  end_exact ar here = grind (arith, common_steps, all_open, and_parts, empty_exact, and_from)

  return_exact : (ar : Around) (closing : Bool) (here : List ℕ) → Decides (closing || is_end set ar here) (closing ≡ false → IsEnd set ar here)
  return_exact ar closing here = grind (arith, common_steps, end_exact)

  after_exact : (before : Option Constraint) (c : Constraint) → Decides (is_after before c) (IsAfter before c)
  after_exact before c = grind (arith, common_steps)

  mutual
    steps_exact : (m : Marked) (ar : Around) (closing : Bool) → Decides (best_steps set ar closing m) (BestSteps set ar closing m)
    steps_exact m_no_step ar closing = (λ h. tt, λ h. refl)
    steps_exact (m_step binds check rest) ar closing =
        three (pointwise ◌==◌ binds (bind_order set.sites ar (uses set check))) (best_check set ar closing (marks rest) check) (best_steps set (after_step set ar check) (is_return check) rest)
        (bytes_eq-Decides binds (bind_order set.sites ar (uses set check)))
        (check_exact check ar closing (marks rest))
        (steps_exact rest (after_step set ar check) (is_return check))

    check_exact : (check : MarkedCheck) (ar : Around) (closing : Bool) (later : List ℕ) → Decides (best_check set ar closing later check) (BestCheck set ar closing later check)
    check_exact (m_match source arms) ar closing later =
        three (not closing) (is_made set ar (marks_arms arms) later (match_test source)) (best_arms set ar source None arms)
        (not_exact closing) (made_exact ar (marks_arms arms) later (match_test source)) (arms_exact arms ar source None)
    check_exact (m_equal a b body) ar closing later =
        three (not closing) (is_made set ar (marks body) later (equal_test a b)) (best_steps set (in_equal set ar a b) false body)
        (not_exact closing) (made_exact ar (marks body) later (equal_test a b)) (steps_exact body (in_equal set ar a b) false)
    check_exact (m_loop result body) ar closing later = grind (arith, common_steps, steps_exact body (in_loop set ar result) false, three, not_exact, loop_exact)
    check_exact (m_return rule) ar closing later = return_exact ar closing (rule ∷ later)

    arms_exact : (arms : MarkedArms) (ar : Around) (source : ℕ) (before : Option Constraint) → Decides (best_arms set ar source before arms) (BestArms set ar source before arms)
    arms_exact m_no_arm ar source before = (λ h. tt, λ h. refl)
    arms_exact (m_arm constraint fields body rest) ar source before =
        arm_exact (is_after before constraint) (not (is_empty (marks body))) (list_all (asks_at set.rules source constraint) (marks body)) (sites_eq fields (fields_of set.sites source constraint))
        (best_steps set (in_arm set ar source constraint fields) false body) (best_arms set ar source (Some constraint) rest)
        (after_exact before constraint) (some_exact (marks body)) (all_ask_exact set.rules (marks body) source constraint) (fields_exact fields (fields_of set.sites source constraint))
        (steps_exact body (in_arm set ar source constraint fields) false) (arms_exact rest ar source (Some constraint))

  pub returns_exact : (m : Marked) → Decides (marks_each set.rules m) (ReturnsEach set (plain set.rules m) m)
  returns_exact m = (
    λ h.
        let q = and_parts (list_all (is_marked_once m) (up_to (length set.rules))) (list_all (λ i. nat_lt i (length set.rules)) (marks m)) h in
        record {
          same = refl;
          once = λ i l. eqb-true (count_by (λ j. j == i) (marks m)) 1 (each_passes (is_marked_once m) (up_to (length set.rules)) q.0 i (in_up_to (length set.rules) i l));
          known = λ k d l. ltb-true (get_or (marks m) k d) (length set.rules) (AllPass-from_list_all (λ i. nat_lt i (length set.rules)) (marks m) q.1 k d l);
        },
    λ h.
        and_from (list_all (is_marked_once m) (up_to (length set.rules))) (list_all (λ i. nat_lt i (length set.rules)) (marks m))
        (all_pass (is_marked_once m) (up_to (length set.rules)) (λ i k. eq-eqb (count_by (λ j. j == i) (marks m)) 1 (h.once i (from_up_to (length set.rules) i k))))
        (list_all-from_AllPass (λ i. nat_lt i (length set.rules)) (marks m) (λ k d l. lt-ltb (get_or (marks m) k d) (length set.rules) (h.known k d l))),
  )

  pub judge_exact : (m : Marked) → Decides (is_best set m) (IsBestMarked set m)
  judge_exact m = grind (arith, common_steps, and_parts, returns_exact, steps_exact, and_from)

pub judge_is_exact_lem : JudgeIsExact
judge_is_exact_lem set m = judge_exact set m
