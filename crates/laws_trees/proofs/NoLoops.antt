-- A best tree of a set whose rules go over no calls has no loop.
use Rattle.std.proofs.Common.{◌≡◌, ℕ, ◌<◌, Bool, true, false, List, [], length, Option, Some, None, slice_get, Contains, All, refl, sym, ap, ◌∙◌, arith}
use Rattle.std.proofs.lemmas.Bool.{and_from, false≢true}
use Rattle.std.proofs.lemmas.List.Elements.{Contains-append_left, Contains-append_right, All-contains}
use Rattle.std.proofs.lemmas.Grind.{common_steps}
use Rattle.model.specs.sites.Sites.{Constraint, SetRule, SiteSet}
use Rattle.model.specs.trees.Trees.{Marked, m_no_step, m_step, MarkedCheck, m_match, m_equal, m_loop, m_return, MarkedArms, m_no_arm, m_arm, marks, marks_check, marks_arms, return_of, plain, plain_check, plain_arms}
use Rattle.model.specs.trees.Places.{Around, is_in, in_arm, in_equal, after_step}
use Rattle.model.specs.trees.Sound.{is_return}
use Rattle.model.specs.trees.Tests.{loop_test}
use Rattle.model.specs.trees.Best.{BestSteps, BestCheck, BestArms, IsMade, goes_over_none, goes_over_none_in, goes_over_none_among}
use Rattle.model.proofs.Members.{get_within, member_from_get, some_member}
use Rattle.laws_trees.specs.NoLoops.{TreesWithoutCallsHaveNoLoop}
use Rattle.laws_trees.proofs.Covers.{needed_here}

none_in : (s : ℕ) (xs : List ℕ) → xs ≡ [] → is_in s xs ≡ true → ⊥
none_in s xs e h = false≢true (sym (ap (is_in s) e) ∙ h)

returns_straight : (o : Option SetRule) → goes_over_none_in (return_of o) ≡ true
returns_straight o = grind (arith, common_steps)

module _ (set : SiteSet) (without : All (λ (r : SetRule). r.iterators ≡ []) set.rules) where
  abbrev Known : List ℕ → Type 0
  Known ids = (i : ℕ) → Contains ids i → i < length set.rules

  -- a loop holds a rule that goes over its call
  no_loop : (ar : Around) (held later : List ℕ) (source : ℕ) → Known held → IsMade set ar held later (loop_test source) → ⊥
  no_loop ar held later source known made =
      let i = some_member held made.some_rule in
      let r = get_within set.rules i.0 (known i.0 i.1) in
      let n = needed_here set.rules held later (loop_test source) made.rules i.0 r.0 i.1 r.1 in
      none_in source r.0.iterators (All-contains (λ (q : SetRule). q.iterators ≡ []) set.rules r.0 without (member_from_get set.rules i.0 r.0 r.1)) n

  mutual
    steps_straight : (m : Marked) (ar : Around) (closing : Bool) → Known (marks m) → BestSteps set ar closing m → goes_over_none (plain set.rules m) ≡ true
    steps_straight m_no_step ar closing known best = refl
    steps_straight (m_step binds check rest) ar closing known best =
        and_from (goes_over_none_in (plain_check set.rules check)) (goes_over_none (plain set.rules rest))
        (check_straight check ar closing (marks rest) (λ i c. known i (Contains-append_left (marks_check check) (marks rest) i c)) best.1)
        (steps_straight rest (after_step set ar check) (is_return check) (λ i c. known i (Contains-append_right (marks_check check) (marks rest) i c)) best.2)

    check_straight : (check : MarkedCheck) (ar : Around) (closing : Bool) (later : List ℕ) → Known (marks_check check) → BestCheck set ar closing later check → goes_over_none_in (plain_check set.rules check) ≡ true
    check_straight (m_match source arms) ar closing later known best = arms_straight arms ar source None known best.2
    check_straight (m_equal a b body) ar closing later known best = steps_straight body (in_equal set ar a b) false known best.2
    check_straight (m_loop result body) ar closing later known best = absurd (no_loop ar (marks body) later best.1.0 known best.1.2)
    check_straight (m_return rule) ar closing later known best = returns_straight (slice_get set.rules rule)

    arms_straight : (arms : MarkedArms) (ar : Around) (source : ℕ) (before : Option Constraint) → Known (marks_arms arms) → BestArms set ar source before arms → goes_over_none_among (plain_arms set.rules arms) ≡ true
    arms_straight m_no_arm ar source before known best = refl
    arms_straight (m_arm constraint fields body rest) ar source before known best =
        and_from (goes_over_none (plain set.rules body)) (goes_over_none_among (plain_arms set.rules rest))
        (steps_straight body (in_arm set ar source constraint fields) false (λ i c. known i (Contains-append_left (marks body) (marks_arms rest) i c)) best.4)
        (arms_straight rest ar source (Some constraint) (λ i c. known i (Contains-append_right (marks body) (marks_arms rest) i c)) best.5)

pub trees_without_calls_have_no_loop_lem : TreesWithoutCallsHaveNoLoop
trees_without_calls_have_no_loop_lem set tree without best = grind (arith, common_steps, steps_straight)
