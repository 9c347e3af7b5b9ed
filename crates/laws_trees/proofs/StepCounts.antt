-- All blocks together hold at most a step for each demand of a rule, and its return.
use Rattle.std.proofs.Common.{◌≡◌, ◌≢◌, ℕ, zero, suc, ◌+◌, ◌-◌, ◌<◌, ◌≤◌, ◌==◌, Bool, true, false, not, cond, List, [], ◌∷◌, ◌++◌, map, length, Option, Some, None, slice_get, Contains, count_by, sum_by, flat_map, refl, sym, ap, ◌∙◌, subst, inl, inr, arith, eq-eqb, length-append}
use Rattle.std.proofs.lemmas.Bool.{cases_Bool, cond-true, and_parts, and_from, or_cases, false≢true}
use Rattle.std.proofs.lemmas.List.{length-map}
use Rattle.std.proofs.lemmas.List.Elements.{Contains-append_left, Contains-append_right, All-contains}
use Rattle.std.proofs.lemmas.List.Sums.{sum_by-cons, sum_by-append, sum_by-le-sum_by}
use Rattle.std.proofs.lemmas.Grind.{common_steps}
use Rattle.model.specs.sites.Sites.{Constraint, SetRule, SiteSet}
use Rattle.model.specs.trees.Trees.{Marked, m_no_step, m_step, MarkedCheck, m_match, m_equal, m_loop, m_return, MarkedArms, m_no_arm, m_arm, marks, marks_arms, return_of, plain, plain_arms}
use Rattle.model.specs.trees.Places.{Around, nothing_around, is_in, joins_in, in_arm, in_equal, in_loop, after_step}
use Rattle.model.specs.trees.Sound.{is_return}
use Rattle.model.specs.trees.Tests.{match_test, equal_test, loop_test, IsOpen}
use Rattle.model.specs.trees.Best.{BestSteps, BestArms, are_distinct, steps_of, steps_in, steps_among, most_steps}
use Rattle.model.proofs.Members.{in_head, in_tail, get_within, constraint_in, in_map, from_map, member_found}
use Rattle.laws_trees.specs.BestLaws.{StepsAreFew, StepsMakeBestTrees}
use Rattle.laws_trees.proofs.Counting.{distinct_sum, distinct_within}
use Rattle.laws_trees.proofs.Covers.{needed_here}
use Rattle.laws_trees.proofs.JudgeExactness.{not_exact}
use Rattle.laws_trees.proofs.SingleTests.{sites_are_tested_once_lem}
use Rattle.laws_trees.proofs.Pairs.{Names, independent_few}
use Rattle.laws_trees.proofs.Passing.{Passed, sources_there, passed_after, passed_arm, passed_equal, passed_loop, passed_at_start}
use Rattle.laws_trees.proofs.DistinctSources.{matched_around, IsStraight, straight_at_start, straight_after, straight_arm, straight_equal, straight_loop}

-- 1. the tests around a place are at most the demands of a rule there
abbrev path : Around → ℕ
path ar = length ar.tested + length ar.joined + length ar.looped

abbrev pub members : List (List ℕ) → List ℕ
members classes = flat_map (λ (c : List ℕ). c) classes

members_count : (classes : List (List ℕ)) → length (members classes) ≡ sum_by length classes
members_count [] = refl
members_count (c ∷ cs) = length-append c (members cs) ∙ ap (λ n. length c + n) (members_count cs) ∙ sym (sum_by-cons length c cs)

pub joined_member : (classes : List (List ℕ)) (a b : ℕ) → joins_in classes a b ≡ true → Contains (members classes) a × Contains (members classes) b
joined_member [] a b h = absurd (false≢true h)
joined_member (c ∷ cs) a b h = grind (arith, common_steps, joined_member cs a b, or_cases, and_parts, member_found)

module _ (ar : Around) (r : SetRule) (straight : IsStraight ar) (passed : Passed ar r) where
  asked : (s : ℕ) → Contains (matched_around ar) s → Contains (map (λ (d : ℕ × Constraint). d.0) r.constraints) s
  asked s c =
      let d = from_map (λ (d : ℕ × Constraint). d.0) ar.tested s c in
      let k = constraint_in r.constraints d.0.0 d.0.1 (passed.asks d.0.0 d.0.1 d.1) in
      subst (Contains (map (λ (d : ℕ × Constraint). d.0) r.constraints)) d.2 (in_map (λ (d : ℕ × Constraint). d.0) r.constraints (d.0.0, d.0.1) k)

  path_short : path ar < most_steps r
  path_short =
      let a = distinct_within (matched_around ar) (map (λ (d : ℕ × Constraint). d.0) r.constraints) straight.matched asked in
      let b = length-map ar.tested (λ (d : ℕ × Constraint). d.0) in
      let c = length-map r.constraints (λ (d : ℕ × Constraint). d.0) in
      let names : Names ar.joined (members r.classes) = λ p k. joined_member r.classes p.0 p.1 (passed.equates p k) in
      let e = independent_few (members r.classes) ar.joined straight.joined names in
      let f = members_count r.classes in
      let g = distinct_within ar.looped r.iterators straight.looped passed.goes_over in
      omega arith

-- 2. what is left of the rules' steps below so many tests
abbrev most_of : Option SetRule → ℕ
most_of None = 0
most_of (Some r) = most_steps r

abbrev left_of : List SetRule → ℕ → ℕ → ℕ
left_of rules n i = most_of (slice_get rules i) - n

abbrev cost : List SetRule → ℕ → List ℕ → ℕ
cost rules n ids = sum_by (left_of rules n) ids

one_less : (rules : List SetRule) (n i : ℕ) → left_of rules (suc n) i ≤ left_of rules n i
one_less rules n i = grind (arith, common_steps)

cost_less : (rules : List SetRule) (n : ℕ) (ids : List ℕ) → cost rules (suc n) ids ≤ cost rules n ids
cost_less rules n ids = sum_by-le-sum_by (left_of rules (suc n)) (left_of rules n) ids (one_less rules n)

cost_step : (rules : List SetRule) (n : ℕ) (ids : List ℕ) → ids ≢ [] → ((i : ℕ) → Contains ids i → n < most_of (slice_get rules i)) → suc (cost rules (suc n) ids) ≤ cost rules n ids
cost_step rules n [] some below = absurd (some refl)
cost_step rules n (i ∷ ids) some below = grind (arith, common_steps, in_head, cost_less, sum_by-cons)

return_steps : (o : Option SetRule) → steps_in (return_of o) ≡ 0
return_steps o = grind (arith, common_steps)

-- sums of small numbers
one_arm : (a b c : ℕ) → suc a + b + c ≡ suc (a + b + c)
one_arm a b c = omega arith

one_pair : (a b c : ℕ) → a + suc b + c ≡ suc (a + b + c)
one_pair a b c = omega arith

one_loop : (a b c : ℕ) → a + b + suc c ≡ suc (a + b + c)
one_loop a b c = omega arith

one_return : (x y z m n w : ℕ) → x ≡ 0 → y ≤ z → n < m → w ≡ (m - n) + z → suc (x + y) ≤ w
one_return x y z m n w e l k f = omega arith

two : (x y a b c : ℕ) → x ≤ a → y ≤ b → c ≡ a + b → x + y ≤ c
two x y a b c h k e = omega arith

module _ (set : SiteSet) where
  record Fits (ar : Around) (ids : List ℕ) : Type 0 where
    known : (i : ℕ) → Contains ids i → i < length set.rules
    passed : (i : ℕ) (r : SetRule) → Contains ids i → slice_get set.rules i ≡ Some r → Passed ar r

  below_all : (ar : Around) (ids : List ℕ) → IsStraight ar → Fits ar ids → (i : ℕ) → Contains ids i → path ar < most_of (slice_get set.rules i)
  below_all ar ids straight fits i c =
      let g = get_within set.rules i (fits.known i c) in
      subst (λ o. path ar < most_of o) (sym g.1) (path_short ar g.0 straight (fits.passed i g.0 c g.1))

  fits_left : (ar : Around) (xs ys : List ℕ) → Fits ar (xs ++ ys) → Fits ar xs
  fits_left ar xs ys f = record { known = λ i c. f.known i (Contains-append_left xs ys i c); passed = λ i r c e. f.passed i r (Contains-append_left xs ys i c) e }

  fits_right : (ar : Around) (xs ys : List ℕ) → Fits ar (xs ++ ys) → Fits ar ys
  fits_right ar xs ys f = record { known = λ i c. f.known i (Contains-append_right xs ys i c); passed = λ i r c e. f.passed i r (Contains-append_right xs ys i c) e }

  fits_after : (ar : Around) (check : MarkedCheck) (ids : List ℕ) → Fits ar ids → Fits (after_step set ar check) ids
  fits_after ar check ids f = record { known = f.known; passed = λ i r c e. passed_after set ar r check (f.passed i r c e) }

  -- a test's steps and those after it
  add_up : (ar : Around) (here later : List ℕ) (inner outer : ℕ) → here ≢ [] → IsStraight ar → Fits ar (here ++ later)
      → inner ≤ cost set.rules (suc (path ar)) here → outer ≤ cost set.rules (path ar) later → suc (inner + outer) ≤ cost set.rules (path ar) (here ++ later)
  add_up ar here later inner outer some straight fits h k =
      let a = cost_step set.rules (path ar) here some (below_all ar here straight (fits_left ar here later fits)) in
      let b = sum_by-append (left_of set.rules (path ar)) here later in
      sum (cost set.rules (suc (path ar)) here) (cost set.rules (path ar) here) (cost set.rules (path ar) later) (cost set.rules (path ar) (here ++ later)) h k a b
    where
      sum : (x y z w : ℕ) → inner ≤ x → outer ≤ z → suc x ≤ y → w ≡ y + z → suc (inner + outer) ≤ w
      sum x y z w h k a b = omega arith

  mutual
    steps_few : (m : Marked) (ar : Around) (closing : Bool) → IsStraight ar → Fits ar (marks m) → BestSteps set ar closing m → steps_of (plain set.rules m) ≤ cost set.rules (path ar) (marks m)
    steps_few m_no_step ar closing straight fits best = omega arith
    steps_few (m_step binds (m_match source arms) rest) ar closing straight fits best =
        let made = best.1.1 in
        add_up ar (marks_arms arms) (marks rest) (steps_among (plain_arms set.rules arms)) (steps_of (plain set.rules rest)) made.some_rule straight fits
        (arms_few arms ar source None made.test.open_here straight (fits_left ar (marks_arms arms) (marks rest) fits) best.1.2)
        (steps_few rest (after_step set ar (m_match source arms)) (is_return (m_match source arms)) (straight_after set ar straight (m_match source arms)) (fits_after ar (m_match source arms) (marks rest) (fits_right ar (marks_arms arms) (marks rest) fits)) best.2)
    steps_few (m_step binds (m_equal a b body) rest) ar closing straight fits best =
        let made = best.1.1 in
        let here = fits_left ar (marks body) (marks rest) fits in
        let inside : Fits (in_equal set ar a b) (marks body) = record {
          known = here.known;
          passed = λ i r c e. passed_equal set ar r a b (needed_here set.rules (marks body) (marks rest) (equal_test a b) made.rules i r c e) (here.passed i r c e);
        } in
        add_up ar (marks body) (marks rest) (steps_of (plain set.rules body)) (steps_of (plain set.rules rest)) made.some_rule straight fits
        (subst (λ n. steps_of (plain set.rules body) ≤ cost set.rules n (marks body)) (one_pair (length ar.tested) (length ar.joined) (length ar.looped))
        (steps_few body (in_equal set ar a b) false (straight_equal set ar straight a b made.test.open_here) inside best.1.2))
        (steps_few rest (after_step set ar (m_equal a b body)) (is_return (m_equal a b body)) (straight_after set ar straight (m_equal a b body)) (fits_after ar (m_equal a b body) (marks rest) (fits_right ar (marks body) (marks rest) fits)) best.2)
    steps_few (m_step binds (m_loop result body) rest) ar closing straight fits best =
        let source = best.1.1.0 in
        let at = best.1.1.1 in
        let made = best.1.1.2 in
        let here = fits_left ar (marks body) (marks rest) fits in
        let inside : Fits (in_loop set ar result) (marks body) = record {
          known = here.known;
          passed = λ i r c e. passed_loop set ar r result source at (member_found source r.iterators (needed_here set.rules (marks body) (marks rest) (loop_test source) made.rules i r c e)) (here.passed i r c e);
        } in
        add_up ar (marks body) (marks rest) (steps_of (plain set.rules body)) (steps_of (plain set.rules rest)) made.some_rule straight fits
        (subst (λ n. steps_of (plain set.rules body) ≤ cost set.rules n (marks body)) (ap (λ l. length ar.tested + length ar.joined + length (l ++ ar.looped)) (sources_there set result source at) ∙ one_loop (length ar.tested) (length ar.joined) (length ar.looped))
        (steps_few body (in_loop set ar result) false (straight_loop set ar straight result source at made.test.open_here) inside best.1.2))
        (steps_few rest (after_step set ar (m_loop result body)) (is_return (m_loop result body)) (straight_after set ar straight (m_loop result body)) (fits_after ar (m_loop result body) (marks rest) (fits_right ar (marks body) (marks rest) fits)) best.2)
    steps_few (m_step binds (m_return rule) rest) ar closing straight fits best =
        let a = steps_few rest (after_step set ar (m_return rule)) true (straight_after set ar straight (m_return rule)) (fits_after ar (m_return rule) (marks rest) (fits_right ar (rule ∷ []) (marks rest) fits)) best.2 in
        let b = sum_by-cons (left_of set.rules (path ar)) rule (marks rest) in
        let c = below_all ar (rule ∷ marks rest) straight fits rule (in_head rule (marks rest)) in
        let d = return_steps (slice_get set.rules rule) in
        one_return (steps_in (return_of (slice_get set.rules rule))) (steps_of (plain set.rules rest)) (cost set.rules (path ar) (marks rest)) (most_of (slice_get set.rules rule)) (path ar) (cost set.rules (path ar) (rule ∷ marks rest)) d a c b

    arms_few : (arms : MarkedArms) (ar : Around) (source : ℕ) (before : Option Constraint) → IsOpen set ar (match_test source) → IsStraight ar → Fits ar (marks_arms arms) → BestArms set ar source before arms
        → steps_among (plain_arms set.rules arms) ≤ cost set.rules (suc (path ar)) (marks_arms arms)
    arms_few m_no_arm ar source before free straight fits best = omega arith
    arms_few (m_arm constraint fields body rest) ar source before free straight fits best =
        let here = fits_left ar (marks body) (marks_arms rest) fits in
        let inside : Fits (in_arm set ar source constraint fields) (marks body) = record {
          known = here.known;
          passed = λ i r c e. passed_arm set ar r source constraint fields (best.2 i r c e) (here.passed i r c e);
        } in
        let a = subst (λ n. steps_of (plain set.rules body) ≤ cost set.rules n (marks body)) (one_arm (length ar.tested) (length ar.joined) (length ar.looped)) (steps_few body (in_arm set ar source constraint fields) false (straight_arm set ar straight source constraint fields free) inside best.4) in
        let b = arms_few rest ar source (Some constraint) free straight (fits_right ar (marks body) (marks_arms rest) fits) best.5 in
        let c = sum_by-append (left_of set.rules (suc (path ar))) (marks body) (marks_arms rest) in
        two (steps_of (plain set.rules body)) (steps_among (plain_arms set.rules rest)) (cost set.rules (suc (path ar)) (marks body)) (cost set.rules (suc (path ar)) (marks_arms rest)) (cost set.rules (suc (path ar)) (marks body ++ marks_arms rest)) a b c

-- 3. the rules of a set, each once
abbrev places : {X : Type 0} → List X → List ℕ
places [] = []
places (x ∷ xs) = 0 ∷ map suc (places xs)

in_places : {X : Type 0} (xs : List X) (i : ℕ) → i < length xs → Contains (places xs) i
in_places [] i l = absurd (omega arith)
in_places (x ∷ xs) zero l = in_head 0 (map suc (places xs))
in_places (x ∷ xs) (suc i) l = in_tail 0 (suc i) (map suc (places xs)) (in_map suc (places xs) i (in_places xs i (omega arith)))

sum_mapped : (f : ℕ → ℕ) (xs : List ℕ) → sum_by f (map suc xs) ≡ sum_by (λ i. f (suc i)) xs
sum_mapped f [] = refl
sum_mapped f (x ∷ xs) = sum_by-cons f (suc x) (map suc xs) ∙ ap (λ n. f (suc x) + n) (sum_mapped f xs) ∙ sym (sum_by-cons (λ i. f (suc i)) x xs)

all_costs : (rules : List SetRule) → cost rules 0 (places rules) ≡ sum_by most_steps rules
all_costs [] = refl
all_costs (r ∷ rules) = grind (arith, common_steps, all_costs rules, sum_by-cons, sum_mapped)

counted : (x : ℕ) (xs : List ℕ) → is_in x xs ≡ true → 1 ≤ count_by (λ j. j == x) xs
counted x [] h = absurd (false≢true h)
counted x (y ∷ ys) h = grind (arith, common_steps, counted x ys, sum_by-cons, or_cases)

pub once_distinct : (xs : List ℕ) → ((i : ℕ) → Contains xs i → count_by (λ j. j == i) xs ≤ 1) → are_distinct xs ≡ true
once_distinct [] h = refl
once_distinct (x ∷ xs) h =
    and_from (not (is_in x xs)) (are_distinct xs) ((not_exact (is_in x xs)).1 alone)
    (once_distinct xs (λ i c. let s = sum_by-cons (λ j. cond (j == i) 1 0) x xs in let k = h i (in_tail x i xs c) in omega arith))
  where
    alone : is_in x xs ≡ false
    alone =
        elim (cases_Bool (is_in x xs)) [
          | inl t ↦
              let s = sum_by-cons (λ j. cond (j == x) 1 0) x xs in
              let k = h x (in_head x xs) in
              let c : ◌≡◌ {A = ℕ} (cond (x == x) 1 0) 1 = cond-true (x == x) 1 0 (eq-eqb x x refl) in
              let d = counted x xs t in
              absurd (omega arith)
          | inr f ↦ f
        ]

pub steps_are_few_lem : StepsAreFew
steps_are_few_lem set m returns best =
    let known : (i : ℕ) → Contains (marks m) i → i < length set.rules = λ i c. All-contains (λ j. j < length set.rules) (marks m) i returns.known c in
    let few = steps_few set m nothing_around false straight_at_start (record { known = known; passed = λ i r c e. passed_at_start r }) best in
    let once = once_distinct (marks m) (λ i c. let e = returns.once i (known i c) in omega arith) in
    let all = distinct_sum (left_of set.rules 0) (marks m) (places set.rules) once (λ i c. in_places set.rules i (known i c)) in
    let e = all_costs set.rules in
    total (steps_of (plain set.rules m)) (cost set.rules 0 (marks m)) (cost set.rules 0 (places set.rules)) (sum_by most_steps set.rules) few all e
  where
    total : (x y z w : ℕ) → x ≤ y → y ≤ z → z ≡ w → x ≤ w
    total x y z w a b e = omega arith

pub steps_make_best_trees_lem : StepsMakeBestTrees
steps_make_best_trees_lem set tree m returns best = grind (arith, common_steps, steps_are_few_lem, sites_are_tested_once_lem)
