-- A set whose sites stand once has one best tree.
use Rattle.std.proofs.Common.{◌≡◌, ◌⊎◌, ℕ, ◌<◌, Bool, true, false, not, ◌&&◌, ◌||◌, List, [], ◌∷◌, ◌++◌, length, Option, Some, None, slice_get, Contains, filter, refl, sym, ap, ◌∙◌, subst, subst₂, inl, inr, arith}
use Rattle.std.specs.List.{list_all}
use Rattle.std.proofs.lemmas.Bool.{cases_Bool, cond-true, cond-false, and_parts, and_from, or_cases, false≢true}
use Rattle.std.proofs.lemmas.Option.{same_Some}
use Rattle.std.proofs.lemmas.List.Elements.{Contains-append_left, Contains-append_right, Contains-append_cases, All-contains}
use Rattle.std.proofs.lemmas.Grind.{common_steps}
use Rattle.model.specs.lists.Names.{IsDistinct}
use Rattle.model.specs.sites.Sites.{iterator_site, Constraint, SetRule, SiteSet}
use Rattle.model.specs.trees.Trees.{Marked, m_no_step, m_step, MarkedCheck, m_match, m_equal, m_loop, m_return, MarkedArms, m_no_arm, m_arm, marks, marks_check, marks_arms, plain}
use Rattle.model.specs.trees.Places.{Around, nothing_around, is_in, constraint_at, uses, bind_order, fields_of, in_arm, in_equal, in_loop, after_step}
use Rattle.model.specs.trees.Sound.{comes_before, AllAsk, is_return}
use Rattle.model.specs.trees.Tests.{Test, match_test, equal_test, loop_test, needs_at, is_lower, is_covered, cover, score, is_greater}
use Rattle.model.specs.trees.Best.{IsGreatest, IsMade, IsEnd, BestSteps, BestCheck, BestArms, are_distinct, comes_first, descend}
use Rattle.model.proofs.Members.{nothing_in, in_head, in_cases, some_member, get_within, member_counted, each_passes, all_pass, in_filter, from_filter, member_found, member_is_in}
use Rattle.laws_trees.specs.OneTree.{BestTreesAreOne}
use Rattle.laws_trees.proofs.Counting.{distinct_within}
use Rattle.laws_trees.proofs.Covers.{first_at_least, at_least_not_lower}
use Rattle.laws_trees.proofs.JudgeExactness.{not_exact}
use Rattle.laws_trees.proofs.StepCounts.{once_distinct}
use Rattle.laws_trees.proofs.Scores.{one_test_is_greatest_lem}
use Rattle.laws_trees.proofs.runs.Order.{before_chain, before_itself}

-- 1. lists with the same members, none of which stands twice
pub record Same (xs ys : List ℕ) : Type 0 where
  pub to : (i : ℕ) → Contains xs i → Contains ys i
  pub from : (i : ℕ) → Contains ys i → Contains xs i

turned : (xs ys : List ℕ) → Same xs ys → Same ys xs
turned xs ys s = record { to = s.from; from = s.to }

absent : (x : ℕ) (xs : List ℕ) → (Contains xs x → ⊥) → not (is_in x xs) ≡ true
absent x xs h = (not_exact (is_in x xs)).1 (elim (cases_Bool (is_in x xs)) [ inl t ↦ absurd (h (member_found x xs t)) | inr f ↦ f ])

away : (x : ℕ) (xs : List ℕ) → not (is_in x xs) ≡ true → Contains xs x → ⊥
away x xs h c = false≢true (sym ((not_exact (is_in x xs)).0 h) ∙ member_is_in x xs c)

distinct_left : (xs ys : List ℕ) → are_distinct (xs ++ ys) ≡ true → are_distinct xs ≡ true
distinct_left [] ys h = refl
distinct_left (x ∷ xs) ys h = grind (arith, common_steps, distinct_left xs ys, and_parts, and_from, absent, away)

distinct_right : (xs ys : List ℕ) → are_distinct (xs ++ ys) ≡ true → are_distinct ys ≡ true
distinct_right [] ys h = h
distinct_right (x ∷ xs) ys h = distinct_right xs ys (and_parts (not (is_in x (xs ++ ys))) (are_distinct (xs ++ ys)) h).1

never_both : (xs ys : List ℕ) → are_distinct (xs ++ ys) ≡ true → (i : ℕ) → Contains xs i → Contains ys i → ⊥
never_both [] ys h i c d = nothing_in i c
never_both (x ∷ xs) ys h i c d =
    let p = and_parts (not (is_in x (xs ++ ys))) (are_distinct (xs ++ ys)) h in
    elim (in_cases x i xs c) [
      | inl e ↦ away x (xs ++ ys) p.0 (Contains-append_right xs ys x (subst (Contains ys) (sym e) d))
      | inr k ↦ never_both xs ys p.1 i k d
    ]

filter_distinct : (p : ℕ → Bool) (xs : List ℕ) → are_distinct xs ≡ true → are_distinct (filter p xs) ≡ true
filter_distinct p [] h = refl
filter_distinct p (x ∷ xs) h =
    let q = and_parts (not (is_in x xs)) (are_distinct xs) h in
    let rest = filter_distinct p xs q.1 in
    elim (cases_Bool (p x)) [
      | inl t ↦
          subst (λ l. are_distinct l ≡ true) (sym (cond-true (p x) (x ∷ filter p xs) (filter p xs) t))
          (and_from (not (is_in x (filter p xs))) (are_distinct (filter p xs)) (absent x (filter p xs) (λ c. away x xs q.0 (from_filter p xs x c).0)) rest)
      | inr f ↦ subst (λ l. are_distinct l ≡ true) (sym (cond-false (p x) (x ∷ filter p xs) (filter p xs) f)) rest
    ]

same_length : (xs ys : List ℕ) → are_distinct xs ≡ true → are_distinct ys ≡ true → Same xs ys → length xs ≡ length ys
same_length xs ys h k s = (let a = distinct_within xs ys h s.to in let b = distinct_within ys xs k s.from in omega arith)

all_same : (p : ℕ → Bool) (xs ys : List ℕ) → Same xs ys → list_all p xs ≡ list_all p ys
all_same p xs ys s =
    elim (cases_Bool (list_all p xs)) [
      | inl t ↦ t ∙ sym (all_pass p ys (λ x c. each_passes p xs t x (s.from x c)))
      | inr f ↦
          elim (cases_Bool (list_all p ys)) [
            | inl t ↦ absurd (false≢true (sym f ∙ all_pass p xs (λ x c. each_passes p ys t x (s.to x c))))
            | inr g ↦ f ∙ sym g
          ]
    ]

-- what follows the same members has the same members
rest_same : (xs ys zs ws : List ℕ) → are_distinct (xs ++ ys) ≡ true → are_distinct (zs ++ ws) ≡ true → Same (xs ++ ys) (zs ++ ws) → Same xs zs → Same ys ws
rest_same xs ys zs ws h k s f = record {
  to = λ i c. elim (Contains-append_cases zs ws i (s.to i (Contains-append_right xs ys i c))) [ inl z ↦ absurd (never_both xs ys h i (f.from i z) c) | inr w ↦ w ];
  from = λ i c. elim (Contains-append_cases xs ys i (s.from i (Contains-append_right zs ws i c))) [ inl z ↦ absurd (never_both zs ws k i (f.to i z) c) | inr w ↦ w ];
}

-- the same rules in two lists, none of which stands twice
record SameRules (xs ys : List ℕ) : Type 0 where
  once : are_distinct xs ≡ true
  other_once : are_distinct ys ≡ true
  same : Same xs ys

turned_rules : {xs ys : List ℕ} → SameRules xs ys → SameRules ys xs
turned_rules {xs} {ys} s = record { once = s.other_once; other_once = s.once; same = turned xs ys s.same }

-- parts of them
left_same : (xs ys zs ws : List ℕ) → SameRules (xs ++ ys) (zs ++ ws) → Same xs zs → SameRules xs zs
left_same xs ys zs ws s f = record { once = distinct_left xs ys s.once; other_once = distinct_left zs ws s.other_once; same = f }

right_same : (xs ys zs ws : List ℕ) → SameRules (xs ++ ys) (zs ++ ws) → Same xs zs → SameRules ys ws
right_same xs ys zs ws s f = record { once = distinct_right xs ys s.once; other_once = distinct_right zs ws s.other_once; same = rest_same xs ys zs ws s.once s.other_once s.same f }

-- 2. covers, scores and greatest tests are of the members alone
covered_same : (rules : List SetRule) (t : Test) (xs ys : List ℕ) → Same xs ys → (i : ℕ) → is_covered rules xs t i ≡ is_covered rules ys t i
covered_same rules t xs ys s i = ap (λ b. needs_at rules t i && b) (all_same (λ j. needs_at rules t j || not (is_lower rules i j)) xs ys s)

cover_to : (rules : List SetRule) (t : Test) (xs ys : List ℕ) → Same xs ys → (i : ℕ) → Contains (cover rules xs t) i → Contains (cover rules ys t) i
cover_to rules t xs ys s i c = (let q = from_filter (is_covered rules xs t) xs i c in in_filter (is_covered rules ys t) ys i (s.to i q.0) (sym (covered_same rules t xs ys s i) ∙ q.1))

cover_same : (rules : List SetRule) (t : Test) (xs ys : List ℕ) → Same xs ys → Same (cover rules xs t) (cover rules ys t)
cover_same rules t xs ys s = record { to = cover_to rules t xs ys s; from = cover_to rules t ys xs (turned xs ys s) }

cover_length : (rules : List SetRule) (t : Test) {xs ys : List ℕ} → SameRules xs ys → length (cover rules xs t) ≡ length (cover rules ys t)
cover_length rules t {xs} {ys} s = grind (arith, common_steps, same_length, filter_distinct, cover_same)

module _ (set : SiteSet) {xs ys : List ℕ} (s : SameRules xs ys) where
  score_same : (ar : Around) (t : Test) → score set ar xs t ≡ score set ar ys t
  score_same ar t = grind (arith, common_steps, cover_length)

  greatest_same : (ar : Around) (t : Test) → IsGreatest set ar xs t → IsGreatest set ar ys t
  greatest_same ar t g = record { open_here = g.open_here; greatest = λ u o. subst₂ (λ a b. is_greater a b ≡ false) (score_same ar u) (score_same ar t) (g.greatest u o) }

-- 3. at a place one test is made, for the same rules
one_test : (set : SiteSet) (ar : Around) {held later held' later' : List ℕ} → SameRules (held ++ later) (held' ++ later') → (t u : Test) → IsMade set ar held later t → IsMade set ar held' later' u → t ≡ u
one_test set ar {held} {later} s t u m n =
    let o = one_test_is_greatest_lem set ar (held ++ later) t m.test.open_here in
    o.2 t m.test ∙ sym (o.2 u (greatest_same set (turned_rules s) ar u n.test))

held_same : (set : SiteSet) (ar : Around) {held later held' later' : List ℕ} → SameRules (held ++ later) (held' ++ later') → (t u : Test) → IsMade set ar held later t → IsMade set ar held' later' u → Same held held'
held_same set ar {held} {later} {held'} {later'} s t u m n = grind (arith, common_steps, one_test, cover_same)

-- a test is made in one tree alone where the other one's block doesn't end
no_end : (set : SiteSet) (ar : Around) {held later here : List ℕ} → SameRules (held ++ later) here → (t : Test) → IsMade set ar held later t → IsEnd set ar here → ⊥
no_end set ar {held} {later} {here} s t m end =
    let i = some_member held m.some_rule in
    let c = cover_same set.rules t (held ++ later) here s.same in
    nothing_in i.0 (subst (λ l. Contains l i.0) (end.over t m.test.open_here) (c.to i.0 (subst (λ l. Contains l i.0) (sym m.rules) i.1)))

-- what a test is
abbrev form_of : Test → ℕ
form_of (match_test a) = 0
form_of (equal_test a b) = 1
form_of (loop_test a) = 2

abbrev site_of : Test → ℕ
site_of (match_test a) = a
site_of (equal_test a b) = a
site_of (loop_test a) = a

abbrev other_of : Test → ℕ
other_of (match_test a) = 0
other_of (equal_test a b) = b
other_of (loop_test a) = 0

-- 4. of two rules one stands first
module _ (rules : List SetRule) where
  first_once : (i j : ℕ) → comes_first rules i j ≡ true → comes_first rules j i ≡ true → ⊥
  first_once i j a b = grind (arith, common_steps, first_at_least, at_least_not_lower, or_cases, and_parts)

  one_first : (i j : ℕ) (xs ys : List ℕ) → descend rules (i ∷ xs) ≡ true → descend rules (j ∷ ys) ≡ true → Same (i ∷ xs) (j ∷ ys) → i ≡ j
  one_first i j xs ys h k s =
      elim (in_cases j i ys (s.to i (in_head i xs))) [
        | inl e ↦ sym e
        | inr a ↦
            elim (in_cases i j xs (s.from j (in_head j ys))) [
              | inl e ↦ e
              | inr b ↦
                  absurd (first_once i j
                  (each_passes (comes_first rules i) xs (and_parts (list_all (comes_first rules i) xs) (descend rules xs) h).0 j b)
                  (each_passes (comes_first rules j) ys (and_parts (list_all (comes_first rules j) ys) (descend rules ys) k).0 i a))
            ]
      ]

-- 5. trees
module _ (set : SiteSet) (sites_once : IsDistinct set.sites) where
  abbrev Known : List ℕ → Type 0
  Known ids = (i : ℕ) → Contains ids i → i < length set.rules

  abbrev Asks : ℕ → ℕ → Constraint → Type 0
  Asks s i c = (r : SetRule) × (slice_get set.rules i ≡ Some r) × (constraint_at r.constraints s ≡ Some c)

  asks_one : (s i : ℕ) (c d : Constraint) → Asks s i c → Asks s i d → c ≡ d
  asks_one s i c d x y = same_Some c d (sym x.2 ∙ ap (λ (r : SetRule). constraint_at r.constraints s) (same_Some x.0 y.0 (sym x.1 ∙ y.1)) ∙ y.2)

  asks_in : (here : List ℕ) (s : ℕ) (c : Constraint) → Known here → AllAsk set.rules here s c → (i : ℕ) → Contains here i → Asks s i c
  asks_in here s c known all i k = (let r = get_within set.rules i (known i k) in (r.0, r.1, all i r.0 k r.1))

  known_left : (xs ys : List ℕ) → Known (xs ++ ys) → Known xs
  known_left xs ys f i c = f i (Contains-append_left xs ys i c)

  known_right : (xs ys : List ℕ) → Known (xs ++ ys) → Known ys
  known_right xs ys f i c = f i (Contains-append_right xs ys i c)

  -- rules of later arms ask for later constraints
  later_asks : (arms : MarkedArms) (ar : Around) (source : ℕ) (c : Constraint) → Known (marks_arms arms) → BestArms set ar source (Some c) arms
      → (i : ℕ) → Contains (marks_arms arms) i → (d : Constraint) × Asks source i d × (comes_before c d ≡ true)
  later_asks m_no_arm ar source c known best i k = absurd (nothing_in i k)
  later_asks (m_arm constraint fields body rest) ar source c known best i k =
      elim (Contains-append_cases (marks body) (marks_arms rest) i k) [
        | inl b ↦ (constraint, asks_in (marks body) source constraint (known_left (marks body) (marks_arms rest) known) best.2 i b, best.0)
        | inr r ↦
            let x = later_asks rest ar source constraint (known_right (marks body) (marks_arms rest) known) best.5 i r in
            (x.0, x.1, before_chain c constraint x.0 best.0 x.2)
      ]

  rest_ordered : (check : MarkedCheck) (ar : Around) (closing : Bool) (later : List ℕ) → BestCheck set ar closing later check
      → (closing ≡ true → descend set.rules (marks_check check ++ later) ≡ true) → is_return check ≡ true → descend set.rules later ≡ true
  rest_ordered check ar closing later best d r = grind (arith, common_steps)

  some_marks : (check : MarkedCheck) (ar : Around) (closing : Bool) (later : List ℕ) → BestCheck set ar closing later check → (i : ℕ) × Contains (marks_check check) i
  some_marks (m_match source arms) ar closing later best = some_member (marks_arms arms) best.1.some_rule
  some_marks (m_equal a b body) ar closing later best = some_member (marks body) best.1.some_rule
  some_marks (m_loop result body) ar closing later best = some_member (marks body) best.1.2.some_rule
  some_marks (m_return rule) ar closing later best = (rule, in_head rule [])

  -- what a rule of some arm asks is the first arm's constraint, or comes after it
  least : (c : Constraint) (body : Marked) (rest : MarkedArms) (ar : Around) (source : ℕ) → Known (marks body) → Known (marks_arms rest) → AllAsk set.rules (marks body) source c → BestArms set ar source (Some c) rest
      → (i : ℕ) (d : Constraint) → Contains (marks body ++ marks_arms rest) i → Asks source i d → (c ≡ d) ⊎ (comes_before c d ≡ true)
  least c body rest ar source kl kr all best i d z a =
      elim (Contains-append_cases (marks body) (marks_arms rest) i z) [
        | inl b ↦ inl (asks_one source i c d (asks_in (marks body) source c kl all i b) a)
        | inr r ↦ let q = later_asks rest ar source c kr best i r in inr (subst (λ w. comes_before c w ≡ true) (asks_one source i q.0 d q.1 a) q.2)
      ]

  -- a rule of some arm that asks for the first arm's constraint is in the first arm
  in_first : (c : Constraint) (body : Marked) (rest : MarkedArms) (ar : Around) (source : ℕ) → Known (marks_arms rest) → BestArms set ar source (Some c) rest
      → (i : ℕ) → Asks source i c → Contains (marks body ++ marks_arms rest) i → Contains (marks body) i
  in_first c body rest ar source kr best i a z = grind (arith, common_steps, later_asks rest ar source c kr best i, before_itself c, asks_one source i)

  mutual
    steps_same : (m n : Marked) (ar : Around) (closing : Bool) → Known (marks m) → Known (marks n) → SameRules (marks m) (marks n)
        → (closing ≡ true → descend set.rules (marks m) ≡ true) → (closing ≡ true → descend set.rules (marks n) ≡ true)
        → BestSteps set ar closing m → BestSteps set ar closing n → m ≡ n
    steps_same m_no_step m_no_step ar closing km kn s d e x y = refl
    steps_same m_no_step (m_step binds check rest) ar closing km kn s d e x y =
        let i = some_marks check ar closing (marks rest) y.1 in absurd (nothing_in i.0 (s.same.from i.0 (Contains-append_left (marks_check check) (marks rest) i.0 i.1)))
    steps_same (m_step binds check rest) m_no_step ar closing km kn s d e x y =
        let i = some_marks check ar closing (marks rest) x.1 in absurd (nothing_in i.0 (s.same.to i.0 (Contains-append_left (marks_check check) (marks rest) i.0 i.1)))
    steps_same (m_step binds check rest) (m_step binds' check' rest') ar closing km kn s d e x y =
        let c : check ≡ check' = check_same check check' ar closing (marks rest) (marks rest') km kn s d e x.1 y.1 in
        let b : binds ≡ binds' = x.0 ∙ ap (λ q. bind_order set.sites ar (uses set q)) c ∙ sym y.0 in
        let here : Same (marks_check check) (marks_check check') = subst (λ q. Same (marks_check check) (marks_check q)) c (record { to = λ i z. z; from = λ i z. z }) in
        let r : rest ≡ rest' =
        steps_same rest rest' (after_step set ar check) (is_return check)
        (known_right (marks_check check) (marks rest) km) (known_right (marks_check check') (marks rest') kn)
        (right_same (marks_check check) (marks rest) (marks_check check') (marks rest') s here)
        (rest_ordered check ar closing (marks rest) x.1 d)
        (λ t. rest_ordered check' ar closing (marks rest') y.1 e (sym (ap is_return c) ∙ t))
        x.2 (subst (λ q. BestSteps set (after_step set ar q) (is_return q) rest') (sym c) y.2) in
        λ i. m_step (b i) (c i) (r i)

    check_same : (check check' : MarkedCheck) (ar : Around) (closing : Bool) (later later' : List ℕ) → Known (marks_check check ++ later) → Known (marks_check check' ++ later')
        → SameRules (marks_check check ++ later) (marks_check check' ++ later')
        → (closing ≡ true → descend set.rules (marks_check check ++ later) ≡ true) → (closing ≡ true → descend set.rules (marks_check check' ++ later') ≡ true)
        → BestCheck set ar closing later check → BestCheck set ar closing later' check' → check ≡ check'
    check_same (m_match source arms) (m_match source' arms') ar closing later later' km kn s d e x y =
        let t = one_test set ar s (match_test source) (match_test source') x.1 y.1 in
        let f = held_same set ar s (match_test source) (match_test source') x.1 y.1 in
        let p : source ≡ source' = ap site_of t in
        let q : arms ≡ arms' =
        arms_same arms arms' ar source None None (known_left (marks_arms arms) later km) (known_left (marks_arms arms') later' kn)
        (left_same (marks_arms arms) later (marks_arms arms') later' s f)
        x.2 (subst (λ z. BestArms set ar z None arms') (sym p) y.2) in
        λ i. m_match (p i) (q i)
    check_same (m_equal a b body) (m_equal a' b' body') ar closing later later' km kn s d e x y =
        let t = one_test set ar s (equal_test a b) (equal_test a' b') x.1 y.1 in
        let f = held_same set ar s (equal_test a b) (equal_test a' b') x.1 y.1 in
        let p : a ≡ a' = ap site_of t in
        let q : b ≡ b' = ap other_of t in
        let r : body ≡ body' =
        steps_same body body' (in_equal set ar a b) false (known_left (marks body) later km) (known_left (marks body') later' kn)
        (left_same (marks body) later (marks body') later' s f) (λ z. absurd (false≢true z)) (λ z. absurd (false≢true z))
        x.2 (subst₂ (λ u v. BestSteps set (in_equal set ar u v) false body') (sym p) (sym q) y.2) in
        λ i. m_equal (p i) (q i) (r i)
    check_same (m_loop result body) (m_loop result' body') ar closing later later' km kn s d e x y =
        let t = one_test set ar s (loop_test x.1.0) (loop_test y.1.0) x.1.2 y.1.2 in
        let f = held_same set ar s (loop_test x.1.0) (loop_test y.1.0) x.1.2 y.1.2 in
        let o : x.1.0 ≡ y.1.0 = ap site_of t in
        let p : result ≡ result' = sites_once result result' (iterator_site x.1.0) x.1.1 (y.1.1 ∙ ap (λ z. Some (iterator_site z)) (sym o)) in
        let r : body ≡ body' =
        steps_same body body' (in_loop set ar result) false (known_left (marks body) later km) (known_left (marks body') later' kn)
        (left_same (marks body) later (marks body') later' s f) (λ z. absurd (false≢true z)) (λ z. absurd (false≢true z))
        x.2 (subst (λ u. BestSteps set (in_loop set ar u) false body') (sym p) y.2) in
        λ i. m_loop (p i) (r i)
    check_same (m_return rule) (m_return rule') ar closing later later' km kn s d e x y = grind (arith, common_steps, one_first)
    check_same (m_match source arms) (m_equal a b body) ar closing later later' km kn s d e x y =
        (let t : ◌≡◌ {A = ℕ} 0 1 = ap form_of (one_test set ar s (match_test source) (equal_test a b) x.1 y.1) in absurd (omega arith))
    check_same (m_match source arms) (m_loop result body) ar closing later later' km kn s d e x y =
        (let t : ◌≡◌ {A = ℕ} 0 2 = ap form_of (one_test set ar s (match_test source) (loop_test y.1.0) x.1 y.1.2) in absurd (omega arith))
    check_same (m_equal a b body) (m_match source arms) ar closing later later' km kn s d e x y =
        (let t : ◌≡◌ {A = ℕ} 1 0 = ap form_of (one_test set ar s (equal_test a b) (match_test source) x.1 y.1) in absurd (omega arith))
    check_same (m_equal a b body) (m_loop result body') ar closing later later' km kn s d e x y =
        (let t : ◌≡◌ {A = ℕ} 1 2 = ap form_of (one_test set ar s (equal_test a b) (loop_test y.1.0) x.1 y.1.2) in absurd (omega arith))
    check_same (m_loop result body) (m_match source arms) ar closing later later' km kn s d e x y =
        (let t : ◌≡◌ {A = ℕ} 2 0 = ap form_of (one_test set ar s (loop_test x.1.0) (match_test source) x.1.2 y.1) in absurd (omega arith))
    check_same (m_loop result body) (m_equal a b body') ar closing later later' km kn s d e x y =
        (let t : ◌≡◌ {A = ℕ} 2 1 = ap form_of (one_test set ar s (loop_test x.1.0) (equal_test a b) x.1.2 y.1) in absurd (omega arith))
    check_same (m_match source arms) (m_return rule) ar closing later later' km kn s d e x y =
        absurd (no_end set ar s (match_test source) x.1 (y x.0))
    check_same (m_equal a b body) (m_return rule) ar closing later later' km kn s d e x y = grind (arith, common_steps, no_end set ar s (equal_test a b) x.1 (y x.0))
    check_same (m_loop result body) (m_return rule) ar closing later later' km kn s d e x y = grind (arith, common_steps, no_end set ar s (loop_test x.1.0) x.1.2 (y x.0))
    check_same (m_return rule) (m_match source arms) ar closing later later' km kn s d e x y =
        absurd (no_end set ar (turned_rules s) (match_test source) y.1 (x y.0))
    check_same (m_return rule) (m_equal a b body) ar closing later later' km kn s d e x y =
        absurd (no_end set ar (turned_rules s) (equal_test a b) y.1 (x y.0))
    check_same (m_return rule) (m_loop result body) ar closing later later' km kn s d e x y =
        absurd (no_end set ar (turned_rules s) (loop_test y.1.0) y.1.2 (x y.0))

    arms_same : (arms arms' : MarkedArms) (ar : Around) (source : ℕ) (before before' : Option Constraint) → Known (marks_arms arms) → Known (marks_arms arms')
        → SameRules (marks_arms arms) (marks_arms arms')
        → BestArms set ar source before arms → BestArms set ar source before' arms' → arms ≡ arms'
    arms_same m_no_arm m_no_arm ar source before before' km kn s x y = refl
    arms_same m_no_arm (m_arm c fields body rest) ar source before before' km kn s x y =
        let i = some_member (marks body) y.1 in absurd (nothing_in i.0 (s.same.from i.0 (Contains-append_left (marks body) (marks_arms rest) i.0 i.1)))
    arms_same (m_arm c fields body rest) m_no_arm ar source before before' km kn s x y =
        let i = some_member (marks body) x.1 in absurd (nothing_in i.0 (s.same.to i.0 (Contains-append_left (marks body) (marks_arms rest) i.0 i.1)))
    arms_same (m_arm c fields body rest) (m_arm c' fields' body' rest') ar source before before' km kn s x y =
        let kl = known_left (marks body) (marks_arms rest) km in
        let kl' = known_left (marks body') (marks_arms rest') kn in
        let kr = known_right (marks body) (marks_arms rest) km in
        let kr' = known_right (marks body') (marks_arms rest') kn in
        let i = some_member (marks body) x.1 in
        let j = some_member (marks body') y.1 in
        let p : c ≡ c' =
        elim (least c' body' rest' ar source kl' kr' y.2 y.5 i.0 c (s.same.to i.0 (Contains-append_left (marks body) (marks_arms rest) i.0 i.1)) (asks_in (marks body) source c kl x.2 i.0 i.1)) [
          | inl q ↦ sym q
          | inr b ↦
              elim (least c body rest ar source kl kr x.2 x.5 j.0 c' (s.same.from j.0 (Contains-append_left (marks body') (marks_arms rest') j.0 j.1)) (asks_in (marks body') source c' kl' y.2 j.0 j.1)) [
                | inl q ↦ q
                | inr a ↦ absurd (before_itself c (before_chain c c' c a b))
              ]
        ] in
        let f : fields ≡ fields' = x.3 ∙ ap (fields_of set.sites source) p ∙ sym y.3 in
        let here : Same (marks body) (marks body') = record {
          to = λ n z. in_first c' body' rest' ar source kr' y.5 n (subst (λ (q : Constraint). Asks source n q) p (asks_in (marks body) source c kl x.2 n z)) (s.same.to n (Contains-append_left (marks body) (marks_arms rest) n z));
          from = λ n z. in_first c body rest ar source kr x.5 n (subst (λ (q : Constraint). Asks source n q) (sym p) (asks_in (marks body') source c' kl' y.2 n z)) (s.same.from n (Contains-append_left (marks body') (marks_arms rest') n z));
        } in
        let b : body ≡ body' =
        steps_same body body' (in_arm set ar source c fields) false kl kl' (left_same (marks body) (marks_arms rest) (marks body') (marks_arms rest') s here)
        (λ z. absurd (false≢true z)) (λ z. absurd (false≢true z))
        x.4 (subst₂ (λ u v. BestSteps set (in_arm set ar source u v) false body') (sym p) (sym f) y.4) in
        let r : rest ≡ rest' =
        arms_same rest rest' ar source (Some c) (Some c') kr kr' (right_same (marks body) (marks_arms rest) (marks body') (marks_arms rest') s here) x.5 y.5 in
        λ n. m_arm (p n) (f n) (b n) (r n)

pub best_trees_are_one_lem : BestTreesAreOne
best_trees_are_one_lem set a b sites_once x y =
    let m = x.marked in
    let n = y.marked in
    let km : (i : ℕ) → Contains (marks m) i → i < length set.rules = λ i c. All-contains (λ j. j < length set.rules) (marks m) i x.returns.known c in
    let kn : (i : ℕ) → Contains (marks n) i → i < length set.rules = λ i c. All-contains (λ j. j < length set.rules) (marks n) i y.returns.known c in
    let h = once_distinct (marks m) (λ i c. let e = x.returns.once i (km i c) in omega arith) in
    let k = once_distinct (marks n) (λ i c. let e = y.returns.once i (kn i c) in omega arith) in
    let s : Same (marks m) (marks n) = record {
      to = λ i c. member_counted i (marks n) (y.returns.once i (km i c));
      from = λ i c. member_counted i (marks m) (x.returns.once i (kn i c));
    } in
    let same : m ≡ n = steps_same set sites_once m n nothing_around false km kn (record { once = h; other_once = k; same = s }) (λ z. absurd (false≢true z)) (λ z. absurd (false≢true z)) x.steps y.steps in
    sym x.returns.same ∙ ap (plain set.rules) same ∙ y.returns.same
