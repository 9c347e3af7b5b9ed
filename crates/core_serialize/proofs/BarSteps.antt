-- The bar of a test, and what it says of the test's cover.
use Rattle.std.proofs.Common.{◌≡◌, ℕ, Bool, true, false, not, ◌&&◌, ◌||◌, List, [], ◌∷◌, Option, Some, Contains, refl, sym, ap, ◌∙◌, subst, inl, inr, slice_get, length, take, drop, suc, ◌+◌, ◌-◌, ◌<◌, ◌≤◌, get_or, arith}
use Rattle.std.specs.List.{filter, find, list_all, list_any, prefix_len}
use Rattle.std.proofs.lemmas.Bool.{cases_Bool, cond-true, cond-false, and_parts, and_from, false≢true, or_cases, or_left, or_right}
use Rattle.std.proofs.Math.Bool.{and-true, and-false}
use Rattle.std.proofs.lemmas.List.{length-drop, take_all}
use Rattle.std.proofs.lemmas.List.Filters.{length-filter_both}
use Rattle.std.proofs.lemmas.Option.{slice_get-get_or}
use Rattle.std.proofs.lemmas.Grind.{common_steps}
use Rattle.model.specs.sites.Sites.{SetRule}
use Rattle.model.specs.trees.Best.{descend}
use Rattle.model.specs.trees.Tests.{Test, needs_at, is_lower, is_covered, cover}
use Rattle.model.proofs.Elements.{contains_from_in, in_slice, none_some}
use Rattle.model.proofs.Members.{nothing_in, in_cases, in_head, in_tail, in_filter, each_passes, all_pass, passes_any}
use Rattle.laws_trees.proofs.Covers.{prio_at, not_lower_at_least, at_least_not_lower, first_is_top, descend_rest}
use Rattle.laws_trees.proofs.JudgeExactness.{not_exact}
use Rattle.laws_trees.proofs.runs.ChosenRules.{through}
use Rattle.laws_sites.proofs.overlaps.Overlaps.{bool_same}
use Rattle.core_serialize.specs.Bars.{reaches, is_at_bar, IsBar}
use Rattle.core_serialize.proofs.Descents.{all_kept, none_kept, descend_drop, reaching_first}
use Rattle.core_serialize.proofs.TestSteps.{kept_alike}

module _ (rules : List SetRule) where
  abbrev waits : Test → ℕ → ℕ → Bool
  waits t i j = needs_at rules t j || not (is_lower rules i j)

  -- 1. of rules in order the first that doesn't need a test is its bar
  pub first_is_bar : (t : Test) (here : List ℕ) → descend rules here ≡ true → IsBar rules here t (find (λ i. not (needs_at rules t i)) here)
  first_is_bar t [] h i = refl
  first_is_bar t (x ∷ xs) h i =
      elim (cases_Bool (needs_at rules t x)) [
        | inl y ↦ grind (arith, common_steps, first_is_bar t xs (descend_rest rules x xs h) i, descend_rest rules x xs h)
        | inr f ↦
            ap (λ b. (b || not (is_lower rules i x)) && list_all (waits t i) xs) f
            ∙ bool_same (not (is_lower rules i x) && list_all (waits t i) xs) (not (is_lower rules i x)) (λ k. (and_parts (not (is_lower rules i x)) (list_all (waits t i) xs) k).0)
            (λ k. and_from (not (is_lower rules i x)) (list_all (waits t i) xs) k (all_pass (waits t i) xs (behind k)))
            ∙ ap (λ b. reaches rules b i) (sym (cond-true (not (needs_at rules t x)) (Some x) (find (λ j. not (needs_at rules t j)) xs) (ap not f)))
      ]
    where
      behind : not (is_lower rules i x) ≡ true → (j : ℕ) → Contains xs j → waits t i j ≡ true
      behind k j c =
          or_right (needs_at rules t j) (not (is_lower rules i j))
          ((not_exact (is_lower rules i j)).1
          (at_least_not_lower rules i j
          (through (prio_at rules j) (prio_at rules x) (prio_at rules i) (first_is_top rules x xs h j (in_tail x j xs c)) (not_lower_at_least rules i x ((not_exact (is_lower rules i x)).0 k)))))

  -- 2. a test covers what needs it and isn't below its bar
  covered_at_bar : (here : List ℕ) (t : Test) (bar : Option ℕ) → IsBar rules here t bar → (i : ℕ) → is_at_bar rules t bar i ≡ is_covered rules here t i
  covered_at_bar here t bar h i = ap (λ b. needs_at rules t i && b) (sym (h i))

  pub cover_at_bar : (here : List ℕ) (t : Test) (bar : Option ℕ) → IsBar rules here t bar → filter (is_at_bar rules t bar) here ≡ cover rules here t
  cover_at_bar here t bar h = kept_alike (is_at_bar rules t bar) (is_covered rules here t) here (λ i c. covered_at_bar here t bar h i)

  pub others_at_bar : (here : List ℕ) (t : Test) (bar : Option ℕ) → IsBar rules here t bar → filter (λ i. not (is_at_bar rules t bar i)) here ≡ filter (λ i. not (is_covered rules here t i)) here
  others_at_bar here t bar h = kept_alike (λ i. not (is_at_bar rules t bar i)) (λ i. not (is_covered rules here t i)) here (λ i c. ap not (covered_at_bar here t bar h i))

  -- counted among those that reach the bar
  pub needing_reach : (here : List ℕ) (t : Test) (bar : Option ℕ) → IsBar rules here t bar → filter (needs_at rules t) (filter (reaches rules bar) here) ≡ cover rules here t
  needing_reach here t bar h = twice here ∙ cover_at_bar here t bar h
    where
      twice : (xs : List ℕ) → filter (needs_at rules t) (filter (reaches rules bar) xs) ≡ filter (is_at_bar rules t bar) xs
      twice [] = refl
      twice (x ∷ xs) = grind (arith, common_steps, twice xs, and-true (needs_at rules t x), and-false (needs_at rules t x))

  -- 3. the rules at the head that need a test, and the first that doesn't
  abbrev leading : Test → List ℕ → ℕ
  leading t here = prefix_len (needs_at rules t) here

  one_leads : (t : Test) (x : ℕ) (xs : List ℕ) → needs_at rules t x ≡ true → leading t (x ∷ xs) ≡ suc (leading t xs)
  one_leads t x xs y = let n = leading t xs in let e : 1 + n ≡ suc n = omega arith in cond-true (needs_at rules t x) (1 + n) 0 y ∙ e

  none_leads : (t : Test) (x : ℕ) (xs : List ℕ) → needs_at rules t x ≡ false → leading t (x ∷ xs) ≡ 0
  none_leads t x xs f = cond-false (needs_at rules t x) (1 + leading t xs) 0 f

  -- the first stands behind them
  first_behind : (t : Test) (here : List ℕ) → find (λ i. not (needs_at rules t i)) here ≡ slice_get here (leading t here)
  first_behind t [] = refl
  first_behind t (x ∷ xs) = grind (arith, common_steps, first_behind t xs, one_leads t x xs, none_leads t x xs)

  pub behind_is_bar : (t : Test) (here : List ℕ) (b n : ℕ) → descend rules here ≡ true → n ≡ leading t here → slice_get here n ≡ Some b → IsBar rules here t (Some b)
  behind_is_bar t here b n o e s = subst (IsBar rules here t) (first_behind t here ∙ ap (slice_get here) (sym e) ∙ s) (first_is_bar t here o)

  -- where each rule needs it, all are covered
  each_needs : (t : Test) (here : List ℕ) → leading t here ≡ length here → (i : ℕ) → Contains here i → needs_at rules t i ≡ true
  each_needs t [] e i c = absurd (nothing_in i c)
  each_needs t (x ∷ xs) e i c = grind (arith, common_steps, each_needs t xs, one_leads t x xs, in_cases x i xs c, none_leads t x xs)

  all_covered : (t : Test) (here : List ℕ) → leading t here ≡ length here → (i : ℕ) → Contains here i → is_covered rules here t i ≡ true
  all_covered t here e i c =
      and_from (needs_at rules t i) (list_all (waits t i) here) (each_needs t here e i c)
      (all_pass (waits t i) here (λ j d. or_left (needs_at rules t j) (not (is_lower rules i j)) (each_needs t here e j d)))

  pub whole_cover : (t : Test) (here : List ℕ) → leading t here ≡ length here → cover rules here t ≡ here
  whole_cover t here e = all_kept (is_covered rules here t) here (all_covered t here e)

  pub no_others : (t : Test) (here : List ℕ) → leading t here ≡ length here → filter (λ i. not (is_covered rules here t i)) here ≡ []
  no_others t here e = none_kept (λ i. not (is_covered rules here t i)) here (λ i c. ap not (all_covered t here e i c))

  -- else the others are counted behind the bar
  abbrev needing_at : Test → ℕ → List ℕ → List ℕ
  needing_at t b xs = filter (needs_at rules t) (filter (reaches rules (Some b)) xs)

  reached_first : (t : Test) (b x : ℕ) (xs : List ℕ) → reaches rules (Some b) x ≡ true → needing_at t b (x ∷ xs) ≡ filter (needs_at rules t) (x ∷ filter (reaches rules (Some b)) xs)
  reached_first t b x xs r = ap (filter (needs_at rules t)) (cond-true (reaches rules (Some b) x) (x ∷ filter (reaches rules (Some b)) xs) (filter (reaches rules (Some b)) xs) r)

  reached : (b x n : ℕ) (xs : List ℕ) → descend rules (x ∷ xs) ≡ true → slice_get (x ∷ xs) n ≡ Some b → reaches rules (Some b) x ≡ true
  reached b x n xs o s =
      let c : Contains (x ∷ xs) b = contains_from_in (x ∷ xs) b (in_slice (x ∷ xs) n b s) in
      ap not (at_least_not_lower rules x b (first_is_top rules x xs o b c))

  more_counted : (t : Test) (b x n m : ℕ) (xs : List ℕ) → reaches rules (Some b) x ≡ true → needs_at rules t x ≡ true → n ≡ suc m
      → length (needing_at t b xs) ≡ m + length (needing_at t b (drop (m + 1) xs)) → length (needing_at t b (x ∷ xs)) ≡ n + length (needing_at t b (drop (n + 1) (x ∷ xs)))
  more_counted t b x n m xs r y l further = grind (arith, common_steps, reached_first t b x xs r)

  none_counted : (t : Test) (b x n : ℕ) (xs : List ℕ) → reaches rules (Some b) x ≡ true → needs_at rules t x ≡ false → n ≡ 0
      → length (needing_at t b (x ∷ xs)) ≡ n + length (needing_at t b (drop (n + 1) (x ∷ xs)))
  none_counted t b x n xs r f l = grind (arith, common_steps, reached_first t b x xs r)

  counted_behind : (t : Test) (b : ℕ) (here : List ℕ) (n : ℕ) → descend rules here ≡ true → n ≡ leading t here → slice_get here n ≡ Some b
      → length (needing_at t b here) ≡ n + length (needing_at t b (drop (n + 1) here))
  counted_behind t b [] n o e s = absurd (none_some b s)
  counted_behind t b (x ∷ xs) n o e s =
      let r = reached b x n xs o s in
      elim (cases_Bool (needs_at rules t x)) [
        | inl y ↦ grind (arith, common_steps, counted_behind t b xs, one_leads t x xs y, more_counted t b x n, descend_rest rules x xs o)
        | inr f ↦ none_counted t b x n xs r f (e ∙ none_leads t x xs f)
      ]

  counted_at : (here : List ℕ) (t : Test) (b n reaching count : ℕ) → descend rules here ≡ true → n ≡ leading t here → slice_get here n ≡ Some b
      → reaching ≡ prefix_len (reaches rules (Some b)) (drop (n + 1) here) → count ≡ length (filter (needs_at rules t) (take reaching (drop (n + 1) here)))
      → n + count ≡ length (cover rules here t)
  counted_at here t b n reaching count o e s f g =
      let behind = drop (n + 1) here in
      let counted : count ≡ length (needing_at t b behind) = g ∙ ap length (ap (λ k. filter (needs_at rules t) (take k behind)) f ∙ ap (filter (needs_at rules t)) (reaching_first rules (Some b) behind (descend_drop rules (n + 1) here o))) in
      let whole = counted_behind t b here n o e s in
      let covers = ap length (needing_reach here t (Some b) (behind_is_bar t here b n o e s)) in
      omega (arith, counted, whole, covers)

  -- the rules behind the bar, as they are cut out of those here
  abbrev pub behind_bar : ℕ → List ℕ → List ℕ
  behind_bar n here = take (length here - (n + 1)) (drop (n + 1) here)

  all_behind : (n : ℕ) (here : List ℕ) → behind_bar n here ≡ drop (n + 1) here
  all_behind n here = let many = length-drop (n + 1) here in take_all (length here - (n + 1)) (drop (n + 1) here) (omega (arith, many))

  pub covered_count : (here : List ℕ) (t : Test) (bar : Option ℕ) (n reaching count : ℕ) → descend rules here ≡ true → n ≡ leading t here → n < length here → bar ≡ slice_get here n
      → reaching ≡ prefix_len (reaches rules bar) (behind_bar n here) → count ≡ length (filter (needs_at rules t) (take reaching (behind_bar n here)))
      → n + count ≡ length (cover rules here t)
  covered_count here t bar n reaching count o e l s f g =
      let b = get_or here n 0 in
      let at : slice_get here n ≡ Some b = slice_get-get_or here n 0 l in
      counted_at here t b n reaching count o e at (f ∙ ap (prefix_len (reaches rules bar)) (all_behind n here) ∙ ap (λ x. prefix_len (reaches rules x) (drop (n + 1) here)) (s ∙ at))
      (g ∙ ap (λ xs. length (filter (needs_at rules t) (take reaching xs))) (all_behind n here))

  pub covers_most : (here : List ℕ) (t : Test) → length (cover rules here t) ≤ length here
  covers_most here t = let both = length-filter_both (is_covered rules here t) (λ i. not (is_covered rules here t i)) (λ i. refl) here in omega (arith, both)

  -- 4. what none of the highest rules needs covers no rule
  abbrev highest_of : ℕ → List ℕ → List ℕ
  highest_of x xs = filter (reaches rules (Some x)) (x ∷ xs)

  pub highest_need : (here : List ℕ) (t : Test) → list_any (needs_at rules t) (filter (reaches rules (slice_get here 0)) here) ≡ false → cover rules here t ≡ []
  highest_need [] t f = refl
  highest_need (x ∷ xs) t f = none_kept (is_covered rules (x ∷ xs) t) (x ∷ xs) (λ i c. elim (cases_Bool (is_covered rules (x ∷ xs) t i)) [
    | inl y ↦ absurd (covers i c (and_parts (needs_at rules t i) (list_all (waits t i) (x ∷ xs)) y))
    | inr n ↦ n
  ])
    where
      needless : (i : ℕ) → Contains (highest_of x xs) i → needs_at rules t i ≡ true → ⊥
      needless i c n = false≢true (sym f ∙ passes_any (needs_at rules t) (highest_of x xs) i c n)

      covers : (i : ℕ) → Contains (x ∷ xs) i → (needs_at rules t i ≡ true) × (list_all (waits t i) (x ∷ xs) ≡ true) → ⊥
      covers i c h =
          elim (cases_Bool (is_lower rules i x)) [
            | inl y ↦ grind (arith, common_steps, needless x, or_cases (needs_at rules t x), each_passes, in_head x xs)
            | inr n ↦ needless i (in_filter (reaches rules (Some x)) (x ∷ xs) i c (ap not n)) h.0
          ]
