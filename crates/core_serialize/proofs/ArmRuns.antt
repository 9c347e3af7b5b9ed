-- The rules of a match in the order of its arms: how a sort puts them there, and that an arm's rules stand at the head.
use Rattle.std.proofs.Common.{◌≡◌, ℕ, suc, ◌+◌, ◌≤◌, ◌<◌, Bool, true, false, not, List, [], ◌∷◌, ◌++◌, length, Some, None, get_or, slice_get, take, drop, Contains, filter, refl, sym, ap, ◌∙◌, subst, inl, inr, arith}
use Rattle.std.specs.Prelude.{IsPermutation}
use Rattle.std.specs.Cmp.{IsStrictWeakOrder}
use Rattle.std.specs.List.{take_while, prefix_len}
use Rattle.std.specs.List.Sorted.{ties, IsSortedBy, IsStableBy}
use Rattle.std.proofs.lemmas.Bool.{cases_Bool, cond-true, cond-false, and_parts, and_from, not-true, false≢true, false_from_ne_true}
use Rattle.std.proofs.lemmas.List.{append-nil, length-map, map_push}
use Rattle.std.proofs.lemmas.List.Elements.{filter_agree, filter_more}
use Rattle.std.proofs.lemmas.List.Sorted.{sorted_far, Contains-permutation, IsPermutation-map, IsPermutation-sym}
use Rattle.std.proofs.lemmas.List.Sums.{take_while-cons}
use Rattle.std.proofs.lemmas.Option.{none-some, same_Some}
use Rattle.std.proofs.lemmas.Grind.{common_steps}
use Rattle.model.specs.sites.Sites.{Constraint, SetRule}
use Rattle.model.specs.trees.Judge.{is_that}
use Rattle.model.specs.trees.Sound.{comes_before}
use Rattle.model.proofs.Members.{in_head, in_tail, in_cases, from_map, in_alone, in_map}
use Rattle.laws_sites.proofs.overlaps.Overlaps.{bool_same}
use Rattle.laws_trees.proofs.runs.Order.{before_chain, before_itself}
use Rattle.laws_trees.proofs.Constraints.{that_exact}
use Rattle.laws_trees.proofs.ConstraintsTotal.{before_total}
use Rattle.core_serialize.specs.declared.arms.AskingRule.{AskingRule}
use Rattle.core_serialize.specs.ArmOrder.{asked_at, asks, asks_some, asked_constraint, asks_that, asked_numbers, AreAsked, is_ahead, Ascend, AreTurns, AreInTurn, IsLeastAsked}
use Rattle.core_serialize.proofs.Descents.{all_kept, none_kept}

-- 1. the order of constraints
not_itself : (c : Constraint) → comes_before c c ≡ false
not_itself c = false_from_ne_true (comes_before c c) (before_itself c)

same_as : (c : Constraint) (a : AskingRule) → asks_that c a ≡ true → asked_constraint a ≡ c
same_as c a h = same_Some (asked_constraint a) c ((that_exact (Some (asked_constraint a)) c).0 h)

from_same : (c : Constraint) (a : AskingRule) → asked_constraint a ≡ c → asks_that c a ≡ true
from_same c a e = (that_exact (Some (asked_constraint a)) c).1 (ap Some e)

not_before_chain : (x y z : Constraint) → comes_before x y ≡ false → comes_before y z ≡ false → comes_before x z ≡ false
not_before_chain x y z h k =
    false_from_ne_true (comes_before x z) (λ t.
    elim (before_total y x h) [
      | inl e ↦ false≢true (sym k ∙ ap (λ w. comes_before w z) e ∙ t)
      | inr b ↦ grind (arith, common_steps, before_total z y k, before_itself x, before_chain x z x, before_chain z y x)
    ])

pub order : IsStrictWeakOrder is_ahead
order = record {
  one_way = λ a b h. false_from_ne_true (is_ahead b a) (λ t. before_itself (asked_constraint a) (before_chain (asked_constraint a) (asked_constraint b) (asked_constraint a) h t));
  chain = λ a b c. not_before_chain (asked_constraint a) (asked_constraint b) (asked_constraint c);
}

-- those that tie with one ask the same
ask_alike : (a b : AskingRule) → asks_that (asked_constraint a) b ≡ ties is_ahead a b
ask_alike a b =
    bool_same (asks_that (asked_constraint a) b) (ties is_ahead a b)
    (λ h. grind (arith, common_steps, same_as (asked_constraint a) b h, and_from (not (is_ahead a b)) (not (is_ahead b a)), not_itself (asked_constraint a)))
    (λ h. let both = and_parts (not (is_ahead a b)) (not (is_ahead b a)) h in
    elim (before_total (asked_constraint b) (asked_constraint a) (not-true (is_ahead a b) both.0)) [
      | inl e ↦ from_same (asked_constraint a) b e
      | inr t ↦ absurd (false≢true (ap not (sym t) ∙ both.1))
    ])

-- 2. lists that ascend
ascends : (ys : List AskingRule) → ((i j : ℕ) (d : AskingRule) → i ≤ j → j < length ys → is_ahead (get_or ys j d) (get_or ys i d) ≡ false) → Ascend ys
ascends [] far = tt
ascends (a ∷ ys) far = (
  λ b c. (let l = c.1 in subst (λ x. is_ahead x a ≡ false) c.2 (far 0 (suc c.0) b (omega arith) (omega arith))),
  ascends ys (λ i j d l m. far (suc i) (suc j) d (omega arith) (omega arith)),
)

ascend_drop : (k : ℕ) (xs : List AskingRule) → Ascend xs → Ascend (drop k xs)
ascend_drop (suc k) (a ∷ xs) h = ascend_drop k xs h.1
ascend_drop k xs h = grind arith

in_drop : (k : ℕ) (xs : List AskingRule) (a : AskingRule) → Contains (drop k xs) a → Contains xs a
in_drop (suc k) (x ∷ xs) a c = in_tail x a xs (in_drop k xs a c)
in_drop _ _ a c = c

-- none asks what comes before c
abbrev NoneBefore : Constraint → List AskingRule → Type 0
NoneBefore c xs = (a : AskingRule) → Contains xs a → comes_before (asked_constraint a) c ≡ false

none_before_rest : (c : Constraint) (x : AskingRule) (xs : List AskingRule) → NoneBefore c (x ∷ xs) → NoneBefore c xs
none_before_rest c x xs f a k = f a (in_tail x a xs k)

module _ (c : Constraint) where
  abbrev is_c : AskingRule → Bool
  is_c = asks_that c

  -- behind one that asks another constraint no one asks c
  no_more : (b : AskingRule) (xs : List AskingRule) → is_c b ≡ false → comes_before (asked_constraint b) c ≡ false → ((a : AskingRule) → Contains xs a → is_ahead a b ≡ false) → (a : AskingRule) → Contains xs a → is_c a ≡ false
  no_more b xs f n later a k = grind (arith, common_steps, false_from_ne_true (is_c a), before_total c (asked_constraint b) n, from_same c b, same_as c a)

  -- those that ask c stand at the head
  run_first : (xs : List AskingRule) → Ascend xs → NoneBefore c xs → take_while is_c xs ≡ filter is_c xs
  run_first [] up none = refl
  run_first (x ∷ xs) up none =
      take_while-cons is_c x xs
      ∙ elim (cases_Bool (is_c x)) [
        | inl t ↦ grind (arith, common_steps, run_first xs up.1 (none_before_rest c x xs none), none_before_rest c x xs none)
        | inr f ↦
            cond-false (is_c x) (x ∷ take_while is_c xs) [] f
            ∙ sym (cond-false (is_c x) (x ∷ filter is_c xs) (filter is_c xs) f ∙ none_kept is_c xs (no_more x xs f (none x (in_head x xs)) up.0))
      ]

  run_rest : (xs : List AskingRule) → Ascend xs → NoneBefore c xs → drop (length (filter is_c xs)) xs ≡ filter (λ a. not (is_c a)) xs
  run_rest [] up none = refl
  run_rest (x ∷ xs) up none =
      elim (cases_Bool (is_c x)) [
        | inl t ↦ grind (arith, common_steps, run_rest xs up.1 (none_before_rest c x xs none), others xs, none_before_rest c x xs none)
        | inr f ↦ let no = no_more x xs f (none x (in_head x xs)) up.0 in
            ap (λ l. drop (length l) (x ∷ xs)) (cond-false (is_c x) (x ∷ filter is_c xs) (filter is_c xs) f ∙ none_kept is_c xs no)
            ∙ sym (cond-true (not (is_c x)) (x ∷ others xs) (others xs) (ap not f) ∙ ap (λ l. x ∷ l) (all_kept (λ a. not (is_c a)) xs (λ a k. ap not (no a k))))
      ]
    where
      others : List AskingRule → List AskingRule
      others ys = filter (λ a. not (is_c a)) ys

-- 3. the rules that ask
numbers_kept : (f : ℕ → Bool) (p : AskingRule → Bool) (xs : List AskingRule) → ((a : AskingRule) → Contains xs a → f a.number ≡ p a) → filter f (asked_numbers xs) ≡ asked_numbers (filter p xs)
numbers_kept f p [] h = refl
numbers_kept f p (a ∷ xs) h = grind (arith, common_steps, numbers_kept f p xs (λ b c. h b (in_tail a b xs c)), in_tail a, in_head a xs)

kept_within : (p q : ℕ → Bool) (xs : List ℕ) → ((x : ℕ) → q x ≡ false → p x ≡ false) → filter p (filter q xs) ≡ filter p xs
kept_within p q [] h = refl
kept_within p q (x ∷ xs) h = grind (arith, common_steps, kept_within p q xs h)

module _ (rules : List SetRule) (s : ℕ) where
  asks_told : (c : Constraint) (xs : List AskingRule) → AreAsked rules s xs → filter (asks rules s c) (asked_numbers xs) ≡ asked_numbers (filter (asks_that c) xs)
  asks_told c xs each = numbers_kept (asks rules s c) (asks_that c) xs (λ a k. ap (λ o. is_that o c) (each a k))

  others_told : (c : Constraint) (xs : List AskingRule) → AreAsked rules s xs → filter (λ i. not (asks rules s c i)) (asked_numbers xs) ≡ asked_numbers (filter (λ a. not (asks_that c a)) xs)
  others_told c xs each = numbers_kept (λ i. not (asks rules s c i)) (λ a. not (asks_that c a)) xs (λ a k. ap (λ o. not (is_that o c)) (each a k))

  some_asked : (c : Constraint) (i : ℕ) → asks_some rules s i ≡ false → asks rules s c i ≡ false
  some_asked c i = grind (arith, common_steps)

  -- one rule more
  pub asked_more : (here : List ℕ) (k : ℕ) (xs ys : List AskingRule) (a : AskingRule) → k < length here → a.number ≡ get_or here k 0 → asked_at rules s (get_or here k 0) ≡ Some (asked_constraint a) → ys ≡ xs ++ a ∷ []
      → AreAsked rules s xs → asked_numbers xs ≡ filter (asks_some rules s) (take k here) → AreAsked rules s ys × (asked_numbers ys ≡ filter (asks_some rules s) (take (k + 1) here))
  asked_more here k xs ys a l n e is each h = grind (arith, common_steps, in_alone a, map_push (λ x. x.number) xs a, filter_more (asks_some rules s) here k 0 l)

  pub asked_none : (here : List ℕ) (k : ℕ) → k < length here → asked_at rules s (get_or here k 0) ≡ None → filter (asks_some rules s) (take k here) ≡ filter (asks_some rules s) (take (k + 1) here)
  asked_none here k l e = grind (arith, common_steps, append-nil (filter (asks_some rules s) (take k here)), filter_more (asks_some rules s) here k 0 l)

  -- a stable sort puts them in turn
  pub in_turn : (here : List ℕ) (xs ys : List AskingRule) → AreAsked rules s xs → asked_numbers xs ≡ filter (asks_some rules s) here → IsPermutation xs ys → IsSortedBy is_ahead ys → IsStableBy is_ahead xs ys → AreInTurn rules s here ys
  in_turn here xs ys each e moved sorted stable = record {
    told = record { each = each_sorted; ascend = ascends ys (sorted_far is_ahead order ys sorted) };
    same = subst (λ l. IsPermutation l (asked_numbers ys)) e (IsPermutation-map (λ a. a.number) xs ys moved);
    kept = λ a. let c = asked_constraint a in
        asks_told c ys each_sorted
        ∙ ap asked_numbers (tied a ys ∙ stable a ∙ sym (tied a xs))
        ∙ sym (asks_told c xs each)
        ∙ ap (filter (asks rules s c)) e
        ∙ kept_within (asks rules s c) (asks_some rules s) here (some_asked c);
  }
    where
      each_sorted : AreAsked rules s ys
      each_sorted a k = each a (Contains-permutation ys xs a (IsPermutation-sym xs ys moved) k)

      tied : (a : AskingRule) (zs : List AskingRule) → filter (asks_that (asked_constraint a)) zs ≡ filter (ties is_ahead a) zs
      tied a zs = filter_agree (asks_that (asked_constraint a)) (ties is_ahead a) (ask_alike a) zs

  pub turns_behind : (k : ℕ) (xs : List AskingRule) → AreTurns rules s xs → AreTurns rules s (drop k xs)
  turns_behind k xs t = record { each = λ a c. t.each a (in_drop k xs a c); ascend = ascend_drop k xs t.ascend }

  -- 4. the arm at the head
  least_first : (a : AskingRule) (xs : List AskingRule) → AreTurns rules s (a ∷ xs) → IsLeastAsked rules s (asked_numbers (a ∷ xs)) (asked_constraint a)
  least_first a xs t = (
    (a.number, in_head a.number (asked_numbers xs), t.each a (in_head a xs)),
    λ i d k e. (
        let m = from_map (λ b. b.number) (a ∷ xs) i k in
        let asked : asked_constraint m.0 ≡ d = same_Some (asked_constraint m.0) d (sym (t.each m.0 m.1) ∙ ap (asked_at rules s) m.2 ∙ e) in
        subst (λ w. comes_before w (asked_constraint a) ≡ false) asked (none m.0 m.1)),
  )
    where
      none : (b : AskingRule) → Contains (a ∷ xs) b → is_ahead b a ≡ false
      none b k = grind (arith, common_steps, in_cases a b xs k, not_itself (asked_constraint a))

  pub least_of : (xs : List AskingRule) (a : AskingRule) → slice_get xs 0 ≡ Some a → AreTurns rules s xs → IsLeastAsked rules s (asked_numbers xs) (asked_constraint a)
  least_of [] a e t = absurd (none-some a e)
  least_of (x ∷ xs) a e t = subst (λ b. IsLeastAsked rules s (asked_numbers (x ∷ xs)) (asked_constraint b)) (same_Some x a e) (least_first x xs t)

  module _ (c : Constraint) (xs : List AskingRule) (t : AreTurns rules s xs) (least : IsLeastAsked rules s (asked_numbers xs) c) where
    none_before : NoneBefore c xs
    none_before a k = least.1 a.number (asked_constraint a) (in_numbers xs a k) (t.each a k)
      where
        in_numbers : (ys : List AskingRule) (b : AskingRule) → Contains ys b → Contains (asked_numbers ys) b.number
        in_numbers ys b m = in_map (λ x. x.number) ys b m

    pub asking_first : (n : ℕ) → n ≡ prefix_len (asks_that c) xs → asked_numbers (take n xs) ≡ filter (asks rules s c) (asked_numbers xs)
    asking_first n e = ap (λ m. asked_numbers (take m xs)) e ∙ ap asked_numbers (run_first c xs t.ascend none_before) ∙ sym (asks_told c xs t.each)

    pub left_behind : asked_numbers (drop (length (filter (asks rules s c) (asked_numbers xs))) xs) ≡ filter (λ i. not (asks rules s c i)) (asked_numbers xs)
    left_behind =
        let same = ap length (asks_told c xs t.each) ∙ length-map (filter (asks_that c) xs) (λ a. a.number) in
        ap (λ m. asked_numbers (drop m xs)) same ∙ ap asked_numbers (run_rest c xs t.ascend none_before) ∙ sym (others_told c xs t.each)
