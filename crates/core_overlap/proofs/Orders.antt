-- A stable sort gives one list: elements in order of a test, those that tie as they stood.
use Rattle.std.proofs.Common.{◌≡◌, ℕ, suc, ◌+◌, ◌<◌, Bool, true, false, not, ◌&&◌, cond, List, [], ◌∷◌, length, map, get_or, refl, sym, ap, ◌∙◌, subst, inl, inr, arith, if◌then◌else◌}
use Rattle.std.proofs.lemmas.Bool.{cases_Bool, both_ways, cond-true, cond-false, and_from, and_parts, not-true}
use Rattle.std.proofs.lemmas.List.Sorted.{sorted_far}
use Rattle.std.specs.List.{filter}
use Rattle.std.specs.List.Sorted.{ties, IsSortedBy}
use Rattle.std.specs.Cmp.{IsStrictWeakOrder}
use Rattle.std.proofs.lemmas.Grind.{common_steps}

abbrev pub placed : {X : Type 0} → (X → X → Bool) → X → List X → List X
placed lt x [] = x ∷ []
placed lt x (y ∷ ys) = if lt y x then y ∷ placed lt x ys else x ∷ (y ∷ ys)

abbrev pub ordered_by : {X : Type 0} → (X → X → Bool) → List X → List X
ordered_by lt [] = []
ordered_by lt (x ∷ xs) = placed lt x (ordered_by lt xs)

map_cond : {X Y : Type 0} (f : X → Y) (b : Bool) (xs ys : List X) → map f (cond b xs ys) ≡ cond b (map f xs) (map f ys)
map_cond f b xs ys = grind (arith, common_steps)

map_placed : {X Y : Type 0} (f : X → Y) (lt : Y → Y → Bool) (x : X) (ys : List X) → map f (placed (λ a b. lt (f a) (f b)) x ys) ≡ placed lt (f x) (map f ys)
map_placed f lt x [] = refl
map_placed f lt x (y ∷ ys) = grind (arith, common_steps, map_placed f lt x ys, map_cond f (lt (f y) (f x)) (y ∷ placed (λ a b. lt (f a) (f b)) x ys) (x ∷ (y ∷ ys)))

-- an order by a part, seen by that part
pub map_in_order : {X Y : Type 0} (f : X → Y) (lt : Y → Y → Bool) (xs : List X) → map f (ordered_by (λ a b. lt (f a) (f b)) xs) ≡ ordered_by lt (map f xs)
map_in_order f lt [] = refl
map_in_order f lt (x ∷ xs) = grind (arith, common_steps, map_in_order f lt xs, map_placed f lt x (ordered_by (λ a b. lt (f a) (f b)) xs))

-- no element is below x; each element is not above those after it
abbrev pub NoneBelow : {X : Type 0} → (X → X → Bool) → X → List X → Type 0
NoneBelow lt x [] = Unit {0}
NoneBelow lt x (y ∷ ys) = (lt y x ≡ false) × NoneBelow lt x ys

abbrev pub Rising : {X : Type 0} → (X → X → Bool) → List X → Type 0
Rising lt [] = Unit {0}
Rising lt (x ∷ xs) = NoneBelow lt x xs × Rising lt xs

nil_cons : {X : Type 0} (x : X) (l : List X) → [] ≡ x ∷ l → ⊥
nil_cons x l h = cc

head_is : {X : Type 0} (x y : X) (l m : List X) → x ∷ l ≡ y ∷ m → x ≡ y
head_is x y l m h = cc

tail_is : {X : Type 0} (x y : X) (l m : List X) → x ∷ l ≡ y ∷ m → l ≡ m
tail_is x y l m h = cc

module _ {X : Type 0} (lt : X → X → Bool) (o : IsStrictWeakOrder lt) where
  pub irreflexive : (x : X) → lt x x ≡ false
  irreflexive x = elim (cases_Bool (lt x x)) [ inl h ↦ o.one_way x x h | inr h ↦ h ]

  ties_self : (x : X) → ties lt x x ≡ true
  ties_self x = and_from (not (lt x x)) (not (lt x x)) (ap not (irreflexive x)) (ap not (irreflexive x))

  ties_from : (x y : X) → lt x y ≡ false → lt y x ≡ false → ties lt x y ≡ true
  ties_from x y h k = and_from (not (lt x y)) (not (lt y x)) (ap not h) (ap not k)

  turned : (a b : Bool) → (not a && not b) ≡ (not b && not a)
  turned a b = grind (arith, common_steps)

  filter_yes : (p : X → Bool) (x : X) (xs : List X) → p x ≡ true → filter p (x ∷ xs) ≡ x ∷ filter p xs
  filter_yes p x xs h = cond-true (p x) (x ∷ filter p xs) (filter p xs) h

  filter_no : (p : X → Bool) (x : X) (xs : List X) → p x ≡ false → filter p (x ∷ xs) ≡ filter p xs
  filter_no p x xs h = cond-false (p x) (x ∷ filter p xs) (filter p xs) h

  -- what a filter keeps was there
  kept_not_below : (p : X → Bool) (b x : X) (ys l : List X) → filter p ys ≡ x ∷ l → NoneBelow lt b ys → lt x b ≡ false
  kept_not_below p b x [] l e h = absurd (nil_cons x l e)
  kept_not_below p b x (y ∷ ys) l e h = grind (arith, common_steps, kept_not_below p b x ys l, head_is y x (filter p ys) l, filter_yes p y ys, filter_no p y ys)

  heads_tie : (x y : X) (xs ys : List X) → NoneBelow lt x xs → NoneBelow lt y ys → ((z : X) → filter (ties lt z) (x ∷ xs) ≡ filter (ties lt z) (y ∷ ys)) → ties lt x y ≡ true
  heads_tie x y xs ys hx hy f =
      elim (cases_Bool (ties lt x y)) [
        | inl t ↦ t
        | inr n ↦
            let at_x = sym (filter_no (ties lt x) y ys n) ∙ sym (f x) ∙ filter_yes (ties lt x) x xs (ties_self x) in
            let back = turned (lt y x) (lt x y) ∙ n in
            let at_y = sym (filter_no (ties lt y) x xs back) ∙ f y ∙ filter_yes (ties lt y) y ys (ties_self y) in
            ties_from x y (kept_not_below (ties lt x) y x ys (filter (ties lt x) xs) at_x hy) (kept_not_below (ties lt y) x y xs (filter (ties lt y) ys) at_y hx)
      ]

  heads_same : (x y : X) (xs ys : List X) → ties lt x y ≡ true → filter (ties lt x) (x ∷ xs) ≡ filter (ties lt x) (y ∷ ys) → x ≡ y
  heads_same x y xs ys t e =
      head_is x y (filter (ties lt x) xs) (filter (ties lt x) ys) (sym (filter_yes (ties lt x) x xs (ties_self x)) ∙ e ∙ filter_yes (ties lt x) y ys t)

  tails_alike : (p : X → Bool) (x : X) (xs ys : List X) → filter p (x ∷ xs) ≡ filter p (x ∷ ys) → filter p xs ≡ filter p ys
  tails_alike p x xs ys e =
      elim (cases_Bool (p x)) [
        | inl t ↦ tail_is x x (filter p xs) (filter p ys) (sym (filter_yes p x xs t) ∙ e ∙ filter_yes p x ys t)
        | inr n ↦ sym (filter_no p x xs n) ∙ e ∙ filter_no p x ys n
      ]

  pub one_order : (xs ys : List X) → Rising lt xs → Rising lt ys → ((z : X) → filter (ties lt z) xs ≡ filter (ties lt z) ys) → xs ≡ ys
  one_order [] [] r s f = refl
  one_order [] (y ∷ ys) r s f = absurd (nil_cons y (filter (ties lt y) ys) (f y ∙ filter_yes (ties lt y) y ys (ties_self y)))
  one_order (x ∷ xs) [] r s f = absurd (nil_cons x (filter (ties lt x) xs) (sym (f x) ∙ filter_yes (ties lt x) x xs (ties_self x)))
  one_order (x ∷ xs) (y ∷ ys) r s f = grind (arith, common_steps, one_order xs ys r.1 s.1, heads_tie x y xs ys r.0 s.0 f, heads_same x y xs ys, tails_alike)

  -- an insert keeps the order, and keeps what ties in order
  below_kept : (b x : X) (ys : List X) → lt x b ≡ false → NoneBelow lt b ys → NoneBelow lt b (placed lt x ys)
  below_kept b x [] h k = (h, tt)
  below_kept b x (y ∷ ys) h k = grind (arith, common_steps, below_kept b x ys h k.1)

  pub all_above : (x y : X) (ys : List X) → lt y x ≡ false → NoneBelow lt y ys → NoneBelow lt x ys
  all_above x y [] h k = tt
  all_above x y (z ∷ zs) h k = (o.chain z y x k.0 h, all_above x y zs h k.1)

  placed_rising : (x : X) (ys : List X) → Rising lt ys → Rising lt (placed lt x ys)
  placed_rising x [] r = (tt, tt)
  placed_rising x (y ∷ ys) r = grind (arith, common_steps, placed_rising x ys r.1, below_kept y x ys, all_above x y ys)

  pub in_order_rising : (xs : List X) → Rising lt (ordered_by lt xs)
  in_order_rising [] = tt
  in_order_rising (x ∷ xs) = placed_rising x (ordered_by lt xs) (in_order_rising xs)

  -- x does not tie with what is above something that it ties with
  not_both : (z x y : X) → lt y x ≡ true → ties lt z x ≡ true → ties lt z y ≡ false
  not_both z x y h t =
      elim (cases_Bool (ties lt z y)) [
        | inl u ↦
            let zy = and_parts (not (lt z y)) (not (lt y z)) u in
            let zx = and_parts (not (lt z x)) (not (lt x z)) t in
            absurd (both_ways (lt y x) (o.chain y z x (not-true (lt y z) zy.1) (not-true (lt z x) zx.0)) h)
        | inr n ↦ n
      ]

  placed_alike : (z x : X) (ys : List X) → filter (ties lt z) (placed lt x ys) ≡ filter (ties lt z) (x ∷ ys)
  placed_alike z x [] = refl
  placed_alike z x (y ∷ ys) = grind (arith, common_steps, placed_alike z x ys, not_both z x y, filter_no, filter_yes)

  pub in_order_alike : (z : X) (xs : List X) → filter (ties lt z) (ordered_by lt xs) ≡ filter (ties lt z) xs
  in_order_alike z [] = refl
  in_order_alike z (x ∷ xs) = placed_alike z x (ordered_by lt xs) ∙ ap (λ l. cond (ties lt z x) (x ∷ l) l) (in_order_alike z xs)

  -- what a sort ensures
  none_below_from : (b : X) (xs : List X) → ((k : ℕ) (d : X) → k < length xs → lt (get_or xs k d) b ≡ false) → NoneBelow lt b xs
  none_below_from b [] h = tt
  none_below_from b (x ∷ xs) h =
      (h 0 x (omega arith), none_below_from b xs (λ k d l. h (suc k) d (omega arith)))

  pub rising_from : (xs : List X) → IsSortedBy lt xs → Rising lt xs
  rising_from [] s = tt
  rising_from (x ∷ xs) s =
      (none_below_from x xs (λ k d l. sorted_far lt o (x ∷ xs) s 0 (suc k) d (omega arith) (omega arith)), rising_from xs (λ k d l m. let e : suc k + 1 ≡ suc (k + 1) = omega arith in subst (λ j. lt (get_or (x ∷ xs) j d) (get_or (x ∷ xs) (suc k) d) ≡ false) e (s (suc k) d (omega arith) (omega arith))))

  -- a list that a stable sort made is the list in order
  pub sorted_is : (xs ys : List X) → IsSortedBy lt ys → ((z : X) → filter (ties lt z) ys ≡ filter (ties lt z) xs) → ys ≡ ordered_by lt xs
  sorted_is xs ys s f =
      one_order ys (ordered_by lt xs) (rising_from ys s) (in_order_rising xs) (λ z. f z ∙ sym (in_order_alike z xs))
