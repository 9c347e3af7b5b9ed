-- What the elements of a list make, one after another, and as a bag: whatever order they are taken in.
use Rattle.std.proofs.Common.{◌≡◌, ℕ, suc, ◌+◌, ◌<◌, ◌≤◌, ◌==◌, Bool, true, false, cond, List, [], ◌∷◌, ◌++◌, length, flat_map, count_by, Some, slice_get, Contains, refl, sym, ap, ◌∙◌, subst, subst₂, inl, inr, arith, eqb-true, eq-eqb}
use Rattle.std.specs.Prelude.{IsPermutation}
use Rattle.std.proofs.lemmas.Bool.{cases_Bool, false≢true}
use Rattle.std.proofs.lemmas.List.{append_assoc}
use Rattle.std.proofs.lemmas.List.Elements.{Contains-append_left, Contains-append_right, Contains-append_cases}
use Rattle.std.proofs.lemmas.List.Sums.{sum_by-cons}
use Rattle.std.proofs.lemmas.List.Sorted.{sum_by-IsPermutation, IsPermutation-middle, IsPermutation-refl, IsPermutation-trans, IsPermutation-append, IsPermutation-append_left, IsPermutation-append_right, IsPermutation-append_comm}
use Rattle.std.proofs.lemmas.Grind.{flat_map-append, common_steps}
use Rattle.model.specs.rules.Program.{numbers_from}
use Rattle.model.proofs.Members.{nothing_in, in_head, in_tail, in_cases, member_counted}

-- 1. lists that lists make
module _ {X Y Z : Type 0} where
  pub flat_flat : (f : Y → List Z) (g : X → List Y) (xs : List X) → flat_map f (flat_map g xs) ≡ flat_map (λ x. flat_map f (g x)) xs
  flat_flat f g [] = refl
  flat_flat f g (x ∷ xs) = flat_map-append f (g x) (flat_map g xs) ∙ ap (λ l. flat_map f (g x) ++ l) (flat_flat f g xs)

module _ {X Z : Type 0} where
  pub flat_map_same : (f g : X → List Z) (xs : List X) → ((x : X) → Contains xs x → f x ≡ g x) → flat_map f xs ≡ flat_map g xs
  flat_map_same f g [] h = refl
  flat_map_same f g (x ∷ xs) h = grind (arith, flat_map_same f g xs (λ y c. h y (in_tail x y xs c)), in_head, in_tail)

  pub all_nothing : (f : X → List Z) (xs : List X) → ((x : X) → Contains xs x → f x ≡ []) → flat_map f xs ≡ []
  all_nothing f [] h = refl
  all_nothing f (x ∷ xs) h = ap (λ l. l ++ flat_map f xs) (h x (in_head x xs)) ∙ all_nothing f xs (λ y c. h y (in_tail x y xs c))

-- 2. as bags
-- a, b, c, d with b and c exchanged
middle : {Z : Type 0} (a b c d : List Z) → IsPermutation ((a ++ b) ++ (c ++ d)) ((a ++ c) ++ (b ++ d))
middle a b c d =
    subst₂ IsPermutation (sym (append_assoc a b (c ++ d))) (sym (append_assoc a c (b ++ d)))
    (IsPermutation-append_right a (b ++ (c ++ d)) (c ++ (b ++ d))
    (subst₂ IsPermutation (append_assoc b c d) (append_assoc c b d) (IsPermutation-append_left d (b ++ c) (c ++ b) (IsPermutation-append_comm b c))))

module _ {X Z : Type 0} where
  both_in_one : (f g : X → List Z) (xs : List X) → IsPermutation (flat_map f xs ++ flat_map g xs) (flat_map (λ x. f x ++ g x) xs)
  both_in_one f g [] = IsPermutation-refl []
  both_in_one f g (x ∷ xs) =
      IsPermutation-trans _ ((f x ++ g x) ++ (flat_map f xs ++ flat_map g xs)) _
      (middle (f x) (flat_map f xs) (g x) (flat_map g xs))
      (IsPermutation-append_right (f x ++ g x) _ _ (both_in_one f g xs))

  pub each_moved : (f g : X → List Z) (xs : List X) → ((x : X) → IsPermutation (f x) (g x)) → IsPermutation (flat_map f xs) (flat_map g xs)
  each_moved f g [] h = IsPermutation-refl []
  each_moved f g (x ∷ xs) h = IsPermutation-append (f x) (g x) (flat_map f xs) (flat_map g xs) (h x) (each_moved f g xs h)

-- what each of some makes for each place, by places
pub by_places : {X Y Z : Type 0} (f : X → List Z) (g : Y → X → List Z) (ys : List Y) (xs : List X) → ((x : X) → Contains xs x → IsPermutation (f x) (flat_map (λ y. g y x) ys))
    → IsPermutation (flat_map f xs) (flat_map (λ y. flat_map (g y) xs) ys)
by_places f g ys [] h = subst (IsPermutation []) (sym (all_nothing (λ y. []) ys (λ y c. refl))) (IsPermutation-refl [])
by_places f g ys (x ∷ xs) h =
    IsPermutation-trans _ (flat_map (λ y. g y x) ys ++ flat_map (λ y. flat_map (g y) xs) ys) _
    (IsPermutation-append (f x) (flat_map (λ y. g y x) ys) (flat_map f xs) (flat_map (λ y. flat_map (g y) xs) ys) (h x (in_head x xs)) (by_places f g ys xs (λ z c. h z (in_tail x z xs c))))
    (both_in_one (λ y. g y x) (λ y. flat_map (g y) xs) ys)

pub exchanged : {X Y Z : Type 0} (g : X → Y → List Z) (xs : List X) (ys : List Y) → IsPermutation (flat_map (λ x. flat_map (g x) ys) xs) (flat_map (λ y. flat_map (λ x. g x y) xs) ys)
exchanged g xs ys = by_places (λ x. flat_map (g x) ys) (λ y x. g x y) ys xs (λ x c. IsPermutation-refl (flat_map (g x) ys))

-- 3. numbers that each stand once are the numbers in order
split_at : (x : ℕ) (xs : List ℕ) → Contains xs x → (first : List ℕ) × (after : List ℕ) × (xs ≡ first ++ x ∷ after)
split_at x [] c = absurd (nothing_in x c)
split_at x (y ∷ ys) c =
    elim (in_cases y x ys c) [
      | inl e ↦ ([], ys, ap (λ z. z ∷ ys) e)
      | inr d ↦ let r = split_at x ys d in (y ∷ r.0, r.1, ap (λ l. y ∷ l) r.2)
    ]

counted_yes : (p : ℕ → Bool) (x : ℕ) (xs : List ℕ) → p x ≡ true → count_by p (x ∷ xs) ≡ suc (count_by p xs)
counted_yes p x xs t = grind (arith, common_steps, sum_by-cons)

counted_no : (p : ℕ → Bool) (x : ℕ) (xs : List ℕ) → p x ≡ false → count_by p (x ∷ xs) ≡ count_by p xs
counted_no p x xs f = grind (arith, common_steps, sum_by-cons)

counted_middle : (p : ℕ → Bool) (xs : List ℕ) (x : ℕ) (ys : List ℕ) → count_by p (xs ++ x ∷ ys) ≡ count_by p (x ∷ (xs ++ ys))
counted_middle p xs x ys = sym (sum_by-IsPermutation (λ y. cond (p y) 1 0) (xs ++ x ∷ ys) (x ∷ (xs ++ ys)) (IsPermutation-middle xs x ys))

counted : (x : ℕ) (xs : List ℕ) → Contains xs x → 0 < count_by (λ j. j == x) xs
counted x [] c = absurd (nothing_in x c)
counted x (y ∷ ys) c = grind (arith, common_steps, counted x ys, counted_yes, counted_no, in_cases)

pub as_numbers : {X Z : Type 0} (f : ℕ → List Z) (i : ℕ) (xs : List X) (ms : List ℕ) → ((j : ℕ) → i ≤ j → j < i + length xs → count_by (λ n. n == j) ms ≡ 1) → ((j : ℕ) → Contains ms j → (i ≤ j) × (j < i + length xs))
    → IsPermutation (flat_map f (numbers_from i xs)) (flat_map f ms)
as_numbers f i [] [] once known = IsPermutation-refl []
as_numbers f i [] (m ∷ ms) once known = (let b = known m (in_head m ms) in let l = b.0 in let u = b.1 in absurd (omega (arith, l, u)))
as_numbers f i (x ∷ xs) ms once known =
    let one = once i (omega arith) (omega arith) in
    let s = split_at i ms (member_counted i ms one) in
    by s.0 s.1 s.2 (as_numbers f (suc i) xs (s.0 ++ s.1))
  where
    others : (a b : List ℕ) → ms ≡ a ++ i ∷ b → (j : ℕ) → suc i ≤ j → count_by (λ n. n == j) ms ≡ count_by (λ n. n == j) (a ++ b)
    others a b e j l = grind (arith, common_steps, counted_middle, counted_no)

    here : (a b : List ℕ) → ms ≡ a ++ i ∷ b → count_by (λ n. n == i) (a ++ b) ≡ 0
    here a b e =
        let q = sym (once i (omega arith) (omega arith)) ∙ ap (count_by (λ n. n == i)) e ∙ counted_middle (λ n. n == i) a i b ∙ counted_yes (λ n. n == i) i (a ++ b) (eq-eqb i i refl) in
        omega (arith, q)

    member : (a b : List ℕ) → ms ≡ a ++ i ∷ b → (j : ℕ) → Contains (a ++ b) j → Contains ms j
    member a b e j c =
        subst (λ l. Contains l j) (sym e)
        (elim (Contains-append_cases a b j c) [ inl k ↦ Contains-append_left a (i ∷ b) j k | inr k ↦ Contains-append_right a (i ∷ b) j (in_tail i j b k) ])

    above : (a b : List ℕ) → ms ≡ a ++ i ∷ b → (j : ℕ) → Contains (a ++ b) j → (suc i ≤ j) × (j < suc i + length xs)
    above a b e j c =
        let k = known j (member a b e j c) in
        let l = k.0 in
        let u = k.1 in
        let differ : (i ≡ j → ⊥) = λ q. let z = here a b e in let n = counted i (a ++ b) (subst (Contains (a ++ b)) (sym q) c) in absurd (omega (arith, z, n)) in
        elim (cases_Bool (i == j)) [
          | inl t ↦ absurd (differ (eqb-true i j t))
          | inr f ↦ let d : (i ≡ j → ⊥) = λ q. absurd (false≢true (sym f ∙ eq-eqb i j q)) in (omega (arith, l, d), omega (arith, u))
        ]

    by : (a b : List ℕ) → ms ≡ a ++ i ∷ b
        → (((j : ℕ) → suc i ≤ j → j < suc i + length xs → count_by (λ n. n == j) (a ++ b) ≡ 1) → ((j : ℕ) → Contains (a ++ b) j → (suc i ≤ j) × (j < suc i + length xs)) → IsPermutation (flat_map f (numbers_from (suc i) xs)) (flat_map f (a ++ b)))
        → IsPermutation (f i ++ flat_map f (numbers_from (suc i) xs)) (flat_map f ms)
    by a b e go =
        let rest = go (λ j l u. sym (others a b e j l) ∙ once j (omega (arith, l)) (omega (arith, u))) (above a b e) in
        let apart : flat_map f ms ≡ flat_map f a ++ (f i ++ flat_map f b) = ap (flat_map f) e ∙ flat_map-append f a (i ∷ b) in
        subst (IsPermutation (f i ++ flat_map f (numbers_from (suc i) xs))) (sym apart)
        (IsPermutation-trans _ (f i ++ (flat_map f a ++ flat_map f b)) _
        (IsPermutation-append_right (f i) _ _ (subst (IsPermutation (flat_map f (numbers_from (suc i) xs))) (flat_map-append f a b) rest))
        (moved (f i) (flat_map f a) (flat_map f b)))
      where
        moved : {Y : Type 0} (x y z : List Y) → IsPermutation (x ++ (y ++ z)) (y ++ (x ++ z))
        moved x y z = subst₂ IsPermutation (append_assoc x y z) (append_assoc y x z) (IsPermutation-append_left z (x ++ y) (y ++ x) (IsPermutation-append_comm x y))

plus_zero : (n : ℕ) → n + 0 ≡ n
plus_zero n = omega arith

plus_suc : (n k : ℕ) → n + suc k ≡ suc n + k
plus_suc n k = omega arith

pub of_numbers : {X Z : Type 0} (f : ℕ → List Z) (g : X → List Z) (i : ℕ) (xs : List X) → ((j : ℕ) (x : X) → slice_get xs j ≡ Some x → f (i + j) ≡ g x) → flat_map f (numbers_from i xs) ≡ flat_map g xs
of_numbers f g i [] h = refl
of_numbers f g i (x ∷ xs) h =
    let here = ap f (sym (plus_zero i)) ∙ h 0 x refl in
    let rest = of_numbers f g (suc i) xs (λ j y e. ap f (sym (plus_suc i j)) ∙ h (suc j) y e) in
    λ k. here k ++ rest k
