-- Reducing a number to a range: by a multiple that lifts it to a natural number.
use Rattle.std.proofs.Common.{◌≡◌, ℕ, suc, ◌+◌, ◌-◌, ◌*◌, ◌/◌, ◌%◌, ◌<◌, ◌≤◌, ℤ, pos, negsuc, ◌+ℤ◌, ◌-ℤ◌, ◌≤ℤ◌, true, Option, Some, refl, sym, ap, ◌∙◌, inl, inr, arith}
use Rattle.std.proofs.lemmas.Grind.{common_steps}
use Rattle.std.specs.Int.{int_rem_euclid}
use Rattle.std.proofs.lemmas.Bool.{cases_lt, and_parts, and_from}
use Rattle.std.proofs.lemmas.Bool.Decides.{Decides-int_eq}
use Rattle.std.proofs.lemmas.Int.{ints, int_rem_euclid_is}
use Rattle.std.proofs.lemmas.Nat.{pow_pos, mul-le, mod_below, mod-mul-add, div-add-mod'}
use Rattle.model.specs.lists.Tables.{TypeEntry}
use Rattle.model.specs.rules.Values.{is_atom_type}
use Rattle.model.specs.lists.Ranges.{Range, size, IsInRange, DifferByMultiple, reduce, range_of, reduced, is_literal_of}
use Rattle.laws_typing.specs.RangeLaws.{ReducedNumbersAreInRange, NumbersInRangeStay, ReducingTwiceIsReducing, ReducedAlikeByMultiples, ReducedNumbersDifferByMultiples, OneOfTheRangeDiffersByAMultiple}

-- 1. a number, lifted by a multiple of n
record Lifted (n : ℕ) (z : ℤ) : Type 0 where
  times : ℕ
  lifted : ℕ
  is : z +ℤ pos (times * n) ≡ pos lifted

lift : (n : ℕ) → 0 < n → (z : ℤ) → Lifted n z
lift n some (pos a) = record { times = 0; lifted = a; is = omega (arith, ints) }
lift n some (negsuc a) =
    let far : suc a * 1 ≤ suc a * n = mul-le (suc a) 1 (suc a) n (omega arith) some in
    record { times = suc a; lifted = suc a * n - suc a; is = omega (arith, ints, far) }

rest : (n : ℕ) → 0 < n → (z : ℤ) (k m : ℕ) → z +ℤ pos (k * n) ≡ pos m → int_rem_euclid z (pos n) ≡ pos (m % n)
rest n some z k m e = int_rem_euclid_is z (pos n) n k m some refl e

-- the natural number that is to be added
gap : (a b : ℤ) → a ≤ℤ b → (j : ℕ) × (b -ℤ a ≡ pos j)
gap a b l = by (b -ℤ a) refl
  where
    by : (w : ℤ) → b -ℤ a ≡ w → (j : ℕ) × (b -ℤ a ≡ pos j)
    by w e = grind (arith, common_steps, ints)

some_size : (r : Range) → 0 < size r
some_size r = pow_pos r.bits

-- 2. the laws
pub reduced_numbers_are_in_range_lem : ReducedNumbersAreInRange
reduced_numbers_are_in_range_lem r z = grind (arith, common_steps, some_size r, lift, some_size, mod_below, ints)

pub numbers_in_range_stay_lem : NumbersInRangeStay
numbers_in_range_stay_lem r z h =
    let n = size r in
    let g = gap r.least z h.0 in
    let is = g.1 in
    let less = h.1 in
    let below : g.0 < n = omega (arith, ints, is, less) in
    let e : int_rem_euclid (z -ℤ r.least) (pos n) ≡ pos (g.0 % n) = rest n (some_size r) (z -ℤ r.least) 0 g.0 (omega (arith, ints, is)) in
    let same : g.0 % n ≡ g.0 = ap (λ x. x % n) (omega arith) ∙ mod-mul-add 0 n g.0 below in
    ap (λ x. r.least +ℤ x) (e ∙ ap pos same) ∙ omega (arith, ints, is)

pub reducing_twice_is_reducing_lem : ReducingTwiceIsReducing
reducing_twice_is_reducing_lem r z = numbers_in_range_stay_lem r (reduce r z) (reduced_numbers_are_in_range_lem r z)

-- a number and the same with a multiple more
more_alike : (r : Range) (a b : ℤ) (k : ℕ) → a ≡ b +ℤ pos (k * size r) → reduce r a ≡ reduce r b
more_alike r a b k e =
    let n = size r in
    let l = lift n (some_size r) (b -ℤ r.least) in
    let is = l.is in
    let m = l.lifted + k * n in
    let first = rest n (some_size r) (a -ℤ r.least) l.times m (omega (arith, ints, is, e)) in
    let second = rest n (some_size r) (b -ℤ r.least) (l.times + k) m (omega (arith, ints, is)) in
    ap (λ x. r.least +ℤ x) (first ∙ sym second)

-- two lifted numbers with one rest
apart : (n : ℕ) (a b : ℤ) (j k x y s : ℕ) → a +ℤ pos (j * n) ≡ pos (x * n + s) → b +ℤ pos (k * n) ≡ pos (y * n + s) → DifferByMultiple n a b
apart n a b j k x y s e f =
    elim (cases_lt (x + k) (y + j)) [
      | inl l ↦
          let d = (y + j) - (x + k) in
          let sum : y + j ≡ (x + k) + d = omega (arith, l) in
          let times = ap (λ u. u * n) sum in
          (d, inr (omega (arith, ints, e, f, times)))
      | inr l ↦
          let d = (x + k) - (y + j) in
          let sum : x + k ≡ (y + j) + d = omega (arith, l) in
          let times = ap (λ u. u * n) sum in
          (d, inl (omega (arith, ints, e, f, times)))
    ]

same_rest : (l x y : ℤ) (m n : ℕ) → l +ℤ x ≡ l +ℤ y → x ≡ pos m → y ≡ pos n → m ≡ n
same_rest l x y m n e f g = omega (arith, ints, e, f, g)

pub reduced_alike_by_multiples_lem : ReducedAlikeByMultiples
reduced_alike_by_multiples_lem r a b = (onward, back)
  where
    onward : reduce r a ≡ reduce r b → DifferByMultiple (size r) a b
    onward e =
        let n = size r in
        let l = lift n (some_size r) (a -ℤ r.least) in
        let m = lift n (some_size r) (b -ℤ r.least) in
        let same : l.lifted % n ≡ m.lifted % n =
        same_rest r.least (int_rem_euclid (a -ℤ r.least) (pos n)) (int_rem_euclid (b -ℤ r.least) (pos n)) (l.lifted % n) (m.lifted % n) e
        (rest n (some_size r) (a -ℤ r.least) l.times l.lifted l.is) (rest n (some_size r) (b -ℤ r.least) m.times m.lifted m.is) in
        let first : (a -ℤ r.least) +ℤ pos (l.times * n) ≡ pos (l.lifted / n * n + l.lifted % n) = l.is ∙ ap pos (sym (div-add-mod' l.lifted n)) in
        let second : (b -ℤ r.least) +ℤ pos (m.times * n) ≡ pos (m.lifted / n * n + l.lifted % n) = m.is ∙ ap pos (sym (div-add-mod' m.lifted n) ∙ ap (λ s. m.lifted / n * n + s) (sym same)) in
        let d = apart n (a -ℤ r.least) (b -ℤ r.least) l.times m.times (l.lifted / n) (m.lifted / n) (l.lifted % n) first second in
        (d.0, elim d.1 [ inl q ↦ inl (omega (arith, ints, q)) | inr q ↦ inr (omega (arith, ints, q)) ])

    back : DifferByMultiple (size r) a b → reduce r a ≡ reduce r b
    back d = elim d.1 [ inl q ↦ more_alike r a b d.0 q | inr q ↦ sym (more_alike r b a d.0 q) ]

pub reduced_numbers_differ_by_multiples_lem : ReducedNumbersDifferByMultiples
reduced_numbers_differ_by_multiples_lem r z = (reduced_alike_by_multiples_lem r z (reduce r z)).0 (sym (reducing_twice_is_reducing_lem r z))

pub one_of_the_range_differs_by_a_multiple_lem : OneOfTheRangeDiffersByAMultiple
one_of_the_range_differs_by_a_multiple_lem r z x h d = (reduced_alike_by_multiples_lem r z x).1 d ∙ numbers_in_range_stay_lem r x h

-- 3. literals
-- what a literal stands for is a literal
pub reduced_is_literal : (ty : Option TypeEntry) (z : ℤ) → is_atom_type ty ≡ true → is_literal_of ty (reduced ty z) ≡ true
reduced_is_literal ty z h = grind (arith, common_steps, and_from, reducing_twice_is_reducing_lem)

-- a literal of a type with a range lies in it
pub literal_in_range : (ty : Option TypeEntry) (z : ℤ) (r : Range) → is_literal_of ty z ≡ true → range_of ty ≡ Some r → IsInRange r z
literal_in_range ty z r h e = grind (arith, common_steps, Decides-int_eq, and_parts, reduced_numbers_are_in_range_lem)
