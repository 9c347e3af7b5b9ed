-- How many tests of a set's sites no test around has made: fewer inside each test, so that trees end.
use Rattle.std.proofs.Common.{◌≡◌, ℕ, ◌+◌, ◌<◌, ◌≤◌, ◌==◌, Bool, true, false, not, ◌||◌, cond, List, [], ◌∷◌, ◌++◌, map, Contains, count_by, flat_map, refl, ap, ◌∙◌, inl, inr, arith, eq-eqb}
use Rattle.std.proofs.lemmas.Bool.{or_left}
use Rattle.std.proofs.lemmas.List.Elements.{Contains-append_right}
use Rattle.std.proofs.lemmas.List.Sums.{sum_by-cons}
use Rattle.std.proofs.lemmas.Grind.{common_steps}
use Rattle.model.specs.trees.Places.{Around, is_in, joins}
use Rattle.model.specs.trees.Tests.{Test, match_test, equal_test, loop_test, sources_around, up_to}
use Rattle.model.proofs.Members.{nothing_in, in_cases, in_map, in_flat_map, in_up_to}

-- 1. counting by a test that fewer pass
abbrev weight : Bool → ℕ
weight b = cond b 1 0

counted : {X : Type 0} (p : X → Bool) (x : X) (xs : List X) → count_by p (x ∷ xs) ≡ weight (p x) + count_by p xs
counted p x xs = sum_by-cons (λ x. weight (p x)) x xs

module _ {X : Type 0} (p q : X → Bool) (within : (x : X) → q x ≡ true → p x ≡ true) where
  weight_most : (a b : Bool) → (b ≡ true → a ≡ true) → weight b ≤ weight a
  weight_most a b f = grind arith

  weight_less : (a b : Bool) → a ≡ true → b ≡ false → weight b < weight a
  weight_less a b e f = grind arith

  count_most : (xs : List X) → count_by q xs ≤ count_by p xs
  count_most [] = omega arith
  count_most (x ∷ xs) = grind (arith, common_steps, count_most xs, weight_most (p x) (q x) (within x), counted p x xs, counted q x xs)

  count_fewer : (xs : List X) (x : X) → Contains xs x → p x ≡ true → q x ≡ false → count_by q xs < count_by p xs
  count_fewer [] x c t f = absurd (nothing_in x c)
  count_fewer (y ∷ xs) x c t f =
      let a = counted p y xs in
      let b = counted q y xs in
      elim (in_cases y x xs c) [
        | inl e ↦ let l = weight_less (p y) (q y) (ap p e ∙ t) (ap q e ∙ f) in let m = count_most xs in omega (arith, l, m, a, b)
        | inr d ↦ let l = weight_most (p y) (q y) (within y) in let m = count_fewer xs x d t f in omega (arith, l, m, a, b)
      ]

-- 2. tests
-- no test around is this one
abbrev is_untried : Around → Test → Bool
is_untried ar (match_test s) = not (is_in s (sources_around ar))
is_untried ar (equal_test a b) = not (joins ar.joined a b)
is_untried ar (loop_test s) = not (is_in s (sources_around ar))

-- the matches of n sites, and their pairs
abbrev tests_over : ℕ → List Test
tests_over n = map match_test (up_to n) ++ flat_map (λ b. map (λ a. equal_test a b) (up_to b)) (up_to n)

abbrev pub untried : ℕ → Around → ℕ
untried n ar = count_by (is_untried ar) (tests_over n)

-- as many where as much was tested around
pub untried_same : (n : ℕ) (ar br : Around) → ((s : ℕ) → is_in s (sources_around br) ≡ is_in s (sources_around ar)) → br.joined ≡ ar.joined → untried n br ≡ untried n ar
untried_same n ar br sources joined = grind (arith, common_steps)

match_over : (n s : ℕ) → s < n → Contains (tests_over n) (match_test s)
match_over n s l = grind (arith, common_steps, in_map match_test (up_to n) s (in_up_to n s l), in_up_to n s l)

pair_over : (n a b : ℕ) → a < b → b < n → Contains (tests_over n) (equal_test a b)
pair_over n a b l m =
    Contains-append_right (map match_test (up_to n)) (flat_map (λ b. map (λ a. equal_test a b) (up_to b)) (up_to n)) (equal_test a b)
    (in_flat_map (λ b. map (λ a. equal_test a b) (up_to b)) (up_to n) b (equal_test a b) (in_up_to n b m) (in_map (λ a. equal_test a b) (up_to b) a (in_up_to b a l)))

less_untried : (x y : Bool) → not (x || y) ≡ true → not y ≡ true
less_untried x y e = grind (arith, common_steps)

-- one more source
pub untried_source : (n s : ℕ) (ar br : Around) → s < n → is_in s (sources_around ar) ≡ false
    → ((x : ℕ) → is_in x (sources_around br) ≡ ((s == x) || is_in x (sources_around ar))) → br.joined ≡ ar.joined → untried n br < untried n ar
untried_source n s ar br l out more same =
    count_fewer (is_untried ar) (is_untried br) within (tests_over n) (match_test s) (match_over n s l) (ap not out)
    (ap not (more s ∙ or_left (s == s) (is_in s (sources_around ar)) (eq-eqb s s refl)))
  where
    within : (t : Test) → is_untried br t ≡ true → is_untried ar t ≡ true
    within t e = grind (arith, common_steps, less_untried)

pair_joins : (ps : List (ℕ × ℕ)) (a b : ℕ) → joins ((a, b) ∷ ps) a b ≡ true
pair_joins ps a b = grind (arith, common_steps)

-- one more pair
pub untried_pair : (n a b : ℕ) (ar br : Around) → a < b → b < n → joins ar.joined a b ≡ false
    → ((x : ℕ) → is_in x (sources_around br) ≡ is_in x (sources_around ar)) → br.joined ≡ (a, b) ∷ ar.joined → untried n br < untried n ar
untried_pair n a b ar br l m out same more =
    count_fewer (is_untried ar) (is_untried br) within (tests_over n) (equal_test a b) (pair_over n a b l m) (ap not out)
    (ap not (ap (λ ps. joins ps a b) more ∙ pair_joins ar.joined a b))
  where
    within : (t : Test) → is_untried br t ≡ true → is_untried ar t ≡ true
    within t e = grind (arith, common_steps)
