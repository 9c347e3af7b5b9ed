-- Of two different constraints one comes before the other.
use Rattle.std.proofs.Common.{◌≡◌, ◌⊎◌, ℕ, ℤ, ◌==◌, Bool, true, false, nat_lt, sym, arith, eq-eqb, int_cmp, is_lt}
use Rattle.std.proofs.lemmas.Bool.{and_from, or_left, or_right, false_from_ne_true}
use Rattle.std.proofs.lemmas.Int.{ints}
use Rattle.std.proofs.lemmas.Grind.{common_steps}
use Rattle.model.specs.sites.Sites.{Constraint}
use Rattle.model.specs.trees.Sound.{or_later, as_number, comes_before}

last_part : (n m : ℕ) → nat_lt m n ≡ false → (n ≡ m) ⊎ (nat_lt n m ≡ true)
last_part n m h = grind (arith, common_steps)

-- the first difference decides
by_first : {X : Type 0} {E : Type 0} (below same above same_back rest back : Bool) (x y : X)
    → (below ≡ true) ⊎ ((x ≡ y) ⊎ (above ≡ true)) → (x ≡ y → same ≡ true) → (x ≡ y → same_back ≡ true)
    → or_later above same_back back ≡ false → (back ≡ false → E ⊎ (rest ≡ true)) → ((x ≡ y) × E) ⊎ (or_later below same rest ≡ true)
by_first below same above same_back rest back x y k eq eq_back h later = grind (arith, common_steps, or_left, false_from_ne_true, or_right, and_from)

numbers : (a b : ℕ) → (nat_lt a b ≡ true) ⊎ ((a ≡ b) ⊎ (nat_lt b a ≡ true))
numbers a b = grind (arith, common_steps, last_part)

by_number : {E : Type 0} (a b : ℕ) (rest back : Bool) → or_later (nat_lt b a) (b == a) back ≡ false → (back ≡ false → E ⊎ (rest ≡ true))
    → ((a ≡ b) × E) ⊎ (or_later (nat_lt a b) (a == b) rest ≡ true)
by_number a b rest back h later = by_first (nat_lt a b) (a == b) (nat_lt b a) (b == a) rest back a b (numbers a b) (eq-eqb a b) (λ e. eq-eqb b a (sym e)) h later

integers : (y z : ℤ) → (is_lt (int_cmp y z) ≡ true) ⊎ ((y ≡ z) ⊎ (is_lt (int_cmp z y) ≡ true))
integers y z = grind (arith, common_steps, ints)

same_bool : (a b : Bool) → as_number a ≡ as_number b → a ≡ b
same_bool a b e = grind (arith, common_steps)

pub before_total : (c d : Constraint) → comes_before d c ≡ false → (c ≡ d) ⊎ (comes_before c d ≡ true)
before_total c d h = grind (arith, common_steps, by_number, last_part, same_bool, by_first, integers)
