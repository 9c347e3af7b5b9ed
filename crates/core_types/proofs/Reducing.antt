-- Reducing a number to a signed range, by its rest of the words of so many bits.
use Rattle.std.proofs.Common.{◌≡◌, ℕ, suc, ◌-◌, ◌*◌, ◌^◌, ◌<◌, ℤ, pos, neg_ℤ, ◌+ℤ◌, ◌-ℤ◌, ◌≤ℤ◌, ◌<ℤ◌, sym, ap, subst, ◌∙◌, inl, arith}
use Rattle.std.proofs.Math.Nat.{pow-suc}
use Rattle.std.proofs.lemmas.Int.{ints, by_lt_z}
use Rattle.model.specs.lists.Ranges.{IsInRange, unsigned, signed, reduce}
use Rattle.laws_typing.proofs.Ranges.{reduced_numbers_are_in_range_lem, numbers_in_range_stay_lem, reduced_numbers_differ_by_multiples_lem, reduced_alike_by_multiples_lem}

-- as many are negative as are not
halves : (bits : ℕ) → 0 < bits → 2 ^ bits ≡ 2 ^ (bits - 1) * 2
halves bits some = let next : bits ≡ suc (bits - 1) = omega (arith, some) in ap (λ b. 2 ^ b) next ∙ pow-suc 2 (bits - 1)

within : (h n : ℕ) (r : ℤ) → n ≡ h * 2 → pos 0 ≤ℤ r → r <ℤ pos h → (neg_ℤ (pos h) ≤ℤ r) × (r <ℤ (neg_ℤ (pos h) +ℤ pos n))
within h n r twice low less = (omega (arith, ints, twice, low, less), omega (arith, ints, twice, low, less))

beyond : (h n : ℕ) (r : ℤ) → n ≡ h * 2 → r <ℤ (pos 0 +ℤ pos n) → pos h ≤ℤ r → (neg_ℤ (pos h) ≤ℤ (r -ℤ pos n)) × ((r -ℤ pos n) <ℤ (neg_ℤ (pos h) +ℤ pos n))
beyond h n r twice less more = (omega (arith, ints, twice, less, more), omega (arith, ints, twice, less, more))

not_less : (r h : ℤ) → (r <ℤ h → ⊥) → h ≤ℤ r
not_less r h more = by_lt_z r h (λ l. absurd (more l)) (λ m. m)

-- a number and its rest are reduced alike
by_rest : (bits : ℕ) (z : ℤ) → reduce (signed bits) z ≡ reduce (signed bits) (reduce (unsigned bits) z)
by_rest bits z = (reduced_alike_by_multiples_lem (signed bits) z (reduce (unsigned bits) z)).1 (reduced_numbers_differ_by_multiples_lem (unsigned bits) z)

-- so are two that are a range's size apart
one_less : (bits : ℕ) (r : ℤ) → reduce (signed bits) r ≡ reduce (signed bits) (r -ℤ pos (2 ^ bits))
one_less bits r = (reduced_alike_by_multiples_lem (signed bits) r (r -ℤ pos (2 ^ bits))).1 (1, inl (apart (2 ^ bits) r))
  where
    apart : (n : ℕ) (r : ℤ) → r ≡ (r -ℤ pos n) +ℤ pos (1 * n)
    apart n r = omega (arith, ints)

module _ (bits : ℕ) (z : ℤ) (some : 0 < bits) where
  pub small_rest : (r h : ℤ) → r ≡ reduce (unsigned bits) z → h ≡ pos (2 ^ (bits - 1)) → r <ℤ h → r ≡ reduce (signed bits) z
  small_rest r h is half less =
      let low : pos 0 ≤ℤ r = subst (λ x. pos 0 ≤ℤ x) (sym is) (reduced_numbers_are_in_range_lem (unsigned bits) z).0 in
      let there : IsInRange (signed bits) r = within (2 ^ (bits - 1)) (2 ^ bits) r (halves bits some) low (subst (λ x. r <ℤ x) half less) in
      sym (by_rest bits z ∙ ap (reduce (signed bits)) (sym is) ∙ numbers_in_range_stay_lem (signed bits) r there)

  pub large_rest : (r h s : ℤ) → r ≡ reduce (unsigned bits) z → h ≡ pos (2 ^ (bits - 1)) → s ≡ pos (2 ^ bits) → (r <ℤ h → ⊥) → r -ℤ s ≡ reduce (signed bits) z
  large_rest r h s is half all more =
      let up : r <ℤ (pos 0 +ℤ pos (2 ^ bits)) = subst (λ x. x <ℤ (pos 0 +ℤ pos (2 ^ bits))) (sym is) (reduced_numbers_are_in_range_lem (unsigned bits) z).1 in
      let least : pos (2 ^ (bits - 1)) ≤ℤ r = subst (λ x. x ≤ℤ r) half (not_less r h more) in
      let there : IsInRange (signed bits) (r -ℤ pos (2 ^ bits)) = beyond (2 ^ (bits - 1)) (2 ^ bits) r (halves bits some) up least in
      ap (λ x. r -ℤ x) all ∙ sym (by_rest bits z ∙ ap (reduce (signed bits)) (sym is) ∙ one_less bits r ∙ numbers_in_range_stay_lem (signed bits) (r -ℤ pos (2 ^ bits)) there)
