-- Bits that are written are read as these bits.
use Rattle.std.proofs.Common.{◌≡◌, ℕ, zero, suc, ◌+◌, ◌*◌, ◌^◌, ◌/◌, ◌%◌, ◌<◌, ◌≤◌, ◌==◌, List, [], ◌∷◌, ◌++◌, length, true, refl, inl, inr, ap, ◌∙◌, arith}
use Rattle.std.specs.Prelude.{Bool, ◌&&◌, nat_lt, nat_le, Ok}
use Rattle.std.specs.List.{list_all}
use Rattle.std.proofs.lemmas.Bool.{cases_Bool, ltb-true, leb-true, lt-ltb, le-leb, eqb-true, eqb-false}
use Rattle.std.proofs.lemmas.List.Folds.{list_all-append}
use Rattle.std.proofs.Math.Nat.{pow-zero, pow-suc, mod-lt, div-add-mod, div-lt_iff_lt-mul}
use Rattle.std.proofs.lemmas.List.{length-append}
use Rattle.std.proofs.lemmas.Grind.{common_steps}
use Rattle.text_reader.specs.Numbers.{digits_after, grown}
use Rattle.text_reader.specs.Solid.{nowhere}
use Rattle.text_reader.specs.SpecTrees.{spec_bits}
use Rattle.text_reader.specs.SpecGrammar.{bits_of, word_spec_of}
use Rattle.text_writer.specs.SpecForms.{digit_text, digits_text, bits_text}
use Rattle.text_writer.specs.SpellableTrees.{bits_are_spellable}
use Rattle.text_writer.proofs.WordParts.{both, three}
use Rattle.text_reader.proofs.Digits.{powers}

-- ---- one digit

abbrev all_below : (ℕ → Bool) → ℕ → Bool
all_below test zero = true
all_below test (suc n) = test n && all_below test n

pub each_below : (test : ℕ → Bool) (n : ℕ) → all_below test n ≡ true → (d : ℕ) → d < n → test d ≡ true
each_below test zero h d less = absurd (omega (arith, less))
each_below test (suc n) h d less = grind (arith, common_steps, each_below test n, both, eqb-true, eqb-false)

-- ---- the digits of a number

one_after : (radix n : ℕ) (ds : List ℕ) (d : ℕ) → digits_after radix n (ds ++ d ∷ []) ≡ grown radix (digits_after radix n ds) d
one_after radix n [] d = refl
one_after radix n (e ∷ ds) d = one_after radix (grown radix n e) ds d

text-length : (radix k n : ℕ) → length (digits_text radix k n) ≡ k
text-length radix zero n = refl
text-length radix (suc k) n = grind (arith, common_steps, text-length radix k (n / radix), length-append)

module _ (radix : ℕ) (two : 2 ≤ radix) (most : radix ≤ 16) where
  small : (n : ℕ) → n % radix < 16
  small n = let h : n % radix < radix = mod-lt n (omega (arith, two)) in omega (arith, h, most)

  -- what holds of all digits of the base
  pub text-all : (test : ℕ → Bool) → ((d : ℕ) → d < radix → test (digit_text d) ≡ true) → (k n : ℕ) → list_all test (digits_text radix k n) ≡ true
  text-all test all zero n = refl
  text-all test all (suc k) n = grind (arith, common_steps, text-all test all k (n / radix), list_all-append, mod-lt)

  text-value : (k n : ℕ) → n < radix ^ k → digits_after radix 0 (digits_text radix k n) ≡ n
  text-value zero n h = let one : radix ^ 0 ≡ 1 = pow-zero radix in omega (arith, one, h)
  text-value (suc k) n h = grind (arith, common_steps, text-value k (n / radix), pow-suc, div-lt_iff_lt-mul, one_after, small, div-add-mod)

-- ---- bits

made : (radix each k value : ℕ) → 2 ≤ radix → radix ≤ 16 → 0 < k → k * each ≤ 128 → value < radix ^ k
    → bits_of radix each (digits_text radix k value) nowhere ≡ Ok (spec_bits value (k * each) nowhere)
made radix each k value two most some fits small = grind (arith, common_steps, text-length, lt-ltb, le-leb, text-value, text-all)

pub bits_read : (value width : ℕ) → bits_are_spellable value width ≡ true → word_spec_of (record { text = bits_text value width; at = nowhere }) ≡ Ok (spec_bits value width nowhere)
unfolding bits_are_spellable
bits_read value width h =
    let k = three (nat_lt 0 width) (nat_le width 128) (nat_lt value (2 ^ width)) h in
    let some = ltb-true 0 width k.0 in
    let fits = leb-true width 128 k.1 in
    let small = ltb-true value (2 ^ width) k.2 in
    elim (cases_Bool (width % 4 == 0)) [
      | inl e ↦
          let rest : 4 * (width / 4) + width % 4 ≡ width = div-add-mod width 4 in
          let none : width % 4 ≡ 0 = eqb-true (width % 4) 0 e in
          let whole : 4 * (width / 4) ≡ width = omega (arith, rest, none) in
          let power : 16 ^ (width / 4) ≡ 2 ^ width = powers 4 (width / 4) ∙ ap (λ w. 2 ^ w) whole in
          let other : (width / 4) * 4 ≡ width = omega (arith, whole) in
          rw e (made 16 4 (width / 4) value (omega arith) (omega arith) (omega (arith, whole, some)) (omega (arith, whole, fits)) (omega (arith, small, power)) ∙ ap (λ w. Ok (spec_bits value w nowhere)) other)
      | inr e ↦
          let other : width * 1 ≡ width = omega arith in
          rw e (made 2 1 width value (omega arith) (omega arith) some (omega (arith, fits)) small ∙ ap (λ w. Ok (spec_bits value w nowhere)) other)
    ]
