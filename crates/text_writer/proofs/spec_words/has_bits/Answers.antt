use Rattle.std.proofs.Common.{◌≡◌, ◌==◌, ℕ, ◌*◌, ◌/◌, ◌^◌, ◌<◌, ◌≤◌, refl, inl, inr, arith}
use Rattle.std.specs.Prelude.{nat_lt}
use Rattle.std.proofs.lemmas.Bool.{cases_Bool, ltb-true, ltb-false, eqb-true}
use Rattle.std.proofs.Math.Nat.{div-eq_of_lt, div-lt_iff_lt-mul}
use Rattle.std.proofs.lemmas.Nat.{pow_pos}
use Rattle.text_writer.proofs.spec_words.has_bits.Goals as goal

none_left : (a b : ℕ) → 0 < b → (a / b == 0) ≡ nat_lt a b
none_left a b some = elim (cases_Bool (nat_lt a b)) [
  | inl less ↦ let none : a / b ≡ 0 = div-eq_of_lt (ltb-true a b less) in rw (less, none) refl
  | inr more ↦ elim (cases_Bool (a / b == 0)) [
    | inl none ↦
        let zero : a / b ≡ 0 = eqb-true (a / b) 0 none in
        let below : a < 1 * b = (div-lt_iff_lt-mul {k = b} {x = a} {y = 1} some).0 (omega (arith, zero)) in
        let least : b ≤ a = ltb-false a b more in
        absurd (omega (arith, below, least))
    | inr left ↦ rw (left, more) refl
  ]
]

pub returns-else-width-eq128 : goal.returns-else-width-eq128
returns-else-width-eq128 c = none_left c.args.val (2 ^ c.args.width) (pow_pos c.args.width)
