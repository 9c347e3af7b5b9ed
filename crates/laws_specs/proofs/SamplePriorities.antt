-- A rule that is right only where the one above it doesn't match.
use Rattle.std.proofs.Common.{◌≡◌, ◌⊎◌, ℕ, pos, true, false, List, [], ◌∷◌, Some, Contains, refl, sym, ap, subst, ◌∙◌, inl, inr, arith}
use Rattle.std.proofs.lemmas.Grind.{common_steps}
use Rattle.std.proofs.lemmas.Bool.{and_parts, false≢true, eqb-true}
use Rattle.std.proofs.lemmas.Int.{ints}
use Rattle.model.specs.sites.Sites.{Constraint, is_variant, SiteTerm, int_term, argument}
use Rattle.model.specs.rules.Program.{rules_of}
use Rattle.model.proofs.Elements.{In, in_from_contains, contains_from_in, some_is}
use Rattle.laws_specs.specs.Words.{Denoted, variant_of, DenotedList, no_denoted, denoted_and}
use Rattle.laws_specs.specs.Specs.{IsSaid, no_unknown}
use Rattle.laws_specs.specs.Conditions.{ToldContent, told, result_as, Valuation, is_of_type, IsPartHeld, condition, IsAssumed, IsAbove, IsNoneAbove, IsValid, IsValidBelow}
use Rattle.laws_specs.specs.Samples.{byte}
use Rattle.laws_specs.specs.SamplePriorities.{for_a, for_others, codes, letter, its_code, code_specs, PrioritiesCount}
use Rattle.laws_specs.proofs.SampleConditions.{listed_as, only_one, just_one, truths_same, none_first, none_made}

-- 1. the lower rule alone, of A
abbrev argument_a : DenotedList
argument_a = denoted_and (letter 0) no_denoted

abbrev wrong_sites : List (SiteTerm × ToldContent)
wrong_sites = (argument 0, told (letter 0)) ∷ ((int_term (pos 20) 1, told (byte 20)) ∷ [])

abbrev wrong : Valuation
wrong = listed_as wrong_sites

alone_wrong : IsValid codes code_specs (condition codes for_others) → ⊥
alone_wrong right =
    let shown = right argument_a wrong (grind (arith, common_steps)) in
    false≢true (truths_same false true (only_one (IsSaid no_unknown argument_a (Some (byte 20))) its_code (shown.provides (told (byte 20)) (byte 20) (none_made codes code_specs wrong) refl refl)))

-- 2. an argument is A or B
letter_is : (b : Denoted) → is_of_type codes.types code_specs 2 b ≡ true → (letter 0 ≡ b) ⊎ (letter 1 ≡ b)
letter_is b h = grind (arith, common_steps, eqb-true, and_parts)

-- what a literal gives
pub given_is : (n : ℕ) (h : ToldContent) (y : Denoted) → ((x : Denoted) → Some (byte n) ≡ Some x → h ≡ told x) → result_as h ≡ Some y → byte n ≡ y
given_is n h y f e = some_is (byte n) y (sym (ap result_as (f (byte n) refl)) ∙ e)

-- 3. the lower rule below the other one
abbrev asked_a : SiteTerm × Constraint
asked_a = (argument 0, is_variant 2 0 0)

a_listed : Contains (asked_a ∷ []) asked_a
a_listed = contains_from_in (asked_a ∷ []) asked_a (inl refl)

above : IsAbove codes for_others for_a
above = (contains_from_in (rules_of codes 2) for_a (inl refl), omega (arith, ints))

abbrev one_letter : Denoted → DenotedList
one_letter b = denoted_and b no_denoted

others_said : (b : Denoted) (f : Valuation) → IsNoneAbove codes code_specs for_others (one_letter b) f → (letter 0 ≡ b) ⊎ (letter 1 ≡ b) → IsSaid no_unknown (one_letter b) (Some (byte 20)) its_code
others_said b f a (inr e) = subst (λ z. IsSaid no_unknown (one_letter z) (Some (byte 20)) its_code) e refl
others_said b f a (inl e) = absurd (a.none for_a above (λ s k i. marked (s, k) (in_from_contains (asked_a ∷ []) (s, k) i)) (λ u v i. absurd (in_from_contains [] (u, v) i)))
  where
    there : f (argument 0) ≡ Some (told (letter 0))
    there = a.there (argument 0) (told (letter 0)) refl (record { part = letter 0; there = ap Some (sym e); held = refl })

    marked : (y : SiteTerm × Constraint) → In (asked_a ∷ []) y → a.constraint y.0 y.1 ≡ true
    marked y (inl q) = subst (λ (z : SiteTerm × Constraint). a.constraint z.0 z.1 ≡ true) q (a.decided for_a (argument 0) (is_variant 2 0 0) above a_listed refl (no_denoted, there))
    marked y (inr n) = absurd n

pub others_right : IsValidBelow codes code_specs for_others
others_right (denoted_and b no_denoted) f a none = record {
  provides = λ h y made e q.
      (let is = letter_is b (and_parts (is_of_type codes.types code_specs 2 b) true a.arguments).0 in
      just_one (IsSaid no_unknown (one_letter b) (Some y)) its_code
      (subst (λ z. IsSaid no_unknown (one_letter b) (Some z) its_code) (given_is 20 h y (a.held (int_term (pos 20) 1) h e) q) (others_said b f none is)));
  requires = λ before after u t n ss xs split made e q. absurd (none_first before after u split);
}
others_right h f a none = grind (arith, common_steps, and_parts)

-- 4. and the other one
a_said : (b : Denoted) (f : Valuation) → IsAssumed codes code_specs (condition codes for_a) (one_letter b) f → (letter 0 ≡ b) ⊎ (letter 1 ≡ b) → IsSaid no_unknown (one_letter b) (Some (byte 10)) its_code
a_said b f a (inl e) = subst (λ z. IsSaid no_unknown (one_letter z) (Some (byte 10)) its_code) e refl
a_said b f a (inr e) = absurd (differ met.0 part.part part.there part.held)
  where
    met : (xs : DenotedList) × (f (argument 0) ≡ Some (told (variant_of 2 0 xs)))
    met = a.constraints (argument 0) (is_variant 2 0 0) a_listed

    part : IsPartHeld (one_letter b) 0 (told (variant_of 2 0 met.0))
    part = a.held (argument 0) (told (variant_of 2 0 met.0)) met.1

    differ : (xs : DenotedList) (y : Denoted) → Some b ≡ Some y → told (variant_of 2 0 xs) ≡ told y → ⊥
    differ xs y q r = other xs (e ∙ some_is b y q ∙ sym (same xs y r))
      where
        same : (xs : DenotedList) (y : Denoted) → told (variant_of 2 0 xs) ≡ told y → variant_of 2 0 xs ≡ y
        same xs y r = cc

        other : (xs : DenotedList) → letter 1 ≡ variant_of 2 0 xs → ⊥
        other xs r = cc

pub a_right : IsValidBelow codes code_specs for_a
a_right (denoted_and b no_denoted) f a none = record {
  provides = λ h y made e q.
      (let is = letter_is b (and_parts (is_of_type codes.types code_specs 2 b) true a.arguments).0 in
      just_one (IsSaid no_unknown (one_letter b) (Some y)) its_code
      (subst (λ z. IsSaid no_unknown (one_letter b) (Some z) its_code) (given_is 10 h y (a.held (int_term (pos 10) 1) h e) q) (a_said b f a is)));
  requires = λ before after u t n ss xs split made e q. absurd (none_first before after u split);
}
a_right h f a none = grind (arith, common_steps, and_parts)

pub priorities_count_lem : PrioritiesCount
priorities_count_lem = (alone_wrong, others_right, a_right)
