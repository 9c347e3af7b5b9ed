-- Listed widths: what they leave an argument, and atoms.
use Rattle.std.proofs.Common.{◌≡◌, ℕ, ℤ, pos, true, false, List, [], ◌∷◌, Some, refl, sym, ap, ◌∙◌, arith}
use Rattle.std.proofs.lemmas.Grind.{common_steps}
use Rattle.std.proofs.lemmas.Bool.{and_parts, false≢true, eqb-true}
use Rattle.model.specs.sites.Sites.{SiteTerm, argument}
use Rattle.model.proofs.Elements.{in_from_contains, or_split, some_is, none_some}
use Rattle.laws_specs.specs.Words.{Denoted, a_word, DenotedList, no_denoted, denoted_and}
use Rattle.laws_specs.specs.WordOperators.{word_of}
use Rattle.laws_specs.specs.Specs.{Sort, words_among, is_of_sort, sort_of, literal_of, IsSaid, no_unknown}
use Rattle.laws_specs.specs.Conditions.{ToldContent, told, result_as, is_of_type, is_without_atoms, IsPartHeld, Valuation, IsAssumed, condition}
use Rattle.laws_specs.specs.Meets.{IsDenotation}
use Rattle.laws_specs.specs.Samples.{x, rule_of, program_with}
use Rattle.laws_specs.specs.SampleCalls.{bytes_as}
use Rattle.laws_specs.specs.SampleWidths.{has_eight_bits, among, IsRightAmong, WidthsAreListed}
use Rattle.laws_specs.proofs.SampleAnswers.{byte_formed}
use Rattle.laws_specs.proofs.SampleConditions.{listed_as, each_held, no_picks, only_one, just_one, truths_same, none_first, none_made}

-- 1. an argument of eight bits
a_byte_is_said : (b : Denoted) → is_of_type (program_with x).types (among (8 ∷ [])) 1 b ≡ true → IsSaid no_unknown (denoted_and b no_denoted) (Some b) has_eight_bits
a_byte_is_said b h = grind (arith, common_steps, or_split, and_parts, eqb-true)

byte_right : IsRightAmong (8 ∷ [])
byte_right (denoted_and b no_denoted) f a = record {
  provides = λ h y made e q.
      (let part : IsPartHeld (denoted_and b no_denoted) 0 h = a.held (argument 0) h e in
      let same : b ≡ y = some_is b part.part part.there ∙ some_is part.part y (sym (ap result_as part.held) ∙ q) in
      just_one (IsSaid no_unknown (denoted_and b no_denoted) (Some y)) has_eight_bits
      (grind (arith, common_steps, a_byte_is_said, and_parts)));
  requires = λ before after u t n ss xs split made e q. absurd (none_first before after u split);
}
byte_right h f a = grind (arith, common_steps, and_parts)

-- 2. and one of sixteen
abbrev a_wide_one : Denoted
a_wide_one = a_word 16 1

abbrev wide_argument : DenotedList
wide_argument = denoted_and a_wide_one no_denoted

abbrev wide_sites : List (SiteTerm × ToldContent)
wide_sites = (argument 0, told a_wide_one) ∷ []

abbrev wide : Valuation
wide = listed_as wide_sites

wide_assumed : IsAssumed (program_with x) (among (8 ∷ (16 ∷ []))) (condition (program_with x) (rule_of x)) wide_argument wide
wide_assumed = grind (arith, common_steps, none_some, each_held, in_from_contains, no_picks)

wide_wrong : IsRightAmong (8 ∷ (16 ∷ [])) → ⊥
wide_wrong right =
    let shown = right wide_argument wide wide_assumed in
    false≢true (truths_same false true (only_one (IsSaid no_unknown wide_argument (Some a_wide_one)) has_eight_bits
    (shown.provides (told a_wide_one) a_wide_one (none_made (program_with x) (among (8 ∷ (16 ∷ []))) wide) refl refl)))

-- 3. atoms
byte_listed : (ty n : ℕ) (s : Sort) → sort_of (among (8 ∷ (16 ∷ []))) ty ≡ Some s → is_of_sort s (a_word 8 n) ≡ true
byte_listed ty n s e = grind (arith, common_steps, none_some s, some_is, none_some)

-- of listed widths no literal stands for a number
none_numbered : (ty : ℕ) (z : ℤ) (y : Denoted) → literal_of (among (8 ∷ (16 ∷ []))) z ty ≡ Some y → bytes_as ty z ≡ y
none_numbered ty z y e = grind (arith, common_steps, none_some y, none_some)

not_without : (ty : ℕ) → is_without_atoms (program_with x).types (among (8 ∷ (16 ∷ []))) ty ≡ true → ⊥
not_without ty h = grind (arith, common_steps, none_some)

pub widths_are_listed_lem : WidthsAreListed
widths_are_listed_lem = record {
  listed = refl;
  not_listed = refl;
  no_word = refl;
  none_listed = refl;
  right = byte_right;
  wrong = wide_wrong;
  bytes = record { formed = λ ty z. byte_formed z; sorted = λ ty z s e h n. byte_listed ty (word_of 8 z) s e; numbers = λ ty z y own e. none_numbered ty z y e; plain = λ ty z parts h n. refl; made = λ ty z h. absurd (not_without ty h); unknowns = λ g s xs e sorted formed. absurd (none_some s e) };
  no_bytes = λ (d : IsDenotation (program_with x) (among (16 ∷ [])) bytes_as). false≢true (d.sorted 1 (pos 0) (words_among (16 ∷ [])) refl refl refl);
}
