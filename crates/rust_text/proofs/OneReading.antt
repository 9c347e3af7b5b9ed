-- Where names are told apart, texts have one reading.
use Rattle.std.proofs.Common.{◌≡◌, ℕ, List, ap, sym, subst, ◌∙◌}
use Rattle.std.specs.Prelude.{All}
use Rattle.model_code.specs.ApartNames.{NamesApartMakeTokensApart}
use Rattle.model_code.specs.OneReading.{AreApart, OneReading, PrintedTextHasOneReading}
use Rattle.model_code.specs.Notation.{Notation}
use Rattle.rust_items.specs.Claims.{IsWellNamed}
use Rattle.rust_items.specs.NamedPrograms.{NamedProgram, kinds}
use Rattle.rust_text.specs.OneReading.{IsNamedBy, CodeIsReadOnce, TextsAreReadOnce}
use Rattle.rust_text.specs.ProgramNames.{NameSetting, names_of}
use Rattle.rust_text.specs.ProgramTokens.{WellNamedAreWrittenOnce, is_of_program, named_by}
use Rattle.rust_text.specs.WholeNames.{NamesAreWhole}
use Rattle.rust_text.specs.WrittenOnce.{WrittenOnceAreApart}

module _ (once : WellNamedAreWrittenOnce) (apart : WrittenOnceAreApart) (make : NamesApartMakeTokensApart) where
  that_program : (n : NamedProgram) (s : NameSetting) → IsNamedBy n s → n ≡ named_by s n.constants n.with_rules
  that_program n s b =
      ap (λ x. record { names = x; types = n.types; terms = n.terms; constants = n.constants; with_rules = n.with_rules }) (sym b.of.names)
      ∙ ap (λ x. record { names = s.names; types = x; terms = n.terms; constants = n.constants; with_rules = n.with_rules }) (sym b.of.types)
      ∙ ap (λ x. record { names = s.names; types = s.types; terms = x; constants = n.constants; with_rules = n.with_rules }) (sym b.of.terms)

  tokens_apart : (n : NamedProgram) (s : NameSetting) → All IsWellNamed (kinds n) → IsNamedBy n s → (p : Notation) → AreApart (names_of s) p (is_of_program s n.constants n.with_rules)
  tokens_apart n s named b p =
      make (names_of s) p (is_of_program s n.constants n.with_rules)
      (apart s (is_of_program s n.constants n.with_rules) (once s n.constants n.with_rules (subst (λ x. All IsWellNamed (kinds x)) (that_program n s b) named) b.tell))

  pub texts_are_read_once_by : OneReading → TextsAreReadOnce
  texts_are_read_once_by one n s named b p text x y h k = one (names_of s) p (is_of_program s n.constants n.with_rules) (tokens_apart n s named b p) text x y h k

  pub code_is_read_once_by : NamesAreWhole → PrintedTextHasOneReading → CodeIsReadOnce
  code_is_read_once_by whole one n s named b p code w u k = one (names_of s) p (is_of_program s n.constants n.with_rules) (whole s) (tokens_apart n s named b p) code w u k
