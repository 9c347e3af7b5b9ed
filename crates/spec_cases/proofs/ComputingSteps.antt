-- What operators give by a width that is written.
use Rattle.std.proofs.Common.{◌≡◌, ℕ, ℤ, pos, negsuc, Bool, true, false, ◌&&◌, Some, None, if◌then◌else◌, refl}
use Rattle.laws_specs.specs.Words as D
use Rattle.spec_cases.specs.Computing as S

-- where two words are of one width, they are equal if their numbers are
pub equal_within : (c d : Bool) → (if c then Some (D.a_truth (c && d)) else None) ≡ (if c then Some (D.a_truth d) else None)
equal_within true d = refl
equal_within false d = refl

pub as_word_size : (y z : ℤ) → D.applied_to D.as_word (D.denoted_and (D.an_integer y) (D.denoted_and (D.an_integer z) D.no_denoted)) ≡ S.word_of_size (S.size_in y) z
as_word_size (pos n) z = refl
as_word_size (negsuc n) z = refl

pub widened_size : (z : ℤ) (w a : ℕ) → D.applied_to D.widened (D.denoted_and (D.an_integer z) (D.denoted_and (D.a_word w a) D.no_denoted)) ≡ S.widened_size (S.size_in z) w a
widened_size (pos n) w a = refl
widened_size (negsuc n) w a = refl

pub widened_signed_size : (z : ℤ) (w a : ℕ) → D.applied_to D.widened_signed (D.denoted_and (D.an_integer z) (D.denoted_and (D.a_word w a) D.no_denoted)) ≡ S.widened_signed_size (S.size_in z) w a
widened_signed_size (pos n) w a = refl
widened_signed_size (negsuc n) w a = refl

pub bits_size : (y z : ℤ) (w a : ℕ) → D.applied_to D.bits (D.denoted_and (D.an_integer y) (D.denoted_and (D.an_integer z) (D.denoted_and (D.a_word w a) D.no_denoted))) ≡ S.bits_size (S.size_in y) (S.size_in z) w a
bits_size (pos n) (pos m) w a = refl
bits_size (pos n) (negsuc m) w a = refl
bits_size (negsuc n) (pos m) w a = refl
bits_size (negsuc n) (negsuc m) w a = refl
