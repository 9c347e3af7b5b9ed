-- The test of UTF-8, and what it tests.
use Rattle.std.proofs.Common.{◌≡◌, ℕ, true, false, List, refl}
use Rattle.std.specs.Str.{IsUtf8, is_utf8}
use Rattle.std.proofs.lemmas.Str.{IsUtf8-from_is_utf8}

pub is_utf8-not : (bytes : List ℕ) → ¬ (IsUtf8 bytes) → is_utf8 bytes ≡ false
is_utf8-not bytes other =
    elim (is_utf8 bytes) as (λ b. (b ≡ true → IsUtf8 bytes) → b ≡ false)
    [ true ↦ λ text. absurd (other (text refl)) | false ↦ λ _. refl ]
    (IsUtf8-from_is_utf8 bytes)
