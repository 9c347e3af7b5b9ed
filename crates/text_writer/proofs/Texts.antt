-- Texts that grow by a character.
use Rattle.std.proofs.Common.{◌≡◌, ℕ, ◌+◌, List, [], ◌∷◌, ◌++◌, length, sym, ap, ◌∙◌, chars, encode_utf8, encode_utf8_all, IsUtf8}
use Rattle.std.specs.Prelude.{replicate, string_bytes, string_len, false, true, ◌==◌}
use Rattle.std.proofs.Common.{String}
use Rattle.std.proofs.Common.{arith}
use Rattle.std.proofs.lemmas.Bool.{eqb-true}
use Rattle.text_reader.specs.Pieces.{sign, alone}
use Rattle.text_writer.specs.Scanning.{sign_piece}
use Rattle.std.proofs.lemmas.List.{append_assoc, append-nil, nil_from_length, replicate-append-replicate}
use Rattle.std.proofs.lemmas.Str.{chars_from_encodes, encodes-append, encodes-chars, chars-nil, IsUtf8-string_bytes, chars_past_char}
use Rattle.std.proofs.lemmas.Grind.{common_steps}

pushed : (old new : List ℕ) (c : ℕ) → IsUtf8 old → IsUtf8 new → new ≡ old ++ encode_utf8 c → chars new ≡ chars old ++ c ∷ []
pushed old new c uo un e = sym (chars_from_encodes (chars old ++ c ∷ []) new un
    (encodes-append (chars old) (c ∷ []) ∙ ap (λ x. encode_utf8_all (chars old) ++ x) (append-nil (encode_utf8 c)) ∙ ap (λ x. x ++ encode_utf8 c) (encodes-chars old uo) ∙ sym e))

pub pushed_text : {Z : Type 0} (s t : String Z) (c : ℕ) → string_bytes t ≡ string_bytes s ++ encode_utf8 c → chars (string_bytes t) ≡ chars (string_bytes s) ++ c ∷ []
pushed_text s t c e = pushed (string_bytes s) (string_bytes t) c (IsUtf8-string_bytes s) (IsUtf8-string_bytes t) e

pub empty_text : {Z : Type 0} (s : String Z) → string_bytes s ≡ [] → chars (string_bytes s) ≡ []
empty_text s e = ap chars e ∙ chars-nil

pub encoded_text : {Z : Type 0} (s : String Z) → encode_utf8_all (chars (string_bytes s)) ≡ string_bytes s
encoded_text s = encodes-chars (string_bytes s) (IsUtf8-string_bytes s)

pub ruleset texts = (pushed_text, empty_text, encoded_text)

-- what is left of a text, by its next character
pub next_char : {A : Type 0} (f : List ℕ → A) (whole : A) (c : ℕ) (bytes rest : List ℕ) → IsUtf8 bytes → bytes ≡ encode_utf8 c ++ rest → f (chars bytes) ≡ whole → f (c ∷ chars rest) ≡ whole
next_char f whole c bytes rest u e w = ap f (sym (chars_past_char bytes rest c u e)) ∙ w

pub no_char : {A : Type 0} (f : List ℕ → A) (whole : A) (bytes : List ℕ) → length bytes ≡ 0 → f (chars bytes) ≡ whole → f [] ≡ whole
no_char f whole bytes e w = ap f (sym (ap chars (nil_from_length bytes e) ∙ chars-nil)) ∙ w

-- a text with one more character that is written already
pub moved_over : (old new : List ℕ) (c : ℕ) (rest whole : List ℕ) → new ≡ old ++ c ∷ [] → old ++ c ∷ rest ≡ whole → new ++ rest ≡ whole
moved_over old new c rest whole e w = ap (λ x. x ++ rest) e ∙ append_assoc old (c ∷ []) rest ∙ w

pub one_more : (old new : List ℕ) (before : List ℕ) (n c : ℕ) → new ≡ old ++ c ∷ [] → old ≡ before ++ replicate n c → new ≡ before ++ replicate (n + 1) c
one_more old new before n c e h = e ∙ ap (λ x. x ++ c ∷ []) h ∙ append_assoc before (replicate n c) (c ∷ []) ∙ ap (λ x. before ++ x) (replicate-append-replicate n 1 c)

pub sign_named : {Z : Type 0} (s : String Z) → (string_len s == 0) ≡ false → sign_piece (chars (string_bytes s)) ≡ sign (chars (string_bytes s))
sign_named s n = grind (arith, common_steps, encoded_text s)

pub sign_alone : {Z : Type 0} (s : String Z) → (string_len s == 0) ≡ true → sign_piece (chars (string_bytes s)) ≡ alone
sign_alone s n = grind (arith, common_steps, chars-nil, eqb-true)
