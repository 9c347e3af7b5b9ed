-- How many bytes characters have.
use Rattle.std.proofs.Common.{◌≡◌, ℕ, ◌+◌, ◌≤◌, List, ◌∷◌, ◌++◌, length, sym, ap, ◌∙◌, subst, arith, length-append, chars, encode_utf8, encode_utf8_all, IsUtf8}
use Rattle.std.proofs.lemmas.Str.{encodes-append, encodes-chars, length-encode, len_utf8_bounds}
use Rattle.text_documents.specs.Places.{size, IsCutAt}

abbrev pub width : ℕ → ℕ
width c = length (encode_utf8 c)

pub width_pos : (c : ℕ) → 1 ≤ width c
width_pos c = subst (λ n. 1 ≤ n) (sym (length-encode c)) (len_utf8_bounds c).0

pub size_more : (c : ℕ) (cs : List ℕ) → size (c ∷ cs) ≡ width c + size cs
size_more c cs = length-append (encode_utf8 c) (encode_utf8_all cs)

pub size-append : (xs ys : List ℕ) → size (xs ++ ys) ≡ size xs + size ys
size-append xs ys = ap length (encodes-append xs ys) ∙ length-append (encode_utf8_all xs) (encode_utf8_all ys)

pub size-chars : (bytes : List ℕ) → IsUtf8 bytes → size (chars bytes) ≡ length bytes
size-chars bytes u = ap length (encodes-chars bytes u)

-- a front's bytes and its back's are the text's
pub cut_bytes : (text front back : List ℕ) (offset : ℕ) → IsCutAt text offset front back → offset + size back ≡ size text
cut_bytes text front back offset c = omega (arith, ap size c.parts, size-append front back, c.bytes)
