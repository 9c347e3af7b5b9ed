-- The sample's names are told apart and tell what they name.
use Rattle.std.proofs.Common.{◌≡◌, ◌≢◌, ◌&&◌, ◌||◌, ◌==◌, ◌∷◌, [], ℕ, zero, suc, Bool, true, false, not, List, Option, Some, None, get_or, slice_get, codes, refl, ap, sym, subst, ◌∙◌, arith}
use Rattle.std.specs.Prelude.{All, IsUtf8, is_none}
use Rattle.std.specs.Fmt.{digits}
use Rattle.std.specs.List.{list_all}
use Rattle.std.specs.Str.{bytes_eq, chars, IsAscii}
use Rattle.std.proofs.lemmas.Bool.{and_parts, false≢true}
use Rattle.std.proofs.lemmas.List.Elements.{All-nil, All-cons}
use Rattle.std.proofs.lemmas.Str.{IsUtf8-from_ascii}
use Rattle.std.proofs.lemmas.Str.Ascii.{IsAscii-nil, IsAscii-cons}
use Rattle.std.proofs.lemmas.Bool.{eqb-true}
use Rattle.model.specs.lists.Signatures.{text_of}
use Rattle.model.specs.trees.Places.{is_in}
use Rattle.model.proofs.Bytes.{same_bytes, same_self}
use Rattle.model_code.specs.Notation.{Callee, extractor_of, constructor_of}
use Rattle.model_code.specs.ProgramNotation.{outside_of}
use Rattle.model_code.specs.Tokens.{Owner, variant_owner, struct_owner}
use Rattle.rust_items.specs.Claims.{Claim, Namespace, IsWellNamed, first_taken}
use Rattle.rust_items.specs.NamedPrograms.{kinds}
use Rattle.rust_text.specs.ProgramNames.{int_at, program_in}
use Rattle.rust_text.specs.ProgramTokens.{NamesTell, field_text, type_text, variant_text}
use Rattle.rust_text.specs.ReadOnceSample.{setting, program, SampleIsReadOnce}

-- 1. kinds whose names are told apart, by a test
abbrev is_apart : Claim → Claim → Bool
is_apart c d = not (bytes_eq c.written d.written) || bytes_eq c.owner d.owner

abbrev apart_from : Claim → List Claim → Bool
apart_from c [] = true
apart_from c (d ∷ ds) = is_apart c d && apart_from c ds

abbrev all_apart : List Claim → Bool
all_apart [] = true
all_apart (c ∷ cs) = apart_from c cs && all_apart cs

told_apart : (c d : Claim) → is_apart c d ≡ true → c.written ≡ d.written → c.owner ≡ d.owner
told_apart c d h e = same_bytes c.owner d.owner (sym (ap (λ b. not b || bytes_eq c.owner d.owner) (ap (bytes_eq c.written) (sym e) ∙ same_self c.written)) ∙ h)

from_apart : (c : Claim) (ds : List Claim) (j : ℕ) (b : Claim) → apart_from c ds ≡ true → slice_get ds j ≡ Some b → c.written ≡ b.written → c.owner ≡ b.owner
from_apart c [] j b h g e = absurd (cc)
from_apart c (d ∷ ds) zero b h g e = let z : d ≡ b = cc in told_apart c b (subst (λ x. is_apart c x ≡ true) z (and_parts (is_apart c d) (apart_from c ds) h).0) e
from_apart c (d ∷ ds) (suc j) b h g e = from_apart c ds j b (and_parts (is_apart c d) (apart_from c ds) h).1 g e

apart_by : (cs : List Claim) → all_apart cs ≡ true → (i j : ℕ) (a b : Claim) → slice_get cs i ≡ Some a → slice_get cs j ≡ Some b → a.written ≡ b.written → a.owner ≡ b.owner
apart_by [] h i j a b f g e = absurd (cc)
apart_by (c ∷ cs) h zero zero a b f g e = let z : a ≡ b = cc in ap (λ (x : Claim). x.owner) z
apart_by (c ∷ cs) h zero (suc j) a b f g e =
    let z : c ≡ a = cc in subst (λ (x : Claim). x.written ≡ b.written → x.owner ≡ b.owner) z (λ k. from_apart c cs j b (and_parts (apart_from c cs) (all_apart cs) h).0 g k) e
apart_by (c ∷ cs) h (suc i) zero a b f g e =
    let z : c ≡ b = cc in subst (λ (x : Claim). a.written ≡ x.written → a.owner ≡ x.owner) z (λ k. sym (from_apart c cs i a (and_parts (apart_from c cs) (all_apart cs) h).0 f (sym k))) e
apart_by (c ∷ cs) h (suc i) (suc j) a b f g e = apart_by cs (and_parts (apart_from c cs) (all_apart cs) h).1 i j a b f g e

abbrev is_well : Namespace → Bool
is_well k = is_none (first_taken k) && all_apart k.claims

none_by : (o : Option Claim) → is_none o ≡ true → o ≡ None
none_by None h = refl
none_by (Some c) h = absurd (false≢true h)

all_well : (ks : List Namespace) → list_all is_well ks ≡ true → All IsWellNamed ks
all_well [] h = All-nil IsWellNamed
all_well (k ∷ ks) h =
    let hs = and_parts (is_well k) (list_all is_well ks) h in
    let ws = and_parts (is_none (first_taken k)) (all_apart k.claims) hs.0 in
    All-cons IsWellNamed k ks (record { free = none_by (first_taken k) ws.0; apart = record { apart = apart_by k.claims ws.1 } }) (all_well ks hs.1)

sample_well : list_all is_well (kinds program) ≡ true
unfolding chars
sample_well = refl

-- 2. names that tell
ascii : (c : ℕ) → IsAscii (c ∷ []) → IsUtf8 (c ∷ [])
ascii c a = IsUtf8-from_ascii (c ∷ []) a

utf8 : (k : ℕ) → IsUtf8 (text_of setting.names k)
utf8 zero = ascii 69 (IsAscii-cons 69 [] (omega arith) IsAscii-nil)
utf8 (suc zero) = ascii 65 (IsAscii-cons 65 [] (omega arith) IsAscii-nil)
utf8 (suc (suc zero)) = ascii 66 (IsAscii-cons 66 [] (omega arith) IsAscii-nil)
utf8 (suc (suc (suc zero))) = ascii 120 (IsAscii-cons 120 [] (omega arith) IsAscii-nil)
utf8 (suc (suc (suc (suc zero)))) = ascii 75 (IsAscii-cons 75 [] (omega arith) IsAscii-nil)
utf8 (suc (suc (suc (suc (suc zero))))) = ascii 102 (IsAscii-cons 102 [] (omega arith) IsAscii-nil)
utf8 (suc (suc (suc (suc (suc (suc zero)))))) = ascii 116 (IsAscii-cons 116 [] (omega arith) IsAscii-nil)
utf8 (suc (suc (suc (suc (suc (suc (suc k))))))) = IsUtf8-from_ascii [] IsAscii-nil

last : (b : Bool) → (b || false) ≡ true → b ≡ true
last true h = refl
last false h = h

only : (c k : ℕ) → is_in c (k ∷ []) ≡ true → c ≡ k
only c k h = sym (eqb-true k c (last (k == c) h))

types_only : (i : ℕ) (x : List ℕ) → type_text setting i ≡ Some x → i ≡ 2
types_only zero x h = absurd (cc)
types_only (suc zero) x h = absurd (cc)
types_only (suc (suc zero)) x h = refl
types_only (suc (suc (suc i))) x h = absurd (cc)

integers_only : (i place : ℕ) → int_at setting i ≡ Some place → i ≡ 1
integers_only zero place h = absurd (cc)
integers_only (suc zero) place h = refl
integers_only (suc (suc zero)) place h = absurd (cc)
integers_only (suc (suc (suc i))) place h = absurd (cc)

other_letters : (x : List ℕ) → Some (codes "A") ≡ Some x → Some (codes "B") ≡ Some x → ⊥
other_letters x h k = (let z : codes "A" ≡ codes "B" = cc in let y : 65 ≡ 66 = ap (λ w. get_or w 0 0) z in omega (arith, y))

variants_told : (ty i j : ℕ) (x : List ℕ) → variant_text setting ty i ≡ Some x → variant_text setting ty j ≡ Some x → i ≡ j
variants_told zero i j x h k = absurd (cc)
variants_told (suc zero) i j x h k = absurd (cc)
variants_told (suc (suc zero)) zero zero x h k = refl
variants_told (suc (suc zero)) zero (suc zero) x h k = absurd (other_letters x h k)
variants_told (suc (suc zero)) zero (suc (suc j)) x h k = absurd (cc)
variants_told (suc (suc zero)) (suc zero) zero x h k = absurd (other_letters x k h)
variants_told (suc (suc zero)) (suc zero) (suc zero) x h k = refl
variants_told (suc (suc zero)) (suc zero) (suc (suc j)) x h k = absurd (cc)
variants_told (suc (suc zero)) (suc (suc i)) j x h k = absurd (cc)
variants_told (suc (suc (suc ty))) i j x h k = absurd (cc)

field_only : (o : Owner) (i : ℕ) (x : List ℕ) → field_text setting o i ≡ Some x → i ≡ 0
field_only (variant_owner zero v) i x h = absurd (cc)
field_only (variant_owner (suc zero) v) i x h = absurd (cc)
field_only (variant_owner (suc (suc zero)) zero) i x h = absurd (cc)
field_only (variant_owner (suc (suc zero)) (suc zero)) zero x h = refl
field_only (variant_owner (suc (suc zero)) (suc zero)) (suc i) x h = absurd (cc)
field_only (variant_owner (suc (suc zero)) (suc (suc v))) i x h = absurd (cc)
field_only (variant_owner (suc (suc (suc ty))) v) i x h = absurd (cc)
field_only (struct_owner zero) i x h = absurd (cc)
field_only (struct_owner (suc zero)) i x h = absurd (cc)
field_only (struct_owner (suc (suc zero))) i x h = absurd (cc)
field_only (struct_owner (suc (suc (suc ty)))) i x h = absurd (cc)

outside_only : (f : Callee) (m : ℕ) → outside_of (program_in setting) f ≡ Some m → m ≡ 5
outside_only (extractor_of zero) m h = absurd (cc)
outside_only (extractor_of (suc zero)) m h = absurd (cc)
outside_only (extractor_of (suc (suc t))) m h = absurd (cc)
outside_only (constructor_of zero) m h = let z : 5 ≡ m = cc in sym z
outside_only (constructor_of (suc zero)) m h = absurd (cc)
outside_only (constructor_of (suc (suc t))) m h = absurd (cc)

tell : NamesTell setting (4 ∷ []) (1 ∷ [])
tell = record {
  utf8 = utf8;
  constants_told = λ c d h k e. only c 4 h ∙ sym (only d 4 k);
  types_told = λ i j x h k. types_only i x h ∙ sym (types_only j x k);
  integers_told = λ i j place h k. integers_only i place h ∙ sym (integers_only j place k);
  variants_told = variants_told;
  fields_told = λ o i j x h k. field_only o i x h ∙ sym (field_only o j x k);
  outside_told = λ f g m n h k e. outside_only f m h ∙ sym (outside_only g n k);
  terms_told = λ t u a b h k f g e. only t 1 h ∙ sym (only u 1 k);
}

pub sample_is_read_once_lem : SampleIsReadOnce
unfolding chars digits
sample_is_read_once_lem = record {
  named = all_well (kinds program) sample_well;
  by = record { of = record { names = refl; types = refl; terms = refl }; tell = tell };
  can_be_written = refl;
  bare = refl;
  known = refl;
  no_constant = refl;
  no_struct = refl;
  no_extractor = refl;
}
