-- Texts that grow while another one is gone through.
use Rattle.std.proofs.Common.{◌≡◌, ℕ, suc, ◌+◌, ◌<◌, ◌≤◌, Bool, true, false, cond, List, [], ◌∷◌, ◌++◌, length, get_or, drop, map, slice_get, refl, sym, ap, ◌∙◌, arith, chars, encode_utf8, IsUtf8}
use Rattle.std.specs.Char.{is_ascii_alphanumeric}
use Rattle.std.proofs.lemmas.List.{append_assoc, append-nil, at_drop_all, at_drop_more, nil_from_length}
use Rattle.std.proofs.lemmas.Bool.Decides.{nat_tests}
use Rattle.std.proofs.lemmas.Str.{encode_ascii, chars-nil, chars_past_char}
use Rattle.std.specs.Prelude.{Result, Ok, Err, OnOk, is_ok, is_some, not}
use Rattle.model.specs.lists.Tables.{TypeEntry}
use Rattle.core_types.specs.declared.ids.TypeId.{TypeId}
use Rattle.rust_items.specs.RustNames.{is_blank, word_for}
use Rattle.rust_items.specs.WrittenTypes.{listed_type, listed_types, parameter_written, parameters_written}

-- what is left of a text, by its next character
pub next_char : {A : Type 0} (f : List ℕ → A) (whole : A) (c : ℕ) (bytes rest : List ℕ) → IsUtf8 bytes → bytes ≡ encode_utf8 c ++ rest → f (chars bytes) ≡ whole → f (c ∷ chars rest) ≡ whole
next_char f whole c bytes rest u e w = ap f (sym (chars_past_char bytes rest c u e)) ∙ w

pub no_char : {A : Type 0} (f : List ℕ → A) (whole : A) (bytes : List ℕ) → length bytes ≡ 0 → f (chars bytes) ≡ whole → f [] ≡ whole
no_char f whole bytes e w = ap f (sym (ap chars (nil_from_length bytes e) ∙ chars-nil)) ∙ w

-- a text with one more piece that is written already
pub moved_over : (old new piece rest whole : List ℕ) → new ≡ old ++ piece → old ++ (piece ++ rest) ≡ whole → new ++ rest ≡ whole
moved_over old new piece rest whole e w = ap (λ x. x ++ rest) e ∙ append_assoc old piece rest ∙ w

-- a text that a call that succeeds adds to
pub on_ok_text : {T E : Type 0} (r : Result T E) (new longer old : List ℕ) → new ≡ cond (is_ok r) longer old → OnOk r (new ≡ longer)
on_ok_text (Ok x) new longer old e = e
on_ok_text (Err x) new longer old e = tt

-- one text behind another
pub then_more : (old mid new a b : List ℕ) → mid ≡ old ++ a → new ≡ mid ++ b → new ≡ old ++ (a ++ b)
then_more old mid new a b e h = h ∙ ap (λ x. x ++ b) e ∙ append_assoc old a b

pub word_small : (c : ℕ) → word_for c < 128
word_small c = grind (arith, nat_tests)

-- what stands for a character is a byte
pub pushed_word : (old new : List ℕ) (w c : ℕ) → w ≡ word_for c → new ≡ old ++ encode_utf8 w → new ≡ old ++ word_for c ∷ []
pushed_word old new w c e h = h ∙ ap (λ x. old ++ encode_utf8 x) e ∙ ap (λ x. old ++ x) (encode_ascii (word_for c) (word_small c))

-- a name of one character
pub blank_one : (c : ℕ) (ds : List ℕ) (r : Bool) → is_ascii_alphanumeric c ≡ false → is_some (slice_get ds 0) ≡ not r → r ≡ is_blank (c ∷ ds)
blank_one c [] true h e = rw h refl
blank_one c [] false h e = absurd (cc)
blank_one c (d ∷ ds) true h e = absurd (cc)
blank_one c (d ∷ ds) false h e = refl

-- things that are written one after another, each by its place: what is written so far, and the rest of them
module _ {X : Type 0} (w : ℕ → List X → List ℕ) (piece : ℕ → X → List ℕ) (none : (i : ℕ) → w i [] ≡ []) (one : (i : ℕ) (x : X) (xs : List X) → w i (x ∷ xs) ≡ piece i x ++ w (i + 1) xs) where
  pub place_written_more : (xs : List X) (i : ℕ) (d : X) (old new whole : List ℕ) → i < length xs → old ++ w i (drop i xs) ≡ whole → new ≡ old ++ piece i (get_or xs i d) → new ++ w (i + 1) (drop (i + 1) xs) ≡ whole
  place_written_more xs i d old new whole h is more =
      moved_over old new (piece i (get_or xs i d)) (w (i + 1) (drop (i + 1) xs)) whole more
      (ap (λ r. old ++ r) (sym (at_drop_more (w i) xs i d h ∙ one i (get_or xs i d) (drop (i + 1) xs))) ∙ is)

  pub places_written : (xs : List X) (i : ℕ) (old whole : List ℕ) → length xs ≤ i → old ++ w i (drop i xs) ≡ whole → old ≡ whole
  places_written xs i old whole h is = sym (append-nil old) ∙ ap (λ r. old ++ r) (sym (at_drop_all (w i) xs i h ∙ none i)) ∙ is

pub next_place : {X : Type 0} (f : ℕ → X) (i : ℕ) → f (suc i) ≡ f (i + 1)
next_place f i = let e : suc i ≡ i + 1 = omega arith in ap f e

module _ (names : List (List ℕ)) (types : List TypeEntry) where
  abbrev pub listed_ids : ℕ → List TypeId → List ℕ
  listed_ids i tys = listed_types names types i (map (λ (t : TypeId). t.0) tys)

  abbrev pub listed_id : ℕ → TypeId → List ℕ
  listed_id i ty = listed_type names types i ty.0

  pub one_listed : (i : ℕ) (ty : TypeId) (tys : List TypeId) → listed_ids i (ty ∷ tys) ≡ listed_id i ty ++ listed_ids (i + 1) tys
  one_listed i ty tys = next_place (λ k. listed_id i ty ++ listed_ids k tys) i

  abbrev pub parameters_of : ℕ → List TypeId → List ℕ
  parameters_of i tys = parameters_written names types i (map (λ (t : TypeId). t.0) tys)

  abbrev pub parameter_of : ℕ → TypeId → List ℕ
  parameter_of i ty = parameter_written names types i ty.0

  pub one_parameter : (i : ℕ) (ty : TypeId) (tys : List TypeId) → parameters_of i (ty ∷ tys) ≡ parameter_of i ty ++ parameters_of (i + 1) tys
  one_parameter i ty tys = next_place (λ k. parameter_of i ty ++ parameters_of k tys) i
