-- Where names are apart, so are all tokens that stand in order.
use Rattle.std.proofs.Common.{◌≡◌, ◌≢◌, ◌⊎◌, ◌<◌, ◌^◌, ◌++◌, ◌∷◌, [], ℕ, Bool, true, false, List, Option, Some, None, get_or, slice_get, refl, ap, sym, subst, ◌∙◌, inl, inr, ⊎_elim, codes, decimal, arith}
use Rattle.std.specs.Prelude.{find}
use Rattle.std.specs.Str.{bytes_eq}
use Rattle.std.specs.Str.Parse.{AllDigits}
use Rattle.std.proofs.lemmas.Bool.{and_parts, false≢true, not-true}
use Rattle.std.proofs.lemmas.Fmt.{decimal_injective, decimal_is_IsNumeral}
use Rattle.std.proofs.lemmas.List.{append_cancel_left, append-nil}
use Rattle.std.proofs.lemmas.Str.Parse.{digit_from_value}
use Rattle.std.proofs.lemmas.Grind.{common_steps}
use Rattle.model.specs.lists.Syntax.{Position}
use Rattle.model_code.specs.Tokens.{Word, let_word, mut_word, ref_word, if_word, else_word, match_word, while_word, return_word, break_word, some_word, none_word, true_word, false_word, ctx_word, returns_word, extend_word, len_word, most_word, clone_word, iter_word, next_word, unreachable_word, opening, closing, opening_brace, closing_brace, comma, colon, semicolon, dot, two_dots, underscore, arrow, equals, equal_to, unlike, at_least, ampersand, star, Owner, Token, word, variable_name, parameter_name, part_name, number, constant_name, owner_name, field_name, function_name, list_name, label_name, no_match}
use Rattle.model_code.specs.Notation.{Notation}
use Rattle.model_code.specs.Spelling.{Names, word_text, token_text}
use Rattle.model_code.specs.Lexing.{lexed}
use Rattle.model_code.specs.Reading.{order_of}
use Rattle.model_code.specs.OneReading.{Sign, a_token, a_log, told, sign_words, signs_words, Next, anything, is_free, a_method, a_brace, a_field, an_opening, a_closing, is_method, is_word, is_field_or_end, may_be, behind_told, is_known_sign, stands, follow}
use Rattle.model_code.specs.ApartNames.{OwnToken, an_own_word, a_variable, a_parameter, a_label, own_text, is_own_method, IsSmallToken, IsOfNames, is_named, AreNamesApart, NamesApartMakeTokensApart}
use Rattle.model_code.proofs.Lexing.{own_tokens_are_words_lem}

-- 1. words by their numbers and by their texts
abbrev pub all_words : List Word
all_words =
    let_word ∷ mut_word ∷ ref_word ∷ if_word ∷ else_word ∷ match_word ∷ while_word ∷ return_word ∷ break_word ∷ some_word ∷ none_word ∷ true_word ∷ false_word
    ∷ ctx_word ∷ returns_word ∷ extend_word ∷ len_word ∷ most_word ∷ clone_word ∷ iter_word ∷ next_word ∷ unreachable_word
    ∷ opening ∷ closing ∷ opening_brace ∷ closing_brace ∷ comma ∷ colon ∷ semicolon ∷ dot ∷ two_dots ∷ underscore ∷ arrow
    ∷ equals ∷ equal_to ∷ unlike ∷ at_least ∷ ampersand ∷ star ∷ []

abbrev pub word_of : List ℕ → Option Word
word_of text = find (λ w. bytes_eq (word_text w) text) all_words

-- a word is found by its text, and stands at its number
abbrev pub IsFound : Word → Type 0
IsFound w = (word_of (word_text w) ≡ Some w) × (slice_get all_words (order_of w) ≡ Some w)

pub found : (w : Word) → IsFound w
found w = grind (arith, common_steps)

only_word : (w : Word) (t : Token) → is_word w t ≡ true → t ≡ word w
only_word w t e = grind (arith, common_steps)

-- 2. the code's own tokens, told by their texts
abbrev first_letter : List ℕ → ℕ
first_letter xs = get_or xs 0 0

-- a text that is none of them
pub not_own : (t : OwnToken) (c : ℕ) (cs : List ℕ) → word_of (c ∷ cs) ≡ None → c ≢ 118 → c ≢ 97 → c ≢ 39 → own_text t ≢ c ∷ cs
not_own t c cs n v a l e = grind (arith, found)

abbrev own_token : OwnToken → Token
own_token (an_own_word w) = word w
own_token (a_variable n) = variable_name n
own_token (a_parameter n) = parameter_name n
own_token (a_label n) = label_name n

-- no digits are the name of a method
no_digits : (n : ℕ) → n < 2 ^ 64 → (c : ℕ) (cs : List ℕ) → 57 < c → decimal n ≢ c ∷ cs
no_digits n h c cs g e = omega (arith, g, digit_from_value c (subst (AllDigits 10) e (decimal_is_IsNumeral n h).0.1).0)

no_method : (n : ℕ) → n < 2 ^ 64 → (w : Word) → is_method w ≡ true → word_text w ≢ decimal n
no_method n h w m e = grind (arith, common_steps, no_digits)

-- 3. lists
pub first_words : {X : Type 0} (x y : X) (xs ys : List X) → x ∷ xs ≡ y ∷ ys → x ≡ y
first_words x y xs ys e = cc

pub more_words : {X : Type 0} (x y : X) (xs ys : List X) → x ∷ xs ≡ y ∷ ys → xs ≡ ys
more_words x y xs ys e = cc

pub nothing_more : {X : Type 0} (xs rest : List X) → xs ≡ xs ++ rest → rest ≡ []
nothing_more xs rest e = sym (append_cancel_left xs [] rest (append-nil xs ∙ e))

-- 4. the words of a sign where anything may stand
data Look (names : Names) (known : Token → Bool) (o : Option Token) (ws : List (List ℕ)) : Type 0 where
  an_own : (t : OwnToken) → IsSmallToken t → is_own_method t ≡ false → o ≡ Some (own_token t) → ws ≡ own_text t ∷ [] → Look names known o ws
  a_break : o ≡ Some (word unreachable_word) → ws ≡ codes "unreachable" ∷ (codes "!" ∷ []) → Look names known o ws
  a_part : (i : ℕ) → i < 2 ^ 64 → o ≡ Some (part_name i) → ws ≡ codes "." ∷ (decimal i ∷ []) → Look names known o ws
  a_panic : (w : List ℕ) (vs : List (List ℕ)) → o ≡ Some no_match → ws ≡ lexed names.panic → ws ≡ codes "unreachable" ∷ (codes "!" ∷ (codes "(" ∷ (w ∷ vs))) → w ≢ codes ")" → Look names known o ws
  a_name : (t : Token) (w : List ℕ) (vs : List (List ℕ)) → o ≡ Some t → is_named t ≡ true → known t ≡ true → ws ≡ lexed (token_text names t) → ws ≡ w ∷ vs → IsOfNames w vs → Look names known o ws
  a_told : (at : Position) (vs : List (List ℕ)) → o ≡ None → ws ≡ lexed (names.log at) → ws ≡ codes "log" ∷ vs → Look names known o ws

module _ (names : Names) (p : Notation) (known : Token → Bool) (a : AreNamesApart names known) where
  abbrev Seen : Token → Type 0
  Seen t = Look names known (Some t) (lexed (token_text names t))

  seen_name : (t : Token) → is_named t ≡ true → known t ≡ true → Seen t
  seen_name t n k = let f = a.first t n k in a_name t f.0 f.1 refl n k refl f.2 f.3

  seen_word : (w : Word) → is_method w ≡ false → Seen (word w)
  seen_word unreachable_word m = a_break refl (own_tokens_are_words_lem.words unreachable_word)
  seen_word w m = an_own (an_own_word w) tt m refl (own_tokens_are_words_lem.words w)

  seen : (t : Token) → known t ≡ true → is_free t ≡ true → Seen t
  seen (word w) k f = seen_word w (not-true (is_method w) f)
  seen (variable_name v) k f = an_own (a_variable v) (a.small.variable v k) refl refl (own_tokens_are_words_lem.variables names v)
  seen (parameter_name i) k f = an_own (a_parameter i) (a.small.parameter i k) refl refl (own_tokens_are_words_lem.parameters names i)
  seen (part_name i) k f = a_part i (a.small.part i k) refl (own_tokens_are_words_lem.parts names i)
  seen (number z ending) k f = seen_name (number z ending) refl k
  seen (constant_name c) k f = seen_name (constant_name c) refl k
  seen (owner_name o) k f = seen_name (owner_name o) refl k
  seen (field_name o i) k f = absurd (false≢true f)
  seen (function_name n) k f = seen_name (function_name n) refl k
  seen (list_name l) k f = seen_name (list_name l) refl k
  seen (label_name n) k f = an_own (a_label n) (a.small.label n k) refl refl (own_tokens_are_words_lem.labels names n)
  seen no_match k f = let w = a.panic in a_panic w.0 w.1 refl refl w.2 w.3

  -- each token has a first word, which isn't `::`
  abbrev Begins : List (List ℕ) → Type 0
  Begins ws = (w : List ℕ) × (vs : List (List ℕ)) × (ws ≡ w ∷ vs) × (w ≢ codes "::")

  begun_so : (o : Option Token) (ws : List (List ℕ)) → Look names known o ws → Begins ws
  begun_so o ws j = grind (arith, common_steps)

  word_begins : (w : Word) → Begins (lexed (word_text w))
  word_begins unreachable_word = (codes "unreachable", codes "!" ∷ [], own_tokens_are_words_lem.words unreachable_word, λ g. (let d : 117 ≡ 58 = ap first_letter g in omega (arith, d)))
  word_begins w = grind (arith, not_own)

  begun : (x : Sign) → is_known_sign known x ≡ true → Begins (sign_words names x)
  begun (a_log at) k = let w = a.log at in begun_so None (lexed (names.log at)) (a_told at w.0 refl refl w.1)
  begun (a_token (field_name o i)) k = let w = a.field o i k in (w.0, [], w.1, w.4)
  begun (a_token (word w)) k = word_begins w
  begun (a_token t) k = begun_so _ _ (seen t k refl)

  sign_seen : (inside : Option Owner) (x : Sign) → stands known (anything inside) x ≡ true → Look names known (told x) (sign_words names x)
  sign_seen inside (a_token t) h = let hs = and_parts (known t) (is_free t) h in seen t hs.0 hs.1
  sign_seen inside (a_log at) h = let w = a.log at in a_told at w.0 refl refl w.1

  -- 5. nothing that may stand behind the first goes on so
  no_path : (s : Next) (xs : List Sign) (more : List (List ℕ)) → follow p known s xs ≡ true → signs_words names xs ≡ codes "::" ∷ more → ⊥
  no_path s [] more f e = (cc)
  no_path s (x ∷ xs) more f e = grind (arith, common_steps, begun, and_parts, first_words)

  method_text : (w : Word) → is_method w ≡ true → lexed (word_text w) ≡ word_text w ∷ []
  method_text w h = grind (arith, common_steps)

  behind_dot : (inside : Option Owner) (i : ℕ) → i < 2 ^ 64 → (xs : List Sign) (more : List (List ℕ)) → follow p known (a_method inside) xs ≡ true → signs_words names xs ≡ decimal i ∷ more → ⊥
  behind_dot inside i h [] more f e = (cc)
  behind_dot inside i h (a_log at ∷ xs) more f e = false≢true f
  behind_dot inside i h (a_token t ∷ xs) more f e = grind (arith, common_steps, and_parts, method_text, no_method, first_words)

  behind_opening : (w : List ℕ) → w ≢ codes ")" → (xs : List Sign) (more : List (List ℕ)) → follow p known a_closing xs ≡ true → signs_words names xs ≡ w ∷ more → ⊥
  behind_opening w n [] more f e = (cc)
  behind_opening w n (a_log at ∷ xs) more f e = false≢true f
  behind_opening w n (a_token t ∷ xs) more f e = grind (arith, common_steps, only_word, and_parts, first_words)

  behind_unreachable : (w : List ℕ) → w ≢ codes ")" → (xs : List Sign) (vs more : List (List ℕ)) → follow p known an_opening xs ≡ true → signs_words names xs ≡ codes "(" ∷ (w ∷ (vs ++ more)) → ⊥
  behind_unreachable w n [] vs more f e = (cc)
  behind_unreachable w n (a_log at ∷ xs) vs more f e = false≢true f
  behind_unreachable w n (a_token t ∷ xs) vs more f e = grind (arith, common_steps, and_parts, only_word, behind_opening, more_words)

  -- 6. two signs that may stand at one place
  abbrev IsTold : Next → Option Token → Option Token → List (List ℕ) → Type 0
  IsTold s o q rest = ((rest ≡ []) × (o ≡ q)) ⊎ ((xs : List Sign) (more : List (List ℕ)) → follow p known (behind_told p s o) xs ≡ true → signs_words names xs ≡ rest ++ more → ⊥)

  other_letters : (c d : ℕ) (cs ds : List ℕ) → (c ≡ d → ⊥) → c ∷ cs ≡ d ∷ ds → ⊥
  other_letters c d cs ds n e = n (first_words c d cs ds e)

  module _ (inside : Option Owner) (o q : Option Token) (ws vs rest : List (List ℕ)) (e : vs ≡ ws ++ rest) where
    same : {c d : List ℕ} {cs ds : List (List ℕ)} → ws ≡ c ∷ cs → vs ≡ d ∷ ds → c ≡ d
    same h k = grind (arith, first_words)

    on : {c d : List ℕ} {cs ds : List (List ℕ)} → ws ≡ c ∷ cs → vs ≡ d ∷ ds → ds ≡ cs ++ rest
    on h k = grind (arith, more_words)

    pair : Look names known o ws → Look names known q vs → IsTold (anything inside) o q rest
    pair (an_own t h m x f) (an_own u k r y g) = grind (arith, common_steps, on f g, same f g, found, decimal_injective)
    pair (an_own t h m x f) (a_break y g) = grind (arith, same, not_own)
    pair (an_own t h m x f) (a_part i k y g) =
        inr (λ xs more w s. grind (arith, common_steps, behind_dot, same, on))
    pair (an_own t h m x f) (a_panic w us y k g n) = grind (arith, same, not_own)
    pair (an_own t h m x f) (a_name u w us y n k l g i) =
        let r = i.own t h m (same f g) in inr (λ xs more c s. no_path (behind_told p (anything inside) o) xs (r.0 ++ more) c (s ∙ ap (λ b. b ++ more) (sym (on f g) ∙ r.1)))
    pair (an_own t h m x f) (a_told at us y l g) = grind (arith, same, not_own)
    pair (a_break x f) (an_own u k m y g) = grind (arith, same, not_own)
    pair (a_break x f) (a_break y g) = inl (nothing_more ws rest (f ∙ sym g ∙ e), x ∙ sym y)
    pair (a_break x f) (a_part i k y g) = absurd (other_letters 117 46 _ _ (λ z. omega (arith, z)) (same f g))
    pair (a_break x f) (a_panic w us y k g n) = grind (arith, common_steps, behind_unreachable w n, more_words, on f g)
    pair (a_break x f) (a_name u w us y n k l g i) = absurd (i.unreachable (sym (same f g)))
    pair (a_break x f) (a_told at us y l g) = absurd (other_letters 117 108 _ _ (λ z. omega (arith, z)) (same f g))
    pair (a_part i h x f) (an_own u k m y g) = absurd (let z : [] ≡ decimal i ∷ rest = on f g in cc)
    pair (a_part i h x f) (a_break y g) = absurd (other_letters 46 117 _ _ (λ z. omega (arith, z)) (same f g))
    pair (a_part i h x f) (a_part j k y g) = grind (arith, common_steps, on, more_words, decimal_injective, first_words)
    pair (a_part i h x f) (a_panic w us y k g n) = absurd (other_letters 46 117 _ _ (λ z. omega (arith, z)) (same f g))
    pair (a_part i h x f) (a_name u w us y n k l g m) = grind (arith, common_steps, same f g, no_digits i h 58, first_words, on f g, m.own (an_own_word dot))
    pair (a_part i h x f) (a_told at us y l g) = absurd (other_letters 46 108 _ _ (λ z. omega (arith, z)) (same f g))
    pair (a_panic w us x h f n) (an_own u k m y g) = grind (arith, same, not_own)
    pair (a_panic w us x h f n) (a_break y g) = absurd (let z : codes "!" ∷ [] ≡ codes "!" ∷ (codes "(" ∷ (w ∷ us ++ rest)) = on f g in cc)
    pair (a_panic w us x h f n) (a_part i k y g) = absurd (other_letters 117 46 _ _ (λ z. omega (arith, z)) (same f g))
    pair (a_panic w us x h f n) (a_panic v ys y k g m) = inl (nothing_more ws rest (h ∙ sym k ∙ e), x ∙ sym y)
    pair (a_panic w us x h f n) (a_name u v ys y m k l g i) = absurd (i.unreachable (sym (same f g)))
    pair (a_panic w us x h f n) (a_told at ys y l g) = absurd (other_letters 117 108 _ _ (λ z. omega (arith, z)) (same f g))
    pair (a_name t w us x n h l f i) (an_own u k m y g) = grind (arith, common_steps, same, on)
    pair (a_name t w us x n h l f i) (a_break y g) = absurd (i.unreachable (same f g))
    pair (a_name t w us x n h l f i) (a_part j k y g) =
        let r = i.own (an_own_word dot) tt refl (sym (same f g)) in
        absurd (no_digits j k 58 (codes ":") (omega arith) (first_words (decimal j) (codes "::") [] (r.0 ++ rest) (on f g ∙ ap (λ b. b ++ rest) r.1)))
    pair (a_name t w us x n h l f i) (a_panic v ys y k g m) = absurd (i.unreachable (same f g))
    pair (a_name t w us x n h l f i) (a_name u v ys y m k r g j) =
        ⊎_elim (λ z. inl (z.0, x ∙ ap Some z.1 ∙ sym y)) (λ z. inr (λ xs more c s. no_path (behind_told p (anything inside) o) xs (z.0 ++ more) c (s ∙ ap (λ b. b ++ more) z.1)))
        (a.apart t u rest n h m k (sym r ∙ e ∙ ap (λ z. z ++ rest) l))
    pair (a_name t w us x n h l f i) (a_told at ys y r g) = absurd (i.log (same f g))
    pair (a_told at us x l f) (an_own u k m y g) = grind (arith, same, not_own)
    pair (a_told at us x l f) (a_break y g) = absurd (other_letters 108 117 _ _ (λ z. omega (arith, z)) (same f g))
    pair (a_told at us x l f) (a_part i k y g) = absurd (other_letters 108 46 _ _ (λ z. omega (arith, z)) (same f g))
    pair (a_told at us x l f) (a_panic w ys y k g n) = absurd (other_letters 108 117 _ _ (λ z. omega (arith, z)) (same f g))
    pair (a_told at us x l f) (a_name u w ys y n k r g i) = absurd (i.log (sym (same f g)))
    pair (a_told at us x l f) (a_told bt ys y r g) = inl (a.logs at bt rest (sym r ∙ e ∙ ap (λ z. z ++ rest) l), x ∙ sym y)

  -- where a token is told by its place
  one_token : (s : Next) (t u v : Token) (rest : List (List ℕ)) → t ≡ v → u ≡ v → lexed (token_text names u) ≡ lexed (token_text names t) ++ rest → IsTold s (Some t) (Some u) rest
  one_token s t u v rest h k e = grind (arith, common_steps, same, nothing_more)

  -- a field, or the end of fields
  module _ (o : Owner) (t u : Token) (rest : List (List ℕ)) (e : lexed (token_text names u) ≡ lexed (token_text names t) ++ rest) where
    first_same : {c d : List ℕ} (v w : Token) → t ≡ v → u ≡ w → lexed (token_text names v) ≡ c ∷ [] → lexed (token_text names w) ≡ d ∷ [] → c ≡ d
    first_same v w h k f g = grind (arith, first_words)

  -- 7. at whatever place
  by_place : (s : Next) (x y : Sign) (rest : List (List ℕ)) → stands known s x ≡ true → stands known s y ≡ true → sign_words names y ≡ sign_words names x ++ rest → IsTold s (told x) (told y) rest
  by_place (anything inside) x y rest h k e = pair inside (told x) (told y) (sign_words names x) (sign_words names y) rest e (sign_seen inside x h) (sign_seen inside y k)
  by_place (a_method inside) (a_token t) (a_token u) rest h k e =
      grind (arith, common_steps, method_text, one_token)
  by_place (a_brace o) (a_token t) (a_token u) rest h k e =
      one_token (a_brace o) t u (word opening_brace) rest (only_word opening_brace t (and_parts (known t) (is_word opening_brace t) h).1) (only_word opening_brace u (and_parts (known u) (is_word opening_brace u) k).1) e
  by_place (a_field o) (a_token t) (a_token u) rest h k e =
      let hs = and_parts (known t) (is_field_or_end o t) h in
      let ks = and_parts (known u) (is_field_or_end o u) k in
      grind (arith, common_steps, one_token, other_letters, first_same)
  by_place an_opening (a_token t) (a_token u) rest h k e =
      one_token an_opening t u (word opening) rest (only_word opening t (and_parts (known t) (is_word opening t) h).1) (only_word opening u (and_parts (known u) (is_word opening u) k).1) e
  by_place a_closing (a_token t) (a_token u) rest h k e =
      one_token a_closing t u (word closing) rest (only_word closing t (and_parts (known t) (is_word closing t) h).1) (only_word closing u (and_parts (known u) (is_word closing u) k).1) e
  by_place (a_method inside) (a_log at) y rest h k e = absurd (false≢true h)
  by_place (a_brace o) (a_log at) y rest h k e = absurd (false≢true h)
  by_place (a_field o) (a_log at) y rest h k e = absurd (false≢true h)
  by_place an_opening (a_log at) y rest h k e = absurd (false≢true h)
  by_place a_closing (a_log at) y rest h k e = absurd (false≢true h)
  by_place _ _ _ rest h k e = absurd (false≢true k)

  has_words : (s : Next) (x : Sign) → stands known s x ≡ true → (w : List ℕ) × (ws : List (List ℕ)) × (sign_words names x ≡ w ∷ ws)
  has_words s x h = let b = begun x (and_parts (is_known_sign known x) (may_be s x) h).0 in (b.0, b.1, b.2)

pub names_apart_make_tokens_apart_lem : NamesApartMakeTokensApart
names_apart_make_tokens_apart_lem names p known a = record { some = has_words names p known a; apart = by_place names p known a }
