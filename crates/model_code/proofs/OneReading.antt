-- Words tell the tokens that stand in order, so a text has one reading.
use Rattle.std.proofs.Common.{◌≡◌, ◌⊎◌, ◌++◌, ◌∷◌, [], Bool, true, List, Option, Some, None, map, refl, ap, sym, subst, ◌∙◌, inl, inr, ⊎_elim, arith}
use Rattle.std.specs.List.{list_all}
use Rattle.std.proofs.lemmas.Bool.{and_parts, and_from}
use Rattle.std.proofs.lemmas.Grind.{common_steps}
use Rattle.model_code.specs.Tokens.{Token}
use Rattle.model_code.specs.Notation.{Notation}
use Rattle.model_code.specs.Pieces.{CodePiece, token, space, set_in, line_end, rule_comment, log_line, tokens_of}
use Rattle.model_code.specs.Written.{shown_code, function_body}
use Rattle.model_code.specs.Spelling.{Names, token_text, spelled}
use Rattle.model_code.specs.Lexing.{lexed, pieces_lexed}
use Rattle.model_code.specs.ReadsBack.{read_function}
use Rattle.model_code.specs.ReadTexts.{IsReadAsCode}
use Rattle.model_code.specs.OneReading.{Sign, signs_of, told, sign_words, signs_words, Next, anything, behind, behind_told, in_order, stands, follow, AreApart, WordsTellTokens, IsReadInOrder, OneReading, PrintedTextHasOneReading}
use Rattle.model_code.proofs.InOrder.{printed_tokens_are_in_order_lem}
use Rattle.model_code.proofs.Lexing.{text_has_tokens_lem}
use Rattle.model_code.proofs.ReadTexts.{function_is_read_lem}

-- of two beginnings of a list one begins the other
cut : {X : Type 0} (xs ys us vs : List X) → xs ++ us ≡ ys ++ vs
    → ((rest : List X) × (ys ≡ xs ++ rest) × (us ≡ rest ++ vs)) ⊎ ((rest : List X) × (xs ≡ ys ++ rest) × (vs ≡ rest ++ us))
cut [] ys us vs e = inl (ys, refl, e)
cut (x ∷ xs) [] us vs e = inr (x ∷ xs, refl, sym e)
cut (x ∷ xs) (y ∷ ys) us vs e = grind (arith, common_steps, cut xs ys us vs)

module _ (names : Names) (p : Notation) (known : Token → Bool) (a : AreApart names p known) where
  first : (s : Next) (x : Sign) (xs : List Sign) → follow p known s (x ∷ xs) ≡ true → stands known s x ≡ true
  first s x xs f = (and_parts (stands known s x) (follow p known (behind_told p s (told x)) xs) f).0

  later : (s : Next) (x : Sign) (xs : List Sign) → follow p known s (x ∷ xs) ≡ true → follow p known (behind_told p s (told x)) xs ≡ true
  later s x xs f = (and_parts (stands known s x) (follow p known (behind_told p s (told x)) xs) f).1

  told_alike : (xs ys : List Sign) (s : Next) → follow p known s xs ≡ true → follow p known s ys ≡ true → signs_words names xs ≡ signs_words names ys → map told xs ≡ map told ys
  told_alike [] [] s f g e = refl
  told_alike [] (y ∷ ys) s f g e = grind (arith, first)
  told_alike (x ∷ xs) [] s f g e = grind (arith, first)
  told_alike (x ∷ xs) (y ∷ ys) s f g e =
      let go : told x ≡ told y → signs_words names xs ≡ signs_words names ys → told x ∷ map told xs ≡ told y ∷ map told ys
      = λ q t. ap (λ o. o ∷ map told xs) q
      ∙ ap (λ os. told y ∷ os) (told_alike xs ys (behind_told p s (told x)) (later s x xs f) (subst (λ o. follow p known (behind_told p s o) ys ≡ true) (sym q) (later s y ys g)) t) in
      ⊎_elim
      (λ r. ⊎_elim (λ q. go q.1 (r.2 ∙ ap (λ z. z ++ signs_words names ys) q.0)) (λ no. absurd (no xs (signs_words names ys) (later s x xs f) r.2)) (a.apart s x y r.0 (first s x xs f) (first s y ys g) r.1))
      (λ r. ⊎_elim (λ q. go (sym q.1) (sym (r.2 ∙ ap (λ z. z ++ signs_words names xs) q.0))) (λ no. absurd (no ys (signs_words names xs) (later s y ys g) r.2)) (a.apart s y x r.0 (first s y ys g) (first s x xs f) r.1))
      (cut (sign_words names x) (sign_words names y) (signs_words names xs) (signs_words names ys) e)

-- tokens are what is told of signs
abbrev tokens_told : List (Option Token) → List Token
tokens_told [] = []
tokens_told (Some t ∷ rest) = t ∷ tokens_told rest
tokens_told (None ∷ rest) = tokens_told rest

tokens_by : (xs : List CodePiece) → tokens_of xs ≡ tokens_told (map told (signs_of xs))
tokens_by [] = refl
tokens_by (token t ∷ rest) = ap (λ ts. t ∷ ts) (tokens_by rest)
tokens_by (space ∷ rest) = tokens_by rest
tokens_by (set_in depth ∷ rest) = tokens_by rest
tokens_by (line_end ∷ rest) = tokens_by rest
tokens_by (rule_comment at ∷ rest) = tokens_by rest
tokens_by (log_line at ∷ rest) = tokens_by rest

words_by : (names : Names) (xs : List CodePiece) → pieces_lexed names xs ≡ signs_words names (signs_of xs)
words_by names [] = refl
words_by names (token t ∷ rest) = ap (λ ws. lexed (token_text names t) ++ ws) (words_by names rest)
words_by names (space ∷ rest) = words_by names rest
words_by names (set_in depth ∷ rest) = words_by names rest
words_by names (line_end ∷ rest) = words_by names rest
words_by names (rule_comment at ∷ rest) = words_by names rest
words_by names (log_line at ∷ rest) = ap (λ ws. lexed (names.log at) ++ ws) (words_by names rest)

followed : (p : Notation) (known : Token → Bool) (xs : List CodePiece) (s : Next) → list_all known (tokens_of xs) ≡ true → in_order p s (signs_of xs) ≡ true → follow p known s (signs_of xs) ≡ true
followed p known [] s k h = refl
followed p known (token t ∷ rest) s k h = grind (arith, common_steps, followed p known rest (behind p s t), and_parts, and_from)
followed p known (space ∷ rest) s k h = followed p known rest s k h
followed p known (set_in depth ∷ rest) s k h = followed p known rest s k h
followed p known (line_end ∷ rest) s k h = followed p known rest s k h
followed p known (rule_comment at ∷ rest) s k h = followed p known rest s k h
followed p known (log_line at ∷ rest) s k h = grind (arith, common_steps, followed p known rest s k, and_parts, and_from)

pub words_tell_tokens_lem : WordsTellTokens
words_tell_tokens_lem names p known a s xs ys f g e = grind (arith, common_steps, tokens_by, told_alike)

pub one_reading_lem : OneReading
one_reading_lem names p known apart text a b r q =
    let xs : List CodePiece = r.read.pieces in
    let ys : List CodePiece = q.read.pieces in
    let words : signs_words names (signs_of xs) ≡ signs_words names (signs_of ys) = sym (words_by names xs) ∙ sym r.read.words ∙ q.read.words ∙ words_by names ys in
    let tokens : tokens_of xs ≡ tokens_of ys =
    words_tell_tokens_lem names p known apart (anything None) xs ys (followed p known xs (anything None) r.all_known r.ordered) (followed p known ys (anything None) q.all_known q.ordered) words in
    let same : Some a ≡ Some b = sym r.read.read ∙ ap (read_function p) tokens ∙ q.read.read in
    cc

pub printed_text_has_one_reading_lem : PrintedTextHasOneReading
printed_text_has_one_reading_lem names p known whole apart code w u k =
    let read : IsReadAsCode names p (spelled names (function_body p code)) (shown_code p code)
    = record { pieces = function_body p code; of_pieces = refl; words = text_has_tokens_lem names p code whole; read = function_is_read_lem p code w } in
    let own : IsReadInOrder names p known (spelled names (function_body p code)) (shown_code p code) = record { read = read; all_known = k; ordered = printed_tokens_are_in_order_lem p code u } in
    (own, λ other r. one_reading_lem names p known apart _ other _ r own)
