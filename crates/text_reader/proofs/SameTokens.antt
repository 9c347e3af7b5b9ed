-- Texts that differ in white space alone have the same tokens, but for their places.
use Rattle.std.proofs.Common.{◌≡◌, ℕ, ℤ, ◌+◌, ◌==◌, List, [], ◌∷◌, ◌++◌, refl, sym, ap, ◌∙◌, inl, inr, map, encode_utf8_all, arith}
use Rattle.std.specs.Prelude.{Option, option_map, Result, Ok, slice_index}
use Rattle.std.proofs.lemmas.Bool.{cases_Bool}
use Rattle.std.proofs.lemmas.List.{map-append}
use Rattle.std.proofs.lemmas.Grind.{common_steps}
use Rattle.model.specs.lists.Syntax.{Position}
use Rattle.text_reader.specs.declared.errors.Mistake.{Mistake}
use Rattle.text_reader.specs.Numbers.{number_of}
use Rattle.text_reader.specs.Lexemes.{Lexeme, begin_list, end_list, word, dash, number, constant, Wrong, ◌>>=◌, at_place, begins_number, word_token, binder_of, last_bound, or_mistake}
use Rattle.text_reader.specs.Pieces.{Piece, space, line, block, left, right, bind, name, sign, endless, alone}
use Rattle.text_reader.specs.Lexing.{Tokens, added, tokens_after}
use Rattle.text_reader.specs.Solid.{solid, placeless, stripped}

abbrev Same : Tokens → Tokens → Type 0
Same a b = map placeless a ≡ map placeless b

pushed : (a b : Tokens) (t u : Lexeme) → Same a b → placeless t ≡ placeless u → Same (a ++ t ∷ []) (b ++ u ∷ [])
pushed a b t u h e = map-append placeless a (t ∷ []) ∙ ap (λ x. x ++ placeless t ∷ []) h ∙ ap (λ x. map placeless b ++ x ∷ []) e ∙ sym (map-append placeless b (u ∷ []))

-- the last token, bound
one_bound : (t : Lexeme) → option_map (map placeless) (binder_of t) ≡ binder_of (placeless t)
one_bound t = grind (arith, common_steps)

fronted : (t : Lexeme) (r : Option Tokens) → option_map (map placeless) (option_map (λ ts. t ∷ ts) r) ≡ option_map (λ ts. placeless t ∷ ts) (option_map (map placeless) r)
fronted t r = grind (arith, common_steps)

bound_placeless : (ts : Tokens) → option_map (map placeless) (last_bound ts) ≡ last_bound (map placeless ts)
bound_placeless [] = refl
bound_placeless (t ∷ []) = one_bound t
bound_placeless (t ∷ u ∷ us) = fronted t (last_bound (u ∷ us)) ∙ ap (option_map (λ ts. placeless t ∷ ts)) (bound_placeless (u ∷ us))

bound_or_not : (x y : Position) (o p : Option Tokens) → option_map (map placeless) o ≡ option_map (map placeless) p → stripped (or_mistake x o) ≡ stripped (or_mistake y p)
bound_or_not x y o p e = grind (arith, common_steps)

-- a word
by_number : (x y : Position) (a b : Tokens) (r : Result ℤ Mistake) → Same a b
    → stripped ((at_place x r >>= (λ z. Ok (number z x))) >>= (λ t. Ok (a ++ t ∷ []))) ≡ stripped ((at_place y r >>= (λ z. Ok (number z y))) >>= (λ t. Ok (b ++ t ∷ [])))
by_number x y a b r h = grind (arith, common_steps, pushed)

worded : (text : List ℕ) (x y : Position) (a b : Tokens) → Same a b
    → stripped (word_token (record { text = text; at = x }) >>= (λ t. Ok (a ++ t ∷ []))) ≡ stripped (word_token (record { text = text; at = y }) >>= (λ t. Ok (b ++ t ∷ [])))
unfolding word_token
worded text x y a b h = elim (cases_Bool (begins_number text)) [
  | inl n ↦ rw n (by_number x y a b (number_of text) h)
  | inr n ↦ elim (cases_Bool (slice_index text 0 == 45)) [
    | inl d ↦ rw (n, d) (ap Ok (pushed a b (dash (record { text = text; at = x })) (dash (record { text = text; at = y })) h refl))
    | inr d ↦ rw (n, d) (ap Ok (pushed a b (word (record { text = text; at = x })) (word (record { text = text; at = y })) h refl))
  ]
]

-- what a piece adds
adds : (p : Piece) (x y : Position) (a b : Tokens) → Same a b → stripped (added p x a) ≡ stripped (added p y b)
adds (space c) x y a b h = ap Ok h
adds (line cs) x y a b h = ap Ok h
adds (block cs) x y a b h = ap Ok h
adds left x y a b h = ap Ok (pushed a b (begin_list x) (begin_list y) h refl)
adds right x y a b h = ap Ok (pushed a b (end_list x) (end_list y) h refl)
adds bind x y a b h = bound_or_not x y (last_bound a) (last_bound b) (bound_placeless a ∙ ap last_bound h ∙ sym (bound_placeless b))
adds (name cs) x y a b h = worded (encode_utf8_all cs) x y a b h
adds (sign cs) x y a b h = ap Ok (pushed a b (constant (record { text = encode_utf8_all cs; at = record x { offset = x.offset + 1 } }) x) (constant (record { text = encode_utf8_all cs; at = record y { offset = y.offset + 1 } }) y) h refl)
adds (endless cs) x y a b h = refl
adds alone x y a b h = refl

both : (r s : Result Tokens Wrong) (f g : Tokens → Result Tokens Wrong) → stripped r ≡ stripped s → ((a b : Tokens) → Same a b → stripped (f a) ≡ stripped (g b)) → stripped (r >>= f) ≡ stripped (s >>= g)
both r s f g e h = grind (arith, common_steps)

at : ℕ → ℕ → Position
at file offset = record { file = file; offset = offset }

pub solid_tokens : (file : ℕ) (ps : List Piece) (o there : ℕ) (a b : Tokens) → Same a b → stripped (tokens_after file o ps a) ≡ stripped (tokens_after file there (solid ps) b)
unfolding at
solid_tokens file [] o there a b h = ap Ok h
solid_tokens file (space c ∷ ps) o there a b h = solid_tokens file ps _ there a b h
solid_tokens file (line cs ∷ ps) o there a b h = solid_tokens file ps _ _ a b h
solid_tokens file (block cs ∷ ps) o there a b h = solid_tokens file ps _ _ a b h
solid_tokens file (left ∷ ps) o there a b h = solid_tokens file ps _ _ _ _ (pushed a b _ _ h refl)
solid_tokens file (right ∷ ps) o there a b h = solid_tokens file ps _ _ _ _ (pushed a b _ _ h refl)
solid_tokens file (bind ∷ ps) o there a b h = both (added bind (at file o) a) (added bind (at file there) b) _ _ (adds bind _ _ a b h) (λ c d k. solid_tokens file ps _ _ c d k)
solid_tokens file (name cs ∷ ps) o there a b h = both (added (name cs) (at file o) a) (added (name cs) (at file there) b) _ _ (adds (name cs) _ _ a b h) (λ c d k. solid_tokens file ps _ _ c d k)
solid_tokens file (sign cs ∷ ps) o there a b h = solid_tokens file ps _ _ _ _ (pushed a b _ _ h refl)
solid_tokens file (endless cs ∷ ps) o there a b h = refl
solid_tokens file (alone ∷ ps) o there a b h = refl

-- pieces that differ in white space alone
pub same_tokens : (file : ℕ) (ps qs : List Piece) → solid ps ≡ solid qs → stripped (tokens_after file 0 ps []) ≡ stripped (tokens_after file 0 qs [])
same_tokens file ps qs e = solid_tokens file ps 0 0 [] [] refl ∙ ap (λ rs. stripped (tokens_after file 0 rs [])) e ∙ sym (solid_tokens file qs 0 0 [] [] refl)
