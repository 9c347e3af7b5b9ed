-- Of a text's tokens the words that begin with `-` are told apart by their characters.
use Rattle.std.proofs.Common.{◌≡◌, ℕ, ℤ, ◌+◌, List, [], ◌∷◌, ◌++◌, map, refl, ap, ◌∙◌, inl, inr, arith}
use Rattle.std.specs.Prelude.{Option, option_map, Result, Ok, IfOk, IfSome}
use Rattle.std.proofs.lemmas.Bool.{cases_Bool}
use Rattle.std.proofs.lemmas.Grind.{common_steps}
use Rattle.model.specs.lists.Syntax.{Position, Name}
use Rattle.text_reader.specs.Lexemes.{Lexeme, begin_list, end_list, word, dash, number, Wrong, ◌>>=◌, at_place, begins_number, word_token, binder_of, last_bound, or_mistake, erased}
use Rattle.text_reader.specs.Numbers.{number_of}
use Rattle.text_reader.specs.PassedOver.{is_dashed}
use Rattle.text_reader.specs.PassedOver.{mark, AreMarked}
use Rattle.text_reader.specs.Pieces.{Piece, left, right, bind, name, sign, endless, alone, spelling, size}
use Rattle.text_reader.specs.Lexing.{Tokens, tokens_after, added}

pub marked : (ts : List Lexeme) → AreMarked ts → map mark (map erased ts) ≡ ts
marked [] h = refl
marked (t ∷ ts) h = ap (λ x. x ∷ map mark (map erased ts)) h.0 ∙ ap (λ xs. t ∷ xs) (marked ts h.1)

one_more : (ts : List Lexeme) (t : Lexeme) → AreMarked ts → mark (erased t) ≡ t → AreMarked (ts ++ t ∷ [])
one_more [] t h k = (k, tt)
one_more (x ∷ ts) t h k = (h.0, one_more ts t h.1 k)

binder_marked : (t : Lexeme) → IfSome (binder_of t) AreMarked
binder_marked t = grind (arith, common_steps)

with_first : (t : Lexeme) (r : Option (List Lexeme)) → mark (erased t) ≡ t → IfSome r AreMarked → IfSome (option_map (λ ts. t ∷ ts) r) AreMarked
with_first t r h k = grind (arith, common_steps)

bound_marked : (ts : List Lexeme) → AreMarked ts → IfSome (last_bound ts) AreMarked
bound_marked [] h = tt
bound_marked (t ∷ []) h = binder_marked t
bound_marked (t ∷ u ∷ us) h = with_first t (last_bound (u ∷ us)) h.0 (bound_marked (u ∷ us) h.1)

or_marked : (p : Position) (r : Option (List Lexeme)) → IfSome r AreMarked → IfOk (or_mistake p r) AreMarked
or_marked p r h = grind (arith, common_steps)

number_marked : (n : Name) (done : Tokens) (r : Result ℤ Wrong) → AreMarked done → IfOk ((r >>= (λ z. Ok (number z n.at))) >>= (λ t. Ok (done ++ t ∷ []))) AreMarked
number_marked n done r h = grind (arith, common_steps, one_more)

word_marked : (n : Name) (done : Tokens) → AreMarked done → IfOk (word_token n >>= (λ t. Ok (done ++ t ∷ []))) AreMarked
unfolding word_token
word_marked n done h = elim (cases_Bool (begins_number n.text)) [
  | inl d ↦ rw d (number_marked n done (at_place n.at (number_of n.text)) h)
  | inr d ↦ elim (cases_Bool (is_dashed n.text)) [
    | inl e ↦ rw (d, e) (one_more done (dash n) h (rw e refl))
    | inr e ↦ rw (d, e) (one_more done (word n) h (rw e refl))
  ]
]

added_marked : (p : Piece) (at : Position) (done : Tokens) → AreMarked done → IfOk (added p at done) AreMarked
added_marked left at done h = one_more done (begin_list at) h refl
added_marked right at done h = one_more done (end_list at) h refl
added_marked bind at done h = or_marked at (last_bound done) (bound_marked done h)
added_marked (name cs) at done h = word_marked _ done h
added_marked (sign cs) at done h = one_more done _ h refl
added_marked (endless cs) at done h = tt
added_marked alone at done h = tt
added_marked _ at done h = h

next : (r : Result Tokens Wrong) (f : Tokens → Result Tokens Wrong) → IfOk r AreMarked → ((ts : Tokens) → AreMarked ts → IfOk (f ts) AreMarked) → IfOk (r >>= f) AreMarked
next r f h go = grind (arith, common_steps)

pub tokens_marked : (file offset : ℕ) (ps : List Piece) (done : Tokens) → AreMarked done → IfOk (tokens_after file offset ps done) AreMarked
tokens_marked file offset [] done h = h
tokens_marked file offset (p ∷ ps) done h = grind (arith, common_steps, tokens_marked file (offset + size (spelling p)) ps, next, added_marked)
