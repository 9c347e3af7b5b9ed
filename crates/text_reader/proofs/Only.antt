-- Whatever pieces a text is divided into, reading it character by character gives what they give.
use Rattle.std.proofs.Common.{◌≡◌, ℕ, ◌+◌, ◌-◌, ◌<◌, true, false, not, ◌&&◌, ◌==◌, List, [], ◌∷◌, ◌++◌, length, refl, sym, ap, ◌∙◌, subst, inl, inr, arith, append-nil, length-append, encode_utf8, encode_utf8_all}
use Rattle.std.specs.Prelude.{Result, Ok, Err, nat_le}
use Rattle.std.specs.List.{list_all}
use Rattle.std.proofs.lemmas.Bool.{cases_Bool, eqb-true, not-true, and_parts, false≢true}
use Rattle.std.proofs.lemmas.Bool.Decides.{nat_tests}
use Rattle.std.proofs.lemmas.Str.{encodes-append}
use Rattle.std.proofs.Math.Nat.{add-zero}
use Rattle.std.proofs.lemmas.Grind.{common_steps}
use Rattle.model.specs.lists.Syntax.{Position, Name}
use Rattle.text_reader.specs.declared.errors.Mistake.{Mistake}
use Rattle.text_reader.specs.declared.errors.Mistake.TheVariants.{ConstantName}
use Rattle.text_reader.specs.Lexemes.{expected, constant, Wrong, ◌>>=◌, word_token, last_bound, or_mistake}
use Rattle.text_reader.specs.Pieces.{Piece, space, line, block, left, right, bind, name, sign, endless, alone, spelling, size, is_in_word, is_space, begins_word, after_comment, ends_word, ends_line, Stands, AreIn}
use Rattle.text_reader.specs.Lexing.{Tokens, tokens_after, added, between, in_line, in_block, in_name, in_constant, begun, in_comment, run, with_char}
use Rattle.text_reader.proofs.Dividing.{at, width, bind_twice, bind_same, past, past_one, grown_name, size_more}

bind_done : (r : Result Tokens Wrong) → r ≡ r >>= (λ d. Ok d)
bind_done r = grind (arith, common_steps)

module _ (file end : ℕ) where
  -- what is left of a word
  name_ends : (rest : List ℕ) (o : ℕ) (n : Name) (done : Tokens) → ends_word rest ≡ true → run file end (in_name n) o rest done ≡ (word_token n >>= (λ t. Ok (done ++ t ∷ []))) >>= run file end between o rest
  unfolding run
  name_ends [] o n done e = bind_done (word_token n >>= (λ t. Ok (done ++ t ∷ [])))
  name_ends (d ∷ ds) o n done e = rw (not-true (is_in_word d) e) (bind_twice (word_token n >>= (λ t. Ok (done ++ t ∷ []))) (begun (at file o) d) _)

  name_runs : (more rest : List ℕ) (o : ℕ) (n : Name) (done : Tokens) → list_all is_in_word more ≡ true → ends_word rest ≡ true
      → run file end (in_name n) o (more ++ rest) done ≡ (word_token (record n { text = n.text ++ encode_utf8_all more }) >>= (λ t. Ok (done ++ t ∷ []))) >>= run file end between (o + size more) rest
  unfolding run
  name_runs [] rest o n done a e = rw (append-nil n.text, add-zero o) (name_ends rest o n done e)
  name_runs (c ∷ more) rest o n done a e =
      let h = and_parts (is_in_word c) (list_all is_in_word more) a in
      rw h.0 (name_runs more rest (o + width c) (with_char n c) done h.1 e
      ∙ ap (λ m. (word_token m >>= (λ t. Ok (done ++ t ∷ []))) >>= run file end between ((o + width c) + size more) rest) (grown_name n c more)
      ∙ ap (λ k. (word_token (record n { text = n.text ++ encode_utf8_all (c ∷ more) }) >>= (λ t. Ok (done ++ t ∷ []))) >>= run file end between k rest) (past o c more))

  constant_ends : (rest : List ℕ) (o : ℕ) (n : Name) (s : Position) (done : Tokens) → ends_word rest ≡ true → run file end (in_constant n s) o rest done ≡ run file end between o rest (done ++ constant n s ∷ [])
  unfolding run
  constant_ends [] o n s done e = refl
  constant_ends (d ∷ ds) o n s done e = rw (not-true (is_in_word d) e) refl

  constant_runs : (more rest : List ℕ) (o : ℕ) (n : Name) (s : Position) (done : Tokens) → list_all is_in_word more ≡ true → ends_word rest ≡ true
      → run file end (in_constant n s) o (more ++ rest) done ≡ run file end between (o + size more) rest (done ++ constant (record n { text = n.text ++ encode_utf8_all more }) s ∷ [])
  unfolding run
  constant_runs [] rest o n s done a e = rw (append-nil n.text, add-zero o) (constant_ends rest o n s done e)
  constant_runs (c ∷ more) rest o n s done a e =
      let h = and_parts (is_in_word c) (list_all is_in_word more) a in
      rw h.0 (constant_runs more rest (o + width c) (with_char n c) s done h.1 e
      ∙ ap (λ m. run file end between ((o + width c) + size more) rest (done ++ constant m s ∷ [])) (grown_name n c more)
      ∙ ap (λ k. run file end between k rest (done ++ constant (record n { text = n.text ++ encode_utf8_all (c ∷ more) }) s ∷ [])) (past o c more))

  line_ends_there : (rest : List ℕ) (o : ℕ) (done : Tokens) → ends_line rest ≡ true → run file end in_line o rest done ≡ run file end between o rest done
  unfolding run begun lib.Utf8.encode
  line_ends_there [] o done e = refl
  line_ends_there (d ∷ ds) o done e = rw (eqb-true d 10 e) refl

  line_runs : (more rest : List ℕ) (o : ℕ) (done : Tokens) → list_all (λ c. not (c == 10)) more ≡ true → ends_line rest ≡ true → run file end in_line o (more ++ rest) done ≡ run file end between (o + size more) rest done
  unfolding run
  line_runs [] rest o done a e = rw (add-zero o) (line_ends_there rest o done e)
  line_runs (c ∷ more) rest o done a e =
      let h = and_parts (not (c == 10)) (list_all (λ c. not (c == 10)) more) a in
      rw (not-true (c == 10) h.0) (line_runs more rest (o + width c) done h.1 e ∙ ap (λ k. run file end between k rest done) (past o c more))

  one_more : (c : ℕ) (cs more : List ℕ) → c ∷ cs ≡ more ++ cs → c ∷ [] ≡ more
  one_more c cs [] e = absurd (omega (arith, ap length e))
  one_more c cs (x ∷ []) e = cc e
  one_more c cs (x ∷ y ∷ more) e = absurd (omega (arith, ap length e, length-append more cs))

  -- a comment that ends: what follows it is shorter, and is read next
  abbrev Ended : ℕ → List ℕ → List ℕ → ℕ → ℕ → Result (List ℕ) Mistake → Type 0
  Ended o cs more depth last (Err m) = (p : Position) (done : Tokens) → run file end (in_block p depth last) o cs done ≡ Err (expected m, p)
  Ended o cs more depth last (Ok rest) = (length rest < length cs) × (cs ≡ more ++ rest → (p : Position) (done : Tokens) → run file end (in_block p depth last) o cs done ≡ run file end between (o + size more) rest done)

  ended_more : (o c depth last d l : ℕ) (cs more : List ℕ) (r : Result (List ℕ) Mistake) → ((p : Position) (done : Tokens) → run file end (in_block p depth last) o (c ∷ cs) done ≡ run file end (in_block p d l) (o + width c) cs done)
      → ((ms : List ℕ) → Ended (o + width c) cs ms d l r) → Ended o (c ∷ cs) more depth last r
  ended_more o c depth last d l cs more (Err m) same h = λ p done. same p done ∙ h more p done
  ended_more o c depth last d l cs [] (Ok rest) same h = (omega (arith, (h []).0), λ e. absurd (omega (arith, (h []).0, ap length e)))
  ended_more o c depth last d l cs (x ∷ more) (Ok rest) same h = grind (arith, past o c more, h [], h more)

  comment_runs : (cs : List ℕ) (o depth last : ℕ) (more : List ℕ) → Ended o cs more depth last (after_comment depth last cs)
  unfolding run in_comment
  comment_runs [] o depth last more = λ p done. refl
  comment_runs (c ∷ cs) o depth last more = elim (cases_Bool (last == 40 && c == 59)) [
    | inl e ↦ elim (cases_Bool (nat_le 1000 depth)) [
      | inl deep ↦ rw (e, deep) (λ p done. rw (e, deep) refl)
      | inr deep ↦ rw (e, deep) (ended_more o c depth last (depth + 1) 32 cs more _ (λ p done. rw (e, deep) refl) (λ ms. comment_runs cs (o + width c) (depth + 1) 32 ms))
    ]
    | inr e ↦ elim (cases_Bool (last == 59 && c == 41)) [
      | inl f ↦ elim (cases_Bool (nat_le depth 1)) [
        | inl one ↦ rw (e, f, one) (omega arith, λ same p done. rw (e, f, one) (ap (λ k. run file end between k cs done) (past_one o c ∙ ap (λ y. o + size y) (one_more c cs more same))))
        | inr one ↦ rw (e, f, one) (ended_more o c depth last (depth - 1) 32 cs more _ (λ p done. rw (e, f, one) refl) (λ ms. comment_runs cs (o + width c) (depth - 1) 32 ms))
      ]
      | inr f ↦ rw (e, f) (ended_more o c depth last depth c cs more _ (λ p done. rw (e, f) refl) (λ ms. comment_runs cs (o + width c) depth c ms))
    ]
  ]

  begun_space : (o c : ℕ) (done : Tokens) → is_space o c ≡ true → begun (at file o) c done ≡ Ok (between, done)
  unfolding begun
  begun_space o c done s =
      let a : (c == 40) ≡ false = grind (arith, nat_tests, s) in let b : (c == 59) ≡ false = grind (arith, nat_tests, s) in
      let d : (c == 36) ≡ false = grind (arith, nat_tests, s) in let f : (c == 41) ≡ false = grind (arith, nat_tests, s) in
      let g : (c == 64) ≡ false = grind (arith, nat_tests, s) in
      rw (a, b, d, f, g, s) refl

  begun_word : (o c : ℕ) (done : Tokens) → begins_word o c ≡ true → begun (at file o) c done ≡ Ok (in_name (record { text = encode_utf8 c; at = at file o }), done)
  unfolding begun
  begun_word o c done s =
      let a : (c == 40) ≡ false = grind (arith, nat_tests, s) in let b : (c == 59) ≡ false = grind (arith, nat_tests, s) in
      let d : (c == 36) ≡ false = grind (arith, nat_tests, s) in let f : (c == 41) ≡ false = grind (arith, nat_tests, s) in
      let g : (c == 64) ≡ false = grind (arith, nat_tests, s) in let h : is_space o c ≡ false = grind (arith, nat_tests, s) in
      rw (a, b, d, f, g, h) refl

  comment_read : (o : ℕ) (cs rest : List ℕ) (p : Position) (done : Tokens) (r : Result (List ℕ) Mistake) → after_comment 1 32 (cs ++ rest) ≡ r → r ≡ Ok rest → run file end (in_block p 1 32) o (cs ++ rest) done ≡ run file end between (o + size cs) rest done
  comment_read o cs rest p done r e same = (subst (Ended o (cs ++ rest) cs 1 32) (e ∙ same) (comment_runs (cs ++ rest) o 1 32 cs)).1 refl p done

  -- one piece
  one : (q : Piece) (rest : List ℕ) (o : ℕ) (done : Tokens) → Stands o q rest → (rest ≡ [] → o + size (spelling q) ≡ end)
      → run file end between o (spelling q ++ rest) done ≡ added q (at file o) done >>= run file end between (o + size (spelling q)) rest
  unfolding run begun lib.Utf8.encode
  one (space c) rest o done s e = rw (begun_space o c done s) (ap (λ k. run file end between k rest done) (past_one o c))
  one (line cs) rest o done s e = line_runs cs rest (o + 1) done s.0 s.1 ∙ ap (λ k. run file end between k rest done) (past o 59 cs)
  one (block cs) rest o done s e = comment_read ((o + 1) + 1) cs rest (at file o) done _ refl s
      ∙ ap (λ k. run file end between k rest done) (omega (arith, size_more 40 (59 ∷ cs), size_more 59 cs))
  one left [] o done s e = refl
  one left (d ∷ ds) o done s e = rw s refl
  one right rest o done s e = refl
  one bind rest o done s e = bind_twice (or_mistake (at file o) (last_bound done)) _ _
  one (name []) rest o done s e = absurd (false≢true s.0)
  one (name (c ∷ cs)) rest o done s e =
      let h = and_parts (begins_word o c) (list_all is_in_word cs) s.0 in
      rw (begun_word o c done h.0) (name_runs cs rest (o + width c) _ done h.1 s.1
      ∙ ap (λ k. (word_token (record { text = encode_utf8_all (c ∷ cs); at = at file o }) >>= (λ t. Ok (done ++ t ∷ []))) >>= run file end between k rest) (past o c cs))
  one (sign []) rest o done s e = absurd (false≢true s.0)
  one (sign (c ∷ cs)) rest o done s e =
      let h = and_parts (is_in_word c) (list_all is_in_word cs) s.0 in
      rw h.0 (constant_runs cs rest ((o + 1) + width c) _ _ done h.1 s.1
      ∙ ap (λ k. run file end between k rest (done ++ constant (record { text = encode_utf8_all (c ∷ cs); at = at file (o + 1) }) (at file o) ∷ [])) (omega (arith, size_more 36 (c ∷ cs), size_more c cs)))
  one (endless cs) rest o done s e =
      rw (s.0, append-nil cs, s.2) (subst (Ended ((o + 1) + 1) cs cs 1 32) s.2 (comment_runs cs ((o + 1) + 1) 1 32 cs) (at file o) done)
  one alone [] o done s e = ap (λ k. Err (expected ConstantName, at file k)) (sym (e refl))
  one alone (d ∷ ds) o done s e = rw (not-true (is_in_word d) s) refl

  size_joined : (a b : List ℕ) → size (a ++ b) ≡ size a + size b
  size_joined a b = ap length (encodes-append a b) ∙ length-append (encode_utf8_all a) (encode_utf8_all b)

  pub only : (ps : List Piece) (o : ℕ) (text : List ℕ) (done : Tokens) → o + size text ≡ end → AreIn o text ps → run file end between o text done ≡ tokens_after file o ps done
  unfolding run
  only [] o text done e a = rw a refl
  only (q ∷ ps) o text done e a =
      rw a.1 (one q a.0 o done a.2 (λ none. omega (arith, e, ap size a.1, size_joined (spelling q) a.0, ap size none))
      ∙ bind_same (added q (at file o) done) _ _ (λ d. only ps (o + size (spelling q)) a.0 d (omega (arith, e, ap size a.1, size_joined (spelling q) a.0)) a.3))
