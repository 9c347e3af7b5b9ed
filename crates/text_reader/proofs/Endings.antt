-- A list that isn't ended at a text's end can be ended, and so can a comment.
use Rattle.std.proofs.Common.{◌≡◌, ℕ, zero, suc, ◌+◌, ◌-◌, ◌<◌, false, ◌==◌, List, [], ◌∷◌, ◌++◌, length, All, refl, sym, ap, ◌∙◌, inl, inr, arith, append_assoc, append-nil, chars, IsUtf8}
use Rattle.std.specs.Prelude.{Result, Ok, Err, nat_le, ◌&&◌}
use Rattle.std.specs.Str.{IsAscii}
use Rattle.std.proofs.lemmas.Bool.{cases_Bool}
use Rattle.std.proofs.lemmas.Bool.Decides.{nat_tests}
use Rattle.std.proofs.lemmas.List.Elements.{All-nil, All-cons}
use Rattle.std.proofs.lemmas.Str.{chars-append, chars-IsAscii, IsUtf8-append, IsUtf8-from_ascii}
use Rattle.std.proofs.lemmas.Str.Ascii.{IsAscii-from_all}
use Rattle.std.proofs.lemmas.Grind.{common_steps}
use Rattle.model.specs.lists.Syntax.{Position}
use Rattle.text_reader.specs.declared.errors.Mistake.TheVariants.{CommentEnd}
use Rattle.text_reader.specs.Lexemes.{begin_list, end_list, constant, Complaint, expected, unclosed, Wrong, ◌>>=◌, word_token, last_bound, or_mistake}
use Rattle.text_reader.specs.Pieces.{size, is_in_word, is_space, pieces_of}
use Rattle.text_reader.specs.Lexing.{Tokens, Mode, between, in_line, opened, in_block, signed, in_name, in_constant, begun, in_comment, finished, step, run, reached}
use Rattle.text_reader.specs.FormTrees.{FormTree, a_list, a_binding, FormTrees, no_form}
use Rattle.text_reader.specs.Forming.{Begun, a_group, a_binder, behind, put, whole, forms_from, forms_of}
use Rattle.text_reader.specs.Definitions.{definitions_of, tokens_in, forms_in, reading}
use Rattle.text_reader.proofs.Dividing.{at, width, divided}
use Rattle.text_reader.proofs.Only.{only}
use Rattle.text_reader.proofs.Mistakes.{both_give, one_fails, Never, never, never_next, never_if, IsMissingEnd, never_word, never_bound, IsUnclosed, closed_tokens, closed_formed, IsUnendedComment, other_forms}
use Rattle.text_reader.proofs.OpenEnds.{definitions_fine}
use Rattle.text_reader.proofs.Fronts.{run_past, reached_anywhere}

same_ok : (x y : Tokens) (r : Result Tokens Wrong) → r ≡ Ok x → r ≡ Ok y → x ≡ y
same_ok x y r a b = cc

-- ---- the tokens of a text that goes on

module _ (file end next : ℕ) where
  -- after a line break nothing is begun
  line_break : (m : Mode) (p : Position) (done ts : Tokens) → finished file end m done ≡ Ok ts → step next m p 10 done ≡ Ok (between, ts)
  unfolding begun
  line_break between p done ts e = ap (λ d. Ok (between, d)) (same_ok done ts (finished file end between done) refl e)
  line_break in_line p done ts e = ap (λ d. Ok (between, d)) (same_ok done ts (finished file end in_line done) refl e)
  line_break (opened o) p done ts e = ap (λ d. Ok (between, d)) (same_ok (done ++ begin_list o ∷ []) ts (finished file end (opened o) done) refl e)
  line_break (in_block o d l) p done ts e = absurd (cc e)
  line_break (signed s) p done ts e = absurd (cc e)
  line_break (in_name n) p done ts e = ap (λ r. r >>= begun p 10) e
  line_break (in_constant n s) p done ts e = ap (λ d. Ok (between, d)) (same_ok (done ++ constant n s ∷ []) ts (finished file end (in_constant n s) done) refl e)

-- so many lists end
abbrev closing : ℕ → List ℕ
closing zero = []
closing (suc n) = 41 ∷ closing n

abbrev ends : ℕ → ℕ → ℕ → Tokens
ends file o zero = []
ends file o (suc n) = end_list (at file o) ∷ ends file (o + 1) n

module _ (file end : ℕ) where
  closing_read : (n o : ℕ) (done : Tokens) → run file end between o (closing n) done ≡ Ok (done ++ ends file o n)
  unfolding run begun lib.Utf8.encode
  closing_read zero o done = ap Ok (sym (append-nil done))
  closing_read (suc n) o done = closing_read n (o + 1) (done ++ end_list (at file o) ∷ []) ∙ ap Ok (append_assoc done (end_list (at file o) ∷ []) (ends file (o + 1) n))

  broken_read : (n o : ℕ) (m : Mode) (before : ℕ) (done ts : Tokens) → finished file before m done ≡ Ok ts → run file end m o (10 ∷ closing n) done ≡ Ok (ts ++ ends file (o + 1) n)
  unfolding run lib.Utf8.encode
  broken_read n o m before done ts e = ap (λ r. r >>= (λ s. run file end s.0 (o + 1) (closing n) s.1)) (line_break file before end m (at file o) done ts e) ∙ closing_read n (o + 1) ts

-- a text is read up to its end, and then what it ended in
halts : (file end : ℕ) (cs : List ℕ) → reached file end between 0 cs [] >>= (λ s. finished file end s.0 s.1) ≡ run file end between 0 cs []
unfolding run
halts file end cs = sym (run_past file end cs [] between 0 []) ∙ ap (λ l. run file end between 0 l []) (append-nil cs)

-- the text goes on from there
gone_on : (file end next : ℕ) (cs more : List ℕ) (s : Mode × Tokens) → reached file end between 0 cs [] ≡ Ok s → run file next between 0 (cs ++ more) [] ≡ run file next s.0 (0 + size cs) more s.1
gone_on file end next cs more s e = grind (arith, common_steps, run_past, reached_anywhere)

tokens_run : (file : ℕ) (text : List ℕ) → tokens_in file text ≡ run file (size (chars text)) between 0 (chars text) []
tokens_run file text = grind (arith, common_steps, only, divided)

chars_more : (text more : List ℕ) → IsUtf8 text → IsAscii more → chars (text ++ more) ≡ chars text ++ more
chars_more text more u a = chars-append text more u ∙ ap (λ cs. chars text ++ cs) (chars-IsAscii more a)

-- a text that has tokens has those, and as many ends of lists as are put behind it
ended_tokens : (file : ℕ) (text : List ℕ) (n : ℕ) (ts : Tokens) → IsUtf8 text → IsAscii (10 ∷ closing n) → tokens_in file text ≡ Ok ts
    → tokens_in file (text ++ 10 ∷ closing n) ≡ Ok (ts ++ ends file (size (chars text) + 1) n)
ended_tokens file text n ts u a e =
    let end = size (chars text) in
    let next = size (chars (text ++ 10 ∷ closing n)) in
    let none : 0 + end ≡ end = omega arith in
    let h = both_give (reached file end between 0 (chars text) []) (λ s. finished file end s.0 s.1) ts (halts file end (chars text) ∙ sym (tokens_run file text) ∙ e) in
    tokens_run file (text ++ 10 ∷ closing n)
    ∙ ap (λ cs. run file next between 0 cs []) (chars_more text (10 ∷ closing n) u a)
    ∙ gone_on file end next (chars text) (10 ∷ closing n) h.0 h.1
    ∙ broken_read file next n (0 + end) h.0.0 end h.0.1 ts h.2
    ∙ ap (λ k. Ok (ts ++ ends file (k + 1) n)) none

-- ---- the lists of tokens that go on

-- what is begun where tokens end in a list without end
abbrev IsLeft : (file : ℕ) → Tokens → FormTrees → List Begun → Type 0
IsLeft file ts fs os = (gs : FormTrees) × (parts : FormTrees) × (p : Position) × (under : List Begun)
    × ((next : ℕ) (more : Tokens) → forms_from file next (ts ++ more) fs os ≡ forms_from file next more gs (a_group parts p ∷ under))

left_at_end : (file end : ℕ) (fs : FormTrees) (os : List Begun) (b e : Position) → whole file end fs os ≡ Err (unclosed b, e) → IsLeft file [] fs os
left_at_end file end fs [] b e h = absurd (cc h)
left_at_end file end fs (a_group gs p ∷ os) b e h = (fs, gs, p, os, λ next more. refl)
left_at_end file end fs (a_binder n ∷ os) b e h = absurd (never IsUnclosed (whole file end fs (a_binder n ∷ os)) (unclosed b, e) (λ x. x) tt h)

left_behind : (file end : ℕ) (ts : Tokens) (fs : FormTrees) (os : List Begun) (b e : Position) → forms_from file end ts fs os ≡ Err (unclosed b, e) → IsLeft file ts fs os
left_behind file end [] fs os b e h = left_at_end file end fs os b e h
left_behind file end (t ∷ ts) fs os b e h = grind (arith, common_steps, left_behind file end ts, one_fails, never, closed_formed)

-- how many lists are begun
abbrev lists_begun : List Begun → ℕ
lists_begun [] = 0
lists_begun (a_binder n ∷ os) = lists_begun os
lists_begun (a_group gs p ∷ os) = suc (lists_begun os)

-- so many ends of lists end them all
all_ended : (file end o : ℕ) (os : List Begun) (f : FormTree) (fs : FormTrees)
    → (gs : FormTrees) × (forms_from file end (ends file o (lists_begun os)) (put f fs os).0 (put f fs os).1 ≡ Ok gs)
all_ended file end o [] f fs = (behind fs f, refl)
all_ended file end o (a_binder n ∷ os) f fs = all_ended file end o os (a_binding n f) fs
all_ended file end o (a_group gs p ∷ os) f fs = all_ended file end (o + 1) os (a_list (behind gs f) p (at file o)) fs

-- ---- together

closing_plain : (n : ℕ) → All (λ b. b < 128) (closing n)
closing_plain zero = All-nil (λ b. b < 128)
closing_plain (suc n) = let low : 41 < 128 = omega arith in All-cons (λ b. b < 128) 41 (closing n) low (closing_plain n)

broken_plain : (n : ℕ) → IsAscii (10 ∷ closing n)
broken_plain n = let low : 10 < 128 = omega arith in IsAscii-from_all (10 ∷ closing n) (All-cons (λ b. b < 128) 10 (closing n) low (closing_plain n))

lists_ended : (file : ℕ) (text : List ℕ) (begin place : Position) → IsUtf8 text → forms_in file text ≡ Err (unclosed begin, place)
    → (more : List ℕ) × (fs : FormTrees) × IsUtf8 (text ++ more) × (forms_in file (text ++ more) ≡ Ok fs)
lists_ended file text begin place u e = elim (one_fails (tokens_in file text) (forms_of file (length text)) (unclosed begin, place) e) [
  | inl h ↦ absurd (never IsUnclosed (tokens_in file text) (unclosed begin, place) (closed_tokens file 0 (pieces_of (chars text)) []) tt h)
  | inr h ↦ (let ts = h.0 in
      let l = left_behind file (length text) ts no_form [] begin place h.2 in
      let n = suc (lists_begun l.3) in
      let more = 10 ∷ closing n in
      let plain = broken_plain n in
      let o = size (chars text) + 1 in
      let next = length (text ++ more) in
      let done = all_ended file next (o + 1) l.3 (a_list l.1 l.2 (at file o)) l.0 in (
        more,
        done.0,
        IsUtf8-append text more u (IsUtf8-from_ascii more plain),
        ap (λ r. r >>= forms_of file next) (ended_tokens file text n ts u plain h.1) ∙ l.4 next (ends file o n) ∙ done.1,
      ))
]

-- ---- a comment

-- so many comments end
abbrev comment_closing : ℕ → List ℕ
comment_closing zero = 59 ∷ 41 ∷ []
comment_closing (suc zero) = 59 ∷ 41 ∷ []
comment_closing (suc (suc n)) = 59 ∷ 41 ∷ comment_closing (suc n)

module _ (file end : ℕ) where
  comment_closed : (n : ℕ) (p : Position) (o : ℕ) (done : Tokens) → run file end (in_block p n 32) o (comment_closing n) done ≡ Ok done
  unfolding run in_comment lib.Utf8.encode
  comment_closed zero p o done = refl
  comment_closed (suc zero) p o done = refl
  comment_closed (suc (suc n)) p o done =
      let deep : nat_le (suc (suc n)) 1 ≡ false = grind (arith, nat_tests) in
      let less : suc (suc n) - 1 ≡ suc n = omega arith in
      rw (deep, less) (comment_closed (suc n) p ((o + 1) + 1) done)

  -- a space parts them from what the comment may end with
  spaced : (p : Position) (depth last : ℕ) → in_comment p depth last 32 ≡ Ok (in_block p depth 32)
  unfolding in_comment
  spaced p depth last = elim (cases_Bool (last == 40)) [
    | inl a ↦ elim (cases_Bool (last == 59)) [
      | inl b ↦ rw (a, b) refl
      | inr b ↦ rw (a, b) refl
    ]
    | inr a ↦ elim (cases_Bool (last == 59)) [
      | inl b ↦ rw (a, b) refl
      | inr b ↦ rw (a, b) refl
    ]
  ]

  comment_ended : (p : Position) (depth last o : ℕ) (done : Tokens) → run file end (in_block p depth last) o (32 ∷ comment_closing depth) done ≡ Ok done
  unfolding run lib.Utf8.encode
  comment_ended p depth last o done = rw (spaced p depth last) (comment_closed depth p (o + 1) done)

  -- no other character shows that a comment isn't ended
  never_begun : (p : Position) (c : ℕ) (done : Tokens) → Never IsMissingEnd (begun p c done)
  unfolding begun
  never_begun p c done =
      never_if IsMissingEnd (c == 40) _ _ tt (never_if IsMissingEnd (c == 59) _ _ tt (never_if IsMissingEnd (c == 36) _ _ tt (never_if IsMissingEnd (c == 41) _ _ tt
      (never_if IsMissingEnd (c == 64) _ _ (never_next IsMissingEnd (or_mistake p (last_bound done)) _ (never_bound p (last_bound done)) (λ ts. tt))
      (never_if IsMissingEnd (is_space p.offset c) _ _ tt tt)))))

  never_in_comment : (p : Position) (depth last c : ℕ) → Never IsMissingEnd (in_comment p depth last c)
  unfolding in_comment
  never_in_comment p depth last c =
      never_if IsMissingEnd (last == 40 && c == 59) _ _ (never_if IsMissingEnd (nat_le 1000 depth) _ _ (λ b. cc b) tt)
      (never_if IsMissingEnd (last == 59 && c == 41) _ _ (never_if IsMissingEnd (nat_le depth 1) _ _ tt tt) tt)

  never_step : (m : Mode) (p : Position) (c : ℕ) (done : Tokens) → Never IsMissingEnd (step end m p c done)
  never_step between p c done = never_begun p c done
  never_step in_line p c done = never_if IsMissingEnd (c == 10) _ _ tt tt
  never_step (opened o) p c done = never_if IsMissingEnd (c == 59) _ _ tt (never_begun p c _)
  never_step (in_block o depth last) p c done = never_next IsMissingEnd (in_comment o depth last c) _ (never_in_comment o depth last c) (λ m. tt)
  never_step (signed s) p c done = never_if IsMissingEnd (is_in_word c) _ _ tt (λ b. cc b)
  never_step (in_name n) p c done =
      never_if IsMissingEnd (is_in_word c) _ _ tt
      (never_next IsMissingEnd (word_token n >>= (λ t. Ok (done ++ t ∷ []))) (begun p c) (never_next IsMissingEnd (word_token n) _ (never_word n) (λ t. tt)) (λ ts. never_begun p c ts))
  never_step (in_constant n s) p c done = never_if IsMissingEnd (is_in_word c) _ _ tt (never_begun p c _)

  never_reached : (cs : List ℕ) (m : Mode) (o : ℕ) (done : Tokens) → Never IsMissingEnd (reached file end m o cs done)
  never_reached [] m o done = tt
  never_reached (c ∷ cs) m o done = never_next IsMissingEnd (step end m (at file o) c done) _ (never_step m (at file o) c done) (λ s. never_reached cs s.0 (o + width c) s.1)

abbrev CanGoOn : (file : ℕ) → Mode → Tokens → Type 0
CanGoOn file m done = (more : List ℕ) × IsAscii more × ((next o : ℕ) → run file next m o more done ≡ Ok done)

comment_plain : (n : ℕ) → All (λ b. b < 128) (comment_closing n)
comment_plain zero = grind (arith, common_steps)
comment_plain (suc zero) = comment_plain zero
comment_plain (suc (suc n)) = let low : 59 < 128 = omega arith in let less : 41 < 128 = omega arith in All-cons (λ b. b < 128) 59 (41 ∷ comment_closing (suc n)) low (All-cons (λ b. b < 128) 41 (comment_closing (suc n)) less (comment_plain (suc n)))

spaced_plain : (n : ℕ) → IsAscii (32 ∷ comment_closing n)
spaced_plain n = let low : 32 < 128 = omega arith in IsAscii-from_all (32 ∷ comment_closing n) (All-cons (λ b. b < 128) 32 (comment_closing n) low (comment_plain n))

goes_on : (file end : ℕ) (m : Mode) (done : Tokens) (place : Position) → finished file end m done ≡ Err (expected CommentEnd, place) → CanGoOn file m done
goes_on file end (in_block p depth last) done place e = (32 ∷ comment_closing depth, spaced_plain depth, λ next o. comment_ended file next p depth last o done)
goes_on file end (signed s) done place e = absurd (never IsMissingEnd (finished file end (signed s) done) (expected CommentEnd, place) (λ b. cc b) refl e)
goes_on file end (in_name n) done place e =
    absurd (never IsMissingEnd (finished file end (in_name n) done) (expected CommentEnd, place) (never_next IsMissingEnd (word_token n) _ (never_word n) (λ t. tt)) refl e)
goes_on file end _ done place e = absurd (cc e)

comments_ended : (file : ℕ) (text : List ℕ) (place : Position) → IsUtf8 text → tokens_in file text ≡ Err (expected CommentEnd, place)
    → (more : List ℕ) × (ts : Tokens) × IsUtf8 (text ++ more) × (tokens_in file (text ++ more) ≡ Ok ts)
comments_ended file text place u e =
    let end = size (chars text) in
    elim (one_fails (reached file end between 0 (chars text) []) (λ s. finished file end s.0 s.1) (expected CommentEnd, place) (halts file end (chars text) ∙ sym (tokens_run file text) ∙ e)) [
      | inl h ↦ absurd (never IsMissingEnd (reached file end between 0 (chars text) []) (expected CommentEnd, place) (never_reached file end (chars text) between 0 []) refl h)
      | inr h ↦ (let g = goes_on file end h.0.0 h.0.1 place h.2 in
          let more = g.0 in
          let next = size (chars (text ++ more)) in (
            more,
            h.0.1,
            IsUtf8-append text more u (IsUtf8-from_ascii more g.1),
            tokens_run file (text ++ more)
                ∙ ap (λ cs. run file next between 0 cs []) (chars_more text more u g.1)
                ∙ gone_on file end next (chars text) more h.0 h.1
                ∙ g.2 next (0 + end),
          ))
    ]

-- ---- as a text's mistake is told

-- the mistake of a whole is that of its first part, if the second never has it
first_part : {A B : Type 0} (bad : Complaint → Type 0) (r : Result A Wrong) (f : A → Result B Wrong) (w : Wrong) → ((x : A) → Never bad (f x)) → bad w.0 → r >>= f ≡ Err w → r ≡ Err w
first_part bad r f w h b e = grind (arith, common_steps, one_fails, never)

pub lists_can_be_ended : (file : ℕ) (text : List ℕ) (begin place : Position) → IsUtf8 text → reading file text ≡ Err (unclosed begin, place)
    → (more : List ℕ) × (fs : FormTrees) × IsUtf8 (text ++ more) × (forms_in file (text ++ more) ≡ Ok fs)
lists_can_be_ended file text begin place u e =
    lists_ended file text begin place u (first_part IsMissingEnd (forms_in file text) definitions_of (unclosed begin, place) definitions_fine tt e)

pub comments_can_be_ended : (file : ℕ) (text : List ℕ) (place : Position) → IsUtf8 text → reading file text ≡ Err (expected CommentEnd, place)
    → (more : List ℕ) × (ts : Tokens) × IsUtf8 (text ++ more) × (tokens_in file (text ++ more) ≡ Ok ts)
comments_can_be_ended file text place u e =
    comments_ended file text place u
    (first_part IsUnendedComment (tokens_in file text) (forms_of file (length text)) (expected CommentEnd, place) (λ ts. other_forms file (length text) ts no_form []) refl
    (first_part IsMissingEnd (forms_in file text) definitions_of (expected CommentEnd, place) definitions_fine refl e))
