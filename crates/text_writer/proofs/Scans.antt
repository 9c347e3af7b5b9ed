-- Whatever pieces a text is divided into, reading it one character at a time makes the same of it.
use Rattle.std.proofs.Common.{◌≡◌, ℕ, ◌+◌, ◌-◌, ◌<◌, true, false, not, ◌&&◌, ◌==◌, List, [], ◌∷◌, ◌++◌, length, refl, sym, ap, ◌∙◌, subst, inl, inr, arith, Bool}
use Rattle.std.specs.Prelude.{Result, Ok, Err, nat_le}
use Rattle.std.specs.List.{list_all}
use Rattle.std.specs.Char.{is_whitespace}
use Rattle.std.proofs.lemmas.Bool.{cases_Bool, not-true, and_parts, false≢true}
use Rattle.std.proofs.lemmas.Bool.Decides.{nat_tests}
use Rattle.std.proofs.lemmas.List.{append_assoc, append-nil, length-append}
use Rattle.std.proofs.lemmas.Str.{length-encode, len_utf8_bounds}
use Rattle.std.proofs.lemmas.Grind.{common_steps}
use Rattle.text_reader.specs.declared.errors.Mistake.{Mistake}
use Rattle.text_reader.specs.Pieces.{Piece, space, line, block, left, right, bind, name, sign, endless, alone, spelling, size, is_in_word, is_space, begins_word, begins_with, after_comment, ends_word, ends_line, Stands, AreIn}
use Rattle.text_writer.specs.Placing.{Placing, all_placed, with_piece, nothing_placed}
use Rattle.text_writer.specs.Scanning.{ScanMode, start, between, in_name, in_sign, in_line, in_block, in_endless, begun, in_comment, finished, step, run, folded, sign_piece}

one_more : (c : ℕ) (cs more : List ℕ) → c ∷ cs ≡ more ++ cs → c ∷ [] ≡ more
one_more c cs [] e = absurd (omega (arith, ap length e))
one_more c cs (x ∷ []) e = cc e
one_more c cs (x ∷ y ∷ more) e = absurd (omega (arith, ap length e, length-append more cs))

-- one character, and the end
pub run_char : {A : Type 0} (add : Piece → A → A) (m : ScanMode × A) (c : ℕ) (cs : List ℕ) → run add m (c ∷ cs) ≡ run add (step add m.0 m.1 c) cs
unfolding run
run_char add m c cs = refl

pub run_end : {A : Type 0} (add : Piece → A → A) (m : ScanMode × A) → run add m [] ≡ finished add m.0 m.1
unfolding run
run_end add m = refl

module _ {A : Type 0} (add : Piece → A → A) where
  -- one character, by what it gives
  stepped : (m n : ScanMode × A) (c : ℕ) (cs : List ℕ) (r : A) → step add m.0 m.1 c ≡ n → run add n cs ≡ r → run add m (c ∷ cs) ≡ r
  stepped m n c cs r e h = run_char add m c cs ∙ ap (λ x. run add x cs) e ∙ h

  name_step : (cs : List ℕ) (a : A) (c : ℕ) → is_in_word c ≡ true → step add (in_name cs) a c ≡ (in_name (cs ++ c ∷ []), a)
  name_step cs a c e = rw e refl

  sign_step : (cs : List ℕ) (a : A) (c : ℕ) → is_in_word c ≡ true → step add (in_sign cs) a c ≡ (in_sign (cs ++ c ∷ []), a)
  sign_step cs a c e = rw e refl

  line_step : (cs : List ℕ) (a : A) (c : ℕ) → (c == 10) ≡ false → step add (in_line cs) a c ≡ (in_line (cs ++ c ∷ []), a)
  line_step cs a c e = rw e refl

  -- what is left of a word
  name_ends : (rest cs : List ℕ) (a : A) → ends_word rest ≡ true → run add (in_name cs, a) rest ≡ run add (between, add (name cs) a) rest
  unfolding run
  name_ends [] cs a e = refl
  name_ends (d ∷ ds) cs a e = rw (not-true (is_in_word d) e) refl

  name_runs : (more rest cs : List ℕ) (a : A) → list_all is_in_word more ≡ true → ends_word rest ≡ true
      → run add (in_name cs, a) (more ++ rest) ≡ run add (between, add (name (cs ++ more)) a) rest
  unfolding run
  name_runs [] rest cs a h e = rw (append-nil cs) (name_ends rest cs a e)
  name_runs (c ∷ more) rest cs a h e =
      let g = and_parts (is_in_word c) (list_all is_in_word more) h in
      stepped (in_name cs, a) _ c (more ++ rest) _ (name_step cs a c g.0) (name_runs more rest (cs ++ c ∷ []) a g.1 e ∙ ap (λ x. run add (between, add (name x) a) rest) (append_assoc cs (c ∷ []) more))

  sign_ends : (rest cs : List ℕ) (a : A) → ends_word rest ≡ true → run add (in_sign cs, a) rest ≡ run add (between, add (sign_piece cs) a) rest
  unfolding run
  sign_ends [] cs a e = refl
  sign_ends (d ∷ ds) cs a e = rw (not-true (is_in_word d) e) refl

  sign_runs : (more rest cs : List ℕ) (a : A) → list_all is_in_word more ≡ true → ends_word rest ≡ true
      → run add (in_sign cs, a) (more ++ rest) ≡ run add (between, add (sign_piece (cs ++ more)) a) rest
  unfolding run
  sign_runs [] rest cs a h e = rw (append-nil cs) (sign_ends rest cs a e)
  sign_runs (c ∷ more) rest cs a h e =
      let g = and_parts (is_in_word c) (list_all is_in_word more) h in
      stepped (in_sign cs, a) _ c (more ++ rest) _ (sign_step cs a c g.0) (sign_runs more rest (cs ++ c ∷ []) a g.1 e ∙ ap (λ x. run add (between, add (sign_piece x) a) rest) (append_assoc cs (c ∷ []) more))

  line_ends : (rest cs : List ℕ) (a : A) → ends_line rest ≡ true → run add (in_line cs, a) rest ≡ run add (between, add (line cs) a) rest
  unfolding run
  line_ends [] cs a e = refl
  line_ends (d ∷ ds) cs a e = rw e refl

  line_runs : (more rest cs : List ℕ) (a : A) → list_all (λ c. not (c == 10)) more ≡ true → ends_line rest ≡ true
      → run add (in_line cs, a) (more ++ rest) ≡ run add (between, add (line (cs ++ more)) a) rest
  unfolding run
  line_runs [] rest cs a h e = rw (append-nil cs) (line_ends rest cs a e)
  line_runs (c ∷ more) rest cs a h e =
      let g = and_parts (not (c == 10)) (list_all (λ c. not (c == 10)) more) h in
      stepped (in_line cs, a) _ c (more ++ rest) _ (line_step cs a c (not-true (c == 10) g.0)) (line_runs more rest (cs ++ c ∷ []) a g.1 e ∙ ap (λ x. run add (between, add (line x) a) rest) (append_assoc cs (c ∷ []) more))

  endless_runs : (more cs : List ℕ) (a : A) → run add (in_endless cs, a) more ≡ add (endless (cs ++ more)) a
  unfolding run
  endless_runs [] cs a = rw (append-nil cs) refl
  endless_runs (c ∷ more) cs a = endless_runs more (cs ++ c ∷ []) a ∙ ap (λ x. add (endless x) a) (append_assoc cs (c ∷ []) more)

  -- a comment that ends: what follows it is shorter, and is read next
  abbrev Ended : (cs more so_far : List ℕ) (depth last : ℕ) → A → Result (List ℕ) Mistake → Type 0
  Ended cs more so_far depth last a (Err m) = run add (in_block so_far depth last, a) cs ≡ add (endless (so_far ++ cs)) a
  Ended cs more so_far depth last a (Ok rest) = (length rest < length cs) × (cs ≡ more ++ rest → run add (in_block so_far depth last, a) cs ≡ run add (between, add (block (so_far ++ more)) a) rest)

  ended_more : (c depth last d l : ℕ) (cs more so_far : List ℕ) (a : A) (r : Result (List ℕ) Mistake) → run add (in_block so_far depth last, a) (c ∷ cs) ≡ run add (in_block (so_far ++ c ∷ []) d l, a) cs
      → ((ms : List ℕ) → Ended cs ms (so_far ++ c ∷ []) d l a r) → Ended (c ∷ cs) more so_far depth last a r
  ended_more c depth last d l cs more so_far a (Err m) same h = same ∙ h more ∙ ap (λ x. add (endless x) a) (append_assoc so_far (c ∷ []) cs)
  ended_more c depth last d l cs [] so_far a (Ok rest) same h = (omega (arith, (h []).0), λ e. absurd (omega (arith, (h []).0, ap length e)))
  ended_more c depth last d l cs (x ∷ more) so_far a (Ok rest) same h = grind (arith, common_steps, append_assoc so_far (c ∷ []) more)

  comment_runs : (cs so_far : List ℕ) (depth last : ℕ) (a : A) (more : List ℕ) → Ended cs more so_far depth last a (after_comment depth last cs)
  unfolding run in_comment
  comment_runs [] so_far depth last a more = ap (λ x. add (endless x) a) (sym (append-nil so_far))
  comment_runs (c ∷ cs) so_far depth last a more = elim (cases_Bool (last == 40 && c == 59)) [
    | inl e ↦ elim (cases_Bool (nat_le 1000 depth)) [
      | inl deep ↦ rw (e, deep) (rw (e, deep) (endless_runs cs (so_far ++ c ∷ []) a ∙ ap (λ x. add (endless x) a) (append_assoc so_far (c ∷ []) cs)))
      | inr deep ↦ rw (e, deep) (ended_more c depth last (depth + 1) 32 cs more so_far a _ (rw (e, deep) refl) (λ ms. comment_runs cs (so_far ++ c ∷ []) (depth + 1) 32 a ms))
    ]
    | inr e ↦ elim (cases_Bool (last == 59 && c == 41)) [
      | inl f ↦ elim (cases_Bool (nat_le depth 1)) [
        | inl one ↦ rw (e, f, one) (omega arith, λ same. rw (e, f, one) (ap (λ y. run add (between, add (block (so_far ++ y)) a) cs) (one_more c cs more same)))
        | inr one ↦ rw (e, f, one) (ended_more c depth last (depth - 1) 32 cs more so_far a _ (rw (e, f, one) refl) (λ ms. comment_runs cs (so_far ++ c ∷ []) (depth - 1) 32 a ms))
      ]
      | inr f ↦ rw (e, f) (ended_more c depth last depth c cs more so_far a _ (rw (e, f) refl) (λ ms. comment_runs cs (so_far ++ c ∷ []) depth c a ms))
    ]
  ]

  comment_read : (cs rest : List ℕ) (a : A) (r : Result (List ℕ) Mistake) → after_comment 1 32 (cs ++ rest) ≡ r → r ≡ Ok rest → run add (in_block [] 1 32, a) (cs ++ rest) ≡ run add (between, add (block cs) a) rest
  comment_read cs rest a r e same = (subst (Ended (cs ++ rest) cs [] 1 32 a) (e ∙ same) (comment_runs (cs ++ rest) [] 1 32 a cs)).1 refl

  begun_space : (c : ℕ) (a : A) → is_whitespace c ≡ true → begun add a c ≡ (between, add (space c) a)
  unfolding begun
  begun_space c a s =
      let x : (c == 40) ≡ false = grind (arith, nat_tests, s) in let y : (c == 59) ≡ false = grind (arith, nat_tests, s) in
      let h : (c == 36) ≡ false = grind (arith, nat_tests, s) in
      let f : (c == 41) ≡ false = grind (arith, nat_tests, s) in let g : (c == 64) ≡ false = grind (arith, nat_tests, s) in
      rw (x, y, f, g, h, s) refl

  begun_name : (o c : ℕ) (a : A) → begins_word o c ≡ true → begun add a c ≡ (in_name (c ∷ []), a)
  unfolding begun
  begun_name o c a s =
      let x : (c == 40) ≡ false = grind (arith, nat_tests, s) in let y : (c == 59) ≡ false = grind (arith, nat_tests, s) in
      let f : (c == 41) ≡ false = grind (arith, nat_tests, s) in let g : (c == 64) ≡ false = grind (arith, nat_tests, s) in
      let w : is_whitespace c ≡ false = grind (arith, nat_tests, s) in let h : (c == 36) ≡ false = grind (arith, nat_tests, s) in
      rw (x, y, f, g, h, w) refl

  space_is_white : (o c : ℕ) → is_space o c ≡ true → (c == 65279 && o == 0) ≡ false → is_whitespace c ≡ true
  space_is_white o c s n = grind (arith, nat_tests, s, n)

  -- one piece, past the text's beginning or where no byte order mark stands
  one : (q : Piece) (rest : List ℕ) (o : ℕ) (a : A) → (begins_with 65279 (spelling q) && o == 0) ≡ false → Stands o q rest → run add (between, a) (spelling q ++ rest) ≡ run add (between, add q a) rest
  unfolding run begun
  one (space c) rest o a n s = stepped (between, a) _ c rest _ (begun_space c a (space_is_white o c s n)) refl
  one (line cs) rest o a n s = line_runs cs rest [] a s.0 s.1
  one (block cs) rest o a n s = comment_read cs rest a _ refl s
  one left [] o a n s = refl
  one left (d ∷ ds) o a n s = rw s refl
  one right rest o a n s = refl
  one bind rest o a n s = refl
  one (name []) rest o a n s = absurd (false≢true s.0)
  one (name (c ∷ cs)) rest o a n s =
      let h = and_parts (begins_word o c) (list_all is_in_word cs) s.0 in
      stepped (between, a) _ c (cs ++ rest) _ (begun_name o c a h.0) (name_runs cs rest (c ∷ []) a h.1 s.1)
  one (sign []) rest o a n s = absurd (false≢true s.0)
  one (sign (c ∷ cs)) rest o a n s = sign_runs (c ∷ cs) rest [] a s.0 s.1
  one (endless cs) rest o a n s = rw (s.0, append-nil cs) (subst (Ended cs [] [] 1 32 a) s.2 (comment_runs cs [] 1 32 a []))
  one alone [] o a n s = refl
  one alone (d ∷ ds) o a n s = sign_ends (d ∷ ds) [] a s

  -- the text's beginning
  plain_start : (text : List ℕ) (a : A) → begins_with 65279 text ≡ false → run add (start, a) text ≡ run add (between, a) text
  unfolding run
  plain_start [] a n = refl
  plain_start (c ∷ cs) a n = rw n refl

  marked_start : (c : ℕ) (rest : List ℕ) (a : A) → (c == 65279) ≡ true → run add (start, a) (c ∷ rest) ≡ run add (between, add (space c) a) rest
  unfolding run
  marked_start c rest a e = rw e refl

pub sized : (q : Piece) (rest : List ℕ) (o : ℕ) → Stands o q rest → 0 < size (spelling q)
sized q rest o s = grind (arith, common_steps, length-append, length-encode, len_utf8_bounds)

pub fronted : (d : ℕ) (q : Piece) (rest : List ℕ) (o : ℕ) → Stands o q rest → begins_with d (spelling q ++ rest) ≡ begins_with d (spelling q)
fronted d q rest o s = grind (arith, common_steps)

pub past_zero : (b : Bool) (n : ℕ) → 0 < n → (b && n == 0) ≡ false
past_zero b n h = grind (arith, common_steps, nat_tests)

module _ {A : Type 0} (add : Piece → A → A) where
  pub only : (ps : List Piece) (o : ℕ) (text : List ℕ) (a : A) → (begins_with 65279 text && o == 0) ≡ false → AreIn o text ps → run add (between, a) text ≡ folded add a ps
  unfolding run
  only [] o text a n h = rw h refl
  only (q ∷ ps) o text a n h =
      let later : 0 < o + size (spelling q) = omega (arith, sized q h.0 o h.2) in
      let plain : (begins_with 65279 (spelling q) && o == 0) ≡ false = ap (λ b. b && o == 0) (sym (fronted 65279 q h.0 o h.2) ∙ ap (begins_with 65279) (sym h.1)) ∙ n in
      ap (run add (between, a)) h.1 ∙ one add q h.0 o a plain h.2
      ∙ only ps (o + size (spelling q)) h.0 (add q a) (past_zero (begins_with 65279 h.0) (o + size (spelling q)) later) h.3

  behind_mark : (q : Piece) (ps : List Piece) (rest : List ℕ) (a : A) (c : ℕ) → q ≡ space c → (c == 65279) ≡ true → Stands 0 q rest → AreIn (0 + size (spelling q)) rest ps
      → run add (start, a) (spelling q ++ rest) ≡ folded add (add q a) ps
  behind_mark q ps rest a c e m s h =
      ap (λ p. run add (start, a) (spelling p ++ rest)) e ∙ marked_start add c rest a m ∙ ap (λ p. run add (between, add p a) rest) (sym e)
      ∙ only ps (0 + size (spelling q)) rest (add q a) (past_zero (begins_with 65279 rest) (0 + size (spelling q)) (omega (arith, sized q rest 0 s))) h

  pub whole : (ps : List Piece) (text : List ℕ) (a : A) → AreIn 0 text ps → run add (start, a) text ≡ folded add a ps
  whole ps text a h = elim (cases_Bool (begins_with 65279 text)) [
    | inl m ↦ marked ps text a h m
    | inr n ↦ plain_start add text a n ∙ only ps 0 text a (ap (λ b. b && 0 == 0) n) h
  ]
    where
      marked : (ps : List Piece) (text : List ℕ) (a : A) → AreIn 0 text ps → begins_with 65279 text ≡ true → run add (start, a) text ≡ folded add a ps
      marked [] text a h m = absurd (false≢true (ap (begins_with 65279) (sym h) ∙ m))
      marked (q ∷ ps) text a h m = grind (arith, common_steps, fronted 65279 q h.0 0 h.2, behind_mark q ps h.0 a)

-- ---- a text has one list of pieces
abbrev behind_all : Piece → List Piece → List Piece
behind_all p ps = ps ++ p ∷ []

all_behind : (ps so_far : List Piece) → folded behind_all so_far ps ≡ so_far ++ ps
all_behind [] so_far = sym (append-nil so_far)
all_behind (p ∷ ps) so_far = all_behind ps (so_far ++ p ∷ []) ∙ append_assoc so_far (p ∷ []) ps

pub one_division : (text : List ℕ) (ps qs : List Piece) → AreIn 0 text ps → AreIn 0 text qs → ps ≡ qs
one_division text ps qs h k = sym (all_behind ps []) ∙ sym (whole behind_all ps text [] h) ∙ whole behind_all qs text [] k ∙ all_behind qs []

-- ---- those that stay
placed_on : (ps : List Piece) (a : Placing) → (folded with_piece a ps).done ≡ a.done ++ all_placed a.breaks a.spaces ps
placed_on [] a = sym (append-nil a.done)
placed_on (p ∷ ps) a = grind (arith, common_steps, placed_on ps, append_assoc)

pub placed_text : (text : List ℕ) (ps : List Piece) → AreIn 0 text ps → (run with_piece (start, nothing_placed) text).done ≡ all_placed 0 0 ps
placed_text text ps h = ap (λ (a : Placing). a.done) (whole with_piece ps text nothing_placed h) ∙ placed_on ps nothing_placed
