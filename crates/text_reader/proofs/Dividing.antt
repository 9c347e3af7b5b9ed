-- Each text has pieces: the longest that it begins with, and so on.
use Rattle.std.proofs.Common.{◌≡◌, ℕ, zero, suc, ◌+◌, ◌-◌, ◌≤◌, Bool, true, false, not, ◌==◌, List, [], ◌∷◌, ◌++◌, take, drop, length, refl, ap, inl, inr, arith, append_assoc, append-nil, length-append, encode_utf8, encode_utf8_all}
use Rattle.std.specs.Prelude.{⊤, Result, Ok, Err, IfOk}
use Rattle.std.specs.List.{list_all, take_while}
use Rattle.std.proofs.lemmas.Bool.{cases_Bool, eqb-true, not-false, true≢false}
use Rattle.std.proofs.lemmas.List.{length-drop}
use Rattle.std.proofs.lemmas.List.Sums.{take_while-cons}
use Rattle.std.proofs.Math.Seq.{drop-length, drop-append_seam, take-append_seam}
use Rattle.std.proofs.lemmas.Grind.{common_steps}
use Rattle.model.specs.lists.Syntax.{Position, Name}
use Rattle.text_reader.specs.declared.errors.Mistake.{Mistake}
use Rattle.text_reader.specs.Lexemes.{Wrong, ◌>>=◌}
use Rattle.text_reader.specs.Pieces.{Piece, line, block, name, spelling, size, is_in_word, begins_word, after_comment, ends_word, ends_line, is_constant, Stands, AreIn, comment_of, left_of, sign_of, first_piece, pieces_from, pieces_of}

abbrev pub at : ℕ → ℕ → Position
at file offset = record { file = file; offset = offset }

abbrev pub width : ℕ → ℕ
width c = length (encode_utf8 c)

-- one call after another, in either grouping
pub bind_twice : {A B C : Type 0} (r : Result A Wrong) (f : A → Result B Wrong) (g : B → Result C Wrong) → (r >>= f) >>= g ≡ r >>= (λ x. f x >>= g)
bind_twice r f g = grind (arith, common_steps)

pub bind_same : {A B : Type 0} (r : Result A Wrong) (f g : A → Result B Wrong) → ((x : A) → f x ≡ g x) → r >>= f ≡ r >>= g
bind_same r f g h = grind (arith, common_steps)

-- how many bytes characters take
pub size_one : (c : ℕ) → size (c ∷ []) ≡ width c
size_one c = ap length (append-nil (encode_utf8 c))

pub size_more : (c : ℕ) (cs : List ℕ) → size (c ∷ cs) ≡ width c + size cs
size_more c cs = length-append (encode_utf8 c) (encode_utf8_all cs)

-- an offset past one character and then past others is one past all of them
pub past : (o c : ℕ) (cs : List ℕ) → (o + width c) + size cs ≡ o + size (c ∷ cs)
past o c cs = omega (arith, size_more c cs)

pub past_one : (o c : ℕ) → o + width c ≡ o + size (c ∷ [])
past_one o c = omega (arith, size_one c)

-- a name with one more character and then others
pub grown_name : (n : Name) (c : ℕ) (cs : List ℕ) → (let one : Name = record n { text = (n.text ++ encode_utf8 c) ++ encode_utf8_all cs } in let all : Name = record n { text = n.text ++ encode_utf8_all (c ∷ cs) } in one ≡ all)
grown_name n c cs = ap (λ t. record n { text = t }) (append_assoc n.text (encode_utf8 c) (encode_utf8_all cs))

-- ---- the first characters that pass a test

abbrev pub Stops : (ℕ → Bool) → List ℕ → Type 0
Stops test [] = ⊤
Stops test (c ∷ cs) = test c ≡ false

-- they and the others are all; they pass, and the next does not
abbrev IsCut : (ℕ → Bool) → List ℕ → List ℕ → Type 0
IsCut test front all = (all ≡ front ++ drop (length front) all) × (list_all test front ≡ true) × Stops test (drop (length front) all)

cut_at : (test : ℕ → Bool) (cs : List ℕ) → IsCut test (take_while test cs) cs
cut_at test [] = (refl, refl, tt)
cut_at test (c ∷ cs) = grind (arith, common_steps, cut_at test cs, take_while-cons)

word_ends : (cs : List ℕ) → Stops is_in_word cs → ends_word cs ≡ true
word_ends cs s = grind (arith, common_steps)

line_ends : (cs : List ℕ) → Stops (λ c. not (c == 10)) cs → ends_line cs ≡ true
line_ends cs s = grind (arith, common_steps)

-- ---- what follows a comment

abbrev IsAfter : List ℕ → Result (List ℕ) Mistake → Type 0
IsAfter cs r = IfOk r (λ rest. (more : List ℕ) × (cs ≡ more ++ rest))

one_before : (c : ℕ) (cs : List ℕ) (r : Result (List ℕ) Mistake) → IsAfter cs r → IsAfter (c ∷ cs) r
one_before c cs (Ok rest) h = (c ∷ h.0, ap (λ x. c ∷ x) h.1)
one_before c cs (Err m) h = tt

after : (depth last : ℕ) (cs : List ℕ) → IsAfter cs (after_comment depth last cs)
after depth last [] = tt
after depth last (c ∷ cs) = grind (arith, common_steps, after (depth + 1) 32 cs, after (depth - 1) 32 cs, after depth c cs, one_before)

-- ---- the first piece

-- a text begins with a piece, which may stand there before the rest
abbrev Begins : ℕ → Piece → List ℕ → Type 0
Begins o p text = (text ≡ spelling p ++ drop (length (spelling p)) text) × Stands o p (drop (length (spelling p)) text) × (1 ≤ length (spelling p))

comment_begins : (o : ℕ) (more rest : List ℕ) → after_comment 1 32 (more ++ rest) ≡ Ok rest
    → Begins o (block (take (length (more ++ rest) - length rest) (more ++ rest))) (40 ∷ 59 ∷ (more ++ rest))
comment_begins o more rest e = grind (arith, common_steps, drop-append_seam, take-append_seam)

comment_first : (o : ℕ) (cs : List ℕ) (r : Result (List ℕ) Mistake) → after_comment 1 32 cs ≡ r → IsAfter cs r → Begins o (comment_of cs r) (40 ∷ 59 ∷ cs)
comment_first o cs r e h = grind (arith, common_steps, comment_begins, drop-length)

left_first : (o : ℕ) (cs : List ℕ) → Begins o (left_of cs) (40 ∷ cs)
left_first o cs = grind (arith, common_steps, eqb-true, comment_first, after)

sign_first : (o : ℕ) (cs : List ℕ) → Begins o (sign_of cs) (36 ∷ cs)
sign_first o cs = elim (cases_Bool (ends_word cs)) [
  | inl e ↦ rw e (refl, e, omega arith)
  | inr e ↦ rw e (let h = cut_at is_in_word cs in
      (ap (λ x. 36 ∷ x) h.0, (constant_there cs e, word_ends _ h.2), omega arith))
]
  where
    constant_there : (cs : List ℕ) → ends_word cs ≡ false → is_constant (take_while is_in_word cs) ≡ true
    constant_there [] e = absurd (true≢false e)
    constant_there (c ∷ cs) e = grind (arith, common_steps, not-false (is_in_word c) e, cut_at is_in_word cs, take_while-cons is_in_word c cs)

line_first : (o : ℕ) (cs : List ℕ) → Begins o (line (take_while (λ d. not (d == 10)) cs)) (59 ∷ cs)
line_first o cs = let h = cut_at (λ d. not (d == 10)) cs in (ap (λ x. 59 ∷ x) h.0, (h.1, line_ends _ h.2), omega arith)

name_first : (o c : ℕ) (cs : List ℕ) → begins_word o c ≡ true → Begins o (name (c ∷ take_while is_in_word cs)) (c ∷ cs)
name_first o c cs b = let h = cut_at is_in_word cs in (ap (λ x. c ∷ x) h.0, (rw b h.1, word_ends _ h.2), omega arith)

first_begins : (o c : ℕ) (cs : List ℕ) → Begins o (first_piece o c cs) (c ∷ cs)
first_begins o c cs = grind (arith, common_steps, left_first o cs, line_first o cs, sign_first o cs, name_first o c cs, eqb-true c)

pub divided_from : (most o : ℕ) (text : List ℕ) → length text ≤ most → AreIn o text (pieces_from most o text)
divided_from most o [] h = refl
divided_from zero o (c ∷ cs) h = absurd (omega (arith, h))
divided_from (suc most) o (c ∷ cs) h =
    let p = first_piece o c cs in let b = first_begins o c cs in
    let rest = drop (length (spelling p)) (c ∷ cs) in
    (rest, b.0, b.1, divided_from most (o + size (spelling p)) rest (omega (arith, h, b.2, length-drop (length (spelling p)) (c ∷ cs))))

-- each text has these pieces
pub divided : (text : List ℕ) → AreIn 0 text (pieces_of text)
divided text = divided_from (length text) 0 text (omega arith)
