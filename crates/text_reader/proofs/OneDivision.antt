-- A text has one list of pieces.
use Rattle.std.proofs.Common.{◌≡◌, ℕ, zero, suc, ◌+◌, ◌≤◌, Bool, true, not, ◌==◌, List, [], ◌∷◌, ◌++◌, drop, length, refl, sym, ap, ◌∙◌, subst, arith, length-append}
use Rattle.std.specs.Prelude.{if◌then◌else◌}
use Rattle.std.specs.List.{list_all, take_while}
use Rattle.std.proofs.lemmas.Bool.{and_parts}
use Rattle.std.proofs.lemmas.Bool.Decides.{nat_tests}
use Rattle.std.proofs.lemmas.List.Sums.{take_while-cons}
use Rattle.std.proofs.Math.Seq.{drop-append_seam, take-append_seam}
use Rattle.std.proofs.lemmas.Grind.{common_steps}
use Rattle.text_reader.specs.Pieces.{Piece, space, name, spelling, size, is_in_word, is_space, begins_word, ends_word, ends_line, Stands, AreIn, first_piece, pieces_from, pieces_of}
use Rattle.text_reader.proofs.Dividing.{Stops}

taken : (test : ℕ → Bool) (front rest : List ℕ) → list_all test front ≡ true → Stops test rest → take_while test (front ++ rest) ≡ front
taken test [] [] a s = refl
taken test [] (c ∷ cs) a s = take_while-cons test c cs ∙ ap (λ b. if b then c ∷ take_while test cs else []) s
taken test (c ∷ front) rest a s = grind (arith, common_steps, taken test front rest, and_parts, take_while-cons)

word_stops : (cs : List ℕ) → ends_word cs ≡ true → Stops is_in_word cs
word_stops cs e = grind (arith, common_steps)

line_stops : (cs : List ℕ) → ends_line cs ≡ true → Stops (λ c. not (c == 10)) cs
line_stops cs e = grind (arith, common_steps)

-- a text's first piece is this one
abbrev First : ℕ → List ℕ → Piece → Type 0
First o [] q = ⊥
First o (c ∷ cs) q = first_piece o c cs ≡ q

first_space : (o c : ℕ) (rest : List ℕ) → is_space o c ≡ true → first_piece o c rest ≡ space c
first_space o c rest s = grind (arith, common_steps, nat_tests)

first_name : (o c : ℕ) (cs : List ℕ) → begins_word o c ≡ true → first_piece o c cs ≡ name (c ∷ take_while is_in_word cs)
first_name o c cs s = grind (arith, common_steps, nat_tests)

first_here : (q : Piece) (rest : List ℕ) (o : ℕ) → Stands o q rest → First o (spelling q ++ rest) q
first_here q rest o s = grind (arith, common_steps, first_space, taken, line_stops, take-append_seam, and_parts, first_name, word_stops)

some : (q : Piece) (rest : List ℕ) (o : ℕ) → Stands o q rest → 1 ≤ length (spelling q)
some q rest o s = grind (arith, common_steps)

divided_so : (most o : ℕ) (text : List ℕ) (ps : List Piece) → length text ≤ most → AreIn o text ps → pieces_from most o text ≡ ps
divided_so most o text [] h a = ap (pieces_from most o) a
divided_so most o [] (q ∷ ps) h a = absurd (subst (λ t. First o t q) (sym a.1) (first_here q a.0 o a.2))
divided_so zero o (c ∷ cs) (q ∷ ps) h a = absurd (omega (arith, h))
divided_so (suc most) o (c ∷ cs) (q ∷ ps) h a =
    let rest = a.0 in
    let after = o + size (spelling q) in
    let first : first_piece o c cs ≡ q = subst (λ t. First o t q) (sym a.1) (first_here q rest o a.2) in
    ap (λ p. p ∷ pieces_from most (o + size (spelling p)) (drop (length (spelling p)) (c ∷ cs))) first
    ∙ ap (λ r. q ∷ pieces_from most after r) (ap (drop (length (spelling q))) a.1 ∙ drop-append_seam (spelling q) rest)
    ∙ ap (λ x. q ∷ x) (divided_so most after rest ps (omega (arith, h, some q rest o a.2, ap length a.1, length-append (spelling q) rest)) a.3)

pub one_division : (text : List ℕ) (ps : List Piece) → AreIn 0 text ps → ps ≡ pieces_of text
one_division text ps are = sym (divided_so (length text) 0 text ps (omega arith) are)
