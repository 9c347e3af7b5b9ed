-- Which mistakes are never told: tokens and lists have no list without end before a text's end, and numbers no comment.
use Rattle.std.proofs.Common.{◌≡◌, ℕ, ℤ, ◌+◌, Bool, true, false, ◌==◌, List, [], ◌∷◌, drop, arith}
use Rattle.std.specs.Prelude.{slice_index, ◌⊎◌, ⊤, Result, Ok, Err, Option, if◌then◌else◌}
use Rattle.std.proofs.lemmas.Grind.{common_steps}
use Rattle.model.specs.lists.Syntax.{Position, Name}
use Rattle.text_reader.specs.declared.errors.Mistake.{Mistake}
use Rattle.text_reader.specs.declared.errors.Mistake.TheVariants.{CommentEnd}
use Rattle.text_reader.specs.Lexemes.{Lexeme, Complaint, expected, unclosed, unknown, Wrong, ◌>>=◌, at_place, begins_number, word_token, last_bound, or_mistake}
use Rattle.text_reader.specs.Numbers.{number_of, radix_of, sized, unsigned_number, are_digits}
use Rattle.text_reader.specs.Pieces.{Piece, bind, name, endless, alone, spelling, size}
use Rattle.text_reader.specs.Lexing.{Tokens, added, tokens_after}
use Rattle.text_reader.specs.FormTrees.{FormTrees}
use Rattle.text_reader.specs.Forming.{Begun, formed, whole, forms_from}
use Rattle.text_reader.proofs.Dividing.{at}

abbrev pub told : {A : Type 0} → Result A Wrong → Wrong → Wrong
told (Ok x) other = other
told (Err w) other = w

-- where two steps give something, both do
pub both_give : {A B : Type 0} (r : Result A Wrong) (f : A → Result B Wrong) (y : B) → r >>= f ≡ Ok y → (x : A) × (r ≡ Ok x) × (f x ≡ Ok y)
both_give r f y e = grind (arith, common_steps)

-- the mistake of two steps is that of one of them
pub one_fails : {A B : Type 0} (r : Result A Wrong) (f : A → Result B Wrong) (w : Wrong) → r >>= f ≡ Err w → (r ≡ Err w) ⊎ ((x : A) × (r ≡ Ok x) × (f x ≡ Err w))
one_fails r f w e = grind (arith, common_steps)

-- ---- which mistakes are never told

abbrev pub Never : {A : Type 0} → (Complaint → Type 0) → Result A Wrong → Type 0
Never bad (Ok x) = ⊤
Never bad (Err w) = bad w.0 → ⊥

pub never : {A : Type 0} (bad : Complaint → Type 0) (r : Result A Wrong) (w : Wrong) → Never bad r → bad w.0 → r ≡ Err w → ⊥
never bad r w h b e = grind (arith, common_steps)

pub never_next : {A B : Type 0} (bad : Complaint → Type 0) (r : Result A Wrong) (f : A → Result B Wrong) → Never bad r → ((x : A) → Never bad (f x)) → Never bad (r >>= f)
never_next bad r f h k = grind (arith, common_steps)

pub never_if : {A : Type 0} (bad : Complaint → Type 0) (b : Bool) (x y : Result A Wrong) → Never bad x → Never bad y → Never bad (if b then x else y)
never_if bad b x y h k = grind (arith, common_steps)

-- no mistake of a number is one of these
abbrev pub IsFine : Result ℤ Mistake → Type 0
IsFine (Ok z) = ⊤
IsFine (Err m) = m ≡ CommentEnd → ⊥

pub fine_if : (b : Bool) (x y : Result ℤ Mistake) → IsFine x → IsFine y → IsFine (if b then x else y)
fine_if b x y h k = grind (arith, common_steps)

pub fine_sized : (is_negative : Bool) (n : ℕ) → IsFine (sized is_negative n)
fine_sized is_negative n = grind (arith, common_steps, fine_if)

pub fine_unsigned : (is_negative : Bool) (d : ℕ × List ℕ) → IsFine (unsigned_number is_negative d)
fine_unsigned is_negative d = fine_if (are_digits d.0 d.1) _ _ (fine_sized is_negative _) (λ e. cc e)

pub fine_number : (w : List ℕ) → IsFine (number_of w)
unfolding number_of
fine_number w = fine_if (slice_index w 0 == 45) _ _ (fine_unsigned true (radix_of (drop 1 w))) (fine_unsigned false (radix_of w))

-- an end that is missing: a list's or a comment's
abbrev pub IsMissingEnd : Complaint → Type 0
IsMissingEnd (expected m) = m ≡ CommentEnd
IsMissingEnd (unclosed p) = ⊤
IsMissingEnd (unknown w) = ⊥

pub never_at : (p : Position) (r : Result ℤ Mistake) → IsFine r → Never IsMissingEnd (at_place p r)
never_at p r h = grind (arith, common_steps)

pub never_word : (n : Name) → Never IsMissingEnd (word_token n)
unfolding word_token
never_word n =
    never_if IsMissingEnd (begins_number n.text) _ _ (never_next IsMissingEnd (at_place n.at (number_of n.text)) _ (never_at n.at (number_of n.text) (fine_number n.text)) (λ z. tt))
    (never_if IsMissingEnd (slice_index n.text 0 == 45) _ _ tt tt)

pub never_bound : (p : Position) (r : Option Tokens) → Never IsMissingEnd (or_mistake p r)
never_bound p r = grind (arith, common_steps)

-- tokens never have a list without end
abbrev pub IsUnclosed : Complaint → Type 0
IsUnclosed (expected m) = ⊥
IsUnclosed (unclosed p) = ⊤
IsUnclosed (unknown w) = ⊥

pub closed_at : {A : Type 0} (p : Position) (r : Result A Mistake) → Never IsUnclosed (at_place p r)
closed_at p r = grind (arith, common_steps)

pub closed_word : (n : Name) → Never IsUnclosed (word_token n)
unfolding word_token
closed_word n =
    never_if IsUnclosed (begins_number n.text) _ _ (never_next IsUnclosed (at_place n.at (number_of n.text)) _ (closed_at n.at (number_of n.text)) (λ z. tt))
    (never_if IsUnclosed (slice_index n.text 0 == 45) _ _ tt tt)

pub closed_bound : (p : Position) (r : Option Tokens) → Never IsUnclosed (or_mistake p r)
closed_bound p r = grind (arith, common_steps)

pub closed_added : (p : Piece) (place : Position) (done : Tokens) → Never IsUnclosed (added p place done)
closed_added bind place done = closed_bound place (last_bound done)
closed_added (name cs) place done = never_next IsUnclosed (word_token _) _ (closed_word _) (λ t. tt)
closed_added (endless cs) place done = λ b. b
closed_added alone place done = λ b. b
closed_added _ place done = tt

pub closed_tokens : (file offset : ℕ) (ps : List Piece) (done : Tokens) → Never IsUnclosed (tokens_after file offset ps done)
closed_tokens file offset [] done = tt
closed_tokens file offset (p ∷ ps) done = grind (arith, common_steps, closed_tokens file (offset + size (spelling p)) ps, never_next, at, closed_added)

-- nor does a token of a list show one
pub closed_formed : (t : Lexeme) (fs : FormTrees) (os : List Begun) → Never IsUnclosed (formed t fs os)
closed_formed t fs os = grind (arith, common_steps, never_if)

-- lists never have a comment without end
abbrev pub IsUnendedComment : Complaint → Type 0
IsUnendedComment (expected m) = m ≡ CommentEnd
IsUnendedComment (unclosed p) = ⊥
IsUnendedComment (unknown w) = ⊥

other_formed : (t : Lexeme) (fs : FormTrees) (os : List Begun) → Never IsUnendedComment (formed t fs os)
other_formed t fs os = grind (arith, common_steps, never_if)

other_whole : (file end : ℕ) (fs : FormTrees) (os : List Begun) → Never IsUnendedComment (whole file end fs os)
other_whole file end fs os = grind (arith, common_steps)

pub other_forms : (file end : ℕ) (ts : Tokens) (fs : FormTrees) (os : List Begun) → Never IsUnendedComment (forms_from file end ts fs os)
other_forms file end [] fs os = other_whole file end fs os
other_forms file end (t ∷ ts) fs os = never_next IsUnendedComment (formed t fs os) _ (other_formed t fs os) (λ s. other_forms file end ts s.0 s.1)
