-- Parts that are written, one after another.
use Rattle.std.proofs.Common.{◌≡◌, ℕ, zero, suc, Bool, ◌==◌, List, [], ◌∷◌, ◌++◌, length, refl, sym, ap, ◌∙◌, arith}
use Rattle.std.specs.Prelude.{reverse, replicate, drop, take, slice_get, Some, ◌-◌}
use Rattle.std.proofs.lemmas.List.{append_assoc, reverse-append, reverse-reverse, length-append, length-reverse}
use Rattle.std.proofs.lemmas.Grind.{common_steps}
use Rattle.text_reader.specs.Pieces.{Piece, space, spelling}
use Rattle.text_writer.specs.declared.gaps.Gap.TheVariants.{Breaks}
use Rattle.text_writer.specs.declared.lists.Indentation.{Indentation}
use Rattle.text_writer.specs.declared.lists.OpenList.{OpenList}
use Rattle.text_writer.specs.declared.lists.LineColumn.{LineColumn}
use Rattle.text_writer.specs.Pages.{text_of, noted, with_part, kind_of, indent, list_indent, white}

pub text_joined : (ps qs : List Piece) → text_of (ps ++ qs) ≡ text_of ps ++ text_of qs
text_joined [] qs = refl
text_joined (p ∷ ps) qs = ap (λ x. spelling p ++ x) (text_joined ps qs) ∙ sym (append_assoc (spelling p) (text_of ps) (text_of qs))

pub text_of_times : (n c : ℕ) → text_of (replicate n (space c)) ≡ replicate n c
text_of_times zero c = refl
text_of_times (suc n) c = ap (λ x. c ∷ x) (text_of_times n c)

-- a gap is written
pub gap_written : (old broken new : List ℕ) (n column : ℕ) → broken ≡ old ++ replicate n 10 → new ≡ broken ++ replicate column 32 → new ≡ old ++ text_of (white column (Breaks n))
gap_written old broken new n column e f = grind (arith, common_steps, append_assoc, text_joined, text_of_times)

-- the innermost list is the last
pub innermost : (xs ys : List OpenList) (o : OpenList) → xs ≡ ys ++ o ∷ [] → reverse xs ≡ o ∷ reverse ys
innermost xs ys o e = ap reverse e ∙ reverse-append ys (o ∷ [])

-- the innermost list with one more part
pub noted_list : (p : Piece) (at : LineColumn) (old popped new : List OpenList) (o n : OpenList) (b : Bool) → old ≡ popped ++ o ∷ [] → new ≡ popped ++ n ∷ []
    → n ≡ with_part o (kind_of b p) at → b ≡ (length popped == 0) → reverse new ≡ noted p at (reverse old)
noted_list p at old popped new o n b e f g h = grind (arith, common_steps, innermost, length-reverse)

last_of_all : (os : List OpenList) (o x : OpenList) → slice_get (os ++ o ∷ []) (length os) ≡ Some x → o ≡ x
last_of_all [] o x e = cc e
last_of_all (q ∷ os) o x e = last_of_all os o x e

last_turned : (i : Indentation) (rs : List OpenList) (o : OpenList) (p : Piece) → Some o ≡ slice_get (reverse rs) (length (reverse rs) - 1) → list_indent i o p ≡ indent i rs p
last_turned i [] o p e = absurd (cc e)
last_turned i (r ∷ rs) o p e =
    let f = reverse-append (r ∷ []) rs in
    let n : length (reverse rs ++ r ∷ []) - 1 ≡ length (reverse rs) = omega (arith, length-append (reverse rs) (r ∷ [])) in
    ap (λ x. list_indent i x p) (sym (last_of_all (reverse rs) r o (ap (slice_get (reverse rs ++ r ∷ [])) (sym n) ∙ ap (λ xs. slice_get xs (length xs - 1)) (sym f) ∙ sym e)))

-- the innermost list is the last
pub last_indent : (i : Indentation) (xs os : List OpenList) (o : OpenList) (p : Piece) → xs ≡ os → Some o ≡ slice_get xs (length xs - 1) → list_indent i o p ≡ indent i (reverse os) p
last_indent i xs os o p e h = last_turned i (reverse os) o p (h ∙ ap (λ ys. slice_get ys (length ys - 1)) (e ∙ sym (reverse-reverse os)))

-- without the innermost list
pub list_ended : (xs ys : List OpenList) (n : ℕ) → n ≡ length xs → ys ≡ take (n - 1) xs → reverse ys ≡ drop 1 (reverse xs)
list_ended xs ys n e f = grind (arith, common_steps, reverse-reverse xs)
