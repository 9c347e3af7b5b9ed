-- What variables are bound to is read back.
use Rattle.std.proofs.Common.{◌≡◌, ◌<◌, ◌≤◌, ◌∷◌, [], ℕ, zero, suc, Bool, true, List, length, Some, None, refl, ap, arith}
use Rattle.std.proofs.lemmas.Grind.{common_steps}
use Rattle.model.specs.rules.Outcome.{then_option}
use Rattle.model_code.specs.Code.{Place, Pass, PlaceUse, Expr, truth_written, read, extraction, call, variant_of, struct_of, some_of}
use Rattle.model_code.specs.Tokens.{opening, closing, ctx_word, ampersand, Owner, Token}
use Rattle.model_code.specs.Notation.{Notation, Callee, extractor_of, constructor_of}
use Rattle.model_code.specs.Pieces.{CodePiece, tokens_of, put, put_all, put_if, end_line, passed_before, args_before, called_before, comma_before, named_values, unnamed_values, expr_before}
use Rattle.model_code.specs.Shown.{shown_uses, shown_expr}
use Rattle.model_code.specs.Reading.{TokenReading, then_read, where_found, expect, unless_mut, next_arg, read_args, read_call, skip_comma, read_named_values, read_unnamed_values, read_use, read_expr}
use Rattle.model_code.specs.ReadsBack.{expr_writable, expr_size}
use Rattle.model_code.proofs.Uses.{follows, after_use, that_field}

-- 1. what is handed to a function
no_mut : (p : Notation) (place : Place) (pass : Pass) (rest : List CodePiece) → unless_mut (tokens_of (passed_before p place pass rest)) ≡ Some (tokens_of (passed_before p place pass rest))
no_mut p place pass rest = grind (arith, common_steps)

args_follow : (p : Notation) (us : List PlaceUse) (rest : List CodePiece) → follows (tokens_of rest) ≡ true → follows (tokens_of (args_before p us rest)) ≡ true
args_follow p [] rest h = h
args_follow p (u ∷ us) rest h = refl

abbrev with_args : ℕ → PlaceUse → List Token → TokenReading (List PlaceUse)
with_args n u behind = then_read (read_args n behind) (λ us end. Some (u ∷ us, end))

args_back : (p : Notation) (n : ℕ) (us : List PlaceUse) (rest : List CodePiece) → length us < n → next_arg (tokens_of rest) ≡ None → follows (tokens_of rest) ≡ true
    → read_args n (tokens_of (args_before p us rest)) ≡ Some (shown_uses p us, tokens_of rest)
args_back p zero us rest h e f = absurd (omega arith)
args_back p (suc n) [] rest h e f = ap (λ r. where_found r (λ tokens. then_read (read_use tokens) (with_args n)) (λ end. Some ([], end)) (tokens_of rest)) e
args_back p (suc n) (u ∷ us) rest h e f = grind (arith, common_steps, args_back p n us rest, no_mut, after_use, args_follow)

pub call_back : (p : Notation) (n : ℕ) (f : Callee) (us : List PlaceUse) (rest : List CodePiece) → length us < n → next_arg (tokens_of rest) ≡ None → follows (tokens_of rest) ≡ true
    → read_call n (p.function f) (tokens_of (put_all (opening ∷ ctx_word ∷ []) (args_before p us rest))) ≡ Some (call (p.function f) (shown_uses p us) 0, tokens_of rest)
call_back p n f us rest h e k = ap (λ r. then_read r (λ xs behind. Some (call (p.function f) xs 0, behind))) (args_back p n us rest h e k)

answer_at : (composed : Bool) (p : Notation) (n : ℕ) (f : Callee) (us : List PlaceUse) (rest : List CodePiece) → length us < n
    → read_expr p n (tokens_of (put_if composed ampersand (called_before p f us (put closing rest)))) ≡ Some (call (p.function f) (shown_uses p us) 0, tokens_of rest)
answer_at composed p n f us rest h = grind (arith, common_steps, call_back)

-- 2. fields of what is made
pub comma_skipped : (i : ℕ) (rest : List CodePiece) → skip_comma i (tokens_of (comma_before i rest)) ≡ Some (tokens_of rest)
comma_skipped i rest = grind (arith, common_steps)

named_follow : (p : Notation) (o : Owner) (i : ℕ) (us : List PlaceUse) (rest : List CodePiece) → follows (tokens_of (named_values p o (suc i) us rest)) ≡ true
named_follow p o i [] rest = refl
named_follow p o i (u ∷ us) rest = refl

unnamed_follow : (p : Notation) (i : ℕ) (us : List PlaceUse) (rest : List CodePiece) → follows (tokens_of (unnamed_values p (suc i) us rest)) ≡ true
unnamed_follow p i [] rest = refl
unnamed_follow p i (u ∷ us) rest = refl

named_back : (p : Notation) (o : Owner) (i : ℕ) (us : List PlaceUse) (rest : List CodePiece) → read_named_values o i (length us) (tokens_of (named_values p o i us rest)) ≡ Some (shown_uses p us, tokens_of rest)
named_back p o i [] rest = refl
named_back p o i (u ∷ us) rest = grind (arith, common_steps, named_back p o (suc i) us rest, that_field, after_use, named_follow)

unnamed_back : (p : Notation) (i : ℕ) (us : List PlaceUse) (rest : List CodePiece) → read_unnamed_values i (length us) (tokens_of (unnamed_values p i us rest)) ≡ Some (shown_uses p us, tokens_of rest)
unnamed_back p i [] rest = refl
unnamed_back p i (u ∷ us) rest = grind (arith, common_steps, unnamed_back p (suc i) us rest, comma_skipped, after_use, unnamed_follow)

-- 3. what stands before the end of a line
pub expr_back : (p : Notation) (n : ℕ) (e : Expr) (rest : List CodePiece) → expr_size e ≤ n → expr_writable p e ≡ true
    → read_expr p n (tokens_of (expr_before p e (end_line rest))) ≡ Some (shown_expr p e, tokens_of (end_line rest))
expr_back p n (truth_written b ty) rest h w = grind arith
expr_back p n (read u) rest h w = grind (arith, after_use)
expr_back p n (extraction term u) rest h w = answer_at (p.gives_composed (extractor_of term)) p n (extractor_of term) (u ∷ []) (end_line rest) h
expr_back p n (call term us instance) rest h w = answer_at (p.gives_composed (constructor_of term)) p n (constructor_of term) us (end_line rest) h
expr_back p n (variant_of ty variant us) rest h w = grind (arith, named_back, unnamed_back)
expr_back p n (struct_of ty us) rest h w = grind (arith, named_back, unnamed_back)
expr_back p n (some_of u) rest h w = after_use p u (put closing (end_line rest)) (λ x behind. then_option (expect closing behind) (λ end. Some (some_of x, end))) refl
