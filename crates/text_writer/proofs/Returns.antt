-- Comments lose the carriage returns at their end.
use Rattle.std.proofs.Common.{◌≡◌, ℕ, true, false, ◌==◌, not, List, [], ◌∷◌, ◌++◌, refl, sym, ap, ◌∙◌, arith, chars}
use Rattle.std.specs.List.{list_all}
use Rattle.std.proofs.Common.{String}
use Rattle.std.specs.Prelude.{string_bytes, string_len, ◌≤◌}
use Rattle.std.proofs.lemmas.Bool.{and_parts, eqb-true}
use Rattle.std.proofs.lemmas.List.{nil_from_length}
use Rattle.std.proofs.lemmas.Str.{chars-nil}
use Rattle.std.proofs.lemmas.Grind.{common_steps}
use Rattle.text_writer.specs.Placing.{before_kept, without_returns, kept}
use Rattle.text_reader.specs.Pieces.{Piece}

pub dropped : (cs : List ℕ) → without_returns (cs ++ 13 ∷ []) ≡ without_returns cs
dropped [] = refl
dropped (c ∷ cs) = ap (before_kept c) (dropped cs)

pub stays : (cs : List ℕ) (d : ℕ) → (d == 13) ≡ false → without_returns (cs ++ d ∷ []) ≡ cs ++ d ∷ []
stays [] d e = rw e refl
stays (c ∷ cs) d e = ap (before_kept c) (stays cs d e) ∙ (grind (arith, common_steps))

pub returns_once : (cs : List ℕ) → without_returns (without_returns cs) ≡ without_returns cs
returns_once [] = refl
returns_once (c ∷ cs) = grind (arith, common_steps, returns_once cs)

pub kept_once : (p : Piece) → kept (kept p) ≡ kept p
kept_once p = grind (arith, common_steps, returns_once)

pub on_one_line : (cs : List ℕ) → list_all (λ d. not (d == 10)) cs ≡ true → list_all (λ d. not (d == 10)) (without_returns cs) ≡ true
on_one_line [] a = refl
on_one_line (c ∷ cs) a = grind (arith, common_steps, on_one_line cs, and_parts)

-- the last character is taken away
pub other_kept : (popped before made whole : List ℕ) (c : ℕ) → (c ≡ 13 → ⊥) → made ≡ popped ++ c ∷ [] → before ≡ popped ++ c ∷ [] → without_returns before ≡ whole → made ≡ whole
other_kept popped before made whole c n e f w = grind (arith, common_steps, stays, eqb-true)

pub return_dropped : (popped before whole : List ℕ) (c : ℕ) → c ≡ 13 → before ≡ popped ++ c ∷ [] → without_returns before ≡ whole → without_returns popped ≡ whole
return_dropped popped before whole c r f w = sym (dropped popped) ∙ ap (λ d. without_returns (popped ++ d ∷ [])) (sym r) ∙ ap without_returns (sym f) ∙ w

pub nothing_left : {Z : Type 0} (s t : String Z) (whole : List ℕ) → string_len s ≡ 0 → string_len t ≤ string_len s → without_returns (chars (string_bytes s)) ≡ whole → chars (string_bytes t) ≡ whole
nothing_left s t whole e l w = grind (arith, common_steps, nil_from_length, chars-nil)
