-- Places and uses are read back, where what follows is no part of them.
use Rattle.std.proofs.Common.{◌≡◌, ◌&&◌, ◌==◌, ◌∷◌, ℕ, Bool, true, false, List, Some, arith}
use Rattle.std.proofs.lemmas.Bool.{and_parts, and_from}
use Rattle.std.proofs.lemmas.Grind.{common_steps}
use Rattle.model.proofs.SameSites.{number_same}
use Rattle.model_code.specs.Code.{PlaceUse}
use Rattle.model_code.specs.Tokens.{dot, colon, Owner, Token, word, part_name, field_name, variable_name}
use Rattle.model_code.specs.Notation.{Notation}
use Rattle.model_code.specs.Pieces.{CodePiece, tokens_of, use_before}
use Rattle.model_code.specs.Shown.{shown_use}
use Rattle.model_code.specs.Reading.{TokenReading, then_read, expect_variable, expect_field, same_owner, read_use}

abbrev not_part : List Token → Bool
not_part (part_name i ∷ rest) = false
not_part tokens = true

abbrev not_dot : List Token → Bool
not_dot (word dot ∷ rest) = false
not_dot tokens = true

-- what may follow a use
abbrev pub follows : List Token → Bool
follows tokens = not_part tokens && not_dot tokens

pub after_use : {B : Type 0} (p : Notation) (u : PlaceUse) (rest : List CodePiece) (go : PlaceUse → List Token → TokenReading B) → follows (tokens_of rest) ≡ true
    → then_read (read_use (tokens_of (use_before p u rest))) go ≡ go (shown_use p u) (tokens_of rest)
after_use p u rest go h = grind (arith, and_parts)

-- single tokens
pub that_variable : (v : ℕ) (rest : List Token) → expect_variable v (variable_name v ∷ rest) ≡ Some rest
that_variable v rest = rw (number_same v)

pub same_owner-refl : (o : Owner) → same_owner o o ≡ true
same_owner-refl o = grind (arith, common_steps, and_from, number_same)

pub that_field : (o : Owner) (i : ℕ) (rest : List Token) → expect_field o i (field_name o i ∷ word colon ∷ rest) ≡ Some rest
that_field o i rest = rw (and_from (same_owner o o) (i == i) (same_owner-refl o) (number_same i))
