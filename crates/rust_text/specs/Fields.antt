-- The fields of a pattern, one by one.
use Rattle.std.specs.Prelude.{◌∷◌, ℕ, Bool, List, Option, Some, None}
use Rattle.model_code.specs.Tokens.{Owner, colon, comma, field_name}
use Rattle.model_code.specs.Notation.{Notation}
use Rattle.model_code.specs.Pieces.{CodePiece, token, put_first, put_first_if, binding_before}

-- a field with a name, where it is bound; `bound`: whether one before it is
abbrev pub named_field : Notation → Owner → ℕ → (bound : Bool) → Option ℕ → List CodePiece → List CodePiece
named_field p o i bound None rest = rest
named_field p o i bound (Some v) rest = put_first_if bound comma (token (field_name o i) ∷ put_first colon (binding_before p o i v rest))
