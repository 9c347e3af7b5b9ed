-- What is one line of JSON?
use Rattle.std.specs.Prelude.{◌≡◌, ◌≤◌, ℕ, List, [], ◌∷◌, ◌++◌, Some}
use Rattle.json.specs.Json.{Json, value}
use Rattle.json.specs.Lex.{tokens}
use Rattle.json.specs.Print.{print}
use Rattle.json.specs.Tree.{depth, json_tokens}

-- It is a value as it is printed, and a line feed. A reader of JSON (RFC 8259) reads what stands before the line feed as this
-- value, unless it takes no value that is nested so deep.
pub record IsLineOf (tree : Json) (text : List ℕ) : Type 0 where
  pub line : text ≡ print (json_tokens tree) ++ 10 ∷ []
  pub is_read : (most : ℕ) → depth tree ≤ most → value most (tokens (print (json_tokens tree))) ≡ Some (tree, [])

pub record IsJsonLine (text : List ℕ) : Type 0 where
  pub tree : Json
  pub is_line : IsLineOf tree text
