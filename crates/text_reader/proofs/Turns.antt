-- A text's mistake is that of its tokens, its lists or its definitions, the first of these that has one.
use Rattle.std.proofs.Common.{◌≡◌, ℕ, List, length, arith}
use Rattle.std.specs.Prelude.{◌⊎◌, Err}
use Rattle.std.proofs.lemmas.Grind.{common_steps}
use Rattle.text_reader.specs.Lexemes.{Wrong}
use Rattle.text_reader.specs.Forming.{forms_of}
use Rattle.text_reader.specs.Definitions.{definitions_of, tokens_in, forms_in, reading, IsOfTokens, IsOfLists, IsOfDefinitions}
use Rattle.text_reader.proofs.Mistakes.{one_fails}

module _ (file : ℕ) (text : List ℕ) (w : Wrong) where
  abbrev IsOfOne : Type 0
  IsOfOne = IsOfTokens file text w ⊎ IsOfLists file text w ⊎ IsOfDefinitions file text w

  pub in_turn : reading file text ≡ Err w → IsOfOne
  in_turn e = grind (arith, common_steps, one_fails (forms_in file text) definitions_of w e, one_fails (tokens_in file text) (forms_of file (length text)) w)

  pub first_told : IsOfOne → reading file text ≡ Err w
  first_told h = grind (arith, common_steps)
