-- The text of lines, by how names are written.
use Rattle.std.specs.Prelude.{ℕ, true, false, List, [], ◌∷◌, ◌++◌, replicate, codes, decimal}
use Rattle.std.specs.Fmt.{signed_decimal}
use Rattle.model.specs.lists.Syntax.{Position}
use Rattle.model_print.specs.Lines.{Word, bind_word, match_word, equal_word, loop_word, return_word, bool_word, int_word, prim_word, arg_word, extract_word, call_word, pick_word, make_word, some_word, unwrap_word, field_word, part_word, of_word, variant_word, struct_word, none, equals, Token, word, site, truth, count, integer, instance, term_name, type_name, variant_name, constant_name, Ending, nothing, colon, comment, Line, line}

-- how terms, types, variants without their types, and constants are written
pub record Names : Type 0 where
  pub term : ℕ → List ℕ
  pub ty : ℕ → List ℕ
  pub variant : (ty variant : ℕ) → List ℕ
  pub constant : ℕ → List ℕ

abbrev pub word_text : Word → List ℕ
word_text bind_word = codes "bind"
word_text match_word = codes "match"
word_text equal_word = codes "equal"
word_text loop_word = codes "loop"
word_text return_word = codes "return"
word_text bool_word = codes "bool"
word_text int_word = codes "int"
word_text prim_word = codes "prim"
word_text arg_word = codes "arg"
word_text extract_word = codes "extract"
word_text call_word = codes "call"
word_text pick_word = codes "pick"
word_text make_word = codes "make"
word_text some_word = codes "some"
word_text unwrap_word = codes "unwrap"
word_text field_word = codes "field"
word_text part_word = codes "part"
word_text of_word = codes "of"
word_text variant_word = codes "variant"
word_text struct_word = codes "struct"
word_text none = codes "_"
word_text equals = codes "="

abbrev pub token_text : Names → Token → List ℕ
token_text names (word w) = word_text w
token_text names (site s) = codes "b" ++ decimal s
token_text names (truth true) = codes "true"
token_text names (truth false) = codes "false"
token_text names (count n) = decimal n
token_text names (integer z) = signed_decimal z
token_text names (instance n) = codes "#" ++ decimal n
token_text names (term_name t) = names.term t
token_text names (type_name ty) = names.ty ty
token_text names (variant_name ty v) = names.ty ty ++ codes "." ++ names.variant ty v
token_text names (constant_name c) = names.constant c

-- tokens, each behind a space
abbrev pub further_text : Names → List Token → List ℕ
further_text names [] = []
further_text names (t ∷ ts) = codes " " ++ token_text names t ++ further_text names ts

abbrev pub tokens_text : Names → List Token → List ℕ
tokens_text names [] = []
tokens_text names (t ∷ ts) = token_text names t ++ further_text names ts

-- what is said of the rule at a position stands behind its return
abbrev pub ending_text : (Position → List ℕ) → Ending → List ℕ
ending_text said nothing = []
ending_text said colon = codes ":"
ending_text said (comment at) = said at

abbrev pub line_text : Names → (Position → List ℕ) → Line → List ℕ
line_text names said (line depth tokens ending) = replicate depth 32 ++ tokens_text names tokens ++ ending_text said ending ++ 10 ∷ []

abbrev pub lines_text : Names → (Position → List ℕ) → List Line → List ℕ
lines_text names said [] = []
lines_text names said (l ∷ ls) = line_text names said l ++ lines_text names said ls
