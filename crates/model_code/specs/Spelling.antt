-- The text of pieces, by how names are written.
use Rattle.std.specs.Prelude.{ℕ, ◌*◌, ℤ, min, Option, List, [], ◌∷◌, ◌++◌, replicate, codes, decimal}
use Rattle.model.specs.lists.Syntax.{Position}
use Rattle.model_code.specs.Tokens.{Word, let_word, mut_word, ref_word, if_word, else_word, match_word, while_word, return_word, break_word, some_word, none_word, true_word, false_word, ctx_word, returns_word, extend_word, len_word, most_word, clone_word, iter_word, next_word, unreachable_word, opening, closing, opening_brace, closing_brace, comma, colon, semicolon, dot, two_dots, underscore, arrow, equals, equal_to, unlike, at_least, ampersand, star, Owner, Token, word, variable_name, parameter_name, part_name, number, constant_name, owner_name, field_name, function_name, list_name, label_name, no_match}
use Rattle.model_code.specs.Pieces.{CodePiece, token, space, set_in, line_end, rule_comment, log_line}

-- how names are written, numbers with what stands behind their digits, the panic where no rule matched, and the place of a rule
pub record Names : Type 0 where
  pub owner : Owner → List ℕ
  pub field : Owner → ℕ → List ℕ
  pub function : ℕ → List ℕ
  pub list : Option ℕ → List ℕ
  pub constant : ℕ → List ℕ
  pub number : ℤ → (ending : ℕ) → List ℕ
  pub panic : List ℕ
  pub place : Position → List ℕ
  pub log : Position → List ℕ

abbrev pub word_text : Word → List ℕ
word_text let_word = codes "let"
word_text mut_word = codes "mut"
word_text ref_word = codes "ref"
word_text if_word = codes "if"
word_text else_word = codes "else"
word_text match_word = codes "match"
word_text while_word = codes "while"
word_text return_word = codes "return"
word_text break_word = codes "break"
word_text some_word = codes "Some"
word_text none_word = codes "None"
word_text true_word = codes "true"
word_text false_word = codes "false"
word_text ctx_word = codes "ctx"
word_text returns_word = codes "returns"
word_text extend_word = codes "extend"
word_text len_word = codes "len"
word_text most_word = codes "MAX_ISLE_RETURNS"
word_text clone_word = codes "clone"
word_text iter_word = codes "into_context_iter"
word_text next_word = codes "next"
word_text unreachable_word = codes "unreachable!"
word_text opening = codes "("
word_text closing = codes ")"
word_text opening_brace = codes "{"
word_text closing_brace = codes "}"
word_text comma = codes ","
word_text colon = codes ":"
word_text semicolon = codes ";"
word_text dot = codes "."
word_text two_dots = codes ".."
word_text underscore = codes "_"
word_text arrow = codes "=>"
word_text equals = codes "="
word_text equal_to = codes "=="
word_text unlike = codes "!="
word_text at_least = codes ">="
word_text ampersand = codes "&"
word_text star = codes "*"

abbrev pub token_text : Names → Token → List ℕ
token_text names (word w) = word_text w
token_text names (variable_name v) = codes "v" ++ decimal v
token_text names (parameter_name i) = codes "arg" ++ decimal i
token_text names (part_name i) = codes "." ++ decimal i
token_text names (number z ending) = names.number z ending
token_text names (constant_name name) = names.constant name
token_text names (owner_name o) = names.owner o
token_text names (field_name o i) = names.field o i
token_text names (function_name f) = names.function f
token_text names (list_name l) = names.list l
token_text names (label_name n) = codes "'at" ++ decimal n
token_text names no_match = names.panic

-- lines are set in thirteen times at most, since code is deeper than lines are wide
abbrev pub deepest : ℕ
deepest = 13

abbrev pub piece_text : Names → CodePiece → List ℕ
piece_text names (token t) = token_text names t
piece_text names space = codes " "
piece_text names (set_in depth) = replicate (4 * min depth deepest) 32
piece_text names line_end = 10 ∷ []
piece_text names (rule_comment at) = codes "// Rule at " ++ names.place at ++ codes "."
piece_text names (log_line at) = names.log at

abbrev pub spelled : Names → List CodePiece → List ℕ
spelled names [] = []
spelled names (piece ∷ rest) = piece_text names piece ++ spelled names rest
