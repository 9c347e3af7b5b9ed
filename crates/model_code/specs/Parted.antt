-- Tokens don't run together: where the second would go on the first, as a word or as a mark, there is white space between them. And
-- comments end with their line.
use Rattle.std.specs.Prelude.{◌≡◌, ◌&&◌, Bool, true, false, List, [], ◌∷◌, if◌then◌else◌}
use Rattle.model_code.specs.Code.{Block}
use Rattle.model_code.specs.Tokens.{Word, let_word, mut_word, ref_word, if_word, else_word, match_word, while_word, return_word, break_word, some_word, none_word, true_word, false_word, ctx_word, returns_word, extend_word, len_word, most_word, clone_word, iter_word, next_word, unreachable_word, dot, two_dots, colon, underscore, arrow, equals, equal_to, at_least, Token, word, variable_name, parameter_name, part_name, field_name, label_name}
use Rattle.model_code.specs.Notation.{Notation}
use Rattle.model_code.specs.Pieces.{CodePiece, token, space, set_in, line_end, rule_comment, log_line}
use Rattle.model_code.specs.Written.{function_body}

abbrev pub is_lettered : Word → Bool
is_lettered let_word = true
is_lettered mut_word = true
is_lettered ref_word = true
is_lettered if_word = true
is_lettered else_word = true
is_lettered match_word = true
is_lettered while_word = true
is_lettered return_word = true
is_lettered break_word = true
is_lettered some_word = true
is_lettered none_word = true
is_lettered true_word = true
is_lettered false_word = true
is_lettered ctx_word = true
is_lettered returns_word = true
is_lettered extend_word = true
is_lettered len_word = true
is_lettered most_word = true
is_lettered clone_word = true
is_lettered iter_word = true
is_lettered next_word = true
is_lettered underscore = true
is_lettered _ = false

-- how a token begins: with a letter; as anything, as names may; with a `.`; with a character that may go on a mark; with another one
pub data TokenStart : Type 0 where
  a_letter any_text a_dot goes_on_mark other_mark : TokenStart

abbrev pub begins : Token → TokenStart
begins (word dot) = a_dot
begins (word two_dots) = a_dot
begins (word colon) = goes_on_mark
begins (word arrow) = goes_on_mark
begins (word equals) = goes_on_mark
begins (word equal_to) = goes_on_mark
begins (word at_least) = goes_on_mark
begins (word unreachable_word) = a_letter
begins (word w) = if is_lettered w then a_letter else other_mark
begins (variable_name v) = a_letter
begins (parameter_name i) = a_letter
begins (part_name i) = a_dot
begins t = any_text

-- what stands before: nothing that anything goes on; a word or a name; the name of a field or a label; a mark that may go on
pub data Behind : Type 0 where
  nothing a_name a_field an_open_mark : Behind

abbrev pub ends : Token → Behind
ends (word dot) = an_open_mark
ends (word colon) = an_open_mark
ends (word equals) = an_open_mark
ends (word unreachable_word) = an_open_mark
ends (word w) = if is_lettered w then a_name else nothing
ends (field_name o i) = a_field
ends (label_name n) = a_field
ends t = a_name

abbrev pub may_follow : Behind → TokenStart → Bool
may_follow nothing b = true
may_follow a_name a_dot = true
may_follow a_name other_mark = true
may_follow a_name b = false
may_follow a_field a_letter = false
may_follow a_field any_text = false
may_follow a_field b = true
may_follow an_open_mark a_letter = true
may_follow an_open_mark other_mark = true
may_follow an_open_mark b = false

abbrev pub is_nothing : Behind → Bool
is_nothing nothing = true
is_nothing behind = false

abbrev pub parted : Behind → List CodePiece → Bool
parted behind [] = true
parted behind (token t ∷ rest) = may_follow behind (begins t) && parted (ends t) rest
parted behind (space ∷ rest) = parted nothing rest
parted behind (set_in depth ∷ rest) = parted behind rest
parted behind (line_end ∷ rest) = parted nothing rest
-- a comment goes on to the end of its line
parted behind (rule_comment at ∷ (line_end ∷ rest)) = parted nothing rest
parted behind (rule_comment at ∷ rest) = false
parted behind (log_line at ∷ rest) = is_nothing behind && parted a_name rest

abbrev pub TokensAreParted : Type 0
TokensAreParted = (p : Notation) (code : Block) → parted nothing (function_body p code) ≡ true
