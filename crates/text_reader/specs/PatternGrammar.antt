-- Patterns.
use Rattle.std.specs.Prelude.{◌^◌, ℤ, pos, negsuc, nat_lt, codes, true, false, Result, Ok, if◌then◌else◌}
use Rattle.model.specs.lists.Syntax.{Position, Name, PatternTree, var_pattern, bind_pattern, bool_pattern, int_pattern, prim_pattern, term_pattern, wildcard_pattern, and_pattern, macro_arg, PatternTrees, no_pattern, pattern_and}
use Rattle.text_reader.specs.declared.errors.Mistake.TheVariants as M
use Rattle.text_reader.specs.Lexemes.{Wrong, ◌>>=◌}
use Rattle.text_reader.specs.FormTrees.{FormTree, a_word, a_number, a_constant, a_binding, a_list, FormTrees, no_form, form_and}
use Rattle.text_reader.specs.Grammar.{Listed, listed, no, reads, head_of, next_of, ended}

-- `_`, a truth value, or a variable
abbrev pub word_pattern_of : Name → PatternTree
word_pattern_of n =
    if reads n (codes "_") then wildcard_pattern n.at
    else if reads n (codes "true") then bool_pattern true n.at
    else if reads n (codes "false") then bool_pattern false n.at
    else var_pattern n n.at

-- the number of an argument has 64 bits
abbrev pub index_of : ℤ → Position → Position → Result PatternTree Wrong
index_of (pos n) p at = if nat_lt n (2 ^ 64) then Ok (macro_arg n at) else no M.Index p
index_of (negsuc n) p at = no M.Index p

abbrev pub numbered : FormTree → Position → Result PatternTree Wrong
numbered (a_word n) at = no M.Index n.at
numbered (a_number z p) at = index_of z p at
numbered (a_constant n p) at = no M.Index p
numbered (a_binding n f) at = no M.Index n.at
numbered (a_list fs p e) at = no M.Index p

-- ( macro-arg NUMBER )
abbrev pub macro_arg_of : Listed → Result PatternTree Wrong
macro_arg_of l = next_of M.Name l >>= (λ head. next_of M.Index head.1 >>= (λ n. ended n.1.parts >>= (λ _. numbered n.0 l.at)))

-- ( and PATTERN .. ), or ( TERM PATTERN .. )
abbrev pub term_pattern_of : Name → PatternTrees → Position → PatternTree
term_pattern_of head args at = if reads head (codes "and") then and_pattern args at else term_pattern head args at

-- what a list is that begins with this name, before these patterns
abbrev pub list_pattern_of : Name → PatternTrees → Listed → Result PatternTree Wrong
list_pattern_of head args l = if reads head (codes "macro-arg") then macro_arg_of l else Ok (term_pattern_of head args l.at)

abbrev mutual
  pub pattern_of : FormTree → Result PatternTree Wrong
  pattern_of (a_word n) = Ok (word_pattern_of n)
  pattern_of (a_number z p) = Ok (int_pattern z p)
  pattern_of (a_constant n p) = Ok (prim_pattern n p)
  pattern_of (a_binding n f) = pattern_of f >>= (λ q. Ok (bind_pattern n q n.at))
  pattern_of (a_list fs p e) =
      head_of fs e >>= (λ head. arguments_of fs >>= (λ args. list_pattern_of head args (listed fs p e)))

  -- those of the parts behind the first
  pub arguments_of : FormTrees → Result PatternTrees Wrong
  arguments_of no_form = Ok no_pattern
  arguments_of (form_and f fs) = patterns_of fs

  pub patterns_of : FormTrees → Result PatternTrees Wrong
  patterns_of no_form = Ok no_pattern
  patterns_of (form_and f fs) = pattern_of f >>= (λ q. patterns_of fs >>= (λ qs. Ok (pattern_and q qs)))
