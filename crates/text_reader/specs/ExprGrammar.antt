-- Expressions.
use Rattle.std.specs.Prelude.{codes, true, false, Result, Ok, if◌then◌else◌}
use Rattle.model.specs.lists.Syntax.{Position, Name, ExprTree, term_expr, var_expr, bool_expr, int_expr, prim_expr, let_expr, ExprTrees, no_expr, expr_and, LetTrees, no_let, let_and}
use Rattle.text_reader.specs.declared.errors.Mistake.TheVariants as M
use Rattle.text_reader.specs.Lexemes.{Wrong, ◌>>=◌}
use Rattle.text_reader.specs.FormTrees.{FormTree, a_word, a_number, a_constant, a_binding, a_list, FormTrees, no_form, form_and}
use Rattle.text_reader.specs.Grammar.{no, reads, place_of, name_of, head_of}

-- a truth value, or a variable
abbrev pub word_expr_of : Name → ExprTree
word_expr_of n =
    if reads n (codes "true") then bool_expr true n.at
    else if reads n (codes "false") then bool_expr false n.at
    else var_expr n n.at

abbrev mutual
  pub expr_of : FormTree → Result ExprTree Wrong
  expr_of (a_word n) = Ok (word_expr_of n)
  expr_of (a_number z p) = Ok (int_expr z p)
  expr_of (a_constant n p) = Ok (prim_expr n p)
  expr_of (a_binding n f) = no M.Expression n.at
  expr_of (a_list fs p e) =
      head_of fs e >>= (λ head. if reads head (codes "let") then let_of fs p e else (expr_arguments_of fs >>= (λ args. Ok (term_expr head args p))))

  -- those of the parts behind the first
  pub expr_arguments_of : FormTrees → Result ExprTrees Wrong
  expr_arguments_of no_form = Ok no_expr
  expr_arguments_of (form_and f fs) = exprs_of fs

  pub exprs_of : FormTrees → Result ExprTrees Wrong
  exprs_of no_form = Ok no_expr
  exprs_of (form_and f fs) = expr_of f >>= (λ x. exprs_of fs >>= (λ xs. Ok (expr_and x xs)))

  -- ( let ( DEFINITION .. ) EXPR )
  pub let_of : FormTrees → Position → Position → Result ExprTree Wrong
  let_of no_form p e = no M.LetDefinitions e
  let_of (form_and h no_form) p e = no M.LetDefinitions e
  let_of (form_and h (form_and ds no_form)) p e = no M.Expression e
  let_of (form_and h (form_and ds (form_and body no_form))) p e =
      lets_of ds >>= (λ defs. expr_of body >>= (λ x. Ok (let_expr defs x p)))
  let_of (form_and h (form_and ds (form_and body (form_and more fs)))) p e = no M.End (place_of more)

  pub lets_of : FormTree → Result LetTrees Wrong
  lets_of (a_word n) = no M.LetDefinitions n.at
  lets_of (a_number z p) = no M.LetDefinitions p
  lets_of (a_constant n p) = no M.LetDefinitions p
  lets_of (a_binding n f) = no M.LetDefinitions n.at
  lets_of (a_list fs p e) = lets_in fs

  pub lets_in : FormTrees → Result LetTrees Wrong
  lets_in no_form = Ok no_let
  lets_in (form_and f fs) = let_definition_of f >>= (λ d. lets_in fs >>= (λ ds. Ok (let_and d.0 d.1 d.2 d.3 ds)))

  pub let_definition_of : FormTree → Result (Name × Name × ExprTree × Position) Wrong
  let_definition_of (a_word n) = no M.LetDefinitions n.at
  let_definition_of (a_number z p) = no M.LetDefinitions p
  let_definition_of (a_constant n p) = no M.LetDefinitions p
  let_definition_of (a_binding n f) = no M.LetDefinitions n.at
  let_definition_of (a_list fs p e) = defined_in fs p

  -- ( NAME TYPE EXPR )
  pub defined_in : FormTrees → Position → Result (Name × Name × ExprTree × Position) Wrong
  defined_in no_form p = no M.LetDefinitions p
  defined_in (form_and v no_form) p = no M.LetDefinitions p
  defined_in (form_and v (form_and t no_form)) p = no M.LetDefinitions p
  defined_in (form_and v (form_and t (form_and x no_form))) p =
      name_of v >>= (λ var. name_of t >>= (λ ty. expr_of x >>= (λ val. Ok (var, ty, val, p))))
  defined_in (form_and v (form_and t (form_and x (form_and more fs)))) p = no M.LetDefinitions p
