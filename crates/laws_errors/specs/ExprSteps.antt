-- How expressions are read, with all that is wrong in them, but for terms without a constructor: those are looked for behind all
-- rules.
use Rattle.std.specs.Prelude.{ℕ, zero, suc, ◌+◌, Bool, false, not, ◌||◌, List, [], ◌∷◌, ◌++◌, length, Option, Some, None, is_some, slice_get, nat_le, if◌then◌else◌}
use Rattle.std.specs.Bool.{◌==◌}
use Rattle.model.specs.lists.Syntax.{Position, Name, ExprTree, term_expr, var_expr, bool_expr, int_expr, prim_expr, let_expr, ExprTrees, no_expr, expr_and, LetTrees, no_let, let_and}
use Rattle.model.specs.lists.Names.{number}
use Rattle.model.specs.lists.Ranges.{reduced}
use Rattle.model.specs.lists.Tables.{Flags, TermKindEntry, declared_term, TermEntry}
use Rattle.model.specs.rules.Values.{is_atom_type}
use Rattle.model.specs.rules.Typed.{TypedExpr, make_term, make_var, make_bool, make_int, make_prim, TypedExprs, no_typed_expr, typed_expr_and, TypedLets, no_typed_let, typed_let_and, TypedVar}
use Rattle.model.specs.lists.Setting.{Setting, Scope, met, bound, var_of, term_of, type_of_name, type_of_constant, bool_type, is_expected, converter, expr_converter}
use Rattle.model.specs.lists.Expansions.{term_name_at, wrapped_expr}
use Rattle.model.specs.lists.Elaborated.{typed_let, most_expansions}
use Rattle.model.specs.claims.Refusals.{of_nesting, of_expansions}
use Rattle.laws_errors.specs.Steps.{unknown_constructor, unknown_variable, unknown_constant, unknown_let_type, variable_type, constructor_type, constant_type, no_truth, no_integer, untyped_integer, argument_count, no_constructor, impure_constructor, multi_constructor, partial_constructor, Mistake, Step, went_on, stopped, unless, here, nothing, noting, made_step, counted_step, then_step, then_made}

-- how an expression is read where a type, or any type, is expected, behind so many expansions
abbrev pub ExprStepping : Type 0
ExprStepping = ExprTree → Option ℕ → ℕ → Scope → Step TypedExpr

-- the expressions of a call's arguments
abbrev pub expr_list : ExprTrees → List ExprTree
expr_list no_expr = []
expr_list (expr_and x rest) = x ∷ expr_list rest

-- what converts; or nothing, where what is declared to convert has no constructor; or the expression itself
abbrev pub converted_or : Position → Scope → Step TypedExpr → (TermEntry → Step TypedExpr) → Option TermEntry → Option TermEntry → Step TypedExpr
converted_or at s itself convert (Some c) declared = convert c
converted_or at s itself convert None (Some c) = nothing s (no_constructor (term_name_at s c at).text) at
converted_or at s itself convert None None = itself

-- where another type than its own is expected, an expression is converted, if there is what converts
abbrev pub expected_step : Setting → ℕ → Option ℕ → Position → Scope → Step TypedExpr → (TermEntry → Step TypedExpr) → Step TypedExpr
expected_step e own None at s itself convert = itself
expected_step e own (Some ty) at s itself convert = if own == ty then itself else converted_or at s itself convert (expr_converter e own ty) (converter e own ty)

-- each flag that forbids a call is an error
abbrev pub forbidden : Flags → List ℕ → Position → TermKindEntry → List Mistake
forbidden flags x at (declared_term own constructor_kind extractor_kind) =
    unless (not flags.pure || own.pure) (impure_constructor x) at ++ (unless (flags.multi || not own.multi) (multi_constructor x) at ++ unless (flags.partial || not own.partial) (partial_constructor x) at)
forbidden flags x at _ = []

-- a call, behind what is wrong with it; `parts` reads the arguments at types
abbrev pub call_step : Flags → Name → ExprTrees → Position → Option ℕ → TermEntry → (List ℕ → Step TypedExprs) → Step TypedExpr
call_step flags name args at ty t parts =
    noting (unless (is_expected ty t.ret_ty) (constructor_type name.text ty t.ret_ty) at)
    (noting (forbidden flags name.text at t.kind)
    (noting (unless (length (expr_list args) == length t.arg_tys) (argument_count name.text (length (expr_list args)) (length t.arg_tys)) at)
    (made_step (make_term t.ret_ty t.id) (parts t.arg_tys))))

-- the use of a term, where there is one of the name
abbrev pub called_step : Setting → Flags → ExprStepping → Name → ExprTrees → Position → Option ℕ → ℕ → Scope → (List ℕ → Step TypedExprs) → Option TermEntry → Step TypedExpr
called_step e flags deeper name args at ty n s parts None = nothing s (unknown_constructor name.text (is_some (var_of s name.text))) at
called_step e flags deeper name args at ty n s parts (Some t) =
    expected_step e t.ret_ty ty at s (call_step flags name args at ty t parts) (λ c. deeper (wrapped_expr s c at (term_expr name args at)) ty n s)

-- the use of a variable: one of another type is used all the same
abbrev pub used_step : Setting → ExprStepping → Name → Position → Option ℕ → ℕ → Scope → Option TypedVar → Step TypedExpr
used_step e deeper name at ty n s None = nothing s (unknown_variable name.text) at
used_step e deeper name at ty n s (Some v) =
    expected_step e v.ty ty at s (noting (unless (is_expected ty v.ty) (variable_type name.text ty v.ty) at) (here (make_var v.ty v.id) s)) (λ c. deeper (wrapped_expr s c at (var_expr name at)) ty n s)

-- an integer has the type that is expected
abbrev pub integer_step : Setting → Step TypedExpr → (ℕ → Step TypedExpr) → Option ℕ → Step TypedExpr
integer_step e untyped typed None = untyped
integer_step e untyped typed (Some own) = typed own

-- an unknown constant's name is met. One of another type isn't made, though it is in patterns
abbrev pub made_constant_step : Option ℕ → List ℕ → Position → Scope → Option ℕ → Step TypedExpr
made_constant_step ty x at s None = nothing (met s x) (unknown_constant x) at
made_constant_step ty x at s (Some own) = if is_expected ty own then here (make_prim own (number s.names x)) s else nothing s (constant_type x ty own) at

-- a part for which nothing is made is left out
abbrev pub with_arg : Option TypedExpr → TypedExprs → TypedExprs
with_arg None rest = rest
with_arg (Some x) rest = typed_expr_and x rest

-- so is a definition, and its name isn't bound
abbrev pub with_def : Option (TypedLets → TypedLets) → TypedLets → TypedLets
with_def None rest = rest
with_def (Some d) rest = d rest

abbrev pub def_step : List ℕ → ℕ → Step TypedExpr → Step (TypedLets → TypedLets)
def_step x ty (went_on None s k es) = went_on None s k es
def_step x ty (went_on (Some v) s k es) = went_on (Some (typed_let_and (length s.vars) ty v)) (bound s x ty) k es
def_step x ty (stopped l s es) = stopped l s es

-- a definition at a type that is known; `value` reads its value at the type
abbrev pub let_step : List ℕ → List ℕ → Position → Scope → (ℕ → Step TypedExpr) → Option ℕ → Step (TypedLets → TypedLets)
let_step x ty at s value None = nothing (met s x) (unknown_let_type ty x) at
let_step x ty at s value (Some own) = def_step x own (value own)

-- the name of a variable
abbrev pub is_name : Option TypedVar → ℕ → Bool
is_name None name = false
is_name (Some v) name = v.name == name

-- variables but this one and those of its name that are newer
abbrev pub uncovered : ℕ → Option TypedVar → List TypedVar → List TypedVar
uncovered x v [] = []
uncovered x v (w ∷ ws) = if w.id == x then ws else if is_name v w.name then uncovered x v ws else w ∷ uncovered x v ws

-- the name of a variable stands for what it stood for before it was bound
abbrev pub put_back : ℕ → Scope → Scope
put_back x s = record s { visible = uncovered x (slice_get s.vars x) s.visible }

-- so do the names of a let's definitions, the last first. What inner lets have left open stays, but for these names
abbrev pub closed : TypedLets → Scope → Scope
closed no_typed_let s = s
closed (typed_let_and x ty value rest) s = put_back x (closed rest s)

-- a let whose body is made ends its scope; else the scope stays open
abbrev pub ended_step : TypedLets → Step TypedExpr → Step TypedExpr
ended_step defs (went_on None s k es) = went_on None s k es
ended_step defs (went_on (Some body) s k es) = went_on (Some (typed_let defs body)) (closed defs s) k es
ended_step defs (stopped l s es) = stopped l s es

abbrev mutual
  -- an expression, under the flags in force
  pub expr_step : Setting → Flags → ExprStepping → ExprStepping
  expr_step e flags deeper (term_expr name args at) ty n s = called_step e flags deeper name args at ty n s (λ tys. args_step e flags deeper args tys n s) (term_of e s name.text)
  expr_step e flags deeper (var_expr name at) ty n s = used_step e deeper name at ty n s (var_of s name.text)
  expr_step e flags deeper (bool_expr b at) ty n s = noting (unless (is_expected ty bool_type) (no_truth ty b) at) (here (make_bool bool_type b) s)
  expr_step e flags deeper (int_expr z at) ty n s =
      integer_step e (nothing s untyped_integer at)
      (λ own. noting (unless (is_atom_type (slice_get e.types own)) (no_integer own z) at) (here (make_int own (reduced (slice_get e.types own) z)) s)) ty
  expr_step e flags deeper (prim_expr name at) ty n s = made_constant_step ty name.text at s (type_of_constant e s name.text)
  expr_step e flags deeper (let_expr defs body at) ty n s = then_made (lets_step e flags deeper defs at n s) (λ ds t k. ended_step ds (expr_step e flags deeper body ty (n + k) t))

  -- expressions at types, as far as there are both
  pub args_step : Setting → Flags → ExprStepping → ExprTrees → List ℕ → ℕ → Scope → Step TypedExprs
  args_step e flags deeper no_expr tys n s = here no_typed_expr s
  args_step e flags deeper (expr_and x rest) [] n s = here no_typed_expr s
  args_step e flags deeper (expr_and x rest) (ty ∷ tys) n s = then_step with_arg (expr_step e flags deeper x (Some ty) n s) (λ m t k. args_step e flags deeper rest tys (n + k) t)

  -- the definitions of a let at a place, where an unknown type is said. Its variable's name is met all the same
  pub lets_step : Setting → Flags → ExprStepping → LetTrees → Position → ℕ → Scope → Step TypedLets
  lets_step e flags deeper no_let at n s = here no_typed_let s
  lets_step e flags deeper (let_and name ty value own_at rest) at n s =
      then_step with_def (let_step name.text ty.text at s (λ own. expr_step e flags deeper value (Some own) n (met s name.text)) (type_of_name e s ty.text))
      (λ m t k. lets_step e flags deeper rest at (n + k) t)

-- what expansions make: none may nest any more, or there were as many as may be, or one more is counted
abbrev pub deeper_expr_step : Setting → Flags → ℕ → ExprStepping
deeper_expr_step e flags zero x ty n s = stopped of_nesting s []
deeper_expr_step e flags (suc d) x ty n s =
    if nat_le most_expansions n then stopped of_expansions s [] else counted_step (expr_step e flags (deeper_expr_step e flags d) x ty (suc n) s)
