-- Which limit on expansions the reading of a rule comes to before anything in it is wrong, if it comes to one: parts are read
-- in order, and each is come to only where those before it are read well. An expansion passes the limit on nesting where none
-- may nest any more, else that on their number where as many were made as may be; what it makes is read in its place.
use Rattle.std.specs.Prelude.{ℕ, zero, suc, ◌+◌, Bool, List, [], ◌∷◌, length, Option, Some, None, nat_le, if◌then◌else◌}
use Rattle.std.specs.Bool.{◌==◌}
use Rattle.model.specs.lists.Syntax.{PatternTree, var_pattern, bind_pattern, bool_pattern, int_pattern, prim_pattern, term_pattern, wildcard_pattern, and_pattern, macro_arg, PatternTrees, no_pattern, pattern_and, pattern_list, ExprTree, term_expr, var_expr, bool_expr, int_expr, prim_expr, let_expr, ExprTrees, no_expr, expr_and, LetTrees, no_let, let_and, IfLetTree, RuleTree}
use Rattle.model.specs.lists.Tables.{Flags, TermEntry}
use Rattle.model.specs.lists.TermTable.{root_name}
use Rattle.model.specs.rules.Outcome.{then_option}
use Rattle.model.specs.lists.Setting.{Setting, Scope, new_scope, met, var_of, term_of, type_of_name, expr_type, on_lhs, declared_flags, is_callable, is_matchable, template_in, pattern_converter}
use Rattle.model.specs.lists.Expansions.{expanded, wrapped_pattern, wrapped_expr}
use Rattle.model.specs.lists.Typings.{Typing}
use Rattle.model.specs.lists.Elaborated.{PatternReading, ExprReading, or_expanded, as_expected, pattern_with, deeper_pattern, elaborated_parts, expr_with, lets_with, bound_let, deeper_expr, elaborated_expr, root_parts, most_nested, most_expansions}
use Rattle.model.specs.claims.Refusals.{NamedLimit, of_nesting, of_expansions}
use Rattle.laws_errors.specs.AllMade.{all_made, iflet_reading, iflets_reading}
use Rattle.laws_errors.specs.ExprSteps.{expr_list}

-- one part after another: the limit that the first comes to; else, where it is read well, what comes after it
abbrev pub or_after : {Q : Type 0} → Option NamedLimit → Option (Typing Q) → (Typing Q → Option NamedLimit) → Option NamedLimit
or_after (Some l) o next = Some l
or_after None None next = None
or_after None (Some a) next = next a

-- parts that are as many as they are to be
abbrev pub where_counted : ℕ → ℕ → Option NamedLimit → Option NamedLimit
where_counted has wants o = if has == wants then o else None

-- which limit a pattern comes to at a type, where so many expansions were made
abbrev pub LimitsOfPattern : Type 0
LimitsOfPattern = PatternTree → ℕ → ℕ → Scope → Option NamedLimit

abbrev mutual
  -- `deeper` translates what an expansion makes, and `limit` says which limit an expansion comes to
  pub pattern_limit : Setting → Bool → PatternReading → LimitsOfPattern → LimitsOfPattern
  pattern_limit e multi deeper limit (var_pattern name at) ty n s = None
  pattern_limit e multi deeper limit (bind_pattern name of at) ty n s = pattern_limit e multi deeper limit of ty n s
  pattern_limit e multi deeper limit (bool_pattern b at) ty n s = None
  pattern_limit e multi deeper limit (int_pattern z at) ty n s = None
  pattern_limit e multi deeper limit (prim_pattern name at) ty n s = None
  pattern_limit e multi deeper limit (term_pattern name args at) ty n s =
      then_option (term_of e s name.text) (λ t.
      if t.ret_ty == ty
      then or_expanded (template_in e t.kind) (λ template. then_option (expanded t args template) (λ p. limit p ty n s))
      (if is_matchable multi t.kind then where_counted (length (pattern_list args)) (length t.arg_tys) (parts_limit e multi deeper limit args t.arg_tys n s) else None)
      else then_option (pattern_converter e t.ret_ty ty) (λ c. limit (wrapped_pattern s c at (term_pattern name args at)) ty n s))
  pattern_limit e multi deeper limit (wildcard_pattern at) ty n s = None
  pattern_limit e multi deeper limit (and_pattern parts at) ty n s = each_limit e multi deeper limit parts ty n s
  pattern_limit e multi deeper limit (macro_arg i at) ty n s = None

  -- patterns, each at its own type
  pub parts_limit : Setting → Bool → PatternReading → LimitsOfPattern → PatternTrees → List ℕ → ℕ → Scope → Option NamedLimit
  parts_limit e multi deeper limit no_pattern tys n s = None
  parts_limit e multi deeper limit (pattern_and p rest) [] n s = None
  parts_limit e multi deeper limit (pattern_and p rest) (ty ∷ tys) n s =
      or_after (pattern_limit e multi deeper limit p ty n s) (pattern_with e multi deeper p ty s) (λ a. parts_limit e multi deeper limit rest tys (n + a.expansions) a.scope)

  -- patterns of one value
  pub each_limit : Setting → Bool → PatternReading → LimitsOfPattern → PatternTrees → ℕ → ℕ → Scope → Option NamedLimit
  each_limit e multi deeper limit no_pattern ty n s = None
  each_limit e multi deeper limit (pattern_and p rest) ty n s =
      or_after (pattern_limit e multi deeper limit p ty n s) (pattern_with e multi deeper p ty s) (λ a. each_limit e multi deeper limit rest ty (n + a.expansions) a.scope)

-- an expansion, where so many may nest and so many were made before it
abbrev pub deeper_pattern_limit : Setting → Bool → ℕ → LimitsOfPattern
deeper_pattern_limit e multi zero p ty n s = Some of_nesting
deeper_pattern_limit e multi (suc d) p ty n s =
    if nat_le most_expansions n then Some of_expansions else pattern_limit e multi (deeper_pattern e multi d) (deeper_pattern_limit e multi d) p ty (suc n) s

-- which limit an expression comes to where a type, or any type, is expected, where so many expansions were made
abbrev pub LimitsOfExpr : Type 0
LimitsOfExpr = ExprTree → Option ℕ → ℕ → Scope → Option NamedLimit

abbrev mutual
  -- an expression, under the flags in force
  pub expr_limit : Setting → Flags → ExprReading → LimitsOfExpr → LimitsOfExpr
  expr_limit e flags deeper limit (term_expr name args at) ty n s =
      then_option (term_of e s name.text) (λ t. as_expected e t.ret_ty ty
      (if is_callable flags t.kind then where_counted (length (expr_list args)) (length t.arg_tys) (args_limit e flags deeper limit args t.arg_tys n s) else None)
      (λ c. limit (wrapped_expr s c at (term_expr name args at)) ty n s))
  expr_limit e flags deeper limit (var_expr name at) ty n s = then_option (var_of s name.text) (λ v. as_expected e v.ty ty None (λ c. limit (wrapped_expr s c at (var_expr name at)) ty n s))
  expr_limit e flags deeper limit (bool_expr b at) ty n s = None
  expr_limit e flags deeper limit (int_expr z at) ty n s = None
  expr_limit e flags deeper limit (prim_expr name at) ty n s = None
  expr_limit e flags deeper limit (let_expr defs body at) ty n s =
      or_after (lets_limit e flags deeper limit defs n s) (lets_with e flags deeper defs s) (λ a. expr_limit e flags deeper limit body ty (n + a.expansions) a.scope)

  -- expressions, each at its own type
  pub args_limit : Setting → Flags → ExprReading → LimitsOfExpr → ExprTrees → List ℕ → ℕ → Scope → Option NamedLimit
  args_limit e flags deeper limit no_expr tys n s = None
  args_limit e flags deeper limit (expr_and x rest) [] n s = None
  args_limit e flags deeper limit (expr_and x rest) (ty ∷ tys) n s =
      or_after (expr_limit e flags deeper limit x (Some ty) n s) (expr_with e flags deeper x (Some ty) s) (λ a. args_limit e flags deeper limit rest tys (n + a.expansions) a.scope)

  -- each value at its name's type, where the earlier names are bound
  pub lets_limit : Setting → Flags → ExprReading → LimitsOfExpr → LetTrees → ℕ → Scope → Option NamedLimit
  lets_limit e flags deeper limit no_let n s = None
  lets_limit e flags deeper limit (let_and name ty value at rest) n s =
      then_option (type_of_name e s ty.text) (λ own.
      or_after (expr_limit e flags deeper limit value (Some own) n (met s name.text)) (bound_let name.text own (expr_with e flags deeper value (Some own) (met s name.text))) (λ a.
      lets_limit e flags deeper limit rest (n + a.expansions) a.scope))

-- an expansion of an expression, where so many may nest and so many were made before it
abbrev pub deeper_expr_limit : Setting → Flags → ℕ → LimitsOfExpr
deeper_expr_limit e flags zero x ty n s = Some of_nesting
deeper_expr_limit e flags (suc d) x ty n s =
    if nat_le most_expansions n then Some of_expansions else expr_limit e flags (deeper_expr e flags d) (deeper_expr_limit e flags d) x ty (suc n) s

-- a pattern, and an expression as if each term had a constructor, where so many expansions may nest and so many were made
abbrev pub pattern_limits : Setting → Bool → ℕ → LimitsOfPattern
pattern_limits e multi d = pattern_limit e multi (deeper_pattern e multi d) (deeper_pattern_limit e multi d)

abbrev pub expr_limits : Setting → Flags → ℕ → LimitsOfExpr
expr_limits e flags d = expr_limit (all_made e) flags (deeper_expr (all_made e) flags d) (deeper_expr_limit (all_made e) flags d)

-- the expression of an if-let, then its pattern
abbrev pub iflet_limits : Setting → Flags → ℕ → IfLetTree → ℕ → Scope → Option NamedLimit
iflet_limits e flags d i n s =
    or_after (expr_limits e (on_lhs flags) d i.expr None n s) (elaborated_expr (all_made e) (on_lhs flags) d i.expr None s) (λ a.
    pattern_limits e flags.multi d i.pattern (expr_type a.made) (n + a.expansions) a.scope)

-- if-lets in order
abbrev pub iflets_limits : Setting → Flags → ℕ → List IfLetTree → ℕ → Scope → Option NamedLimit
iflets_limits e flags d [] n s = None
iflets_limits e flags d (i ∷ is) n s = or_after (iflet_limits e flags d i n s) (iflet_reading e flags d i s) (λ a. iflets_limits e flags d is (n + a.expansions) a.scope)

-- arguments that are to be as many as the types
abbrev pub root_limits : Setting → Bool → ℕ → PatternTrees → List ℕ → ℕ → Scope → Option NamedLimit
root_limits e multi d ps tys n s = where_counted (length (pattern_list ps)) (length tys) (parts_limit e multi (deeper_pattern e multi d) (deeper_pattern_limit e multi d) ps tys n s)

-- if-lets in order, then the right side
abbrev pub ends_limits : Setting → Flags → ℕ → RuleTree → TermEntry → ℕ → Scope → Option NamedLimit
ends_limits e flags d r t n s =
    or_after (iflets_limits e flags d r.iflets n s) (iflets_reading e flags d r.iflets s) (λ b. expr_limits e flags d r.expr (Some t.ret_ty) (n + b.expansions) b.scope)

-- arguments at the types of the rule's term, then the rest
abbrev pub sides_limits : Setting → Flags → ℕ → RuleTree → TermEntry → ℕ → Scope → Option NamedLimit
sides_limits e flags d r t n s =
    or_after (root_limits e flags.multi d (root_parts r.pattern) t.arg_tys n s) (elaborated_parts e flags.multi d (root_parts r.pattern) t.arg_tys s) (λ a. ends_limits e flags d r t (n + a.expansions) a.scope)

-- a rule of a declared term
abbrev pub rule_limits : Setting → ℕ → RuleTree → ℕ → Scope → Option NamedLimit
rule_limits e d r n s =
    then_option (root_name r.pattern) (λ x. then_option (term_of e s x.text) (λ t. then_option (declared_flags t.kind) (λ flags. sides_limits e flags d r t n s)))

-- the limit that the reading of a rule comes to, from the names met before it, before anything in it is wrong
abbrev pub reached_limit : Setting → RuleTree → List (List ℕ) → Option NamedLimit
reached_limit e r names = rule_limits e most_nested r 0 (new_scope names)
