-- How expressions are read step by step, and what the use of a name in an expression leads to.
use Rattle.std.specs.Prelude.{◌≡◌, ℕ, suc, List, Option, None, Some, Result, Ok, Err, ⊤}
use Rattle.core_syntax.specs.SyntaxViews as S
use Rattle.model.specs.lists.Syntax.{Position, Name, ExprTree, term_expr, ExprTrees, no_expr, expr_and}
use Rattle.model.specs.lists.Tables.{Flags}
use Rattle.model.specs.rules.Typed.{TypedExpr, make_term, make_var, TypedExprs}
use Rattle.laws_errors.specs.ExprSteps.{expr_step, args_step, deeper_expr_step}
use Rattle.core_terms.specs.TermViews.{term_view}
use Rattle.core_rules.specs.declared.term_env.TermEnv.{TermEnv}
use Rattle.core_rules.specs.declared.typing.progress.Stop.{Stop}
use Rattle.core_rules.specs.declared.typing.expr_uses.VarUse.{VarUse}
use Rattle.core_rules.specs.declared.typing.expr_uses.VarUse.TheVariants as V
use Rattle.core_rules.specs.declared.typing.expr_uses.CallUse.{CallUse}
use Rattle.core_rules.specs.declared.typing.expr_uses.CallUse.TheVariants as C
use Rattle.core_rules.specs.PatternTaking.{made_end}
use Rattle.core_rules.specs.Taking.{Stepping, EndsAs, StopsBy, LeadsOn}
use Rattle.core_rules.specs.ShownSettings.{Standing}

-- an expression, under the flags in force, where a type, or any type, is expected, and where so many expansions may nest
abbrev pub expr_steps : ExprTree → Flags → Option ℕ → ℕ → Stepping TypedExpr
expr_steps x flags ty d e n s = expr_step e flags (deeper_expr_step e flags d) x ty n s

-- expressions for arguments, each at its type, as far as there are both
abbrev pub args_steps : ExprTrees → Flags → List ℕ → ℕ → Stepping TypedExprs
args_steps xs flags tys d e n s = args_step e flags (deeper_expr_step e flags d) xs tys n s

-- the use of a variable is wrong, and nothing is made; or from here on it is what its conversion is; or it is the variable
abbrev pub VarTakes : TermEnv → Standing → Standing → ℕ → ExprTree → Flags → Option ℕ → Result VarUse Stop → Type 0
VarTakes env old new d whole flags ty (Ok V.Wrong) = EndsAs env old new (expr_steps whole flags ty d) (Ok None)
VarTakes env old new d whole flags ty (Ok (V.Conversion made left)) = LeadsOn env old new (expr_steps whole flags ty d) (expr_steps (S.expr_view made) flags ty left) (λ r. r)
VarTakes env old new d whole flags ty (Ok (V.Var v)) = EndsAs env old new (expr_steps whole flags ty d) (Ok (Some (make_var v.ty.0 v.id.0)))
VarTakes env old new d whole flags ty (Err stop) = StopsBy env old new (expr_steps whole flags ty d) stop

-- the use of a term likewise, or it is the term itself, with its parts
abbrev pub CallTakes : TermEnv → Standing → Standing → ℕ → ExprTree → ExprTrees → Flags → Option ℕ → Result CallUse Stop → Type 0
CallTakes env old new d whole args flags ty (Ok C.Wrong) = EndsAs env old new (expr_steps whole flags ty d) (Ok None)
CallTakes env old new d whole args flags ty (Ok (C.Conversion made left)) = LeadsOn env old new (expr_steps whole flags ty d) (expr_steps (S.expr_view made) flags ty left) (λ r. r)
CallTakes env old new d whole args flags ty (Ok (C.Parts t)) =
    LeadsOn env old new (expr_steps whole flags ty d) (args_steps args flags (term_view t.now).arg_tys d) (made_end (make_term (term_view t.now).ret_ty (term_view t.now).id))
CallTakes env old new d whole args flags ty (Err stop) = StopsBy env old new (expr_steps whole flags ty d) stop

-- what takes the place of a use stands inside a use of a converter, in which one expansion fewer may nest
abbrev pub IsConverted : ℕ → ExprTree → ExprTree → ℕ → Type 0
IsConverted d whole made left = (suc left ≡ d) × (name : Name) × (at : Position) × (made ≡ term_expr name (expr_and whole no_expr) at)

abbrev pub VarDeepens : ℕ → ExprTree → Result VarUse Stop → Type 0
VarDeepens d whole (Ok V.Wrong) = ⊤
VarDeepens d whole (Ok (V.Conversion made left)) = IsConverted d whole (S.expr_view made) left
VarDeepens d whole (Ok (V.Var v)) = ⊤
VarDeepens d whole (Err stop) = ⊤

abbrev pub CallDeepens : ℕ → ExprTree → Result CallUse Stop → Type 0
CallDeepens d whole (Ok C.Wrong) = ⊤
CallDeepens d whole (Ok (C.Conversion made left)) = IsConverted d whole (S.expr_view made) left
CallDeepens d whole (Ok (C.Parts t)) = ⊤
CallDeepens d whole (Err stop) = ⊤
