-- How lets are read step by step, and what is kept of what their names stood for before them.
use Rattle.std.specs.Prelude.{◌≡◌, ℕ, Bool, false, ◌||◌, List, Option, Some, slice_get, unwrap_or, Box, if◌then◌else◌, ⊤}
use Rattle.std.specs.declared.alloc.Global.{Global}
use Rattle.core_syntax.specs.declared.syntax.LetDef.{LetDef}
use Rattle.core_syntax.specs.SyntaxViews as S
use Rattle.model.specs.lists.Syntax.{Position, Name, ExprTree, LetTrees}
use Rattle.model.specs.lists.Tables.{Flags}
use Rattle.model.specs.lists.Setting.{Scope, met, var_named, type_of_name}
use Rattle.model.specs.rules.Typed.{TypedLets, no_typed_let, typed_let_and, TypedVar}
use Rattle.laws_errors.specs.Steps.{Step, went_on, stopped}
use Rattle.laws_errors.specs.ExprSteps.{expr_step, lets_step, let_step, with_def, deeper_expr_step, is_name, closed}
use Rattle.core_types.specs.declared.ids.Sym.{Sym}
use Rattle.core_types.specs.declared.ids.TypeId.{TypeId}
use Rattle.core_types.specs.declared.ids.VarId.{VarId}
use Rattle.core_typed.specs.declared.exprs.Expr.{Expr}
use Rattle.core_typed.specs.declared.rules.BoundVar.{BoundVar}
use Rattle.core_typed.specs.ExprViews.{expr_view}
use Rattle.core_rules.specs.declared.term_env.TermEnv.{TermEnv}
use Rattle.core_rules.specs.Lets.{before_all}
use Rattle.core_rules.specs.Taking.{Stepping}
use Rattle.core_rules.specs.ShownSettings.{Standing, Wherever}

-- the definitions of a let at a place
abbrev pub lets_steps : LetTrees → Flags → Position → ℕ → Stepping TypedLets
lets_steps defs flags at d e n s = lets_step e flags (deeper_expr_step e flags d) defs at n s

-- one of them, by the names of its variable and of its type, and its value
abbrev pub def_steps : Name → Name → ExprTree → Flags → Position → ℕ → Stepping (TypedLets → TypedLets)
def_steps name ty value flags at d e n s =
    let_step name.text ty.text at s (λ own. expr_step e flags (deeper_expr_step e flags d) value (Some own) n (met s name.text)) (type_of_name e s ty.text)

abbrev pub one_def_steps : LetDef → Flags → Position → ℕ → Stepping (TypedLets → TypedLets)
one_def_steps def flags at d = def_steps (S.name_view def.var) (S.name_view def.ty) (S.expr_view def.val.value) flags at d

-- a definition that was bound, before others
abbrev pub def_view : VarId × TypeId × Box Expr Global → TypedLets → TypedLets
def_view b = typed_let_and b.0.0 b.1.0 (expr_view b.2.value)

-- the definitions that were made, if any
abbrev pub defs_made : Option TypedLets → TypedLets
defs_made m = unwrap_or m no_typed_let

abbrev pub def_made : Option (TypedLets → TypedLets) → TypedLets
def_made m = with_def m no_typed_let

-- whether a definition's variable has the name of a number
abbrev pub is_defined : TypedLets → List TypedVar → ℕ → Bool
is_defined no_typed_let vs k = false
is_defined (typed_let_and x ty value rest) vs k = is_name (slice_get vs x) k || is_defined rest vs k

-- what the name of a number stood for before definitions, behind which the scope is this: for what it stands for once their scope is
-- closed, if one of them has it, else for what it stands for now
abbrev pub before_defs : TypedLets → Scope → ℕ → Option TypedVar → Option TypedVar
before_defs ds t k now = if is_defined ds t.vars k then var_named k (closed ds t).visible else now

-- what is hidden says this of the names of definitions, over what was hidden earlier
abbrev pub Hides : List (Sym × Option BoundVar) → List (Sym × Option BoundVar) → TypedLets → Scope → Type 0
Hides earlier hidden ds t = (k : ℕ) (now : Option TypedVar) → before_all hidden k now ≡ before_all earlier k (before_defs ds t k now)

-- it does where a step goes on
abbrev pub HidesIn : {Q : Type 0} → (Option Q → TypedLets) → List (Sym × Option BoundVar) → List (Sym × Option BoundVar) → Step Q → Type 0
HidesIn made earlier hidden (went_on m t k ws) = Hides earlier hidden (made m) t
HidesIn made earlier hidden (stopped l t ws) = ⊤

-- in each setting and scope
abbrev pub HidesBy : {Q : Type 0} → TermEnv → Standing → Stepping Q → (Option Q → TypedLets) → List (Sym × Option BoundVar) → List (Sym × Option BoundVar) → Type 0
HidesBy env old steps made earlier hidden = Wherever env old (λ e s. HidesIn made earlier hidden (steps e old.work.expansions s))
