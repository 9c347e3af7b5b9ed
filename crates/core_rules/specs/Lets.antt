-- The scopes of lets: what their names stood for before.
use Rattle.std.specs.Prelude.{◌≡◌, ⊤, ℕ, nat_eq, List, [], ◌∷◌, length, Option, Some, None, option_map, Result, Ok, Err, Box, if◌then◌else◌}
use Rattle.std.specs.declared.alloc.Global.{Global}
use Rattle.model.specs.lists.Syntax.{Name, LetTrees, let_and}
use Rattle.core_syntax.specs.declared.syntax.LetDef.{LetDef}
use Rattle.core_syntax.specs.SyntaxViews.{position, name_view, expr_view}
use Rattle.model.specs.lists.Names.{number, with_name}
use Rattle.model.specs.rules.Typed.{TypedVar, TypedExpr}
use Rattle.core_types.specs.declared.ids.Sym.{Sym}
use Rattle.core_types.specs.declared.ids.TypeId.{TypeId}
use Rattle.core_types.specs.declared.ids.VarId.{VarId}
use Rattle.core_types.specs.declared.type_env.TypeEnv.{TypeEnv}
use Rattle.core_types.specs.Envs.{names_of, type_of_name}
use Rattle.core_syntax.specs.NotedErrors.{NotesMore}
use Rattle.core_syntax.specs.declared.syntax.Error.{Error}
use Rattle.core_typed.specs.declared.exprs.Expr.{Expr}
use Rattle.core_typed.specs.declared.rules.BoundVar.{BoundVar}
use Rattle.core_rules.specs.declared.typing.progress.Progress.{Progress}
use Rattle.core_typed.specs.ExprViews.{let_view}
use Rattle.core_typed.specs.RuleViews.{var_view}
use Rattle.core_rules.specs.Progress.{newest, vars_of, BindsNext}

-- one definition before others
abbrev pub with_let : LetDef → LetTrees → LetTrees
with_let d rs = let_and (name_view d.var) (name_view d.ty) (expr_view d.val.value) (position d.pos) rs

-- what a name stood for before the names of a list were bound: what is said of it first, else what it stands for now
abbrev pub before_all : List (Sym × Option BoundVar) → ℕ → Option TypedVar → Option TypedVar
before_all [] k now = now
before_all (h ∷ hs) k now = if nat_eq h.0.0 k then option_map var_view h.1 else before_all hs k now

-- the name and the type of a definition: the type is known, or it was noted that it isn't. The name is met either way
abbrev pub Begins : {E : Type 0} → TypeEnv → TypeEnv → List Error → List Error → Name → Name → Result (Option (Sym × TypeId)) E → Type 0
Begins old new before after name ty (Ok (Some (x, t))) =
    (after ≡ before) × (names_of new ≡ with_name (names_of old) name.text) × (x.0 ≡ number (names_of old) name.text) × (Some t.0 ≡ type_of_name old ty.text)
Begins old new before after name ty (Ok None) = NotesMore before after × (None ≡ type_of_name old ty.text) × (names_of new ≡ with_name (names_of old) name.text)
Begins old new before after name ty (Err e) = ⊤

-- a definition's name is bound to its value, and what it stood for before comes last among what is hidden
pub record BindsDef (old new : Progress) (earlier hidden : List (Sym × Option BoundVar)) (name ty : ℕ) (value : TypedExpr) (made : VarId × TypeId × Box Expr Global) : Type 0 where
  pub id : made.0.0 ≡ length old.seen.items
  pub view : let_view made ≡ (made.0.0, ty, value)
  pub binds : BindsNext name ty old new
  pub hides : (k : ℕ) (now : Option TypedVar) → before_all hidden k now ≡ before_all earlier k (if nat_eq name k then newest old name else now)

abbrev pub Binds : {E : Type 0} → Progress → Progress → List (Sym × Option BoundVar) → List (Sym × Option BoundVar) → ℕ → ℕ → TypedExpr → Result (VarId × TypeId × Box Expr Global) E → Type 0
Binds old new earlier hidden name ty value (Ok made) = BindsDef old new earlier hidden name ty value made
Binds old new earlier hidden name ty value (Err e) = ⊤

-- each name stands for what it stood for before those of a list were bound
pub record Closes (hidden : List (Sym × Option BoundVar)) (old new : Progress) : Type 0 where
  pub vars : vars_of new ≡ vars_of old
  pub names : (k : ℕ) → newest new k ≡ before_all hidden k (newest old k)
  pub expansions : new.expansions ≡ old.expansions
  pub errors : new.errors.items ≡ old.errors.items
