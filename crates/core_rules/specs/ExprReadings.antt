-- How expressions are read, as the function of typing says. Whether each term that an expression names has a constructor is
-- looked at after all rules: until then it is taken to have one.
use Rattle.std.specs.Prelude.{ℕ, Option, option_map}
use Rattle.model.specs.lists.Syntax.{ExprTree, LetTrees}
use Rattle.model.specs.lists.Tables.{Flags}
use Rattle.model.specs.rules.Typed.{TypedExpr, TypedLets}
use Rattle.model.specs.lists.Elaborated.{elaborated_expr, lets_with, deeper_expr}
use Rattle.laws_errors.specs.AllMade.{all_made}
use Rattle.core_types.specs.declared.ids.TypeId.{TypeId}
use Rattle.core_rules.specs.ShownSettings.{Reading}

-- the type that is expected, where one is
abbrev pub expected : Option TypeId → Option ℕ
expected ty = option_map (λ t. t.0) ty

-- an expression, under the flags in force, where a type, or any type, is expected
abbrev pub expr_reading : ExprTree → Flags → Option ℕ → Reading TypedExpr
expr_reading x flags ty e c s = elaborated_expr (all_made e) flags c x ty s

-- the definitions of a let
abbrev pub lets_reading : LetTrees → Flags → Reading TypedLets
lets_reading defs flags e c s = lets_with (all_made e) flags (deeper_expr (all_made e) flags c) defs s
