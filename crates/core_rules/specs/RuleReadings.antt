-- How if-lets and the sides of rules are read: patterns as the function of typing reads them, expressions as if each term
-- had a constructor.
use Rattle.std.specs.Prelude.{ℕ, List, [], ◌∷◌, map, Option, Some, None, if◌then◌else◌}
use Rattle.model.specs.lists.Syntax.{IfLetTree, RuleTree}
use Rattle.model.specs.lists.Tables.{Flags, TermEntry}
use Rattle.model.specs.rules.Typed.{TypedIfLet, TypedExpr, TypedRule}
use Rattle.model.specs.lists.Setting.{Setting, Scope, expr_type, on_lhs, term_of, declared_flags}
use Rattle.model.specs.lists.Typings.{Typing, plain, followed}
use Rattle.model.specs.lists.Elaborated.{typed_iflet, root_parts, Sides, sides_of, last_sides, finished_rule, may_have_priority}
use Rattle.model.specs.lists.TermTable.{root_name}
use Rattle.model.specs.rules.Outcome.{then_option}
use Rattle.core_typed.specs.declared.rules.BoundVar.{BoundVar}
use Rattle.core_rules.specs.declared.typing.sides.RuleSides.{RuleSides}
use Rattle.core_rules.specs.ExprReadings.{expr_reading}
use Rattle.core_typed.specs.ExprViews.{expr_view}
use Rattle.core_rules.specs.PatternReadings.{pattern_reading, parts_reading}
use Rattle.core_typed.specs.PatternViews.{pattern_views, pattern_parts}
use Rattle.core_typed.specs.RuleViews.{iflet_view, var_view}
use Rattle.core_rules.specs.ShownSettings.{Reading}

-- the expression of an if-let, at any type, then its pattern at that type
abbrev pub iflet_reading : IfLetTree → Flags → Reading TypedIfLet
iflet_reading i flags e c s = followed typed_iflet (expr_reading i.expr (on_lhs flags) None e c s) (λ a. pattern_reading flags.multi i.pattern (expr_type a.made) e c a.scope)

-- if-lets in order
abbrev pub iflets_reading : List IfLetTree → Flags → Reading (List TypedIfLet)
iflets_reading [] flags e c s = Some (plain [] s)
iflets_reading (i ∷ is) flags e c s = followed ◌∷◌ (iflet_reading i flags e c s) (λ a. iflets_reading is flags e c a.scope)

-- if-lets in order, then the right side at the type of what the term makes
abbrev pub ends_reading : RuleTree → Flags → TermEntry → Reading (List TypedIfLet × TypedExpr)
ends_reading r flags t e c s = followed last_sides (iflets_reading r.iflets flags e c s) (λ b. expr_reading r.expr flags (Some t.ret_ty) e c b.scope)

-- arguments at the types of the rule's term, then the rest
abbrev pub sides_reading : RuleTree → Flags → TermEntry → Reading Sides
sides_reading r flags t e c s = followed sides_of (parts_reading flags.multi (root_parts r.pattern) t.arg_tys e c s) (λ a. ends_reading r flags t e c a.scope)

-- what the sides of a rule say
abbrev pub sides_view : RuleSides → Sides
sides_view r = (pattern_parts (pattern_views r.args.items), (map iflet_view r.iflets.items, expr_view r.rhs))

-- a scope of these names and variables, of which none can be used
abbrev pub scope_of : List (List ℕ) → List BoundVar → Scope
scope_of names vars = record { names = names; visible = []; vars = map var_view vars }

-- a rule of an entry of the term table, under that term's flags
abbrev pub rule_of_entry : RuleTree → ℕ → TermEntry → Flags → Setting → ℕ → Scope → Option (Typing TypedRule)
rule_of_entry r id t flags e c s = if may_have_priority flags r then finished_rule id r t (sides_reading r flags t e c s) else None

-- a rule of a declared term
abbrev pub rule_reading : RuleTree → ℕ → Reading TypedRule
rule_reading r id e c s =
    then_option (root_name r.pattern) (λ n. then_option (term_of e s n.text) (λ t. then_option (declared_flags t.kind) (λ flags. rule_of_entry r id t flags e c s)))
