-- What a rule is that hangs together, part by part.
use Rattle.std.proofs.Common.{◌≡◌, ℕ, ◌==◌, true, ◌&&◌, List, [], ◌∷◌, Some, slice_get, arith}
use Rattle.std.proofs.lemmas.Bool.{and_parts}
use Rattle.std.proofs.lemmas.Grind.{common_steps}
use Rattle.model.specs.rules.Outcome.{then_option}
use Rattle.model.specs.lists.Tables.{TermEntry}
use Rattle.model.specs.rules.Program.{Program}
use Rattle.model.specs.rules.Typed.{TypedIfLet, TypedRule}
use Rattle.model.specs.lists.Setting.{expr_type}
use Rattle.model.specs.lists.Formed.{pattern_type, formed_pattern, is_formed_expr, formed_list, formed_iflets, is_formed_rule}
use Rattle.laws_sites.proofs.Patterns.{from_then}
use Rattle.laws_typing.proofs.FormedParts.{from_if, from_vars}

-- the variables after the first of some if-lets, and those after the rest
pub record IfLetParts (p : Program) (i : TypedIfLet) (is : List TypedIfLet) (vars more : List (ℕ × ℕ)) : Type 0 where
  pub mid : List (ℕ × ℕ)
  pub value : is_formed_expr p i.rhs vars ≡ true
  pub typed : (pattern_type i.lhs == expr_type i.rhs) ≡ true
  pub pattern : formed_pattern p i.lhs vars ≡ Some mid
  pub rest : formed_iflets p is mid ≡ Some more

pub iflet_parts : (p : Program) (i : TypedIfLet) (is : List TypedIfLet) (vars more : List (ℕ × ℕ)) → formed_iflets p (i ∷ is) vars ≡ Some more → IfLetParts p i is vars more
iflet_parts p i is vars more f =
    let a = from_if (is_formed_expr p i.rhs vars && (pattern_type i.lhs == expr_type i.rhs)) (then_option (formed_pattern p i.lhs vars) (λ mid. formed_iflets p is mid)) more f in
    let b = and_parts (is_formed_expr p i.rhs vars) (pattern_type i.lhs == expr_type i.rhs) a.0 in
    let c = from_then (formed_pattern p i.lhs vars) (λ mid. formed_iflets p is mid) more a.1 in
    record { mid = c.0; value = b.0; typed = b.1; pattern = c.1; rest = c.2 }

-- the rule's term, the variables after its arguments and after its if-lets, and its right side
pub record RuleParts (p : Program) (r : TypedRule) : Type 0 where
  pub entry : TermEntry
  pub there : slice_get p.terms r.root_term ≡ Some entry
  pub mid : List (ℕ × ℕ)
  pub args : formed_list p r.args entry.arg_tys [] ≡ Some mid
  pub vars : List (ℕ × ℕ)
  pub iflets : formed_iflets p r.iflets mid ≡ Some vars
  pub typed : (expr_type r.rhs == entry.ret_ty) ≡ true
  pub right : is_formed_expr p r.rhs vars ≡ true

pub rule_parts : (p : Program) (r : TypedRule) → is_formed_rule p r ≡ true → RuleParts p r
rule_parts p r f = grind (arith, common_steps, from_vars, from_then, and_parts)
