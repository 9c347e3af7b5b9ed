-- An example of a variable that isn't used, and whose call may fail: that call's spec shows nothing of the rule.
use Rattle.std.specs.Prelude.{true, false, [], ◌∷◌, Some, None}
use Rattle.model.specs.lists.Tables.{TermEntry, declared_term, external_constructor}
use Rattle.model.specs.rules.Program.{Program}
use Rattle.model.specs.rules.Typed.{TypedExpr, make_term, make_let, typed_let_and, no_typed_let, typed_expr_and, no_typed_expr, TypedRule}
use Rattle.laws_specs.specs.Specs.{Specs}
use Rattle.laws_specs.specs.Conditions.{condition, IsValid}
use Rattle.laws_specs.specs.Samples.{a_term, x, rule_of, program_with, providing, specs_with, doubled, below_itself}

-- (decl pure partial maybe (u8) u8), a fourth term
abbrev pub maybe_term : TermEntry
maybe_term = record (a_term 3 (1 ∷ [])) { kind = declared_term (record { pure = true; multi = false; partial = true; rec = false }) (Some (external_constructor 3)) None }

-- (let ((y u8 (maybe x))) BODY)
abbrev pub with_maybe : TypedExpr → TypedExpr
with_maybe body = make_let 1 (typed_let_and 1 1 (make_term 1 3 (typed_expr_and x no_typed_expr)) no_typed_let) body

abbrev pub unused_rule : TypedRule
unused_rule = rule_of (with_maybe x)

abbrev pub maybes : Program
maybes = record (program_with (with_maybe x)) { terms = a_term 0 (1 ∷ []) ∷ (a_term 1 (1 ∷ (1 ∷ [])) ∷ (a_term 2 (1 ∷ []) ∷ (maybe_term ∷ []))) }

-- `twice` provides the double, and `maybe` what never holds: it gives no value
abbrev pub maybe_specs : Specs
maybe_specs = record (specs_with (doubled ∷ []) [] []) { terms = (0, providing (doubled ∷ [])) ∷ ((3, providing (below_itself ∷ [])) ∷ []) }

-- the rule gives x, which isn't its double: that `maybe` gives no value doesn't make it right
abbrev pub UnusedCallsShowNothing : Type 0
UnusedCallsShowNothing = IsValid maybes maybe_specs (condition maybes unused_rule) → ⊥
