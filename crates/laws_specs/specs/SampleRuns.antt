-- A whole run: a term with rules calls another one, and what is outside.
use Rattle.std.specs.Prelude.{ℕ, Bool, true, false, List, [], ◌∷◌, Option, Some, None, ◌&&◌, if◌then◌else◌}
use Rattle.std.specs.Bool.{◌==◌}
use Rattle.model.specs.lists.Tables.{TermEntry, declared_term, internal_constructor}
use Rattle.model.specs.rules.Values.{Values, no_value, value_and, values_eq}
use Rattle.model.specs.rules.Meaning.{Content, one}
use Rattle.model.specs.rules.Outcome.{Call}
use Rattle.model.specs.rules.Program.{Program}
use Rattle.model.specs.rules.Typed.{TypedExpr, make_term, no_typed_expr, typed_expr_and, TypedRule}
use Rattle.laws_specs.specs.Samples.{a_term, impurely, x, adding, noting, rule_of, program_with}
use Rattle.laws_specs.specs.SampleCalls.{a_byte, as_written}
use Rattle.laws_specs.specs.WholeRuns.{Outside, by_rules, WholeRun}

-- terms: 0 `twice`, 1 `add`, pure and external, 2 `note`, impure and external, 3 `noted`, impure
-- (rule (twice x) (add x x))
-- (rule (noted x) (note (twice x)))
abbrev pub doubling : TypedExpr → TypedExpr
doubling a = make_term 1 0 (typed_expr_and a no_typed_expr)

abbrev pub noted_rule : TypedRule
noted_rule = record (rule_of (noting (doubling x))) { id = 1; root_term = 3; at = record { file = 0; offset = 19 } }

-- by rules: pure or not
abbrev pub by_its_rules : Bool → ℕ → TermEntry
by_its_rules pure id = record (a_term id (1 ∷ [])) { kind = declared_term (record { pure = pure; multi = false; partial = false; rec = false }) (Some internal_constructor) None }

abbrev pub noting_program : Program
noting_program = record (program_with (adding x x)) {
  terms = by_its_rules true 0 ∷ (a_term 1 (1 ∷ (1 ∷ [])) ∷ (impurely (a_term 2 (1 ∷ [])) ∷ (by_its_rules false 3 ∷ [])));
  rules = rule_of (adding x x) ∷ (noted_rule ∷ []);
}

-- outside, `add` of 100 and 100 answers 200, and the first call of `note` answers 7
abbrev pub hundreds : Values
hundreds = value_and (a_byte 100) (value_and (a_byte 100) no_value)

abbrev pub first_answer : List Call → Option Content
first_answer [] = Some (one (a_byte 7))
first_answer (call ∷ calls) = None

abbrev pub adds_and_notes : Outside
adds_and_notes = record {
  literals = λ l. Some (as_written l);
  constants = λ name. None;
  extractors = λ t v. None;
  pures = λ t vs. if (1 == t) && values_eq hundreds vs then Some (one (a_byte 200)) else None;
  impures = λ before call. first_answer before;
}

abbrev pub call_of : ℕ → ℕ → Call
call_of t n = record { term = t; args = value_and (a_byte n) no_value }

-- `noted` of 100 calls `twice`, whose 200 it hands to `note`, and gives what that answers. So calls nest two deep, and one alone isn't enough
pub record RunsAreWhole : Type 0 where
  pub whole : WholeRun (by_rules noting_program) noting_program adds_and_notes 2 (call_of 3 100) [] (one (a_byte 7)) (call_of 2 200 ∷ [])
  pub nested : (before : List Call) → WholeRun (by_rules noting_program) noting_program adds_and_notes 1 (call_of 0 100) before (one (a_byte 200)) before
  pub too_deep : (before after : List Call) (c : Content) → WholeRun (by_rules noting_program) noting_program adds_and_notes 1 (call_of 3 100) before c after → ⊥
