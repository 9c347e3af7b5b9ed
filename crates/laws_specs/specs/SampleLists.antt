-- An example of a term that answers lists: each answer of the multi call that its rule makes is as the spec of that call says.
use Rattle.std.specs.Prelude.{◌≡◌, true, false, [], ◌∷◌, Some, None}
use Rattle.model.specs.lists.Tables.{TermEntry, declared_term, external_constructor}
use Rattle.model.specs.rules.Values.{no_value, value_and}
use Rattle.model.specs.rules.Meaning.{one, many, Contents, no_content, content_and, Meaning, finite}
use Rattle.model.specs.rules.Picks.{bag}
use Rattle.model.specs.rules.Program.{Program, is_multi, rules_of}
use Rattle.model.specs.rules.Typed.{TypedExpr, make_term, no_typed_expr, typed_expr_and}
use Rattle.laws_typing.specs.WellTypedPrograms.{IsWellTypedProgram}
use Rattle.laws_specs.specs.Specs.{Specs}
use Rattle.laws_specs.specs.Conditions.{condition, IsValid}
use Rattle.laws_specs.specs.ConditionLaws.{AreValid, IsCalled}
use Rattle.laws_specs.specs.CollectLaws.{MakesNoImpureCall}
use Rattle.laws_specs.specs.Samples.{a_term, x, rule_of, program_with, providing, specs_with, doubled}
use Rattle.laws_specs.specs.SampleCalls.{bytes_as, a_byte, hundred}

-- (decl pure multi alike (u8) u8), which has the rule (alike x) RHS, and (decl pure multi like (u8) u8), external
abbrev pub answering_lists : TermEntry → TermEntry
answering_lists t = record t { kind = declared_term (record { pure = true; multi = true; partial = false; rec = false }) (Some (external_constructor t.id)) None }

abbrev pub lists_with : TypedExpr → Program
lists_with rhs = record (program_with rhs) { terms = answering_lists (a_term 0 (1 ∷ [])) ∷ (answering_lists (a_term 1 (1 ∷ [])) ∷ []) }

abbrev pub liking : TypedExpr
liking = make_term 1 1 (typed_expr_and x no_typed_expr)

-- both provide the double, at each answer
abbrev pub list_specs : Specs
list_specs = record (specs_with [] [] []) { terms = (0, providing (doubled ∷ [])) ∷ ((1, providing (doubled ∷ [])) ∷ []) }

-- (alike x) by (like x) is right; by x it isn't
abbrev pub ListsAreSaid : Type 0
ListsAreSaid =
    IsValid (lists_with liking) list_specs (condition (lists_with liking) (rule_of liking))
    × (IsValid (lists_with x) list_specs (condition (lists_with x) (rule_of x)) → ⊥)

-- `like` of 100 answers 200 twice
abbrev pub twice_200 : Contents
twice_200 = content_and (one (a_byte 200)) (content_and (one (a_byte 200)) no_content)

abbrev pub liking_100 : Meaning
liking_100 =
    finite
    (record {
      literals = [];
      constants = [];
      extractor_calls = [];
      pure_calls = ((1, value_and (a_byte 100) no_value), many twice_200) ∷ [];
      impure_calls = [];
    })

-- all premises of the law of bags hold together, and the bag has 200 twice
pub record BagPremisesHold : Type 0 where
  pub well_typed : IsWellTypedProgram (lists_with liking)
  pub multi : is_multi (lists_with liking) 0 ≡ true
  pub quiet : MakesNoImpureCall (lists_with liking) 0
  pub valid : AreValid (lists_with liking) list_specs 0
  pub is_called : IsCalled (lists_with liking) list_specs 0 bytes_as liking_100 hundred []
  pub collected : bag (lists_with liking) liking_100 (rules_of (lists_with liking) 0) hundred ≡ one (a_byte 200) ∷ (one (a_byte 200) ∷ [])
