-- Samples of questions, as they are computed.
--   (type V (primitive V))                 a word of 8 or 16 bits
--   (type E extern (enum A (B (v V))))
--   (decl f (E) V)
--   (decl g () E)                          an extractor that may fail
--   (decl h (V) E)                         another, with an output
use Rattle.std.specs.Prelude.{◌≡◌, ℕ, Bool, true, false, List, [], ◌∷◌, if◌then◌else◌}
use Rattle.std.specs.Bool.{◌==◌}
use Rattle.model.specs.lists.Syntax.{Position}
use Rattle.model.specs.lists.Tables.{TypeEntry, builtin_type, primitive_type, enum_type, struct_entries, unit_entries, TermEntry, variant_term}
use Rattle.model.specs.rules.Program.{Program}
use Rattle.model.specs.sites.Sites.{Constraint, is_variant, is_present, SiteTerm, argument, extractor_call, variant_field, some_part}
use Rattle.laws_specs.specs.Words.{a_truth, a_word, variant_of, no_denoted, equals}
use Rattle.laws_specs.specs.Specs.{Sort, words_among, SpecExpr, its_argument, its_result, variable, the_same, operation, variant_said, match_on, no_spec_expr, spec_expr_and, SpecArms, no_spec_arm, spec_arm_and, arm_else, Spec, Specs, no_unknown}
use Rattle.laws_specs.specs.Conditions.{Condition}
use Rattle.laws_specs.specs.Meets.{Atoms, IsDenotation}
use Rattle.model_questions.specs.Formulas.{Place, argument_at, output_at, variant_field_at, word_at, Fact, known, as_wide, is_kind, fact_by, both_facts, one_fact, no_fact, no_operand, word_and}
use Rattle.model_questions.specs.Questions.{questions}

abbrev pub here : Position
here = record { file = 0; offset = 0 }

abbrev pub types : List TypeEntry
types =
    builtin_type 0 ∷ primitive_type 1 1 here
    ∷ enum_type 2 2 true false
    (record { name = 3; full_name = 4; id = 0; fields = unit_entries; at = here } ∷ record { name = 5; full_name = 6; id = 1; fields = struct_entries (record { name = 7; id = 0; ty = 1 } ∷ []); at = here } ∷ []) here
    ∷ []

abbrev pub a_term : ℕ → List ℕ → ℕ → TermEntry
a_term id args result = record { id = id; at = here; name = id; arg_tys = args; ret_ty = result; kind = variant_term 0 }

abbrev pub program : Program
program = record { types = types; constants = []; terms = a_term 0 (2 ∷ []) 1 ∷ a_term 1 [] 2 ∷ a_term 2 (1 ∷ []) 2 ∷ []; rules = [] }

abbrev pub provides : SpecExpr → Spec
provides e = record { require = []; provide = e ∷ [] }

abbrev pub specs_with : List (ℕ × Sort) → Spec → Spec → Specs
specs_with models of_f of_g = record { models = models; constants = []; unknowns = no_unknown; unknown_sorts = []; terms = (0, of_f) ∷ (1, of_g) ∷ [] }

abbrev pub words_of_v : ℕ × Sort
words_of_v = (1, words_among (8 ∷ 16 ∷ []))

abbrev pub so : SpecExpr
so = the_same (a_truth true)

abbrev pub is_a : SpecArms
is_a = spec_arm_and 2 0 so no_spec_arm

abbrev pub is_a_or_b : SpecArms
is_a_or_b = spec_arm_and 2 0 so (spec_arm_and 2 1 so no_spec_arm)

abbrev pub is_a_or_other : SpecArms
is_a_or_other = spec_arm_and 2 0 so (arm_else so)

abbrev pub asking : List (SiteTerm × Constraint) → SiteTerm → Condition
asking constraints result = record { term = 0; constraints = constraints; equalities = []; made = argument 0 ∷ extractor_call 1 (argument 0) ∷ extractor_call 2 (argument 0) ∷ variant_field (argument 0) 1 0 ∷ []; impure = []; result = result }

abbrev pub each_place : Place → Bool
each_place at = true

abbrev pub asked : Specs → List (SiteTerm × Constraint) → SiteTerm → List (List Fact)
asked specs constraints result = questions program specs (asking constraints result) each_place

-- the argument, and the field of B in it
abbrev pub arg : Place
arg = argument_at 0

abbrev pub field : Place
field = variant_field_at arg 2 1 0

abbrev pub same_as_itself : Place → ℕ → Fact
same_as_itself at w = fact_by equals (word_and w (word_at at w) (word_and w (word_at at w) no_operand))

-- the output of h, of the argument
abbrev pub output : Place
output = output_at (extractor_call 2 (argument 0)) 0

-- (provide (= result (match e ((B v) v)))): which variant it is, is known before the spec is asked; and the field is asked at each width
abbrev pub gives_field : Spec
gives_field = provides (operation equals (spec_expr_and its_result (spec_expr_and (match_on (its_argument 0) (spec_arm_and 2 1 (variable 0) no_spec_arm)) no_spec_expr)))

-- atoms that are there nonetheless stand for A
abbrev pub closed_specs : Specs
closed_specs = specs_with ((2, words_among []) ∷ words_of_v ∷ []) (provides (match_on (its_argument 0) is_a_or_b)) (provides so)

abbrev pub atoms_as_a : Atoms
atoms_as_a ty z = if ty == 2 then variant_of 2 0 no_denoted else a_word 8 0

pub record FormsAreAsked : Type 0 where
  pub fields : asked (specs_with (words_of_v ∷ []) gives_field (provides so)) ((argument 0, is_variant 2 1 1) ∷ []) (variant_field (argument 0) 1 0)
      ≡ (no_fact (same_as_itself field 8) ∷ as_wide field 8 ∷ is_kind arg 1 ∷ []) ∷ ((no_fact (same_as_itself field 16) ∷ as_wide field 16 ∷ is_kind arg 1 ∷ []) ∷ [])
  -- of an atom a match without an arm for it says nothing
  pub open_enum : asked (specs_with (words_of_v ∷ []) (provides (match_on (its_argument 0) is_a_or_b)) (provides so)) [] (argument 0) ≡ (no_fact (one_fact (is_kind arg 0) (is_kind arg 1)) ∷ []) ∷ []
  -- with an arm for it, what it says of it isn't followed: an assumption then excludes no atom
  pub other_arm : asked (specs_with (words_of_v ∷ []) (provides so) (provides (match_on its_result is_a_or_other))) ((extractor_call 1 (argument 0), is_present) ∷ []) (argument 0)
      ≡ (known false ∷ one_fact (one_fact (is_kind arg 0) (is_kind arg 1)) (both_facts (no_fact (is_kind arg 0)) (no_fact (is_kind arg 1))) ∷ known true ∷ []) ∷ []
  -- without one it does
  pub no_other_arm : asked (specs_with (words_of_v ∷ []) (provides so) (provides (match_on its_result is_a_or_b))) ((extractor_call 1 (argument 0), is_present) ∷ []) (argument 0)
      ≡ (known false ∷ one_fact (is_kind arg 0) (is_kind arg 1) ∷ known true ∷ []) ∷ []
  -- an enum whose sort has no words has no atoms: what isn't A is B
  pub closed_enum : asked closed_specs [] (argument 0)
      ≡ (no_fact (one_fact (is_kind arg 0) (no_fact (is_kind arg 0))) ∷ []) ∷ []
  pub denoted : IsDenotation program closed_specs atoms_as_a
  -- an answer that is asked to be there is as its spec says: that shows the goal, so no solver is asked
  pub present : asked (specs_with (words_of_v ∷ []) (provides (match_on (its_argument 0) is_a)) (provides (match_on its_result is_a))) ((extractor_call 1 (argument 0), is_present) ∷ []) (argument 0)
      ≡ (known false ∷ is_kind arg 0 ∷ known true ∷ []) ∷ []
  -- a variant that is made is one
  pub made : asked (specs_with (words_of_v ∷ []) (provides (match_on (variant_said 2 0 no_spec_expr) is_a)) (provides so)) [] (argument 0) ≡ (known false ∷ []) ∷ []
  -- the output of an extractor that may fail, as the result, is a word of its type
  pub unwrapped : asked (specs_with (words_of_v ∷ []) (provides (operation equals (spec_expr_and its_result (spec_expr_and its_result no_spec_expr)))) (provides so)) ((extractor_call 2 (argument 0), is_present) ∷ []) (some_part (extractor_call 2 (argument 0)))
      ≡ (no_fact (same_as_itself output 8) ∷ as_wide output 8 ∷ known true ∷ []) ∷ ((no_fact (same_as_itself output 16) ∷ as_wide output 16 ∷ known true ∷ []) ∷ [])
