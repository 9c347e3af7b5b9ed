-- A sample: an external extractor, which may answer nothing.
--   (decl e (u8) u8)
--   (extern extractor e e_fn)
--   (decl f (u8) u8)
--   (rule 1 (f (e 1)) 10)
--   (rule (f (e x)) x)
use Rattle.std.specs.Prelude.{◌∷◌, [], ◌++◌, pos, false, List, Some, None, codes}
use Rattle.model.specs.claims.Layers.{own_program}
use Rattle.model.specs.lists.Elaborated.{TypedRules}
use Rattle.model.specs.lists.Syntax.{Definition, declaration}
use Rattle.model.specs.rules.Meaning.{Content, Meaning, nothing, finite}
use Rattle.model.specs.rules.Outcome.{Outcome}
use Rattle.model.specs.rules.Program.{Program}
use Rattle.model.specs.rules.Typed.{TypedRule, make_int, make_var, match_int, match_term}
use Rattle.model.specs.sites.RuleSets.{IsBuilt}
use Rattle.model.specs.sites.Serves.{Serves, TellsConstantsApart}
use Rattle.model.specs.sites.Sites.{SetRule, SiteSet, argument_site, extractor_site, is_present, match_some_site}
use Rattle.model.specs.trees.Run.{World, world_of}
use Rattle.model.specs.trees.SetRuns.{IsTestedSet, ServesTests}
use Rattle.model.specs.trees.Trees.{Check, Tree, arm, match_at, no_step, step}
use Rattle.laws_examples.specs.MeaningForms.{given, just_number, literal, mute, v, of_literals}
use Rattle.laws_examples.specs.SetForms.{a_rule, byte, is_byte, one_arm, returning}
use Rattle.laws_examples.specs.Stages.{Sample, HasOutcome}
use Rattle.laws_examples.specs.TypedForms.{bind_any, q_list, rules_and_names, typed, typed_var, u8}
use Rattle.laws_examples.specs.Written.{extractor_by, f_of_bytes, int, number, numbers, of_f, rule_first, rule_to, term, var, variable}

abbrev pub extract_defs : List Definition
extract_defs =
    declaration (numbers 0 (codes "e")) ∷ extractor_by 1 (codes "e") (codes "e_fn") ∷ f_of_bytes 2 1
    ∷ rule_first 3 (pos 1) (of_f 3 (term 3 (codes "e") (int 3 (pos 1) ∷ []) ∷ [])) (number 3 (pos 10))
    ∷ rule_to 4 (of_f 4 (term 4 (codes "e") (var 4 (codes "x") ∷ []) ∷ [])) (variable 4 (codes "x")) ∷ []

abbrev pub extract_one : TypedRule
extract_one = typed 0 3 1 (pos 1) None [] (match_term u8 0 (q_list (match_int u8 (pos 1) ∷ [])) ∷ []) (make_int u8 (pos 10))

abbrev pub extract_any : TypedRule
extract_any = typed 1 4 1 (pos 0) None (typed_var 0 16 u8 ∷ []) (match_term u8 0 (q_list (bind_any u8 0 ∷ [])) ∷ []) (make_var u8 0)

abbrev pub extract_rules : TypedRules
extract_rules = rules_and_names (extract_one ∷ extract_any ∷ []) (codes "e" ∷ codes "f" ∷ codes "e_fn" ∷ codes "x" ∷ [])

abbrev pub extract_program : Program
extract_program = own_program extract_defs extract_rules

abbrev pub ten_for_answer_one : SetRule
ten_for_answer_one = a_rule 0 3 (pos 1) ((1, is_present) ∷ (2, is_byte 1) ∷ []) [] 3

abbrev pub answer_itself : SetRule
answer_itself = a_rule 1 4 (pos 0) ((1, is_present) ∷ []) [] 2

abbrev pub extract_set : SiteSet
extract_set = record { rules = ten_for_answer_one ∷ answer_itself ∷ []; sites = argument_site 0 ∷ extractor_site 0 0 ∷ match_some_site 1 ∷ byte 10 ∷ [] }

-- sets that aren't built of these rules: with a constraint left out, with a rule left out, with one site too many
abbrev pub less_asked : SiteSet
less_asked = record extract_set { rules = a_rule 0 3 (pos 1) ((1, is_present) ∷ []) [] 3 ∷ answer_itself ∷ [] }

abbrev pub less_rules : SiteSet
less_rules = record extract_set { rules = ten_for_answer_one ∷ [] }

abbrev pub more_sites : SiteSet
more_sites = record extract_set { sites = extract_set.sites ++ byte 11 ∷ [] }

abbrev pub NearSetsAreNotBuilt : Type 0
NearSetsAreNotBuilt = (IsBuilt extract_program 1 less_asked → ⊥) × (IsBuilt extract_program 1 less_rules → ⊥) × (IsBuilt extract_program 1 more_sites → ⊥)

-- the test of the answer, under the match of the call
abbrev pub answer_tested : Check
answer_tested = match_at 2 (one_arm (is_byte 1) [] (returning [] 3 3 no_step))

-- the call is bound; where there is an answer it is tested, and what isn't met falls through to the lower rule
abbrev pub extract_tree : Tree
extract_tree = step (1 ∷ []) (match_at 1 (one_arm is_present (Some 2 ∷ []) (step [] answer_tested (returning [] 4 2 no_step)))) no_step

-- trees that are no best ones: each rule is tested alone, by descending priority
abbrev pub extract_alone : Tree
extract_alone =
    step (1 ∷ []) (match_at 1 (one_arm is_present (Some 2 ∷ []) (step [] answer_tested no_step)))
    (step [] (match_at 1 (one_arm is_present (Some 2 ∷ []) (returning [] 4 2 no_step))) no_step)

-- two arms of one constraint; and the call is not bound
abbrev pub extract_two_arms : Tree
extract_two_arms =
    step (1 ∷ []) (match_at 1 (arm is_present (Some 2 ∷ []) (step [] answer_tested no_step) (one_arm is_present (Some 2 ∷ []) (returning [] 4 2 no_step)))) no_step

abbrev pub extract_unbound : Tree
extract_unbound = step [] (match_at 1 (one_arm is_present (Some 2 ∷ []) (step [] answer_tested (returning [] 4 2 no_step)))) no_step

abbrev pub extract_near_trees : List Tree
extract_near_trees = extract_alone ∷ extract_two_arms ∷ extract_unbound ∷ []

abbrev pub extract_sample : Sample
extract_sample = record { defs = extract_defs; rules = extract_rules; term = 1; multi = false; set = extract_set; tree = extract_tree; near_trees = extract_near_trees }

-- the call answers this on 7
abbrev pub extract_meaning : Content → Meaning
extract_meaning answer = finite (record (of_literals (literal (pos 1) ∷ literal (pos 10) ∷ [])) { extractor_calls = ((0, v (pos 7)), answer) ∷ [] })

-- the same without calls
abbrev pub extract_mute : Meaning
extract_mute = mute (literal (pos 1) ∷ literal (pos 10) ∷ [])

abbrev pub extract_world : Content → World
extract_world answer = world_of extract_program 1 extract_set.sites (extract_meaning answer) (given (pos 7))

-- choice and run end so where the call answers this
abbrev pub ExtractEnds : Content → Outcome → Type 0
ExtractEnds answer o = HasOutcome extract_sample (extract_meaning answer) (given (pos 7)) o

-- the rules go over no calls, and a world in which the call has an answer serves their tests, whatever the answer
abbrev pub ExtractIsServed : Type 0
ExtractIsServed = IsTestedSet extract_set × ((answer : Content) → ServesTests extract_set (extract_world answer))

-- the meaning has what the rules ask, whether the call answers a number or nothing, and tells their constants apart
abbrev pub ExtractMeaningServes : Type 0
ExtractMeaningServes =
    Serves extract_program (extract_meaning (just_number (pos 1))) (given (pos 7)) extract_rules.rules
    × Serves extract_program (extract_meaning (just_number (pos 5))) (given (pos 7)) extract_rules.rules
    × Serves extract_program (extract_meaning nothing) (given (pos 7)) extract_rules.rules
    × ((answer : Content) → TellsConstantsApart extract_program (extract_meaning answer) extract_rules.rules)
