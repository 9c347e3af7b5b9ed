-- A sample: a rule that goes over a call and constrains its answers.
--   (decl multi me (u8) u8)
--   (extern extractor me me_fn)
--   (decl multi f (u8) u8)
--   (rule (f (me 1)) 7)
use Rattle.std.specs.Prelude.{◌≡◌, ◌∷◌, [], ℕ, pos, true, false, List, Some, None, codes, Contains}
use Rattle.model.specs.claims.Layers.{own_program}
use Rattle.model.specs.lists.Elaborated.{TypedRules}
use Rattle.model.specs.lists.Syntax.{Definition, declaration}
use Rattle.model.specs.rules.Meaning.{Meaning, many, finite}
use Rattle.model.specs.rules.Outcome.{ran_through}
use Rattle.model.specs.rules.Picks.{Pick, bag, matches_under, picks}
use Rattle.model.specs.rules.Program.{Program, rules_of}
use Rattle.model.specs.rules.Typed.{TypedRule, make_int, match_int, match_term}
use Rattle.model.specs.sites.Serves.{Serves, TellsConstantsApart}
use Rattle.model.specs.sites.Sites.{SetRule, SiteSet, argument_site, extractor_site, iterator_site}
use Rattle.model.specs.trees.Collects.{CollectsTheBag, HasCollectedResults, demands_hold, set_bag}
use Rattle.model.specs.trees.Run.{World, run, world_of}
use Rattle.model.specs.trees.Trees.{Tree, loop_at, match_at, no_step, step}
use Rattle.laws_examples.specs.MeaningForms.{all_of, each, given, literal, v, of_literals}
use Rattle.laws_examples.specs.PickedAnswers.{call_me}
use Rattle.laws_examples.specs.SetForms.{a_rule, byte, is_byte, one_arm, returning}
use Rattle.laws_examples.specs.Stages.{Sample}
use Rattle.laws_examples.specs.TypedForms.{q_list, rules_and_names, typed, u8}
use Rattle.laws_examples.specs.Written.{extractor_by, int, number, numbers, of_f, rule_to, term}

abbrev pub picked_number_defs : List Definition
picked_number_defs =
    declaration (record (numbers 0 (codes "me")) { multi = true }) ∷ extractor_by 1 (codes "me") (codes "me_fn")
    ∷ declaration (record (numbers 2 (codes "f")) { multi = true })
    ∷ rule_to 3 (of_f 3 (term 3 (codes "me") (int 3 (pos 1) ∷ []) ∷ [])) (number 3 (pos 7)) ∷ []

abbrev pub picked_number_rule : TypedRule
picked_number_rule = typed 0 3 1 (pos 0) (Some 14) [] (match_term u8 0 (q_list (match_int u8 (pos 1) ∷ [])) ∷ []) (make_int u8 (pos 7))

abbrev pub picked_number_rules : TypedRules
picked_number_rules = rules_and_names (picked_number_rule ∷ []) (codes "me" ∷ codes "f" ∷ codes "me_fn" ∷ [])

abbrev pub picked_number_program : Program
picked_number_program = own_program picked_number_defs picked_number_rules

abbrev pub seven_for_one : SetRule
seven_for_one = record (a_rule 0 3 (pos 0) ((2, is_byte 1) ∷ []) [] 3) { name = Some 14; iterators = 1 ∷ [] }

abbrev pub picked_number_set : SiteSet
picked_number_set = record { rules = seven_for_one ∷ []; sites = argument_site 0 ∷ extractor_site 0 0 ∷ iterator_site 1 ∷ byte 7 ∷ [] }

-- a loop over the answers, and in it the test
abbrev pub picked_number_tree : Tree
picked_number_tree = step (1 ∷ []) (loop_at 2 (step [] (match_at 2 (one_arm (is_byte 1) [] (returning [] 3 3 no_step))) no_step)) no_step

abbrev pub picked_number_sample : Sample
picked_number_sample = record { defs = picked_number_defs; rules = picked_number_rules; term = 1; multi = true; set = picked_number_set; tree = picked_number_tree; near_trees = [] }

-- me answers 1 and 5 at 1
abbrev pub one_and_five : Meaning
one_and_five = finite (record (of_literals (literal (pos 1) ∷ literal (pos 7) ∷ [])) { extractor_calls = ((0, v (pos 1)), many (all_of (pos 1 ∷ pos 5 ∷ []))) ∷ [] })

abbrev pub picked_number_world : World
picked_number_world = world_of picked_number_program 1 picked_number_set.sites one_and_five (given (pos 1))

-- the meaning has what the rule asks on 1, and tells constants apart; the rule's results can be collected
abbrev pub PickedNumberIsServed : Type 0
PickedNumberIsServed =
    Serves picked_number_program one_and_five (given (pos 1)) (rules_of picked_number_program 1)
    × TellsConstantsApart picked_number_program one_and_five (rules_of picked_number_program 1)
    × HasCollectedResults picked_number_program picked_number_rule

-- the bag, that of the set, and what the run gives are 7 once, and the tree collects the bag on all arguments
abbrev pub PickedNumberGives : Type 0
PickedNumberGives =
    (bag picked_number_program one_and_five picked_number_rules.rules (given (pos 1)) ≡ each (pos 7 ∷ []))
    × (set_bag picked_number_set picked_number_world ≡ each (pos 7 ∷ []))
    × (run picked_number_tree picked_number_world ≡ record { calls = []; results = each (pos 7 ∷ []); ending = ran_through })
    × CollectsTheBag picked_number_program 1 picked_number_set.sites picked_number_tree

-- the pick of an answer by its place
abbrev pub the_answer : ℕ → Pick
the_answer i = (call_me, i) ∷ []

-- under the pick of the second answer, which is 5, the rule doesn't match, and so its demands don't hold
abbrev pub FivesAreNotMatched : Type 0
FivesAreNotMatched =
    Contains (picks picked_number_program one_and_five (given (pos 1)) picked_number_rule) (the_answer 1)
    × (matches_under picked_number_program one_and_five (the_answer 1) picked_number_rule (given (pos 1)) ≡ None)
    × (false ≡ demands_hold picked_number_world (the_answer 1) seven_for_one)
