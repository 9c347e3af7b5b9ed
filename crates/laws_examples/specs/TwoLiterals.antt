-- A sample: two rules of one priority for different numbers, so that the demands of one at most hold.
--   (decl f (u8) u8)
--   (rule (f 1) 1)
--   (rule (f 2) 2)
use Rattle.std.specs.Prelude.{◌∷◌, [], pos, false, List, None, codes}
use Rattle.model.specs.claims.Layers.{own_program}
use Rattle.model.specs.lists.Elaborated.{TypedRules}
use Rattle.model.specs.lists.Syntax.{Definition}
use Rattle.model.specs.rules.Program.{Program, rules_of}
use Rattle.model.specs.rules.Typed.{make_int, match_int}
use Rattle.model.specs.sites.Serves.{Serves, TellsConstantsApart}
use Rattle.model.specs.sites.Sites.{SiteSet}
use Rattle.model.specs.trees.SetRuns.{HasNoWrongOverlap, HoldsOnce, ServesTests}
use Rattle.model.specs.trees.Trees.{Tree, arm, match_at, no_step, step}
use Rattle.laws_examples.specs.MeaningForms.{given}
use Rattle.laws_examples.specs.SmallestInputs.{at_one, at_two, one_or_two_world}
use Rattle.laws_examples.specs.SetForms.{is_byte, one_arm, returning}
use Rattle.laws_examples.specs.Stages.{Sample}
use Rattle.laws_examples.specs.TypedForms.{rules_and_names, typed, u8}
use Rattle.laws_examples.specs.Written.{f_of_bytes, int, number, of_f, rule_to}

abbrev pub one_or_two_defs : List Definition
one_or_two_defs = f_of_bytes 0 1 ∷ rule_to 1 (of_f 1 (int 1 (pos 1) ∷ [])) (number 1 (pos 1)) ∷ rule_to 2 (of_f 2 (int 2 (pos 2) ∷ [])) (number 2 (pos 2)) ∷ []

abbrev pub one_or_two_rules : TypedRules
one_or_two_rules =
    rules_and_names
    (typed 0 1 0 (pos 0) None [] (match_int u8 (pos 1) ∷ []) (make_int u8 (pos 1))
    ∷ typed 1 2 0 (pos 0) None [] (match_int u8 (pos 2) ∷ []) (make_int u8 (pos 2)) ∷ [])
    (codes "f" ∷ [])

abbrev pub one_or_two_program : Program
one_or_two_program = own_program one_or_two_defs one_or_two_rules

abbrev pub one_or_two_set : SiteSet
one_or_two_set = record { rules = at_one ∷ at_two ∷ []; sites = one_or_two_world.sites }

-- one match for both
abbrev pub one_or_two_tree : Tree
one_or_two_tree = step [] (match_at 0 (arm (is_byte 1) [] (returning [] 1 1 no_step) (one_arm (is_byte 2) [] (returning [] 2 2 no_step)))) no_step

abbrev pub one_or_two_sample : Sample
one_or_two_sample = record { defs = one_or_two_defs; rules = one_or_two_rules; term = 0; multi = false; set = one_or_two_set; tree = one_or_two_tree; near_trees = [] }

-- literals have their own values: that has what the rules ask on 1, and tells constants apart
abbrev pub OneOrTwoIsServed : Type 0
OneOrTwoIsServed =
    Serves one_or_two_program one_or_two_world.meaning (given (pos 1)) (rules_of one_or_two_program 0)
    × TellsConstantsApart one_or_two_program one_or_two_world.meaning (rules_of one_or_two_program 0)

-- so the world has what tests ask; no two rules of the set overlap wrongly, and the demands of one alone hold
abbrev pub OneOrTwoHoldsOnce : Type 0
OneOrTwoHoldsOnce = ServesTests one_or_two_set one_or_two_world × HasNoWrongOverlap one_or_two_set.rules × HoldsOnce one_or_two_set.rules one_or_two_world
