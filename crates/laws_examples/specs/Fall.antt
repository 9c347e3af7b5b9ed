-- A sample: a rule for a literal, and a lower one that what doesn't meet it falls through to.
--   (decl f (u8) u8)
--   (rule 1 (f 1) 10)
--   (rule (f x) x)
use Rattle.std.specs.Prelude.{◌≡◌, ◌∷◌, [], ℤ, pos, false, List, Some, None, slice_get, codes}
use Rattle.model.specs.claims.Layers.{own_program}
use Rattle.model.specs.lists.Elaborated.{TypedRules}
use Rattle.model.specs.lists.Syntax.{Definition}
use Rattle.model.specs.rules.Meaning.{Meaning}
use Rattle.model.specs.rules.Program.{Program}
use Rattle.model.specs.rules.Typed.{TypedRule, make_int, make_var, match_int}
use Rattle.model.specs.sites.Overlap.{BuiltRule, IsSubsetPair, built_rules}
use Rattle.model.specs.sites.Sites.{SetRule, SiteSet, argument_site}
use Rattle.model.specs.trees.Run.{World, run}
use Rattle.model.specs.trees.Trees.{Tree, arm, match_at, no_step, step}
use Rattle.laws_examples.specs.MeaningForms.{answers, given, literal, mute}
use Rattle.laws_examples.specs.SetForms.{a_rule, byte, is_byte, one_arm, returning}
use Rattle.laws_examples.specs.Stages.{Sample}
use Rattle.laws_examples.specs.TypedForms.{bind_any, rules_and_names, typed, typed_var, u8}
use Rattle.laws_examples.specs.Written.{f_of_bytes, int, number, of_f, rule_first, rule_to, var, variable}

-- the definitions, and their typed rules
abbrev pub fall_defs : List Definition
fall_defs =
    f_of_bytes 0 1
    ∷ rule_first 1 (pos 1) (of_f 1 (int 1 (pos 1) ∷ [])) (number 1 (pos 10))
    ∷ rule_to 2 (of_f 2 (var 2 (codes "x") ∷ [])) (variable 2 (codes "x")) ∷ []

abbrev pub fall_one : TypedRule
fall_one = typed 0 1 0 (pos 1) None [] (match_int u8 (pos 1) ∷ []) (make_int u8 (pos 10))

abbrev pub fall_any : TypedRule
fall_any = typed 1 2 0 (pos 0) None (typed_var 0 14 u8 ∷ []) (bind_any u8 0 ∷ []) (make_var u8 0)

abbrev pub fall_rules : TypedRules
fall_rules = rules_and_names (fall_one ∷ fall_any ∷ []) (codes "f" ∷ codes "x" ∷ [])

abbrev pub fall_program : Program
fall_program = own_program fall_defs fall_rules

-- the set of the rules
abbrev pub ten_for_one : SetRule
ten_for_one = a_rule 0 1 (pos 1) ((0, is_byte 1) ∷ []) [] 1

abbrev pub itself : SetRule
itself = a_rule 1 2 (pos 0) [] [] 0

abbrev pub fall_set : SiteSet
fall_set = record { rules = ten_for_one ∷ itself ∷ []; sites = argument_site 0 ∷ byte 10 ∷ [] }

-- the match first, and what doesn't meet it falls through to the return
abbrev pub fall_tree : Tree
fall_tree = step [] (match_at 0 (one_arm (is_byte 1) [] (returning [] 1 1 no_step))) (returning [] 2 0 no_step)

-- trees that are no best ones: an arm without a rule; a rule that returns twice; a rule that doesn't return
abbrev pub fall_empty_arm : Tree
fall_empty_arm = step [] (match_at 0 (arm (is_byte 1) [] (returning [] 1 1 no_step) (one_arm (is_byte 2) [] no_step))) (returning [] 2 0 no_step)

abbrev pub fall_twice : Tree
fall_twice = step [] (match_at 0 (one_arm (is_byte 1) [] (returning [] 1 1 no_step))) (returning [] 2 0 (returning [] 2 0 no_step))

abbrev pub fall_missing : Tree
fall_missing = step [] (match_at 0 (one_arm (is_byte 1) [] (returning [] 1 1 no_step))) no_step

-- a return that another rule's result is given
abbrev pub fall_other_result : Tree
fall_other_result = step [] (match_at 0 (one_arm (is_byte 1) [] (returning [] 1 1 no_step))) (returning [] 2 1 no_step)

-- the return stands before the test, and doesn't close the block
abbrev pub fall_returns_first : Tree
fall_returns_first = returning [] 2 0 (step [] (match_at 0 (one_arm (is_byte 1) [] (returning [] 1 1 no_step))) no_step)

-- a block ends though an open test covers a rule
abbrev pub fall_untested : Tree
fall_untested = returning [] 1 1 (returning [] 2 0 no_step)

abbrev pub fall_near_trees : List Tree
fall_near_trees = fall_empty_arm ∷ fall_twice ∷ fall_missing ∷ fall_other_result ∷ fall_returns_first ∷ fall_untested ∷ []

abbrev pub fall_sample : Sample
fall_sample = record { defs = fall_defs; rules = fall_rules; term = 0; multi = false; set = fall_set; tree = fall_tree; near_trees = fall_near_trees }

-- the world of a run on an argument
abbrev pub fall_meaning : Meaning
fall_meaning = mute (literal (pos 1) ∷ literal (pos 10) ∷ [])

abbrev pub fall_world : ℤ → World
fall_world z = record { sites = fall_set.sites; args = given z; meaning = fall_meaning; multi = false }

-- the tree answers 10 at 1, and 2 at 2
abbrev pub FallRuns : Type 0
FallRuns = (run fall_tree (fall_world (pos 1)) ≡ answers (pos 10)) × (run fall_tree (fall_world (pos 2)) ≡ answers (pos 2))

-- the closed demands of the two rules are a subset pair, as the rules of the set tell
abbrev pub FallIsSubsetPair : Type 0
FallIsSubsetPair =
    (a b : BuiltRule) → slice_get (built_rules fall_program 0) 0 ≡ Some a → slice_get (built_rules fall_program 0) 1 ≡ Some b → IsSubsetPair a.demands b.demands
