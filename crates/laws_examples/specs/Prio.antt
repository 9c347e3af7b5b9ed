-- A sample: three rules of three priorities, of which two share a literal and two share a site.
--   (decl f (u8 u8) u8)
--   (rule 2 (f 1 5) 12)
--   (rule 1 (f _ 2) 11)
--   (rule (f 1 _) 10)
use Rattle.std.specs.Prelude.{◌∷◌, [], pos, false, List}
use Rattle.model.specs.sites.Sites.{Constraint, SiteSet, argument_site}
use Rattle.model.specs.trees.Trees.{Tree, arm, match_at, no_step, step}
use Rattle.laws_examples.specs.SetForms.{a_rule, byte, is_byte, one_arm, returning}
use Rattle.laws_examples.specs.Stages.{TreeSample}

abbrev pub prio_set : SiteSet
prio_set = record {
  rules =
      a_rule 0 1 (pos 2) ((0, is_byte 1) ∷ (1, is_byte 5) ∷ []) [] 2
      ∷ a_rule 1 2 (pos 1) ((1, is_byte 2) ∷ []) [] 3
      ∷ a_rule 2 3 (pos 0) ((0, is_byte 1) ∷ []) [] 4 ∷ [];
  sites = argument_site 0 ∷ argument_site 1 ∷ byte 12 ∷ byte 11 ∷ byte 10 ∷ [];
}

-- a tree's end, where the lowest rule alone is left, and an arm's, where the highest is
abbrev prio_last : Tree
prio_last = step [] (match_at 0 (one_arm (is_byte 1) [] (returning [] 3 4 no_step))) no_step

abbrev prio_first : Tree
prio_first = step [] (match_at 0 (one_arm (is_byte 1) [] (returning [] 1 2 no_step))) no_step

-- the test of the second argument first, with this constraint in the lower rule's arm
abbrev prio_under : Constraint → Tree
prio_under lower = step [] (match_at 1 (arm lower [] (returning [] 2 3 no_step) (one_arm (is_byte 5) [] prio_first))) prio_last

-- the second argument's test covers two rules, so it goes first
abbrev pub prio_tree : Tree
prio_tree = prio_under (is_byte 2)

-- trees that are no best ones: the test of the first argument goes first, though it covers one rule and the other one two
abbrev pub prio_exchanged : Tree
prio_exchanged =
    step [] (match_at 0 (one_arm (is_byte 1) [] (returning [] 3 4 no_step)))
    (step [] (match_at 1 (arm (is_byte 2) [] (returning [] 2 3 no_step) (one_arm (is_byte 5) [] prio_first))) no_step)

-- the first test is the greatest, and leaves one of its two rules to a step of its own
abbrev pub prio_leaves_out : Tree
prio_leaves_out =
    step [] (match_at 1 (one_arm (is_byte 5) [] prio_first))
    (step [] (match_at 1 (one_arm (is_byte 2) [] (returning [] 2 3 no_step)))
    prio_last)

-- the first test takes a third rule with it, which is lower than one that doesn't need it
abbrev pub prio_takes_in : Tree
prio_takes_in =
    step [] (match_at 0 (one_arm (is_byte 1) []
    (step [] (match_at 1 (one_arm (is_byte 5) [] (returning [] 1 2 no_step)))
    (returning [] 3 4 no_step))))
    (step [] (match_at 1 (one_arm (is_byte 2) [] (returning [] 2 3 no_step))) no_step)

-- the greater constraint's arm stands first
abbrev pub prio_arms_exchanged : Tree
prio_arms_exchanged =
    step [] (match_at 1 (arm (is_byte 5) [] prio_first (one_arm (is_byte 2) [] (returning [] 2 3 no_step))))
    prio_last

-- an arm has another rule's constraint
abbrev pub prio_other_arm : Tree
prio_other_arm = prio_under (is_byte 3)

-- each rule alone, by descending priority; only the first test isn't the greatest
abbrev pub prio_alone : Tree
prio_alone =
    step [] (match_at 0 (one_arm (is_byte 1) [] (step [] (match_at 1 (one_arm (is_byte 5) [] (returning [] 1 2 no_step))) no_step)))
    (step [] (match_at 1 (one_arm (is_byte 2) [] (returning [] 2 3 no_step)))
    prio_last)

abbrev pub prio_near_trees : List Tree
prio_near_trees = prio_exchanged ∷ prio_leaves_out ∷ prio_takes_in ∷ prio_arms_exchanged ∷ prio_other_arm ∷ prio_alone ∷ []

abbrev pub prio_sample : TreeSample
prio_sample = record { multi = false; set = prio_set; tree = prio_tree; near_trees = prio_near_trees }
