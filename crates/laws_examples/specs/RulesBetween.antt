-- A sample: a rule that needs the test of a higher one, and is kept from its step by a rule between them.
--   (decl f (u8 u8 u8) u8)
--   (rule 2 (f 1 5 _) 10)
--   (rule 1 (f _ _ 2) 11)
--   (rule (f 1 6 _) 12)
use Rattle.std.specs.Prelude.{◌∷◌, [], pos, false, List}
use Rattle.model.specs.sites.Sites.{SiteSet, argument_site}
use Rattle.model.specs.trees.Trees.{Tree, arm, match_at, no_step, step}
use Rattle.laws_examples.specs.SetForms.{a_rule, byte, is_byte, one_arm, returning}
use Rattle.laws_examples.specs.Stages.{TreeSample}

abbrev pub between_set : SiteSet
between_set = record {
  rules =
      a_rule 0 1 (pos 2) ((0, is_byte 1) ∷ (1, is_byte 5) ∷ []) [] 3
      ∷ a_rule 1 2 (pos 1) ((2, is_byte 2) ∷ []) [] 4
      ∷ a_rule 2 3 (pos 0) ((0, is_byte 1) ∷ (1, is_byte 6) ∷ []) [] 5 ∷ [];
  sites = argument_site 0 ∷ argument_site 1 ∷ argument_site 2 ∷ byte 10 ∷ byte 11 ∷ byte 12 ∷ [];
}

abbrev pub between_tree : Tree
between_tree =
    step [] (match_at 0 (one_arm (is_byte 1) [] (step [] (match_at 1 (one_arm (is_byte 5) [] (returning [] 1 3 no_step))) no_step)))
    (step [] (match_at 2 (one_arm (is_byte 2) [] (returning [] 2 4 no_step)))
    (step [] (match_at 0 (one_arm (is_byte 1) [] (step [] (match_at 1 (one_arm (is_byte 6) [] (returning [] 3 5 no_step))) no_step))) no_step))

-- a tree that is no best one: the first step holds a rule that needs its test, and that its cover leaves out for its priority
abbrev pub between_holds_more : Tree
between_holds_more =
    step [] (match_at 0 (one_arm (is_byte 1) [] (step [] (match_at 1 (arm (is_byte 5) [] (returning [] 1 3 no_step) (one_arm (is_byte 6) [] (returning [] 3 5 no_step)))) no_step)))
    (step [] (match_at 2 (one_arm (is_byte 2) [] (returning [] 2 4 no_step))) no_step)

abbrev pub between_near_trees : List Tree
between_near_trees = between_holds_more ∷ []

abbrev pub between_sample : TreeSample
between_sample = record { multi = false; set = between_set; tree = between_tree; near_trees = between_near_trees }
