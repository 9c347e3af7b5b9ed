-- A sample: tests of one score but for their sites.
--   (decl multi f (u8 u8 u8 u8 u8) u8)
--   (rule (f _ _ x x _) 1)
--   (rule (f _ _ x _ x) 2)
--   (rule (f x x _ _ _) 3)
use Rattle.std.specs.Prelude.{◌∷◌, [], pos, true, List}
use Rattle.model.specs.sites.Sites.{SiteSet, argument_site}
use Rattle.model.specs.trees.Trees.{Tree, equal_at, no_step, step}
use Rattle.laws_examples.specs.SetForms.{a_rule, byte, returning}
use Rattle.laws_examples.specs.Stages.{TreeSample}

abbrev pub ties_set : SiteSet
ties_set = record {
  rules = a_rule 0 1 (pos 0) [] ((2 ∷ 3 ∷ []) ∷ []) 5 ∷ a_rule 1 2 (pos 0) [] ((2 ∷ 4 ∷ []) ∷ []) 6 ∷ a_rule 2 3 (pos 0) [] ((0 ∷ 1 ∷ []) ∷ []) 7 ∷ [];
  sites = argument_site 0 ∷ argument_site 1 ∷ argument_site 2 ∷ argument_site 3 ∷ argument_site 4 ∷ byte 1 ∷ byte 2 ∷ byte 3 ∷ [];
}

abbrev pub ties_tree : Tree
ties_tree =
    step [] (equal_at 0 1 (returning [] 3 7 no_step))
    (step [] (equal_at 2 3 (returning [] 1 5 no_step))
    (step [] (equal_at 2 4 (returning [] 2 6 no_step)) no_step))

-- a tree that is no best one: that of greater sites is made first
abbrev pub ties_exchanged : Tree
ties_exchanged =
    step [] (equal_at 2 3 (returning [] 1 5 no_step))
    (step [] (equal_at 0 1 (returning [] 3 7 no_step))
    (step [] (equal_at 2 4 (returning [] 2 6 no_step)) no_step))

abbrev pub ties_near_trees : List Tree
ties_near_trees = ties_exchanged ∷ []

abbrev pub ties_sample : TreeSample
ties_sample = record { multi = true; set = ties_set; tree = ties_tree; near_trees = ties_near_trees }
