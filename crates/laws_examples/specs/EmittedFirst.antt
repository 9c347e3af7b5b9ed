-- A sample: in the third step the pair of greater numbers goes first, since its sites are emitted.
--   (decl f (u8 u8 u8 u8) u8)
--   (rule 2 (f _ x x _) 1)
--   (rule 1 (f _ _ _ 5) 2)
--   (rule (f x x x _) 3)
use Rattle.std.specs.Prelude.{◌∷◌, [], pos, false, List}
use Rattle.model.specs.sites.Sites.{SiteSet, argument_site}
use Rattle.model.specs.trees.Trees.{Tree, equal_at, match_at, no_step, step}
use Rattle.laws_examples.specs.SetForms.{a_rule, byte, is_byte, one_arm, returning}
use Rattle.laws_examples.specs.Stages.{TreeSample}

abbrev pub emitted_first_set : SiteSet
emitted_first_set = record {
  rules = a_rule 0 1 (pos 2) [] ((1 ∷ 2 ∷ []) ∷ []) 4 ∷ a_rule 1 2 (pos 1) ((3, is_byte 5) ∷ []) [] 5 ∷ a_rule 2 3 (pos 0) [] ((0 ∷ 1 ∷ 2 ∷ []) ∷ []) 6 ∷ [];
  sites = argument_site 0 ∷ argument_site 1 ∷ argument_site 2 ∷ argument_site 3 ∷ byte 1 ∷ byte 2 ∷ byte 3 ∷ [];
}

-- the first two steps, before the third rule's
abbrev pub two_before : Tree → Tree
two_before third = step [] (equal_at 1 2 (returning [] 1 4 no_step)) (step [] (match_at 3 (one_arm (is_byte 5) [] (returning [] 2 5 no_step))) third)

abbrev pub emitted_first_tree : Tree
emitted_first_tree = two_before (step [] (equal_at 1 2 (step [] (equal_at 0 1 (returning [] 3 6 no_step)) no_step)) no_step)

-- a tree that is no best one: the pair of smaller numbers goes first, though its sites aren't both emitted
abbrev pub emitted_first_near_trees : List Tree
emitted_first_near_trees = two_before (step [] (equal_at 0 1 (step [] (equal_at 0 2 (returning [] 3 6 no_step)) no_step)) no_step) ∷ []

abbrev pub emitted_first_sample : TreeSample
emitted_first_sample = record { multi = false; set = emitted_first_set; tree = emitted_first_tree; near_trees = emitted_first_near_trees }
