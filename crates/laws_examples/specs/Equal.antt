-- A sample: a lower rule whose two arguments must be equal.
--   (decl f (u8 u8) u8)
--   (rule 1 (f x y) x)
--   (rule (f x x) 7)
use Rattle.std.specs.Prelude.{◌∷◌, [], pos, false, List}
use Rattle.model.specs.sites.Sites.{SiteSet, argument_site}
use Rattle.model.specs.trees.Trees.{Tree, equal_at, no_step, step}
use Rattle.laws_examples.specs.SetForms.{a_rule, byte, returning}
use Rattle.laws_examples.specs.Stages.{TreeSample}

abbrev pub equal_set : SiteSet
equal_set = record {
  rules = a_rule 0 1 (pos 1) [] [] 0 ∷ a_rule 1 2 (pos 0) [] ((0 ∷ 1 ∷ []) ∷ []) 2 ∷ [];
  sites = argument_site 0 ∷ argument_site 1 ∷ byte 7 ∷ [];
}

-- the higher rule always matches, so the equality isn't tested
abbrev pub equal_tree : Tree
equal_tree = returning [] 1 0 (returning [] 2 2 no_step)

-- trees that are no best ones: the lower rule returns first; the equality is tested though it covers no rule; a test
-- follows the return of its block
abbrev pub equal_exchanged : Tree
equal_exchanged = returning [] 2 2 (returning [] 1 0 no_step)

abbrev pub equal_tested : Tree
equal_tested = step [] (equal_at 0 1 (returning [] 2 2 no_step)) (returning [] 1 0 no_step)

abbrev pub equal_not_closed : Tree
equal_not_closed = returning [] 1 0 (step [] (equal_at 0 1 (returning [] 2 2 no_step)) no_step)

abbrev pub equal_near_trees : List Tree
equal_near_trees = equal_exchanged ∷ equal_tested ∷ equal_not_closed ∷ []

abbrev pub equal_sample : TreeSample
equal_sample = record { multi = false; set = equal_set; tree = equal_tree; near_trees = equal_near_trees }
