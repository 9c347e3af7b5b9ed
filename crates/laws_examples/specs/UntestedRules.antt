-- A sample: a rule below one that always matches, whose demands nothing tests and whose field nothing brings.
--   (type T (enum (A (v u8))))
--   (decl g (T T) u8)
--   (rule 1 (g _ _) 1)
--   (rule (g x @ (T.A v) x) v)
use Rattle.std.specs.Prelude.{◌∷◌, [], pos, false, List}
use Rattle.model.specs.sites.Sites.{SiteSet, argument_site, is_variant, match_variant_site}
use Rattle.model.specs.trees.Trees.{Tree, no_step}
use Rattle.laws_examples.specs.SetForms.{a_rule, byte, returning}
use Rattle.laws_examples.specs.Stages.{TreeSample}
use Rattle.laws_examples.specs.TypedForms.{own}

abbrev pub surplus_set : SiteSet
surplus_set = record {
  rules = a_rule 0 2 (pos 1) [] [] 2 ∷ a_rule 1 3 (pos 0) ((0, is_variant own 0 1) ∷ (1, is_variant own 0 1) ∷ []) ((3 ∷ 4 ∷ []) ∷ []) 3 ∷ [];
  sites = argument_site 0 ∷ argument_site 1 ∷ byte 1 ∷ match_variant_site 0 0 0 ∷ match_variant_site 1 0 0 ∷ [];
}

abbrev pub surplus_tree : Tree
surplus_tree = returning [] 2 2 (returning (3 ∷ []) 3 3 no_step)

-- a tree that is no best one: the second return, which never runs, has no bind order
abbrev pub surplus_near_trees : List Tree
surplus_near_trees = returning [] 2 2 (returning [] 3 3 no_step) ∷ []

abbrev pub surplus_sample : TreeSample
surplus_sample = record { multi = false; set = surplus_set; tree = surplus_tree; near_trees = surplus_near_trees }
