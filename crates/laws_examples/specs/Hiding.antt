-- A sample: a test that covers two rules, which a step that holds more than its own test covers would hide.
--   (decl f (u8 u8 u8) u8)
--   (rule 2 (f 1 5 _) 1)
--   (rule 1 (f _ 2 7) 2)
--   (rule 0 (f 1 _ 8) 3)
use Rattle.std.specs.Prelude.{◌≡◌, ◌∷◌, [], ℕ, ℤ, pos, false, List, map}
use Rattle.model.specs.claims.Layers.{TestsAreShared}
use Rattle.model.specs.sites.Sites.{SiteSet, argument_site}
use Rattle.model.specs.trees.Run.{World, run}
use Rattle.model.specs.trees.Trees.{Tree, arm, match_at, no_step, step}
use Rattle.laws_examples.specs.MeaningForms.{answers, literal, mute, v}
use Rattle.laws_examples.specs.SetForms.{a_rule, byte, is_byte, one_arm, returning}
use Rattle.laws_examples.specs.Stages.{TreeSample}

abbrev pub hidden_set : SiteSet
hidden_set = record {
  rules =
      a_rule 0 1 (pos 2) ((0, is_byte 1) ∷ (1, is_byte 5) ∷ []) [] 3
      ∷ a_rule 1 2 (pos 1) ((1, is_byte 2) ∷ (2, is_byte 7) ∷ []) [] 4
      ∷ a_rule 2 3 (pos 0) ((0, is_byte 1) ∷ (2, is_byte 8) ∷ []) [] 5 ∷ [];
  sites = argument_site 0 ∷ argument_site 1 ∷ argument_site 2 ∷ byte 1 ∷ byte 2 ∷ byte 3 ∷ [];
}

-- a site is this number, then what follows; else the rest
abbrev pub where_byte : ℕ → ℕ → Tree → Tree → Tree
where_byte s n body rest = step [] (match_at s (one_arm (is_byte n) [] body)) rest

-- the rule of a definition returns its result
abbrev pub first_returns : Tree
first_returns = returning [] 1 3 no_step

abbrev pub second_returns : Tree
second_returns = returning [] 2 4 no_step

abbrev pub third_returns : Tree
third_returns = returning [] 3 5 no_step

-- the second argument is matched first, for two rules
abbrev pub hidden_tree : Tree
hidden_tree =
    step [] (match_at 1 (arm (is_byte 2) [] (where_byte 2 7 second_returns no_step) (one_arm (is_byte 5) [] (where_byte 0 1 first_returns no_step))))
    (where_byte 0 1 (where_byte 2 8 third_returns no_step) no_step)

-- a match of the first argument covers the first rule alone, and the step holds the third one too
abbrev pub hiding_tree : Tree
hiding_tree = where_byte 0 1 (where_byte 1 5 first_returns (where_byte 2 8 third_returns no_step)) (where_byte 1 2 (where_byte 2 7 second_returns no_step) no_step)

abbrev pub hidden_sample : TreeSample
hidden_sample = record { multi = false; set = hidden_set; tree = hidden_tree; near_trees = hiding_tree ∷ [] }

-- a call of f
abbrev pub hidden_world : ℤ → ℤ → ℤ → World
hidden_world x y z = record {
  sites = hidden_set.sites;
  args = v x ∷ v y ∷ v z ∷ [];
  meaning = mute (literal (pos 1) ∷ literal (pos 2) ∷ literal (pos 3) ∷ literal (pos 5) ∷ literal (pos 7) ∷ literal (pos 8) ∷ []);
  multi = false;
}

-- one that each rule matches
abbrev pub hidden_worlds : List World
hidden_worlds = hidden_world (pos 1) (pos 5) (pos 0) ∷ hidden_world (pos 0) (pos 2) (pos 7) ∷ hidden_world (pos 1) (pos 2) (pos 8) ∷ []

-- it chooses as the other tree does there, and yet hides that a match of the second argument covers two rules
abbrev pub BetterTestsAreNotHidden : Type 0
BetterTestsAreNotHidden =
    (map (run hidden_tree) hidden_worlds ≡ answers (pos 1) ∷ answers (pos 2) ∷ answers (pos 3) ∷ [])
    × (map (run hiding_tree) hidden_worlds ≡ answers (pos 1) ∷ answers (pos 2) ∷ answers (pos 3) ∷ [])
    × TestsAreShared hidden_set hidden_tree
    × (TestsAreShared hidden_set hiding_tree → ⊥)
