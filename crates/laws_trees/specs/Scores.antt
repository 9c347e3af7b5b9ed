-- The order of scores: total on tests, so that the greatest is one test.
use Rattle.std.specs.Prelude.{◌≡◌, ◌≢◌, ◌⊎◌, ℕ, false, List, IsTrue}
use Rattle.model.specs.sites.Sites.{SiteSet}
use Rattle.model.specs.trees.Places.{Around}
use Rattle.model.specs.trees.Tests.{Test, IsOpen, Score, score, is_greater}
use Rattle.model.specs.trees.Best.{IsGreatest}

-- no score is greater than itself, greater scores chain, and of two different tests at a place one has the greater score
pub record ScoresAreOrdered : Type 0 where
  pub itself : (x : Score) → is_greater x x ≡ false
  pub chain : (x y z : Score) → IsTrue (is_greater x y) → IsTrue (is_greater y z) → IsTrue (is_greater x z)
  pub compare : (set : SiteSet) (ar : Around) (here : List ℕ) (t u : Test) → t ≢ u
      → IsTrue (is_greater (score set ar here t) (score set ar here u)) ⊎ IsTrue (is_greater (score set ar here u) (score set ar here t))

-- where a test is open, one and only one is the greatest
abbrev pub OneTestIsGreatest : Type 0
OneTestIsGreatest =
    (set : SiteSet) (ar : Around) (here : List ℕ) (t : Test) → IsOpen set ar t
    → (u : Test) × IsGreatest set ar here u × ((v : Test) → IsGreatest set ar here v → v ≡ u)
