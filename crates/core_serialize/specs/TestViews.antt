-- Tests and scores, sites by their numbers.
use Rattle.std.specs.Prelude.{◌≡◌, ◌≢◌, ◌≤◌, ◌⊎◌, ◌&&◌, ℕ, Bool, false, List, [], Option, Some, None, if◌then◌else◌}
use Rattle.model.specs.sites.Sites.{SiteSet}
use Rattle.model.specs.trees.Places.{Around, is_in}
use Rattle.model.specs.trees.Sound.{as_number}
use Rattle.model.specs.trees.Tests as Tests
use Rattle.model.specs.trees.Tests.{match_test, equal_test, loop_test, cover, IsOpen, score, is_greater}
use Rattle.model.specs.trees.Best.{IsGreatest}
use Rattle.core_serialize.specs.declared.tests.Test.{Test}
use Rattle.core_serialize.specs.declared.tests.Test.TheVariants.{Match, Equal, Loop}
use Rattle.core_serialize.specs.declared.tests.Score.{Score}
use Rattle.core_serialize.specs.declared.tests.Scored.{Scored}

abbrev pub test_view : Test → Tests.Test
test_view (Match source) = match_test source
test_view (Equal a b) = equal_test a b
test_view (Loop source) = loop_test source

abbrev pub score_view : Score → Tests.Score
score_view s = record { count = s.count; emitted = as_number s.is_emitted; form = s.form; site = s.site; other = s.other }

-- the score of a test where it covers so many rules
abbrev pub counted_score : Around → Tests.Test → ℕ → Tests.Score
counted_score ar (match_test s) n = record { count = n; emitted = as_number (is_in s ar.emitted); form = 0; site = s; other = 0 }
counted_score ar (equal_test a b) n = record { count = n; emitted = as_number (is_in a ar.emitted && is_in b ar.emitted); form = 1; site = a; other = b }
counted_score ar (loop_test s) n = record { count = n; emitted = as_number (is_in s ar.emitted); form = 2; site = s; other = 0 }

-- the test that is made at a place: the greatest one, where it covers some rule; and where none does, none
abbrev pub IsChosen : SiteSet → Around → List ℕ → Option Tests.Test → Type 0
IsChosen set ar here None = (u : Tests.Test) → IsOpen set ar u → cover set.rules here u ≡ []
IsChosen set ar here (Some t) = IsGreatest set ar here t × (cover set.rules here t ≢ [])

-- whether one test has a greater score than another
abbrev pub beats : SiteSet → Around → List ℕ → Test → Test → Bool
beats set ar here t u = is_greater (score set ar here (test_view t)) (score set ar here (test_view u))

-- the one of the greater score, the first where there is no other
abbrev pub greater_test : SiteSet → Around → List ℕ → Option Test → Test → Test
greater_test set ar here None test = test
greater_test set ar here (Some best) test = if beats set ar here test best then test else best

-- the score is the test's
abbrev pub IsScored : SiteSet → Around → List ℕ → Scored → Type 0
IsScored set ar here s = score_view s.score ≡ score set ar here (test_view s.test)

-- the best test so far, if there is one, is open and has its score
abbrev pub IsOpenScored : SiteSet → Around → List ℕ → Option Scored → Type 0
IsOpenScored set ar here None = Unit {0}
IsOpenScored set ar here (Some s) = IsOpen set ar (test_view s.test) × IsScored set ar here s

-- a test is no better than the best so far: where there is none, each is better
abbrev pub IsNoBetter : SiteSet → Around → List ℕ → Option Scored → Tests.Test → Type 0
IsNoBetter set ar here None u = ⊥
IsNoBetter set ar here (Some s) u = is_greater (score set ar here u) (score_view s.score) ≡ false

-- a test of a form: of this site, or a later one
abbrev pub IsFrom : ℕ → ℕ → Tests.Test → Type 0
IsFrom form site (match_test s) = (form ≡ 0) × (site ≤ s)
IsFrom form site (equal_test a b) = (form ≡ 1) × (site ≤ a)
IsFrom form site (loop_test s) = (form ≡ 2) × (site ≤ s)

-- an open test with its score, where each open test that is better covers no rule
pub record IsBestOpen (set : SiteSet) (ar : Around) (here : List ℕ) (best : Option Scored) : Type 0 where
  pub scored : IsOpenScored set ar here best
  pub others : (u : Tests.Test) → IsOpen set ar u → IsNoBetter set ar here best u ⊎ (cover set.rules here u ≡ [])
