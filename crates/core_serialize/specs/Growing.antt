-- Trees that grow from a place on: what is best of the rules that are left there.
use Rattle.std.specs.Prelude.{◌≡◌, ◌≢◌, ℕ, ◌<◌, ◌≤◌, true, false, not, List, [], ◌∷◌, length, Option, Some, None, Contains, IsTrue, IsPermutation}
use Rattle.std.specs.List.{filter}
use Rattle.model.specs.sites.Sites.{Constraint, SetRule, Site, SiteSet, sources_at}
use Rattle.model.specs.trees.Trees.{Tree, Check, match_at, equal_at, loop_at, Arms, Marked, MarkedArms, marks, marks_arms, plain, plain_arms}
use Rattle.model.specs.trees.Places.{Around, in_equal, in_loop}
use Rattle.model.specs.trees.Tests.{Test, match_test, equal_test, loop_test, needs_at, is_covered, cover, IsOpen}
use Rattle.model.specs.trees.Best.{descend, BestSteps, BestArms}
use Rattle.core_serialize.specs.AroundViews.{AreEmitted}
use Rattle.core_serialize.specs.FieldTests.{HasIterator, IsIteratorOf}
use Rattle.core_serialize.specs.TestViews.{test_view, IsChosen}
use Rattle.core_serialize.specs.declared.steps.NextTest.{NextTest}

-- a block that is best from a place on, and returns for these rules
pub record IsBestFrom (set : SiteSet) (ar : Around) (here : List ℕ) (tree : Tree) : Type 0 where
  pub marked : Marked
  pub same : plain set.rules marked ≡ tree
  pub rules : IsPermutation here (marks marked)
  pub steps : BestSteps set ar false marked

-- the returns that close a block, in order, of these rules
pub record AreEnds (set : SiteSet) (ar : Around) (here : List ℕ) (tree : Tree) : Type 0 where
  pub marked : Marked
  pub same : plain set.rules marked ≡ tree
  pub rules : IsPermutation here (marks marked)
  pub ordered : IsTrue (descend set.rules (marks marked))
  pub steps : BestSteps set ar true marked

-- arms that are best of these rules, behind an arm of that constraint
pub record AreBestArms (set : SiteSet) (ar : Around) (source : ℕ) (before : Option Constraint) (here : List ℕ) (arms : Arms) : Type 0 where
  pub marked : MarkedArms
  pub same : plain_arms set.rules marked ≡ arms
  pub rules : IsPermutation here (marks_arms marked)
  pub best : BestArms set ar source before marked

-- what a step of a test holds, of these rules: best arms, or a best body
abbrev pub IsBestBody : SiteSet → Around → Test → List ℕ → Check → Type 0
IsBestBody set ar (match_test s) here check = (arms : Arms) × (check ≡ match_at s arms) × AreBestArms set ar s None here arms
IsBestBody set ar (equal_test a b) here check = (body : Tree) × (check ≡ equal_at a b body) × IsBestFrom set (in_equal set ar a b) here body
IsBestBody set ar (loop_test s) here check =
    (result : ℕ) × (body : Tree) × (check ≡ loop_at result body) × IsIteratorOf set.sites s result × IsBestFrom set (in_loop set ar result) here body

-- each site stands behind its sources
abbrev pub SourcesFirst : List Site → Type 0
SourcesFirst sites = (s a : ℕ) → Contains (sources_at sites s) a → a < s

-- what growing rests on in a set: few sites, each after its sources, and a site for the answers of each call that a rule
-- goes over
pub record CanGrow (set : SiteSet) : Type 0 where
  pub few : length set.sites ≤ 65536
  pub sources : SourcesFirst set.sites
  pub picks : (r : SetRule) (s : ℕ) → Contains set.rules r → Contains r.iterators s → HasIterator set.sites s

-- the test is open, and these are some rules, which all need it
pub record IsStepOf (set : SiteSet) (ar : Around) (t : Test) (here : List ℕ) : Type 0 where
  pub open_here : IsOpen set ar t
  pub need : (i : ℕ) → Contains here i → IsTrue (needs_at set.rules t i)
  pub some_rule : here ≢ []

-- the sites that a step of a test uses
abbrev pub test_sites : Test → List ℕ
test_sites (match_test s) = s ∷ []
test_sites (equal_test a b) = a ∷ (b ∷ [])
test_sites (loop_test s) = s ∷ []

-- and those that it emits, with all below: of the call that a loop goes over the sources alone
abbrev pub test_emits : SiteSet → Test → List ℕ
test_emits set (match_test s) = s ∷ []
test_emits set (equal_test a b) = a ∷ (b ∷ [])
test_emits set (loop_test s) = sources_at set.sites s

-- these sites are the emitted ones after a step of the test
abbrev pub AreEmittedBy : SiteSet → Around → Test → List ℕ → Type 0
AreEmittedBy set ar t sites = AreEmitted set ar (test_emits set t) sites

-- the test that is made at a place, and what goes with it
pub record IsNextTest (set : SiteSet) (ar : Around) (here : List ℕ) (next : NextTest) : Type 0 where
  pub chosen : IsChosen set ar here (Some (test_view next.test))
  pub covered : next.covered.items ≡ cover set.rules here (test_view next.test)
  pub others : next.others.items ≡ filter (λ i. not (is_covered set.rules here (test_view next.test) i)) here

-- the same where there is one; where there is none, no open test covers a rule
abbrev pub IsNext : SiteSet → Around → List ℕ → Option NextTest → Type 0
IsNext set ar here None = IsChosen set ar here None
IsNext set ar here (Some next) = IsNextTest set ar here next
