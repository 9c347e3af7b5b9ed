-- The search for the best test of a place, and which tests a rule needs, form by form.
use Rattle.std.specs.Prelude.{◌≡◌, ℕ, true, List, Contains}
use Rattle.model.specs.sites.Sites.{SetRule, SiteSet}
use Rattle.model.specs.trees.Places.{Around, is_in, joins}
use Rattle.model.specs.trees.Tests as Tests
use Rattle.model.specs.trees.Tests.{match_test, equal_test, loop_test, needs, needs_at, IsOpen}
use Rattle.core_rule_sets.specs.declared.trie_again.Constraint.{Constraint}
use Rattle.core_serialize.specs.declared.tests.Test.{Test}
use Rattle.core_serialize.specs.declared.open_tests.BestSearch.{BestSearch}
use Rattle.core_serialize.specs.declared.place.Place.{Place}
use Rattle.core_serialize.specs.AroundViews.{AreAtHand}
use Rattle.core_serialize.specs.PlaceViews.{around_at, here_at, set_at}
use Rattle.core_serialize.specs.TestViews.{test_view, IsNoBetter, IsOpenScored}

-- what is kept while a place's tests are tried: what was found to be available is, the best test so far is open, and no
-- test that was scored is better
pub record IsBestSearch (set : SiteSet) (ar : Around) (here : List ℕ) (search : BestSearch) : Type 0 where
  pub found : AreAtHand set.sites ar search.found
  pub best : IsOpenScored set ar here search.best
  pub scored : (t : Test) → Contains search.scored.items t → IsNoBetter set ar here search.best (test_view t)

-- the open tests of a kind are tried too: none is better than the best then
pub record SearchesMore (set : SiteSet) (ar : Around) (here : List ℕ) (Kind : Tests.Test → Type 0) (old new : BestSearch) : Type 0 where
  pub now : IsBestSearch set ar here new
  pub kept : (u : Tests.Test) → IsNoBetter set ar here old.best u → IsNoBetter set ar here new.best u
  pub tried : (u : Tests.Test) → IsOpen set ar u → Kind u → IsNoBetter set ar here new.best u

-- the same at a place
abbrev pub IsSearchAt : Place → BestSearch → Type 0
IsSearchAt place search = IsBestSearch (set_at place) (around_at place) (here_at place) search

abbrev pub SearchesAt : Place → (Tests.Test → Type 0) → BestSearch → BestSearch → Type 0
SearchesAt place Kind old new = SearchesMore (set_at place) (around_at place) (here_at place) Kind old new

-- of these sites all that are emitted are joined
abbrev pub EmittedAreJoined : Around → List ℕ → Type 0
EmittedAreJoined ar sites = (a b : ℕ) → Contains sites a → Contains sites b → is_in a ar.emitted ≡ true → is_in b ar.emitted ≡ true → joins ar.joined a b ≡ true

-- all of these sites are joined
abbrev pub AllJoined : Around → List ℕ → Type 0
AllJoined ar sites = (a b : ℕ) → Contains sites a → Contains sites b → joins ar.joined a b ≡ true

-- what was found to be available at a place is
abbrev pub AreFoundAt : Place → List ℕ → Type 0
AreFoundAt place found = AreAtHand (set_at place).sites (around_at place) found

-- of the kind that one of these is of
abbrev pub OfSome : {X : Type 0} → (X → Tests.Test → Type 0) → List X → Tests.Test → Type 0
OfSome Kind xs u = (x : _) × Contains xs x × Kind x u

-- this test
abbrev pub IsTest : Test → Tests.Test → Type 0
IsTest t u = test_view t ≡ u

-- the match of a site
abbrev pub IsMatch : ℕ → Tests.Test → Type 0
IsMatch s u = match_test s ≡ u

-- the match of a site of which something is asked
abbrev pub IsMatchAsked : ℕ × Constraint → Tests.Test → Type 0
IsMatchAsked asked u = IsMatch asked.0 u

-- a match that a rule needs
abbrev pub IsMatchOf : SetRule → Tests.Test → Type 0
IsMatchOf r (match_test s) = needs (match_test s) r ≡ true
IsMatchOf r (equal_test a b) = ⊥
IsMatchOf r (loop_test s) = ⊥

-- an equality that a rule needs
abbrev pub IsEqualOf : SetRule → Tests.Test → Type 0
IsEqualOf r (match_test s) = ⊥
IsEqualOf r (equal_test a b) = needs (equal_test a b) r ≡ true
IsEqualOf r (loop_test s) = ⊥

-- the equality of two sites
abbrev pub IsPair : ℕ → ℕ → Tests.Test → Type 0
IsPair a b u = equal_test a b ≡ u

-- the equality of a site and one of these
abbrev pub IsPairWith : List ℕ → ℕ → Tests.Test → Type 0
IsPairWith others a u = OfSome (IsPair a) others u

-- the equality of two of these
abbrev pub IsPairOf : List ℕ → Tests.Test → Type 0
IsPairOf class u = OfSome (IsPairWith class) class u

-- a match or an equality that the rule at a place of the set needs
abbrev pub IsWanted : List SetRule → ℕ → Tests.Test → Type 0
IsWanted rules i (match_test s) = needs_at rules (match_test s) i ≡ true
IsWanted rules i (equal_test a b) = needs_at rules (equal_test a b) i ≡ true
IsWanted rules i (loop_test s) = ⊥

-- the loop over the answers of a call
abbrev pub IsLoop : ℕ → Tests.Test → Type 0
IsLoop s u = loop_test s ≡ u

-- a loop that the rule at a place of the set needs
abbrev pub IsLoopOf : List SetRule → ℕ → Tests.Test → Type 0
IsLoopOf rules i (match_test s) = ⊥
IsLoopOf rules i (equal_test a b) = ⊥
IsLoopOf rules i (loop_test s) = needs_at rules (loop_test s) i ≡ true
