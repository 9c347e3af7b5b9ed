-- The list of a rule's picks against what a pick is, what of a pick matters, and a site's content under a pick against
-- what the site can hold.
use Rattle.std.specs.Prelude.{◌≡◌, List, [], Some, Contains}
use Rattle.model.specs.rules.Values.{Value}
use Rattle.model.specs.rules.Meaning.{Content, Meaning}
use Rattle.model.specs.rules.Program.{Program}
use Rattle.model.specs.lists.Names.{IsDistinct}
use Rattle.model.specs.sites.Sites.{SiteTerm}
use Rattle.model.specs.sites.Serves.{Holds}
use Rattle.model.specs.rules.Picks.{Pick, place_of, IsPick, picks, site_content, SitedVars, matches_under, right_side_under}
use Rattle.model.specs.trees.Collects.{calls_in}
use Rattle.model.specs.rules.Typed.{TypedRule}

-- the list has the picks of a rule and no others, each once
pub record ListsPicks (p : Program) (m : Meaning) (args : List Value) (r : TypedRule) : Type 0 where
  pub all : (k : Pick) → IsPick p m args r k → Contains (picks p m args r) k
  pub only : (k : Pick) → Contains (picks p m args r) k → IsPick p m args r k
  pub once : IsDistinct (picks p m args r)

-- so it is of every rule, on all arguments under every meaning
abbrev pub PicksAreExact : Type 0
PicksAreExact = (p : Program) (m : Meaning) (args : List Value) (r : TypedRule) → ListsPicks p m args r

-- what a site has under a pick, it can hold
abbrev pub ContentsAreHeld : Type 0
ContentsAreHeld = (m : Meaning) (args : List Value) (k : Pick) (s : SiteTerm) (c : Content) → site_content m args k s ≡ Some c → Holds m args s c

-- what a site can hold, it has under every pick, where it takes no answers of multi calls
abbrev pub HeldAreContents : Type 0
HeldAreContents = (m : Meaning) (args : List Value) (k : Pick) (s : SiteTerm) (c : Content) → calls_in s ≡ [] → Holds m args s c → site_content m args k s ≡ Some c

-- two picks give each call the same place, or both none
abbrev pub GiveSamePlaces : Pick → Pick → Type 0
GiveSamePlaces k l = (call : SiteTerm) → place_of k call ≡ place_of l call

-- under both picks a site has one content, and a rule matches and ends alike
pub record ActAlike (p : Program) (m : Meaning) (args : List Value) (r : TypedRule) (k l : Pick) : Type 0 where
  pub contents : (s : SiteTerm) → site_content m args k s ≡ site_content m args l s
  pub matching : matches_under p m k r args ≡ matches_under p m l r args
  pub ends : (e : SitedVars) → right_side_under p m k r e ≡ right_side_under p m l r e

-- of a pick only the places of its calls matter, not their order
abbrev pub OnlyPlacesMatter : Type 0
OnlyPlacesMatter = (p : Program) (m : Meaning) (args : List Value) (r : TypedRule) (k l : Pick) → GiveSamePlaces k l → ActAlike p m args r k l
