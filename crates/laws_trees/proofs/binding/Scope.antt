-- Sets whose sites can be bound in order, and what is bound at a place.
use Rattle.std.proofs.Common.{◌≡◌, ◌⊎◌, ℕ, suc, true, false, List, Option, Some, slice_get, Contains}
use Rattle.model.specs.sites.Sites.{Site, iterator_site, Constraint, SiteSet, sources_at}
use Rattle.model.specs.trees.Places.{Around, is_in_place, below, fields_of}
use Rattle.laws_trees.proofs.runs.Contents.{SourcesBefore}

-- what a site is made of that is written in place isn't written in place itself
abbrev pub PlacesApart : List Site → Type 0
PlacesApart sites = (s a : ℕ) → is_in_place (slice_get sites s) ≡ true → Contains (sources_at sites s) a → is_in_place (slice_get sites a) ≡ false

-- what is emitted, and all below it, is bound but for what is written in place; and what is bound is emitted, or the call of a
-- loop
pub record Scoped (sites : List Site) (emitted again scope : List ℕ) : Type 0 where
  pub bound : (s u : ℕ) → Contains emitted s → Contains (below (suc s) sites s) u → is_in_place (slice_get sites u) ≡ false → Contains scope u
  pub only : (s : ℕ) → Contains scope s → Contains emitted s ⊎ Contains again s

-- a set whose sites stand after their sources, and where nothing that is written in place is made of such sites
pub record BindableSet : Type 0 where
  pub set : SiteSet
  pub before : SourcesBefore set.sites
  pub apart : PlacesApart set.sites

-- what is bound at a place: these sites, among them calls that may be bound again
pub record ScopeAt (b : BindableSet) (ar : Around) : Type 0 where
  pub again : List ℕ
  pub sites : List ℕ
  pub scoped : Scoped b.set.sites ar.emitted again sites

-- an arm: its source, what it tests, and the fields that it brings
pub record ArmFields (sites : List Site) : Type 0 where
  pub source : ℕ
  pub constraint : Constraint
  pub fields : List (Option ℕ)
  pub exact : fields ≡ fields_of sites source constraint

-- a loop: the site of its result, and the call that it goes over
pub record LoopCall (sites : List Site) : Type 0 where
  pub result : ℕ
  pub source : ℕ
  pub at : slice_get sites result ≡ Some (iterator_site source)
