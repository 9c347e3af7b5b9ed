-- How many of the first sites that each rule asks something of are sources of arms around, as far as it is known.
use Rattle.std.specs.Prelude.{◌≡◌, ℕ, true, List, [], ◌∷◌, ◌++◌, Option, Some, None, set, get_or, take, drop, slice_get, Contains}
use Rattle.model.specs.sites.Sites.{SetRule}
use Rattle.model.specs.trees.Places.{is_in}
use Rattle.core_rule_sets.specs.Listings.{sites_of}
use Rattle.core_serialize.specs.declared.matched.Matched.{Matched}
use Rattle.core_serialize.specs.declared.matched.Raised.{Raised}

-- the sites that the rule, if there is one, asks something of
abbrev pub asked_sites : Option SetRule → List ℕ
asked_sites None = []
asked_sites (Some r) = sites_of r.constraints

-- of each rule so many of the first sites are among these sources
abbrev pub AreMatched : List SetRule → List ℕ → List ℕ → Type 0
AreMatched rules counts sources = (i s : ℕ) → Contains (take (get_or counts i 0) (asked_sites (slice_get rules i))) s → is_in s sources ≡ true

-- counts as they were before these were raised
abbrev pub undone : List Raised → List ℕ → List ℕ
undone [] counts = counts
undone (r ∷ rs) counts = set (undone rs counts) r.rule r.count

-- some counts are raised
pub record IsRaised (old new : Matched) : Type 0 where
  pub more : List Raised
  pub raised : new.raised.items ≡ old.raised.items ++ more
  pub back : undone more new.counts.items ≡ old.counts.items

-- the counts are what they were when so many had been raised
pub record IsUndone (mark : ℕ) (old new : Matched) : Type 0 where
  pub raised : new.raised.items ≡ take mark old.raised.items
  pub counts : new.counts.items ≡ undone (drop mark old.raised.items) old.counts.items

-- all counts are what they were
pub record IsSame (old new : Matched) : Type 0 where
  pub raised : new.raised.items ≡ old.raised.items
  pub counts : new.counts.items ≡ old.counts.items
