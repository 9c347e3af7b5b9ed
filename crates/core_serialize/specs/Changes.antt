-- What becomes of the lists of what stands around a place.
use Rattle.std.specs.Prelude.{◌≡◌, ℕ, suc, ◌<◌, true, false, List, ◌∷◌, ◌++◌, length, take, Contains}
use Rattle.std.specs.List.{remove}
use Rattle.model.specs.sites.Sites.{Site, SiteSet}
use Rattle.model.specs.trees.Places as Places
use Rattle.model.specs.trees.Places.{is_in, below, each_after, listed_below}
use Rattle.model.specs.trees.Tests.{Test}
use Rattle.core_containers.specs.Places.{Extends}
use Rattle.core_serialize.specs.declared.around.Around.{Around}
use Rattle.core_serialize.specs.declared.around.Mark.{Mark}
use Rattle.core_serialize.specs.declared.around.Renamed.{Renamed}
use Rattle.core_serialize.specs.AroundViews.{Alike, after_uses, names_before, NamesClasses}
use Rattle.core_serialize.specs.Growing.{test_emits}
use Rattle.core_serialize.specs.Matches.{AreMatched, IsRaised, IsSame, IsUndone}

-- the sites below s are listed after those already listed, however many of these count as emitted
abbrev pub ListsBelow : List Site → ℕ → List ℕ → List ℕ → Type 0
ListsBelow sites s old new = (start done : List ℕ) → old ≡ start ++ done → (n : ℕ) → s < n → new ≡ start ++ listed_below n sites start done s

-- the same of some sites
abbrev pub ListsAll : List Site → List ℕ → List ℕ → List ℕ → Type 0
ListsAll sites ss old new = (start done : List ℕ) → old ≡ start ++ done → new ≡ start ++ each_after (λ d s. listed_below (suc s) sites start d s) done ss

-- a list has all below each of its sites
pub record IsClosed (sites : List Site) (list : List ℕ) : Type 0 where
  pub whole : (s x : ℕ) → Contains list s → Contains (below (suc s) sites s) x → Contains list x

-- closed sites are emitted, with all below, the classes of joined sites have their names, and the counts of rules hold
pub record IsKept (set : SiteSet) (around : Around) : Type 0 where
  pub closed : IsClosed set.sites around.closed
  pub within : (s : ℕ) → is_in s around.closed ≡ true → is_in s around.emitted ≡ true
  pub named : NamesClasses around.joined.items around.names.items
  pub matched : AreMatched set.rules around.matched.counts.items around.sources

-- how long the lists are
pub record IsMark (around : Around) (mark : Mark) : Type 0 where
  pub sources : mark.sources ≡ length around.sources
  pub brought : mark.brought ≡ length around.brought
  pub emitted : mark.emitted ≡ length around.emitted
  pub closed : mark.closed ≡ length around.closed
  pub raised : mark.raised ≡ length around.matched.raised.items

-- lists that are cut to so many sites
pub record IsCutBack (old : Around) (mark : Mark) (new : Around) : Type 0 where
  pub sources : new.sources ≡ take mark.sources old.sources
  pub joined : new.joined.items ≡ old.joined.items
  pub brought : new.brought ≡ take mark.brought old.brought
  pub emitted : new.emitted ≡ take mark.emitted old.emitted
  pub closed : new.closed ≡ take mark.closed old.closed
  pub names : new.names.items ≡ old.names.items
  pub matched : IsUndone mark.raised old.matched new.matched

-- lists that have more at their ends
pub record Goes (old new : Around) : Type 0 where
  pub sources : Extends old.sources new.sources
  pub joined : new.joined.items ≡ old.joined.items
  pub brought : Extends old.brought new.brought
  pub emitted : Extends old.emitted new.emitted
  pub closed : Extends old.closed new.closed
  pub names : new.names.items ≡ old.names.items
  pub matched : IsRaised old.matched new.matched

-- more sites are emitted, and nothing else
pub record Emits (old new : Around) : Type 0 where
  pub sources : new.sources ≡ old.sources
  pub joined : new.joined.items ≡ old.joined.items
  pub brought : new.brought ≡ old.brought
  pub emitted : Extends old.emitted new.emitted
  pub closed : Extends old.closed new.closed
  pub names : new.names.items ≡ old.names.items
  pub matched : IsSame old.matched new.matched

-- all lists are what they were
pub record IsBack (old new : Around) : Type 0 where
  pub sources : new.sources ≡ old.sources
  pub joined : new.joined.items ≡ old.joined.items
  pub brought : new.brought ≡ old.brought
  pub emitted : new.emitted ≡ old.emitted
  pub closed : new.closed ≡ old.closed
  pub names : new.names.items ≡ old.names.items
  pub matched : IsSame old.matched new.matched

-- two more sites are joined, and nothing else
pub record JoinsPair (a b : ℕ) (old new : Around) : Type 0 where
  pub sources : new.sources ≡ old.sources
  pub joined : new.joined.items ≡ (a, b) ∷ old.joined.items
  pub brought : new.brought ≡ old.brought
  pub emitted : new.emitted ≡ old.emitted
  pub closed : new.closed ≡ old.closed
  pub named : NamesClasses new.joined.items new.names.items
  pub matched : IsSame old.matched new.matched

-- the last pair isn't joined any more, and classes have the names of before
pub record TakesApart (renamed : Renamed) (old new : Around) : Type 0 where
  pub sources : new.sources ≡ old.sources
  pub joined : new.joined.items ≡ remove old.joined.items 0
  pub brought : new.brought ≡ old.brought
  pub emitted : new.emitted ≡ old.emitted
  pub closed : new.closed ≡ old.closed
  pub names : new.names.items ≡ names_before renamed old.names.items
  pub matched : IsSame old.matched new.matched

-- a place is that where a test was made, but that what the test emits is emitted
abbrev pub IsAfterTest : SiteSet → Places.Around → Test → Places.Around → Type 0
IsAfterTest set ar t now = Alike now (after_uses set ar (test_emits set t))

-- a site of the set that is the source of no arm or loop around
pub record IsNewSource (set : SiteSet) (ar : Places.Around) (s : ℕ) : Type 0 where
  pub there : s < length set.sites
  pub is_new : is_in s ar.looped ≡ false
