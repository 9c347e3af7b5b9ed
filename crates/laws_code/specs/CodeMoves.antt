-- What the loops in the code of a tree take: calls, each bound right before.
use Rattle.std.specs.Prelude.{◌≡◌, ◌<◌, ℕ, Bool, true, false, List, Some, slice_get, Contains}
use Rattle.model.specs.sites.Sites.{Site, iterator_site, Constraint, SetRule, SiteSet, sources_at}
use Rattle.model.specs.trees.Trees.{Tree}
use Rattle.model.specs.trees.Best.{IsBestTree}
use Rattle.model.specs.trees.Places.{waits, joins_in}
use Rattle.laws_sites.specs.BuiltSets.{OfBuiltSets}
use Rattle.model_code.specs.Moves.{TakesOnce}
use Rattle.model_code.specs.Scopes.{LoopsAreOverBound}
use Rattle.model_code.specs.TreeCode.{Passes, tree_code}
use Rattle.model_code.specs.Flat.{flat}
use Rattle.laws_code.specs.AcceptedCode.{OfBestTrees, EachCode}

-- a call that a loop may go over
abbrev pub HasLoopOver : List Site → ℕ → Type 0
HasLoopOver sites c = (s : ℕ) × (slice_get sites s ≡ Some (iterator_site c))

-- no arm and no loop brings such a call; picks alone are made of it; and no rule equates it with another site, constrains it,
-- or returns it
pub record CallsAreGoneOver (set : SiteSet) : Type 0 where
  pub waits_not : (c : ℕ) → HasLoopOver set.sites c → waits (slice_get set.sites c) ≡ false
  pub made : (c t : ℕ) → HasLoopOver set.sites c → Contains (sources_at set.sites t) c → slice_get set.sites t ≡ Some (iterator_site c)
  pub equated : (r : SetRule) (a c : ℕ) → Contains set.rules r → a < c → joins_in r.classes a c ≡ true → (HasLoopOver set.sites a → ⊥) × (HasLoopOver set.sites c → ⊥)
  pub constrained : (r : SetRule) (c : ℕ) (k : Constraint) → Contains set.rules r → Contains r.constraints (c, k) → HasLoopOver set.sites c → ⊥
  pub returned : (r : SetRule) → Contains set.rules r → HasLoopOver set.sites r.result → ⊥

-- so it is in each set that is built of a well-typed program's rules
abbrev pub CallsAreGoneOverInBuiltSets : Type 0
CallsAreGoneOverInBuiltSets = OfBuiltSets (λ p t set. CallsAreGoneOver set)

-- in the code of a best tree of such a set, what its loops go over is bound right before, and read by nothing else
abbrev pub LoopsTakeOnce : Type 0
LoopsTakeOnce =
    (set : SiteSet) (tree : Tree) (p : Passes) (deep : ℕ → Bool) (n : ℕ) → IsBestTree set tree → CallsAreGoneOver set → LoopsAreOverBound set.sites
    → TakesOnce (flat (tree_code tree set.sites p) deep n)

abbrev pub CodeOfAcceptedTakesOnce : Type 0
CodeOfAcceptedTakesOnce = OfBestTrees (λ p l. EachCode l TakesOnce)
