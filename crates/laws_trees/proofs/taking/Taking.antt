-- Taking a rule under a pick: the place that it is taken from, and the impure calls that it makes.
use Rattle.std.proofs.Common.{◌≡◌, ℕ, suc, List, take, Some, slice_get, All, Contains}
use Rattle.model.specs.rules.Picks.{Pick, HasContent}
use Rattle.model.specs.sites.Sites.{constructor_site, SiteTerm}
use Rattle.model.specs.trees.Places.{Around, below}
use Rattle.model.specs.trees.Run.{World, Env}
use Rattle.model.specs.trees.SetRuns.{IsReachedUnder}
use Rattle.laws_trees.proofs.runs.Contents.{SourcesBefore, StandApart}

-- a place that a run reached under a pick: what is around it, and what is bound there
pub record ReachedPlace (w : World) (k : Pick) : Type 0 where
  pub around : Around
  pub env : Env
  pub reached : IsReachedUnder w k around env

-- a rule that is taken under a pick, in a world whose sites stand once, after their sources: the place that it is taken from,
-- and the sites of the answers of its impure calls, in order
pub record Taking : Type 0 where
  pub world : World
  pub pick : Pick
  pub before : SourcesBefore world.sites
  pub once : StandApart world.sites
  pub place : ReachedPlace world pick
  pub calls : List SiteTerm

-- each impure call at or below a site comes after calls of these that gave values
abbrev pub ComesAfterValues : World → Pick → List SiteTerm → ℕ → Type 0
ComesAfterValues w k us s =
    (u t : ℕ) (ss : List ℕ) (n : ℕ) → Contains (below (suc s) w.sites s) u → slice_get w.sites u ≡ Some (constructor_site t ss (suc n)) → All (HasContent w.meaning w.args k) (take n us)
