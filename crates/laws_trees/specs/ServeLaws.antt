-- From what a meaning must have to what the runs of trees rest on.
use Rattle.std.specs.Prelude.{◌≡◌, [], All}
use Rattle.model.specs.claims.SetMeanings.{WhereServed}
use Rattle.model.specs.trees.Run.{world_of}
use Rattle.model.specs.trees.Collects.{ServesSet}
use Rattle.model.specs.trees.SetRuns.{ServesTests}
use Rattle.laws_sites.specs.BuiltSets.{OfBuiltSets}

-- for a built set of a well-typed program, on well-typed arguments, a meaning that serves the term's rules and tells constants
-- apart has what the tests of trees ask
abbrev pub ServedSetsServeTests : Type 0
ServedSetsServeTests = OfBuiltSets (λ p t set. WhereServed p t (λ m args. ServesTests set (world_of p t set.sites m args)))

-- and where none of the set's rules makes an impure call, it has what collecting their results asks, whatever calls the
-- rules make that were left out
abbrev pub ServedMultiSetsServe : Type 0
ServedMultiSetsServe =
    OfBuiltSets (λ p t set. All (λ r. r.impure ≡ []) set.rules
    → WhereServed p t (λ m args. ServesSet set (world_of p t set.sites m args)))
