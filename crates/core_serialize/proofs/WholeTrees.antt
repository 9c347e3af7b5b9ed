-- The whole tree of a built set: it can grow from nothing around all rules, and what has grown is what serializing gives.
use Rattle.std.proofs.Common.{ℕ, List, length}
use Rattle.std.specs.Prelude.{IsPermutation}
use Rattle.std.proofs.lemmas.List.Sorted.{IsPermutation-trans}
use Rattle.model.specs.sites.Sites.{SiteSet}
use Rattle.model.specs.trees.Trees.{Tree}
use Rattle.model.specs.trees.Places.{nothing_around}
use Rattle.model.specs.trees.Tests.{up_to}
use Rattle.model.specs.claims.Layers.{IsBuiltForSome, IsSerialized}
use Rattle.laws_trees.specs.TreeMeanings.{BestTreesMeanTheirSets}
use Rattle.laws_trees.proofs.PicksMade.{picks_are_made}
use Rattle.laws_trees.proofs.SerializedSteps.{best_steps_serialize}
use Rattle.core_serialize.specs.Growing.{IsBestFrom, CanGrow}
use Rattle.core_serialize.proofs.FieldSteps.{pick_there}

pub can_grow : (set : SiteSet) → IsBuiltForSome set → CanGrow set
can_grow set built = record { few = built.built.few; sources = built.built.sources; picks = λ r s c i. let p = picks_are_made set built r s c i in pick_there set.sites s p.0 p.1 }

pub whole_tree : BestTreesMeanTheirSets → (set : SiteSet) (here : List ℕ) (tree : Tree) → IsBuiltForSome set → IsPermutation (up_to (length set.rules)) here
    → IsBestFrom set nothing_around here tree → IsSerialized set tree
whole_tree means set here tree built moved b = best_steps_serialize means set tree b.marked built b.same (IsPermutation-trans (up_to (length set.rules)) here _ moved b.rules) b.steps
