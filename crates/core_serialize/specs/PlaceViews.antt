-- The set of a place, its rules, and what stands around it.
use Rattle.std.specs.Prelude.{ℕ, List}
use Rattle.model.specs.sites.Sites.{SiteSet}
use Rattle.model.specs.trees.Places.{Around}
use Rattle.core_rule_sets.specs.SiteViews.{set_view}
use Rattle.core_serialize.specs.AroundViews.{around_view}
use Rattle.core_serialize.specs.declared.place.IndexedSet.{IndexedSet}
use Rattle.core_serialize.specs.declared.place.Place.{Place}

abbrev pub set_in : IndexedSet → SiteSet
set_in indexed = set_view indexed.set.now

abbrev pub set_at : Place → SiteSet
set_at place = set_in place.indexed

abbrev pub around_at : Place → Around
around_at place = around_view place.around.now

abbrev pub here_at : Place → List ℕ
here_at place = place.here.now
