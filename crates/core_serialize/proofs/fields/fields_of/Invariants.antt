use Rattle.std.proofs.Common.{◌≡◌, map}
use Rattle.model.specs.trees.Places.{site_from}
use Rattle.model.specs.trees.Tests.{up_to}
use Rattle.core_rule_sets.specs.SiteViews.{constraint_view}
use Rattle.core_serialize.specs.FieldTests.{is_field}
use Rattle.core_serialize.specs.PlaceViews.{set_in}
use Rattle.core_serialize.proofs.fields.fields_of.Given as goal

abbrev pub invariant-loop-number : goal.invariant-loop-number
invariant-loop-number l = l.sites.items ≡ map (λ i. site_from 0 (is_field l.source (constraint_view l.constraint) i) (set_in l.indexed).sites) (up_to l.number)
