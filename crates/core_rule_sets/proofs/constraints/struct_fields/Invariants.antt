use Rattle.std.proofs.Common.{◌≡◌}
use Rattle.model.specs.sites.Sites.{extract_struct_site}
use Rattle.model.specs.sites.SetRules.{each_place}
use Rattle.core_rule_sets.specs.SiteViews.{site_views}
use Rattle.core_rule_sets.proofs.constraints.struct_fields.Given as goal

abbrev pub invariant-loop-place : goal.invariant-loop-place
invariant-loop-place l = site_views l.bindings.items ≡ each_place (extract_struct_site l.source) 0 l.place
