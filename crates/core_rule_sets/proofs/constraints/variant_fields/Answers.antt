use Rattle.std.proofs.Common.{refl}
use Rattle.model.specs.sites.Sites.{match_variant_site}
use Rattle.core_rule_sets.proofs.FieldSites.{field_more}
use Rattle.core_rule_sets.proofs.constraints.variant_fields.Goals as goal

pub loop-place-preserved : goal.loop-place-preserved
loop-place-preserved c =
    field_more (match_variant_site c.args.source c.args.variant.0) c.loop-place.bindings.items c.push.new.self.items _ c.loop-place.place c.in_ok-push.ensures.items refl c.loop-place.invariant
