use Rattle.std.proofs.Common.{refl}
use Rattle.model.specs.sites.Sites.{extract_struct_site}
use Rattle.core_rule_sets.proofs.FieldSites.{field_more}
use Rattle.core_rule_sets.proofs.constraints.struct_fields.Goals as goal

pub loop-place-preserved : goal.loop-place-preserved
loop-place-preserved c =
    field_more (extract_struct_site c.args.source) c.loop-place.bindings.items c.push.new.self.items _ c.loop-place.place c.in_ok-push.ensures.items refl c.loop-place.invariant
