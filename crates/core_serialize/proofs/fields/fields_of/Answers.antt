use Rattle.std.proofs.Common.{◌≡◌, ◌∙◌, arith}
use Rattle.core_rule_sets.specs.SiteViews.{constraint_view}
use Rattle.core_serialize.specs.PlaceViews.{set_in}
use Rattle.core_serialize.proofs.FieldSteps.{fields_done}
use Rattle.core_serialize.proofs.fields.fields_of.Goals as goal

pub returns : goal.returns
returns c =
    let e : c.loop-number.number ≡ c.field_count-number-end.result = omega arith in
    fields_done (set_in c.args.indexed.now).sites c.args.source (constraint_view c.args.constraint.now) c.loop-number.number c.loop-number.sites.items (e ∙ c.field_count-number-end.ensures) c.loop-number.invariant
