use Rattle.std.proofs.Common.{◌∙◌}
use Rattle.core_rule_sets.specs.SiteViews.{constraint_view}
use Rattle.core_serialize.specs.FieldTests.{is_field}
use Rattle.core_serialize.specs.PlaceViews.{set_in}
use Rattle.core_serialize.proofs.FieldLists.{field_brought, first_of_list}
use Rattle.core_serialize.proofs.fields.field_site.Goals as goal

pub returns : goal.returns
returns c =
    let constraint = constraint_view c.args.constraint.now in
    c.first_field.ensures
    ∙ first_of_list (is_field c.args.of constraint c.args.number) c.args.of (set_in c.args.indexed.now).sites c.under.result.now (field_brought c.args.of constraint c.args.number) (c.under.ensures ∙ c.args.indexed.now.are_fields.listed c.args.of)
