use Rattle.std.proofs.Common.{sym, ap, ◌∙◌}
use Rattle.model.specs.rules.Meaning.{total}
use Rattle.model.specs.trees.Run.{value_fields}
use Rattle.core_rule_sets.specs.SiteViews.{constraint_view}
use Rattle.run_terms.specs.ValueViews.{value_view}
use Rattle.run_terms.proofs.fields.value_fields.Goals as goal

pub returns-in_ok-variant_fields-in-Variant : goal.returns-in_ok-variant_fields-in-Variant
returns-in_ok-variant_fields-in-Variant g c =
    let m = total (g.E.Externs.functions c.args.stage.now.externs.now) in
    c.in_ok-variant_fields-in-Variant.ensures m c.in-Variant.fields ∙ ap (λ k. value_fields m (constraint_view k) (value_view c.args.value.now)) (sym c.in-Variant.is)

pub returns-in_ok-struct_fields-in-Struct : goal.returns-in_ok-struct_fields-in-Struct
returns-in_ok-struct_fields-in-Struct g c =
    let m = total (g.E.Externs.functions c.args.stage.now.externs.now) in
    c.in_ok-struct_fields-in-Struct.ensures m c.in-Struct.fields ∙ ap (λ k. value_fields m (constraint_view k) (value_view c.args.value.now)) (sym c.in-Struct.is)
