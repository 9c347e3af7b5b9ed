use Rattle.std.proofs.Common.{sym, ap, ◌∙◌}
use Rattle.model.specs.rules.Values.{listed}
use Rattle.model.specs.trees.Run.{all_one}
use Rattle.run_terms.specs.RunViews.{content_list}
use Rattle.run_terms.specs.ValueViews.{value_views}
use Rattle.run_terms.proofs.FieldSteps.{variant_brings}
use Rattle.run_terms.proofs.fields.variant_fields.Goals as goal

pub returns-in_ok-each_one-in-Variant : goal.returns-in_ok-each_one-in-Variant
returns-in_ok-each_one-in-Variant c =
    let v = c.in-Variant in
    variant_brings c.args.value.now v.t c.args.ty v.i c.args.variant v.fields (content_list c.in_ok-each_one-in-Variant.field-0.items) v.is (sym c.if-same_variant.ensures)
    (c.in_ok-each_one-in-Variant.ensures ∙ ap (λ l. all_one (listed (value_views l))) c.deref.ensures.value)
