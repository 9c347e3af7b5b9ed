use Rattle.std.proofs.Common.{◌∙◌, sym, ap}
use Rattle.run_terms.specs.ValueViews.{value_views}
use Rattle.run_terms.proofs.PatternSteps.{variant_seen}
use Rattle.run_terms.proofs.patterns.variant_parts.Goals as goal

pub returns-in_ok-value_clones-in-Variant : goal.returns-in_ok-value_clones-in-Variant
returns-in_ok-value_clones-in-Variant c =
    let v = c.in-Variant in
    variant_seen c.args.value.now v.other c.args.ty v.place c.args.variant v.fields (value_views c.in_ok-value_clones-in-Variant.field-0.items) c.same_variant.result v.is c.same_variant.ensures c.if-same_variant.true
    (c.in_ok-value_clones-in-Variant.ensures ∙ ap value_views c.deref.ensures.value)
