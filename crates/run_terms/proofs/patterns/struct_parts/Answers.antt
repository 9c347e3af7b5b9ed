use Rattle.std.proofs.Common.{◌∙◌, sym, ap}
use Rattle.run_terms.specs.ValueViews.{value_views}
use Rattle.run_terms.proofs.PatternSteps.{struct_seen}
use Rattle.run_terms.proofs.patterns.struct_parts.Goals as goal

pub returns-in_ok-value_clones-in-Struct : goal.returns-in_ok-value_clones-in-Struct
returns-in_ok-value_clones-in-Struct c =
    let v = c.in-Struct in
    struct_seen c.args.value.now v.other c.args.ty v.fields (value_views c.in_ok-value_clones-in-Struct.field-0.items) c.same_type.result v.is c.same_type.ensures c.if-same_type.true
    (c.in_ok-value_clones-in-Struct.ensures ∙ ap value_views c.deref.ensures.value)
