use Rattle.std.proofs.Common.{sym, ap, ◌∙◌}
use Rattle.model.specs.rules.Values.{listed}
use Rattle.model.specs.trees.Run.{all_one}
use Rattle.run_terms.specs.RunViews.{content_list}
use Rattle.run_terms.specs.ValueViews.{value_views}
use Rattle.run_terms.proofs.FieldSteps.{struct_brings}
use Rattle.run_terms.proofs.fields.struct_fields.Goals as goal

pub returns-in_ok-each_one-in-Struct : goal.returns-in_ok-each_one-in-Struct
returns-in_ok-each_one-in-Struct c =
    let v = c.in-Struct in
    struct_brings c.args.value.now v.t c.args.ty v.fields (content_list c.in_ok-each_one-in-Struct.field-0.items) v.is (sym c.if-same_type.ensures)
    (c.in_ok-each_one-in-Struct.ensures ∙ ap (λ l. all_one (listed (value_views l))) c.deref.ensures.value)
