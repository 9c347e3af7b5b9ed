use Rattle.std.proofs.Common.{◌++◌, sym, ap, ◌∙◌}
use Rattle.std.specs.Prelude.{codes, string_bytes}
use Rattle.std.proofs.lemmas.List.{append_assoc}
use Rattle.std.proofs.lemmas.Result.{on_ok_weaker}
use Rattle.run_terms.specs.ValueViews.{value_view, value_views}
use Rattle.run_terms.proofs.ValueSteps.{view-Struct, view-Variant}
use Rattle.report_traces.specs.OutcomeTexts.{composed_words, name_or_mark, names_in, value_words, values_words}
use Rattle.report_traces.proofs.OutcomeSteps.{one_more, values_spelled}
use Rattle.report_traces.proofs.outcomes.+values.Goals as goal

pub push_values-loop-value-preserved : goal.push_values-loop-value-preserved
push_values-loop-value-preserved t c =
    let n = names_in c.args.lowered.now in
    let words = value_words n (value_view c.value-item.result) in
    one_more _ _ (values_spelled n) c.args.values.now c.loop-value.value-index c.value-item.result _ _ _ c.loop-value-test.true c.value-item.is
    (c.in_ok-push_value.ensures ∙ ap (λ x. x ++ words) c.in_ok-push_str.ensures.bytes ∙ append_assoc (string_bytes c.loop-value.out) (codes " ") words)
    c.loop-value.invariant

pub push_value-returns-in-Variant : goal.push_value-returns-in-Variant
push_value-returns-in-Variant t c =
    let n = names_in c.args.lowered.now in
    let old = string_bytes c.args.out.now in
    let v = c.in-Variant in
    on_ok_weaker c.push_composed.result (λ w. w
    ∙ ap (λ x. old ++ composed_words (name_or_mark x) (values_words n (value_views c.deref.result.now))) c.full_variant_name-name.ensures
    ∙ ap (λ xs. old ++ composed_words (n.variant v.ty.0 v.variant.0) (values_words n (value_views xs))) c.deref.ensures.value
    ∙ ap (λ x. old ++ value_words n x) (sym (ap value_view v.is ∙ view-Variant v.ty v.variant v.fields))) c.push_composed.ensures

pub push_value-returns-in-Struct : goal.push_value-returns-in-Struct
push_value-returns-in-Struct t c =
    let n = names_in c.args.lowered.now in
    let old = string_bytes c.args.out.now in
    let v = c.in-Struct in
    on_ok_weaker c.push_composed-in-Struct.result (λ w. w
    ∙ ap (λ x. old ++ composed_words (name_or_mark x) (values_words n (value_views c.deref-in-Struct.result.now))) c.type_name.ensures
    ∙ ap (λ xs. old ++ composed_words (n.ty v.ty.0) (values_words n (value_views xs))) c.deref-in-Struct.ensures.value
    ∙ ap (λ x. old ++ value_words n x) (sym (ap value_view v.is ∙ view-Struct v.ty v.fields))) c.push_composed-in-Struct.ensures
