use Rattle.std.proofs.Common.{◌++◌, sym, ap, ◌∙◌}
use Rattle.std.specs.Prelude.{codes, string_bytes}
use Rattle.std.proofs.lemmas.List.{append_assoc}
use Rattle.std.proofs.lemmas.Result.{on_ok_weaker}
use Rattle.run_terms.specs.ValueViews.{content_view, content_views}
use Rattle.run_terms.proofs.ContentSteps.{view-Many}
use Rattle.report_traces.specs.OutcomeTexts.{bracketed, content_words, contents_words, names_in}
use Rattle.report_traces.proofs.OutcomeSteps.{contents_spelled, one_more}
use Rattle.report_traces.proofs.outcomes.+contents.Goals as goal

pub push_contents-loop-content-preserved : goal.push_contents-loop-content-preserved
push_contents-loop-content-preserved t c =
    let n = names_in c.args.lowered.now in
    let words = content_words n (content_view c.content-item.result) in
    one_more _ _ (contents_spelled n) c.args.contents.now c.loop-content.content-index c.content-item.result _ _ _ c.loop-content-test.true c.content-item.is
    (c.in_ok-push_content.ensures ∙ ap (λ x. x ++ words) c.in_ok-push_str.ensures.bytes ∙ append_assoc (string_bytes c.loop-content.out) (codes " ") words)
    c.loop-content.invariant

pub push_content-returns-in_ok-push_contents-in-Many : goal.push_content-returns-in_ok-push_contents-in-Many
push_content-returns-in_ok-push_contents-in-Many t c =
    let n = names_in c.args.lowered.now in
    let old = string_bytes c.args.out.now in
    let inside = contents_words n (content_views c.deref-in-Many.result.now) in
    on_ok_weaker c.close_brackets-in-Many.result (λ w. w
    ∙ ap (λ x. x ++ codes " ]") (c.in_ok-push_contents-in-Many.ensures ∙ ap (λ x. x ++ inside) c.in_ok-push_str-in-Many.ensures.bytes)
    ∙ append_assoc (old ++ codes "[") inside (codes " ]") ∙ append_assoc old (codes "[") (inside ++ codes " ]")
    ∙ ap (λ xs. old ++ bracketed (contents_words n (content_views xs))) c.deref-in-Many.ensures.value
    ∙ ap (λ x. old ++ content_words n x) (sym (ap content_view c.in-Many.is ∙ view-Many c.in-Many.contents))) c.close_brackets-in-Many.ensures
