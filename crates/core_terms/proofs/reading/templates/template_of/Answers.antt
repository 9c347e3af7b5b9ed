use Rattle.std.proofs.Common.{◌≡◌, map, sym, ap, ◌∙◌, string_bytes}
use Rattle.std.proofs.lemmas.Result.{IfOk-weaker}
use Rattle.std.proofs.lemmas.Simd.{map-map}
use Rattle.model.specs.lists.TermTable.{extractor_template, template}
use Rattle.core_syntax.specs.SyntaxViews.{extractor_view, pattern_view}
use Rattle.core_terms.proofs.reading.templates.template_of.Goals as goal

pub returns : goal.returns
returns c =
    let x = c.args.extractor.now in
    IfOk-weaker c.make_macro_template.result _ (λ t. pattern_view t ≡ extractor_template (extractor_view x)) (λ t h.
    h ∙ ap (λ l. template (map (λ a. string_bytes a.0) l) (pattern_view x.template)) c.deref.ensures.value
    ∙ ap (λ l. template l (pattern_view x.template)) (sym (map-map _ _ x.args.items))) c.make_macro_template.ensures
