use Rattle.std.proofs.Common.{◌∙◌, sym, ap}
use Rattle.core_rule_sets.specs.declared.trie_again.Binding.{Binding}
use Rattle.core_rule_sets.specs.SiteViews.{site_view}
use Rattle.model.specs.sites.Sites.{layer}
use Rattle.model_questions.specs.Steps as S
use Rattle.spec_cases.specs.Namings.{layer_of_place}
use Rattle.spec_steps.specs.Listing.{sites}
use Rattle.spec_steps.proofs.placing.outputs_by.Goals as goal

pub returns-in_ok-called_output-in-Extractor : goal.returns-in_ok-called_output-in-Extractor
returns-in_ok-called_output-in-Extractor c = λ v names.
    let made = c.in_ok-called_output-in-Extractor.ensures v names in
    let is = ap (λ (b : Binding). layer v.site (site_view b)) c.in-Extractor.is in
    let done = sites v c.args.done.now in
    let place = layer_of_place v c.args.place in (
      made.0,
      λ m bound. made.1 m
          ∙ ap (λ s. S.output_form m.p m.specs m.c (S.is_answered m.p m.specs m.c done s) s s c.args.index place) (bound ∙ is)
          ∙ sym (ap (λ s. S.outputs_form m.p m.specs m.c done s c.args.index place) is),
    )
