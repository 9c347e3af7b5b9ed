use Rattle.std.proofs.Common.{◌≡◌, ◌∙◌, rules}
use Rattle.core_rule_sets.specs.SiteViews.{site_view}
use Rattle.model.specs.sites.Sites.{layer}
use Rattle.model_questions.specs.Steps as S
use Rattle.spec_steps.specs.Listing.{sites}
use Rattle.spec_steps.proofs.placing.result_by.Goals as goal

pub returns-in_ok-form_by-in-Extractor : goal.returns-in_ok-form_by-in-Extractor
returns-in_ok-form_by-in-Extractor c = λ v names.
    let made = c.in_ok-form_by-in-Extractor.ensures v names in
    let binding = c.args.binding.now in
    let is = c.in-Extractor.is in (
      made.0,
      λ m bound. let same : S.form_at m.p m.specs m.c (sites v c.args.done.now) (layer v.site (site_view binding)) ≡ S.result_form m.p m.specs m.c (sites v c.args.done.now) (layer v.site (site_view binding)) = search rules in
          made.1 m bound ∙ same,
    )
