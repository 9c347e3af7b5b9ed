use Rattle.std.proofs.Common.{◌∙◌, sym, ap}
use Rattle.model.specs.sites.Sites.{layer}
use Rattle.core_rule_sets.specs.SiteViews.{site_view}
use Rattle.model_questions.specs.Formulas as M
use Rattle.model_questions.specs.Steps as S
use Rattle.spec_cases.specs.Namings.{layer_of_place}
use Rattle.spec_steps.proofs.giving.output_by.Goals as goal

pub returns-in_ok-where_typed-in-Extractor : goal.returns-in_ok-where_typed-in-Extractor
returns-in_ok-where_typed-in-Extractor c = λ v names.
    let made = c.in_ok-where_typed-in-Extractor.ensures v names in
    let place = layer_of_place v c.args.place in (
      made.0,
      λ m. made.1
          ∙ ap (λ o. S.where_typed c.args.typed o (M.output_at (v.site c.args.site) c.args.index) place) (c.arg_type-ty.ensures v m)
          ∙ ap (λ b. S.output_form m.p m.specs m.c c.args.typed (layer v.site (site_view b)) (v.site c.args.site) c.args.index place) (sym c.in-Extractor.is),
    )
