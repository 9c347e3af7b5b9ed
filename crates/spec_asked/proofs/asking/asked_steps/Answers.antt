use Rattle.std.proofs.Common.{[], refl, ap, ◌∙◌}
use Rattle.core_types.specs.TypeViews.{type_views}
use Rattle.laws_specs.specs.Specs as L
use Rattle.model_questions.specs.Questions as Q
use Rattle.spec_cases.specs.Sorts.{function_sorts, type_sorts}
use Rattle.spec_cases.specs.Steps.{constant_views, step_views}
use Rattle.spec_cases.specs.Trails.{trails_in, trails_of}
use Rattle.spec_asked.specs.Tables.{specs_of}
use Rattle.spec_asked.proofs.AlikeQuestions.{paths_alike}
use Rattle.spec_asked.proofs.asking.asked_steps.Goals as goal

pub returns : goal.returns
returns c = λ v w unknowns names apart said.
    let specs = c.args.specs.now in
    let types = type_views c.args.types.now in
    let steps = step_views v w c.args.steps.now in
    let trails = trails_of v c.questions.new.trails in
    let asks = c.in_ok-ends.ensures v w trails names apart said (c.trails_stand.ensures v) in
    let asked : L.Specs = record {
      models = type_sorts specs.sorts.now;
      constants = constant_views specs.constants.now;
      unknowns = L.no_unknown;
      unknown_sorts = function_sorts specs.functions.now;
      terms = [];
    } in (
      asks.0,
      c.in_ok-asked_of.ensures v trails (c.trails_stand.ensures v)
          ∙ ap (trails_in trails) c.deref.ensures.value ∙ asks.2
          ∙ ap (λ k. Q.paths types asked steps k []) (c.nothing_known-known.ensures v)
          ∙ paths_alike types asked (specs_of specs w unknowns) refl refl refl steps Q.nothing_known [],
    )
