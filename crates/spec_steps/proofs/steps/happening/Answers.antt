use Rattle.std.proofs.Common.{◌∙◌, [], ap}
use Rattle.model_questions.specs.Steps as S
use Rattle.spec_steps.specs.Events.{event_views}
use Rattle.spec_steps.specs.Roots.{plan}
use Rattle.spec_steps.proofs.AddingSteps.{adds_as}
use Rattle.spec_steps.proofs.steps.happening.Goals as goal

pub returns : goal.returns
returns c = λ v names.
    let made = c.in_ok-steps_from.ensures v names in (
      made.0,
      λ m. adds_as v m.w c.args.out.now.items c.steps_from.new.out.items _ _
          (ap (S.steps_from m.p m.specs m.c (plan c.args.flag) (v.fields c.args.args.0) [] []) (ap (event_views v) c.deref.ensures.value ∙ c.in_ok-events.ensures v m))
          (made.1 m),
    )
