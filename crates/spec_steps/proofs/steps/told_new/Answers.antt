use Rattle.std.proofs.Common.{◌++◌, ◌∙◌, ap}
use Rattle.std.specs.List.{flat_map}
use Rattle.model_questions.specs.Steps as S
use Rattle.spec_steps.specs.Events.{event_view}
use Rattle.spec_steps.specs.Listing.{sites}
use Rattle.spec_steps.specs.Roots.{plan}
use Rattle.spec_steps.proofs.AddingSteps.{adds_as}
use Rattle.spec_steps.proofs.steps.told_new.Goals as goal

pub returns : goal.returns
returns c = λ v names.
    let made = c.in_ok-new_steps.ensures v names in (
      made.0,
      λ m. let done = sites v c.args.done.now in
          adds_as v m.w c.args.out.now.items c.new_steps.new.out.items _ _
          (ap (λ l. flat_map (S.answer_steps m.p m.specs m.c done (plan c.args.flag)) l ++ S.event_steps m.p m.specs m.c done (v.fields c.args.args.0) (event_view v c.args.event)) (ap (sites v) c.deref.ensures.value ∙ c.in_ok-new.ensures v m.apart))
          (made.1 m),
    )
