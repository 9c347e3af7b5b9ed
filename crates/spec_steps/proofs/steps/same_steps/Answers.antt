use Rattle.std.proofs.Common.{◌∷◌, ◌∙◌, [], ap}
use Rattle.model_questions.specs.Steps as S
use Rattle.spec_cases.specs.declared.steps.Step.TheVariants as T
use Rattle.spec_cases.specs.Namings.{form_of}
use Rattle.spec_cases.specs.Steps.{step_views}
use Rattle.spec_steps.specs.Listing.{sites}
use Rattle.spec_steps.proofs.AddingSteps.{adds_as}
use Rattle.spec_steps.proofs.SayingSteps.{steps_pushed}
use Rattle.spec_steps.proofs.steps.same_steps.Goals as goal

pub returns : goal.returns
returns c = λ v names.
    let second = c.in_ok-second.ensures v names in
    let first = c.in_ok-first.ensures v second.0 in (
      first.0,
      λ m. let at = S.form_at m.p m.specs m.c (sites v c.args.done.now) in
          adds_as v m.w c.args.out.now.items c.push_step.new.out.items _ _
          (ap (λ f. S.told_same f (form_of v c.in_ok-second.second) ∷ []) (first.1 m) ∙ ap (λ f. S.told_same (at (v.site c.args.same.first)) f ∷ []) (second.1 m))
          (ap (step_views v m.w) c.in_ok-push_step.ensures ∙ steps_pushed v m.w c.args.out.now.items (T.ToldSame c.in_ok-first.first c.in_ok-second.second)),
    )
