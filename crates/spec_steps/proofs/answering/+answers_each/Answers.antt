use Rattle.model_questions.specs.Steps as S
use Rattle.spec_steps.specs.Listing.{sites}
use Rattle.spec_steps.specs.Roots.{plan}
use Rattle.spec_steps.proofs.AddingSteps.{adds_as, adds_then}
use Rattle.spec_steps.proofs.AnsweringSteps.{answers_first}
use Rattle.spec_steps.proofs.answering.+answers_each.Goals as goal

pub returns-in_ok-answers_each-in-len1-up : goal.returns-in_ok-answers_each-in-len1-up
returns-in_ok-answers_each-in-len1-up t c = λ v names.
    let later = c.in_ok-answers_each-in-len1-up.ensures v names in
    let here = c.in_ok-answer_steps-in-len1-up.ensures v later.0 in (
      here.0,
      λ m. adds_as v m.w c.args.out.now.items c.answers_each.new.out.items _ _ (answers_first v (S.answer_steps m.p m.specs m.c (sites v c.args.done.now) (plan c.args.flag)) c.args.list.now c.in-len1-up.len_at_least)
          (adds_then v m.w c.args.out.now.items c.answer_steps.new.out.items c.answers_each.new.out.items _ _ (here.1 m) (later.1 m)),
    )
