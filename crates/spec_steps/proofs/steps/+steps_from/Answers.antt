use Rattle.std.proofs.Common.{◌≡◌, ◌++◌, ◌-◌, ◌∙◌, drop, length, take, sym, ap}
use Rattle.std.proofs.lemmas.List.{map-append}
use Rattle.model_questions.specs.Steps as S
use Rattle.spec_steps.specs.Events.{event_views}
use Rattle.spec_steps.specs.Listing.{sites}
use Rattle.spec_steps.specs.Roots.{plan}
use Rattle.spec_steps.proofs.AddingSteps.{adds_as}
use Rattle.spec_steps.proofs.StepsInOrder.{happens_then}
use Rattle.spec_steps.proofs.steps.+steps_from.Goals as goal

pub returns-in_ok-steps_from-in-len1-up : goal.returns-in_ok-steps_from-in-len1-up
returns-in_ok-steps_from-in-len1-up t c = λ v names.
    let later = c.in_ok-steps_from-in-len1-up.ensures v names in
    let here = c.in_ok-told_new-in-len1-up.ensures v later.0 in
    let told = c.deref.result.now in
    let made = sites v c.deref-in-len1-up-3.result.now in
    let events = c.args.events.now in
    let seen : sites v c.deref-in-len1-up-2.result.now ≡ sites v told ++ sites v c.args.seen.now = ap (sites v) (c.deref-in-len1-up-2.ensures.value
    ∙ c.in_ok-later-in-len1-up.ensures
    ∙ ap (λ l. l ++ c.args.seen.now) (c.deref-in-len1-up.ensures.value ∙ sym c.deref.ensures.value))
    ∙ map-append v.site told c.args.seen.now in (
      here.0,
      λ m. happens_then v m.w m.p m.specs m.c (plan c.args.flag) (v.fields c.args.args.0) (sites v c.args.seen.now) (sites v c.args.done.now) (sites v told) made events _ c.args.out.now.items c.told_new.new.out.items
          c.steps_from.new.out.items c.in-len1-up.len_at_least
          (ap (sites v) c.deref.ensures.value ∙ c.in_ok-told-in-len1-up.ensures v m)
          (ap (sites v) c.deref-in-len1-up-3.ensures.value ∙ c.in_ok-made-in-len1-up.ensures v m.demand.bound)
          (here.1 m)
          (adds_as v m.w c.told_new.new.out.items c.steps_from.new.out.items _ _
          (ap (λ l. S.steps_from m.p m.specs m.c (plan c.args.flag) (v.fields c.args.args.0) l made (event_views v (take (length events - 1) (drop 1 events)))) seen) (later.1 m)),
    )
