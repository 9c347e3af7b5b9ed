use Rattle.spec_steps.proofs.AddingSteps.{adds_as, adds_then, told_first}
use Rattle.spec_steps.proofs.splitting.+told_steps.Goals as goal

pub returns-in_ok-told_steps-in-len1-up : goal.returns-in_ok-told_steps-in-len1-up
returns-in_ok-told_steps-in-len1-up t c = λ v names.
    let later = c.in_ok-told_steps-in-len1-up.ensures v names in
    let here = c.in_ok-add_told-in-len1-up.ensures v later.0 in (
      here.0,
      λ m. adds_as v m.w c.args.out.now.items c.told_steps.new.out.items _ _ (told_first v m.p m.specs m.c c.args.tests.now _ c.in-len1-up.len_at_least)
          (adds_then v m.w c.args.out.now.items c.add_told.new.out.items c.told_steps.new.out.items _ _ (here.1 m) (later.1 m)),
    )
