use Rattle.spec_steps.specs.Roots.{root_in}
use Rattle.spec_steps.proofs.AddingSteps.{adds_as, adds_then, splits_first}
use Rattle.spec_steps.proofs.splitting.+field_splits.Goals as goal

pub returns-in_ok-field_splits-in-len1-up : goal.returns-in_ok-field_splits-in-len1-up
returns-in_ok-field_splits-in-len1-up t c = λ v names.
    let later = c.in_ok-field_splits-in-len1-up.ensures v names in
    let here = c.in_ok-told_splits-in-len1-up.ensures v later.0 in (
      here.0,
      λ m. adds_as v m.w c.args.out.now.items c.field_splits.new.out.items _ _ (splits_first v m.p m.specs m.c c.args.flag (root_in v c.args.root) c.args.tests.now _ c.in-len1-up.len_at_least)
          (adds_then v m.w c.args.out.now.items c.told_splits.new.out.items c.field_splits.new.out.items _ _ (here.1 m) (later.1 m)),
    )
