use Rattle.spec_steps.proofs.AddingSteps.{adds_as, adds_then, split_first}
use Rattle.spec_steps.proofs.splitting.+split_list.Goals as goal

pub returns-in_ok-split_list-in-len1-up : goal.returns-in_ok-split_list-in-len1-up
returns-in_ok-split_list-in-len1-up t c = λ v w.
    adds_as v w c.args.out.now.items c.split_list.new.out.items _ _ (split_first v c.args.flag c.args.forms.now _ c.in-len1-up.len_at_least)
    (adds_then v w c.args.out.now.items c.split_form.new.out.items c.split_list.new.out.items _ _ (c.in_ok-split_form-in-len1-up.ensures v w) (c.in_ok-split_list-in-len1-up.ensures v w))
