use Rattle.std.proofs.Common.{◌∙◌, ap}
use Rattle.spec_cases.specs.Namings.{forms_of}
use Rattle.spec_steps.specs.Demands.{tested_views}
use Rattle.spec_steps.specs.Roots.{plan}
use Rattle.spec_steps.proofs.StepsInOrder.{asked_in_order}
use Rattle.spec_steps.proofs.steps.steps_of.Goals as goal

pub returns : goal.returns
returns c = λ v names.
    let happens = c.in_ok-happening.ensures v names in
    let fields = c.in_ok-field_splits.ensures v happens.0 in
    let told = c.in_ok-told_steps.ensures v fields.0 in
    let args = c.in_ok-args.ensures v told.0 in
    let forms = c.in_ok-forms.ensures v args.0 in (
      forms.0,
      λ m. asked_in_order v m.w m.p m.specs m.c (plan c.args.flag) (forms_of v c.deref.result.now) (v.fields c.in_ok-args.args.0) (tested_views v c.args.demands.now.constraints.now)
          c.args.out.now.items c.split_list.new.out.items c.told_steps.new.out.items c.field_splits.new.out.items c.assume_own.new.out.items c.happening.new.out.items
          (ap (forms_of v) c.deref.ensures.value ∙ forms.1 m) (args.1 ∙ forms.1 m) m.demand.constraints
          (c.in_ok-split_list.ensures v m.w) (told.1 m) (fields.1 m) (c.in_ok-assume_own.ensures v m) (happens.1 m),
    )
