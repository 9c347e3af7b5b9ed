use Rattle.model.specs.sites.Sites.{each_term}
use Rattle.spec_cases.specs.Namings.{form_of}
use Rattle.spec_steps.specs.Listing.{sites}
use Rattle.spec_steps.specs.Roots.{plan}
use Rattle.spec_steps.proofs.AnsweringSteps.{constructed_by}
use Rattle.spec_steps.proofs.answering.constructed_steps.Goals as goal

pub returns : goal.returns
returns c = λ v names.
    let args = c.in_ok-args.ensures v names in
    let form = c.in_ok-form.ensures v args.0 in (
      form.0,
      λ m. constructed_by v m.w m.p m.specs m.c (sites v c.args.done.now) (plan c.args.flag) c.args.term.0 (each_term v.site c.args.parameters.now) c.args.instance (v.site c.args.answer)
          c.args.out.now.items c.split_form.new.out.items c.assume_answered.new.out.items (form_of v c.in_ok-form.form) (v.fields c.in_ok-args.args.0)
          (form.1 m) (args.1 m) (c.in_ok-split_form.ensures v m.w) (c.in_ok-assume_answered.ensures v m),
    )
