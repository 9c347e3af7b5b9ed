use Rattle.std.proofs.Common.{◌++◌, ◌∙◌, ap}
use Rattle.spec_cases.specs.CaseViews.{each_with, form_cases}
use Rattle.spec_cases.specs.Combining.{forms_cases, whole_of}
use Rattle.spec_cases.specs.Namings.{fact_of}
use Rattle.spec_cases.proofs.CombiningSteps.{wholes_seen}
use Rattle.spec_cases.proofs.combining.wholes.Goals as goal

pub returns : goal.returns
returns c = λ v.
    let lists = c.args.lists.now in
    let made = each_with (whole_of c.args.whole) in
    wholes_seen v (whole_of c.args.whole) (fact_of v lists.rest) lists.cases.items c.add_wholes.new.out.items
    (c.in_ok-add_wholes.ensures v ∙ ap (λ l. form_cases v l ++ made (forms_cases v c.deref.result.now)) c.new-cases.ensures.items ∙ ap (λ l. made (forms_cases v l)) c.deref.ensures.value)
