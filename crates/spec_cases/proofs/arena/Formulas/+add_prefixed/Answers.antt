use Rattle.model_questions.specs.Forms as MF
use Rattle.spec_cases.specs.Namings.{form_of}
use Rattle.spec_cases.proofs.CombiningSteps.{added_first}
use Rattle.spec_cases.proofs.arena.Formulas.+add_prefixed.Goals as goal

pub returns-in_ok-add_prefixed-in-len1-up : goal.returns-in_ok-add_prefixed-in-len1-up
returns-in_ok-add_prefixed-in-len1-up t c = λ v names.
    let last = c.in_ok-add_prefixed-in-len1-up.ensures v names in
    let made = c.in_ok-gives-in-len1-up.ensures v last.0 in (
      made.0,
      added_first v (λ l. v.fields l.0) (MF.form_and (form_of v c.args.form)) c.args.cases.now _ c.args.out.now.items c.add_case.new.out.items _ c.in_ok-gives-in-len1-up.gives c.in-len1-up.len_at_least
          (c.in_ok-add_case-in-len1-up.ensures v) made.1 last.1,
    )
