use Rattle.spec_cases.specs.Namings.{fact_of}
use Rattle.spec_cases.proofs.AskingSteps.{surely_first}
use Rattle.spec_cases.proofs.arena.Formulas.+all_surely.Goals as goal

pub returns-in_ok-both_of-in-len1-up : goal.returns-in_ok-both_of-in-len1-up
returns-in_ok-both_of-in-len1-up t c = λ v w names apart all.
    let last = c.in_ok-both_of-in-len1-up.ensures v names in
    let later = c.in_ok-later-in-len1-up.ensures v w last.0 apart all in
    let here = c.in_ok-here-in-len1-up.ensures v w later.0 apart all in (
      here.0,
      surely_first v w c.args.asking.now c.args.saids.now _ (fact_of v c.in_ok-here-in-len1-up.here) (fact_of v c.in_ok-later-in-len1-up.later) _ c.in-len1-up.len_at_least here.1 later.1 last.1,
    )
