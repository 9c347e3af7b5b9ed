use Rattle.spec_cases.specs.CaseViews.{cases_of, list_cases_of}
use Rattle.spec_cases.specs.Tables.{known_in, specs_in, types_in}
use Rattle.spec_cases.proofs.CombiningSteps.{opened_list}
use Rattle.spec_cases.proofs.arena.Formulas.+opened_each.Goals as goal

pub returns-in_ok-paired-in-len1-up : goal.returns-in_ok-paired-in-len1-up
returns-in_ok-paired-in-len1-up t c = λ v names apart.
    let last = c.in_ok-paired-in-len1-up.ensures v names in
    let later = c.in_ok-later-in-len1-up.ensures v last.0 apart in
    let first = c.in_ok-first-in-len1-up.ensures v later.0 apart in
    let tables = c.args.tables.now in (
      first.0,
      opened_list v (types_in tables) (specs_in tables) (known_in v tables) c.args.forms.now _ (cases_of v c.in_ok-first-in-len1-up.first) (list_cases_of v c.in_ok-later-in-len1-up.later) _ c.in-len1-up.len_at_least
          first.1 later.1 last.1,
    )
