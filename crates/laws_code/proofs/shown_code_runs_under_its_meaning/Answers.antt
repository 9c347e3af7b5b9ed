use Rattle.laws_code.proofs.Meanings.{shown_code_runs_under_its_meaning_lem}
use Rattle.laws_code.proofs.shown_code_runs_under_its_meaning.Goals as goal

pub returns : goal.returns
returns c = shown_code_runs_under_its_meaning_lem c.shown_code_runs_as_code.ensures
