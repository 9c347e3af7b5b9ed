use Rattle.laws_code.proofs.TextRuns.{text_runs_under_its_meaning_lem}
use Rattle.laws_code.proofs.text_runs_under_its_meaning.Goals as goal

pub returns : goal.returns
returns c = text_runs_under_its_meaning_lem (record {
  chooses = c.code_chooses_as_source.ensures;
  same = c.with_moves_says_same.ensures;
  can = c.code_of_accepted_is_writable.ensures;
  calls = c.code_calls_alike.ensures;
  shown = c.shown_code_runs_as_code.ensures;
  back = c.text_of_accepted_is_read_back.ensures;
}) c.shown_code_runs_under_its_meaning.ensures
