use Rattle.laws_specs.proofs.TotalAnswers.{total_meanings_answer_as_said_lem}
use Rattle.laws_specs.proofs.total_meanings_answer_as_said.Goals as goal

pub returns : goal.returns
returns c = total_meanings_answer_as_said_lem
