use Rattle.app_command.proofs.answers.coded.Goals as goal

pub returns : goal.returns
returns c = (c.in_ok-code.code, c.in_ok-code.ensures, c.answer_of_code.ensures)
