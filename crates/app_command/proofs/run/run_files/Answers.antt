use Rattle.app_command.proofs.TaskStatuses.{ending_written, status_written}
use Rattle.app_command.proofs.run.run_files.Goals as goal

pub returns-clause-ending : goal.returns-clause-ending
returns-clause-ending g c =
    ending_written c.args.asked.now c.args.files.now _ _ c.write_answer.result c.answer_within-answer.result
    c.answer_within-answer.ensures c.write_answer.ensures

pub returns-clause-known : goal.returns-clause-known
returns-clause-known g c =
    (status_written c.args.asked.now c.args.files.now _ _ c.write_answer.result c.answer_within-answer.result
    c.answer_within-answer.ensures c.write_answer.ensures).0

pub returns-clause-used : goal.returns-clause-used
returns-clause-used g c =
    (status_written c.args.asked.now c.args.files.now _ _ c.write_answer.result c.answer_within-answer.result
    c.answer_within-answer.ensures c.write_answer.ensures).1
