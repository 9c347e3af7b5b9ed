use Rattle.app_calls.proofs.Telling.{command_answer}
use Rattle.app_calls.proofs.answers.answer_of_command.Goals as goal

pub returns : goal.returns
returns c =
    command_answer c.args.asked c.args.reading.now c.request_of-request.result c.args.files.now c.answer_to_reading.result
    c.request_of-request.ensures c.answer_to_reading.ensures.answer c.answer_to_reading.ensures.status
