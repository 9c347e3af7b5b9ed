use Rattle.std.proofs.Common.{rules}
use Rattle.app_command.proofs.Texts.{ended_text}
use Rattle.app_command.proofs.answers.answer_of_call.Goals as goal

pub returns-in_ok-format-in-Text : goal.returns-in_ok-format-in-Text
returns-in_ok-format-in-Text c = search (rules, ended_text)

pub returns-in_ok-format-in-Wrong : goal.returns-in_ok-format-in-Wrong
returns-in_ok-format-in-Wrong c = search (rules, ended_text)
