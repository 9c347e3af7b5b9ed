use Rattle.std.proofs.Common.{map, string_bytes, subst, sym}
use Rattle.std.specs.Prelude.{IfOk}
use Rattle.app_command.specs.TaskAnswers.{IsPrintOfContents}
use Rattle.app_command.proofs.printing.printed_texts.Goals as goal

pub printed_contents-requires : goal.printed_contents-requires
printed_contents-requires g c = (map string_bytes c.args.files.now.texts.items, c.in_ok-contents.ensures)

pub returns : goal.returns
returns g c = subst (λ t. IfOk c.printed_contents.result (IsPrintOfContents t c.args.asked.now)) c.in_ok-contents.ensures c.printed_contents.ensures
