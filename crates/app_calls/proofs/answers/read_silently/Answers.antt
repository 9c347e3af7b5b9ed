use Rattle.std.proofs.Common.{map, string_bytes}
use Rattle.app_calls.proofs.ReadTexts.{read_for_call}
use Rattle.app_calls.proofs.answers.read_silently.Goals as goal

pub returns : goal.returns
returns c =
    read_for_call c.args.asked c.request_of-request.result (map string_bytes c.args.files.now.texts.items) c.reading_of.result
    c.request_of-request.ensures c.reading_of.ensures
