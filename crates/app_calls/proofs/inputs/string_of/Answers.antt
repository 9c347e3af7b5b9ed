use Rattle.std.proofs.lemmas.Str.{is_utf8-from_IsUtf8}
use Rattle.app_calls.proofs.Texts.{is_utf8-not}
use Rattle.app_calls.proofs.inputs.string_of.Goals as goal

pub returns-in_ok-from_str-in-Ok-clause-text : goal.returns-in_ok-from_str-in-Ok-clause-text
returns-in_ok-from_str-in-Ok-clause-text c = is_utf8-from_IsUtf8 _ c.in-Ok.ensures.cases.1

pub returns-in-Err-clause-other : goal.returns-in-Err-clause-other
returns-in-Err-clause-other c _ = is_utf8-not _ c.in-Err.ensures.cases.0
