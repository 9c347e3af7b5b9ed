use Rattle.rust_text.proofs.OneReading.{code_is_read_once_by}
use Rattle.rust_text.proofs.code_is_read_once.Goals as goal

pub returns : goal.returns
returns c = code_is_read_once_by c.well_named_are_written_once.ensures c.written_once_are_apart.ensures c.names_apart_make_tokens_apart.ensures c.names_are_whole.ensures c.printed_text_has_one_reading.ensures
