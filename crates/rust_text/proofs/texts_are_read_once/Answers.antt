use Rattle.rust_text.proofs.OneReading.{texts_are_read_once_by}
use Rattle.rust_text.proofs.texts_are_read_once.Goals as goal

pub returns : goal.returns
returns c = texts_are_read_once_by c.well_named_are_written_once.ensures c.written_once_are_apart.ensures c.names_apart_make_tokens_apart.ensures c.one_reading.ensures
