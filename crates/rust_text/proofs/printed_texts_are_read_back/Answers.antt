use Rattle.rust_text.proofs.PrintedTexts.{printed_texts_are_read_back_lem}
use Rattle.rust_text.proofs.printed_texts_are_read_back.Goals as goal

pub returns : goal.returns
returns c = printed_texts_are_read_back_lem c.text_of_accepted_is_read_back.ensures c.names_are_whole.ensures
