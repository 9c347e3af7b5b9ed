use Rattle.rust_text.proofs.PrintedTexts.{each_term_has_its_printed_text_lem}
use Rattle.rust_text.proofs.each_term_has_its_printed_text.Goals as goal

pub returns : goal.returns
returns c = each_term_has_its_printed_text_lem c.each_term_has_its_text.ensures c.names_are_whole.ensures
