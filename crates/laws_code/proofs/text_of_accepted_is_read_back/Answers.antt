use Rattle.laws_code.proofs.ReadCode.{text_of_accepted_is_read_back_lem}
use Rattle.laws_code.proofs.text_of_accepted_is_read_back.Goals as goal

pub returns : goal.returns
returns c = text_of_accepted_is_read_back_lem c.code_of_accepted_is_writable.ensures c.text_is_read_back.ensures
