use Rattle.app_command.proofs.RustCode.{rust_code_is_of_texts_lem}
use Rattle.app_command.proofs.code.rust_code_is_of_texts.Goals as goal

pub returns : goal.returns
returns c = rust_code_is_of_texts_lem c.each_term_is_in_its_code.ensures
