use Rattle.app_command.proofs.CodeMade.{code_made}
use Rattle.app_command.proofs.code.code_of_lowered.Goals as goal

pub returns : goal.returns
returns c = code_made c.args.lowered.now c.args.files.now c.args.options.now c.rust_code_with-made.result c.code_by.result c.rust_code_with-made.ensures.code c.rust_code_with-made.ensures.wrong c.code_by.ensures.made c.code_by.ensures.none
