use Rattle.app_command.proofs.CodeMade.{stubs_made}
use Rattle.app_command.proofs.code.stubs_of_lowered.Goals as goal

pub returns : goal.returns
returns c = stubs_made c.stubs_with-made.result c.code_by.result c.stubs_with-made.ensures c.code_by.ensures.made c.code_by.ensures.none
