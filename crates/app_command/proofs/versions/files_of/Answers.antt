use Rattle.app_command.proofs.Texts.{same_texts}
use Rattle.app_command.proofs.versions.files_of.Goals as goal

pub returns : goal.returns
returns c = same_texts c.args.texts.now c.in_ok-texts.texts.items c.in_ok-texts.ensures.ok
