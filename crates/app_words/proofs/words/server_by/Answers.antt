use Rattle.app_words.proofs.Server.{no_words}
use Rattle.app_words.proofs.words.server_by.Goals as goal

pub returns : goal.returns
returns c = no_words _ _ _ c.in_ok-given_by.ensures
