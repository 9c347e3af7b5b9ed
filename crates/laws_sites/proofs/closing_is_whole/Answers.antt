use Rattle.laws_sites.proofs.WholeClosing.{closing_is_whole_lem}
use Rattle.laws_sites.proofs.closing_is_whole.Goals as goal

pub returns : goal.returns
returns c = closing_is_whole_lem
