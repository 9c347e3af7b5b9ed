use Rattle.laws_sites.proofs.overlaps.JudgedLists.{lists_are_accepted_lem}
use Rattle.laws_sites.proofs.lists_are_accepted.Goals as goal

pub returns : goal.returns
returns c = lists_are_accepted_lem
