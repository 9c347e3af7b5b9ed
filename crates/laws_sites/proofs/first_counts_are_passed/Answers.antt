use Rattle.laws_sites.proofs.Continued.{first_counts_are_passed_lem}
use Rattle.laws_sites.proofs.first_counts_are_passed.Goals as goal

pub returns : goal.returns
returns c = first_counts_are_passed_lem
