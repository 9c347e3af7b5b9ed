use Rattle.laws_errors.proofs.RuleLists.{first_error_is_the_breach_lem}
use Rattle.laws_errors.proofs.first_error_is_the_breach.Goals as goal

pub returns : goal.returns
returns c = first_error_is_the_breach_lem
