use Rattle.laws_sites.proofs.overlaps.Errors.{check_errors_name_left_out_lem}
use Rattle.laws_sites.proofs.check_errors_name_left_out.Goals as goal

pub returns : goal.returns
returns c = check_errors_name_left_out_lem
