use Rattle.check_refusals.proofs.TypesAfterRefusal.{read_again}
use Rattle.check_refusals.proofs.environments.read_again.Goals as goal

pub from_ast-requires : goal.from_ast-requires
from_ast-requires c = read_again _ _ c.requires
