use Rattle.laws_typing.proofs.OwnTypes.{own_types_read}
use Rattle.check_refusals.proofs.TypesAfterRefusal.{beside}
use Rattle.check_refusals.proofs.environments.read_rules.Goals as goal

-- valid types can be read, and the type table is read as them
pub from_ast-requires : goal.from_ast-requires
from_ast-requires c = own_types_read _ _ c.requires

-- and more names are all that a refusal leaves
pub returns : goal.returns
returns c = beside _ _ _ (own_types_read _ _ c.requires).0 c.from_ast.ensures.left
