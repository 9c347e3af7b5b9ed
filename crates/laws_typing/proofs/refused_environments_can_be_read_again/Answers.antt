use Rattle.laws_typing.proofs.AfterRefusals.{refused_environments_can_be_read_again_lem}
use Rattle.laws_typing.proofs.refused_environments_can_be_read_again.Goals as goal

pub returns : goal.returns
returns c = refused_environments_can_be_read_again_lem
