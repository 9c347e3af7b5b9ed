use Rattle.rust_items.proofs.FreeVariables.{variables_are_free_lem}
use Rattle.rust_items.proofs.laws.variables_are_free.Goals as goal

pub returns : goal.returns
returns c = variables_are_free_lem c.variables_are_plain.ensures
