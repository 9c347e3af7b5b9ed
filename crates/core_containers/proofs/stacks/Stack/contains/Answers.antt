use Rattle.std.proofs.Common.{◌∙◌}
use Rattle.core_containers.proofs.Tables.{has_place}
use Rattle.core_containers.proofs.stacks.Stack.contains.Goals as goal

pub returns : goal.returns
returns c = c.is_some.ensures ∙ has_place c.args.self.now c.args.number c.place_of.result c.place_of.ensures
