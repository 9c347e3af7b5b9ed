-- Uses of the laws.
use Rattle.std.proofs.Common.{arith}
use Rattle.std.proofs.lemmas.Grind.{common_steps}
use Rattle.model.proofs.Members.{all_members, in_alone}
use Rattle.laws_trees.specs.Uses.{BytesAreToldApart}
use Rattle.laws_trees.proofs.PatternConstants.{literals_are_told_apart_lem}

pub bytes_are_told_apart_lem : BytesAreToldApart
bytes_are_told_apart_lem = grind (arith, common_steps, literals_are_told_apart_lem, all_members, in_alone)
