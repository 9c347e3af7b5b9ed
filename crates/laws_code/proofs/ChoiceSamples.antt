-- By counting.
use Rattle.std.proofs.Common.{arith}
use Rattle.std.proofs.lemmas.Grind.{common_steps}
use Rattle.std.proofs.lemmas.List.Sorted.{IsPermutation-refl, length_permutation}
use Rattle.laws_code.specs.ChoiceSamples.{three, BoundsAreKept}

pub bounds_are_kept_lem : BoundsAreKept
bounds_are_kept_lem = grind (arith, common_steps, IsPermutation-refl three, length_permutation three, IsPermutation-refl, length_permutation)
