use Rattle.std.proofs.Common.{length}
use Rattle.spec_cases.proofs.arena.Formulas.+add_one_variant.Given as goal

abbrev pub decreases-add_one_variant : goal.decreases-add_one_variant
decreases-add_one_variant l = length l.variants.now
