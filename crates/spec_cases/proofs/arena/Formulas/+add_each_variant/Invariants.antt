use Rattle.std.proofs.Common.{length}
use Rattle.spec_cases.proofs.arena.Formulas.+add_each_variant.Given as goal

abbrev pub decreases-add_each_variant : goal.decreases-add_each_variant
decreases-add_each_variant l = length l.variants.now
