use Rattle.std.proofs.Common.{length}
use Rattle.spec_cases.proofs.arena.Formulas.+is_no_variant.Given as goal

abbrev pub decreases-is_no_variant : goal.decreases-is_no_variant
decreases-is_no_variant l = length l.variants.now
