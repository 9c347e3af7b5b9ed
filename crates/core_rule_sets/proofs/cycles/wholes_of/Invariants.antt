use Rattle.std.proofs.Common.{◌≡◌, ℕ, take}
use Rattle.core_rule_sets.specs.Endings.{listed_at, wholes_in}
use Rattle.core_rule_sets.proofs.cycles.wholes_of.Given as goal

abbrev pub invariant-loop-part : goal.invariant-loop-part
invariant-loop-part l = (class : ℕ) → listed_at l.wholes class ≡ wholes_in l.classes (take l.part-index l.parts) class
