use Rattle.std.proofs.Common.{◌≡◌, ℕ, take}
use Rattle.core_rule_sets.specs.Endings.{count_at, count_in}
use Rattle.core_rule_sets.proofs.cycles.counts_of.Given as goal

abbrev pub invariant-loop-part : goal.invariant-loop-part
invariant-loop-part l = (class : ℕ) → count_at l.counts class ≡ count_in l.classes (take l.part-index l.parts) class
