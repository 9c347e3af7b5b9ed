use Rattle.std.proofs.Common.{◌≡◌, ◌+◌, ◌≤◌, ◌==◌, take}
use Rattle.std.specs.List.{count_by}
use Rattle.core_syntax.proofs.syntax.line_at.Given as goal

abbrev pub invariant-loop-b : goal.invariant-loop-b
invariant-loop-b l = (l.line ≡ count_by (λ b. b == 10) (take l.b-index l.b-items) + 1) × (l.line ≤ l.b-index + 1)
