-- The greatest status so far has a meaning.
use Rattle.std.proofs.Common.{◌≢◌, ◌≤◌}
use Rattle.app_command.proofs.formatting.format_files.Given as goal

abbrev pub invariant-loop-name : goal.invariant-loop-name
invariant-loop-name g l = (l.status ≤ 4) × (l.status ≢ 2)
