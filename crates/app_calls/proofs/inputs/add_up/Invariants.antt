-- What is left and what the files so far take are all bytes.
use Rattle.std.proofs.Common.{◌≡◌, ◌+◌, drop}
use Rattle.app_calls.specs.Calls.{total_length}
use Rattle.app_calls.proofs.inputs.add_up.Given as goal

abbrev pub invariant-loop-file : goal.invariant-loop-file
invariant-loop-file l = l.left + total_length l.files ≡ l.length + total_length (drop l.file-index l.files)
