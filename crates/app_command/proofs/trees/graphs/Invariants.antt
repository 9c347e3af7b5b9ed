-- Each term so far has a graph.
use Rattle.std.proofs.Common.{◌≤◌, string_len}
use Rattle.app_command.proofs.trees.graphs.Given as goal

abbrev pub invariant-loop-term : goal.invariant-loop-term
invariant-loop-term g l = l.term-index ≤ string_len l.out
