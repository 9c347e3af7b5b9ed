use Rattle.std.proofs.Common.{◌≡◌, ◌++◌, map, drop}
use Rattle.core_typed.specs.PatternViews.{pattern_view}
use Rattle.core_typed.proofs.patterns.+clone_pattern.Given as goal

abbrev pub invariant-clones-loop-part : goal.invariant-clones-loop-part
invariant-clones-loop-part l = map pattern_view l.out.items ++ map pattern_view (drop l.part-index l.parts) ≡ map pattern_view l.parts
