use Rattle.std.proofs.Common.{◌≡◌, drop}
use Rattle.core_syntax.specs.SyntaxViews.{pattern_views}
use Rattle.core_syntax.proofs.PatternViews.{before}
use Rattle.core_syntax.proofs.syntax.+pattern_clone.Given as goal

abbrev pub invariant-pattern_clones-loop-part : goal.invariant-pattern_clones-loop-part
invariant-pattern_clones-loop-part l = before l.out.items (pattern_views (drop l.part-index l.parts)) ≡ pattern_views l.parts
