use Rattle.std.proofs.Common.{◌≡◌, ◌++◌, drop, string_bytes}
use Rattle.core_syntax.specs.SyntaxViews.{pattern_views}
use Rattle.text_writer.specs.Forms.{pattern_forms}
use Rattle.text_writer.specs.Texts.{spaced}
use Rattle.text_writer.proofs.patterns.+pattern.Given as goal

abbrev pub invariant-push_patterns-loop-pattern : goal.invariant-push_patterns-loop-pattern
invariant-push_patterns-loop-pattern l =
    string_bytes l.out ++ spaced (pattern_forms (pattern_views (drop l.pattern-index l.patterns))) ≡ string_bytes l.fn.out ++ spaced (pattern_forms (pattern_views l.patterns))
