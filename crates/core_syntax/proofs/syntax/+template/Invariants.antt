use Rattle.std.proofs.Common.{◌≡◌, drop, map, string_bytes}
use Rattle.core_syntax.specs.SyntaxViews.{pattern_views}
use Rattle.model.specs.lists.TermTable.{templates}
use Rattle.core_syntax.proofs.PatternViews.{before}
use Rattle.core_syntax.proofs.syntax.+template.Given as goal

abbrev pub invariant-templates-loop-part : goal.invariant-templates-loop-part
invariant-templates-loop-part l =
    before l.out.items (templates (map (λ a. string_bytes a.0) l.args) (pattern_views (drop l.part-index l.parts)))
    ≡ templates (map (λ a. string_bytes a.0) l.args) (pattern_views l.parts)
