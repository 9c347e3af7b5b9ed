use Rattle.std.proofs.Common.{◌≡◌, drop, map}
use Rattle.core_syntax.specs.SyntaxViews.{pattern_view, pattern_views}
use Rattle.model.specs.lists.Expansions.{all_substituted}
use Rattle.core_syntax.proofs.PatternViews.{after}
use Rattle.core_syntax.proofs.syntax.+subst.Given as goal

abbrev pub invariant-subst_each-loop-part : goal.invariant-subst_each-loop-part
invariant-subst_each-loop-part l =
    after l.out.items (all_substituted (map pattern_view l.macro_args) (pattern_views (drop l.part-index l.parts))) ≡ all_substituted (map pattern_view l.macro_args) (pattern_views l.parts)
