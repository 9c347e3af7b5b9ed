use Rattle.std.proofs.Common.{◌≡◌, drop}
use Rattle.core_syntax.specs.SyntaxViews.{expr_views, let_views}
use Rattle.core_syntax.proofs.ExprViews.{exprs_before, lets_before}
use Rattle.core_syntax.proofs.syntax.+expr_clone.Given as goal

abbrev pub invariant-expr_clones-loop-part : goal.invariant-expr_clones-loop-part
invariant-expr_clones-loop-part l = exprs_before l.out.items (expr_views (drop l.part-index l.parts)) ≡ expr_views l.parts

abbrev pub invariant-let_clones-loop-part : goal.invariant-let_clones-loop-part
invariant-let_clones-loop-part l = lets_before l.out.items (let_views (drop l.part-index l.parts)) ≡ let_views l.parts
