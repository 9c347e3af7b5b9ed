use Rattle.std.proofs.Common.{◌≡◌, ◌++◌, ◌==◌, drop, string_bytes}
use Rattle.std.specs.Prelude.{if◌then◌else◌}
use Rattle.core_syntax.specs.SyntaxViews.{expr_views, let_views}
use Rattle.text_writer.specs.Forms.{expr_forms, let_forms}
use Rattle.text_writer.specs.Texts.{parted, spaced}
use Rattle.text_writer.proofs.expressions.+expression.Given as goal

abbrev pub invariant-push_exprs-loop-expr : goal.invariant-push_exprs-loop-expr
invariant-push_exprs-loop-expr l =
    string_bytes l.out ++ spaced (expr_forms (expr_views (drop l.expr-index l.exprs))) ≡ string_bytes l.fn.out ++ spaced (expr_forms (expr_views l.exprs))

-- the first one has no space before it
abbrev pub invariant-push_lets-loop-i : goal.invariant-push_lets-loop-i
invariant-push_lets-loop-i l =
    string_bytes l.out ++ (if l.i == 0 then parted (let_forms (let_views (drop l.i l.defs))) else spaced (let_forms (let_views (drop l.i l.defs))))
    ≡ string_bytes l.fn.out ++ parted (let_forms (let_views l.defs))
