use Rattle.std.specs.Prelude.{string_bytes}
use Rattle.core_syntax.specs.SyntaxViews.{expr_view, let_views}
use Rattle.core_syntax.proofs.ExprViews.{row_exprs-hidden, row_lets-hidden}
use Rattle.text_writer.specs.Forms.{expr_form, let_forms}
use Rattle.text_writer.proofs.Chains.{when, let_told}
use Rattle.text_writer.proofs.expressions.+expression.Goals as goal

pub push_expr-returns-in-Term : goal.push_expr-returns-in-Term
push_expr-returns-in-Term t c =
    rw (c.in-Term.is, row_exprs-hidden c.in-Term.args, ← c.deref-in-Term.ensures.value, ← c.deref.ensures) c.push_call.ensures

pub push_expr-returns-in_ok-push_let_list-in-Let : goal.push_expr-returns-in_ok-push_let_list-in-Let
push_expr-returns-in_ok-push_let_list-in-Let t c =
    rw (c.in-Let.is, row_lets-hidden c.in-Let.defs, ← c.deref-in-Let.ensures.value, ← c.deref-in-Let-2.ensures)
    (when c.push_last.result
    (let_told (let_forms (let_views c.deref-in-Let.result.now)) (expr_form (expr_view c.deref-in-Let-2.result.now)) (string_bytes c.args.out.now) (string_bytes c.push_str-in-Let.new.self)
    (string_bytes c.push_let_list.new.out) (string_bytes c.push_last.new.out) c.in_ok-push_str-in-Let.ensures.bytes c.in_ok-push_let_list-in-Let.ensures) c.push_last.ensures)
