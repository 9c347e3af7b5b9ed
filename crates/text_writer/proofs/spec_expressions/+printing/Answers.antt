use Rattle.std.specs.Prelude.{string_bytes}
use Rattle.text_reader.specs.SpecViews.{spec_expr_view, spec_expr_views}
use Rattle.text_reader.proofs.SpecViews.{row_spec_exprs-hidden}
use Rattle.text_writer.proofs.Chains.{when, let_told}
use Rattle.text_writer.specs.SpecForms.{spec_expr_form, spec_expr_forms}
use Rattle.text_writer.proofs.SpecTexts.{cases_told}
use Rattle.text_writer.proofs.spec_expressions.+printing.Goals as goal

pub push_expr-returns-in-Op : goal.push_expr-returns-in-Op
push_expr-returns-in-Op t c =
    rw (c.in-Op.is, row_spec_exprs-hidden c.in-Op.args, ← c.deref-in-Op-2.ensures.value, ← c.deref-in-Op.ensures) c.push_section.ensures

pub push_expr-returns-in_ok-push_first-in-Cases : goal.push_expr-returns-in_ok-push_first-in-Cases
push_expr-returns-in_ok-push_first-in-Cases t c =
    rw (c.in-Cases.is, row_spec_exprs-hidden c.in-Cases.cases, ← c.deref-in-Cases-3.ensures.value, ← c.deref-in-Cases-2.ensures, ← c.deref-in-Cases.ensures)
    (when c.push_rest.result
    (cases_told (spec_expr_form (spec_expr_view c.deref-in-Cases-2.result.now)) (spec_expr_forms (spec_expr_views c.deref-in-Cases-3.result.now)) c.deref-in-Cases.result.now
    (string_bytes c.args.out.now) (string_bytes c.push_first.new.out) (string_bytes c.push_rest.new.out) c.in_ok-push_first-in-Cases.ensures) c.push_rest.ensures)

pub push_expr-returns-in_ok-push_group-in-Let : goal.push_expr-returns-in_ok-push_group-in-Let
push_expr-returns-in_ok-push_group-in-Let t c =
    rw (c.in-Let.is, row_spec_exprs-hidden c.in-Let.defs, ← c.deref-in-Let.ensures.value, ← c.deref-in-Let-2.ensures)
    (when c.push_last.result
    (let_told (spec_expr_forms (spec_expr_views c.deref-in-Let.result.now)) (spec_expr_form (spec_expr_view c.deref-in-Let-2.result.now)) (string_bytes c.args.out.now) (string_bytes c.push_str-in-Let.new.self)
    (string_bytes c.push_group.new.out) (string_bytes c.push_last.new.out) c.in_ok-push_str-in-Let.ensures.bytes c.in_ok-push_group-in-Let.ensures) c.push_last.ensures)
