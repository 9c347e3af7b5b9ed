use Rattle.std.proofs.Common.{arith}
use Rattle.text_reader.specs.FormViews.{all_view}
use Rattle.text_reader.proofs.ReadLists.{handed-on}
use Rattle.text_reader.specs.SpecGrammar.{spec_exprs_of}
use Rattle.text_reader.specs.SpecViews.{spec_expr_views}
use Rattle.text_reader.proofs.ReadSpecs.{specs-begun, specs-put, specs-failed, specs-done}
use Rattle.text_reader.proofs.spec_expressions.expressions.Goals as goal

pub loop-form-init : goal.loop-form-init
loop-form-init c = specs-begun c.args.forms.now _ c.new-expressions.ensures.items

pub loop-form-preserved : goal.loop-form-preserved
loop-form-preserved c =
    specs-put (spec_exprs_of (all_view c.args.forms.now)) c.args.forms.now c.loop-form.form-index c.loop-form.expressions.items c.push.new.self.items c.form-item.result c.in_ok-expression.field-0
    c.loop-form-test.true c.form-item.is c.in_ok-expression.ensures c.in_ok-push.ensures.items c.loop-form.invariant

pub returns-in_err-expression : goal.returns-in_err-expression
returns-in_err-expression c =
    handed-on (λ xs. spec_expr_views xs.items) c.from_residual.result c.in_err-expression.field-0.0 (spec_exprs_of (all_view c.args.forms.now)) c.from_residual.ensures
    (specs-failed (spec_exprs_of (all_view c.args.forms.now)) c.args.forms.now c.loop-form.form-index c.loop-form.expressions.items c.form-item.result c.in_err-expression.field-0.0
    c.loop-form-test.true c.form-item.is c.in_err-expression.ensures c.loop-form.invariant)

pub returns : goal.returns
returns c =
    specs-done (spec_exprs_of (all_view c.args.forms.now)) c.args.forms.now c.loop-form.form-index c.loop-form.expressions.items (omega (arith, c.loop-form-test.false)) c.loop-form.invariant
