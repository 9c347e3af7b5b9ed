use Rattle.std.proofs.Common.{arith, rules, sym, ap, subst, ◌∙◌, Ok}
use Rattle.std.specs.Prelude.{codes}
use Rattle.std.specs.Str.{bytes_eq}
use Rattle.core_syntax.specs.SyntaxViews.{expr_view, expr_views, let_views, name_view, position}
use Rattle.text_reader.specs.declared.errors.Mistake.TheVariants as M
use Rattle.text_reader.specs.FormViews.{all_view}
use Rattle.text_reader.specs.ExprGrammar.{expr_arguments_of, lets_in, lets_of, let_definition_of}
use Rattle.text_reader.specs.LetViews.{let_tuple}
use Rattle.text_reader.specs.Views.{Gives}
use Rattle.text_reader.specs.Within.{ExprIsWithin}
use Rattle.text_reader.specs.Lets.{LetIsWithin}
use Rattle.text_reader.proofs.Rows.{pushed, group-parts}
use Rattle.text_reader.proofs.ReadLists.{handed-on, group-view, expr-headless, expr-let, expr-call, expr-unread}
use Rattle.text_reader.proofs.ReadLets.{told, let-is, let-definitionless, let-bodiless, let-few, let-two, definition-is, definition-valueless, defined-few, defined-many}
use Rattle.text_reader.proofs.ReadTrees.{expr-arguments-begun, exprs-put, exprs-failed, exprs-done, lets-begun, lets-put, lets-failed, lets-done}
use Rattle.text_reader.proofs.expressions.+expression.Goals as goal

pub arguments-loop-i-init : goal.arguments-loop-i-init
arguments-loop-i-init t c = (search rules, expr-arguments-begun c.args.parts.now _ c.new-expressions.ensures.items)

pub arguments-loop-i-preserved : goal.arguments-loop-i-preserved
arguments-loop-i-preserved t c = (
  pushed (λ e. ExprIsWithin c.args.at.file c.args.at.len (expr_view e)) c.loop-i.expressions.items c.push.new.self.items c.in_ok-expression.field-0 c.in_ok-push.ensures.items c.loop-i.invariant.0 c.in_ok-expression.ensures.within,
  exprs-put (expr_arguments_of (all_view c.args.parts.now)) c.args.parts.now c.loop-i.i c.loop-i.expressions.items c.push.new.self.items c.index-parts-i.result c.in_ok-expression.field-0
      c.loop-i-test.true c.index-parts-i.is c.in_ok-expression.ensures.read c.in_ok-push.ensures.items c.loop-i.invariant.1,
)

pub arguments-returns-in_err-expression-clause-read : goal.arguments-returns-in_err-expression-clause-read
arguments-returns-in_err-expression-clause-read t c =
    handed-on (λ es. expr_views es.items) c.from_residual.result c.in_err-expression.field-0.0 (expr_arguments_of (all_view c.args.parts.now)) c.from_residual.ensures
    (exprs-failed (expr_arguments_of (all_view c.args.parts.now)) c.args.parts.now c.loop-i.i c.loop-i.expressions.items c.index-parts-i.result c.in_err-expression.field-0.0
    c.loop-i-test.true c.index-parts-i.is c.in_err-expression.ensures.read c.loop-i.invariant.1)

pub arguments-returns-clause-read : goal.arguments-returns-clause-read
arguments-returns-clause-read t c =
    exprs-done (expr_arguments_of (all_view c.args.parts.now)) c.args.parts.now c.loop-i.i c.loop-i.expressions.items (omega (arith, c.loop-i-test.false)) c.loop-i.invariant.1

pub let_definitions_of-loop-form-init : goal.let_definitions_of-loop-form-init
let_definitions_of-loop-form-init t c = (search rules, lets-begun c.args.forms.now _ c.new-defs.ensures.items)

pub let_definitions_of-loop-form-preserved : goal.let_definitions_of-loop-form-preserved
let_definitions_of-loop-form-preserved t c = (
  pushed (LetIsWithin c.args.at.file c.args.at.len) c.loop-form.defs.items c.push.new.self.items c.in_ok-let_definition.field-0 c.in_ok-push.ensures.items c.loop-form.invariant.0 c.in_ok-let_definition.ensures.within,
  lets-put (lets_in (all_view c.args.forms.now)) c.args.forms.now c.loop-form.form-index c.loop-form.defs.items c.push.new.self.items c.form-item.result c.in_ok-let_definition.field-0
      c.loop-form-test.true c.form-item.is c.in_ok-let_definition.ensures.read c.in_ok-push.ensures.items c.loop-form.invariant.1,
)

pub let_definitions_of-returns-in_err-let_definition-clause-read : goal.let_definitions_of-returns-in_err-let_definition-clause-read
let_definitions_of-returns-in_err-let_definition-clause-read t c =
    handed-on (λ ds. let_views ds.items) c.from_residual.result c.in_err-let_definition.field-0.0 (lets_in (all_view c.args.forms.now)) c.from_residual.ensures
    (lets-failed (lets_in (all_view c.args.forms.now)) c.args.forms.now c.loop-form.form-index c.loop-form.defs.items c.form-item.result c.in_err-let_definition.field-0.0
    c.loop-form-test.true c.form-item.is c.in_err-let_definition.ensures.read c.loop-form.invariant.1)

pub let_definitions_of-returns-clause-read : goal.let_definitions_of-returns-clause-read
let_definitions_of-returns-clause-read t c =
    lets-done (lets_in (all_view c.args.forms.now)) c.args.forms.now c.loop-form.form-index c.loop-form.defs.items (omega (arith, c.loop-form-test.false)) c.loop-form.invariant.1

pub let_definitions-returns-in-Group-clause-read : goal.let_definitions-returns-in-Group-clause-read
let_definitions-returns-in-Group-clause-read t c =
    subst (Gives (λ ds. let_views ds.items) c.let_definitions_of.result) (sym (ap lets_of (group-view _ _ _ _ _ c.in-Group.is c.deref-parts.ensures.value))) c.let_definitions_of.ensures.read

pub let_definition-returns-in-Group-clause-read : goal.let_definition-returns-in-Group-clause-read
let_definition-returns-in-Group-clause-read t c =
    subst (Gives let_tuple c.let_definition_of.result) (sym (ap let_definition_of (group-view _ _ _ _ _ c.in-Group.is c.deref-parts.ensures.value))) c.let_definition_of.ensures.read

pub let_definition-seen-requires : goal.let_definition-seen-requires
let_definition-seen-requires t c =
    (group-parts c.args.at.file c.args.at.len c.args.form.now c.in-Group.parts c.in-Group.pos c.in-Group.field-2 c.deref-parts.result.now c.in-Group.is c.deref-parts.ensures.value c.requires).0

pub let_definitions-seen-requires : goal.let_definitions-seen-requires
let_definitions-seen-requires t c =
    (group-parts c.args.at.file c.args.at.len c.args.form.now c.in-Group.parts c.in-Group.field-1 c.in-Group.field-2 c.deref-parts.result.now c.in-Group.is c.deref-parts.ensures.value c.requires).0

pub expression-returns-in_err-sym-in-Group-clause-read : goal.expression-returns-in_err-sym-in-Group-clause-read
expression-returns-in_err-sym-in-Group-clause-read t c =
    handed-on expr_view c.from_residual-in_err-sym-in-Group.result c.in_err-sym-in-Group.field-0.0 _ c.from_residual-in_err-sym-in-Group.ensures
    (expr-headless _ _ _ _ (group-view _ _ _ _ _ c.in-Group.is c.deref-parts.ensures.value) c.in_err-sym-in-Group.field-0.0 c.in_err-sym-in-Group.ensures.read)

pub expression-returns-then-eq-clause-read : goal.expression-returns-then-eq-clause-read
expression-returns-then-eq-clause-read t c =
    subst (Gives expr_view c.let_expression.result)
    (expr-let _ _ _ _ (group-view _ _ _ _ _ c.in-Group.is c.deref-parts.ensures.value) (name_view c.in_ok-sym-in-Group.sym) c.in_ok-sym-in-Group.ensures.read
    (sym (ap (λ t. bytes_eq t (codes "let")) c.as_str.ensures.value) ∙ sym c.eq.ensures ∙ c.if-eq.true))
    c.let_expression.ensures.read

pub expression-returns-in_err-args-in-Group-clause-read : goal.expression-returns-in_err-args-in-Group-clause-read
expression-returns-in_err-args-in-Group-clause-read t c =
    handed-on expr_view c.from_residual-in_err-args-in-Group.result c.in_err-args-in-Group.field-0.0 _ c.from_residual-in_err-args-in-Group.ensures
    (expr-unread _ _ _ _ (group-view _ _ _ _ _ c.in-Group.is c.deref-parts.ensures.value) (name_view c.in_ok-sym-in-Group.sym) c.in_err-args-in-Group.field-0.0 c.in_ok-sym-in-Group.ensures.read
    (sym (ap (λ t. bytes_eq t (codes "let")) c.as_str.ensures.value) ∙ sym c.eq.ensures ∙ c.if-eq.false) c.in_err-args-in-Group.ensures.read)

pub expression-returns-in_ok-args-in-Group-clause-read : goal.expression-returns-in_ok-args-in-Group-clause-read
expression-returns-in_ok-args-in-Group-clause-read t c =
    expr-call _ _ _ _ (group-view _ _ _ _ _ c.in-Group.is c.deref-parts.ensures.value) (name_view c.in_ok-sym-in-Group.sym) _ c.in_ok-sym-in-Group.ensures.read
    (sym (ap (λ t. bytes_eq t (codes "let")) c.as_str.ensures.value) ∙ sym c.eq.ensures ∙ c.if-eq.false) c.in_ok-args-in-Group.ensures.read
    ∙ ap Ok (sym c.call.ensures.read)

pub let_expression-returns-in_err-defs-in-len3-clause-read : goal.let_expression-returns-in_err-defs-in-len3-clause-read
let_expression-returns-in_err-defs-in-len3-clause-read t c =
    handed-on expr_view c.from_residual.result c.in_err-defs-in-len3.field-0.0 _ c.from_residual.ensures
    (let-definitionless c.args.forms.now c.defs-item.result c.body-item.result (position c.args.pos) (position c.args.end) (omega (arith, c.in-len3.len_at_least, c.in-len3.len_below)) c.defs-item.is c.body-item.is c.in_err-defs-in-len3.field-0.0 c.in_err-defs-in-len3.ensures.read)

pub let_expression-returns-in_err-body-in-len3-clause-read : goal.let_expression-returns-in_err-body-in-len3-clause-read
let_expression-returns-in_err-body-in-len3-clause-read t c =
    handed-on expr_view c.from_residual-in_err-body-in-len3.result c.in_err-body-in-len3.field-0.0 _ c.from_residual-in_err-body-in-len3.ensures
    (let-bodiless c.args.forms.now c.defs-item.result c.body-item.result (position c.args.pos) (position c.args.end) (omega (arith, c.in-len3.len_at_least, c.in-len3.len_below)) c.defs-item.is c.body-item.is _ c.in_err-body-in-len3.field-0.0 c.in_ok-defs-in-len3.ensures.read c.in_err-body-in-len3.ensures.read)

pub let_expression-returns-in_ok-body-in-len3-clause-read : goal.let_expression-returns-in_ok-body-in-len3-clause-read
let_expression-returns-in_ok-body-in-len3-clause-read t c =
    subst (Gives expr_view c.let_in.result)
    (sym (let-is c.args.forms.now c.defs-item.result c.body-item.result (position c.args.pos) (position c.args.end) (omega (arith, c.in-len3.len_at_least, c.in-len3.len_below)) c.defs-item.is c.body-item.is _ _ c.in_ok-defs-in-len3.ensures.read c.in_ok-body-in-len3.ensures.read))
    c.let_in.ensures.read

pub let_expression-returns-in_default-clause-read : goal.let_expression-returns-in_default-clause-read
let_expression-returns-in_default-clause-read t c =
    told c.fault.result M.LetDefinitions c.args.end _ c.fault.ensures (let-few c.args.forms.now (position c.args.pos) (position c.args.end) (omega (arith, c.in_default.len_below)))

pub let_expression-returns-in-len2-clause-read : goal.let_expression-returns-in-len2-clause-read
let_expression-returns-in-len2-clause-read t c =
    told c.fault-in-len2.result M.Expression c.args.end _ c.fault-in-len2.ensures
    (let-two c.args.forms.now (position c.args.pos) (position c.args.end) (omega (arith, c.in-len2.len_at_least, c.in-len2.len_below)))

pub let_definition_of-returns-in_err-val-in-len3-clause-read : goal.let_definition_of-returns-in_err-val-in-len3-clause-read
let_definition_of-returns-in_err-val-in-len3-clause-read t c =
    handed-on let_tuple c.from_residual-in_err-val-in-len3.result c.in_err-val-in-len3.field-0.0 _ c.from_residual-in_err-val-in-len3.ensures
    (definition-valueless c.args.parts.now c.var-item.result c.ty-item.result c.val-item.result (position c.args.pos) (omega (arith, c.in-len3.len_at_least, c.in-len3.len_below)) c.var-item.is c.ty-item.is c.val-item.is
    (name_view c.in_ok-var-in-len3.var) (name_view c.in_ok-ty-in-len3.ty) c.in_ok-var-in-len3.ensures.read c.in_ok-ty-in-len3.ensures.read c.in_err-val-in-len3.field-0.0 c.in_err-val-in-len3.ensures.read)

pub let_definition_of-returns-in_ok-val-in-len3-clause-read : goal.let_definition_of-returns-in_ok-val-in-len3-clause-read
let_definition_of-returns-in_ok-val-in-len3-clause-read t c =
    subst (Gives let_tuple c.defined.result)
    (sym (definition-is c.args.parts.now c.var-item.result c.ty-item.result c.val-item.result (position c.args.pos) (omega (arith, c.in-len3.len_at_least, c.in-len3.len_below)) c.var-item.is c.ty-item.is c.val-item.is
    (name_view c.in_ok-var-in-len3.var) (name_view c.in_ok-ty-in-len3.ty) c.in_ok-var-in-len3.ensures.read c.in_ok-ty-in-len3.ensures.read _ c.in_ok-val-in-len3.ensures.read))
    c.defined.ensures.read

pub let_definition_of-returns-in-len4-up-clause-read : goal.let_definition_of-returns-in-len4-up-clause-read
let_definition_of-returns-in-len4-up-clause-read t c =
    told c.fault-in-len4-up.result M.LetDefinitions c.args.pos _ c.fault-in-len4-up.ensures
    (defined-many c.args.parts.now (position c.args.pos) (omega (arith, c.in-len4-up.len_at_least)))

pub let_definition_of-returns-in_default-clause-read : goal.let_definition_of-returns-in_default-clause-read
let_definition_of-returns-in_default-clause-read t c =
    told c.fault.result M.LetDefinitions c.args.pos _ c.fault.ensures (defined-few c.args.parts.now (position c.args.pos) (omega (arith, c.in_default.len_below)))
