use Rattle.std.proofs.Common.{arith, drop, sym, ap, subst, ◌∙◌, Ok}
use Rattle.core_syntax.specs.SyntaxViews.{name_view, position}
use Rattle.text_reader.specs.declared.errors.Mistake.TheVariants as M
use Rattle.text_reader.specs.FormViews.{all_view, form_view}
use Rattle.text_reader.specs.Views.{Gives}
use Rattle.text_reader.proofs.Rows.{group-parts}
use Rattle.text_reader.proofs.ReadLists.{handed-on, group-view}
use Rattle.text_reader.proofs.ReadLets.{told}
use Rattle.text_reader.specs.SpecTrees.{spec_as, spec_let, spec_with}
use Rattle.text_reader.specs.SpecGrammar.{arguments_of, defs_of, model_type_of, name_list_of, pairs_of, pair_of, spec_expr_of}
use Rattle.text_reader.specs.SpecViews.{spec_expr_view, spec_expr_views}
use Rattle.text_reader.proofs.ReadSpecs.{empty-list, headless, is-switch, is-three, is-operation, argumentless, few-cases, valueless, caseless, switch-is, firstless, secondless, both-read, behind-let, behind-with, behind-as, three-few, few-parts, many-parts, leftless, rightless, pair-is, arguments-begun, specs-put, specs-failed, specs-done, pairs-begun, pairs-put, pairs-failed, pairs-done}
use Rattle.text_reader.proofs.spec_expressions.+expression.Goals as goal

pub arguments-loop-i-init : goal.arguments-loop-i-init
arguments-loop-i-init t c = arguments-begun c.args.parts.now _ c.new-arguments.ensures.items

pub arguments-loop-i-preserved : goal.arguments-loop-i-preserved
arguments-loop-i-preserved t c =
    specs-put (arguments_of (all_view c.args.parts.now)) c.args.parts.now c.loop-i.i c.loop-i.arguments.items c.push.new.self.items c.index-parts-i.result c.in_ok-expression.field-0
    c.loop-i-test.true c.index-parts-i.is c.in_ok-expression.ensures c.in_ok-push.ensures.items c.loop-i.invariant

pub arguments-returns-in_err-expression : goal.arguments-returns-in_err-expression
arguments-returns-in_err-expression t c =
    handed-on (λ xs. spec_expr_views xs.items) c.from_residual.result c.in_err-expression.field-0.0 (arguments_of (all_view c.args.parts.now)) c.from_residual.ensures
    (specs-failed (arguments_of (all_view c.args.parts.now)) c.args.parts.now c.loop-i.i c.loop-i.arguments.items c.index-parts-i.result c.in_err-expression.field-0.0
    c.loop-i-test.true c.index-parts-i.is c.in_err-expression.ensures c.loop-i.invariant)

pub arguments-returns : goal.arguments-returns
arguments-returns t c =
    specs-done (arguments_of (all_view c.args.parts.now)) c.args.parts.now c.loop-i.i c.loop-i.arguments.items (omega (arith, c.loop-i-test.false)) c.loop-i.invariant

pub pairs-loop-i-init : goal.pairs-loop-i-init
pairs-loop-i-init t c = pairs-begun c.args.parts.now c.args.from _ c.new-pairs.ensures.items

pub pairs-loop-i-preserved : goal.pairs-loop-i-preserved
pairs-loop-i-preserved t c =
    pairs-put (pairs_of (all_view (drop c.args.from c.args.parts.now))) c.args.parts.now c.loop-i.i c.loop-i.pairs.items c.push.new.self.items c.index-parts-i.result c.in_ok-pair.field-0
    c.loop-i-test.true c.index-parts-i.is c.in_ok-pair.ensures c.in_ok-push.ensures.items c.loop-i.invariant

pub pairs-returns-in_err-pair : goal.pairs-returns-in_err-pair
pairs-returns-in_err-pair t c =
    handed-on (λ xs. spec_expr_views xs.items) c.from_residual.result c.in_err-pair.field-0.0 (pairs_of (all_view (drop c.args.from c.args.parts.now))) c.from_residual.ensures
    (pairs-failed (pairs_of (all_view (drop c.args.from c.args.parts.now))) c.args.parts.now c.loop-i.i c.loop-i.pairs.items c.index-parts-i.result c.in_err-pair.field-0.0
    c.loop-i-test.true c.index-parts-i.is c.in_err-pair.ensures c.loop-i.invariant)

pub pairs-returns : goal.pairs-returns
pairs-returns t c =
    pairs-done (pairs_of (all_view (drop c.args.from c.args.parts.now))) c.args.parts.now c.loop-i.i c.loop-i.pairs.items (omega (arith, c.loop-i-test.false)) c.loop-i.invariant

pub expression-seen-requires : goal.expression-seen-requires
expression-seen-requires t c =
    (group-parts c.args.at.file c.args.at.len c.args.form.now c.in-Group.parts c.in-Group.pos c.in-Group.end c.deref-parts.result.now c.in-Group.is c.deref-parts.ensures.value c.requires).0

pub expression-returns-in-Group : goal.expression-returns-in-Group
expression-returns-in-Group t c =
    subst (Gives spec_expr_view c.list_expression.result) (sym (ap spec_expr_of (group-view _ _ _ _ _ c.in-Group.is c.deref-parts.ensures.value))) c.list_expression.ensures

pub pair-seen-requires : goal.pair-seen-requires
pair-seen-requires t c =
    (group-parts c.args.at.file c.args.at.len c.args.form.now c.in-Group.parts c.in-Group.pos c.in-Group.field-2 c.deref-parts.result.now c.in-Group.is c.deref-parts.ensures.value c.requires).0

pub pair-returns-in-Group : goal.pair-returns-in-Group
pair-returns-in-Group t c =
    subst (Gives spec_expr_view c.pair_in.result) (sym (ap pair_of (group-view _ _ _ _ _ c.in-Group.is c.deref-parts.ensures.value))) c.pair_in.ensures

pub list_expression-returns-then-is_empty : goal.list_expression-returns-then-is_empty
list_expression-returns-then-is_empty t c =
    empty-list (all_view c.args.parts.now) (position c.args.pos) (position c.args.end) (sym c.is_empty.ensures ∙ c.if-is_empty.true)

pub list_expression-returns-in_err-op : goal.list_expression-returns-in_err-op
list_expression-returns-in_err-op t c =
    handed-on spec_expr_view c.from_residual.result c.in_err-op.field-0.0 _ c.from_residual.ensures
    (headless (all_view c.args.parts.now) (position c.args.pos) (position c.args.end) (sym c.is_empty.ensures ∙ c.if-is_empty.false) c.in_err-op.field-0.0 c.in_err-op.ensures.read)

pub list_expression-returns-then-has_cases : goal.list_expression-returns-then-has_cases
list_expression-returns-then-has_cases t c =
    subst (Gives spec_expr_view c.switch.result)
    (is-switch (all_view c.args.parts.now) (position c.args.pos) (position c.args.end) (sym c.is_empty.ensures ∙ c.if-is_empty.false) (name_view c.in_ok-op.op) c.in_ok-op.ensures.read
    (sym c.has_cases.ensures ∙ c.if-has_cases.true))
    c.switch.ensures

pub list_expression-returns-in_err-args : goal.list_expression-returns-in_err-args
list_expression-returns-in_err-args t c =
    handed-on spec_expr_view c.from_residual-in_err-args.result c.in_err-args.field-0.0 _ c.from_residual-in_err-args.ensures
    (argumentless (all_view c.args.parts.now) (position c.args.pos) (position c.args.end) (sym c.is_empty.ensures ∙ c.if-is_empty.false) (name_view c.in_ok-op.op) c.in_ok-op.ensures.read
    c.in_err-args.field-0.0 (sym c.has_cases.ensures ∙ c.if-has_cases.false) (sym c.has_three.ensures ∙ c.if-has_three.false) c.in_err-args.ensures)

pub list_expression-returns : goal.list_expression-returns
list_expression-returns t c =
    is-operation (all_view c.args.parts.now) (position c.args.pos) (position c.args.end) (sym c.is_empty.ensures ∙ c.if-is_empty.false) (name_view c.in_ok-op.op) c.in_ok-op.ensures.read
    _ (sym c.has_cases.ensures ∙ c.if-has_cases.false) (sym c.has_three.ensures ∙ c.if-has_three.false) c.in_ok-args.ensures
    ∙ ap Ok (sym c.operation.ensures)

pub switch-returns-in_err-value-in-len2-up : goal.switch-returns-in_err-value-in-len2-up
switch-returns-in_err-value-in-len2-up t c =
    handed-on spec_expr_view c.from_residual.result c.in_err-value-in-len2-up.field-0.0 _ c.from_residual.ensures
    (valueless (name_view c.args.op) c.args.parts.now c.value-item.result (position c.args.pos) (position c.args.end) c.in-len2-up.len_at_least c.value-item.is
    c.in_err-value-in-len2-up.field-0.0 c.in_err-value-in-len2-up.ensures)

pub switch-returns-in_err-cases-in-len2-up : goal.switch-returns-in_err-cases-in-len2-up
switch-returns-in_err-cases-in-len2-up t c =
    handed-on spec_expr_view c.from_residual-in_err-cases-in-len2-up.result c.in_err-cases-in-len2-up.field-0.0 _ c.from_residual-in_err-cases-in-len2-up.ensures
    (caseless (name_view c.args.op) c.args.parts.now c.value-item.result (position c.args.pos) (position c.args.end) c.in-len2-up.len_at_least c.value-item.is
    _ c.in_ok-value-in-len2-up.ensures c.in_err-cases-in-len2-up.field-0.0 c.in_err-cases-in-len2-up.ensures)

pub switch-returns-in_ok-cases-in-len2-up : goal.switch-returns-in_ok-cases-in-len2-up
switch-returns-in_ok-cases-in-len2-up t c =
    subst (Gives spec_expr_view c.with_cases.result)
    (sym (switch-is (name_view c.args.op) c.args.parts.now c.value-item.result (position c.args.pos) (position c.args.end) c.in-len2-up.len_at_least c.value-item.is
    _ c.in_ok-value-in-len2-up.ensures _ c.in_ok-cases-in-len2-up.ensures))
    c.with_cases.ensures

pub switch-returns-in_default : goal.switch-returns-in_default
switch-returns-in_default t c =
    told c.fault.result M.Expression c.args.end _ c.fault.ensures (few-cases (name_view c.args.op) c.args.parts.now (position c.args.pos) (position c.args.end) (omega (arith, c.in_default.len_below)))

pub pair_in-returns-in_err-left-in-len2 : goal.pair_in-returns-in_err-left-in-len2
pair_in-returns-in_err-left-in-len2 t c =
    handed-on spec_expr_view c.from_residual.result c.in_err-left-in-len2.field-0.0 _ c.from_residual.ensures
    (leftless c.args.parts.now c.left-item.result c.right-item.result (position c.args.pos) (omega (arith, c.in-len2.len_at_least, c.in-len2.len_below)) c.left-item.is c.right-item.is
    c.in_err-left-in-len2.field-0.0 c.in_err-left-in-len2.ensures)

pub pair_in-returns-in_err-right-in-len2 : goal.pair_in-returns-in_err-right-in-len2
pair_in-returns-in_err-right-in-len2 t c =
    handed-on spec_expr_view c.from_residual-in_err-right-in-len2.result c.in_err-right-in-len2.field-0.0 _ c.from_residual-in_err-right-in-len2.ensures
    (rightless c.args.parts.now c.left-item.result c.right-item.result (position c.args.pos) (omega (arith, c.in-len2.len_at_least, c.in-len2.len_below)) c.left-item.is c.right-item.is
    _ c.in_ok-left-in-len2.ensures c.in_err-right-in-len2.field-0.0 c.in_err-right-in-len2.ensures)

pub pair_in-returns-in_ok-right-in-len2 : goal.pair_in-returns-in_ok-right-in-len2
pair_in-returns-in_ok-right-in-len2 t c =
    subst (Gives spec_expr_view c.both.result)
    (sym (pair-is c.args.parts.now c.left-item.result c.right-item.result (position c.args.pos) (omega (arith, c.in-len2.len_at_least, c.in-len2.len_below)) c.left-item.is c.right-item.is
    _ c.in_ok-left-in-len2.ensures _ c.in_ok-right-in-len2.ensures))
    c.both.ensures

pub pair_in-returns-in-len3-up : goal.pair_in-returns-in-len3-up
pair_in-returns-in-len3-up t c =
    told c.fault-in-len3-up.result M.Case c.args.pos _ c.fault-in-len3-up.ensures (many-parts c.args.parts.now (position c.args.pos) c.in-len3-up.len_at_least)

pub pair_in-returns-in_default : goal.pair_in-returns-in_default
pair_in-returns-in_default t c =
    told c.fault.result M.Case c.args.pos _ c.fault.ensures (few-parts c.args.parts.now (position c.args.pos) (omega (arith, c.in_default.len_below)))

pub list_expression-returns-then-has_three : goal.list_expression-returns-then-has_three
list_expression-returns-then-has_three t c =
    subst (Gives spec_expr_view c.three.result)
    (is-three (all_view c.args.parts.now) (position c.args.pos) (position c.args.end) (sym c.is_empty.ensures ∙ c.if-is_empty.false) (name_view c.in_ok-op.op) c.in_ok-op.ensures.read
    (sym c.has_cases.ensures ∙ c.if-has_cases.false) (sym c.has_three.ensures ∙ c.if-has_three.true))
    c.three.ensures

pub definitions-seen-requires : goal.definitions-seen-requires
definitions-seen-requires t c =
    (group-parts c.args.at.file c.args.at.len c.args.form.now c.in-Group.parts c.in-Group.field-1 c.in-Group.field-2 c.deref-parts.result.now c.in-Group.is c.deref-parts.ensures.value c.requires).0

pub definitions-returns-in-Group : goal.definitions-returns-in-Group
definitions-returns-in-Group t c =
    subst (Gives (λ xs. spec_expr_views xs.items) c.pairs.result) (sym (ap defs_of (group-view _ _ _ _ _ c.in-Group.is c.deref-parts.ensures.value))) c.pairs.ensures

pub let_in-returns-in_err-defs-in-len3-up : goal.let_in-returns-in_err-defs-in-len3-up
let_in-returns-in_err-defs-in-len3-up t c =
    handed-on spec_expr_view c.from_residual.result c.in_err-defs-in-len3-up.field-0.0 _ c.from_residual.ensures
    (firstless (λ ds x. spec_let ds x (position c.args.pos)) (defs_of (form_view c.defs-item.result)) (spec_expr_of (form_view c.body-item.result)) _
    (behind-let (name_view c.args.op.now) c.args.parts.now c.defs-item.result c.body-item.result (position c.args.pos) (position c.args.end) (omega (arith, c.in-len3-up.len_at_least, c.requires.few)) c.defs-item.is c.body-item.is c.requires.word)
    c.in_err-defs-in-len3-up.field-0.0 c.in_err-defs-in-len3-up.ensures)

pub let_in-returns-in_err-body-in-len3-up : goal.let_in-returns-in_err-body-in-len3-up
let_in-returns-in_err-body-in-len3-up t c =
    handed-on spec_expr_view c.from_residual-in_err-body-in-len3-up.result c.in_err-body-in-len3-up.field-0.0 _ c.from_residual-in_err-body-in-len3-up.ensures
    (secondless (λ ds x. spec_let ds x (position c.args.pos)) (defs_of (form_view c.defs-item.result)) (spec_expr_of (form_view c.body-item.result)) _
    (behind-let (name_view c.args.op.now) c.args.parts.now c.defs-item.result c.body-item.result (position c.args.pos) (position c.args.end) (omega (arith, c.in-len3-up.len_at_least, c.requires.few)) c.defs-item.is c.body-item.is c.requires.word)
    _ c.in_ok-defs-in-len3-up.ensures c.in_err-body-in-len3-up.field-0.0 c.in_err-body-in-len3-up.ensures)

pub let_in-returns-in_ok-body-in-len3-up : goal.let_in-returns-in_ok-body-in-len3-up
let_in-returns-in_ok-body-in-len3-up t c =
    subst (Gives spec_expr_view c.under_definitions.result)
    (sym (both-read (λ ds x. spec_let ds x (position c.args.pos)) (defs_of (form_view c.defs-item.result)) (spec_expr_of (form_view c.body-item.result)) _
    (behind-let (name_view c.args.op.now) c.args.parts.now c.defs-item.result c.body-item.result (position c.args.pos) (position c.args.end) (omega (arith, c.in-len3-up.len_at_least, c.requires.few)) c.defs-item.is c.body-item.is c.requires.word)
    _ c.in_ok-defs-in-len3-up.ensures _ c.in_ok-body-in-len3-up.ensures))
    c.under_definitions.ensures

pub let_in-returns-in_default : goal.let_in-returns-in_default
let_in-returns-in_default t c =
    told c.fault.result M.Expression c.args.end _ c.fault.ensures
    (three-few (name_view c.args.op.now) c.args.parts.now (position c.args.pos) (position c.args.end) (omega (arith, c.in_default.len_below)))

pub with_names-returns-in_err-names-in-len3-up : goal.with_names-returns-in_err-names-in-len3-up
with_names-returns-in_err-names-in-len3-up t c =
    handed-on spec_expr_view c.from_residual.result c.in_err-names-in-len3-up.field-0.0 _ c.from_residual.ensures
    (firstless (λ ns x. spec_with ns x (position c.args.pos)) (name_list_of (form_view c.names-item.result)) (spec_expr_of (form_view c.body-item.result)) _
    (behind-with (name_view c.args.op.now) c.args.parts.now c.names-item.result c.body-item.result (position c.args.pos) (position c.args.end) (omega (arith, c.in-len3-up.len_at_least, c.requires.few)) c.names-item.is c.body-item.is c.requires.other c.requires.word)
    c.in_err-names-in-len3-up.field-0.0 c.in_err-names-in-len3-up.ensures.read)

pub with_names-returns-in_err-body-in-len3-up : goal.with_names-returns-in_err-body-in-len3-up
with_names-returns-in_err-body-in-len3-up t c =
    handed-on spec_expr_view c.from_residual-in_err-body-in-len3-up.result c.in_err-body-in-len3-up.field-0.0 _ c.from_residual-in_err-body-in-len3-up.ensures
    (secondless (λ ns x. spec_with ns x (position c.args.pos)) (name_list_of (form_view c.names-item.result)) (spec_expr_of (form_view c.body-item.result)) _
    (behind-with (name_view c.args.op.now) c.args.parts.now c.names-item.result c.body-item.result (position c.args.pos) (position c.args.end) (omega (arith, c.in-len3-up.len_at_least, c.requires.few)) c.names-item.is c.body-item.is c.requires.other c.requires.word)
    _ c.in_ok-names-in-len3-up.ensures.read c.in_err-body-in-len3-up.field-0.0 c.in_err-body-in-len3-up.ensures)

pub with_names-returns-in_ok-body-in-len3-up : goal.with_names-returns-in_ok-body-in-len3-up
with_names-returns-in_ok-body-in-len3-up t c =
    subst (Gives spec_expr_view c.under_names.result)
    (sym (both-read (λ ns x. spec_with ns x (position c.args.pos)) (name_list_of (form_view c.names-item.result)) (spec_expr_of (form_view c.body-item.result)) _
    (behind-with (name_view c.args.op.now) c.args.parts.now c.names-item.result c.body-item.result (position c.args.pos) (position c.args.end) (omega (arith, c.in-len3-up.len_at_least, c.requires.few)) c.names-item.is c.body-item.is c.requires.other c.requires.word)
    _ c.in_ok-names-in-len3-up.ensures.read _ c.in_ok-body-in-len3-up.ensures))
    c.under_names.ensures

pub with_names-returns-in_default : goal.with_names-returns-in_default
with_names-returns-in_default t c =
    told c.fault.result M.Expression c.args.end _ c.fault.ensures
    (three-few (name_view c.args.op.now) c.args.parts.now (position c.args.pos) (position c.args.end) (omega (arith, c.in_default.len_below)))

pub as_type-returns-in_err-value-in-len3-up : goal.as_type-returns-in_err-value-in-len3-up
as_type-returns-in_err-value-in-len3-up t c =
    handed-on spec_expr_view c.from_residual.result c.in_err-value-in-len3-up.field-0.0 _ c.from_residual.ensures
    (firstless (λ x t. spec_as x t (position c.args.pos)) (spec_expr_of (form_view c.value-item.result)) (model_type_of (form_view c.ty-item.result)) _
    (behind-as (name_view c.args.op.now) c.args.parts.now c.value-item.result c.ty-item.result (position c.args.pos) (position c.args.end) (omega (arith, c.in-len3-up.len_at_least, c.requires.few)) c.value-item.is c.ty-item.is c.requires.no_let c.requires.no_with)
    c.in_err-value-in-len3-up.field-0.0 c.in_err-value-in-len3-up.ensures)

pub as_type-returns-in_err-ty-in-len3-up : goal.as_type-returns-in_err-ty-in-len3-up
as_type-returns-in_err-ty-in-len3-up t c =
    handed-on spec_expr_view c.from_residual-in_err-ty-in-len3-up.result c.in_err-ty-in-len3-up.field-0.0 _ c.from_residual-in_err-ty-in-len3-up.ensures
    (secondless (λ x t. spec_as x t (position c.args.pos)) (spec_expr_of (form_view c.value-item.result)) (model_type_of (form_view c.ty-item.result)) _
    (behind-as (name_view c.args.op.now) c.args.parts.now c.value-item.result c.ty-item.result (position c.args.pos) (position c.args.end) (omega (arith, c.in-len3-up.len_at_least, c.requires.few)) c.value-item.is c.ty-item.is c.requires.no_let c.requires.no_with)
    _ c.in_ok-value-in-len3-up.ensures c.in_err-ty-in-len3-up.field-0.0 c.in_err-ty-in-len3-up.ensures)

pub as_type-returns-in_ok-ty-in-len3-up : goal.as_type-returns-in_ok-ty-in-len3-up
as_type-returns-in_ok-ty-in-len3-up t c =
    subst (Gives spec_expr_view c.of_type.result)
    (sym (both-read (λ x t. spec_as x t (position c.args.pos)) (spec_expr_of (form_view c.value-item.result)) (model_type_of (form_view c.ty-item.result)) _
    (behind-as (name_view c.args.op.now) c.args.parts.now c.value-item.result c.ty-item.result (position c.args.pos) (position c.args.end) (omega (arith, c.in-len3-up.len_at_least, c.requires.few)) c.value-item.is c.ty-item.is c.requires.no_let c.requires.no_with)
    _ c.in_ok-value-in-len3-up.ensures _ c.in_ok-ty-in-len3-up.ensures))
    c.of_type.ensures

pub as_type-returns-in_default : goal.as_type-returns-in_default
as_type-returns-in_default t c =
    told c.fault.result M.Expression c.args.end _ c.fault.ensures
    (three-few (name_view c.args.op.now) c.args.parts.now (position c.args.pos) (position c.args.end) (omega (arith, c.in_default.len_below)))
