use Rattle.std.proofs.Common.{◌≡◌, ◌∙◌, ap, sym, rules, true}
use Rattle.model_code.specs.Code.{labelled, no_code_arm, no_statement}
use Rattle.model_code.specs.Pieces as P
use Rattle.model_code.specs.Written.{written_arms}
use Rattle.rust_code.specs.CodeViews.{arms_before, before, block_view, statement_view, use_view}
use Rattle.rust_code.proofs.CodeBridges.{labelled_seen}
use Rattle.rust_text.specs.Adding.{ahead}
use Rattle.rust_text.specs.Margins.{margin_view}
use Rattle.rust_text.proofs.WrittenSteps.{at_statement, label_written, labelled_written, many_inside, statement_ended, statement_more, statements_behind}
use Rattle.rust_text.proofs.notation.Writer.+code.Goals as goal

pub add_statements-loop-statement-preserved : goal.add_statements-loop-statement-preserved
add_statements-loop-statement-preserved t c = λ p n rest.
    let at = margin_view c.args.at in
    c.in_ok-add_statement.ensures p n (statements_behind p at c.args.statements.now c.loop-statement.statement-index rest)
    ∙ (sym (ap (ahead p c.loop-statement.out.items)
    (statement_more p at c.args.statements.now c.loop-statement.statement-index rest c.statement-item.result (search rules) c.statement-item.is c.ends.result c.is_end.result (c.ends.ensures p n) c.is_end.ensures c.if-is_end.false))
    ∙ c.loop-statement.invariant p n rest)

pub add_statements-returns-then-is_end : goal.add_statements-returns-then-is_end
add_statements-returns-then-is_end t c = λ p n rest.
    let at = margin_view c.args.at in
    c.in_ok-add_statement.ensures p n rest
    ∙ (sym (ap (ahead p c.loop-statement.out.items)
    (statement_ended p at c.args.statements.now c.loop-statement.statement-index rest c.statement-item.result (search rules) c.statement-item.is c.ends.result c.is_end.result (c.ends.ensures p n) c.is_end.ensures c.if-is_end.true))
    ∙ c.loop-statement.invariant p n rest)

pub add_statement-returns-in_ok-add_labelled-in-Labelled : goal.add_statement-returns-in_ok-add_labelled-in-Labelled
add_statement-returns-in_ok-add_labelled-in-Labelled t c = λ p n rest.
    let at = margin_view c.args.at in
    let body = block_view c.in-Labelled.body in
    c.in_ok-add_labelled-in-Labelled.ensures p n rest
    ∙ (sym (ap (ahead p c.args.out.now.items) (labelled_written p at body rest))
    ∙ at_statement p at c.args.out.now.items rest (statement_view c.args.statement.now) (labelled body) (ap statement_view c.in-Labelled.is ∙ labelled_seen c.in-Labelled.body))

pub add_only_label-returns-in_ok-add_labelled : goal.add_only_label-returns-in_ok-add_labelled
add_only_label-returns-in_ok-add_labelled t c = λ p n rest.
    let body = block_view c.args.body.now in
    let left : P.is_left (P.result_ends p) body ≡ true =
    ap (λ ends. P.is_left ends body) (sym (c.ends.ensures p n))
    ∙ (ap (λ l. P.is_left c.ends.result (before l no_statement)) (sym c.deref.ensures.value)
    ∙ (sym c.leaves_label.ensures ∙ c.if-leaves_label.true)) in
    c.in_ok-add_labelled.ensures p n rest ∙ sym (ap (ahead p c.args.out.now.items) (label_written p (margin_view c.args.at) body rest left))

pub add_inside-returns-in_ok-add_statements-in-len2-up : goal.add_inside-returns-in_ok-add_statements-in-len2-up
add_inside-returns-in_ok-add_statements-in-len2-up t c = λ p n rest.
    c.in_ok-add_statements-in-len2-up.ensures p n rest
    ∙ sym (ap (ahead p c.args.out.now.items) (many_inside p (margin_view c.args.at) rest c.args.statements.now (search rules)))

pub add_match-returns : goal.add_match-returns
add_match-returns t c = λ p n rest.
    let at = margin_view c.args.at in
    let u = use_view c.args.value.now in
    let arms = written_arms p (arms_before c.args.arms.now no_code_arm) in
    let b = c.stands_alone-is_alone.result in
    let old = c.args.out.now.items in
    c.in_ok-end_match.ensures p rest
    ∙ (c.in_ok-add_arms.ensures p n (P.match_end b at rest)
    ∙ (c.in_ok-begin_match.ensures p (P.arms_before b p (margin_view c.in_ok-inside.inside) u arms (P.match_end b at rest))
    ∙ (ap (λ m. ahead p old (P.match_head b p at u (P.arms_before b p m u arms (P.match_end b at rest)))) c.in_ok-inside.ensures
    ∙ ap (λ x. ahead p old (P.match_head x p at u (P.arms_before x p (P.arms_at x at) u arms (P.match_end x at rest)))) (c.stands_alone-is_alone.ensures p))))
