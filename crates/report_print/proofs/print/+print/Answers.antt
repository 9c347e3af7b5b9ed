use Rattle.std.proofs.Common.{◌≡◌, ◌+◌, [], ◌∷◌, ◌++◌, refl, sym, ap, ◌∙◌, rules}
use Rattle.std.specs.Prelude.{string_bytes}
use Rattle.std.proofs.lemmas.List.{append_assoc}
use Rattle.std.proofs.lemmas.Result.{on_ok_weaker}
use Rattle.core_rule_sets.specs.SiteViews.{constraint_view}
use Rattle.core_serialize.specs.TreeViews.{arm_view, arms_view, check_view, tree_view}
use Rattle.core_serialize.specs.declared.serialize.MatchArm.{out-MatchArm}
use Rattle.core_serialize.proofs.TreeLaws.{block_steps, match_seen, equal_seen, loop_seen, return_seen}
use Rattle.model.specs.trees.Trees.{Check, no_arm}
use Rattle.model_print.specs.Lines.{word, site, match_word, equal_word, loop_word, nothing, line}
use Rattle.model_print.specs.LineTexts.{line_text, lines_text}
use Rattle.model_print.specs.PrintedTrees.{arm_line, arms_lines, bind_lines, check_lines, tree_lines}
use Rattle.report_print.specs.TreeTexts.{tree_names, syms_of, comment_text}
use Rattle.report_print.proofs.PrintSteps.{one_more, steps_spelled, arms_spelled, arm_alone, head_before}
use Rattle.report_print.proofs.print.+print.Goals as goal

pub print_block-loop-step-init : goal.print_block-loop-step-init
print_block-loop-step-init t c = rw (block_steps c.args.block.now, c.deref-step-items.ensures.value) refl

pub print_block-loop-step-preserved : goal.print_block-loop-step-preserved
print_block-loop-step-preserved t c =
    let n = tree_names c.args.names in
    let said = comment_text (syms_of c.args.names) c.args.comments in
    let s = c.step-item.result in
    let before = string_bytes c.loop-step.out in
    let checks = lines_text n said (check_lines c.args.depth (check_view s.check)) in
    one_more _ _ (steps_spelled n said c.args.depth) c.deref-step-items.result.now c.loop-step.step-index s _ _ _ (search rules) c.step-item.is
    (c.in_ok-print_check.ensures
    ∙ ap (λ x. x ++ checks) (c.in_ok-print_bind_order.ensures said ∙ ap (λ bs. before ++ lines_text n said (bind_lines c.args.depth bs)) c.deref.ensures.value)
    ∙ append_assoc before (lines_text n said (bind_lines c.args.depth s.bind_order.items)) checks)
    c.loop-step.invariant

pub print_arm-returns : goal.print_arm-returns
print_arm-returns t c =
    let n = tree_names c.args.names in
    let said = comment_text (syms_of c.args.names) c.args.comments in
    let a = out-MatchArm c.args.arm.now in
    let old = string_bytes c.args.out.now in
    let first = line_text n said (arm_line c.args.depth (constraint_view a.constraint) c.deref.result.now) in
    let body = lines_text n said (tree_lines c.in_ok-inner.inner (tree_view a.body)) in
    let whole : lines_text n said (arms_lines c.args.depth (arm_view c.args.arm.now no_arm)) ≡ first ++ body =
    arm_alone n said c.args.depth c.args.arm.now
    ∙ (λ i. line_text n said (arm_line c.args.depth (constraint_view a.constraint) (sym c.deref.ensures.value i)) ++ lines_text n said (tree_lines (sym c.in_ok-inner.ensures i) (tree_view a.body))) in
    on_ok_weaker c.print_block.result (λ w. w ∙ ap (λ x. x ++ body) (c.in_ok-print_arm_line.ensures said) ∙ append_assoc old first body ∙ ap (λ x. old ++ x) (sym whole)) c.print_block.ensures

pub print_check-loop-arm-init : goal.print_check-loop-arm-init
print_check-loop-arm-init t c =
    let n = tree_names c.args.names in
    let said = comment_text (syms_of c.args.names) c.args.comments in
    let old = string_bytes c.args.out.now in
    let source = c.in-Match.source in
    let arms = arms_lines c.in_ok-inner-in-Match.inner (arms_view c.deref-arm-items.result.now) in
    let whole : lines_text n said (check_lines c.args.depth (check_view c.args.check.now)) ≡ lines_text n said (line c.args.depth (word match_word ∷ site source ∷ []) nothing ∷ arms) =
    ap (λ (k : Check). lines_text n said (check_lines c.args.depth k)) (ap check_view c.in-Match.is ∙ match_seen source c.in-Match.arms)
    ∙ (λ i. lines_text n said (line c.args.depth (word match_word ∷ site source ∷ []) nothing ∷ arms_lines (sym c.in_ok-inner-in-Match.ensures i) (arms_view (sym c.deref-arm-items.ensures.value i)))) in
    ap (λ x. x ++ lines_text n said arms) c.in_ok-print_line-in-Match.ensures
    ∙ head_before n said c.args.depth match_word (source ∷ []) old arms ∙ ap (λ x. old ++ x) (sym whole)

pub print_check-loop-arm-preserved : goal.print_check-loop-arm-preserved
print_check-loop-arm-preserved t c =
    let n = tree_names c.args.names in
    let said = comment_text (syms_of c.args.names) c.args.comments in
    one_more _ _ (arms_spelled n said c.in_ok-inner-in-Match.inner) c.deref-arm-items.result.now c.loop-arm.arm-index c.arm-item.result _ _ _ (search rules) c.arm-item.is c.in_ok-print_arm-in-Match.ensures c.loop-arm.invariant

pub print_check-returns-in_ok-inner-in-Equal : goal.print_check-returns-in_ok-inner-in-Equal
print_check-returns-in_ok-inner-in-Equal t c =
    let n = tree_names c.args.names in
    let said = comment_text (syms_of c.args.names) c.args.comments in
    let old = string_bytes c.args.out.now in
    let k = c.in-Equal in
    let steps = tree_lines c.in_ok-inner-in-Equal.inner (tree_view k.body) in
    let whole : lines_text n said (check_lines c.args.depth (check_view c.args.check.now)) ≡ lines_text n said (line c.args.depth (word equal_word ∷ site k.a ∷ site k.b ∷ []) nothing ∷ steps) =
    ap (λ (x : Check). lines_text n said (check_lines c.args.depth x)) (ap check_view k.is ∙ equal_seen k.a k.b k.body)
    ∙ (λ i. lines_text n said (line c.args.depth (word equal_word ∷ site k.a ∷ site k.b ∷ []) nothing ∷ tree_lines (sym c.in_ok-inner-in-Equal.ensures i) (tree_view k.body))) in
    on_ok_weaker c.print_block.result (λ w. w ∙ ap (λ x. x ++ lines_text n said steps) c.in_ok-print_line-in-Equal.ensures
    ∙ head_before n said c.args.depth equal_word (k.a ∷ k.b ∷ []) old steps ∙ ap (λ x. old ++ x) (sym whole)) c.print_block.ensures

pub print_check-returns-in_ok-inner-in-Loop : goal.print_check-returns-in_ok-inner-in-Loop
print_check-returns-in_ok-inner-in-Loop t c =
    let n = tree_names c.args.names in
    let said = comment_text (syms_of c.args.names) c.args.comments in
    let old = string_bytes c.args.out.now in
    let k = c.in-Loop in
    let steps = tree_lines c.in_ok-inner-in-Loop.inner (tree_view k.body) in
    let whole : lines_text n said (check_lines c.args.depth (check_view c.args.check.now)) ≡ lines_text n said (line c.args.depth (word loop_word ∷ site k.result ∷ []) nothing ∷ steps) =
    ap (λ (x : Check). lines_text n said (check_lines c.args.depth x)) (ap check_view k.is ∙ loop_seen k.result k.body)
    ∙ (λ i. lines_text n said (line c.args.depth (word loop_word ∷ site k.result ∷ []) nothing ∷ tree_lines (sym c.in_ok-inner-in-Loop.ensures i) (tree_view k.body))) in
    on_ok_weaker c.print_block-in-Loop.result (λ w. w ∙ ap (λ x. x ++ lines_text n said steps) c.in_ok-print_line-in-Loop.ensures
    ∙ head_before n said c.args.depth loop_word (k.result ∷ []) old steps ∙ ap (λ x. old ++ x) (sym whole)) c.print_block-in-Loop.ensures

pub print_check-returns-in-Return : goal.print_check-returns-in-Return
print_check-returns-in-Return t c = rw (c.in-Return.is, return_seen c.in-Return.pos c.in-Return.result) c.print_return.ensures
