use Rattle.std.proofs.Common.{◌≡◌, ◌++◌, ap, subst, sym, ◌∙◌, take, arith}
use Rattle.std.specs.Prelude.{string_bytes}
use Rattle.std.proofs.lemmas.List.{append_assoc, take_all}
use Rattle.rust_items.specs.ItemViews.{added_view, added_views, held_in}
use Rattle.rust_items.specs.WrittenItems.{AreAlike, firsts, function_lines, new_lines}
use Rattle.rust_items.proofs.Firsts.{AreHeld, alike_held, first_unlike, held_more, lines_more}
use Rattle.rust_items.proofs.Turns.{taken_more, parted, err_is, tells_more}
use Rattle.rust_items.proofs.context.push_firsts.Goals as goal

pub returns-in_err-push_once-clause-wrong : goal.returns-in_err-push_once-clause-wrong
returns-in_err-push_once-clause-wrong c =
    let xs = c.args.functions.now in let i = c.loop-function.function-index in let x = c.function-item.result in
    rw (err_is c.from_residual.result c.in_err-push_once.field-0.0 c.from_residual.ensures)
    (tells_more c.in_err-push_once.field-0.0 _ _ c.in_err-push_once.ensures.unlike
    (λ text h. (
      h.0,
      added_view x,
      first_unlike _ _ _ _ (added_view x) h.0 (parted added_view xs i x c.loop-function-test.true c.function-item.is) c.loop-function.invariant.held h.1 h.2,
      h.3,
    )))

pub loop-function-preserved : goal.loop-function-preserved
loop-function-preserved c =
    let xs = c.args.functions.now in let i = c.loop-function.function-index in let x = c.function-item.result in
    let done = added_views (take i xs) in
    let lines = new_lines (held_in c.loop-function.held (string_bytes x.name)) (added_view x) in
    let more = sym (taken_more added_view xs i x c.loop-function-test.true c.function-item.is) in
    record {
      lines = c.in_ok-push_once.ensures.lines ∙ ap (λ o. o ++ lines) c.loop-function.invariant.lines
          ∙ append_assoc (string_bytes c.args.out.now) (function_lines (firsts done)) lines
          ∙ ap (λ y. string_bytes c.args.out.now ++ y) (sym (lines_more done (held_in c.loop-function.held) (added_view x) c.loop-function.invariant.held) ∙ ap (λ fs. function_lines (firsts fs)) more);
      held = subst (λ fs. AreHeld fs (held_in c.push_once.new.held)) more
          (held_more done (held_in c.loop-function.held) (held_in c.push_once.new.held) (added_view x) c.loop-function.invariant.held c.in_ok-push_once.ensures.held c.in_ok-push_once.ensures.same);
    }

pub returns-clause-written : goal.returns-clause-written
returns-clause-written c =
    let xs = c.args.functions.now in
    c.loop-function.invariant.lines ∙ ap (λ ys. string_bytes c.args.out.now ++ function_lines (firsts (added_views ys))) (take_all c.loop-function.function-index xs (omega (arith, c.loop-function-test.false)))

pub returns-clause-alike : goal.returns-clause-alike
returns-clause-alike c =
    let xs = c.args.functions.now in
    subst AreAlike (ap added_views (take_all c.loop-function.function-index xs (omega (arith, c.loop-function-test.false)))) (alike_held _ _ c.loop-function.invariant.held)
