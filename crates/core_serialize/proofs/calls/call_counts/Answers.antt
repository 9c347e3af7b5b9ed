use Rattle.std.proofs.Common.{◌∙◌, ap, get_or, length, refl, sym}
use Rattle.model.specs.trees.Places.{is_in}
use Rattle.model.specs.trees.Tests.{loop_test, needs_at}
use Rattle.core_serialize.specs.PlaceViews.{here_at, set_at}
use Rattle.core_serialize.proofs.CallLists.{none_counted, rule_counted}
use Rattle.core_serialize.proofs.calls.call_counts.Goals as goal

pub returns-then-place-lt2 : goal.returns-then-place-lt2
returns-then-place-lt2 c s = none_counted (needs_at (set_at c.args.place.now).rules (loop_test s)) (here_at c.args.place.now) c.new-counts.result.items s c.new-counts.ensures.items

pub loop-number-preserved : goal.loop-number-preserved
loop-number-preserved c s =
    let here = here_at c.args.place.now in
    let k = c.loop-number.number-index in
    let x = get_or here k 0 in
    rule_counted (needs_at (set_at c.args.place.now).rules (loop_test s)) here k x (get_or c.loop-number.counts.items s (length here)) (get_or c.count_calls.new.counts.items s (length here)) (is_in s c.calls_of.result.now)
    c.loop-number-test.true refl (c.args.place.now.indexed.are_calls.listed x s ∙ ap (is_in s) (sym c.calls_of.ensures)) (λ n. c.count_calls.ensures s n) (c.loop-number.invariant s)
