use Rattle.std.proofs.Common.{◌≤◌, ◌+◌, get_or, subst, sym}
use Rattle.std.proofs.lemmas.List.{take_all}
use Rattle.model.specs.trees.Places.{is_in}
use Rattle.model.specs.trees.Sound.{as_number}
use Rattle.core_serialize.proofs.CallLists.{counted_more}
use Rattle.core_serialize.proofs.calls.count_calls.Goals as goal

pub loop-call-preserved : goal.loop-call-preserved
loop-call-preserved c s m =
    let most = c.args.most in
    counted_more c.args.calls.now c.loop-call.call-index c.call-item.result s (get_or c.args.counts.now.items s most) (get_or c.loop-call.counts.items s most) (get_or c.count_call.new.counts.items s most) most m c.loop-call-test.true c.call-item.is
    (λ n. c.loop-call.invariant s n) (λ n. c.count_call.ensures s n)

pub returns : goal.returns
returns c s m l h =
    c.loop-call.invariant s m l
    (subst (λ x. m ≤ get_or c.args.counts.now.items s c.args.most + as_number (is_in s x)) (sym (take_all c.loop-call.call-index c.args.calls.now c.loop-call-test.false)) h)
