use Rattle.std.proofs.Common.{◌≡◌, ◌+◌, ◌++◌, [], ◌∷◌, take, sym, ap, ◌∙◌, subst, arith}
use Rattle.std.proofs.lemmas.List.{take_more}
use Rattle.core_rule_sets.specs.Endings.{count_at, PartsAreTaken}
use Rattle.core_rule_sets.proofs.ClassEndings.{taken_more}
use Rattle.core_rule_sets.proofs.cycles.take_parts.Goals as goal

pub loop-whole-preserved : goal.loop-whole-preserved
loop-whole-preserved c =
    let all = c.args.wholes.now in
    let i = c.loop-whole.whole-index in
    let whole = c.whole-item.result in
    let before = count_at c.args.counts.now in
    let next = count_at c.take_part.new.counts in
    let ended = c.args.ended.now.items in
    let now = c.take_part.new.ended.items in
    let more : take (i + 1) all ≡ take i all ++ whole ∷ [] = take_more all i whole (omega arith) ∙ ap (λ x. take i all ++ x ∷ []) (sym c.whole-item.is) in
    subst (λ l. PartsAreTaken before next l ended now) (sym more)
    (taken_more before (count_at c.loop-whole.counts) next (take i all) ended c.loop-whole.ended.items now whole c.loop-whole.invariant c.in_ok-take_part.ensures.counts c.in_ok-take_part.ensures.ended)
