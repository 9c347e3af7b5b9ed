use Rattle.std.proofs.Common.{arith, rules}
use Rattle.std.proofs.lemmas.List.{drop_more}
use Rattle.std.proofs.lemmas.Grind.{common_steps}
use Rattle.core_syntax.proofs.syntax.place_of.Goals as goal

pub returns-then-eq : goal.returns-then-eq
returns-then-eq c =
    let d = drop_more c.args.args.now c.loop-i.i c.index-args-i.result (search rules) in
    let inv = rw (d, ← c.index-args-i.is) at c.loop-i.invariant in
    grind (arith, common_steps)

pub loop-i-preserved : goal.loop-i-preserved
loop-i-preserved c =
    let d = drop_more c.args.args.now c.loop-i.i c.index-args-i.result (search rules) in
    let inv = rw (d, ← c.index-args-i.is) at c.loop-i.invariant in
    grind (arith, common_steps)
