use Rattle.std.proofs.Common.{refl}
use Rattle.core_rules.proofs.LetScopes.{one_closed}
use Rattle.core_rules.proofs.typing.lets.close_let.Goals as goal

pub loop-i-preserved : goal.loop-i-preserved
loop-i-preserved c =
    one_closed c.args.hidden.now c.loop-i.i c.args.work.now c.loop-i.work c.put_back.new.self _ _ c.loop-i-test.true refl c.in_ok-put_back.ensures c.loop-i.invariant
