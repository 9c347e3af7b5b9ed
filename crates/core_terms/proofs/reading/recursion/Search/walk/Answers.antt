use Rattle.std.proofs.Common.{refl}
use Rattle.core_terms.proofs.Marks.{begins}
use Rattle.core_terms.proofs.reading.recursion.Search.walk.Goals as goal

pub loop-last-init : goal.loop-last-init
loop-last-init c = begins c.args.callees.now c.args.root c.args.self.now c.requires.findings c.requires.there _ c.enter.new.self refl refl c.clear.ensures.items c.in_ok-enter.ensures
