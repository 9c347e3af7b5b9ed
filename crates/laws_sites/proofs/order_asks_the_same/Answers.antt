use Rattle.laws_sites.proofs.building.Ordered.{order_asks_the_same_lem}
use Rattle.laws_sites.proofs.order_asks_the_same.Goals as goal

pub returns : goal.returns
returns c = order_asks_the_same_lem
