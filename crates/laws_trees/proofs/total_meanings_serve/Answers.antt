use Rattle.laws_trees.proofs.total.Total.{total_meanings_serve_lem}
use Rattle.laws_trees.proofs.total_meanings_serve.Goals as goal

pub returns : goal.returns
returns c = total_meanings_serve_lem
