use Rattle.std.proofs.Common.{◌≡◌, ◌++◌, drop}
use Rattle.model_print.specs.ReadTrees.{sites_in}
use Rattle.check_trees.specs.TokenViews.{token_views}
use Rattle.check_trees.proofs.reader.sites_among.Given as goal

abbrev pub invariant-loop-token : goal.invariant-loop-token
invariant-loop-token l = l.sites.items ++ sites_in (token_views (drop l.token-index l.tokens)) ≡ sites_in (token_views l.tokens)
