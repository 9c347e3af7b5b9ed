use Rattle.std.proofs.Common.{◌≡◌, ◌++◌, drop}
use Rattle.model_print.specs.ReadTrees.{fields_in}
use Rattle.check_trees.specs.TokenViews.{token_views}
use Rattle.check_trees.proofs.reader.fields_among.Given as goal

abbrev pub invariant-loop-token : goal.invariant-loop-token
invariant-loop-token l = l.fields.items ++ fields_in (token_views (drop l.token-index l.tokens)) ≡ fields_in (token_views l.tokens)
