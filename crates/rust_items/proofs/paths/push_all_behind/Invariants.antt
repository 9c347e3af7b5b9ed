use Rattle.std.proofs.Common.{◌≡◌, ◌++◌, take, map}
use Rattle.rust_items.specs.ClaimViews.{claim_views}
use Rattle.rust_items.specs.NamedPrograms.{path_behind}
use Rattle.rust_items.proofs.paths.push_all_behind.Given as goal

abbrev pub invariant-loop-claim : goal.invariant-loop-claim
invariant-loop-claim l = claim_views l.claims.items ≡ claim_views l.fn.claims.items ++ map (path_behind l.fn.front l.fn.word) (claim_views (take l.claim-index l.named))
