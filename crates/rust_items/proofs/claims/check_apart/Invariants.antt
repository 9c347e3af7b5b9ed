use Rattle.std.proofs.Common.{take}
use Rattle.rust_items.specs.ClaimViews.{claim_views, owner_in}
use Rattle.rust_items.proofs.HeldNames.{IsHeld}
use Rattle.rust_items.proofs.claims.check_apart.Given as goal

abbrev pub invariant-loop-claim : goal.invariant-loop-claim
invariant-loop-claim l = IsHeld (claim_views (take l.claim-index l.claims)) (owner_in l.owners)
