use Rattle.std.proofs.Common.{◌≡◌, drop}
use Rattle.std.specs.Prelude.{find}
use Rattle.rust_items.specs.Claims.{Claim}
use Rattle.rust_items.specs.ClaimViews.{claim_views, is_own}
use Rattle.rust_items.proofs.claims.first_taken.Given as goal

abbrev pub invariant-loop-claim : goal.invariant-loop-claim
invariant-loop-claim l =
    find (λ (c : Claim). is_own l.fn.own c.written) (claim_views (drop l.claim-index l.claims)) ≡ find (λ (c : Claim). is_own l.fn.own c.written) (claim_views l.claims)
