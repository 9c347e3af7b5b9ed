use Rattle.std.proofs.Common.{arith}
use Rattle.rust_items.specs.ClaimViews.{claim_view, claim_views}
use Rattle.rust_items.specs.NamedPrograms.{path_behind}
use Rattle.rust_items.proofs.Grown.{grown_one, grown_ones}
use Rattle.rust_items.proofs.paths.push_all_behind.Goals as goal

pub loop-claim-preserved : goal.loop-claim-preserved
loop-claim-preserved c =
    grown_one claim_view c.args.named.now c.loop-claim.claim-index (path_behind c.args.front.now c.args.word.now) (claim_views c.args.claims.now.items) c.claim-item.result _ _ c.loop-claim-test.true c.claim-item.is c.loop-claim.invariant c.in_ok-push_behind.ensures

pub returns : goal.returns
returns c = grown_ones claim_view c.args.named.now c.loop-claim.claim-index (path_behind c.args.front.now c.args.word.now) (claim_views c.args.claims.now.items) _ (omega (arith, c.loop-claim-test.false)) c.loop-claim.invariant
