use Rattle.std.proofs.Common.{[], arith}
use Rattle.cranelift_isle.specs.TypeViews.{variant_view}
use Rattle.cranelift_isle.specs.Envs.{names_of}
use Rattle.rust_items.specs.NamedPrograms.{variant_claim}
use Rattle.rust_items.proofs.Grown.{grown_one, grown_ones}
use Rattle.rust_items.proofs.taken.variant_claims.Goals as goal

pub loop-variant-preserved : goal.loop-variant-preserved
loop-variant-preserved c =
    grown_one variant_view c.args.variants.now c.loop-variant.variant-index (variant_claim (names_of c.args.tyenv.now)) [] c.variant-item.result _ _ c.loop-variant-test.true c.variant-item.is c.loop-variant.invariant c.in_ok-push_identified.ensures

pub returns : goal.returns
returns c = grown_ones variant_view c.args.variants.now c.loop-variant.variant-index (variant_claim (names_of c.args.tyenv.now)) [] _ (omega (arith, c.loop-variant-test.false)) c.loop-variant.invariant
