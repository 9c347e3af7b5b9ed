use Rattle.std.proofs.Common.{arith}
use Rattle.cranelift_isle.specs.Envs.{names_of}
use Rattle.cranelift_isle.specs.TypeViews.{variant_view}
use Rattle.rust_items.specs.ClaimViews.{claim_views}
use Rattle.rust_items.specs.NamedPrograms.{variant_path}
use Rattle.rust_items.proofs.Grown.{grown_one, grown_ones}
use Rattle.rust_items.proofs.paths.push_variants.Goals as goal

pub loop-variant-preserved : goal.loop-variant-preserved
loop-variant-preserved c =
    grown_one variant_view c.args.variants.now c.loop-variant.variant-index (variant_path (names_of c.args.tyenv.now) c.args.ty.0) (claim_views c.args.claims.now.items) c.variant-item.result _ _ c.loop-variant-test.true c.variant-item.is c.loop-variant.invariant c.in_ok-push_variant.ensures

pub returns : goal.returns
returns c = grown_ones variant_view c.args.variants.now c.loop-variant.variant-index (variant_path (names_of c.args.tyenv.now) c.args.ty.0) (claim_views c.args.claims.now.items) _ (omega (arith, c.loop-variant-test.false)) c.loop-variant.invariant
