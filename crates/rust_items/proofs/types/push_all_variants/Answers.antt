use Rattle.std.proofs.Common.{arith}
use Rattle.std.specs.Prelude.{string_bytes}
use Rattle.cranelift_isle.specs.TypeViews.{variant_view}
use Rattle.rust_items.specs.ItemViews.{items_by}
use Rattle.rust_items.specs.WrittenItems.{variant_written}
use Rattle.rust_items.proofs.Grown.{grown_by, grown_all}
use Rattle.rust_items.proofs.types.push_all_variants.Goals as goal

pub loop-variant-preserved : goal.loop-variant-preserved
loop-variant-preserved c =
    grown_by variant_view c.args.variants.now c.loop-variant.variant-index (variant_written (items_by c.args.program)) (string_bytes c.args.out.now) c.variant-item.result _ _ c.loop-variant-test.true c.variant-item.is c.loop-variant.invariant c.in_ok-push_variant.ensures

pub returns : goal.returns
returns c = grown_all variant_view c.args.variants.now c.loop-variant.variant-index (variant_written (items_by c.args.program)) (string_bytes c.args.out.now) _ (omega (arith, c.loop-variant-test.false)) c.loop-variant.invariant
