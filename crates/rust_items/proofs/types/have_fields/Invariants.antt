use Rattle.std.proofs.Common.{◌≡◌, drop, map}
use Rattle.std.specs.List.{list_any}
use Rattle.cranelift_isle.specs.TypeViews.{variant_view}
use Rattle.rust_items.specs.WrittenItems.{variant_has_fields}
use Rattle.rust_items.proofs.types.have_fields.Given as goal

abbrev pub invariant-loop-variant : goal.invariant-loop-variant
invariant-loop-variant l = list_any variant_has_fields (map variant_view (drop l.variant-index l.variants)) ≡ list_any variant_has_fields (map variant_view l.variants)
