use Rattle.std.proofs.Common.{◌≡◌, ◌++◌, map, take}
use Rattle.std.specs.Prelude.{string_bytes}
use Rattle.std.specs.List.{flat_map}
use Rattle.cranelift_isle.specs.TypeViews.{variant_view}
use Rattle.rust_items.specs.ItemViews.{items_by}
use Rattle.rust_items.specs.WrittenItems.{variant_written}
use Rattle.rust_items.proofs.types.push_all_variants.Given as goal

abbrev pub invariant-loop-variant : goal.invariant-loop-variant
invariant-loop-variant l = string_bytes l.out ≡ string_bytes l.fn.out ++ flat_map (variant_written (items_by l.fn.program)) (map variant_view (take l.variant-index l.variants))
