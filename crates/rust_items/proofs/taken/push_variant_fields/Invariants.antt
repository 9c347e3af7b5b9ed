use Rattle.std.proofs.Common.{◌≡◌, ◌++◌, take, map}
use Rattle.cranelift_isle.specs.TypeViews.{variant_view}
use Rattle.cranelift_isle.specs.Envs.{names_of}
use Rattle.rust_items.specs.ClaimViews.{kind_views}
use Rattle.rust_items.specs.NamedPrograms.{variant_fields}
use Rattle.rust_items.proofs.taken.push_variant_fields.Given as goal

abbrev pub invariant-loop-variant : goal.invariant-loop-variant
invariant-loop-variant l = kind_views l.kinds.items ≡ kind_views l.fn.kinds.items ++ map (variant_fields (names_of l.fn.tyenv)) (map variant_view (take l.variant-index l.variants))
