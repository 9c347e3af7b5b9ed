use Rattle.std.proofs.Common.{◌≡◌, ◌++◌, take}
use Rattle.std.specs.Prelude.{string_bytes}
use Rattle.cranelift_isle.specs.TypeViews.{type_views}
use Rattle.rust_items.specs.ItemViews.{items_by}
use Rattle.rust_items.specs.WrittenItems.{types_written}
use Rattle.rust_items.proofs.types.push_types.Given as goal

abbrev pub invariant-loop-ty : goal.invariant-loop-ty
invariant-loop-ty l = string_bytes l.out ≡ string_bytes l.fn.out ++ types_written (items_by l.fn.program) (type_views (take l.ty-index l.fn.program.tyenv.now.types.items))
