use Rattle.std.proofs.Common.{◌≡◌, ◌++◌, take}
use Rattle.std.specs.List.{flat_map}
use Rattle.cranelift_isle.specs.TypeViews.{type_views}
use Rattle.cranelift_isle.specs.Envs.{names_of}
use Rattle.rust_items.specs.ClaimViews.{kind_views}
use Rattle.rust_items.specs.NamedPrograms.{kinds_inside}
use Rattle.rust_items.proofs.taken.push_insides.Given as goal

abbrev pub invariant-loop-ty : goal.invariant-loop-ty
invariant-loop-ty l = kind_views l.kinds.items ≡ kind_views l.fn.kinds.items ++ flat_map (kinds_inside (names_of l.fn.tyenv)) (type_views (take l.ty-index l.types))
