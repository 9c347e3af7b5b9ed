use Rattle.std.proofs.Common.{◌≡◌, ◌++◌, take}
use Rattle.std.specs.List.{flat_map}
use Rattle.cranelift_isle.specs.Envs.{names_of}
use Rattle.cranelift_isle.specs.TypeViews.{type_views}
use Rattle.rust_items.specs.ClaimViews.{claim_views}
use Rattle.rust_items.specs.NamedPrograms.{type_paths}
use Rattle.rust_items.proofs.paths.push_all_of_types.Given as goal

abbrev pub invariant-loop-ty : goal.invariant-loop-ty
invariant-loop-ty l = claim_views l.claims.items ≡ claim_views l.fn.claims.items ++ flat_map (type_paths (names_of l.fn.tyenv)) (type_views (take l.ty-index l.types))
