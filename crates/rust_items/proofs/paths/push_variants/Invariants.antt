use Rattle.std.proofs.Common.{◌≡◌, ◌++◌, take, map}
use Rattle.cranelift_isle.specs.Envs.{names_of}
use Rattle.cranelift_isle.specs.TypeViews.{variant_view}
use Rattle.rust_items.specs.ClaimViews.{claim_views}
use Rattle.rust_items.specs.NamedPrograms.{variant_path}
use Rattle.rust_items.proofs.paths.push_variants.Given as goal

abbrev pub invariant-loop-variant : goal.invariant-loop-variant
invariant-loop-variant l = claim_views l.claims.items ≡ claim_views l.fn.claims.items ++ map (variant_path (names_of l.fn.tyenv) l.fn.ty.0) (map variant_view (take l.variant-index l.variants))
