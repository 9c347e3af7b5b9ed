use Rattle.std.proofs.Common.{◌≡◌, take, map}
use Rattle.cranelift_isle.specs.TypeViews.{variant_view}
use Rattle.cranelift_isle.specs.Envs.{names_of}
use Rattle.rust_items.specs.ClaimViews.{claim_views}
use Rattle.rust_items.specs.NamedPrograms.{variant_claim}
use Rattle.rust_items.proofs.taken.variant_claims.Given as goal

abbrev pub invariant-loop-variant : goal.invariant-loop-variant
invariant-loop-variant l = claim_views l.claims.items ≡ map (variant_claim (names_of l.fn.tyenv)) (map variant_view (take l.variant-index l.variants))
