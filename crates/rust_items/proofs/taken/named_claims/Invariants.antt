use Rattle.std.proofs.Common.{◌≡◌, take, map}
use Rattle.cranelift_isle.specs.TypeViews.{field_view}
use Rattle.cranelift_isle.specs.Envs.{names_of}
use Rattle.rust_items.specs.ClaimViews.{claim_views}
use Rattle.rust_items.specs.NamedPrograms.{field_claim}
use Rattle.rust_items.proofs.taken.named_claims.Given as goal

abbrev pub invariant-loop-field : goal.invariant-loop-field
invariant-loop-field l = claim_views l.claims.items ≡ map (field_claim (names_of l.fn.tyenv)) (map field_view (take l.field-index l.fields))
