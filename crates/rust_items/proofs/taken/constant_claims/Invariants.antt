use Rattle.std.proofs.Common.{◌≡◌, map}
use Rattle.std.specs.List.{flat_map, range_with_len}
use Rattle.cranelift_isle.specs.Envs.{names_of}
use Rattle.rust_items.specs.ClaimViews.{claim_views}
use Rattle.rust_items.specs.NamedPrograms.{constant_claim}
use Rattle.rust_items.specs.ProgramViews.{constant_or_none}
use Rattle.rust_items.proofs.taken.constant_claims.Given as goal

abbrev pub invariant-loop-number : goal.invariant-loop-number
invariant-loop-number l = claim_views l.claims.items ≡ map (constant_claim (names_of l.fn.tyenv)) (flat_map (constant_or_none l.fn.tyenv) (range_with_len 0 l.number))
