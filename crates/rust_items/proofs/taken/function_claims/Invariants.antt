use Rattle.std.proofs.Common.{◌≡◌, take}
use Rattle.std.specs.List.{flat_map}
use Rattle.cranelift_isle.specs.TermViews.{term_views}
use Rattle.cranelift_isle.specs.Envs.{names_of}
use Rattle.rust_items.specs.ClaimViews.{claim_views}
use Rattle.rust_items.specs.NamedPrograms.{functions_of}
use Rattle.rust_items.proofs.taken.function_claims.Given as goal

abbrev pub invariant-loop-term : goal.invariant-loop-term
invariant-loop-term l = claim_views l.claims.items ≡ flat_map (functions_of (names_of l.fn.tyenv)) (term_views (take l.term-index l.terms))
