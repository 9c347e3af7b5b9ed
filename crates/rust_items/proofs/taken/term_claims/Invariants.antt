use Rattle.std.proofs.Common.{◌≡◌, map, take}
use Rattle.std.specs.List.{flat_map}
use Rattle.cranelift_isle.specs.declared.lower.LoweredTerm.{LoweredTerm}
use Rattle.cranelift_isle.specs.Envs.{names_of}
use Rattle.cranelift_isle.specs.TermViews.{term_views}
use Rattle.rust_items.specs.ClaimViews.{claim_views}
use Rattle.rust_items.specs.NamedPrograms.{term_claim}
use Rattle.rust_items.proofs.taken.term_claims.Given as goal

abbrev pub invariant-loop-term : goal.invariant-loop-term
invariant-loop-term l =
    claim_views l.claims.items ≡ flat_map (term_claim (names_of l.fn.tyenv) (term_views l.fn.terms)) (map (λ (t : LoweredTerm). t.id.0) (take l.term-index l.lowered))
