use Rattle.std.proofs.Common.{[], arith}
use Rattle.cranelift_isle.specs.declared.lower.LoweredTerm.{LoweredTerm}
use Rattle.cranelift_isle.specs.Envs.{names_of}
use Rattle.cranelift_isle.specs.TermViews.{term_views}
use Rattle.rust_items.specs.NamedPrograms.{term_claim}
use Rattle.rust_items.proofs.Grown.{grown_by, grown_all}
use Rattle.rust_items.proofs.taken.term_claims.Goals as goal

pub loop-term-preserved : goal.loop-term-preserved
loop-term-preserved c =
    grown_by (λ (t : LoweredTerm). t.id.0) c.args.lowered.now c.loop-term.term-index (term_claim (names_of c.args.tyenv.now) (term_views c.args.terms.now)) [] c.term-item.result _ _ c.loop-term-test.true c.term-item.is c.loop-term.invariant c.in_ok-push_lowered.ensures

pub returns : goal.returns
returns c = grown_all (λ (t : LoweredTerm). t.id.0) c.args.lowered.now c.loop-term.term-index (term_claim (names_of c.args.tyenv.now) (term_views c.args.terms.now)) [] _ (omega (arith, c.loop-term-test.false)) c.loop-term.invariant
