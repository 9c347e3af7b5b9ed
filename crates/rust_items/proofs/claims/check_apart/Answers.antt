use Rattle.std.proofs.Common.{◌≡◌, ap, subst, sym, ◌∙◌, length, take, arith}
use Rattle.std.specs.Prelude.{string_bytes}
use Rattle.std.proofs.lemmas.List.{take_all}
use Rattle.rust_items.specs.Claims.{AreWrittenApart}
use Rattle.rust_items.specs.ClaimViews.{claim_view, claim_views, owner_in}
use Rattle.rust_items.proofs.HeldNames.{IsHeld, held_more, apart_held, first_clash}
use Rattle.rust_items.proofs.Turns.{taken_more, parted, err_is, tells_more}
use Rattle.rust_items.proofs.claims.check_apart.Goals as goal

pub returns-in_err-note-clause-clash : goal.returns-in_err-note-clause-clash
returns-in_err-note-clause-clash c =
    let xs = c.args.claims.now in let i = c.loop-claim.claim-index in let x = c.claim-item.result in
    rw (err_is c.from_residual.result c.in_err-note.field-0.0 c.from_residual.ensures)
    (tells_more c.in_err-note.field-0.0 _ _ c.in_err-note.ensures.clash
    (λ text h. (
      record { written = string_bytes x.written; owner = h.0 },
      claim_view x,
      first_clash _ _ _ _ (claim_view x) h.0 (parted claim_view xs i x c.loop-claim-test.true c.claim-item.is) c.loop-claim.invariant h.1 h.2,
      h.3,
    )))

pub loop-claim-preserved : goal.loop-claim-preserved
loop-claim-preserved c =
    let xs = c.args.claims.now in let i = c.loop-claim.claim-index in let x = c.claim-item.result in
    subst (λ done. IsHeld done (owner_in c.note.new.owners)) (sym (taken_more claim_view xs i x c.loop-claim-test.true c.claim-item.is))
    (held_more _ _ _ (claim_view x) c.loop-claim.invariant c.in_ok-note.ensures.free c.in_ok-note.ensures.held)

pub returns-clause-apart : goal.returns-clause-apart
returns-clause-apart c =
    let xs = c.args.claims.now in
    subst AreWrittenApart (ap claim_views (take_all c.loop-claim.claim-index xs (omega (arith, c.loop-claim-test.false)))) (apart_held _ _ c.loop-claim.invariant)
