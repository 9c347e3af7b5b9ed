use Rattle.std.proofs.Common.{Some, sym, ap}
use Rattle.text_documents.proofs.OffsetLemmas.{no_offset, offset_none, offset_one, offset_some, back_shorter}
use Rattle.text_documents.proofs.places.offset_at.Goals as goal

pub returns-in_err-back-clause-only : goal.returns-in_err-back-clause-only
returns-in_err-back-clause-only c = λ o h. absurd (no_offset _ c.args.place o (sym c.in_err-back.ensures.rest) h)

pub returns-in_err-back-clause-none : goal.returns-in_err-back-clause-none
returns-in_err-back-clause-none c = rw c.from_residual.ensures (offset_none c.args.place _ c.in_err-back.ensures.rest)

pub overflow_sub-result : goal.overflow_sub-result
overflow_sub-result c = back_shorter c.args.place c.args.text.now c.in_ok-back.back.now c.utf8.text c.in_ok-back.ensures.text c.in_ok-back.ensures.rest

pub returns-clause-offset : goal.returns-clause-offset
returns-clause-offset c = offset_some c.args.place c.args.text.now c.in_ok-back.back.now c.utf8.text c.in_ok-back.ensures.text c.in_ok-back.ensures.rest

pub returns-clause-only : goal.returns-clause-only
returns-clause-only c =
    let here = offset_some c.args.place c.args.text.now c.in_ok-back.back.now c.utf8.text c.in_ok-back.ensures.text c.in_ok-back.ensures.rest in
    λ o h. ap (λ k. Some k) (offset_one _ c.args.place _ o here h)
