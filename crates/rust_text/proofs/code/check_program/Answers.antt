use Rattle.std.proofs.Common.{inl, inr}
use Rattle.rust_items.proofs.Turns.{err_is, tells_more}
use Rattle.rust_text.proofs.WholeCode.{told_weaker}
use Rattle.rust_text.proofs.code.check_program.Goals as goal

pub returns-in_err-check_names-clause-wrong : goal.returns-in_err-check_names-clause-wrong
returns-in_err-check_names-clause-wrong c =
    rw (err_is c.from_residual.result c.in_err-check_names.field-0.0 c.from_residual.ensures)
    (tells_more c.in_err-check_names.field-0.0 _ _ c.in_err-check_names.ensures.wrong (λ text h. inl h))

pub returns-clause-wrong : goal.returns-clause-wrong
returns-clause-wrong c = told_weaker c.check_expanded.result _ _ (λ text h. inr h) c.check_expanded.ensures.told
