use Rattle.rust_items.proofs.Turns.{err_is}
use Rattle.rust_items.proofs.items.push_items.Goals as goal

pub returns-in_err-push_context-clause-wrong : goal.returns-in_err-push_context-clause-wrong
returns-in_err-push_context-clause-wrong c =
    rw (err_is c.from_residual-in_err-push_context.result c.in_err-push_context.field-0.0 c.from_residual-in_err-push_context.ensures) c.in_err-push_context.ensures.wrong
