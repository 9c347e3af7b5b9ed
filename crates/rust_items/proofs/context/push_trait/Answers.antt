use Rattle.rust_items.proofs.Turns.{err_is}
use Rattle.rust_items.proofs.context.push_trait.Goals as goal

pub returns-in_err-push_firsts-clause-wrong : goal.returns-in_err-push_firsts-clause-wrong
returns-in_err-push_firsts-clause-wrong c =
    rw (err_is c.from_residual-in_err-push_firsts.result c.in_err-push_firsts.field-0.0 c.from_residual-in_err-push_firsts.ensures) c.in_err-push_firsts.ensures.wrong
