use Rattle.std.proofs.lemmas.Result.{IfOk-weaker}
use Rattle.cranelift_isle.specs.Lowerings.{lowered_view}
use Rattle.run_terms.specs.RunViews.{arg_views}
use Rattle.app_command.proofs.calls.outcome.Goals as goal

pub returns : goal.returns
returns c =
    let call = c.in_ok-call.call in
    IfOk-weaker c.run_text.result _ _ (λ text is. (c.in_ok-replies.replies, c.in_ok-replies.ensures, lowered_view call.entry.now, arg_views call.args.items, c.in_ok-call.ensures, is)) c.run_text.ensures
