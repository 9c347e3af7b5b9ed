use Rattle.std.proofs.Common.{rules, ◌≡◌, ◌≢◌, [], subst, sym}
use Rattle.report_errors.specs.Places.{IsAtError}
use Rattle.app_command.proofs.Texts.{zip_some}
use Rattle.app_command.proofs.unread.refusal_of_texts.Goals as goal

pub returns-clause-told : goal.returns-clause-told
returns-clause-told c =
    let same : c.deref.result.now ≡ c.in_ok-reports.reports.items = search rules in
    λ some. c.in_ok-answer.ensures.told (subst (λ rs. rs ≢ []) (sym same)
    (zip_some IsAtError c.args.mistakes.now c.in_ok-reports.reports.items c.in_ok-reports.ensures some))
