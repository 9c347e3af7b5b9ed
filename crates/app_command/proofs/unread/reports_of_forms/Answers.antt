use Rattle.std.proofs.Common.{rules, ◌≡◌, ◌+◌, ◌++◌, ◌∷◌, ◌∙◌, [], Some, ap, length, refl, slice_get, subst, sym, take}
use Rattle.std.proofs.lemmas.List.{take_more}
use Rattle.std.proofs.lemmas.Option.{get_or_from_slice_get, slice_get_read, slice_get_within}
use Rattle.std.specs.List.{AllZip}
use Rattle.report_errors.specs.Places.{BeginsAtError}
use Rattle.app_command.proofs.Texts.{zip_more}
use Rattle.app_command.proofs.unread.reports_of_forms.Goals as goal

pub loop-mistake-preserved : goal.loop-mistake-preserved
loop-mistake-preserved c =
    let mistakes = c.args.mistakes.now in
    let number = c.loop-mistake.mistake-index in
    let mistake = c.mistake-item.result in
    let report = c.in_ok-lost_report.field-0 in
    let pushed : c.push.new.self.items ≡ c.loop-mistake.reports.items ++ (report ∷ []) = search rules in
    let at : slice_get mistakes number ≡ Some mistake
    = slice_get_read mistakes (length mistakes) number mistake refl c.loop-mistake-test.true c.mistake-item.is in
    let taken : take (number + 1) mistakes ≡ take number mistakes ++ (mistake ∷ [])
    = take_more mistakes number mistake (slice_get_within mistakes number mistake at)
    ∙ ap (λ m. take number mistakes ++ (m ∷ [])) (get_or_from_slice_get mistakes number mistake mistake at) in
    subst (λ ms. AllZip BeginsAtError ms c.push.new.self.items) (sym taken)
    (subst (AllZip BeginsAtError (take number mistakes ++ (mistake ∷ []))) (sym pushed)
    (zip_more BeginsAtError (take number mistakes) c.loop-mistake.reports.items mistake report c.loop-mistake.invariant c.in_ok-lost_report.ensures))
