use Rattle.std.proofs.Common.{rules, ◌≡◌, ◌≢◌, ◌++◌, ◌∙◌, [], ap, map, subst, sym}
use Rattle.report_errors.specs.Places.{BeginsAtError}
use Rattle.text_reader.specs.RecoveryViews.{wrong_view}
use Rattle.app_command.specs.Readings.{has_no_definitions, mistakes_of_texts}
use Rattle.app_command.proofs.Texts.{zip_some}
use Rattle.app_command.proofs.RecoveredTexts.{some_longer}
use Rattle.app_command.proofs.unread.refusal_of_forms.Goals as goal

pub returns : goal.returns
returns g c =
    let has_none = has_no_definitions c.args.asked.now in
    let found = c.in_ok-found.found in
    let reports = c.in_ok-reports.reports.items in
    let more = c.in_ok-rest.ensures in
    let told_mistakes = c.shown_of-told.result.now in
    let same : c.deref-2.result.now ≡ found.errors.items = search rules in
    let given : c.deref-3.result.now ≡ c.add_errors.new.reports.items = search rules in (
      c.in_ok-answer.ensures.refusal,
      λ some.
          let wrong : found.errors.items ≢ [] = λ none. some (c.recovered_texts_have_no_mistake.ensures has_none c.args.files.now.texts.items (ap (λ r. r.mistakes) (sym c.in_ok-found.ensures) ∙ ap (map wrong_view) none)) in
          let some_told : told_mistakes ≢ [] = c.shown_of-told.ensures.some (subst (λ es. es ≢ []) (sym same) wrong) in
          let told : reports ≢ [] = zip_some BeginsAtError told_mistakes reports c.in_ok-reports.ensures some_told in
          c.in_ok-answer.ensures.told (subst (λ rs. rs ≢ []) (sym (given ∙ more.1)) (some_longer reports more.0 told)),
    )
