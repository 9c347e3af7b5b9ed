use Rattle.std.proofs.Common.{rules, ◌≡◌, ap, inl, inr, map, string_bytes, subst, sym}
use Rattle.std.proofs.lemmas.Result.{IfOk-weaker}
use Rattle.core_syntax.specs.SyntaxViews.{position}
use Rattle.text_reader.specs.RecoveryViews.{wrong_view}
use Rattle.text_writer.specs.Contents.{contents_view, TellsUnspelled}
use Rattle.text_writer.specs.declared.contents.ContentsFault.TheVariants.{Unspellable}
use Rattle.text_writer.specs.Woven.{woven}
use Rattle.app_command.specs.TaskAnswers.{IsPrintOfContents, IsTextOf}
use Rattle.app_command.proofs.printing.printed_reading.Goals as goal

pub returns-in-Ok : goal.returns-in-Ok
returns-in-Ok g c =
    let contents = contents_view c.args.contents.now in
    inl (
      (c.accepted.ensures.status, c.accepted.ensures.err),
      subst (λ text. IsTextOf contents text) (sym c.accepted.ensures.out)
          (ap (map wrong_view) c.requires.read, c.in-Ok.ensures.text, c.in-Ok.ensures.defined, c.in-Ok.ensures.said),
    )

pub returns-in-Err-Unspellable : goal.returns-in-Err-Unspellable
returns-in-Err-Unspellable g c =
    let contents = contents_view c.args.contents.now in
    let fault : c.in-Err-Unspellable.field-0 ≡ Unspellable c.in-Err-Unspellable.place = search rules in
    let told = subst (λ f. TellsUnspelled f (woven 0 contents.definitions contents.trees)) fault c.in-Err-Unspellable.ensures.unspelled in
    IfOk-weaker c.unspelled.result _ (IsPrintOfContents contents c.args.asked.now)
    (λ answer h. inr (inr (position c.in-Err-Unspellable.place, told), h.0, h.1)) c.unspelled.ensures
