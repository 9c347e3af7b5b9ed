use Rattle.std.proofs.Common.{refl}
use Rattle.std.proofs.lemmas.Option.{none-some}
use Rattle.text_documents.specs.Places.{replaced}
use Rattle.text_documents.proofs.EditLemmas.{offset_boundary, edit_one}
use Rattle.text_documents.proofs.edits.edited.Goals as goal

pub replaced-requires-clause-from : goal.replaced-requires-clause-from
replaced-requires-clause-from c = offset_boundary c.args.text.now c.args.begin c.in-Some.range.0 c.utf8.text c.in-Some.ensures.range.begins

pub replaced-requires-clause-to : goal.replaced-requires-clause-to
replaced-requires-clause-to c = offset_boundary c.args.text.now c.args.end c.in-Some.range.1 c.utf8.text c.in-Some.ensures.range.ends

pub returns-in_err-replaced-in-Some-clause-refused : goal.returns-in_err-replaced-in-Some-clause-refused
returns-in_err-replaced-in-Some-clause-refused c = λ never.
    absurd (never (replaced c.args.text.now c.in-Some.range.0 c.in-Some.range.1 c.args.new.now) (record { from = c.in-Some.range.0; to = c.in-Some.range.1; range = c.in-Some.ensures.range; is = refl }))

pub returns-in_ok-replaced-in-Some-clause-only : goal.returns-in_ok-replaced-in-Some-clause-only
returns-in_ok-replaced-in-Some-clause-only c = λ bytes h.
    edit_one c.args.text.now c.args.begin c.args.end c.args.new.now _ bytes (record { from = c.in-Some.range.0; to = c.in-Some.range.1; range = c.in-Some.ensures.range; is = c.in_ok-replaced-in-Some.ensures }) h

pub returns-in_ok-replaced-in-Some-clause-refused : goal.returns-in_ok-replaced-in-Some-clause-refused
returns-in_ok-replaced-in-Some-clause-refused c = λ never.
    absurd (never (replaced c.args.text.now c.in-Some.range.0 c.in-Some.range.1 c.args.new.now) (record { from = c.in-Some.range.0; to = c.in-Some.range.1; range = c.in-Some.ensures.range; is = refl }))

pub returns-in-None-clause-only : goal.returns-in-None-clause-only
returns-in-None-clause-only c = λ bytes h. none-some _ (c.in-None.ensures.only h.from h.to h.range)
