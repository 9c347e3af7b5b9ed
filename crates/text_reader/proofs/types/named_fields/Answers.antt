use Rattle.core_syntax.specs.SyntaxViews.{field_view}
use Rattle.text_reader.specs.TypeGrammar.{named_field_of}
use Rattle.text_reader.specs.Within.{FieldIsWithin}
use Rattle.text_reader.proofs.Rows.{pushed, fields-viewed}
use Rattle.text_reader.proofs.ReadOn.{put}
use Rattle.text_reader.proofs.types.named_fields.Goals as goal

pub loop-form-preserved : goal.loop-form-preserved
loop-form-preserved c = (
  pushed (λ f. FieldIsWithin c.args.at.file c.args.at.len (field_view f)) c.loop-form.fields.items c.push.new.self.items c.in_ok-named_field.field-0 c.in_ok-push.ensures.items c.loop-form.invariant.0 c.in_ok-named_field.ensures.within,
  put named_field_of field_view c.args.forms.now c.loop-form.form-index c.loop-form.fields.items c.push.new.self.items c.form-item.result c.in_ok-named_field.field-0
      c.loop-form-test.true c.form-item.is c.in_ok-named_field.ensures.read c.in_ok-push.ensures.items c.loop-form.invariant.1,
)

pub returns-clause-within : goal.returns-clause-within
returns-clause-within c =
    fields-viewed c.args.at.file c.args.at.len c.loop-form.fields.items c.loop-form.invariant.0
