use Rattle.core_syntax.specs.SyntaxViews.{tuple_field_view}
use Rattle.text_reader.specs.Grammar.{name_of}
use Rattle.text_reader.specs.Within.{TupleFieldIsWithin}
use Rattle.core_syntax.specs.declared.syntax.TupleField.{TupleField}
use Rattle.std.proofs.Common.{refl, arith}
use Rattle.text_reader.proofs.Rows.{pushed, tuple_fields-viewed}
use Rattle.text_reader.proofs.ReadOn.{put}
use Rattle.text_reader.proofs.TypeReading.{type_of, numbered_push}
use Rattle.text_reader.proofs.types.tuple_fields.Goals as goal

pub loop-form-preserved : goal.loop-form-preserved
loop-form-preserved c =
    let field : TupleField = record { index = c.len-index.result; ty = c.in_ok-ty.ty; pos = c.in_ok-ty.ty.1 } in (
      pushed (λ f. TupleFieldIsWithin c.args.at.file c.args.at.len (tuple_field_view f)) c.loop-form.fields.items c.push.new.self.items field
          c.in_ok-push.ensures.items c.loop-form.invariant.0 (c.in_ok-ty.ensures.within, c.in_ok-ty.ensures.within),
      put name_of type_of c.args.forms.now c.loop-form.form-index c.loop-form.fields.items c.push.new.self.items c.form-item.result field
          c.loop-form-test.true c.form-item.is c.in_ok-ty.ensures.read c.in_ok-push.ensures.items c.loop-form.invariant.1,
      numbered_push c.loop-form.fields.items c.push.new.self.items field (omega (arith, c.len-index.ensures, c.loop-form.fields.ok.0)) refl c.in_ok-push.ensures.items c.loop-form.invariant.2,
    )

pub returns-clause-within : goal.returns-clause-within
returns-clause-within c =
    tuple_fields-viewed c.args.at.file c.args.at.len c.loop-form.fields.items c.loop-form.invariant.0
