use Rattle.core_syntax.specs.SyntaxViews.{name_view}
use Rattle.text_reader.specs.Forms.{IdentIsWithin}
use Rattle.text_reader.specs.Grammar.{name_of}
use Rattle.text_reader.proofs.Rows.{pushed}
use Rattle.text_reader.proofs.ReadOn.{put}
use Rattle.text_reader.proofs.parts.names.Goals as goal

pub loop-form-preserved : goal.loop-form-preserved
loop-form-preserved c = (
  pushed (IdentIsWithin c.args.at.file c.args.at.len) c.loop-form.names.items c.push.new.self.items c.in_ok-name.field-0 c.in_ok-push.ensures.items c.loop-form.invariant.0 c.in_ok-name.ensures.within,
  put name_of name_view c.args.forms.now c.loop-form.form-index c.loop-form.names.items c.push.new.self.items c.form-item.result c.in_ok-name.field-0
      c.loop-form-test.true c.form-item.is c.in_ok-name.ensures.read c.in_ok-push.ensures.items c.loop-form.invariant.1,
)
