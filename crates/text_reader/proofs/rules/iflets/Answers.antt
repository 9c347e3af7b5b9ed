use Rattle.core_syntax.specs.SyntaxViews.{iflet_view}
use Rattle.text_reader.specs.Within.{IfLetIsWithin}
use Rattle.text_reader.specs.RuleGrammar.{statement_of}
use Rattle.text_reader.proofs.Rows.{pushed}
use Rattle.text_reader.proofs.ReadOn.{put}
use Rattle.text_reader.proofs.rules.iflets.Goals as goal

pub loop-form-preserved : goal.loop-form-preserved
loop-form-preserved c = (
  pushed (λ i. IfLetIsWithin c.args.at.file c.args.at.len (iflet_view i)) c.loop-form.iflets.items c.push.new.self.items c.in_ok-statement.field-0 c.in_ok-push.ensures.items c.loop-form.invariant.0 c.in_ok-statement.ensures.within,
  put statement_of iflet_view c.args.forms.now c.loop-form.form-index c.loop-form.iflets.items c.push.new.self.items c.form-item.result c.in_ok-statement.field-0
      c.loop-form-test.true c.form-item.is c.in_ok-statement.ensures.read c.in_ok-push.ensures.items c.loop-form.invariant.1,
)
