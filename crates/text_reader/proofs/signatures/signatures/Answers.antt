use Rattle.text_reader.specs.SpecViews.{signature_view}
use Rattle.text_reader.specs.SpecGrammar.{signature_of}
use Rattle.text_reader.proofs.ReadOn.{put}
use Rattle.text_reader.proofs.signatures.signatures.Goals as goal

pub loop-form-preserved : goal.loop-form-preserved
loop-form-preserved c =
    put signature_of signature_view c.args.forms.now c.loop-form.form-index c.loop-form.signatures.items c.push.new.self.items c.form-item.result c.in_ok-signature.field-0
    c.loop-form-test.true c.form-item.is c.in_ok-signature.ensures c.in_ok-push.ensures.items c.loop-form.invariant
