use Rattle.text_reader.specs.SpecViews.{attr_kind_view}
use Rattle.text_reader.specs.SpecGrammar.{attr_kind_of}
use Rattle.text_reader.proofs.ReadOn.{put}
use Rattle.text_reader.proofs.signatures.attribute_kinds.Goals as goal

pub loop-form-preserved : goal.loop-form-preserved
loop-form-preserved c =
    put attr_kind_of attr_kind_view c.args.forms.now c.loop-form.form-index c.loop-form.kinds.items c.push.new.self.items c.form-item.result c.in_ok-attribute_kind.field-0
    c.loop-form-test.true c.form-item.is c.in_ok-attribute_kind.ensures c.in_ok-push.ensures.items c.loop-form.invariant
