use Rattle.text_reader.specs.SpecViews.{variant_value_view}
use Rattle.text_reader.specs.SpecGrammar.{variant_value_of}
use Rattle.text_reader.proofs.ReadOn.{put}
use Rattle.text_reader.proofs.models.variant_values.Goals as goal

pub loop-form-preserved : goal.loop-form-preserved
loop-form-preserved c =
    put variant_value_of variant_value_view c.args.forms.now c.loop-form.form-index c.loop-form.values.items c.push.new.self.items c.form-item.result c.in_ok-variant_value.field-0
    c.loop-form-test.true c.form-item.is c.in_ok-variant_value.ensures c.in_ok-push.ensures.items c.loop-form.invariant
