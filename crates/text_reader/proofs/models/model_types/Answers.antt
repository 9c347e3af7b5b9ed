use Rattle.text_reader.specs.SpecViews.{model_type_view}
use Rattle.text_reader.specs.SpecGrammar.{model_type_of}
use Rattle.text_reader.proofs.ReadOn.{put}
use Rattle.text_reader.proofs.models.model_types.Goals as goal

pub loop-form-preserved : goal.loop-form-preserved
loop-form-preserved c =
    put model_type_of model_type_view c.args.forms.now c.loop-form.form-index c.loop-form.types.items c.push.new.self.items c.form-item.result c.in_ok-model_type.field-0
    c.loop-form-test.true c.form-item.is c.in_ok-model_type.ensures c.in_ok-push.ensures.items c.loop-form.invariant
