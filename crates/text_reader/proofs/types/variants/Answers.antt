use Rattle.core_syntax.specs.SyntaxViews.{variant_view}
use Rattle.text_reader.specs.TypeGrammar.{variant_of}
use Rattle.text_reader.specs.Within.{VariantIsWithin}
use Rattle.text_reader.proofs.Rows.{pushed}
use Rattle.text_reader.proofs.ReadOn.{put}
use Rattle.text_reader.proofs.types.variants.Goals as goal

pub loop-form-preserved : goal.loop-form-preserved
loop-form-preserved c = (
  pushed (λ v. VariantIsWithin c.args.at.file c.args.at.len (variant_view v)) c.loop-form.variants.items c.push.new.self.items c.in_ok-variant.field-0 c.in_ok-push.ensures.items c.loop-form.invariant.0 c.in_ok-variant.ensures.within,
  put variant_of variant_view c.args.forms.now c.loop-form.form-index c.loop-form.variants.items c.push.new.self.items c.form-item.result c.in_ok-variant.field-0
      c.loop-form-test.true c.form-item.is c.in_ok-variant.ensures.read c.in_ok-push.ensures.items c.loop-form.invariant.1,
)
