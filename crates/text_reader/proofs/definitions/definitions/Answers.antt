use Rattle.core_syntax.specs.SyntaxViews.{definition_view}
use Rattle.text_reader.specs.Definitions.{definition_of}
use Rattle.text_reader.specs.Within.{DefinitionIsWithin}
use Rattle.text_reader.proofs.Rows.{pushed, definitions-viewed}
use Rattle.text_reader.proofs.ReadOn.{put}
use Rattle.text_reader.proofs.definitions.definitions.Goals as goal

pub loop-form-preserved : goal.loop-form-preserved
loop-form-preserved c = (
  pushed (λ d. DefinitionIsWithin c.args.at.file c.args.at.len (definition_view d)) c.loop-form.defs.items c.push.new.self.items c.in_ok-definition.field-0 c.in_ok-push.ensures.items c.loop-form.invariant.0 c.in_ok-definition.ensures.within,
  put definition_of definition_view c.args.forms.now c.loop-form.form-index c.loop-form.defs.items c.push.new.self.items c.form-item.result c.in_ok-definition.field-0
      c.loop-form-test.true c.form-item.is c.in_ok-definition.ensures.read c.in_ok-push.ensures.items c.loop-form.invariant.1,
)

pub returns-clause-within : goal.returns-clause-within
returns-clause-within c =
    definitions-viewed c.args.at.file c.args.at.len c.loop-form.defs.items c.loop-form.invariant.0
