use Rattle.std.proofs.Common.{map, ap, ◌∙◌}
use Rattle.model.specs.sites.Sites.{variant_made}
use Rattle.core_builder.proofs.BuilderCalls.{gives_made}
use Rattle.core_builder.proofs.builder_exprs.RuleSetBuilderExprVisitor.add_create_variant.Goals as goal

pub returns : goal.returns
returns c known =
    gives_made c.args.self.now c.make.new.self c.make.result (variant_made c.args.ty.0 c.args.variant.0) c.in_ok-fields.fields.items c.args.inputs.items (c.in_ok-fields.ensures ∙ ap (map (λ x. x.0)) c.deref.ensures.value) known
    (λ below before v h. (c.make.ensures.made before v h below, c.make.ensures.full before v h below))
