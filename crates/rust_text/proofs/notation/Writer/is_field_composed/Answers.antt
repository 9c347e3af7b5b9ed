use Rattle.std.proofs.Common.{◌≡◌, ◌∙◌, ap, slice_get}
use Rattle.model.specs.rules.Values.{field_types}
use Rattle.rust_text.specs.TokenViews.{owner_view}
use Rattle.rust_text.specs.ProgramFields.{composed_in, fields_in_env}
use Rattle.rust_text.proofs.ProgramSteps.{said, one_composed}
use Rattle.rust_text.proofs.notation.Writer.is_field_composed.Goals as goal

pub returns : goal.returns
returns c = said c.args.self.now (λ p. c.is_one_composed.result ≡ p.is_field_composed (owner_view c.args.owner) c.args.index) (λ constants rules types.
    let tyenv = c.args.self.now.program.tyenv.now in
    c.is_one_composed.ensures
    ∙ (ap (composed_in tyenv) (c.field_type-ty.ensures ∙ ap (λ fields. slice_get (field_types fields) c.args.index) c.fields_of.ensures)
    ∙ one_composed c.args.self.now constants rules (slice_get (field_types (fields_in_env tyenv (owner_view c.args.owner))) c.args.index)))
