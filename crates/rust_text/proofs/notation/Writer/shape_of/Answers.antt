use Rattle.std.proofs.Common.{◌≡◌, ◌∙◌, ap}
use Rattle.model_code.specs.ProgramNotation.{shape_of}
use Rattle.rust_text.specs.TokenViews.{owner_view}
use Rattle.rust_text.specs.Writers.{shape_view}
use Rattle.rust_text.proofs.ProgramSteps.{said}
use Rattle.rust_text.proofs.notation.Writer.shape_of.Goals as goal

pub returns : goal.returns
returns c = said c.args.self.now (λ p. shape_view c.form_of.result ≡ p.shape (owner_view c.args.owner)) (λ constants rules types. c.form_of.ensures ∙ ap shape_of c.fields_of.ensures)
