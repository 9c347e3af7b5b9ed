use Rattle.std.proofs.Common.{◌≡◌, refl}
use Rattle.rust_text.specs.Writers.{gives_view}
use Rattle.rust_text.proofs.ProgramSteps.{said}
use Rattle.rust_text.proofs.notation.Writer.gives.Goals as goal

pub returns : goal.returns
returns c = said c.args.self.now (λ p. gives_view c.args.self.now.gives ≡ p.kind) (λ constants rules types. refl)
