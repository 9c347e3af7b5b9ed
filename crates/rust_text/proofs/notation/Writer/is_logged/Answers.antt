use Rattle.std.proofs.Common.{◌≡◌, refl}
use Rattle.rust_text.proofs.ProgramSteps.{said}
use Rattle.rust_text.proofs.notation.Writer.is_logged.Goals as goal

pub returns : goal.returns
returns c = said c.args.self.now (λ p. c.args.self.now.program.is_logged ≡ p.is_logged) (λ constants rules types. refl)
