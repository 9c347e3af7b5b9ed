use Rattle.std.proofs.Common.{ℕ, Some, ap, sym, ◌∙◌, string_bytes}
use Rattle.model.proofs.Names.{number_new}
use Rattle.core_types.specs.Envs.{names_of}
use Rattle.core_rules.proofs.typing.rule.meet_name.Goals as goal

pub returns-clause-number : goal.returns-clause-number
returns-clause-number c = rw c.in-Some.is (ap (λ (n : ℕ). Some n) (c.in_ok-sym.ensures.number ∙ sym (number_new (names_of c.args.tyenv.now) (string_bytes c.in-Some.name.0))))
