-- Operands of an operator, and of an unknown function.
use Rattle.std.specs.Prelude.{Option, Some, None}
use Rattle.model.specs.rules.Outcome.{then_option}
use Rattle.model_questions.specs.Formulas as M
use Rattle.spec_cases.specs.declared.formulas.Operand.{Operand}
use Rattle.spec_cases.specs.Namings.{Naming, operand_and}

-- one before others, where all are plain
abbrev pub with_operand : Naming → Option Operand → Option M.Operands → Option M.Operands
with_operand v None o = None
with_operand v (Some x) o = then_option o (λ of. Some (operand_and v x of))
