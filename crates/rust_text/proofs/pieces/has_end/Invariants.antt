use Rattle.std.proofs.Common.{◌≡◌, drop}
use Rattle.model_code.specs.Code.{no_statement}
use Rattle.model_code.specs.Notation.{Notation}
use Rattle.model_code.specs.Pieces.{result_ends}
use Rattle.model_code.specs.Written.{has_end}
use Rattle.rust_code.specs.CodeViews.{before}
use Rattle.rust_text.proofs.pieces.has_end.Given as goal

abbrev pub invariant-loop-statement : goal.invariant-loop-statement
invariant-loop-statement l = (p : Notation) → l.ends ≡ result_ends p → has_end p (before (drop l.statement-index l.statements) no_statement) ≡ has_end p (before l.statements no_statement)
