use Rattle.std.proofs.Common.{◌≡◌, List, drop}
use Rattle.model_code.specs.Code.{no_code_arm, no_statement}
use Rattle.model_code.specs.Notation.{Notation}
use Rattle.model_code.specs.Pieces as P
use Rattle.model_code.specs.Written.{written, written_arms}
use Rattle.rust_code.specs.CodeViews.{arms_before, before, use_view}
use Rattle.rust_text.specs.Adding.{ahead}
use Rattle.rust_text.specs.Margins.{margin_view}
use Rattle.rust_text.specs.Writers.{IsNotationOf}
use Rattle.rust_text.proofs.notation.Writer.+code.Given as goal

abbrev pub invariant-add_statements-loop-statement : goal.invariant-add_statements-loop-statement
invariant-add_statements-loop-statement l =
    (p : Notation) → IsNotationOf l.self p → (rest : List P.CodePiece)
    → ahead p l.out.items (P.block_before p (margin_view l.at) (written p (before (drop l.statement-index l.statements) no_statement)) rest)
    ≡ ahead p l.fn.out.items (P.block_before p (margin_view l.at) (written p (before l.statements no_statement)) rest)

abbrev pub invariant-add_arms-loop-arm : goal.invariant-add_arms-loop-arm
invariant-add_arms-loop-arm l =
    (p : Notation) → IsNotationOf l.self p → (rest : List P.CodePiece)
    → ahead p l.out.items (P.arms_before l.is_alone p (margin_view l.at) (use_view l.value) (written_arms p (arms_before (drop l.arm-index l.arms) no_code_arm)) rest)
    ≡ ahead p l.fn.out.items (P.arms_before l.is_alone p (margin_view l.at) (use_view l.value) (written_arms p (arms_before l.arms no_code_arm)) rest)
