use Rattle.std.proofs.Common.{◌≡◌, drop}
use Rattle.model_code.specs.Code.{no_code_arm, no_statement}
use Rattle.model_code.specs.Pieces.{is_left, leaves_arms}
use Rattle.rust_code.specs.CodeViews.{arms_before, before}
use Rattle.rust_text.proofs.labels.+leaves.Given as goal

abbrev pub invariant-leaves_label-loop-statement : goal.invariant-leaves_label-loop-statement
invariant-leaves_label-loop-statement l = is_left l.ends (before (drop l.statement-index l.statements) no_statement) ≡ is_left l.ends (before l.statements no_statement)

abbrev pub invariant-leaves_in-loop-arm : goal.invariant-leaves_in-loop-arm
invariant-leaves_in-loop-arm l = leaves_arms l.ends (arms_before (drop l.arm-index l.arms) no_code_arm) ≡ leaves_arms l.ends (arms_before l.arms no_code_arm)
