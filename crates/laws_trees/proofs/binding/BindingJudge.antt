-- The judge of binding before use is exact, where a tree's returns tell its rules apart.
use Rattle.std.proofs.Common.{arith}
use Rattle.std.proofs.lemmas.Bool.{and_parts, and_from}
use Rattle.std.proofs.lemmas.Grind.{common_steps}
use Rattle.laws_trees.specs.BestLaws.{BindingJudgeIsExact}
use Rattle.laws_trees.proofs.JudgeExactness.{returns_exact}
use Rattle.laws_trees.proofs.Marking.{plain_marking, marks_found}

pub binding_judge_is_exact_lem : BindingJudgeIsExact
binding_judge_is_exact_lem set multi tree apart = grind (arith, common_steps, and_parts, returns_exact, plain_marking, marks_found, and_from)
