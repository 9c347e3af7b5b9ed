-- A run that is cut at a bound keeps it.
use Rattle.std.proofs.Common.{ℕ, suc, arith}
use Rattle.std.proofs.lemmas.Grind.{common_steps}
use Rattle.std.proofs.lemmas.List.{take-append-drop, length-take-le}
use Rattle.model.specs.rules.Outcome.{Outcome}
use Rattle.model_code.specs.CodeLaws.{IsCut}
use Rattle.model_code.specs.PrintedCode.{PrintedCodeRuns}
use Rattle.laws_code.specs.Bounds.{KeepsBound, CodeKeepsBound}

cut_keeps : (most : ℕ) (whole cut : Outcome) → IsCut most whole cut → KeepsBound most whole cut
cut_keeps most whole cut k = grind (arith, common_steps, length-take-le most whole.results, take-append-drop most whole.results, length-take-le, take-append-drop)

pub code_keeps_bound_lem : PrintedCodeRuns → CodeKeepsBound
code_keeps_bound_lem runs set tree w p deep n most best same = cut_keeps (suc most) _ _ ((runs set tree w p deep n best same).cut most)
