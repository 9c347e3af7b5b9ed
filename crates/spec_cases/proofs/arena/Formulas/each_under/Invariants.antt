use Rattle.std.proofs.Common.{◌≡◌, ◌++◌, drop}
use Rattle.model_questions.specs.Forms as M
use Rattle.spec_cases.specs.Namings.{Naming, fact_of, Names}
use Rattle.spec_cases.specs.CaseViews.{guarded_each}
use Rattle.spec_cases.proofs.arena.Formulas.each_under.Given as goal

abbrev pub invariant-loop-case : goal.invariant-loop-case
invariant-loop-case g l =
    (v : Naming) → Names v l.self
    → Names v l.fn.self × (guarded_each v l.out.items ++ M.each_under (fact_of v l.guard) (guarded_each v (drop l.case-index l.cases)) ≡ M.each_under (fact_of v l.guard) (guarded_each v l.cases))
