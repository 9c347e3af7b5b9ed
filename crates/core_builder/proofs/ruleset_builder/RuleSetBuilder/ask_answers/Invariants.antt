use Rattle.std.proofs.Common.{◌<◌, List, length, map, take, All}
use Rattle.model.specs.sites.Sites.{SiteTerm, unfold_site}
use Rattle.model.specs.visits.Demands.{Visit, asking_all}
use Rattle.core_builder.specs.VisitedSites.{GoesTo, BuilderStandsAt, built_sites}
use Rattle.core_builder.proofs.ruleset_builder.RuleSetBuilder.ask_answers.Given as goal

abbrev pub invariant-loop-call : goal.invariant-loop-call
invariant-loop-call l =
    (before : List SiteTerm) (v : Visit) → BuilderStandsAt before l.fn.self v → All (λ n. n < length (built_sites l.fn.self)) l.calls
    → GoesTo before l.fn.self l.self (asking_all (map (unfold_site (built_sites l.fn.self)) (take l.call-index l.calls)) v)
