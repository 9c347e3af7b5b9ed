-- Of a rule of a well-typed program, the closed demands hold exactly where the demands do, if they are all that follows.
use Rattle.model.specs.rules.Program.{rules_of}
use Rattle.model.specs.visits.Demands.{demands_of}
use Rattle.model.specs.sites.Closure.{closed}
use Rattle.laws_trees.specs.MatchLaws.{ClosedDemandsHoldAlike}
use Rattle.laws_sites.proofs.Closing.{closed_follows}
use Rattle.laws_trees.proofs.ClosedDemands.{closed_hold, ask_enough}
use Rattle.laws_trees.proofs.FormedDemands.{rule_formed}
use Rattle.laws_trees.proofs.Unreachable.{joined_content, constrained_field}
use Rattle.laws_trees.proofs.Visits.{given, holds_enough, met_holds, tried}

pub closed_demands_hold_alike_lem : ClosedDemandsHoldAlike
closed_demands_hold_alike_lem p t m args r k h a before whole =
    let g = given p m args k in
    let d = demands_of p r in
    let b = tried p t m args r k h a in
    let formed = rule_formed p h.parts r b.rule.formed in (
      λ i.
          (let met = b.matches.met (b.matches.found (holds_enough p m args k d i)) in
          closed_hold g before d met (constrained_field g (rules_of p t) r (record { here = a.rule; served = a.served; types = h.types; formed = formed; met = met })) (joined_content g d met.equal) (closed_follows d before)),
      λ i. met_holds p m args k d (b.matches.met (b.matches.found (ask_enough g d (record { closing = closed before d; whole = whole; formed = formed; hold = i })))),
    )
