-- The rules of a built set of a multi term have one priority.
use Rattle.std.proofs.Common.{◌≡◌, pos, sym, ap, ◌∙◌}
use Rattle.model.specs.rules.Program.{is_multi}
use Rattle.model.specs.sites.Sites.{SetRule}
use Rattle.model.proofs.Elements.{In, in_slice}
use Rattle.laws_sites.specs.GateLaws.{MultiTermsHaveOnePriority}
use Rattle.laws_sites.proofs.built.BuiltGates.{set_rule, root_of_built, typed_built}
use Rattle.laws_sites.proofs.built.BuiltSets.{BuiltSet}

pub one_priority_lem : MultiTermsHaveOnePriority
one_priority_lem p t set h b multi i j r q x y = plain r (in_slice set.rules i r x) ∙ sym (plain q (in_slice set.rules j q y))
  where
    s : BuiltSet
    s = record { program = p; term = t; set = set; built = b }

    plain : (r : SetRule) → In set.rules r → r.prio ≡ pos 0
    plain r i =
        let x = set_rule s r i in
        x.is.prio ∙ (typed_built p t x.typed h x.listed).no_priority (ap (is_multi p) (root_of_built p t x.typed x.listed) ∙ multi)
