use Rattle.std.proofs.Common.{not, sym, ◌∙◌}
use Rattle.std.specs.Prelude.{nat_eq}
use Rattle.std.proofs.lemmas.Bool.{and_parts}
use Rattle.core_containers.specs.Partition.{together}
use Rattle.core_rule_sets.proofs.equal_sites.EqualSites.remove_set_of.Goals as goal

pub invariant_of-self-2 : goal.invariant_of-self-2
invariant_of-self-2 c a b t =
    let sets = c.self.inside.sets in
    c.self.invariant a b (and_parts (together nat_eq sets a b) (not (together nat_eq sets c.args.site a)) (sym (c.in_ok-set.ensures.rest a b) ∙ t)).0

pub returns-clause-members : goal.returns-clause-members
returns-clause-members c = rw (← c.self.view_is) c.in_ok-set.ensures.members

pub returns-clause-rest : goal.returns-clause-rest
returns-clause-rest c = rw (← c.self.view_is) c.in_ok-set.ensures.rest
