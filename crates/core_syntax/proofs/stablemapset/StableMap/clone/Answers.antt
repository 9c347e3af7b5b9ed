use Rattle.std.proofs.lemmas.List.Elements.{length_all_zip}
use Rattle.std.proofs.Common.{sym, ap}
use Rattle.core_syntax.specs.Stable.{look_up, stable_map}
use Rattle.core_syntax.proofs.Copies.{lookup-clones, same_entries, same_option}
use Rattle.core_syntax.proofs.stablemapset.StableMap.clone.Goals as goal

pub returns-clause-has : goal.returns-clause-has
returns-clause-has g c k =
    rw (← c.self.view_is) (lookup-clones g.met.K.Eq.laws g.V.Clone.is_clone c.requires k c.self.inside.entries.entries c.in_ok-entries.entries.entries c.in_ok-entries.ensures.cases)

pub returns-clause-values : goal.returns-clause-values
returns-clause-values g c same k =
    rw (← c.self.view_is) (same_option same (look_up g.K.PartialEq.eq (stable_map c.self.inside.entries.entries) k) (look_up g.K.PartialEq.eq (stable_map c.in_ok-entries.entries.entries) k) (lookup-clones g.met.K.Eq.laws g.V.Clone.is_clone c.requires k c.self.inside.entries.entries c.in_ok-entries.entries.entries c.in_ok-entries.ensures.cases))

pub returns-clause-len : goal.returns-clause-len
returns-clause-len g c =
    rw (← c.self.view_is) (sym (length_all_zip (λ p q. g.K.Clone.is_clone p.0 q.0 × g.V.Clone.is_clone p.1 q.1) c.self.inside.entries.entries c.in_ok-entries.entries.entries c.in_ok-entries.ensures.cases))

pub returns-clause-same : goal.returns-clause-same
returns-clause-same g c keys values =
    rw (← c.self.view_is) (ap stable_map (same_entries keys values c.self.inside.entries.entries c.in_ok-entries.entries.entries c.in_ok-entries.ensures.cases))
