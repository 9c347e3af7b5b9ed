use Rattle.std.proofs.lemmas.List.Elements.{length_all_zip, same_from_all_zip}
use Rattle.std.proofs.Common.{sym, ap}
use Rattle.core_syntax.specs.Stable.{stable_set}
use Rattle.core_syntax.proofs.Copies.{list_any-clones}
use Rattle.core_syntax.proofs.stablemapset.StableSet.clone.Goals as goal

pub returns-clause-has : goal.returns-clause-has
returns-clause-has g c x =
    rw (← c.self.view_is) (list_any-clones g.met.T.Eq.laws c.requires x c.self.inside.items.keys c.in_ok-items.items.keys c.in_ok-items.ensures.cases)

pub returns-clause-len : goal.returns-clause-len
returns-clause-len g c =
    rw (← c.self.view_is) (sym (length_all_zip g.T.Clone.is_clone c.self.inside.items.keys c.in_ok-items.items.keys c.in_ok-items.ensures.cases))

pub returns-clause-same : goal.returns-clause-same
returns-clause-same g c same =
    rw (← c.self.view_is) (ap stable_set (same_from_all_zip g.T.Clone.is_clone c.self.inside.items.keys c.in_ok-items.items.keys c.in_ok-items.ensures.cases same))
