use Rattle.std.proofs.Common.{sym, ◌∙◌}
use Rattle.std.specs.HashMap.{keys}
use Rattle.std.proofs.lemmas.List.{length-map}
use Rattle.std.proofs.lemmas.Map.Made.{is_some-lookup}
use Rattle.core_syntax.proofs.stablemapset.StableMap.len.Goals as goal

pub returns-clause-count : goal.returns-clause-count
returns-clause-count g c =
    let m = c.self.inside.entries in (
      keys m,
      c.len.ensures.unique,
      λ y. rw (← c.self.view_is) (sym (is_some-lookup (g.K.PartialEq.eq y) m.entries)),
      length-map m.entries (λ p. p.0) ∙ sym c.len.ensures.len,
    )
