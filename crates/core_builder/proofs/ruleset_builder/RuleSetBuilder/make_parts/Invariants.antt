use Rattle.std.proofs.Common.{◌≡◌, ◌<◌, List, length}
use Rattle.std.specs.Prelude.{vec_len}
use Rattle.model.specs.sites.Sites.{SiteTerm, unfold_site, fields_from}
use Rattle.model.specs.visits.Demands.{Visit}
use Rattle.core_builder.specs.VisitedSites.{MakesAll, BuilderStandsAt, built_sites, part_of}
use Rattle.core_builder.proofs.ruleset_builder.RuleSetBuilder.make_parts.Given as goal

abbrev pub invariant-loop-place : goal.invariant-loop-place
invariant-loop-place l = record {
  count : vec_len l.ids ≡ l.place;
  made : (before : List SiteTerm) (v : Visit) → BuilderStandsAt before l.fn.self v → l.source < length (built_sites l.fn.self)
      → MakesAll before l.fn.self l.self v (fields_from (part_of l.parts (unfold_site (built_sites l.fn.self) l.source)) 0 l.place) l.ids.items;
}
