-- Which rules of a set have a priority that has no effect: no other rule may match together with them.
use Rattle.std.specs.Prelude.{pos, Bool, not, ◌&&◌, List, map}
use Rattle.std.specs.Bool.{◌==◌}
use Rattle.std.specs.List.{filter, list_any}
use Rattle.std.specs.Ordering.{int_eq}
use Rattle.model.specs.lists.Syntax.{Position}
use Rattle.model.specs.sites.Sites.{SetRule}
use Rattle.model.specs.sites.SetRules.{overlap_between, may_both_match}

-- two different rules of a set overlap: no site has different constraints in them
abbrev pub may_meet : SetRule → SetRule → Bool
may_meet r s = not (r.id == s.id) && may_both_match (overlap_between r s)

-- a rule has a priority other than 0, and overlaps no other one of these
abbrev pub has_idle_priority : List SetRule → SetRule → Bool
has_idle_priority rules r = not (int_eq r.prio (pos 0)) && not (list_any (may_meet r) rules)

-- the places of such rules, in rule order
abbrev pub idle_priorities : List SetRule → List Position
idle_priorities rules = map (λ r. r.at) (filter (has_idle_priority rules) rules)
