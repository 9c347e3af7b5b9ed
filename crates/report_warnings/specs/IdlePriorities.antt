-- Rules of a set that overlap others of it, as they lie in memory.
use Rattle.std.specs.Prelude.{pos, ℕ, Bool, not, ◌&&◌, List, [], ◌∷◌, map}
use Rattle.std.specs.List.{filter, list_any}
use Rattle.std.specs.Ordering.{int_eq}
use Rattle.core_syntax.specs.SyntaxViews.{position}
use Rattle.core_rule_sets.specs.declared.trie_again.Rule.{Rule}
use Rattle.cranelift_isle.specs.SiteViews.{set_rule_view}
use Rattle.model.specs.lists.Syntax.{Position}
use Rattle.laws_ways.specs.IdlePriorities.{may_meet}
use Rattle.report_warnings.specs.Kinds.{kind_name}
use Rattle.report_warnings.specs.declared.kinds.Warning.TheVariants as W

-- a rule overlaps another one of these
abbrev pub meets_some : List Rule → Rule → Bool
meets_some rules rule = list_any (λ other. may_meet (set_rule_view rule) (set_rule_view other)) rules

abbrev pub is_idle : List Rule → Rule → Bool
is_idle rules rule = not (int_eq rule.prio (pos 0)) && not (meets_some rules rule)

-- the places of those of some rules that have a priority and overlap none of the set
abbrev pub idle_places : (all some : List Rule) → List Position
idle_places all some = map (λ r. position r.pos) (filter (is_idle all) some)

-- of the rule at a place: that its priority has no effect
abbrev pub told_of_idle : Position → List ℕ × List Position
told_of_idle at = (kind_name W.Priority, at ∷ [])
