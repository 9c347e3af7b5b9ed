-- Idle rules, as the laws have them.
use Rattle.std.proofs.Common.{◌≡◌, Bool, true, false, not, ◌&&◌, ◌||◌, pos, List, [], ◌∷◌, map, if◌then◌else◌, refl, sym, ap, ◌∙◌}
use Rattle.std.specs.List.{filter, list_any}
use Rattle.std.specs.Ordering.{int_eq}
use Rattle.core_syntax.specs.SyntaxViews.{position}
use Rattle.core_rule_sets.specs.declared.trie_again.Rule.{Rule}
use Rattle.cranelift_isle.specs.SiteViews.{set_rule_view, set_rule_views}
use Rattle.model.specs.lists.Syntax.{Position}
use Rattle.model.specs.sites.Sites.{SetRule}
use Rattle.laws_ways.specs.IdlePriorities.{has_idle_priority, idle_priorities, may_meet}
use Rattle.report_warnings.specs.IdlePriorities.{idle_places, is_idle}

any_seen : (p : SetRule → Bool) (rs : List Rule) → list_any p (set_rule_views rs) ≡ list_any (λ r. p (set_rule_view r)) rs
any_seen p [] = refl
any_seen p (r ∷ rs) = ap (λ (b : Bool). p (set_rule_view r) || b) (any_seen p rs)

idle_seen : (rules : List Rule) (r : Rule) → is_idle rules r ≡ has_idle_priority (set_rule_views rules) (set_rule_view r)
idle_seen rules r = ap (λ (b : Bool). not (int_eq r.prio (pos 0)) && not b) (sym (any_seen (may_meet (set_rule_view r)) rules))

kept_or_not : (r : Rule) (xs : List Rule) (ys : List SetRule) (b : Bool) → map (λ (q : Rule). position q.pos) xs ≡ map (λ (q : SetRule). q.at) ys
    → map (λ (q : Rule). position q.pos) (if b then r ∷ xs else xs) ≡ map (λ (q : SetRule). q.at) (if b then set_rule_view r ∷ ys else ys)
kept_or_not r xs ys true e = ap (λ (l : List Position). position r.pos ∷ l) e
kept_or_not r xs ys false e = e

places_seen : (rules some : List Rule) → idle_places rules some ≡ map (λ r. r.at) (filter (has_idle_priority (set_rule_views rules)) (set_rule_views some))
places_seen rules [] = refl
places_seen rules (r ∷ rs) =
    let xs = filter (is_idle rules) rs in
    let ys = filter (has_idle_priority (set_rule_views rules)) (set_rule_views rs) in
    ap (λ (b : Bool). map (λ (q : Rule). position q.pos) (if b then r ∷ xs else xs)) (idle_seen rules r)
    ∙ kept_or_not r xs ys (has_idle_priority (set_rule_views rules) (set_rule_view r)) (places_seen rules rs)

-- the idle places of all rules
pub all_places_seen : (rules : List Rule) → idle_places rules rules ≡ idle_priorities (set_rule_views rules)
all_places_seen rules = places_seen rules rules
