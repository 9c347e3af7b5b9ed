-- What a constraint and a set answer of sites: the sites that matching brings, whether a constraint may fit a site, and the
-- number of a site; what is told of two rules of a set: whether they may match together; and what is reported of the rules of
-- sets: wrong overlaps and shadows.
use Rattle.std.specs.Prelude.{◌≡◌, ◌↔◌, ℕ, zero, suc, Bool, true, false, not, ◌&&◌, ◌||◌, List, [], ◌∷◌, ◌++◌, map, nat_le, int_lt, Option, Some, if◌then◌else◌, slice_get}
use Rattle.std.specs.Bool.{◌==◌}
use Rattle.std.specs.List.{filter, flat_map, list_all, list_any}
use Rattle.std.specs.Ordering.{int_eq}
use Rattle.model.specs.lists.Syntax.{Position}
use Rattle.model.specs.sites.Sites.{Site, int_site, make_variant_site, match_variant_site, extract_struct_site, match_some_site, Constraint, is_variant, is_struct, is_int, is_present, SetRule, SiteSet}
use Rattle.model.specs.visits.Demands.{constraint_eq}
use Rattle.model.specs.sites.Overlap.{each_two, overlap_reports, ShadowReport, RuleReport, rules_overlap, rule_shadows, by_position}
use Rattle.model.specs.trees.Best.{total_constraints}

-- as many sites, by their places
abbrev pub each_place : (ℕ → Site) → ℕ → ℕ → List Site
each_place f i zero = []
each_place f i (suc n) = f i ∷ each_place f (suc i) n

-- the sites that matching a site by a constraint brings: the fields of a variant or a struct, in order, or the answer of a
-- call that answers something
abbrev pub sites_brought : Constraint → ℕ → List Site
sites_brought (is_variant ty variant fields) s = each_place (λ i. match_variant_site s variant i) 0 fields
sites_brought (is_struct ty fields) s = each_place (λ i. extract_struct_site s i) 0 fields
sites_brought is_present s = match_some_site s ∷ []
sites_brought _ s = []

-- whether a constraint may fit a site: only a variant that is made, and an integer, can differ from what is asked
abbrev pub may_fit : Constraint → Site → Bool
may_fit (is_variant ty variant fields) (make_variant_site t v parts) = (t == ty) && (v == variant)
may_fit (is_int z ty) (int_site y t) = int_eq y z && (t == ty)
may_fit _ _ = true

-- a set finds this of a site: its number, where it is there. In a built set each site stands once
abbrev pub IsFoundAs : SiteSet → Site → Option ℕ → Type 0
IsFoundAs set b o = (s : ℕ) → (o ≡ Some s) ↔ (slice_get set.sites s ≡ Some b)

-- two constraints of one site that differ
abbrev pub differs_at : ℕ × Constraint → ℕ × Constraint → Bool
differs_at a b = (a.0 == b.0) && not (constraint_eq a.1 b.1)

-- whether some site has different constraints in two lists
abbrev pub sites_differ : List (ℕ × Constraint) → List (ℕ × Constraint) → Bool
sites_differ as' bs = list_any (λ a. list_any (differs_at a) bs) as'

-- one constraint of one site
abbrev pub agrees_at : ℕ × Constraint → ℕ × Constraint → Bool
agrees_at a b = (a.0 == b.0) && constraint_eq a.1 b.1

-- whether constraints are among others
abbrev pub all_agree : List (ℕ × Constraint) → List (ℕ × Constraint) → Bool
all_agree as' bs = list_all (λ a. list_any (agrees_at a) bs) as'

-- whether a rule demands no equality
abbrev pub equates_none : SetRule → Bool
equates_none r = elim r.classes [ [] ↦ true | c ∷ cs ↦ false ]

-- whether neither of two rules demands an equality, and the constraints of one are among the other's
abbrev pub is_subset_of_sites : SetRule → SetRule → Bool
is_subset_of_sites a b = equates_none a && equates_none b && (all_agree a.constraints b.constraints || all_agree b.constraints a.constraints)

-- what is told of two rules of a set: that no values meet both, or that some may, and then whether they are a subset pair
pub data RuleOverlap : Type 0 where
  no_overlap : RuleOverlap
  some_overlap : (subset : Bool) → RuleOverlap

-- two rules don't overlap where some site has different constraints in them
abbrev pub overlap_between : SetRule → SetRule → RuleOverlap
overlap_between a b = if sites_differ a.constraints b.constraints then no_overlap else some_overlap (is_subset_of_sites a b)

-- whether some values may meet two rules
abbrev pub may_both_match : RuleOverlap → Bool
may_both_match no_overlap = false
may_both_match (some_overlap subset) = true

-- whether two rules are a subset pair
abbrev pub is_subset : RuleOverlap → Bool
is_subset no_overlap = false
is_subset (some_overlap subset) = subset

-- two rules have one priority, and may match together
abbrev pub overlap_wrongly : SetRule → SetRule → Bool
overlap_wrongly a b = int_eq a.prio b.prio && may_both_match (overlap_between a b)

-- a rule has a greater priority than another one, they are a subset pair, and it has no more constraints
abbrev pub is_mask_of : SetRule → SetRule → Bool
is_mask_of mask r = int_lt r.prio mask.prio && is_subset (overlap_between mask r) && nat_le (total_constraints mask) (total_constraints r)

-- the wrong overlaps among rules, by their positions, the earlier rule first
abbrev pub wrong_among : List SetRule → List (Position × Position)
wrong_among rs = map (λ e. (e.0.at, e.1.at)) (filter (λ e. overlap_wrongly e.0 e.1) (each_two rs))

-- the report of a rule and those that it shadows, if there are any
abbrev pub shadow_report_of : SetRule → List SetRule → List ShadowReport
shadow_report_of mask [] = []
shadow_report_of mask (r ∷ rs) = record { mask = mask.at; shadowed = map (λ s. s.at) (r ∷ rs) } ∷ []

-- each rule that shadows others, in rule order, with those that it shadows, in rule order
abbrev pub shadows_among : List SetRule → List ShadowReport
shadows_among rs = flat_map (λ m. shadow_report_of m (filter (is_mask_of m) rs)) rs

-- the rules of a set that are compared: all, if its term isn't multi
abbrev pub compared_in : (ℕ → Bool) → ℕ × SiteSet → List SetRule
compared_in multi s = if multi s.0 then [] else s.1.rules

-- the wrong overlaps of sets, and the shadow reports, term by term
abbrev pub wrong_in_sets : (ℕ → Bool) → List (ℕ × SiteSet) → List (Position × Position)
wrong_in_sets multi sets = flat_map (λ s. wrong_among (compared_in multi s)) sets

abbrev pub shadows_in_sets : (ℕ → Bool) → List (ℕ × SiteSet) → List ShadowReport
shadows_in_sets multi sets = flat_map (λ s. shadows_among (compared_in multi s)) sets

-- overlap and shadow reports of sets by position, overlaps first at one position
abbrev pub reports_of_sets : (ℕ → Bool) → List (ℕ × SiteSet) → List RuleReport
reports_of_sets multi sets = by_position (map rules_overlap (overlap_reports (wrong_in_sets multi sets)) ++ map rule_shadows (shadows_in_sets multi sets))
