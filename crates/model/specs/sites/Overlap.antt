-- Overlapping and shadowed rules, by their closed demands, and what is reported of the rules of a program.
use Rattle.std.specs.Prelude.{◌≡◌, ℕ, zero, suc, ◌<◌, ◌≤◌, Bool, true, false, not, ◌&&◌, ◌||◌, List, [], ◌∷◌, ◌++◌, length, map, sum_by, nat_lt, nat_le, Some, None, is_none, slice_get, if◌then◌else◌, Contains, ◌+◌, ◌<ℤ◌, int_lt, ◌⊎◌}
use Rattle.std.specs.Bool.{◌==◌}
use Rattle.std.specs.List.{filter, flat_map, list_all, list_any}
use Rattle.std.specs.Ordering.{int_eq}
use Rattle.model.specs.lists.Syntax.{Position}
use Rattle.model.specs.rules.Typed.{TypedRule}
use Rattle.model.specs.rules.Program.{Program, is_multi, rules_of, terms_with_rules}
use Rattle.model.specs.sites.Sites.{Constraint, SiteTerm}
use Rattle.model.specs.visits.Demands.{site_term_eq, demands_of, constraint_eq, differ}
use Rattle.model.specs.lists.Names.{IsDistinct}
use Rattle.model.specs.sites.Closure.{Unreachability, is_unreachable, reported, Closed, closed}
use Rattle.model.specs.sites.Limits.{RuleLimit, first_limit, sites_wanted, sites_after_rule, sites_after_rules}

-- no two rules of the program stand at one position. Reports name rules by their positions
abbrev pub HasDistinctPositions : Program → Type 0
HasDistinctPositions p = IsDistinct (map (λ r. r.at) p.rules)

-- no site has different constraints in two sets of closed demands
abbrev pub Overlaps : Closed → Closed → Type 0
Overlaps a b = (s : SiteTerm) (c d : Constraint) → Contains a.constraints (s, c) → Contains b.constraints (s, d) → c ≡ d

-- the test of it
abbrev pub overlaps : Closed → Closed → Bool
overlaps a b = not (differ a.constraints b.constraints)

-- constraints are among others
abbrev pub AreAmong : List (SiteTerm × Constraint) → List (SiteTerm × Constraint) → Type 0
AreAmong as' bs = (s : SiteTerm) (c : Constraint) → Contains as' (s, c) → Contains bs (s, c)

-- one site and one constraint
abbrev pub same_demand : SiteTerm × Constraint → SiteTerm × Constraint → Bool
same_demand a b = site_term_eq a.0 b.0 && constraint_eq a.1 b.1

-- the test that constraints are among others
abbrev pub are_among : List (SiteTerm × Constraint) → List (SiteTerm × Constraint) → Bool
are_among as' bs = list_all (λ a. list_any (same_demand a) bs) as'

-- two sets of closed demands overlap, neither has equalities, and the constraints of one are among the other's
pub record IsSubsetPair (a b : Closed) : Type 0 where
  pub overlap : Overlaps a b
  pub first_has_none : a.classes ≡ []
  pub second_has_none : b.classes ≡ []
  pub among : AreAmong a.constraints b.constraints ⊎ AreAmong b.constraints a.constraints

-- closed demands have no equalities
abbrev pub has_no_class : Closed → Bool
has_no_class k = elim k.classes [ [] ↦ true | c ∷ cs ↦ false ]

-- the test of a subset pair
abbrev pub is_subset_pair : Closed → Closed → Bool
is_subset_pair a b =
    overlaps a b && has_no_class a && has_no_class b && (are_among a.constraints b.constraints || are_among b.constraints a.constraints)

-- the number of sites that closed demands speak of: none is both constrained and in a class
abbrev pub constraints_of_closed : Closed → ℕ
constraints_of_closed k = length k.constraints + sum_by length k.classes

-- a rule that is built, with its closed demands
pub record BuiltRule : Type 0 where
  pub rule : TypedRule
  pub demands : Closed

-- whether a rule is built: it passes no limit, and is reachable
abbrev pub is_built : Program → List SiteTerm → TypedRule → Bool
is_built p before r = is_none (first_limit p before r) && not (is_unreachable (demands_of p r))

-- the built rule
abbrev pub built_rule : Program → List SiteTerm → TypedRule → BuiltRule
built_rule p before r = record { rule = r; demands = closed before (demands_of p r) }

-- the built rules of one term, after the sites of the rules before
abbrev pub built_from : Program → List SiteTerm → List TypedRule → List BuiltRule
built_from p before [] = []
built_from p before (r ∷ rs) =
    (if is_built p before r then built_rule p before r ∷ [] else []) ++ built_from p (sites_after_rule p before r) rs

-- the built rules of a term, in rule order
abbrev pub built_rules : Program → ℕ → List BuiltRule
built_rules p t = built_from p [] (rules_of p t)

-- two rules have one priority and overlap
abbrev pub clash : BuiltRule → BuiltRule → Bool
clash a b = int_eq a.rule.prio b.rule.prio && overlaps a.demands b.demands

-- two different built rules of a term that isn't multi have one priority and overlap
pub record OverlapsWrongly (p : Program) (t i j : ℕ) : Type 0 where
  pub first : BuiltRule
  pub second : BuiltRule
  pub one_result : is_multi p t ≡ false
  pub here : slice_get (built_rules p t) i ≡ Some first
  pub there : slice_get (built_rules p t) j ≡ Some second
  pub before : i < j
  pub one_priority : first.rule.prio ≡ second.rule.prio
  pub overlap : Overlaps first.demands second.demands

-- a rule shadows another one: it has a greater priority, they are a subset pair, and it has no more constraints
pub record Shadows (mask shadowed : BuiltRule) : Type 0 where
  pub above : shadowed.rule.prio <ℤ mask.rule.prio
  pub subset : IsSubsetPair mask.demands shadowed.demands
  pub no_more : constraints_of_closed mask.demands ≤ constraints_of_closed shadowed.demands

-- the test of it
abbrev pub shadows : BuiltRule → BuiltRule → Bool
shadows mask r =
    int_lt r.rule.prio mask.rule.prio && is_subset_pair mask.demands r.demands && nat_le (constraints_of_closed mask.demands) (constraints_of_closed r.demands)

-- some built rule of the term, which isn't multi, shadows the rule at a place
pub record IsShadowed (p : Program) (t i : ℕ) : Type 0 where
  pub mask : BuiltRule
  pub shadowed : BuiltRule
  pub one_result : is_multi p t ≡ false
  pub other : Contains (built_rules p t) mask
  pub here : slice_get (built_rules p t) i ≡ Some shadowed
  pub shadows : Shadows mask shadowed

-- each two elements of a list, the earlier one first
abbrev pub each_two : {X : Type 0} → List X → List (X × X)
each_two [] = []
each_two (x ∷ xs) = map (λ y. (x, y)) xs ++ each_two xs

-- rules that are compared: the built rules of each term that isn't multi
abbrev pub compared : Program → ℕ → List BuiltRule
compared p t = if is_multi p t then [] else built_rules p t

-- the wrong overlaps among rules, by their positions, the earlier rule first
abbrev pub wrong_in : List BuiltRule → List (Position × Position)
wrong_in rs = map (λ e. (e.0.rule.at, e.1.rule.at)) (filter (λ e. clash e.0 e.1) (each_two rs))

-- the wrong overlaps of a program
abbrev pub wrong_overlaps : Program → List (Position × Position)
wrong_overlaps p = flat_map (λ t. wrong_in (compared p t)) (terms_with_rules p)

-- one file and one place in it
abbrev pub position_eq : Position → Position → Bool
position_eq a b = (a.file == b.file) && (a.offset == b.offset)

-- an earlier file, or an earlier place in the same file
abbrev pub position_lt : Position → Position → Bool
position_lt a b = nat_lt a.file b.file || ((a.file == b.file) && nat_lt a.offset b.offset)

-- an overlap that has a rule
abbrev pub has_end : Position → Position × Position → Bool
has_end at e = position_eq e.0 at || position_eq e.1 at

-- the number of overlaps that a rule has
abbrev pub degree : List (Position × Position) → Position → ℕ
degree pairs at = length (filter (has_end at) pairs)

-- the rule that overlaps this one
abbrev pub other_end : Position → Position × Position → Position
other_end at e = if position_eq e.0 at then e.1 else e.0

-- the first rule is reported before the second: it has more overlaps, or as many and a later position
abbrev pub is_reported_before : List (Position × Position) → Position → Position → Bool
is_reported_before pairs a b = nat_lt (degree pairs b) (degree pairs a) || ((degree pairs a == degree pairs b) && position_lt b a)

-- of a rule and others, the one that is reported before all of them
abbrev pub foremost : List (Position × Position) → Position → List Position → Position
foremost pairs a [] = a
foremost pairs a (b ∷ bs) = foremost pairs (if is_reported_before pairs b a then b else a) bs

-- ascending positions with one more, where it isn't there
abbrev pub with_position : Position → List Position → List Position
with_position a [] = a ∷ []
with_position a (b ∷ bs) = if position_eq a b then b ∷ bs else (if position_lt a b then a ∷ (b ∷ bs) else b ∷ with_position a bs)

-- positions ascending, each once
abbrev pub ascending_positions : List Position → List Position
ascending_positions [] = []
ascending_positions (a ∷ as') = with_position a (ascending_positions as')

-- rules that overlap wrongly: the one that is reported, then those that it overlaps, ascending
pub record OverlapReport : Type 0 where
  pub first : Position
  pub others : List Position

-- a mask, and the rules that it shadows, in rule order
pub record ShadowReport : Type 0 where
  pub mask : Position
  pub shadowed : List Position

-- the report of a rule's overlaps
abbrev pub overlap_report : List (Position × Position) → Position → OverlapReport
overlap_report pairs at = record { first = at; others = ascending_positions (map (other_end at) (filter (has_end at) pairs)) }

-- until every wrong overlap is reported: the rule with the most of them, of several the latest by position, then the
-- other rules of these overlaps. Each report takes an overlap away, so there are no more reports than overlaps
abbrev pub overlap_reports_in : ℕ → List (Position × Position) → List OverlapReport
overlap_reports_in n [] = []
overlap_reports_in zero (e ∷ es) = []
overlap_reports_in (suc n) (e ∷ es) =
    let pairs = e ∷ es in
    let at = foremost pairs e.0 (flat_map (λ x. x.0 ∷ (x.1 ∷ [])) pairs) in
    overlap_report pairs at ∷ overlap_reports_in n (filter (λ x. not (has_end at x)) pairs)

-- the overlap reports of these overlaps
abbrev pub overlap_reports : List (Position × Position) → List OverlapReport
overlap_reports pairs = overlap_reports_in (length pairs) pairs

-- the report of a rule and those that it shadows, if there are any
abbrev pub shadow_report : BuiltRule → List BuiltRule → List ShadowReport
shadow_report mask [] = []
shadow_report mask (r ∷ rs) = record { mask = mask.rule.at; shadowed = map (λ s. s.rule.at) (r ∷ rs) } ∷ []

-- each rule that shadows others, in rule order, with those that it shadows, in rule order
abbrev pub shadow_reports_in : List BuiltRule → List ShadowReport
shadow_reports_in rs = flat_map (λ m. shadow_report m (filter (shadows m) rs)) rs

-- the shadow reports of a program, term by term
abbrev pub shadow_reports : Program → List ShadowReport
shadow_reports p = flat_map (λ t. shadow_reports_in (compared p t)) (terms_with_rules p)

-- what is reported of the rules of a program
pub data RuleReport : Type 0 where
  limit_passed : (limit : RuleLimit) (at : Position) → RuleReport
  not_reached : (why : Unreachability) (at : Position) → RuleReport
  rules_overlap : (report : OverlapReport) → RuleReport
  rule_shadows : (report : ShadowReport) → RuleReport

-- of a rule that isn't built: the limit that is met first, else why it isn't reachable
abbrev pub build_reports_of : Program → List SiteTerm → TypedRule → List RuleReport
build_reports_of p before r =
    elim (first_limit p before r) [
      | Some l ↦ limit_passed l r.at ∷ []
      | None ↦ map (λ why. not_reached why r.at) (reported (sites_wanted p before r) (demands_of p r))
    ]

-- the reports of rules in order, after rules that are done: each one after the sites of the rules of its term before it
abbrev pub build_reports_after : Program → List TypedRule → List TypedRule → List RuleReport
build_reports_after p done [] = []
build_reports_after p done (r ∷ rs) =
    build_reports_of p (sites_after_rules p [] (filter (λ q. q.root_term == r.root_term) done)) r ++ build_reports_after p (done ++ r ∷ []) rs

-- the reports of the rules that aren't built, in rule order
abbrev pub build_reports : Program → List RuleReport
build_reports p = build_reports_after p [] p.rules

-- where a report stands: at its rule, at the first rule of an overlap, or at the mask
abbrev pub report_position : RuleReport → Position
report_position (limit_passed limit at) = at
report_position (not_reached why at) = at
report_position (rules_overlap r) = r.first
report_position (rule_shadows r) = r.mask

-- reports by position with one more, before those of its position
abbrev pub with_report : RuleReport → List RuleReport → List RuleReport
with_report a [] = a ∷ []
with_report a (b ∷ bs) = if position_lt (report_position b) (report_position a) then b ∷ with_report a bs else a ∷ (b ∷ bs)

-- reports by position, those of one position as they stood
abbrev pub by_position : List RuleReport → List RuleReport
by_position [] = []
by_position (a ∷ as') = with_report a (by_position as')

-- overlap and shadow reports by position, overlaps first at one position
abbrev pub overlap_and_shadow_reports : Program → List RuleReport
overlap_and_shadow_reports p = by_position (map rules_overlap (overlap_reports (wrong_overlaps p)) ++ map rule_shadows (shadow_reports p))

-- all reports in order: those of building, then the others
abbrev pub check_reports : Program → List RuleReport
check_reports p = build_reports p ++ overlap_and_shadow_reports p
