-- What theory proves of the reports on a program's rules.
use Rattle.std.specs.Prelude.{◌≡◌, ◌⊎◌, ◌<◌, ℕ, false, List, [], length, map, Some, slice_get, Contains, ◌↔◌}
use Rattle.std.specs.List.{filter}
use Rattle.model.specs.lists.Syntax.{Position}
use Rattle.model.specs.rules.Typed.{TypedRule}
use Rattle.model.specs.rules.Program.{Program, is_multi}
use Rattle.model.specs.claims.Layers.{IsCheckable}
use Rattle.model.specs.sites.Overlap.{HasDistinctPositions, BuiltRule, built_rules, OverlapsWrongly, Shadows, shadows, wrong_overlaps, OverlapReport, overlap_reports, ShadowReport, shadow_reports, check_reports}

-- each rule's term is one of the program's
abbrev pub RulesHaveTerms : Program → Type 0
RulesHaveTerms p = (r : TypedRule) → Contains p.rules r → r.root_term < length p.terms

-- nothing is reported exactly where the rules of a program can be told apart
abbrev pub CheckIsExact : Type 0
CheckIsExact = (p : Program) → RulesHaveTerms p → (check_reports p ≡ []) ↔ IsCheckable p

-- a report lists two rules, one of them first
abbrev pub ListsBoth : OverlapReport → Position → Position → Type 0
ListsBoth r a b = ((r.first ≡ a) × Contains r.others b) ⊎ ((r.first ≡ b) × Contains r.others a)

-- exactly one of the reports lists two rules so
pub record IsListedOnce (reports : List OverlapReport) (a b : Position) : Type 0 where
  pub place : ℕ
  pub report : OverlapReport
  pub here : slice_get reports place ≡ Some report
  pub lists : ListsBoth report a b
  pub only : (n : ℕ) (r : OverlapReport) → slice_get reports n ≡ Some r → ListsBoth r a b → n ≡ place

-- each two rules that overlap wrongly stand in exactly one report that lists one of them first
abbrev pub OverlapsAreListedOnce : Type 0
OverlapsAreListedOnce =
    (p : Program) → RulesHaveTerms p → (t i j : ℕ) (o : OverlapsWrongly p t i j)
    → IsListedOnce (overlap_reports (wrong_overlaps p)) o.first.rule.at o.second.rule.at

-- rules at two positions overlap wrongly
pub record OverlapAt (p : Program) (a b : Position) : Type 0 where
  pub term : ℕ
  pub earlier : ℕ
  pub later : ℕ
  pub overlap : OverlapsWrongly p term earlier later
  pub ends : ((overlap.first.rule.at ≡ a) × (overlap.second.rule.at ≡ b)) ⊎ ((overlap.first.rule.at ≡ b) × (overlap.second.rule.at ≡ a))

-- each further rule of a report overlaps wrongly with its first
abbrev pub ListedRulesOverlap : Type 0
ListedRulesOverlap =
    (p : Program) (r : OverlapReport) (at : Position) → Contains (overlap_reports (wrong_overlaps p)) r → Contains r.others at → OverlapAt p r.first at

-- a report stands at one place, and no other one is of its mask
pub record IsOnlyOfMask (reports : List ShadowReport) (report : ShadowReport) : Type 0 where
  pub place : ℕ
  pub here : slice_get reports place ≡ Some report
  pub only : (n : ℕ) (r : ShadowReport) → slice_get reports n ≡ Some r → r.mask ≡ report.mask → n ≡ place

-- where rules stand at distinct positions, each built rule that shadows others is the mask of exactly one report, which
-- lists exactly these, in rule order
abbrev pub MasksAreReportedOnce : Type 0
MasksAreReportedOnce =
    (p : Program) → RulesHaveTerms p → HasDistinctPositions p → (t : ℕ) (m r : BuiltRule) → is_multi p t ≡ false
    → Contains (built_rules p t) m → Contains (built_rules p t) r → Shadows m r
    → IsOnlyOfMask (shadow_reports p) (record { mask = m.rule.at; shadowed = map (λ s. s.rule.at) (filter (shadows m) (built_rules p t)) })

-- each shadow report is of such a rule
abbrev pub ReportedMasksShadow : Type 0
ReportedMasksShadow =
    (p : Program) (s : ShadowReport) → Contains (shadow_reports p) s
    → (t : ℕ) × (m : BuiltRule) × (r : BuiltRule) × Contains (built_rules p t) m × Contains (built_rules p t) r × Shadows m r
    × (s ≡ record { mask = m.rule.at; shadowed = map (λ u. u.rule.at) (filter (shadows m) (built_rules p t)) })
