-- Wrong overlaps in the reports of checking.
use Rattle.std.specs.Prelude.{◌≡◌, ℕ, ◌+◌, Bool, true, false, ◌&&◌, ◌||◌, List, [], ◌∷◌, Contains}
use Rattle.model.specs.lists.Syntax.{Position}
use Rattle.model.specs.rules.Program.{Program}
use Rattle.model.specs.sites.Overlap.{OverlapsWrongly, OverlapReport, RuleReport, rules_overlap, position_eq, check_reports}
use Rattle.laws_sites.specs.ReportLaws.{RulesHaveTerms, OverlapAt}

abbrev pub has_place : Position → List Position → Bool
has_place b [] = false
has_place b (x ∷ xs) = position_eq x b || has_place b xs

-- a report lists both positions, one of them first
abbrev pub both_in : Position → Position → OverlapReport → Bool
both_in a b r = (position_eq r.first a && has_place b r.others) || (position_eq r.first b && has_place a r.others)

abbrev pub lists_both : Position → Position → RuleReport → Bool
lists_both a b (rules_overlap r) = both_in a b r
lists_both a b _ = false

abbrev pub one_if : Bool → ℕ
one_if true = 1
one_if false = 0

-- how many elements of a list pass a test
abbrev pub times : {X : Type 0} → (X → Bool) → List X → ℕ
times t [] = 0
times t (x ∷ xs) = one_if (t x) + times t xs

-- each wrong overlap stands in exactly one report of checking, and each further rule of such a report overlaps wrongly with its first
abbrev pub WrongPairsStandOnce : Type 0
WrongPairsStandOnce = (p : Program) → RulesHaveTerms p → (t i j : ℕ) (o : OverlapsWrongly p t i j) → times (lists_both o.first.rule.at o.second.rule.at) (check_reports p) ≡ 1

abbrev pub OnlyWrongPairsStand : Type 0
OnlyWrongPairsStand = (p : Program) (r : OverlapReport) (at : Position) → Contains (check_reports p) (rules_overlap r) → Contains r.others at → OverlapAt p r.first at
