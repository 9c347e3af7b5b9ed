-- Shadows in what checking answers.
use Rattle.std.specs.Prelude.{◌≡◌, ◌≢◌, ℕ, Bool, false, List, [], map, Contains}
use Rattle.std.specs.List.{filter}
use Rattle.model.specs.lists.Syntax.{Position}
use Rattle.model.specs.rules.Program.{Program, is_multi}
use Rattle.model.specs.sites.Overlap.{HasDistinctPositions, BuiltRule, built_rules, Shadows, shadows, RuleReport, position_eq, check_reports}
use Rattle.model.specs.claims.Refusals.{Refusal, shadowing, refusal_of}
use Rattle.model.specs.claims.Layers.{CheckReports}
use Rattle.laws_sites.specs.ReportLaws.{RulesHaveTerms}
use Rattle.laws_sites.specs.PairLaws.{times}

-- the errors of a program's check, in order
abbrev pub check_errors : Program → List Refusal
check_errors p = map refusal_of (check_reports p)

-- an error names this mask
abbrev pub names_mask : Position → Refusal → Bool
names_mask at (shadowing shadowed mask) = position_eq mask at
names_mask at _ = false

-- the positions of the rules of a term that a rule shadows, in rule order
abbrev pub shadowed_by : Program → ℕ → BuiltRule → List Position
shadowed_by p t m = map (λ s. s.rule.at) (filter (shadows m) (built_rules p t))

-- a list holds the position of each rule of a term that a rule shadows, and nothing else
pub record ListsItsShadowed (p : Program) (t : ℕ) (m : BuiltRule) (listed : List Position) : Type 0 where
  pub in_order : listed ≡ shadowed_by p t m
  pub each_rule : (r : BuiltRule) → Contains (built_rules p t) r → Shadows m r → Contains listed r.rule.at
  pub no_other : (at : Position) → Contains listed at → (r : BuiltRule) × Contains (built_rules p t) r × Shadows m r × (r.rule.at ≡ at)

-- a mask: a built rule of a term that isn't multi, which shadows some
pub record IsMask (p : Program) (t : ℕ) (m : BuiltRule) : Type 0 where
  pub one_result : is_multi p t ≡ false
  pub built : Contains (built_rules p t) m
  pub shadowed : BuiltRule
  pub other : Contains (built_rules p t) shadowed
  pub hides : Shadows m shadowed

-- each mask is named by an error, which lists exactly the rules that it shadows, in rule order; where rules stand at distinct
-- positions, by no other
pub record IsNamedOnce (p : Program) (t : ℕ) (m : BuiltRule) : Type 0 where
  pub listed : List Position
  pub answered : Contains (check_errors p) (shadowing listed m.rule.at)
  pub lists : ListsItsShadowed p t m listed
  pub once : HasDistinctPositions p → times (names_mask m.rule.at) (check_errors p) ≡ 1

abbrev pub MasksAreNamedOnce : Type 0
MasksAreNamedOnce = (p : Program) → RulesHaveTerms p → (t : ℕ) (m : BuiltRule) → IsMask p t m → IsNamedOnce p t m

-- an error that names a mask is of one, and lists some rules, those that it shadows
pub record IsOfMask (p : Program) (listed : List Position) (at : Position) : Type 0 where
  pub term : ℕ
  pub mask : BuiltRule
  pub is_mask : IsMask p term mask
  pub here : mask.rule.at ≡ at
  pub lists : ListsItsShadowed p term mask listed
  pub some_rule : listed ≢ []

abbrev pub OnlyMasksAreNamed : Type 0
OnlyMasksAreNamed = (p : Program) (listed : List Position) (at : Position) → Contains (check_errors p) (shadowing listed at) → IsOfMask p listed at

-- what may be reported where rules can't be told apart is answered as these errors, where rules stand at distinct positions
abbrev pub CheckErrorsAreAnswered : Type 0
CheckErrorsAreAnswered =
    (p : Program) (reports : List RuleReport) → CheckReports p reports → HasDistinctPositions p → map refusal_of reports ≡ check_errors p
