-- The rules of a match in the order of its arms: by what they ask of its source.
use Rattle.std.specs.Prelude.{◌≡◌, ℕ, Bool, false, List, [], ◌∷◌, map, Option, Some, None, is_some, slice_get, Contains, IsPermutation}
use Rattle.std.specs.List.{filter}
use Rattle.model.specs.sites.Sites.{Constraint, SetRule, SiteSet}
use Rattle.model.specs.trees.Places.{constraint_at, fields_of}
use Rattle.model.specs.trees.Sound.{comes_before}
use Rattle.model.specs.trees.Judge.{is_that}
use Rattle.core_rule_sets.specs.SiteViews.{constraint_view}
use Rattle.core_serialize.specs.declared.arms.AskingRule.{AskingRule}
use Rattle.core_serialize.specs.declared.arms.NextArm.{NextArm}

-- what the rule, if there is one, asks of a site
abbrev pub constraint_asked : ℕ → Option SetRule → Option Constraint
constraint_asked s None = None
constraint_asked s (Some r) = constraint_at r.constraints s

abbrev pub asked_at : List SetRule → ℕ → ℕ → Option Constraint
asked_at rules s i = constraint_asked s (slice_get rules i)

-- whether the rule at a place of the set asks that of a site
abbrev pub asks : List SetRule → ℕ → Constraint → ℕ → Bool
asks rules s c i = is_that (asked_at rules s i) c

-- whether it asks anything of a site
abbrev pub asks_some : List SetRule → ℕ → ℕ → Bool
asks_some rules s i = is_some (asked_at rules s i)

-- what is asked
abbrev pub asked_constraint : AskingRule → Constraint
asked_constraint a = constraint_view a.constraint

-- whether one asks that
abbrev pub asks_that : Constraint → AskingRule → Bool
asks_that c a = is_that (Some (asked_constraint a)) c

-- the rules that ask
abbrev pub asked_numbers : List AskingRule → List ℕ
asked_numbers turns = map (λ a. a.number) turns

-- each is what its rule asks of the site
abbrev pub AreAsked : List SetRule → ℕ → List AskingRule → Type 0
AreAsked rules s turns = (a : AskingRule) → Contains turns a → asked_at rules s a.number ≡ Some (asked_constraint a)

-- whether one's constraint comes before another's
abbrev pub is_ahead : AskingRule → AskingRule → Bool
is_ahead a b = comes_before (asked_constraint a) (asked_constraint b)

-- no constraint comes before one that stands ahead of it
abbrev pub Ascend : List AskingRule → Type 0
Ascend [] = Unit {0}
Ascend (a ∷ turns) = ((b : AskingRule) → Contains turns b → is_ahead b a ≡ false) × Ascend turns

-- what some rules ask of a site, in the order of the arms
pub record AreTurns (rules : List SetRule) (s : ℕ) (turns : List AskingRule) : Type 0 where
  pub each : AreAsked rules s turns
  pub ascend : Ascend turns

-- what the rules here ask of a site, each once, those of one constraint in the order in which they stand here
pub record AreInTurn (rules : List SetRule) (s : ℕ) (here : List ℕ) (turns : List AskingRule) : Type 0 where
  pub told : AreTurns rules s turns
  pub same : IsPermutation (filter (asks_some rules s) here) (asked_numbers turns)
  pub kept : (a : AskingRule) → filter (asks rules s (asked_constraint a)) (asked_numbers turns) ≡ filter (asks rules s (asked_constraint a)) here

-- the least constraint that some of these rules ask of a site
abbrev pub IsLeastAsked : List SetRule → ℕ → List ℕ → Constraint → Type 0
IsLeastAsked rules s here c =
    ((i : ℕ) × Contains here i × (asked_at rules s i ≡ Some c))
    × ((i : ℕ) (d : Constraint) → Contains here i → asked_at rules s i ≡ Some d → comes_before d c ≡ false)

-- the arm of the least constraint that these rules ask of a site, and what goes with it
pub record IsNextArm (set : SiteSet) (s : ℕ) (here : List ℕ) (next : NextArm) : Type 0 where
  pub least : IsLeastAsked set.rules s here (constraint_view next.constraint)
  pub fields : next.fields.items ≡ fields_of set.sites s (constraint_view next.constraint)
  pub asking : next.asking.items ≡ filter (asks set.rules s (constraint_view next.constraint)) here

-- the same where there is one; where there is none, no rule is left
abbrev pub IsNextArmOf : SiteSet → ℕ → List ℕ → Option NextArm → Type 0
IsNextArmOf set s here None = here ≡ []
IsNextArmOf set s here (Some next) = IsNextArm set s here next
