-- The condition of a rule of a term's set: what a generator of questions asks, which sees no source rule. What it asks is enough.
use Rattle.std.specs.Prelude.{◌≡◌, ◌⊎◌, ℕ, ◌<ℤ◌, Bool, true, false, not, List, ◌++◌, map, Some, slice_get, Contains}
use Rattle.std.specs.Bool.{◌==◌}
use Rattle.std.specs.List.{filter, flat_map}
use Rattle.model.specs.lists.Elaborated.{TypedRules}
use Rattle.model.specs.lists.Syntax.{Definition}
use Rattle.model.specs.rules.Values.{Value}
use Rattle.model.specs.rules.Meaning.{Meaning}
use Rattle.model.specs.rules.Program.{Program, is_multi, rules_of}
use Rattle.model.specs.rules.Typed.{TypedRule}
use Rattle.model.specs.sites.Sites.{Constraint, SetRule, SiteSet, SiteTerm, unfold_site}
use Rattle.model.specs.sites.Serves.{TellsConstantsApart}
use Rattle.model.specs.trees.Places.{all_below, return_uses}
use Rattle.model.specs.trees.Run.{run, world_of}
use Rattle.model.specs.trees.SetRuns.{tested_sites}
use Rattle.model.specs.claims.Layers.{own_program, IsAccepted, AreLowered, LoweredTerm, IsLoweredTerm}
use Rattle.laws_specs.specs.Words.{Denoted, DenotedList}
use Rattle.laws_specs.specs.Specs.{Specs}
use Rattle.laws_specs.specs.Conditions.{ToldContent, told, Valuation, IsHeldAs, IsMetAs, is_told_apart, is_of_parts, Condition, condition, IsAssumed, IsShown, IsValid}
use Rattle.laws_specs.specs.Meets.{Atoms, IsDenotation, AreNumbers, AnswersAsSaid}
use Rattle.laws_specs.specs.ConditionLaws.{AreValid, IsCalled}
use Rattle.laws_specs.specs.WholeRuns.{Functions}
use Rattle.laws_specs.specs.ProgramLaws.{RunTrees, RunCode, AllRunsAreAsSaid}

-- two different members of a class, in either order
abbrev pub pairs_of : List ℕ → List (ℕ × ℕ)
pairs_of class = flat_map (λ a. map (λ b. (a, b)) (filter (λ b. not (a == b)) class)) class

-- the condition of a rule of a term's set, on the trees that its numbers stand for: its constraints, its classes as equalities, the
-- sites at and below those that it tests, calls impurely or gives, its impure calls in order, and its result
abbrev pub set_condition : ℕ → SiteSet → SetRule → Condition
set_condition t set r = record {
  term = t;
  constraints = map (λ c. (unfold_site set.sites c.0, c.1)) r.constraints;
  equalities = map (λ e. (unfold_site set.sites e.0, unfold_site set.sites e.1)) (flat_map pairs_of r.classes);
  made = map (unfold_site set.sites) (all_below set.sites (tested_sites r ++ return_uses (Some r)));
  impure = map (unfold_site set.sites) r.impure;
  result = unfold_site set.sites r.result;
}

-- where the condition of a rule of the set is valid, so is that of its source rule
abbrev pub SetsAskEnough : Type 0
SetsAskEnough =
    (defs : List Definition) (expand : Bool) (rules : TypedRules) (l : LoweredTerm) (specs : Specs) (place : ℕ) (q : TypedRule) (r : SetRule)
    → IsAccepted defs expand rules → IsLoweredTerm (own_program defs rules) l
    → slice_get (rules_of (own_program defs rules) l.term) place ≡ Some q → slice_get l.set.rules place ≡ Some r
    → IsValid (own_program defs rules) specs (set_condition l.term l.set r) → IsValid (own_program defs rules) specs (condition (own_program defs rules) q)

-- the condition of each rule of a set is valid
abbrev pub AreValidInSet : Program → Specs → LoweredTerm → Type 0
AreValidInSet p specs l = (place : ℕ) (r : SetRule) → slice_get l.set.rules place ≡ Some r → IsValid p specs (set_condition l.term l.set r)

-- so are those of all source rules then, and the laws on terms whose conditions are valid speak of the term
abbrev pub TermsOfValidSetsAreValid : Type 0
TermsOfValidSetsAreValid =
    (defs : List Definition) (expand : Bool) (rules : TypedRules) (l : LoweredTerm) (specs : Specs)
    → IsAccepted defs expand rules → IsLoweredTerm (own_program defs rules) l → AreValidInSet (own_program defs rules) specs l
    → AreValid (own_program defs rules) specs l.term

-- a rule of the set with greater priority
abbrev pub IsAboveInSet : SiteSet → SetRule → SetRule → Type 0
IsAboveInSet set r q = Contains set.rules q × (r.prio <ℤ q.prio)

-- no rule of the set with greater priority matches, by truths for what rules of the set ask, as IsNoneAbove has it for source rules. It
-- excludes more: where a source rule demands a number of one site, and that another site is equal, its set's rule asks it of both
pub record IsNoneAboveInSet (specs : Specs) (t : ℕ) (set : SiteSet) (r : SetRule) (args : DenotedList) (f : Valuation) : Type 0 where
  pub there : (s : SiteTerm) (h : ToldContent) → is_of_parts s ≡ true → IsHeldAs specs args f s h → f s ≡ Some h
  pub constraint : SiteTerm → Constraint → Bool
  pub equality : SiteTerm → SiteTerm → Bool
  pub own : (s : SiteTerm) (k : Constraint) → Contains (set_condition t set r).constraints (s, k) → constraint s k ≡ true
  pub own_equality : (a b : SiteTerm) → Contains (set_condition t set r).equalities (a, b) → equality a b ≡ true
  pub met : (s : SiteTerm) (k : Constraint) → constraint s k ≡ true → IsMetAs specs f s k
  pub equal : (a b : SiteTerm) → equality a b ≡ true → (x : Denoted) × (f a ≡ Some (told x)) × (f b ≡ Some (told x))
  pub decided : (q : SetRule) (s : SiteTerm) (k : Constraint) → IsAboveInSet set r q → Contains (set_condition t set q).constraints (s, k) → is_told_apart k ≡ true
      → IsMetAs specs f s k → constraint s k ≡ true
  pub none : (q : SetRule) → IsAboveInSet set r q → ((s : SiteTerm) (k : Constraint) → Contains (set_condition t set q).constraints (s, k) → constraint s k ≡ true)
      → ((a b : SiteTerm) → Contains (set_condition t set q).equalities (a, b) → equality a b ≡ true) → ⊥

-- valid where no rule of the set with greater priority matches
abbrev pub IsValidBelowInSet : Program → Specs → ℕ → SiteSet → SetRule → Type 0
IsValidBelowInSet p specs t set r =
    (args : DenotedList) (f : Valuation) → IsAssumed p specs (set_condition t set r) args f → IsNoneAboveInSet specs t set r args f → IsShown p specs (set_condition t set r) args f

abbrev pub AreValidBelowInSet : Program → Specs → LoweredTerm → Type 0
AreValidBelowInSet p specs l = (place : ℕ) (r : SetRule) → slice_get l.set.rules place ≡ Some r → IsValidBelowInSet p specs l.term l.set r

-- so a tree that lowering gives of accepted definitions computes what its term's spec says where the conditions of its set are valid,
-- alone or where no rule of the set with greater priority matches
abbrev pub LoweredSetsComputeAsSaid : Type 0
LoweredSetsComputeAsSaid =
    (defs : List Definition) (expand : Bool) (rules : TypedRules) (l : LoweredTerm) (specs : Specs) (d : Atoms) (m : Meaning) (args : List Value)
    → IsAccepted defs expand rules → IsLoweredTerm (own_program defs rules) l → is_multi (own_program defs rules) l.term ≡ false
    → AreValidInSet (own_program defs rules) specs l ⊎ (AreValidBelowInSet (own_program defs rules) specs l × AreNumbers d)
    → IsCalled (own_program defs rules) specs l.term d m args (run l.tree (world_of (own_program defs rules) l.term l.set.sites m args)).calls
    → TellsConstantsApart (own_program defs rules) m (rules_of (own_program defs rules) l.term)
    → AnswersAsSaid (own_program defs rules) specs l.term d args (run l.tree (world_of (own_program defs rules) l.term l.set.sites m args))

-- and so do whole runs of the trees that lowering gives of them, or of their code
abbrev pub AllAreValidInSets : Program → List LoweredTerm → Specs → Atoms → Type 0
AllAreValidInSets p terms specs d = (l : LoweredTerm) → Contains terms l → is_multi p l.term ≡ false → AreValidInSet p specs l ⊎ (AreValidBelowInSet p specs l × AreNumbers d)

abbrev pub ProgramsOfSetsComputeAsSaid : Type 0
ProgramsOfSetsComputeAsSaid =
    (defs : List Definition) (expand : Bool) (rules : TypedRules) (terms : List LoweredTerm) (f : Functions) (specs : Specs) (d : Atoms)
    → IsAccepted defs expand rules → AreLowered (own_program defs rules) terms → RunTrees (own_program defs rules) terms f ⊎ RunCode (own_program defs rules) terms f
    → IsDenotation (own_program defs rules) specs d → AllAreValidInSets (own_program defs rules) terms specs d → AllRunsAreAsSaid (own_program defs rules) specs d f
