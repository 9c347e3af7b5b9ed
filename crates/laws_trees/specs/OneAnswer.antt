-- Lowering gives one answer.
use Rattle.std.specs.Prelude.{◌≡◌, ℕ, Bool, List, [], ◌∷◌}
use Rattle.model.specs.lists.Syntax.{Definition}
use Rattle.model.specs.lists.Elaborated.{TypedRules}
use Rattle.model.specs.rules.Program.{Program}
use Rattle.model.specs.sites.Sites.{SetRule, SiteSet}
use Rattle.model.specs.sites.RuleSets.{IsBuilt}
use Rattle.model.specs.trees.Trees.{Tree}
use Rattle.model.specs.trees.Places.{is_in, joins_in, constraint_at}
use Rattle.model.specs.trees.Best.{IsBestTree}
use Rattle.model.specs.sites.Overlap.{HasDistinctPositions}
use Rattle.model.specs.claims.Environments.{TypesRead, TypeEnvironment, TermsShown, TermEnvironment, IsRead, AreTypesOf, AreTermsOf, AreRulesOf}
use Rattle.model.specs.claims.Refusals.{Refusal}
use Rattle.laws_sites.specs.ShadowLaws.{check_errors}
use Rattle.model.specs.claims.Layers.{own_program, IsAccepted, AreBuiltSets, LoweredTerm, LoweringAnswers, RefusedBy, IsBuiltForSome, IsSerialized}

-- two lists have as many elements, and those at one place are related
abbrev pub EachTwo : {X : Type 0} → (X → X → Type 0) → List X → List X → Type 0
EachTwo R [] [] = Unit {0}
EachTwo R (x ∷ xs) (y ∷ ys) = R x y × EachTwo R xs ys
EachTwo R _ _ = ⊥

-- two rules of sets show the same: they ask the same of each site, join the same sites and go over the same calls, in
-- whatever order that is listed; all else is equal
pub record ShowSame (a b : SetRule) : Type 0 where
  pub id : a.id ≡ b.id
  pub at : a.at ≡ b.at
  pub prio : a.prio ≡ b.prio
  pub name : a.name ≡ b.name
  pub constraints : (s : ℕ) → constraint_at a.constraints s ≡ constraint_at b.constraints s
  pub classes : (s t : ℕ) → joins_in a.classes s t ≡ joins_in b.classes s t
  pub iterators : (s : ℕ) → is_in s a.iterators ≡ is_in s b.iterators
  pub impure : a.impure ≡ b.impure
  pub result : a.result ≡ b.result

-- two sets show the same: they have the same sites, and rules that show the same
pub record SetsShowSame (a b : SiteSet) : Type 0 where
  pub rules : EachTwo ShowSame a.rules b.rules
  pub sites : a.sites ≡ b.sites

-- a term became the same
pub record BecameSame (a b : LoweredTerm) : Type 0 where
  pub term : a.term ≡ b.term
  pub set : SetsShowSame a.set b.set
  pub tree : a.tree ≡ b.tree

-- a best tree looks at no more than a set shows
abbrev pub BestTreesAreOfWhatIsShown : Type 0
BestTreesAreOfWhatIsShown = (a b : SiteSet) (tree : Tree) → SetsShowSame a b → IsBestTree a tree → IsBestTree b tree

-- two sets that are built of the rules of one term show the same
abbrev pub BuiltSetsShowSame : Type 0
BuiltSetsShowSame = (p : Program) (t : ℕ) (a b : SiteSet) → IsBuilt p t a → IsBuilt p t b → SetsShowSame a b

-- and so do all sets of a program
abbrev pub SameTermsShowSame : ℕ × SiteSet → ℕ × SiteSet → Type 0
SameTermsShowSame a b = (a.0 ≡ b.0) × SetsShowSame a.1 b.1

abbrev pub BuildingGivesOne : Type 0
BuildingGivesOne = (p : Program) (sets others : List (ℕ × SiteSet)) → AreBuiltSets p sets → AreBuiltSets p others → EachTwo SameTermsShowSame sets others

-- sets that show the same are serialized to one tree
abbrev pub SerializingGivesOne : Type 0
SerializingGivesOne = (a b : SiteSet) (x y : Tree) → IsBuiltForSome a → SetsShowSame a b → IsSerialized a x → IsSerialized b y → x ≡ y

-- reading types, terms and rules gives one answer: environments, and typed rules
pub record ReadingGivesOne : Type 0 where
  pub types : (defs : List Definition) (a b : TypeEnvironment) → AreTypesOf defs a → AreTypesOf defs b → a ≡ b
  pub terms : (e : TypesRead) (defs : List Definition) (s u : TermsShown) (a b : TypeEnvironment) → AreTermsOf e defs s a → AreTermsOf e defs u b → (s ≡ u) × (a ≡ b)
  pub rules : (e : TypesRead) (defs : List Definition) (expand : Bool) (l k : TypedRules) (s u : TermEnvironment) (a b : TypeEnvironment)
      → AreRulesOf e defs expand l s a → AreRulesOf e defs expand k u b → (l ≡ k) × (s ≡ u) × (a ≡ b)

-- what lowering gives, twice: the same environments and typed rules, and each term became the same
pub record IsOneAnswer (types types' : TypeEnvironment) (terms terms' : TermEnvironment) (rules rules' : TypedRules) (lowered lowered' : List LoweredTerm) : Type 0 where
  pub environment : types ≡ types'
  pub term_environment : terms ≡ terms'
  pub typed : rules ≡ rules'
  pub became : EachTwo BecameSame lowered lowered'

abbrev pub LoweringGivesOne : Type 0
LoweringGivesOne =
    (defs : List Definition) (expand : Bool)
    (types types' : TypeEnvironment) (terms terms' : TermEnvironment) (rules rules' : TypedRules) (lowered lowered' : List LoweredTerm)
    → LoweringAnswers defs expand types terms rules lowered → LoweringAnswers defs expand types' terms' rules' lowered'
    → IsOneAnswer types types' terms terms' rules rules' lowered lowered'

-- no definitions are both accepted and refused
abbrev pub NoneIsAcceptedAndRefused : Type 0
NoneIsAcceptedAndRefused = (defs : List Definition) (expand : Bool) (rules : TypedRules) (errors : List Refusal) → IsAccepted defs expand rules → RefusedBy defs expand errors → ⊥

-- where definitions are read, these are exactly the errors of their check, in order
abbrev pub AreCheckErrors : List Definition → Bool → List Refusal → Type 0
AreCheckErrors defs expand errors = (rules : TypedRules) → IsRead defs expand rules → errors ≡ check_errors (own_program defs rules)

-- so definitions that are read are refused with one list of errors. Why they are refused says as much by itself where no two
-- rules stand at one position
pub record RefusingGivesOne : Type 0 where
  pub one : (defs : List Definition) (expand : Bool) (rules : TypedRules) (errors others : List Refusal)
      → IsRead defs expand rules → AreCheckErrors defs expand errors → AreCheckErrors defs expand others → errors ≡ others
  pub apart : (defs : List Definition) (expand : Bool) (rules : TypedRules) (errors : List Refusal)
      → IsRead defs expand rules → HasDistinctPositions (own_program defs rules) → RefusedBy defs expand errors → AreCheckErrors defs expand errors
