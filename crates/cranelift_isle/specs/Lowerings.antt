-- What lowering a list of definitions gives.
use Rattle.std.specs.Prelude.{◌≡◌, ℕ, Bool, List, map, All}
use Rattle.model.specs.lists.Syntax.{Definition}
use Rattle.model.specs.lists.Elaborated.{TypedRules}
use Rattle.model.specs.rules.Program.{Program}
use Rattle.model.specs.sites.Sites.{SiteSet}
use Rattle.model.specs.trees.Trees.{Tree}
use Rattle.model.specs.trees.Best.{IsBestTree}
use Rattle.model.specs.trees.Collects.{CollectsTheBag}
use Rattle.model.specs.claims.Headline.{RunsAsChosen}
use Rattle.model.specs.claims.Layers.{own_program, IsAccepted, LoweredTerm, LoweringAnswers, TestsAreShared, MeansItsSet, BindsBeforeUse}
use Rattle.model.specs.claims.SetMeanings.{DemandsAreWhole}
use Rattle.laws_trees.specs.OneAnswer.{EachTwo, BecameSame}
use Rattle.laws_trees.specs.WholeDemands.{IsWhole}
use Rattle.core_types.specs.EnvViews.{environment_view}
use Rattle.core_rules.specs.ShownEnvs.{environment_shown_by}
use Rattle.core_rule_sets.specs.SiteViews.{set_view}
use Rattle.core_serialize.specs.TreeViews.{tree_view}
use Rattle.cranelift_isle.specs.declared.lower.LoweredTerm as Code
use Rattle.cranelift_isle.specs.declared.lower.Lowered.{Lowered}

-- what each term became: its built set and its tree
abbrev pub lowered_view : Code.LoweredTerm → LoweredTerm
lowered_view t = record { term = t.id.0; set = set_view t.rules; tree = tree_view t.block }

abbrev pub lowered_views : List Code.LoweredTerm → List LoweredTerm
lowered_views ts = map lowered_view ts

-- a term with its set, without its tree
abbrev pub set_of_term : LoweredTerm → ℕ × SiteSet
set_of_term t = (t.term, t.set)

-- definitions are accepted: their types and terms are valid, each rule has a typed rule, and the rules can be told apart
abbrev pub AreAccepted : List Definition → Bool → Type 0
AreAccepted defs expand = (rules : TypedRules) × IsAccepted defs expand rules

-- what they become: their environments, and each term with rules once, ascending, with its built set and the tree that keeps
-- the headline
abbrev pub IsLowered : List Definition → Bool → Lowered → Type 0
IsLowered defs expand l =
    (rules : TypedRules) × LoweringAnswers defs expand (environment_view l.tyenv) (environment_shown_by l.termenv) rules (lowered_views l.terms.items)

-- what holds of each answer that meets what lowering promises of an answer
abbrev pub OfEachAnswer : (List Definition → Bool → Lowered → Type 0) → Type 0
OfEachAnswer P = (defs : List Definition) (expand : Bool) (l : Lowered) → IsLowered defs expand l → P defs expand l

-- two answers are one: they show equal environments, and each term has the same sites, rules that show the same and the
-- same tree
pub record AreOneAnswer (a b : Lowered) : Type 0 where
  pub types : environment_view a.tyenv ≡ environment_view b.tyenv
  pub terms : environment_shown_by a.termenv ≡ environment_shown_by b.termenv
  pub became : EachTwo BecameSame (lowered_views a.terms.items) (lowered_views b.terms.items)

-- all that definitions become is one answer
abbrev pub LoweringIsAFunction : Type 0
LoweringIsAFunction = (defs : List Definition) (expand : Bool) (a b : Lowered) → IsLowered defs expand a → IsLowered defs expand b → AreOneAnswer a b

-- a fact of the program of accepted definitions
abbrev pub OfAccepted : List Definition → Bool → (Program → Type 0) → Type 0
OfAccepted defs expand P = (rules : TypedRules) → IsAccepted defs expand rules → P (own_program defs rules)

-- the tree of each term runs as a test of every source rule by priority would: it has the outcome of the matching rule of
-- greatest priority, or no rule and no impure calls
abbrev pub ChooseAsSource : List LoweredTerm → Program → Type 0
ChooseAsSource ts p = All (λ t. RunsAsChosen p t.term t.set.sites t.tree) ts

-- the tree of each multi term collects the bag of the rules' results
abbrev pub CollectBags : List LoweredTerm → Program → Type 0
CollectBags ts p = All (λ t. CollectsTheBag p t.term t.set.sites t.tree) ts

-- a tree shares tests: it is a best tree of its set, at each place the greatest test for exactly the rules that it covers;
-- so nowhere would an open test cover more rules than the test made; and it means what its set does
pub record SharesTests (set : SiteSet) (tree : Tree) : Type 0 where
  pub best : IsBestTree set tree
  pub most : TestsAreShared set tree
  pub meaning : MeansItsSet set tree

-- it binds each site before it is used, in each step that a run reaches, and, read as a multi term's, in every step
abbrev pub BindsBeforeAnyUse : SiteSet → Tree → Type 0
BindsBeforeAnyUse set tree = (multi : Bool) → BindsBeforeUse set multi tree

-- the rules of each term's set ask, at the set's sites, all that follows from what the source rules demand, and nothing else
abbrev pub SetsAreWhole : List LoweredTerm → Program → Type 0
SetsAreWhole ts p = All (λ t. IsWhole p t.term t.set) ts

-- the closed demands of the rules of each term are all that follows from what the rules ask
abbrev pub DemandWhole : List LoweredTerm → Program → Type 0
DemandWhole ts p = All (λ t. DemandsAreWhole p t.term) ts
