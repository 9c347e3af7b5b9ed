-- What the layers answer of typed rules, rule sets and trees: building, checking, serializing, and the whole way.
use Rattle.std.specs.Prelude.{◌≡◌, ◌≢◌, ℕ, Bool, true, false, not, ◌&&◌, ◌||◌, List, [], ◌∷◌, ◌++◌, map, slice_get, All, IsTrue, if◌then◌else◌}
use Rattle.std.specs.List.{list_all}
use Rattle.model.specs.lists.Syntax.{Definition}
use Rattle.model.specs.rules.Program.{Program, is_multi, rules_of, terms_with_rules}
use Rattle.model.specs.sites.Sites.{Site, SiteSet, sources_at}
use Rattle.model.specs.trees.Trees.{Tree, Marked, m_no_step, m_step, MarkedCheck, m_match, m_equal, m_loop, m_return, MarkedArms, m_no_arm, m_arm}
use Rattle.model.specs.trees.Run.{World, run}
use Rattle.model.specs.trees.Places.{nothing_around, is_in, is_in_place, uses, field_sites}
use Rattle.model.specs.trees.Sound.{is_return, ReturnsEach}
use Rattle.model.specs.trees.Best.{are_distinct, HasNoLoop, IsBestTree, SharesMost}
use Rattle.model.specs.trees.WellBuilt.{HasOnePriority}
use Rattle.model.specs.claims.Headline.{RunsAsChosen}
use Rattle.model.specs.trees.Collects.{Collects, CollectsTheBag, IsCollectedSet, ServesSet, set_bag}
use Rattle.model.specs.trees.SetRuns.{IsTestedSet, ServesTests, ChoosesFrom, HasNoWrongOverlap, HoldsOnce}
use Rattle.model.specs.sites.Overlap.{built_rules, OverlapsWrongly, IsShadowed, HasDistinctPositions, RuleReport, limit_passed, not_reached, rules_overlap, rule_shadows, build_reports, overlap_and_shadow_reports}
use Rattle.model.specs.lists.TypeTable.{IsValidTypes}
use Rattle.model.specs.lists.Elaborated.{TypedRules}
use Rattle.model.specs.claims.Environments.{types_read, TypesRead, IsElaborated, IsRead, program_of, TypeEnvironment, TermEnvironment, AreRulesOf}
use Rattle.model.specs.claims.Refusals.{Refusal, refusal_of, NamesOnlyPassed, PassedInBuilding, RefusesTypes, RefusesRules}
use Rattle.model.specs.sites.RuleSets.{IsBuilt}
use Rattle.model.specs.claims.SetMeanings.{CanBeServed, DemandsAreWhole, HasNumbersInRange, MeansItsRules, TellsRulesApart}

-- each term with rules, ascending, also where every rule is left out, with its built set: its rules ask for all that
-- follows from what theirs demand, and for nothing else; what those who use it rest on holds of it, its integer literals lie
-- in the ranges of their types, it means what its typed rules do, and overlaps and shadows tell its rules apart
pub record AreBuiltSets (p : Program) (sets : List (ℕ × SiteSet)) : Type 0 where
  pub terms : map (λ s. s.0) sets ≡ terms_with_rules p
  pub built : All (λ s. IsBuilt p s.0 s.1) sets
  pub whole : All (λ s. DemandsAreWhole p s.0) sets
  pub served : All (λ s. CanBeServed p s.0 s.1) sets
  pub numbers : All (λ s. HasNumbersInRange p s.1) sets
  pub meaning : All (λ s. MeansItsRules p s.0 s.1) sets
  pub apart : All (λ s. TellsRulesApart p s.0) sets

-- what building gives: the built sets, and what there is to report of the rules left out, in rule order
pub record BuildAnswers (p : Program) (sets : List (ℕ × SiteSet)) (reports : List RuleReport) : Type 0 where
  pub given : AreBuiltSets p sets
  pub reported : reports ≡ build_reports p
  pub limits : NamesOnlyPassed (PassedInBuilding p) (map refusal_of reports)

-- the rules of a program can be told apart: each one is reachable and passes no limit, no two of a term that isn't multi
-- overlap wrongly, and none is shadowed
pub record IsCheckable (p : Program) : Type 0 where
  pub built : (t : ℕ) → map (λ b. b.rule) (built_rules p t) ≡ rules_of p t
  pub overlaps : (t i j : ℕ) → OverlapsWrongly p t i j → ⊥
  pub shadows : (t i : ℕ) → IsShadowed p t i → ⊥

-- what checking gives where they can: what building gives
pub record CheckAnswers (p : Program) (sets : List (ℕ × SiteSet)) : Type 0 where
  pub checkable : IsCheckable p
  pub given : AreBuiltSets p sets

-- a report of a rule that is left out
abbrev pub is_left_out : RuleReport → Bool
is_left_out (limit_passed limit at) = true
is_left_out (not_reached why at) = true
is_left_out (rules_overlap report) = false
is_left_out (rule_shadows report) = false

-- what is reported where they can't, and it is something: what building reports, then overlaps and shadows, which are
-- fixed if no two rules stand at one position
pub record CheckReports (p : Program) (reports : List RuleReport) : Type 0 where
  pub refused : IsCheckable p → ⊥
  pub later : List RuleReport
  pub all : reports ≡ build_reports p ++ later
  pub others : All (λ r. is_left_out r ≡ false) later
  pub some_report : reports ≢ []
  pub fixed : HasDistinctPositions p → later ≡ overlap_and_shadow_reports p
  pub limits : NamesOnlyPassed (PassedInBuilding p) (map refusal_of reports)

-- the run of a tree means what its set does. In a term that isn't multi, where the rules go over no calls, it takes a rule
-- of greatest priority among those whose demands hold, the only one of that priority where no two rules of the set overlap
-- wrongly; in a multi term whose rules have one priority, make no impure call and demand the gates below their sites, it
-- collects the bag of their results. Where the rules go over no calls, the tree has no loop
pub record MeansItsSet (set : SiteSet) (tree : Tree) : Type 0 where
  pub chooses : IsTestedSet set → (w : World) → ServesTests set w → w.multi ≡ false → ChoosesFrom set w (run tree w)
  pub once : HasNoWrongOverlap set.rules → (w : World) → ServesTests set w → w.multi ≡ false → HoldsOnce set.rules w
  pub collects : HasOnePriority set.rules → IsCollectedSet set → (w : World) → ServesSet set w → w.multi ≡ true → Collects (run tree w) (set_bag set w)
  pub straight : All (λ r. r.iterators ≡ []) set.rules → HasNoLoop tree

-- a set is built for some list of definitions that is read with some types: what serializing asks of it. It needn't be free
-- of wrong overlaps, and a set without rules is one too
pub record IsBuiltForSome (set : SiteSet) : Type 0 where
  pub types : TypesRead
  pub defs : List Definition
  pub expand : Bool
  pub rules : TypedRules
  pub term : ℕ
  pub elaborated : IsElaborated types defs expand rules
  pub built : IsBuilt (program_of types defs rules.rules) term set

-- what serializing a built set gives: a best tree, which means what its set does
pub record IsSerialized (set : SiteSet) (tree : Tree) : Type 0 where
  pub best : IsBestTree set tree
  pub meaning : MeansItsSet set tree

-- the calls that a step goes over: they may be bound again in its body, and after it
abbrev pub gone_over : SiteSet → MarkedCheck → List ℕ
gone_over set (m_loop result body) = sources_at set.sites result
gone_over set _ = []

-- a site can be used: it was bound, or it is written in place and what it is a part of was bound
abbrev pub can_be_used : List Site → List ℕ → ℕ → Bool
can_be_used sites scope s = is_in s scope || (is_in_place (slice_get sites s) && list_all (λ a. is_in a scope) (sources_at sites s))

-- sites that are brought now: none was bound before
abbrev pub brings_new : List ℕ → List ℕ → Bool
brings_new scope ss = are_distinct ss && list_all (λ s. not (is_in s scope)) ss

-- sites that are bound now, each after what it is made of: none stands twice, nor was bound before, but for the sources of
-- loops
abbrev pub binds_once : List Site → List ℕ → List ℕ → List ℕ → Bool
binds_once sites again scope [] = true
binds_once sites again scope (s ∷ rest) =
    (not (is_in s scope) || is_in s again) && list_all (can_be_used sites scope) (sources_at sites s) && binds_once sites again (s ∷ scope) rest

-- whether, in each step that a run reaches, each site that is used was bound before it in scope or is written in place,
-- and no site but the source of a loop is bound twice in one scope. A return uses the impure calls of its rule beside the
-- result. A step is reached where no return stands before it in its block, nor before a step around it in that one's
-- block; in a multi term every step is
abbrev mutual
  pub binds_before_use : SiteSet → Bool → List ℕ → List ℕ → Marked → Bool
  binds_before_use set multi again scope m_no_step = true
  binds_before_use set multi again scope (m_step binds check rest) =
      binds_once set.sites again scope binds && list_all (can_be_used set.sites (binds ++ scope)) (uses set check)
      && binds_in_check set multi again (binds ++ scope) check
      && (if is_return check && not multi then true else binds_before_use set multi (gone_over set check ++ again) (binds ++ scope) rest)

  pub binds_in_check : SiteSet → Bool → List ℕ → List ℕ → MarkedCheck → Bool
  binds_in_check set multi again scope (m_match source arms) = binds_in_arms set multi again scope arms
  binds_in_check set multi again scope (m_equal a b body) = binds_before_use set multi again scope body
  binds_in_check set multi again scope (m_loop result body) =
      brings_new scope (result ∷ []) && binds_before_use set multi (sources_at set.sites result ++ again) (result ∷ scope) body
  binds_in_check set multi again scope (m_return rule) = true

  pub binds_in_arms : SiteSet → Bool → List ℕ → List ℕ → MarkedArms → Bool
  binds_in_arms set multi again scope m_no_arm = true
  binds_in_arms set multi again scope (m_arm constraint fields body rest) =
      brings_new scope (field_sites fields) && binds_before_use set multi again (field_sites fields ++ scope) body
      && binds_in_arms set multi again scope rest

-- a tree whose returns are those of the set's rules binds what each step uses, and of a return what its rule does
pub record BindsBeforeUse (set : SiteSet) (multi : Bool) (tree : Tree) : Type 0 where
  pub marked : Marked
  pub returns : ReturnsEach set tree marked
  pub bound : IsTrue (binds_before_use set multi [] [] marked)

-- the program of a list of definitions, by its own types
abbrev pub own_program : List Definition → TypedRules → Program
own_program defs rules = program_of (types_read defs) defs rules.rules

-- accepted definitions: they have types, terms and typed rules, and their rules can be told apart
pub record IsAccepted (defs : List Definition) (expand : Bool) (rules : TypedRules) : Type 0 where
  pub read : IsRead defs expand rules
  pub checkable : IsCheckable (own_program defs rules)

-- a term with rules: its built set and its tree
pub record LoweredTerm : Type 0 where
  pub term : ℕ
  pub set : SiteSet
  pub tree : Tree

-- nowhere would an open test cover more rules than the test made
pub record TestsAreShared (set : SiteSet) (tree : Tree) : Type 0 where
  pub marked : Marked
  pub returns : ReturnsEach set tree marked
  pub most : SharesMost set nothing_around false marked

-- the headline. In a term that isn't multi, on all well-typed arguments and under every meaning of the called terms that
-- tells constants apart, the tree's run gives the result or failure and the impure calls of the one matching source rule
-- of highest priority, or neither where none matches; and nowhere would an open test cover more rules than the test made
pub record ChoosesAndShares (p : Program) (l : LoweredTerm) : Type 0 where
  pub runs : RunsAsChosen p l.term l.set.sites l.tree
  pub shares : TestsAreShared l.set l.tree

-- the tree of a term: of its built set, a best tree, with the headline; sites are bound before they are used; in a multi
-- term whose rules make no impure call and need each multi call of an if-let, the run collects the bag of their results; in
-- a term that isn't multi the tree has no loop
pub record IsLoweredTerm (p : Program) (l : LoweredTerm) : Type 0 where
  pub built : IsBuilt p l.term l.set
  pub best : IsBestTree l.set l.tree
  pub headline : ChoosesAndShares p l
  pub collects : CollectsTheBag p l.term l.set.sites l.tree
  pub binds : BindsBeforeUse l.set (is_multi p l.term) l.tree
  pub straight : is_multi p l.term ≡ false → HasNoLoop l.tree

-- the trees of a program: each term with rules once, ascending
pub record AreLowered (p : Program) (terms : List LoweredTerm) : Type 0 where
  pub each : map (λ l. l.term) terms ≡ terms_with_rules p
  pub lowered : All (IsLoweredTerm p) terms

-- what lowering gives: the environments and the trees of accepted definitions
pub record LoweringAnswers (defs : List Definition) (expand : Bool) (types : TypeEnvironment) (terms : TermEnvironment) (rules : TypedRules) (lowered : List LoweredTerm) : Type 0 where
  pub accepted : IsAccepted defs expand rules
  pub environments : AreRulesOf (types_read defs) defs expand rules terms types
  pub trees : AreLowered (own_program defs rules) lowered

-- why lowering is refused, by the first layer that refuses, with its errors
pub data RefusedBy (defs : List Definition) (expand : Bool) : List Refusal → Type 0 where
  by_types : (errors : List Refusal) → RefusesTypes defs errors → RefusedBy defs expand errors
  by_rules : (errors : List Refusal) → IsValidTypes defs → RefusesRules (types_read defs) defs expand errors → RefusedBy defs expand errors
  by_check : (rules : TypedRules) (reports : List RuleReport) → IsRead defs expand rules → CheckReports (own_program defs rules) reports
      → RefusedBy defs expand (map refusal_of reports)

-- what theory has to show of them: the best trees of built sets of accepted definitions keep the headline, whatever body
-- of code made them
abbrev pub BestTreesKeepTheHeadline : Type 0
BestTreesKeepTheHeadline =
    (defs : List Definition) (expand : Bool) (rules : TypedRules) (l : LoweredTerm)
    → IsAccepted defs expand rules → IsBuilt (own_program defs rules) l.term l.set → IsBestTree l.set l.tree
    → IsLoweredTerm (own_program defs rules) l
