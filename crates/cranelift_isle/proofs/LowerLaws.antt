-- What follows of an answer of lowering.
use Rattle.std.proofs.Common.{◌≡◌, Bool, true, false, List, [], ◌∷◌, map, refl, sym, ap, ◌∙◌, subst}
use Rattle.std.specs.Prelude.{All, Contains, slice_index_or}
use Rattle.std.proofs.lemmas.List.Elements.{All-nil, All-cons, All-contains, All-head, All-tail}
use Rattle.core_syntax.specs.ErrorViews.{error_views}
use Rattle.model.specs.lists.Syntax.{Definition, Position}
use Rattle.model.specs.lists.Elaborated.{TypedRules}
use Rattle.model.specs.lists.TypeTable.{constant_types}
use Rattle.model.specs.rules.Values.{Value}
use Rattle.model.specs.rules.Meaning.{TotalMeaning, total}
use Rattle.model.specs.rules.Program.{Program, is_multi, rules_of}
use Rattle.model.specs.trees.Collects.{HasCollectedResults}
use Rattle.model.specs.claims.Environments.{types_read, IsElaborated}
use Rattle.model.specs.claims.Layers.{own_program, LoweredTerm, IsLoweredTerm, RefusedBy, by_types, by_rules, by_check}
use Rattle.model.specs.claims.Refusals.{NamedLimit, Refusal, past_limit, IsIllTyped, NamesOnlyPassed}
use Rattle.laws_typing.proofs.WellTypedRules.{elaborated_programs_are_well_typed_lem}
use Rattle.laws_trees.proofs.OneAnswer.{typed_one}
use Rattle.laws_trees.specs.BuiltLaws.{BestTreesBindBeforeUse}
use Rattle.laws_trees.specs.FiniteAndTotal.{CollectsUnder, LoweredTermsRunByFunctions}
use Rattle.laws_trees.specs.NoLimits.{PassedInLowering, in_reading, in_building, PassNoLimit, AcceptedPassNoLimit}
use Rattle.laws_trees.specs.OneTree.{IsOnlyBest, LoweredTreesAreOnlyBest}
use Rattle.laws_trees.specs.TotalLaws.{ChoosesUnder}
use Rattle.laws_trees.specs.TreeMeanings.{BestTreesMeanTheirSets}
use Rattle.laws_trees.specs.WholeDemands.{AcceptedDemandsAreWhole, AcceptedSetsAreWhole}
use Rattle.cranelift_isle.specs.declared.lower.LoweredTerm as Code
use Rattle.cranelift_isle.specs.declared.lower.Lowered.{Lowered}
use Rattle.cranelift_isle.specs.LoweringErrors.{OfEachRefusal}
use Rattle.cranelift_isle.specs.Lowerings.{lowered_view, lowered_views, IsLowered, OfEachAnswer, OfAccepted, ChooseAsSource, SharesTests, CollectBags, BindsBeforeAnyUse, SetsAreWhole, DemandWhole}
use Rattle.cranelift_isle.specs.ShownPrograms.{shown_program, CanRunBy, OfShown, ChooseByPriority, CollectTheBags}

all_unmap : {X Y : Type 0} (P : Y → Type 0) (f : X → Y) (xs : List X) → All P (map f xs) → All (λ x. P (f x)) xs
all_unmap P f [] a = All-nil (λ x. P (f x))
all_unmap P f (x ∷ xs) a = All-cons (λ x. P (f x)) x xs (All-head P (f x) (map f xs) a) (all_unmap P f xs (All-tail P (f x) (map f xs) a))

ids_are : (ts : List Code.LoweredTerm) → map (λ t. t.id.0) ts ≡ map (λ t. t.term) (lowered_views ts)
ids_are [] = refl
ids_are (t ∷ ts) = ap (λ l. t.id.0 ∷ l) (ids_are ts)

module _ (defs : List Definition) (expand : Bool) (l : Lowered) (h : IsLowered defs expand l) where
  abbrev rules : TypedRules
  rules = h.0

  abbrev p : Program
  p = own_program defs rules

  abbrev ts : List LoweredTerm
  ts = lowered_views l.terms.items

  elaborated : IsElaborated (types_read defs) defs expand rules
  elaborated = h.1.accepted.read.elaborated

  lowered : All (IsLoweredTerm p) ts
  lowered = h.1.trees.lowered

  -- 1. with whatever typed rules the definitions are accepted, they are these
  of_own : (P : Program → Type 0) → P p → OfAccepted defs expand P
  of_own P holds other is =
      subst (λ (r : TypedRules). P (own_program defs r)) (sym (typed_one (types_read defs) defs expand other rules is.read.elaborated elaborated)) holds

  chosen_of_own : OfAccepted defs expand (ChooseAsSource ts)
  chosen_of_own = of_own (ChooseAsSource ts) (λ k d x. (lowered k d x).headline.runs)

  collected_of_own : OfAccepted defs expand (CollectBags ts)
  collected_of_own = of_own (CollectBags ts) (λ k d x. (lowered k d x).collects)

  whole_of_own : AcceptedSetsAreWhole → OfAccepted defs expand (SetsAreWhole ts)
  whole_of_own all =
      of_own (SetsAreWhole ts)
      (λ k d x. (let t = lowered k d x in all defs expand rules h.1.accepted _ _ t.built))

  -- 2. a best tree of a built set
  shared_tests : BestTreesMeanTheirSets → (t : LoweredTerm) → IsLoweredTerm p t → SharesTests t.set t.tree
  shared_tests means t is = record {
    best = is.best;
    most = is.headline.shares;
    meaning =
        means t.set t.tree (record { types = types_read defs; defs = defs; expand = expand; rules = rules; term = t.term; elaborated = elaborated; built = is.built }) is.best;
  }

  bound_first : BestTreesBindBeforeUse → (t : LoweredTerm) → IsLoweredTerm p t → BindsBeforeAnyUse t.set t.tree
  bound_first binds t is multi =
      binds p t.term t.set (elaborated_programs_are_well_typed_lem (types_read defs) defs expand rules elaborated) is.built multi t.tree is.best

  -- 3. the program of the definitions is the one that the answer shows
  shows : shown_program l (constant_types defs) ≡ p
  shows = λ i. record { types = h.1.environments.types.types i; constants = constant_types defs; terms = h.1.environments.rows.table i; rules = h.1.environments.typed i }

  of_shown : (P : Program → Type 0) → P p → OfShown l P
  of_shown P holds = (constant_types defs, h.1.environments.types.constants, subst P (sym shows) holds)

  -- what is said of a term's tree, over what the term became
  abbrev Chooses : LoweredTerm → Type 0
  Chooses t = is_multi p t.term ≡ false → (f : TotalMeaning) (args : List Value) → CanRunBy p t.term f args → ChoosesUnder p t.term t.set.sites t.tree (total f) args

  abbrev Collected : LoweredTerm → Type 0
  Collected t =
      is_multi p t.term ≡ true → All (HasCollectedResults p) (rules_of p t.term) → (f : TotalMeaning) (args : List Value) → CanRunBy p t.term f args
      → CollectsUnder p t.term t.set.sites t.tree (total f) args

  module _ (law : LoweredTermsRunByFunctions) where
    chooses : (t : LoweredTerm) → IsLoweredTerm p t → Chooses t
    chooses t is single f args can = (law defs expand rules t f args h.1.accepted is can.functions can.apart can.arguments).chooses single

    collects : (t : LoweredTerm) → IsLoweredTerm p t → Collected t
    collects t is multi results f args can = (law defs expand rules t f args h.1.accepted is can.functions can.apart can.arguments).collects multi results

    chosen_by_functions : ChooseByPriority l p
    chosen_by_functions = record {
      each = ids_are l.terms.items ∙ h.1.trees.each;
      chosen = all_unmap Chooses lowered_view l.terms.items (λ k d x. chooses (slice_index_or ts k d) (lowered k d x));
    }

    collected_by_functions : CollectTheBags l p
    collected_by_functions = all_unmap Collected lowered_view l.terms.items (λ k d x. collects (slice_index_or ts k d) (lowered k d x))

pub chosen_lem : LoweredTermsRunByFunctions → OfEachAnswer (λ defs expand l. OfShown l (ChooseByPriority l))
chosen_lem law defs expand l h = of_shown defs expand l h (ChooseByPriority l) (chosen_by_functions defs expand l h law)

pub collected_lem : LoweredTermsRunByFunctions → OfEachAnswer (λ defs expand l. OfShown l (CollectTheBags l))
collected_lem law defs expand l h = of_shown defs expand l h (CollectTheBags l) (collected_by_functions defs expand l h law)

pub chosen_as_source_lem : OfEachAnswer (λ defs expand l. OfAccepted defs expand (ChooseAsSource (lowered_views l.terms.items)))
chosen_as_source_lem = chosen_of_own

pub collected_as_source_lem : OfEachAnswer (λ defs expand l. OfAccepted defs expand (CollectBags (lowered_views l.terms.items)))
collected_as_source_lem = collected_of_own

pub shared_lem : BestTreesMeanTheirSets → OfEachAnswer (λ defs expand l. All (λ t. SharesTests t.set t.tree) (lowered_views l.terms.items))
shared_lem means defs expand l h k d x = shared_tests defs expand l h means _ (lowered defs expand l h k d x)

pub bound_lem : BestTreesBindBeforeUse → OfEachAnswer (λ defs expand l. All (λ t. BindsBeforeAnyUse t.set t.tree) (lowered_views l.terms.items))
bound_lem binds defs expand l h k d x = bound_first defs expand l h binds _ (lowered defs expand l h k d x)

pub unique_lem : LoweredTreesAreOnlyBest → OfEachAnswer (λ defs expand l. All (λ t. IsOnlyBest t.set t.tree) (lowered_views l.terms.items))
unique_lem one defs expand l h k d x = one (p defs expand l h) _ (lowered defs expand l h k d x)

pub within_limits_lem : AcceptedPassNoLimit → OfEachAnswer (λ defs expand l. PassNoLimit defs expand)
within_limits_lem law defs expand l h = law defs expand h.0 h.1.accepted

pub whole_lem : AcceptedSetsAreWhole → OfEachAnswer (λ defs expand l. OfAccepted defs expand (SetsAreWhole (lowered_views l.terms.items)))
whole_lem all defs expand l h = whole_of_own defs expand l h all

pub demands_lem : AcceptedDemandsAreWhole → OfEachAnswer (λ defs expand l. OfAccepted defs expand (DemandWhole (lowered_views l.terms.items)))
demands_lem all defs expand l h other is k d x = all defs expand other is _

-- errors of types name no limit; those of rules name one that is passed in reading, those of the check one that is passed in building
ill_typed_name_none : (errors : List Refusal) → All IsIllTyped errors → (l : NamedLimit) (at : Position) → Contains errors (past_limit l at) → ⊥
ill_typed_name_none errors forms l at is = All-contains IsIllTyped errors (past_limit l at) forms is

limits_passed : (defs : List Definition) (expand : Bool) (errors : List Refusal) → RefusedBy defs expand errors → NamesOnlyPassed (PassedInLowering defs expand) errors
limits_passed defs expand _ (by_types errors r) l at is = absurd (ill_typed_name_none errors r.forms l at is)
limits_passed defs expand _ (by_rules errors valid r) l at is = in_reading l at valid (r.limits l at is)
limits_passed defs expand _ (by_check rules reports read r) l at is = in_building l at rules read (r.limits l at is)

pub limits_lem : OfEachRefusal (λ defs expand errors. NamesOnlyPassed (PassedInLowering defs expand) (error_views errors))
limits_lem defs expand errors h = limits_passed defs expand (error_views errors) h.pass
