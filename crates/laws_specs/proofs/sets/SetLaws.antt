-- The laws of sets' conditions, from those of built sets.
use Rattle.std.proofs.Common.{◌≡◌, ◌⊎◌, ℕ, Bool, false, List, sym, subst, ◌∙◌, inl, inr}
use Rattle.model.specs.lists.Elaborated.{TypedRules}
use Rattle.model.specs.lists.Syntax.{Definition}
use Rattle.model.specs.rules.Values.{Value}
use Rattle.model.specs.rules.Meaning.{Meaning}
use Rattle.model.specs.rules.Outcome.{Outcome}
use Rattle.model.specs.rules.Choice.{choice}
use Rattle.model.specs.rules.Program.{is_multi, rules_of, terms_with_rules}
use Rattle.model.specs.rules.Typed.{TypedRule}
use Rattle.model.specs.claims.Layers.{own_program, IsAccepted, LoweredTerm, IsLoweredTerm}
use Rattle.model.proofs.Elements.{In, in_from_contains, contains_from_in, slice_in, some_is, in_map}
use Rattle.laws_typing.proofs.WellTypedRules.{read_programs_are_well_typed}
use Rattle.laws_sites.proofs.built.BuiltGates.{root_of_built, typed_built}
use Rattle.laws_trees.specs.WholeDemands.{AcceptedSetsAreWhole}
use Rattle.laws_trees.specs.MatchLaws.{BuiltDemandsHoldAlike}
use Rattle.laws_specs.specs.Specs.{Specs}
use Rattle.laws_specs.specs.Conditions.{condition, IsValid, IsShown}
use Rattle.laws_specs.specs.Meets.{Atoms, AreNumbers, AnswersAsSaid}
use Rattle.laws_specs.specs.ConditionLaws.{IsCalled, ChoosesAsSaid}
use Rattle.laws_specs.proofs.Valuations.{Called, sites_as, args_as}
use Rattle.laws_specs.proofs.Answers.{called, IsPicked, choice_answers}
use Rattle.laws_sites.proofs.built.WellBuiltSets.{in_from_all}
use Rattle.laws_specs.specs.SetConditions.{SetsAskEnough, AreValidInSet, TermsOfValidSetsAreValid, AreValidBelowInSet, LoweredSetsComputeAsSaid, ProgramsOfSetsComputeAsSaid}
use Rattle.laws_specs.proofs.LikeRuns.{lowered_programs_run_as_their_source_lem}
use Rattle.laws_specs.proofs.SaidRuns.{runs_are_said}
use Rattle.laws_specs.proofs.sets.AskedEnough.{asked_enough, asked_enough_below}
use Rattle.laws_specs.proofs.sets.NoneAbove.{none_above_in_set}
use Rattle.laws_specs.proofs.sets.SourceRules.{source_rule}

pub sets_ask_enough_lem : AcceptedSetsAreWhole → SetsAskEnough
sets_ask_enough_lem law defs expand rules l specs place q r accepted lowered here there valid =
    let p = own_program defs rules in
    let well = read_programs_are_well_typed accepted.read in
    let s = source_rule law defs expand rules accepted l.term l.set lowered.built place r there in
    subst (λ (k : TypedRule). IsValid p specs (condition p k)) (some_is s.typed.rule q (sym s.here ∙ here))
    (asked_enough p l.term l.set lowered.built s.typed r s.is s.asks well (typed_built p l.term s.typed well s.listed) (root_of_built p l.term s.typed s.listed) specs valid)

pub terms_of_valid_sets_are_valid_lem : AcceptedSetsAreWhole → TermsOfValidSetsAreValid
terms_of_valid_sets_are_valid_lem whole defs expand rules l specs accepted lowered valid q i =
    let p = own_program defs rules in
    let place = slice_in (rules_of p l.term) q (in_from_contains (rules_of p l.term) q i) in
    let k = (whole defs expand rules accepted l.term l.set lowered.built).each_source place.0 q place.1 in
    sets_ask_enough_lem whole defs expand rules l specs place.0 q k.rule accepted lowered place.1 k.here (valid place.0 k.rule k.here)

-- the choice among a term's source rules answers as said where the conditions of its set are valid
sets_choose : AcceptedSetsAreWhole → BuiltDemandsHoldAlike → ChoosesAsSaid → (defs : List Definition) (expand : Bool) (rules : TypedRules) (l : LoweredTerm) (specs : Specs) (d : Atoms) (m : Meaning) (args : List Value)
    → IsAccepted defs expand rules → IsLoweredTerm (own_program defs rules) l → is_multi (own_program defs rules) l.term ≡ false
    → AreValidInSet (own_program defs rules) specs l ⊎ (AreValidBelowInSet (own_program defs rules) specs l × AreNumbers d)
    → IsCalled (own_program defs rules) specs l.term d m args (choice (own_program defs rules) m (rules_of (own_program defs rules) l.term) args).calls
    → AnswersAsSaid (own_program defs rules) specs l.term d args (choice (own_program defs rules) m (rules_of (own_program defs rules) l.term) args)
sets_choose whole alike chooses defs expand rules l specs d m args accepted lowered single valid c =
    let p = own_program defs rules in
    let t = l.term in
    let well = read_programs_are_well_typed accepted.read in
    let sets = whole defs expand rules accepted t l.set lowered.built in
    let sources = source_rule whole defs expand rules accepted t l.set lowered.built in
    elim valid [
      | inl v ↦ chooses p specs t d m args well single (terms_of_valid_sets_are_valid_lem whole defs expand rules l specs accepted lowered v) c
      | inr v ↦
          let K : Called = called p specs t d m args c in
          choice_answers p specs t d m args well single c
          (λ q x.
          let place = slice_in (rules_of p t) q (in_from_contains (rules_of p t) q x.listed) in
          let k = sets.each_source place.0 q place.1 in
          let s = sources place.0 k.rule k.here in
          subst (λ (z : TypedRule). IsPicked K t z → IsShown p specs (condition p z) (args_as K) (sites_as K)) (some_is s.typed.rule q (sym s.here ∙ place.1))
          (λ y. asked_enough_below p t l.set lowered.built s.typed k.rule s.is s.asks well (typed_built p t s.typed well s.listed) (root_of_built p t s.typed s.listed) specs
          (v.0 place.0 k.rule k.here) (args_as K) (sites_as K) y.is_assumed (none_above_in_set p t l.set well alike specs d m args single c sources v.1 place.0 k.rule s y)) x)
    ]

pub lowered_sets_compute_as_said_lem : AcceptedSetsAreWhole → BuiltDemandsHoldAlike → ChoosesAsSaid → LoweredSetsComputeAsSaid
lowered_sets_compute_as_said_lem whole alike chooses defs expand rules l specs d m args accepted lowered single valid c apart =
    let p = own_program defs rules in
    let same = (lowered.headline.runs single m args c.typed c.serves apart).0 in
    subst (AnswersAsSaid p specs l.term d args) (sym same)
    (sets_choose whole alike chooses defs expand rules l specs d m args accepted lowered single valid (subst (λ (o : Outcome). IsCalled p specs l.term d m args o.calls) same c))

pub programs_of_sets_compute_as_said_lem : AcceptedSetsAreWhole → BuiltDemandsHoldAlike → ChoosesAsSaid → ProgramsOfSetsComputeAsSaid
programs_of_sets_compute_as_said_lem whole alike chooses defs expand rules terms f specs d accepted low runs denotes valid o n call before c after outside r required =
    let p = own_program defs rules in
    runs_are_said p specs d denotes
    (λ t known single m args k.
    let l = in_map (λ (x : LoweredTerm). x.term) terms t (subst (λ ts. In ts t) (sym low.each) (in_from_contains (terms_with_rules p) t known)) in
    let listed = contains_from_in terms l.0 l.1 in
    let chosen : ((u : ℕ) → is_multi p u ≡ false → IsCalled p specs u d m args (choice p m (rules_of p u) args).calls → u ≡ l.0.term → AnswersAsSaid p specs u d args (choice p m (rules_of p u) args)) =
    λ u one called same. subst (λ z. AnswersAsSaid p specs z d args (choice p m (rules_of p z) args)) (sym same)
    (sets_choose whole alike chooses defs expand rules l.0 specs d m args accepted (in_from_all (IsLoweredTerm p) terms low.lowered l.0 l.1) (subst (λ z. is_multi p z ≡ false) same one) (valid l.0 listed (subst (λ z. is_multi p z ≡ false) same one))
    (subst (λ z. IsCalled p specs z d m args (choice p m (rules_of p z) args).calls) same called)) in
    chosen t single k (sym l.2)) o n call before c after outside ((lowered_programs_run_as_their_source_lem p terms f low runs o n call before c after).0 r) required
