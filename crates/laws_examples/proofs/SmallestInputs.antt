-- The smallest inputs behind choices of statements do what is said of them.
use Rattle.std.proofs.Common.{◌≡◌, ℕ, zero, suc, true, false, List, [], ◌∷◌, is_some, slice_get, Contains, All, IsTrue, refl, sym, ap, ◌∙◌, subst, arith, Bool, codes}
use Rattle.std.proofs.lemmas.Grind.{common_steps}
use Rattle.std.proofs.lemmas.Bool.{false≢true}
use Rattle.std.proofs.lemmas.Option.{none-some, same_Some}
use Rattle.std.proofs.lemmas.List.Elements.{All-nil, All-cons, All-contains}
use Rattle.model.specs.sites.Sites.{Constraint, SetRule, make_variant_site}
use Rattle.model.specs.trees.Collects.{IsPureAt, content_at}
use Rattle.model.specs.trees.Places.{all_below, joins_in, waits}
use Rattle.model.specs.trees.SetRuns.{ServesTests, HasNoWrongOverlap, OverlapInSet}
use Rattle.model.proofs.Members.{nothing_in, in_alone, in_cases, in_head, in_tail}
use Rattle.model.specs.visits.Demands.{constraint_eq}
use Rattle.model.specs.lists.TypeTable.{IsValidTypes}
use Rattle.model.specs.claims.Environments.{environment_of, types_read}
use Rattle.model.specs.lists.KnownTypes.{types_of}
use Rattle.model.proofs.NumbersOf.{environments_are_read}
use Rattle.laws_typing.specs.QuestionLaws.{IsVariantsTerm}
use Rattle.laws_typing.proofs.EnvironmentsShown.{well_formed_environments_are_read_lem}
use Rattle.laws_typing.proofs.VariantTerms.{variants_have_terms_lem}
use Rattle.laws_examples.proofs.SampleStages.{effects_stages}
use Rattle.laws_examples.specs.Effects.{effects_defs}
use Rattle.model.specs.claims.Refusals.{Refusal, IsIllTyped}
use Rattle.model.specs.claims.Layers.{RefusedBy, by_types, by_rules, by_check, IsAccepted}
use Rattle.laws_sites.proofs.overlaps.JudgedLists.{lists_are_accepted_lem}
use Rattle.laws_typing.proofs.JudgedTerms.{terms_are_judged_lem}
use Rattle.laws_examples.specs.MeaningForms.{v}
use Rattle.laws_examples.specs.SetForms.{is_byte}
use Rattle.laws_examples.specs.TypedForms.{own}
use Rattle.laws_examples.specs.SmallestInputs.{wrapped_call, wrapped_two, wrapped_sites, wrapped_set, wrapped_world, AboveCallsNothingIsAsked, at_one, at_any, at_two, OverlapsMayHoldTwice, NamelessIsNotAnswered, LookUpsHaveNoList, LimitsAreNamedWherePassed, two_unbound, SecondIsReadAlone, EmptySetsAreBuilt, EnvironmentsOfLists, VariantHasItsTerm}
use Rattle.laws_examples.specs.Fall.{fall_defs, fall_rules}
use Rattle.laws_examples.specs.Refused.{two_of_one_name}

-- 1. above an impure call
-- the one constraint of the rules
wrapped_asked : (r : SetRule) → Contains wrapped_set.rules r → (s : ℕ) (d : Constraint) → Contains r.constraints (s, d) → (s ≡ 0) × (d ≡ is_byte 1)
wrapped_asked r k s d c = grind (arith, common_steps, in_cases, in_alone, nothing_in)

wrapped_classes : (r : SetRule) → Contains wrapped_set.rules r → r.classes ≡ []
wrapped_classes r k = grind (arith, common_steps, in_cases wrapped_call r (wrapped_two ∷ []) k, in_alone wrapped_two r, in_cases, in_alone)

-- the impure call stands at and below itself, and below what is made of it
not_pure : (s : ℕ) → Contains (all_below wrapped_sites (s ∷ [])) 2 → All (IsPureAt wrapped_sites) (all_below wrapped_sites (s ∷ [])) → ⊥
not_pure s c all = grind (arith, common_steps, All-contains, same_Some)

wrapped_found : (s : ℕ) → All (IsPureAt wrapped_sites) (all_below wrapped_sites (s ∷ [])) → waits (slice_get wrapped_sites s) ≡ false → IsTrue (is_some (content_at wrapped_world [] s))
wrapped_found (suc (suc (suc zero))) p n = absurd (not_pure 3 (in_tail 3 2 (2 ∷ (1 ∷ [])) (in_head 2 (1 ∷ []))) p)
wrapped_found (suc (suc (suc (suc (suc (suc s)))))) p n = absurd (false≢true (sym n))
wrapped_found s p n = refl

wrapped_served : ServesTests wrapped_set wrapped_world
wrapped_served = record {
  sites = refl;
  found = λ s p n all. wrapped_found s p n;
  values = λ r a b x k j e. absurd (false≢true (sym (ap (λ l. joins_in l a b) (wrapped_classes r k)) ∙ j));
  fields = grind (arith, common_steps, wrapped_asked, same_Some, none-some);
  apart = λ r q s d f k l m n h g. (wrapped_asked r k s d m).1 ∙ sym (wrapped_asked q l s f n).1;
}

pub above_calls_nothing_is_asked_lem : AboveCallsNothingIsAsked
above_calls_nothing_is_asked_lem = (
  (make_variant_site own 0 (2 ∷ []), refl, tt),
  refl,
  All-cons (λ a. IsTrue (is_some (content_at wrapped_world [] a))) 2 [] refl (All-nil (λ a. IsTrue (is_some (content_at wrapped_world [] a)))),
  refl,
  wrapped_served,
)

-- 7. wrong overlaps
apart_one_two : OverlapInSet at_one at_two → ⊥
apart_one_two o = false≢true (ap (constraint_eq (is_byte 2)) (o 0 (is_byte 1) (is_byte 2) (in_head (0, is_byte 1) []) (in_head (0, is_byte 2) [])))

apart_two_one : OverlapInSet at_two at_one → ⊥
apart_two_one o = false≢true (ap (constraint_eq (is_byte 1)) (o 0 (is_byte 2) (is_byte 1) (in_head (0, is_byte 2) []) (in_head (0, is_byte 1) [])))

apart_here : HasNoWrongOverlap (at_one ∷ at_two ∷ [])
apart_here zero (suc zero) r q a b same o = absurd (apart_one_two (subst (λ x. OverlapInSet x at_two) (sym (same_Some at_one r a)) (subst (OverlapInSet r) (sym (same_Some at_two q b)) o)))
apart_here (suc zero) zero r q a b same o = absurd (apart_two_one (subst (λ x. OverlapInSet x at_one) (sym (same_Some at_two r a)) (subst (OverlapInSet r) (sym (same_Some at_one q b)) o)))
apart_here (suc (suc i)) j r q a b same o = absurd (none-some r a)
apart_here zero (suc (suc j)) r q a b same o = absurd (none-some q b)
apart_here (suc zero) (suc (suc j)) r q a b same o = absurd (none-some q b)
apart_here h j r q a b same o = refl

pub overlaps_may_hold_twice_lem : OverlapsMayHoldTwice
overlaps_may_hold_twice_lem = (
  (λ none. omega (arith, none 0 1 at_one at_any refl refl refl (λ s c d k l. absurd (nothing_in (s, d) l)))),
  (λ once. omega (arith, once 0 1 at_one at_any refl refl refl refl refl)),
  apart_here,
)

-- 4. names
is_nothing : List (List ℕ) → Bool
is_nothing [] = true
is_nothing (x ∷ xs) = false

pub nameless_is_not_answered_lem : NamelessIsNotAnswered
unfolding is_nothing
nameless_is_not_answered_lem types terms lowered none h = false≢true (sym (ap is_nothing (sym none ∙ h.environments.types.names)))

-- 5. look-ups
pub look_ups_have_no_list_lem : LookUpsHaveNoList
look_ups_have_no_list_lem k = grind (arith, common_steps)

-- 6. refusals
not_valid : IsValidTypes two_of_one_name → ⊥
not_valid v = (let e = v.distinct 13 14 (codes "T") refl refl in omega (arith, e))

only_ill_typed : (expand : Bool) (errors : List Refusal) → RefusedBy two_of_one_name expand errors → All IsIllTyped errors
only_ill_typed expand errors (by_types es r) = r.forms
only_ill_typed expand errors (by_rules es v r) = absurd (not_valid v)
only_ill_typed expand errors (by_check rules reports r c) = absurd (not_valid r.types)

fall_is_accepted : IsAccepted fall_defs true fall_rules
fall_is_accepted = (lists_are_accepted_lem fall_defs true fall_rules).0 refl

pub limits_are_named_where_passed_lem : LimitsAreNamedWherePassed
limits_are_named_where_passed_lem = grind (arith, common_steps, All-contains, only_ill_typed, in_head)

-- 8. limits of reading
pub second_is_read_alone_lem : SecondIsReadAlone
second_is_read_alone_lem =
    let terms = (terms_are_judged_lem (types_read two_unbound).known two_unbound).0 refl in
    (record { terms = terms; rule = _; here = refl; none = refl }, record { terms = terms; rule = _; here = refl; none = refl })

-- 10. a set without rules
pub empty_sets_are_built_lem : EmptySetsAreBuilt
empty_sets_are_built_lem = record {
  types = types_read fall_defs;
  defs = fall_defs;
  expand = true;
  rules = fall_rules;
  term = 1;
  elaborated = fall_is_accepted.read.elaborated;
  built = grind (arith, common_steps, nothing_in);
}

-- environments
pub environments_of_lists : EnvironmentsOfLists
environments_of_lists =
    let r = fall_is_accepted.read.elaborated.readable in (
      (well_formed_environments_are_read_lem (environment_of (types_read fall_defs))).1 (types_read fall_defs, r, environments_are_read (types_read fall_defs) r.well_formed.names_distinct),
      λ h. let n = h.one_number 0 (omega arith) in let z : 0 ≡ 1 = n.only 0 refl ∙ sym (n.only 1 refl) in omega (arith, z),
    )

-- the variant's term, whose id is found
pub variant_has_its_term : VariantHasItsTerm
variant_has_its_term =
    let read = effects_stages.accepted.0.read in
    let v = variants_have_terms_lem (types_read effects_defs) effects_defs read.elaborated.readable read.elaborated.terms 13 0 _ refl in
    subst (IsVariantsTerm (types_of effects_defs) effects_defs 13 0) (same_Some v.0 3 (sym v.1)) v.2
