-- Answers near right ones are refused: by the rules that are accepted, by the limit that isn't passed, by valid terms.
use Rattle.std.proofs.Common.{◌≡◌, ◌∷◌, [], ℕ, Bool, true, false, List, Contains, refl, arith}
use Rattle.std.proofs.lemmas.Grind.{common_steps}
use Rattle.std.proofs.lemmas.Bool.{false≢true}
use Rattle.std.proofs.lemmas.List.Elements.{All-contains, All-from_recursion}
use Rattle.std.proofs.lemmas.Option.{none-some, same_Some}
use Rattle.model.proofs.Members.{in_head, in_tail}
use Rattle.model.specs.claims.Environments.{PassesNesting, TypesRead, types_read}
use Rattle.model.specs.claims.Layers.{RefusedBy, by_check, by_rules, by_types}
use Rattle.model.specs.claims.Refusals.{IsIllTyped, NamedLimit, PassedInReading, Refusal, expansions_pass, ill_typed, nesting_passes, of_nesting, past_limit}
use Rattle.model.specs.lists.KnownTypes.{types_of}
use Rattle.model.specs.lists.Syntax.{Definition, Position}
use Rattle.laws_typing.proofs.JudgedTerms.{no_terms, terms_are_judged_lem}
use Rattle.laws_typing.proofs.JudgedTypes.{types_are_judged_lem}
use Rattle.laws_examples.proofs.ListStages.{accepted_both, not_read}
use Rattle.laws_examples.proofs.Refused.{by_one_rule, some_error}
use Rattle.laws_examples.specs.Fall.{fall_defs}
use Rattle.laws_examples.specs.NearRefusals.{NoOverlapOfAcceptedRules, OnlyPassedLimitsAreNamed, TermsAreRefused, one_place_defs, one_place_rules, one_unbound}
use Rattle.laws_examples.specs.Refused.{term_twice}
use Rattle.laws_examples.specs.Stages.{IsAcceptedBoth, IsNotRead}
use Rattle.laws_examples.specs.Written.{at}

-- 1. rules at one position
one_place_accepted : IsAcceptedBoth one_place_defs one_place_rules
one_place_accepted = accepted_both one_place_defs one_place_rules refl refl refl

pub no_overlap_of_accepted_rules : NoOverlapOfAcceptedRules
no_overlap_of_accepted_rules = (
  one_place_accepted,
  λ d. (let same = d 0 1 (at 1) refl refl in omega (arith, same)),
  λ c. c.refused one_place_accepted.0.checkable,
)

-- 2. a limit that isn't passed
is_nesting : NamedLimit → Bool
is_nesting of_nesting = true
is_nesting _ = false

passed_nesting : {e : TypesRead} {defs : List Definition} {expand : Bool} {l : NamedLimit} {p : Position} → PassedInReading e defs expand l p → is_nesting l ≡ true
    → (id : ℕ) × (h : PassesNesting e defs expand id) × (h.rule.at ≡ p)
unfolding is_nesting
passed_nesting (nesting_passes id h) q = (id, h, refl)
passed_nesting (expansions_pass id h) q = absurd (false≢true q)

none_at_two : (expand : Bool) (id : ℕ) (h : PassesNesting (types_read one_unbound) one_unbound expand id) → h.rule.at ≡ at 2 → ⊥
none_at_two expand id h e = grind (arith, common_steps, same_Some, none-some)

one_unbound_not_read : IsNotRead one_unbound
one_unbound_not_read = not_read one_unbound refl refl

limit_not_named : (expand : Bool) (errors : List Refusal) → Contains errors (past_limit of_nesting (at 2)) → RefusedBy one_unbound expand errors → ⊥
unfolding is_nesting
limit_not_named expand errors c (by_types es r) = All-contains IsIllTyped es (past_limit of_nesting (at 2)) r.forms c
limit_not_named expand errors c (by_rules es v r) = (let p = passed_nesting (r.limits of_nesting (at 2) c) refl in none_at_two expand p.0 p.1 p.2)
limit_not_named expand errors c (by_check rules reports r k) = one_unbound_not_read expand rules r

pub only_passed_limits_are_named : OnlyPassedLimitsAreNamed
only_passed_limits_are_named = (
  by_one_rule one_unbound (at 1) ((types_are_judged_lem one_unbound).0 refl) one_unbound_not_read,
  λ expand. limit_not_named expand (ill_typed (at 1) ∷ past_limit of_nesting (at 2) ∷ []) (in_tail (ill_typed (at 1)) (past_limit of_nesting (at 2)) (past_limit of_nesting (at 2) ∷ []) (in_head (past_limit of_nesting (at 2)) [])),
)

-- 3. terms
pub terms_are_refused : TermsAreRefused
terms_are_refused = (
  record { some_error = some_error (ill_typed (at 1)); forms = All-from_recursion IsIllTyped (ill_typed (at 1) ∷ []) (tt, tt); not_valid = no_terms (types_of term_twice) term_twice refl },
  (λ r. r.some_error refl),
  (λ r. grind (arith, common_steps, in_tail, in_head)),
  (λ errors r. r.not_valid ((terms_are_judged_lem (types_of fall_defs) fall_defs).0 refl)),
)
