-- A rule that gives the answers of a multi call is right where the call's spec says so of each, and the premises hold of an example.
use Rattle.std.proofs.Common.{◌≡◌, ◌==◌, ℕ, true, false, List, [], ◌∷◌, Some, None, refl, ap, subst, ◌∙◌, inl, inr, arith}
use Rattle.std.proofs.lemmas.Grind.{common_steps}
use Rattle.std.proofs.lemmas.Bool.{and_parts, false≢true, eqb-true}
use Rattle.std.proofs.lemmas.List.Elements.{All-nil}
use Rattle.std.proofs.Math.Nat.{suc-ne-zero}
use Rattle.model.specs.rules.Values.{Values, no_value, value_and, of_list}
use Rattle.model.specs.rules.Meaning.{Content, many, pure_answer}
use Rattle.model.specs.rules.Outcome.{then_option}
use Rattle.model.specs.rules.Program.{is_partial, rules_of}
use Rattle.model.specs.sites.Serves.{Serves}
use Rattle.model.specs.sites.Sites.{SiteTerm, argument, constructor_call, pick_of, SiteTerms, no_site_term, site_term_and}
use Rattle.model.specs.visits.Demands.{demands_of}
use Rattle.model.proofs.Elements.{In, in_from_contains, contains_from_in, some_is, none_some}
use Rattle.model.proofs.Members.{in_alone}
use Rattle.model.proofs.Options.{then_some}
use Rattle.model.proofs.ValuesEqual.{eq_all_means}
use Rattle.laws_specs.specs.Words.{Denoted, no_denoted, denoted_and}
use Rattle.laws_specs.specs.Specs.{IsSaid, IsProvided, no_unknown}
use Rattle.laws_specs.specs.Conditions.{ToldContent, told, told_many, result_as, Valuation, denoted_at, denoted_at_each, condition, IsAssumed, IsValid}
use Rattle.laws_specs.specs.Meets.{stand_for, IsDenotation, MeetsSpecs}
use Rattle.laws_specs.specs.Samples.{byte, x, rule_of, doubled}
use Rattle.laws_specs.specs.SampleCalls.{bytes_as, a_byte, hundred}
use Rattle.laws_specs.specs.SampleLists.{lists_with, liking, list_specs, twice_200, liking_100, ListsAreSaid, BagPremisesHold}
use Rattle.laws_specs.proofs.SampleAnswers.{byte_formed, byte_sorted, byte_numbered}
use Rattle.laws_specs.proofs.SampleConditions.{told_is, part_is, alone, one_argument, only_one, truths_same, none_first, none_made}

-- 1. (like x)
abbrev like_args : SiteTerms
like_args = site_term_and (argument 0) no_site_term

abbrev like_call : SiteTerm
like_call = constructor_call 1 like_args 0

abbrev made_sites : List SiteTerm
made_sites = argument 0 ∷ (like_call ∷ (pick_of like_call ∷ []))

like_provided : (b : Denoted) (f : Valuation) → IsAssumed (lists_with liking) list_specs (condition (lists_with liking) (rule_of liking)) (denoted_and b no_denoted) f → (h : ToldContent) (y : Denoted) → f (pick_of like_call) ≡ Some h → result_as h ≡ Some y
    → IsProvided list_specs 0 (denoted_and b no_denoted) y
like_provided b f a h y e q =
    let c = a.held like_call told_many (a.held (pick_of like_call) h e) in
    let first = then_some (denoted_at f (argument 0)) (λ z. Some (denoted_and z no_denoted)) c.0 c.1 in
    let part = a.held (argument 0) (told first.0) (told_is (f (argument 0)) first.0 first.1) in
    let same : first.0 ≡ b = part_is b part.part first.0 part.there part.held in
    let args : denoted_at_each f like_args ≡ Some (denoted_and b no_denoted) = ap (λ o. then_option o (λ z. Some (denoted_and z no_denoted))) (first.1 ∙ ap Some same) in
    a.picks like_call (contains_from_in made_sites like_call (inr (inl refl))) refl (denoted_and b no_denoted) h args e (All-nil (IsSaid no_unknown (denoted_and b no_denoted) None)) y q

like_right : IsValid (lists_with liking) list_specs (condition (lists_with liking) (rule_of liking))
like_right (denoted_and b no_denoted) f a = grind (arith, common_steps, like_provided b f a, like_provided, none_first)
like_right h f a = grind (arith, common_steps, and_parts)

-- 2. x alone
alone_wrong : IsValid (lists_with x) list_specs (condition (lists_with x) (rule_of x)) → ⊥
alone_wrong right =
    false≢true (truths_same false true (only_one (IsSaid no_unknown one_argument (Some (byte 1))) doubled
    ((right one_argument alone (grind (arith, common_steps))).provides (told (byte 1)) (byte 1) (none_made (lists_with x) list_specs alone) refl refl)))

pub lists_are_said_lem : ListsAreSaid
lists_are_said_lem = (like_right, alone_wrong)

-- 3. what `like` answers
abbrev hundreds : Values
hundreds = value_and (a_byte 100) no_value

pub answered : (t : ℕ) (vs : Values) (c : Content) → pure_answer liking_100 t vs ≡ Some c → (1 ≡ t) × (hundreds ≡ vs) × (many twice_200 ≡ c)
answered t vs c e = grind (arith, common_steps, and_parts (1 == t), eqb-true 1 t, some_is (many twice_200) c, none_some c, and_parts, eqb-true, eq_all_means, some_is, none_some)

denotes : IsDenotation (lists_with liking) list_specs bytes_as
denotes = grind (arith, common_steps, byte_formed, byte_sorted, byte_numbered, none_some)

meets : MeetsSpecs list_specs bytes_as liking_100 []
meets = grind (arith, common_steps, none_some, answered)

-- 4. what is asked
one_call : (t n : ℕ) (ss : SiteTerms) → In made_sites (constructor_call t ss n) → like_call ≡ constructor_call t ss n
one_call t n ss h = grind (arith, common_steps)

call_term : (t n : ℕ) (ss : SiteTerms) → like_call ≡ constructor_call t ss n → (1 ≡ t) × (like_args ≡ ss) × (0 ≡ n)
call_term t n ss e = (cc, cc, cc)

pub serves : Serves (lists_with liking) liking_100 hundred (rules_of (lists_with liking) 0)
serves = grind (arith, common_steps, call_term, one_call, in_from_contains, some_is, in_alone, suc-ne-zero)

-- 5. the program
not_partial : (t : ℕ) → is_partial (lists_with liking) t ≡ false
not_partial t = grind (arith, common_steps)

-- 6. the premises
pub bag_premises_hold_lem : BagPremisesHold
bag_premises_hold_lem = record {
  well_typed = grind (arith, common_steps, not_partial, in_alone);
  multi = refl;
  quiet = λ r i. subst (λ q. (demands_of (lists_with liking) q).impure ≡ []) (in_alone (rule_of liking) r i) refl;
  valid = λ r i. subst (λ q. IsValid (lists_with liking) list_specs (condition (lists_with liking) q)) (in_alone (rule_of liking) r i) like_right;
  is_called = record { denotes = denotes; typed = refl; serves = serves; meets = meets; required = All-nil (IsSaid no_unknown (stand_for bytes_as (of_list hundred)) None) };
  collected = refl;
}
