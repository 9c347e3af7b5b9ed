-- The choice doesn't depend on the order of rules, nor on rules that aren't chosen.
use Rattle.std.proofs.Common.{◌≡◌, ◌⊎◌, ◌==◌, ℤ, Bool, true, false, List, [], ◌∷◌, ◌++◌, Option, Some, is_some, filter, sym, ap, ◌∙◌, subst, inl, inr, arith, int_cmp, is_lt, ◌≤ℤ◌}
use Rattle.std.proofs.lemmas.Bool.{cases_Bool, cond-true, cond-false}
use Rattle.std.proofs.lemmas.Int.{ints}
use Rattle.std.proofs.lemmas.List.Elements.{filter-append}
use Rattle.std.proofs.lemmas.List.Sorted.{IsPermutation-sym, Contains-permutation}
use Rattle.std.proofs.lemmas.Option.{none-some, same_Some}
use Rattle.std.proofs.lemmas.Grind.{common_steps}
use Rattle.model.specs.rules.Values.{Value}
use Rattle.model.specs.rules.Meaning.{Meaning}
use Rattle.model.specs.rules.Program.{Program, rules_of}
use Rattle.model.specs.rules.Typed.{TypedRule}
use Rattle.model.specs.rules.Matching.{matches}
use Rattle.model.specs.rules.Choice.{higher, chosen, outcome_of_rule, choice, MatchesOnce}
use Rattle.model.proofs.Elements.{In, in_from_contains, contains_from_in, in_left, in_right, in_either, in_slice, slice_in, in_filter, filter_from, passed_filter}
use Rattle.model.proofs.Priorities.{at_least}
use Rattle.laws_trees.specs.ChoiceLaws.{OrderDoesntMatter, OthersCanBeTakenAway, OrderInProgramsDoesntMatter, OthersInProgramsCanBeTakenAway}
use Rattle.laws_trees.proofs.choosing.Terms.{choice_asks_terms_lem}
use Rattle.laws_trees.proofs.runs.ChosenRules.{one_number, MatchesWith, no_match, matching, chosen_is, passes, fails, through}

-- a lower number isn't above
not_below : (x y : ℤ) → y ≤ℤ x → is_lt (int_cmp x y) ≡ false
not_below x y le = grind (arith, common_steps, ints)

module _ (p : Program) (m : Meaning) (args : List Value) where
  -- no matching rule is above the chosen one
  pub most : (rs : List TypedRule) (s : TypedRule) → chosen p m rs args ≡ Some s → (q : TypedRule) → In rs q → MatchesWith p m args q → q.prio ≤ℤ s.prio
  most rs s e = grind (arith, common_steps, chosen_is, no_match, none-some, matching, same_Some)

  -- and it matches
  pub chosen_matches : (rs : List TypedRule) (s : TypedRule) → chosen p m rs args ≡ Some s → MatchesWith p m args s
  chosen_matches rs s e = grind (arith, common_steps, chosen_is, no_match, none-some, matching, same_Some)

  -- 1. rules with the same members choose one rule
  pub same_members : (rs qs : List TypedRule) → ((r : TypedRule) → In rs r → In qs r) → ((r : TypedRule) → In qs r → In rs r) → MatchesOnce p m rs args
      → chosen p m rs args ≡ chosen p m qs args
  same_members rs qs to from once = grind (arith, common_steps, chosen_is, no_match, matching, in_slice, slice_in, one_number)

  -- 2. without a rule that isn't chosen
  module _ (after : List TypedRule) (r : TypedRule) where
    abbrev Alike : List TypedRule → Type 0
    Alike before = (chosen p m (before ++ after) args ≡ chosen p m (before ++ r ∷ after) args) ⊎ (chosen p m (before ++ r ∷ after) args ≡ Some r)

    here : is_some (matches p m r args) ≡ true → (o : Option TypedRule) → chosen p m after args ≡ o
        → (chosen p m after args ≡ chosen p m (r ∷ after) args) ⊎ (chosen p m (r ∷ after) args ≡ Some r)
    here meets o e = grind (arith, common_steps, passes)

    -- what is chosen without the rule isn't above it, where it would be chosen
    not_above : (before : List TypedRule) (x : TypedRule) → chosen p m (before ++ r ∷ after) args ≡ Some r → r.prio ≤ℤ x.prio → higher x (chosen p m (before ++ after) args) ≡ Some x
    not_above before x g le = grind (arith, common_steps, chosen_is, in_either, in_left, in_right, no_match, matching, through, most, in_slice, not_below)

    later : (before : List TypedRule) (x : TypedRule) → is_some (matches p m x args) ≡ true → Alike before → Alike (x ∷ before)
    later before x meets h = grind (arith, common_steps, passes, at_least, not_above)

    not_here : (before : List TypedRule) (x : TypedRule) → is_some (matches p m x args) ≡ false → Alike before → Alike (x ∷ before)
    not_here before x misses h = grind (arith, common_steps, fails)

    alike : (before : List TypedRule) → Alike before
    alike [] = grind (arith, common_steps, here, fails)
    alike (x ∷ before) = grind (arith, common_steps, alike before, later, not_here)

  pub without : (before after : List TypedRule) (r : TypedRule) → (chosen p m (before ++ r ∷ after) args ≡ Some r → ⊥)
      → chosen p m (before ++ after) args ≡ chosen p m (before ++ r ∷ after) args
  without before after r other = elim (alike after r before) [ inl e ↦ e | inr g ↦ absurd (other g) ]

pub order_doesnt_matter_lem : OrderDoesntMatter
order_doesnt_matter_lem p m args rs qs moved once =
    ap (outcome_of_rule p m args)
    (same_members p m args rs qs
    (λ r i. in_from_contains qs r (Contains-permutation rs qs r moved (contains_from_in rs r i)))
    (λ r i. in_from_contains rs r (Contains-permutation qs rs r (IsPermutation-sym rs qs moved) (contains_from_in qs r i))) once)

pub others_can_be_taken_away_lem : OthersCanBeTakenAway
others_can_be_taken_away_lem p m args before after r other = ap (outcome_of_rule p m args) (without p m args before after r other)

-- 3. programs
kept : (f : TypedRule → Bool) (rs qs : List TypedRule) → ((r : TypedRule) → In rs r → In qs r) → (r : TypedRule) → In (filter f rs) r → In (filter f qs) r
kept f rs qs to r i = filter_from f qs r (to r (in_filter f rs r i)) (passed_filter f rs r i)

pub order_in_programs_doesnt_matter_lem : OrderInProgramsDoesntMatter
order_in_programs_doesnt_matter_lem p q terms moved t m args once =
    let to : (r : TypedRule) → In p.rules r → In q.rules r = λ r i. in_from_contains q.rules r (Contains-permutation p.rules q.rules r moved (contains_from_in p.rules r i)) in
    let from : (r : TypedRule) → In q.rules r → In p.rules r = λ r i.
    in_from_contains p.rules r (Contains-permutation q.rules p.rules r (IsPermutation-sym p.rules q.rules moved) (contains_from_in q.rules r i)) in
    ap (outcome_of_rule p m args)
    (same_members p m args (rules_of p t) (rules_of q t) (kept (λ r. r.root_term == t) p.rules q.rules to) (kept (λ r. r.root_term == t) q.rules p.rules from) once)
    ∙ choice_asks_terms_lem p q terms m (rules_of q t) args

pub others_in_programs_can_be_taken_away_lem : OthersInProgramsCanBeTakenAway
others_in_programs_can_be_taken_away_lem p q before after r terms rs qs t m args other =
    let f : TypedRule → Bool = λ x. x.root_term == t in
    let whole : rules_of p t ≡ filter f before ++ filter f (r ∷ after) = ap (filter f) rs ∙ filter-append f before (r ∷ after) in
    let part : rules_of q t ≡ filter f before ++ filter f after = ap (filter f) qs ∙ filter-append f before after in
    let same : choice p m (rules_of q t) args ≡ choice p m (rules_of p t) args =
    elim (cases_Bool (f r)) [
      | inl k ↦
          let all : rules_of p t ≡ filter f before ++ r ∷ filter f after = whole ∙ ap (λ l. filter f before ++ l) (cond-true (f r) (r ∷ filter f after) (filter f after) k) in
          ap (λ l. choice p m l args) part
          ∙ others_can_be_taken_away_lem p m args (filter f before) (filter f after) r (subst (λ l. chosen p m l args ≡ Some r → ⊥) all other)
          ∙ ap (λ l. choice p m l args) (sym all)
      | inr k ↦
          ap (λ l. choice p m l args) (part ∙ sym (whole ∙ ap (λ l. filter f before ++ l) (cond-false (f r) (r ∷ filter f after) (filter f after) k)))
    ] in
    sym (choice_asks_terms_lem p q terms m (rules_of q t) args) ∙ same
