-- The choice among rules whose conditions are valid answers as the specs say.
use Rattle.std.proofs.Common.{◌≡◌, ◌+◌, ◌==◌, ℕ, ℤ, ◌<ℤ◌, ◌≤ℤ◌, suc, cond, flat_map, arith, Bool, true, false, List, [], ◌∷◌, ◌++◌, length, take, Option, Some, None, is_some, All, Contains, slice_get, refl, sym, ap, subst, ◌∙◌, inl, inr, append_assoc}
use Rattle.std.proofs.lemmas.Grind.{common_steps}
use Rattle.std.proofs.lemmas.Bool.{false≢true, cond-true}
use Rattle.std.proofs.lemmas.Int.{ints}
use Rattle.std.proofs.lemmas.List.Elements.{All-contains}
use Rattle.std.proofs.Math.Seq.{take-append_seam}
use Rattle.model.specs.rules.Values.{Value, truth, of_variant, of_struct, Values, value_eq, listed, args_well_typed}
use Rattle.model.specs.rules.Meaning.{Content, one, parts, just, Meaning, bool_literal, literal_value}
use Rattle.model.specs.rules.Outcome.{Call, no_rule, Outcome, then_option}
use Rattle.model.specs.rules.Matching.{Vars, matches}
use Rattle.model.specs.rules.RightSide.{result_content}
use Rattle.model.specs.rules.Choice.{higher, chosen, with_vars, outcome_of_rule, choice}
use Rattle.model.specs.rules.Program.{Program, is_multi, is_partial, arg_types, rules_of}
use Rattle.model.specs.rules.Typed.{TypedRule}
use Rattle.model.specs.rules.CallsNoMulti.{CallsNoMulti}
use Rattle.model.specs.rules.Picks.{part_of_some, field_of_variant, field_of_struct, site_content, HasContent}
use Rattle.model.specs.sites.Sites.{Constraint, is_bool, SiteTerm, bool_term, int_term, prim_term, argument, extractor_call, constructor_call, pick_of, variant_made, variant_field, struct_made, struct_field, some_made, some_part, tuple_part, no_site, SiteTerms}
use Rattle.model.specs.visits.Demands.{demands_of, result_of}
use Rattle.model.specs.sites.Closure.{DemandsHold, IsMet, AreEqual}
use Rattle.model.specs.sites.Serves.{constant_site, asked_by, asked}
use Rattle.model.specs.trees.Run.{content_fields, where_constant, as_value, from_value, part_at}
use Rattle.model.specs.claims.Environments.{types_read}
use Rattle.model.specs.claims.Layers.{own_program}
use Rattle.model.proofs.Either.{either}
use Rattle.model.proofs.Elements.{In, in_right, in_flat_map, in_from_contains, contains_from_in}
use Rattle.model.proofs.SameSites.{number_same}
use Rattle.model.proofs.ValuesEqual.{eq_means, eq_same}
use Rattle.laws_trees.proofs.choosing.OtherRules.{most}
use Rattle.laws_trees.proofs.picks.NoIterators.{calls_no_multi}
use Rattle.laws_trees.proofs.taking.FollowedCalls.{Followed, goes_on, answered_call, follow, follow_there, result_after}
use Rattle.laws_sites.proofs.built.BuiltSets.{of_term}
use Rattle.laws_sites.proofs.built.WellBuiltSets.{all_from_in}
use Rattle.laws_typing.proofs.WellTypedRules.{elaborated_programs_are_well_typed_lem}
use Rattle.laws_trees.proofs.NoMulti.{rules_without_multi_go_over_no_calls_lem}
use Rattle.laws_typing.specs.WellTypedPrograms.{IsWellTypedProgram}
use Rattle.laws_specs.specs.Words.{Denoted, a_truth, variant_of, struct_of, DenotedList}
use Rattle.laws_specs.specs.Specs.{Specs, IsRequired, IsProvided}
use Rattle.laws_specs.specs.Conditions.{ToldContent, told, told_parts, told_just, IsPartHeld, IsHeldAs, is_of_parts, result_as, call_of, IsMetAs, IsAnsweredAsSaid, IsTypedAs, condition, IsAssumed, AreMade, IsShown, IsAbove, is_told_apart, IsNoneAbove}
use Rattle.laws_specs.specs.Meets.{Atoms, stands_for, stand_for, content_as, is_number, AreNumbers, AnswersAsSaid}
use Rattle.laws_specs.specs.ConditionLaws.{IsCalled, ChoosesAsSaid, ComputesAsSaid, ChoosesAsSaidByPriority, ComputesAsSaidByPriority, LoweredTermsComputeAsSaid}
use Rattle.laws_specs.proofs.Valuations.{Called, told_of, told_there, values_there, value_there, argument_back, part_back, each_told, content, values, sites_as, args_as, told_site, told_values}
use Rattle.laws_specs.proofs.Assumptions.{met, same, own_constructed, constructed, call_typed, assumed}
use Rattle.laws_specs.proofs.Followed.{calls_of, result_calls, next_at, calls_made, made_at}
use Rattle.laws_trees.proofs.taking.CallsIn.{InOrder}
use Rattle.laws_specs.proofs.PlainOutcomes.{AreServed, plain_outcome, holds_matches}

-- 1. lists, and answers
split_in : (us : List SiteTerm) (u : SiteTerm) → In us u → (before : List SiteTerm) × (after : List SiteTerm) × (us ≡ before ++ u ∷ after)
split_in [] u i = absurd i
split_in (x ∷ us) u (inl e) = ([], us, ap (λ y. y ∷ us) e)
split_in (x ∷ us) u (inr i) = let a = split_in us u i in (x ∷ a.0, a.1, ap (λ l. x ∷ l) a.2)

call_same : (u : SiteTerm) → call_of u ≡ answered_call u
call_same u = refl

still_there : (d : Atoms) (o : Option Content) → is_some o ≡ true → is_some (told_of d o) ≡ true
still_there d o h = grind (arith, common_steps)

result_there : (o : Option Content) (f : Followed) (c : Content) → (result_after o f).results ≡ c ∷ [] → (calls : List Call) × (f ≡ goes_on calls) × (o ≡ Some c)
result_there o f c e = grind (arith, common_steps)

pub result_is : (d : Atoms) (b : Bool) (v : Value) → result_as (content_as d (result_content b v)) ≡ Some (stands_for d v)
result_is d b v = grind (arith, common_steps)

-- 2. a rule that is chosen
record Taken (k : Called) (t : ℕ) : Type 0 where
  rule : TypedRule
  calls : k.calls ≡ (result_after (content k (result_of k.program rule)) (follow k.meaning k.args k.pick (demands_of k.program rule).impure [])).calls
  listed : Contains (rules_of k.program t) rule
  shown : IsShown k.program k.specs (condition k.program rule) (args_as k) (sites_as k)
  served : AreServed k.program k.meaning k.args k.pick (demands_of k.program rule)
  order : InOrder (demands_of k.program rule).made [] (demands_of k.program rule).impure

module _ (k : Called) (t : ℕ) (x : Taken k t) where
  abbrev made : List SiteTerm
  made = (demands_of k.program x.rule).made

  abbrev impure : List SiteTerm
  impure = (demands_of k.program x.rule).impure

  abbrev Gave : SiteTerm → Type 0
  Gave u = HasContent k.meaning k.args k.pick u

  -- an impure call stands at its place among those that are made
  at_place : (before after : List SiteTerm) (u : SiteTerm) → impure ≡ before ++ u ∷ after → (t n : ℕ) (ss : SiteTerms) (vs : Values) → ((y : SiteTerm) → In before y → Gave y) → answered_call u ≡ constructor_call t ss n → values k ss ≡ Some vs
      → slice_get k.calls (length before) ≡ Some (record { term = t; args = vs })
  at_place before after u whole t n ss vs gave e q =
      let none : length before ≡ 0 + length before = omega arith in
      ap (λ l. slice_get l (length before)) x.calls
      ∙ ap (λ l. slice_get l (length before)) (result_calls (content k (result_of k.program x.rule)) (follow k.meaning k.args k.pick impure []))
      ∙ ap (λ l. slice_get (calls_of (follow k.meaning k.args k.pick l [])) (length before)) whole
      ∙ ap (slice_get (calls_of (follow k.meaning k.args k.pick (before ++ u ∷ after) []))) none
      ∙ made_at k.meaning k.args k.pick made [] before after u t n ss vs [] (subst (InOrder made []) whole x.order) gave e q

  -- impure calls that gave something answer as said
  are_made : (before after : List SiteTerm) → impure ≡ before ++ after → ((u : SiteTerm) → In before u → Gave u) → AreMade k.program k.specs (sites_as k) before
  are_made before after e gave u i =
      let a = split_in before u (in_from_contains before u i) in
      let whole : impure ≡ a.0 ++ u ∷ (a.1 ++ after) = e ∙ ap (λ l. l ++ after) a.2 ∙ append_assoc a.0 (u ∷ a.1) after in
      let n = next_at made [] a.0 (a.1 ++ after) u (subst (InOrder made []) whole x.order) in
      let first : take (length a.0) impure ≡ a.0 = ap (take (length a.0)) whole ∙ take-append_seam a.0 (u ∷ (a.1 ++ after)) in
      let earlier : All Gave (take (length a.0) impure) = subst (All Gave) (sym first) (all_from_in Gave a.0 (λ y j. gave y (subst (λ l. In l y) (sym a.2) (within a.0 (u ∷ a.1) y j)))) in
      record {
        gave = still_there k.atoms (content k u) (gave u (in_from_contains before u i));
        answered = subst (λ s. IsAnsweredAsSaid k.specs (sites_as k) s s) (sym (call_same u ∙ n.call))
            (constructed k n.term (suc (length a.0)) n.args
            (λ vs c q answer. own_constructed k n.term (stand_for k.atoms vs) c (λ b j. k.meets.impures (length a.0) (record { term = n.term; args = vs }) c b (at_place a.0 (a.1 ++ after) u whole n.term (suc (length a.0)) n.args vs (λ y j. gave y (subst (λ l. In l y) (sym a.2) (within a.0 (u ∷ a.1) y j))) n.call q) answer j)));
        typed = subst (λ s. (h : ToldContent) → sites_as k s ≡ Some h → IsTypedAs k.program k.specs s h) (sym (call_same u ∙ n.call))
            (call_typed k n.term (suc (length a.0)) n.args (λ vs c q answer. x.served n.term (length a.0) n.args vs c (subst (In made) n.call n.listed) earlier q answer));
      }
    where
      within : (us vs : List SiteTerm) (y : SiteTerm) → In us y → In (us ++ vs) y
      within [] vs y j = absurd j
      within (u ∷ us) vs y (inl e) = inl e
      within (u ∷ us) vs y (inr j) = inr (within us vs y j)

  abbrev goes : Followed
  goes = follow k.meaning k.args k.pick impure []

  abbrev result : SiteTerm
  result = result_of k.program x.rule

  gives : (b : Bool) (v : Value) → (result_after (content k result) goes).results ≡ result_content b v ∷ [] → IsProvided k.specs t (args_as k) (stands_for k.atoms v)
  gives b v e =
      let a = result_there (content k result) goes (result_content b v) e in
      let all = (follow_there k.meaning k.args k.pick impure [] a.0 a.1).0 in
      subst (λ n. IsProvided k.specs n (args_as k) (stands_for k.atoms v)) (of_term k.program t x.rule x.listed).1
      (x.shown.provides (content_as k.atoms (result_content b v)) (stands_for k.atoms v)
      (λ u i. are_made impure [] (sym (append_none impure)) (λ y j. All-contains Gave impure y all (contains_from_in impure y j)) u i)
      (told_site k result (result_content b v) a.2) (result_is k.atoms b v))
    where
      append_none : (us : List SiteTerm) → us ++ [] ≡ us
      append_none [] = refl
      append_none (u ∷ us) = ap (λ l. u ∷ l) (append_none us)

  requires : (call : Call) → In (calls_of goes) call → IsRequired k.specs call.term (stand_for k.atoms call.args)
  requires call i =
      elim (calls_made k.meaning k.args k.pick made [] impure [] call x.order i) [
        | inl none ↦ absurd none
        | inr a ↦
            x.shown.requires a.before a.after a.answer call.term a.number a.sites (stand_for k.atoms call.args) a.split
            (are_made a.before (a.answer ∷ a.after) a.split a.gave) (call_same a.answer ∙ a.call_site) (told_values k a.sites call.args a.values)
      ]

  rule_answers : AnswersAsSaid k.program k.specs t k.atoms k.args (result_after (content k result) goes)
  rule_answers = record {
    result = λ v e. gives (is_partial k.program t) v e;
    calls = λ call i. requires call (subst (λ l. In l call) (result_calls (content k result) goes) (in_from_contains (result_after (content k result) goes).calls call i));
  }

-- 3. no rule
nothing_answers : (p : Program) (specs : Specs) (t : ℕ) (d : Atoms) (args : List Value) → AnswersAsSaid p specs t d args no_rule
nothing_answers p specs t d args = record { result = λ v e. absurd (none v e); calls = λ call i. absurd (in_from_contains [] call i) }
  where
    none : (v : Value) → [] ≡ result_content (is_partial p t) v ∷ [] → ⊥
    none v e = cc

-- 4. what is chosen is one of the rules
abbrev IsListed : List TypedRule → Option TypedRule → Type 0
IsListed rs None = Unit {0}
IsListed rs (Some r) = Contains rs r

higher_listed : (rs : List TypedRule) (r : TypedRule) (o : Option TypedRule) → Contains rs r → IsListed rs o → IsListed rs (higher r o)
higher_listed rs r o i j = grind (arith, common_steps, either)

chosen_listed : (p : Program) (m : Meaning) (args : List Value) (rs qs : List TypedRule) → ((r : TypedRule) → In qs r → Contains rs r) → IsListed rs (chosen p m qs args)
chosen_listed p m args rs (r ∷ qs) g = grind (arith, common_steps, chosen_listed p m args rs qs, higher_listed rs r (chosen p m qs args) (g r (inl refl)), either, higher_listed)
chosen_listed p m args rs [] g = tt

-- 5. the choice
abbrev pub called : (p : Program) (specs : Specs) (t : ℕ) (d : Atoms) (m : Meaning) (args : List Value) → IsCalled p specs t d m args (choice p m (rules_of p t) args).calls → Called
called p specs t d m args c = record { program = p; specs = specs; atoms = d; meaning = m; args = args; pick = []; calls = (choice p m (rules_of p t) args).calls; denotes = c.denotes; meets = c.meets }

-- what a chosen rule's goals follow from
pub record IsPicked (k : Called) (t : ℕ) (r : TypedRule) : Type 0 where
  pub is_chosen : chosen k.program k.meaning (rules_of k.program t) k.args ≡ Some r
  pub listed : Contains (rules_of k.program t) r
  pub holds : DemandsHold k.meaning k.args k.pick (demands_of k.program r)
  pub is_assumed : IsAssumed k.program k.specs (condition k.program r) (args_as k) (sites_as k)

abbrev pub ShowsAll : Called → ℕ → Type 0
ShowsAll k t = (r : TypedRule) → IsPicked k t r → IsShown k.program k.specs (condition k.program r) (args_as k) (sites_as k)

module _ (p : Program) (specs : Specs) (t : ℕ) (d : Atoms) (m : Meaning) (args : List Value) (h : IsWellTypedProgram p) (single : is_multi p t ≡ false) (c : IsCalled p specs t d m args (choice p m (rules_of p t) args).calls) where
  abbrev rs : List TypedRule
  rs = rules_of p t

  abbrev k : Called
  k = called p specs t d m args c

  pub quiet : (r : TypedRule) → Contains rs r → CallsNoMulti p r
  quiet r i = calls_no_multi p r (rules_without_multi_go_over_no_calls_lem p t h single r i)

  of_matching : ShowsAll k t → (r : TypedRule) → chosen p m rs args ≡ Some r → Contains rs r → (o : Option Vars) → matches p m r args ≡ o → AnswersAsSaid p specs t d args (with_vars p m r o)
  of_matching shows r e i None q = nothing_answers p specs t d args
  of_matching shows r e i (Some v) q =
      let plain = plain_outcome p t m args r h c.typed c.serves i (quiet r i) v q in
      let root = (of_term p t r i).1 in
      let given_all = assumed k r plain.answered (subst (λ n. args_well_typed p.types (arg_types p n) args ≡ true) (sym root) c.typed) (subst (λ n. IsRequired specs n (args_as k)) (sym root) c.required) plain.holds in
      subst (AnswersAsSaid p specs t d args) (sym plain.right)
      (rule_answers k t
      (record {
        rule = r;
        calls = ap (λ (o : Outcome). o.calls) (ap (outcome_of_rule p m args) e ∙ ap (with_vars p m r) q ∙ plain.right);
        listed = i;
        shown = shows r (record { is_chosen = e; listed = i; holds = plain.holds; is_assumed = given_all });
        served = plain.impures;
        order = plain.order;
      }))

  of_chosen : ShowsAll k t → (o : Option TypedRule) → chosen p m rs args ≡ o → IsListed rs o → AnswersAsSaid p specs t d args (outcome_of_rule p m args o)
  of_chosen shows h e i = grind (arith, common_steps, nothing_answers, of_matching)

  pub choice_answers : ShowsAll k t → AnswersAsSaid p specs t d args (choice p m rs args)
  choice_answers shows = of_chosen shows (chosen p m rs args) refl (chosen_listed p m args rs rs (λ r i. contains_from_in rs r i))

  -- 6. no rule above the chosen one matches
  abbrev pub content_meets : Constraint → Option Content → Bool
  content_meets c None = false
  content_meets c (Some x) = is_some (content_fields m c x)

  pub is_met : (c : Constraint) (s : SiteTerm) (o : Option Content) → site_content m args [] s ≡ o → content_meets c o ≡ true → IsMet m args [] s c
  is_met c s o e g = grind (arith, common_steps)

  pub meets_so : (s : SiteTerm) (c : Constraint) → IsMet m args [] s c → content_meets c (site_content m args [] s) ≡ true
  meets_so s c a = ap (content_meets c) a.held ∙ a.meets

  abbrev pub content_equals : Option Content → Option Content → Bool
  content_equals (Some (one v)) (Some (one w)) = value_eq v w
  content_equals _ _ = false

  pub are_equal : (a b : SiteTerm) (o q : Option Content) → site_content m args [] a ≡ o → site_content m args [] b ≡ q → content_equals o q ≡ true → AreEqual m args [] a b
  are_equal a b (Some (one v)) (Some (one w)) e f g = record { value = v; first = e; second = f ∙ ap (λ x. Some (one x)) (sym (eq_means v w g)) }
  are_equal a b o q e f g = grind (arith, common_steps)

  pub equals_so : (a b : SiteTerm) → AreEqual m args [] a b → content_equals (site_content m args [] a) (site_content m args [] b) ≡ true
  equals_so a b x = ap (λ o. content_equals o (site_content m args [] b)) x.first ∙ ap (content_equals (Some (one x.value))) x.second ∙ eq_same x.value

  -- what a site stands for tells its value's form, where atoms stand for numbers
  module _ (numbers : AreNumbers d) where
    not_variant : (x : Denoted) (ty i : ℕ) (xs : DenotedList) → is_number x ≡ true → x ≡ variant_of ty i xs → ⊥
    not_variant x ty i xs n e = false≢true (ap is_number (sym e) ∙ n)

    not_struct : (x : Denoted) (ty : ℕ) (xs : DenotedList) → is_number x ≡ true → x ≡ struct_of ty xs → ⊥
    not_struct x ty xs n e = false≢true (ap is_number (sym e) ∙ n)

    not_truth : (x : Denoted) (b : Bool) → is_number x ≡ true → x ≡ a_truth b → ⊥
    not_truth x b n e = false≢true (ap is_number (sym e) ∙ n)

    from_variant : (v : Value) (ty i : ℕ) (xs : DenotedList) → stands_for d v ≡ variant_of ty i xs → (vs : Values) × (v ≡ of_variant ty i vs) × (stand_for d vs ≡ xs)
    from_variant (of_variant u j vs) ty i xs e = grind (arith, common_steps)
    from_variant v ty i xs e = grind (arith, common_steps, not_variant)

    from_struct : (v : Value) (ty : ℕ) (xs : DenotedList) → stands_for d v ≡ struct_of ty xs → (vs : Values) × (v ≡ of_struct ty vs) × (stand_for d vs ≡ xs)
    from_struct (of_struct u vs) ty xs e = grind (arith, common_steps)
    from_struct v ty xs e = grind (arith, common_steps, not_struct)

    from_truth : (v : Value) (b : Bool) → stands_for d v ≡ a_truth b → v ≡ truth b
    from_truth (truth a) b e = grind (arith, common_steps)
    from_truth v b e = grind (arith, common_steps, not_truth)

    from_just : (x : Content) (h : ToldContent) → content_as d x ≡ told_just h → (y : Content) × (x ≡ just y) × (content_as d y ≡ h)
    from_just (just y) h e = grind (arith, common_steps)
    from_just x h e = grind (arith, common_steps)

    from_parts : (x : Content) (xs : DenotedList) → content_as d x ≡ told_parts xs → (vs : Values) × (x ≡ parts vs) × (stand_for d vs ≡ xs)
    from_parts (parts vs) xs e = grind (arith, common_steps)
    from_parts x xs e = grind (arith, common_steps)

    abbrev at : SiteTerm → Option Content
    at s = site_content m args [] s

    -- a site with this content stands for this
    stands : (s : SiteTerm) (c : Content) (h : ToldContent) → at s ≡ Some c → content_as d c ≡ h → sites_as k s ≡ Some h
    stands s c h e q = told_site k s c e ∙ ap Some q

    field_got : (ty variant i : ℕ) (vs : Values) (c : Content) → from_value (slice_get (listed vs) i) ≡ Some c → field_of_variant variant i (of_variant ty variant vs) ≡ Some c
    field_got ty variant i vs c e = cond-true (variant == variant) (from_value (slice_get (listed vs) i)) None (number_same variant) ∙ e

    pub there : (s : SiteTerm) (h : ToldContent) → is_of_parts s ≡ true → IsHeldAs specs (args_as k) (sites_as k) s h → sites_as k s ≡ Some h
    there (argument i) h g a =
        let v = argument_back d args i a.part a.there in stands (argument i) (one v.0) h (ap from_value v.1) (ap told v.2 ∙ sym a.held)
    there (variant_made ty variant ss) h g a =
        let vs = values_there d (values k ss) a.0 (sym (each_told k ss) ∙ a.1) in
        stands (variant_made ty variant ss) (one (of_variant ty variant vs.0)) h (ap (λ o. then_option o (λ ws. Some (one (of_variant ty variant ws)))) vs.1) (ap (λ xs. told (variant_of ty variant xs)) vs.2 ∙ sym a.2)
    there (variant_field s variant i) h g a =
        let v = value_there d (at s) (variant_of a.0 variant a.1) a.2 in
        let w = from_variant v.0 a.0 variant a.1 v.2 in
        let y = part_back d w.0 i h (subst (λ xs. IsPartHeld xs i h) (sym w.2) a.3) in
        stands (variant_field s variant i) (one y.0) h
        (ap (λ o. then_option (then_option o as_value) (field_of_variant variant i)) (v.1 ∙ ap (λ z. Some (one z)) w.1) ∙ field_got a.0 variant i w.0 (one y.0) y.1) y.2
    there (struct_made ty ss) h g a =
        let vs = values_there d (values k ss) a.0 (sym (each_told k ss) ∙ a.1) in
        stands (struct_made ty ss) (one (of_struct ty vs.0)) h (ap (λ o. then_option o (λ ws. Some (one (of_struct ty ws)))) vs.1) (ap (λ xs. told (struct_of ty xs)) vs.2 ∙ sym a.2)
    there (struct_field s i) h g a =
        let v = value_there d (at s) (struct_of a.0 a.1) a.2 in
        let w = from_struct v.0 a.0 a.1 v.2 in
        let y = part_back d w.0 i h (subst (λ xs. IsPartHeld xs i h) (sym w.2) a.3) in
        stands (struct_field s i) (one y.0) h (ap (λ o. then_option (then_option o as_value) (field_of_struct i)) (v.1 ∙ ap (λ z. Some (one z)) w.1) ∙ y.1) y.2
    there (some_made s) h g a =
        let c = told_there d (at s) a.0 a.1 in stands (some_made s) (just c.0) h (ap (λ o. then_option o (λ z. Some (just z))) c.1) (ap told_just c.2 ∙ sym a.2)
    there (some_part s) h g a =
        let c = told_there d (at s) (told_just h) a in
        let y = from_just c.0 h c.2 in
        stands (some_part s) y.0 h (ap (λ o. then_option o part_of_some) (c.1 ∙ ap Some y.1)) y.2
    there (tuple_part s i) h g a =
        let c = told_there d (at s) (told_parts a.0) a.1 in
        let vs = from_parts c.0 a.0 c.2 in
        let y = part_back d vs.0 i h (subst (λ xs. IsPartHeld xs i h) (sym vs.2) a.2) in
        stands (tuple_part s i) (one y.0) h (ap (λ o. then_option o (λ z. part_at z i)) (c.1 ∙ ap Some vs.1) ∙ y.1) y.2
    there (bool_term b ty) h g a = absurd (false≢true g)
    there (int_term z ty) h g a = absurd (false≢true g)
    there (prim_term name) h g a = absurd (false≢true g)
    there (extractor_call t' s) h g a = absurd (false≢true g)
    there (constructor_call t' ss n) h g a = absurd (false≢true g)
    there (pick_of s) h g a = absurd (false≢true g)
    there no_site h g a = absurd (false≢true g)

    met_by : (s : SiteTerm) (c : Constraint) (x : Content) → site_content m args [] s ≡ Some x → is_some (content_fields m c x) ≡ true → content_meets c (site_content m args [] s) ≡ true
    met_by s c x e f = ap (content_meets c) e ∙ f

    there_where : {X : Type 0} (b : Bool) (y : X) → b ≡ true → is_some (cond b (Some y) None) ≡ true
    there_where b y e = grind (arith, common_steps)

    constant_met : (o : Option Value) (v : Value) → o ≡ Some v → is_some (where_constant o v) ≡ true
    constant_met o v e = ap (λ u. is_some (where_constant u v)) e ∙ there_where (value_eq v v) [] (eq_same v)

    pub decided : (s : SiteTerm) (c : Constraint) → ((b : Bool) (ty : ℕ) → c ≡ is_bool b ty → literal_value m (bool_literal b ty) ≡ Some (truth b)) → is_told_apart c ≡ true → IsMetAs specs (sites_as k) s c
        → content_meets c (site_content m args [] s) ≡ true
    decided s c l g a = grind (arith, common_steps, value_there, from_variant, met_by, there_where, number_same, from_struct, from_truth, constant_met, told_there, from_just)

    -- a boolean that a pattern names is among what the meaning is asked for
    pub bool_asked : (q : TypedRule) → Contains rs q → (s : SiteTerm) (b : Bool) (ty : ℕ) → Contains (demands_of p q).constraints (s, is_bool b ty) → literal_value m (bool_literal b ty) ≡ Some (truth b)
    bool_asked q i s b ty j =
        let ds = demands_of p q in
        let named : In (flat_map (λ (c : SiteTerm × Constraint). constant_site c.1) ds.constraints) (bool_term b ty) = in_flat_map (λ (c : SiteTerm × Constraint). constant_site c.1) ds.constraints (s, is_bool b ty) (bool_term b ty) (in_from_contains ds.constraints (s, is_bool b ty) j) (inl refl) in
        c.serves.written_bools b ty
        (contains_from_in (asked p rs) (bool_term b ty)
        (in_flat_map (λ (x : TypedRule). asked_by (demands_of p x)) rs q (bool_term b ty) (in_from_contains rs q i) (in_right ds.made (flat_map (λ (c : SiteTerm × Constraint). constant_site c.1) ds.constraints) (bool_term b ty) named)))

    none_above : (r : TypedRule) → IsPicked k t r → IsNoneAbove p specs r (args_as k) (sites_as k)
    none_above r x =
        let root = (of_term p t r x.listed).1 in
        let here : (q : TypedRule) → IsAbove p r q → Contains rs q = λ q a. subst (λ n. Contains (rules_of p n) q) root a.0 in
        record {
          there = there;
          constraint = λ s c. content_meets c (site_content m args [] s);
          equality = λ a b. content_equals (site_content m args [] a) (site_content m args [] b);
          own = λ s c i. meets_so s c (x.holds.constraints s c i);
          own_equality = λ a b i. equals_so a b (x.holds.equalities a b i);
          met = λ s c g. met k s c (is_met c s (site_content m args [] s) refl g);
          equal = λ a b g. same k a b (are_equal a b (site_content m args [] a) (site_content m args [] b) refl refl g);
          decided = λ q s c a i g w. decided s c (λ b ty e. bool_asked q (here q a) s b ty (subst (λ y. Contains (demands_of p q).constraints (s, y)) e i)) g w;
          none = λ q a f g.
              (let i = here q a in
              let holds : DemandsHold m args [] (demands_of p q) = record {
                constraints = λ s c j. is_met c s (site_content m args [] s) refl (f s c j);
                equalities = λ u v j. are_equal u v (site_content m args [] u) (site_content m args [] v) refl refl (g u v j);
              } in
              let matched = holds_matches p t m args q h c.typed c.serves i (quiet q i) holds in
              not_both r.prio q.prio a.1 (most p m args rs r x.is_chosen q (in_from_contains rs q i) matched));
        }
      where
        not_both : (y z : ℤ) → y <ℤ z → z ≤ℤ y → ⊥
        not_both y z a b = omega (arith, ints)

-- 7. the laws
pub chooses_as_said_lem : ChoosesAsSaid
chooses_as_said_lem p specs t d m args h single valid c =
    choice_answers p specs t d m args h single c (λ r x. valid r x.listed (args_as (called p specs t d m args c)) (sites_as (called p specs t d m args c)) x.is_assumed)

pub chooses_as_said_by_priority_lem : ChoosesAsSaidByPriority
chooses_as_said_by_priority_lem p specs t d m args h single valid numbers c =
    choice_answers p specs t d m args h single c
    (λ r x. valid r x.listed (args_as (called p specs t d m args c)) (sites_as (called p specs t d m args c)) x.is_assumed (none_above p specs t d m args h single c numbers r x))

-- a tree that runs as chosen
pub computes_as_said_lem : ComputesAsSaid
computes_as_said_lem p specs t d m args sites tree h single valid runs c apart = grind (arith, common_steps, same, chooses_as_said_lem)

pub computes_as_said_by_priority_lem : ComputesAsSaidByPriority
computes_as_said_by_priority_lem p specs t d m args sites tree h single valid numbers runs c apart = grind (arith, common_steps, same, chooses_as_said_by_priority_lem)

pub lowered_terms_compute_as_said_lem : LoweredTermsComputeAsSaid
lowered_terms_compute_as_said_lem defs expand rules l specs d m args accepted lowered single valid c apart =
    let p = own_program defs rules in
    let h = elaborated_programs_are_well_typed_lem (types_read defs) defs expand rules accepted.read.elaborated in
    let runs = lowered.headline.runs in
    elim valid [
      | inl v ↦ computes_as_said_lem p specs l.term d m args l.set.sites l.tree h single v runs c apart
      | inr v ↦ computes_as_said_by_priority_lem p specs l.term d m args l.set.sites l.tree h single v.0 v.1 runs c apart
    ]
