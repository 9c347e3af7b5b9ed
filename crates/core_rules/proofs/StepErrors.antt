-- What the errors of rules say, from those of the rules' steps: rule by rule, which limits they name, and where the first stands.
use Rattle.std.proofs.lemmas.Bool.{le-leb}
use Rattle.std.proofs.Common.{cond, ◌≡◌, ◌≢◌, ℕ, suc, ◌+◌, ◌≤◌, All, Contains, List, [], ◌∷◌, ◌++◌, length, map, Option, Some, None, refl, sym, ap, subst, ◌∙◌, inl, inr, ◌⊎◌, arith, append-nil, append_assoc}
use Rattle.std.proofs.lemmas.List.{map-append}
use Rattle.std.proofs.lemmas.List.Elements.{All-nil, All-cons, All-head, All-tail, All-append, All-weaker, All-contains, Contains-append_left, Contains-append_right}
use Rattle.std.proofs.lemmas.Option.{none-some, same_Some}
use Rattle.std.proofs.lemmas.Grind.{common_steps}
use Rattle.core_syntax.specs.declared.syntax.Error.{Error}
use Rattle.core_syntax.specs.ErrorViews.{error_view, error_views}
use Rattle.core_syntax.specs.NotedErrors.{AreIllTyped}
use Rattle.core_syntax.specs.Positions.{HasSingleSpans, ErrorStandsAt, positions_named}
use Rattle.model.specs.lists.Syntax.{Position, RuleTree}
use Rattle.model.specs.lists.Names.{IsDistinct}
use Rattle.model.specs.lists.Setting.{Setting, new_scope}
use Rattle.model.specs.lists.Typings.{Typing}
use Rattle.model.specs.lists.Elaborated.{few_enough, most_nested, most_expansions, TypedRules, with_typed}
use Rattle.model.specs.rules.Typed.{TypedRule}
use Rattle.model.specs.claims.Refusals.{NamedLimit, of_rule, of_nesting, of_expansions, Refusal, ill_typed, past_limit, IsIllTyped}
use Rattle.model.specs.rules.Outcome.{then_option}
use Rattle.model.proofs.Members.{all_members, in_head, in_tail, in_map}
use Rattle.laws_errors.specs.AllMade as A
use Rattle.laws_errors.specs.ReachedLimits as L
use Rattle.laws_errors.specs.Steps.{Mistake, Step, went_on, stopped}
use Rattle.laws_errors.specs.RuleSteps as R
use Rattle.laws_errors.specs.RuleSteps.{RuleError, passes, errors_of, refusal_of_error, step_of_rule, RulesStep, rules_step}
use Rattle.laws_errors.specs.LimitLaws.{first_limit}
use Rattle.laws_errors.specs.NameLaws as N
use Rattle.laws_errors.specs.NameLaws.{names_in, GoOn, IsOfExpansions, StopsOfExpansions, AreInOrder}
use Rattle.laws_errors.specs.PlaceLaws.{AreAt, wrong_of}
use Rattle.laws_errors.specs.StepLaws as S
use Rattle.laws_errors.specs.StepLaws.{Agrees, AgreesAtDepths, ListAgrees, TemplatesAreWhole}
use Rattle.laws_errors.proofs.MetNames.{steps_stop_of_expansions_lem, rules_are_in_order_lem}
use Rattle.laws_errors.proofs.RuleDepths.{rule_steps_agree_at_depths_lem}
use Rattle.laws_errors.proofs.RuleLimits.{rule_limits_are_first_lem}
use Rattle.laws_errors.proofs.RuleLists.{none_within, rules_steps_agree_lem, first_error_is_the_breach_lem}
use Rattle.laws_errors.proofs.RuleSteps.{rule_steps_agree_lem}
use Rattle.core_types.specs.declared.type_env.TypeEnv.{TypeEnv}
use Rattle.core_types.specs.Envs.{names_of, IsInterned}
use Rattle.core_typed.specs.FirstErrors.{BeginsAt}
use Rattle.core_rules.specs.declared.term_env.TermEnv.{TermEnv}
use Rattle.core_rules.specs.LimitsNamed.{NamesALimit, IsNamedFrom, IsNamedPastLimits}
use Rattle.core_rules.specs.ReachedLimits.{reached_limit}
use Rattle.core_rules.specs.RuleListTaking.{AreDoneAs, DoesRules, BeginsAsSteps}
use Rattle.core_rules.specs.RuleBreaches.{IsUntyped, untyped, BeginsUntyped}
use Rattle.core_rules.specs.RuleErrors.{IsNestedDeeper, IsExpandedMore, PassesFrom, IsOfRules}
use Rattle.core_rules.specs.RuleLists.{rule_from, rule_within, rules_within, CollectsRules}
use Rattle.core_rules.specs.RulesTold.{TellsRule, is_read, reaches_limit, is_wrong_first, TellsRules, no_rule, rule_first, TellsStages}
use Rattle.core_rules.specs.ShownSettings.{IsSettingOf}
use Rattle.core_rules.proofs.RuleErrorSteps.{wrong_of_rules}
use Rattle.core_rules.proofs.RulesRead.{templates_are_whole_in, rule_same, limit_same}
use Rattle.core_rules.proofs.StepPlaces.{around, wrong_stands}

-- 1. errors that say this
parted : {X Y : Type 0} (f : X → Y) (xs : List X) (ys zs : List Y) → map f xs ≡ ys ++ zs → (a : List X) × (b : List X) × (xs ≡ a ++ b) × (map f a ≡ ys) × (map f b ≡ zs)
parted f xs [] zs h = ([], xs, refl, refl, h)
parted f [] (y ∷ ys) zs h = absurd (cc)
parted {X} {Y} f (x ∷ xs) (y ∷ ys) zs h =
    let head : f x ≡ y = cc in
    let tail : map f xs ≡ ys ++ zs = cc in
    let p = parted f xs ys zs tail in
    (x ∷ p.0, p.1, ap (λ (l : List X). x ∷ l) p.2, ap (λ (l : List Y). f x ∷ l) p.3 ∙ ap (λ (z : Y). z ∷ ys) head, p.4)

all_left : {X : Type 0} (P : X → Type 0) (xs a b : List X) → xs ≡ a ++ b → All P xs → All P a
all_left P xs a b split all = all_members P a (λ x h. All-contains P (a ++ b) x (subst (All P) split all) (Contains-append_left a b x h))

all_right : {X : Type 0} (P : X → Type 0) (xs a b : List X) → xs ≡ a ++ b → All P xs → All P b
all_right P xs a b split all = all_members P b (λ x h. All-contains P (a ++ b) x (subst (All P) split all) (Contains-append_right a b x h))

-- of what is wrong
stand_all : (ps : List Position) (ws : List Mistake) (es : List Error) → error_views es ≡ map refusal_of_error (map R.is_wrong ws) → AreAt (Contains ps) ws → All HasSingleSpans es → All (ErrorStandsAt ps) es
stand_all ps (w ∷ ws) (x ∷ es) v at single =
    let head : error_view x ≡ refusal_of_error (R.is_wrong w) = cc in
    let tail : error_views es ≡ map refusal_of_error (map R.is_wrong ws) = cc in
    let here : ErrorStandsAt ps x = record {
      named = subst (λ r. All (Contains ps) (positions_named r)) (sym head) (All-cons (Contains ps) w.at [] at.0 (All-nil (Contains ps)));
      single = All-head HasSingleSpans x es single;
    } in
    All-cons (ErrorStandsAt ps) x es here (stand_all ps ws es tail at.1 (All-tail HasSingleSpans x es single))
stand_all ps ws es v at single = grind (arith, common_steps)

ill_all : (ws : List Mistake) (es : List Error) → error_views es ≡ map refusal_of_error (map R.is_wrong ws) → AreIllTyped es
ill_all [] [] v = All-nil (λ x. IsIllTyped (error_view x))
ill_all [] (x ∷ es) v = absurd (cc)
ill_all (w ∷ ws) [] v = absurd (cc)
ill_all (w ∷ ws) (x ∷ es) v = grind (arith, common_steps, ill_all ws es)

some_wrong : (w : Mistake) (ws : List Mistake) (es : List Error) → error_views es ≡ map refusal_of_error (map R.is_wrong (w ∷ ws)) → es ≢ []
some_wrong w ws es v none = absurd (let h : error_views [] ≡ map refusal_of_error (map R.is_wrong (w ∷ ws)) = subst (λ (l : List Error). error_views l ≡ map refusal_of_error (map R.is_wrong (w ∷ ws))) none v in cc)

-- one limit
one_limit : (l : NamedLimit) (at : Position) (es : List Error) → error_views es ≡ past_limit l at ∷ [] → (x : Error) × (es ≡ x ∷ []) × (error_view x ≡ past_limit l at)
one_limit l at (x ∷ []) v = (x, refl, let h : error_view x ≡ past_limit l at = cc in h)
one_limit l at _ v = absurd (cc)

-- none
no_views : (es : List Error) → error_views es ≡ [] → es ≡ []
no_views [] v = refl
no_views (x ∷ es) v = absurd (cc)

no_refusals : (xs : List RuleError) → map refusal_of_error xs ≡ [] → xs ≡ []
no_refusals [] v = refl
no_refusals (x ∷ xs) v = absurd (cc)

-- the first one of a step
module _ (all : List Position) (at : Position) (here : Contains all at) (error : RuleError) (own : List RuleError) where
  abbrev IsPlaced : RuleError → Type 0
  IsPlaced x = All (Contains all) (positions_named (refusal_of_error x))

  first_placed : (t : Step TypedRule) → AreAt (Contains all) (wrong_of t) → errors_of at t ≡ error ∷ own → IsPlaced error
  first_placed (went_on m s k []) placed h = absurd (cc)
  first_placed (went_on m s k (w ∷ ws)) placed h = let same : R.is_wrong w ≡ error = cc in subst IsPlaced same (All-cons (Contains all) w.at [] placed.0 (All-nil (Contains all)))
  first_placed (stopped l s []) placed h = let same : passes l at ≡ error = cc in subst IsPlaced same (All-cons (Contains all) at [] here (All-nil (Contains all)))
  first_placed (stopped l s (w ∷ ws)) placed h = let same : R.is_wrong w ≡ error = cc in subst IsPlaced same (All-cons (Contains all) w.at [] placed.0 (All-nil (Contains all)))

-- names that were met are there once
pub names_once : (tyenv : TypeEnv) → IsInterned tyenv → IsDistinct (names_of tyenv)
names_once tyenv inv i j x h l = same_Some i j (sym (inv.numbered x i h) ∙ inv.numbered x j l)

-- what takes few expansions is within the limits
few_some : {X : Type 0} (o : Option (Typing X)) (a : Typing X) → o ≡ Some a → a.expansions ≤ most_expansions → few_enough o ≡ Some a
few_some o a h few = ap few_enough h ∙ ap (λ b. cond b (Some a) None) (le-leb a.expansions most_expansions few)

-- 2. by the tables
module _ (tyenv : TypeEnv) (env : TermEnv) (e : Setting) (is : IsSettingOf tyenv env e) where
  whole : TemplatesAreWhole e
  whole = templates_are_whole_in tyenv env e is

  module _ (id : ℕ) (r : RuleTree) (names : List (List ℕ)) where
    within : (o : Option (Typing TypedRule)) → few_enough (A.rule_reading e most_nested id r (new_scope names)) ≡ o → rule_within e id r names ≡ o
    within o h = ap few_enough (rule_same r id e most_nested (new_scope names)) ∙ h

    comes_to : (o : Option NamedLimit) → L.reached_limit e r names ≡ o → reached_limit e r names ≡ o
    comes_to o h = limit_same r e most_nested 0 (new_scope names) ∙ h

    told_by : (t : Step TypedRule) (o : Option (Typing TypedRule)) → A.rule_reading e most_nested id r (new_scope names) ≡ o → first_limit t ≡ L.reached_limit e r names → Agrees 0 t o → AreAt (Contains (around tyenv env e is r)) (wrong_of t)
        → (es : List Error) → error_views es ≡ map refusal_of_error (errors_of r.at t) → All HasSingleSpans es → TellsRule e r names (names_in t) es
    told_by _ _ reads limit (S.is_read x s k few) at [] v single =
        let a : Typing TypedRule = record { made = x; scope = s; expansions = k } in
        is_read id a (within (Some a) (few_some (A.rule_reading e most_nested id r (new_scope names)) a reads (omega (arith, few)))) refl (comes_to None (sym limit))
    told_by _ _ reads limit (S.is_read x s k few) at (y ∷ es) v single = absurd (cc)
    told_by _ _ reads limit (S.is_wrong m s k w ws) at es v single =
        subst (TellsRule e r names s.names) (append-nil es)
        (is_wrong_first id es [] (within None (ap few_enough reads)) (comes_to None (sym limit)) (some_wrong w ws es v) (ill_all (w ∷ ws) es v) (stand_all (around tyenv env e is r) (w ∷ ws) es v at single) (inl refl))
    told_by _ _ reads limit (S.is_stopped l s o past) at es v single =
        let x = one_limit l r.at es v in
        subst (TellsRule e r names s.names) (sym x.1) (reaches_limit id l x.0 (within None (ap few_enough reads ∙ none_within o past)) (comes_to (Some l) (sym limit)) x.2)
    told_by _ _ reads limit (S.is_stopped_later l s w ws) at es v single =
        let p = parted error_view es (map refusal_of_error (map R.is_wrong (w ∷ ws))) (past_limit l r.at ∷ []) (v ∙ map-append refusal_of_error (map R.is_wrong (w ∷ ws)) (passes l r.at ∷ [])) in
        let x = one_limit l r.at p.1 p.4 in
        subst (TellsRule e r names s.names) (sym p.2)
        (is_wrong_first id p.0 p.1 (within None (ap few_enough reads)) (comes_to None (sym limit)) (some_wrong w ws p.0 p.3) (ill_all (w ∷ ws) p.0 p.3)
        (stand_all (around tyenv env e is r) (w ∷ ws) p.0 p.3 at (all_left HasSingleSpans es p.0 p.1 p.2 single)) (inr (l, x.0, x.1, x.2)))

    told_one : (es : List Error) → error_views es ≡ map refusal_of_error (errors_of r.at (step_of_rule e id r names)) → All HasSingleSpans es → TellsRule e r names (names_in (step_of_rule e id r names)) es
    told_one es v single = grind (arith, common_steps, told_by, rule_limits_are_first_lem, rule_steps_agree_lem, wrong_stands)

  told_rules : (rs : List RuleTree) (names after : List (List ℕ)) (errors : List RuleError) → AreInOrder e rs names after errors → IsDistinct names
      → (es : List Error) → error_views es ≡ map refusal_of_error errors → All HasSingleSpans es → TellsRules e rs names after es
  told_rules _ _ _ _ (N.no_rule names) once [] v single = no_rule names
  told_rules _ _ _ _ (N.no_rule names) once (x ∷ es) v single = absurd (cc)
  told_rules _ _ _ _ (N.rule_first id r rs names mid after errors later met said on rest) once es v single =
      let p = parted error_view es (map refusal_of_error errors) (map refusal_of_error later) (v ∙ map-append refusal_of_error errors later) in
      let longer = on.0.1 in
      let own = subst (λ (ns : List (List ℕ)). TellsRule e r names ns p.0) met (told_one id r names p.0 (p.3 ∙ ap (map refusal_of_error) (sym said)) (all_left HasSingleSpans es p.0 p.1 p.2 single)) in
      let others = told_rules rs mid after later rest (on.1 once) p.1 p.4 (all_right HasSingleSpans es p.0 p.1 p.2 single) in
      subst (TellsRules e (r ∷ rs) names after) (sym p.2)
      (rule_first r rs names on.0.0 after p.0 p.1 (subst (λ (ns : List (List ℕ)). IsDistinct ns) longer (on.1 once)) (subst (λ ns. TellsRule e r names ns p.0) longer own) (subst (λ ns. TellsRules e rs ns after p.1) longer others))

  -- what is said rule by rule, and then by later stages
  pub stages_told : (trees : List RuleTree) (names : List (List ℕ)) → IsDistinct names → (errors : List Error) → BeginsAsSteps e trees names (error_views errors) → All HasSingleSpans errors → TellsStages e trees names errors
  stages_told trees names once errors b single =
      let l = rules_step e trees 0 names in
      let p = parted error_view errors (map refusal_of_error l.errors) b.later b.stages in
      record {
        typing = p.0;
        later = p.1;
        stages = p.2;
        after = l.names;
        rules = told_rules trees names l.names l.errors (rules_are_in_order_lem e trees 0 names) once p.0 p.3 (all_left HasSingleSpans errors p.0 p.1 p.2 single);
        forms = all_members (λ x. IsIllTyped (error_view x)) p.1 (λ x h. All-contains IsIllTyped (error_views p.1) (error_view x) (subst (All IsIllTyped) (sym p.4) b.forms) (in_map error_view p.1 x h));
      }

  -- 3. the limits that they name
  at_depths : (id : ℕ) (r : RuleTree) (names : List (List ℕ)) → AgreesAtDepths 0 most_nested (λ c. A.rule_reading e c id r (new_scope names)) (step_of_rule e id r names)
  at_depths id r names = rule_steps_agree_at_depths_lem e whole most_nested id r 0 (new_scope names)

  module _ (id : ℕ) (r : RuleTree) (rs : List RuleTree) (names : List (List ℕ)) (once : IsDistinct names) where
    abbrev Of : Refusal → Type 0
    Of = IsOfRules e (r ∷ rs) names

    passing : (Passes : (ℕ → Option (Typing TypedRule)) → Type 0) → Passes (rule_from e id r names) → PassesFrom Passes e (r ∷ rs) names r.at
    passing Passes h = record {
      rule = r;
      here = in_head r rs;
      place = refl;
      id = id;
      more = [];
      once = subst (λ (ns : List (List ℕ)). IsDistinct ns) (sym (append-nil names)) once;
      passes = subst (λ ns. Passes (rule_from e id r ns)) (sym (append-nil names)) h;
    }

    nested : A.rule_reading e most_nested id r (new_scope names) ≡ None → Of (past_limit of_nesting r.at)
    nested none = passing IsNestedDeeper (rule_same r id e most_nested (new_scope names) ∙ none)

    expanded : ((d : ℕ) → few_enough (A.rule_reading e d id r (new_scope names)) ≡ None) → Of (past_limit of_expansions r.at)
    expanded none = passing IsExpandedMore (λ d. ap few_enough (rule_same r id e d (new_scope names)) ∙ none d)

    only_wrong : (ws : List Mistake) → All Of (map refusal_of_error (map R.is_wrong ws))
    only_wrong [] = All-nil Of
    only_wrong (w ∷ ws) = All-cons Of (refusal_of_error (R.is_wrong w)) (map refusal_of_error (map R.is_wrong ws)) tt (only_wrong ws)

    limit_last : (l : NamedLimit) → IsOfExpansions l → ((d : ℕ) → A.rule_reading e d id r (new_scope names) ≡ None) → Of (past_limit l r.at)
    limit_last (of_rule l) stops none = absurd stops
    limit_last of_nesting stops none = nested (none most_nested)
    limit_last of_expansions stops none = expanded (λ d. ap few_enough (none d))

    noted_by : (t : Step TypedRule) → AgreesAtDepths 0 most_nested (λ c. A.rule_reading e c id r (new_scope names)) t → StopsOfExpansions t → All Of (map refusal_of_error (errors_of r.at t))
    noted_by _ (S.only_read x s k fits only) stops = All-nil Of
    noted_by _ (S.never_read m s k w ws none) stops = only_wrong (w ∷ ws)
    noted_by _ (S.too_deep s none) stops = All-cons Of (past_limit of_nesting r.at) [] (nested none) (All-nil Of)
    noted_by _ (S.too_long s long) stops = All-cons Of (past_limit of_expansions r.at) [] (expanded (λ d. none_within (A.rule_reading e d id r (new_scope names)) (long d))) (All-nil Of)
    noted_by _ (S.never_read_later l s w ws none) stops = grind (arith, common_steps, map-append, only_wrong, limit_last)

  -- what is so of the rules behind one is so of all
  module _ (r : RuleTree) (rs : List RuleTree) (names mid : List (List ℕ)) (on : GoOn names mid) where
    longer : (more : List (List ℕ)) → mid ++ more ≡ names ++ (on.0.0 ++ more)
    longer more = ap (λ ns. ns ++ more) on.0.1 ∙ append_assoc names on.0.0 more

    from_rest : (Passes : (ℕ → Option (Typing TypedRule)) → Type 0) (at : Position) → PassesFrom Passes e rs mid at → PassesFrom Passes e (r ∷ rs) names at
    from_rest Passes at p = record {
      rule = p.rule;
      here = in_tail r p.rule rs p.here;
      place = p.place;
      id = p.id;
      more = on.0.0 ++ p.more;
      once = subst (λ (ns : List (List ℕ)). IsDistinct ns) (longer p.more) p.once;
      passes = subst (λ ns. Passes (rule_from e p.id p.rule ns)) (longer p.more) p.passes;
    }

    of_rest : (x : Refusal) → IsOfRules e rs mid x → IsOfRules e (r ∷ rs) names x
    of_rest (ill_typed at) h = h
    of_rest (past_limit of_nesting at) h = from_rest IsNestedDeeper at h
    of_rest (past_limit of_expansions at) h = from_rest IsExpandedMore at h
    of_rest _ h = absurd h

    named_rest : (es : List Refusal) (q : RuleTree) → IsNamedPastLimits e mid es q → IsNamedPastLimits e names es q
    named_rest es q h = record {
      id = h.id;
      more = on.0.0 ++ h.more;
      once = subst (λ (ns : List (List ℕ)). IsDistinct ns) (longer h.more) h.once;
      named = subst (IsNamedFrom e h.id q es) (longer h.more) h.named;
    }

  noted_rules : (rs : List RuleTree) (names after : List (List ℕ)) (errors : List RuleError) → AreInOrder e rs names after errors → IsDistinct names → All (IsOfRules e rs names) (map refusal_of_error errors)
  noted_rules _ _ _ _ (N.no_rule names) once = All-nil (IsOfRules e [] names)
  noted_rules _ _ _ _ (N.rule_first id r rs names mid after errors later met said on rest) once =
      let P = IsOfRules e (r ∷ rs) names in
      let own = noted_by id r rs names once (step_of_rule e id r names) (at_depths id r names) (steps_stop_of_expansions_lem e most_nested id r 0 (new_scope names)) in
      let others = All-weaker (IsOfRules e rs mid) P (of_rest r rs names mid on) (map refusal_of_error later) (noted_rules rs mid after later rest (on.1 once)) in
      subst (All P) (sym (map-append refusal_of_error errors later))
      (All-append P (map refusal_of_error errors) (map refusal_of_error later) (subst (λ xs. All P (map refusal_of_error xs)) said own) others)

  pub stages_noted : (trees : List RuleTree) (names : List (List ℕ)) → IsDistinct names → (errors : List Refusal) → BeginsAsSteps e trees names errors → All (IsOfRules e trees names) errors
  stages_noted trees names once errors b =
      let P = IsOfRules e trees names in
      let l = rules_step e trees 0 names in
      subst (All P) (sym b.stages)
      (All-append P (map refusal_of_error l.errors) b.later (noted_rules trees names l.names l.errors (rules_are_in_order_lem e trees 0 names) once) (All-weaker IsIllTyped P (wrong_of_rules e trees names) b.later b.forms))

  -- 4. each rule that lacks only the limits is named
  module _ (id : ℕ) (r : RuleTree) (names : List (List ℕ)) where
    named_by : (t : Step TypedRule) → AgreesAtDepths 0 most_nested (λ c. A.rule_reading e c id r (new_scope names)) t → (es : List Refusal) → ((x : Refusal) → Contains (map refusal_of_error (errors_of r.at t)) x → Contains es x)
        → (d : ℕ) (a : Typing TypedRule) → A.rule_reading e d id r (new_scope names) ≡ Some a → few_enough (A.rule_reading e most_nested id r (new_scope names)) ≡ None → NamesALimit r.at es
    named_by _ (S.only_read x s k fits only) es put d a reached none = grind (arith, common_steps, none-some, few_some)
    named_by _ (S.never_read m s k w ws never) es put d a reached none = absurd (none-some a (sym (never d) ∙ reached))
    named_by _ (S.too_deep s never) es put d a reached none = inl (put (past_limit of_nesting r.at) (in_head (past_limit of_nesting r.at) []))
    named_by _ (S.too_long s long) es put d a reached none = inr (put (past_limit of_expansions r.at) (in_head (past_limit of_expansions r.at) []))
    named_by _ (S.never_read_later l s w ws never) es put d a reached none = absurd (none-some a (sym (never d) ∙ reached))

    named_from : (es : List Refusal) → ((x : Refusal) → Contains (map refusal_of_error (errors_of r.at (step_of_rule e id r names))) x → Contains es x) → IsNamedFrom e id r es names
    named_from es put d a reached none =
        named_by (step_of_rule e id r names) (at_depths id r names) es put d a (sym (rule_same r id e d (new_scope names)) ∙ reached) (sym (ap few_enough (rule_same r id e most_nested (new_scope names))) ∙ none)

  named_rules : (rs : List RuleTree) (names after : List (List ℕ)) (errors : List RuleError) → AreInOrder e rs names after errors → IsDistinct names
      → (es : List Refusal) → ((x : Refusal) → Contains (map refusal_of_error errors) x → Contains es x) → All (IsNamedPastLimits e names es) rs
  named_rules _ _ _ _ (N.no_rule names) once es put = All-nil (IsNamedPastLimits e names es)
  named_rules _ _ _ _ (N.rule_first id r rs names mid after errors later met said on rest) once es put =
      let P = IsNamedPastLimits e names es in
      let own = map refusal_of_error errors in
      let others = map refusal_of_error later in
      let both = map-append refusal_of_error errors later in
      let here = named_from id r names es (λ x h. put x (subst (λ xs. Contains xs x) (sym both) (Contains-append_left own others x (subst (λ xs. Contains (map refusal_of_error xs) x) said h)))) in
      let first : P r = record {
        id = id;
        more = [];
        once = subst (λ (ns : List (List ℕ)). IsDistinct ns) (sym (append-nil names)) once;
        named = subst (IsNamedFrom e id r es) (sym (append-nil names)) here;
      } in
      All-cons P r rs first
      (All-weaker (IsNamedPastLimits e mid es) P (named_rest r rs names mid on es) rs
      (named_rules rs mid after later rest (on.1 once) es (λ x h. put x (subst (λ xs. Contains xs x) (sym both) (Contains-append_right own others x h)))))

  pub stages_named : (trees : List RuleTree) (names : List (List ℕ)) → IsDistinct names → (errors : List Refusal) → BeginsAsSteps e trees names errors → All (IsNamedPastLimits e names errors) trees
  stages_named trees names once errors b =
      let l = rules_step e trees 0 names in
      named_rules trees names l.names l.errors (rules_are_in_order_lem e trees 0 names) once errors (λ x h. subst (λ xs. Contains xs x) (sym b.stages) (Contains-append_left (map refusal_of_error l.errors) b.later x h))

  -- 5. what reading them makes, and where the first error stands
  rules_same : (rs : List RuleTree) (id : ℕ) (names : List (List ℕ)) → rules_within e id rs names ≡ A.rules_within e id rs names
  rules_same [] id names = refl
  rules_same (r ∷ rs) id names = λ j. then_option (few_enough (rule_same r id e most_nested (new_scope names) j)) (λ a. with_typed a.made (rules_same rs (suc id) a.scope.names j))

  module _ (now : List (List ℕ)) (rules : List TypedRule) (after : List Error) where
    reads_by : (l : RulesStep) (o : Option TypedRules) → ListAgrees l o → AreDoneAs l now [] rules [] after → ((after ≡ []) × (o ≡ Some (record { rules = rules; names = now }))) ⊎ ((after ≢ []) × (o ≡ None))
    reads_by l o h d = grind (arith, common_steps, no_views, no_refusals)

    module _ (trees : List RuleTree) (names : List (List ℕ)) where
      begins_by : (xs : List RuleError) → (rules_step e trees 0 names).errors ≡ xs → (es : List Error) → after ≡ es → error_views es ≡ map refusal_of_error xs → All HasSingleSpans es → (after ≡ []) ⊎ BeginsAt (IsUntyped e trees names) after
      begins_by [] said [] same v single = inl same
      begins_by [] said (x ∷ es) same v single = absurd (cc)
      begins_by (w ∷ ws) said [] same v single = absurd (cc)
      begins_by (w ∷ ws) said (x ∷ es) same v single =
          let f = first_error_is_the_breach_lem e whole trees 0 names w ws said in
          let ps = around tyenv env e is f.rule in
          let head : error_view x ≡ refusal_of_error w = cc in
          let counted : 0 + length f.before ≡ length f.before = omega arith in
          let here : Contains ps f.rule.at = in_head f.rule.at _ in
          inr (record {
            first = x;
            rest = es;
            is = same;
            positions = ps;
            wrong = untyped f.before f.rule f.after f.parts f.read (rules_same f.before 0 names ∙ f.typed) (subst (λ j. rule_within e j f.rule f.read.names ≡ None) counted (within (0 + length f.before) f.rule f.read.names None f.untyped));
            stands = record {
              named = subst (λ r. All (Contains ps) (positions_named r)) (sym head)
                  (first_placed ps f.rule.at here w f.own (step_of_rule e (0 + length f.before) f.rule f.read.names) (wrong_stands tyenv env e is (0 + length f.before) f.rule f.read.names) f.said);
              single = All-head HasSingleSpans x es single;
            };
          })

-- by the tables
module _ (env : TermEnv) (old new : TypeEnv) (trees : List RuleTree) (rules : List TypedRule) (after : List Error) (done : DoesRules env old new trees [] rules [] after) where
  pub rules_collected : CollectsRules env old new [] after trees rules
  rules_collected e is =
      let l = rules_step e trees 0 (names_of old) in
      reads_by old env e is (names_of new) rules after l (rules_within e 0 trees (names_of old))
      (subst (λ (o : Option TypedRules). ListAgrees l o) (sym (rules_same old env e is trees 0 (names_of old))) (rules_steps_agree_lem e (whole old env e is) trees 0 (names_of old))) (done e is)

  pub first_untyped : BeginsUntyped env old trees [] after
  first_untyped e is none =
      let d = done e is in
      begins_by old env e is (names_of new) rules after trees (names_of old) (rules_step e trees 0 (names_of old)).errors refl d.errors.more d.errors.added d.errors.views d.errors.single
