-- Where all that the rules of a list lack is the limits, the first of them that has no typed rule within the limits is named.
use Rattle.std.proofs.Common.{◌≡◌, ℕ, suc, ◌+◌, Bool, List, [], ◌∷◌, ◌++◌, take, Option, Some, None, slice_get, refl, sym, ap, subst, ◌∙◌, arith}
use Rattle.std.specs.List.{flat_map}
use Rattle.std.proofs.lemmas.List.{append-nil, append_assoc}
use Rattle.std.proofs.lemmas.Option.{none-some}
use Rattle.std.proofs.lemmas.Grind.{common_steps}
use Rattle.model.specs.lists.Syntax.{RuleTree, Definition}
use Rattle.model.specs.lists.Names.{IsDistinct}
use Rattle.model.specs.lists.TermTable.{rule_trees, decl_names, function_of, term_names_met}
use Rattle.model.specs.lists.Setting.{Setting}
use Rattle.model.specs.lists.Typings.{Typing}
use Rattle.model.specs.lists.Elaborated.{elaborated_rule, most_nested, typed_rule, typed_rules, TypedRules, with_typed}
use Rattle.model.specs.rules.Outcome.{then_option}
use Rattle.model.specs.rules.Typed.{TypedRule}
use Rattle.model.specs.claims.Environments.{TypesRead, AreReadable, setting_of}
use Rattle.model.specs.claims.Refusals.{Refusal}
use Rattle.model.proofs.Names.{distinct_names}
use Rattle.core_rules.proofs.ConstructorLaws.{with_some}
use Rattle.laws_typing.specs.FurtherNames.{AreThereAlike}
use Rattle.laws_typing.proofs.NamesOfTables.{names_of_rules_dont_matter_lem}
use Rattle.laws_typing.proofs.TypedResults.{names_stay}
use Rattle.laws_typing.proofs.TypedRules.{rules_agree, rules_one_way, typed_within_limits}
use Rattle.laws_typing.proofs.Typings.{then_gives}
use Rattle.core_rules.specs.LimitsNamed.{IsTypedPastLimits, NamesTypedPastLimits, rules_reached, NamesFirstPastLimits}

-- 1. what is so from further names is so from the first ones
alike_some : {X : Type 0} (o p : Option (Typing X)) (a : Typing X) → AreThereAlike o p → p ≡ Some a → (b : Typing X) × (o ≡ Some b)
alike_some None None a h k = absurd (none-some a k)
alike_some None (Some b) a h k = absurd h
alike_some (Some b) p a h k = (b, refl)

alike_none : {X : Type 0} (o p : Option (Typing X)) → AreThereAlike o p → p ≡ None → o ≡ None
alike_none o p h k = grind (arith, none-some)

-- 2. rules in order
-- names go on from others, and are as distinct
abbrev Stay : List (List ℕ) → List (List ℕ) → Type 0
Stay names after = ((more : List (List ℕ)) × (after ≡ names ++ more)) × (IsDistinct names → IsDistinct after)

stay_on : (names mid after : List (List ℕ)) → Stay names mid → Stay mid after → Stay names after
stay_on names mid after a b = ((a.0.0 ++ b.0.0, b.0.1 ∙ ap (λ ns. ns ++ b.0.0) a.0.1 ∙ append_assoc names a.0.0 b.0.0), λ d. b.1 (a.1 d))

rest_none : (q : TypedRule) (o : Option TypedRules) → with_typed q o ≡ None → o ≡ None
rest_none q o h = grind (arith, common_steps, none-some)

-- the first of these rules, from an id on, that has no typed rule within the limits
record FirstFrom (s : Setting) (d start : ℕ) (rs : List RuleTree) (names : List (List ℕ)) : Type 0 where
  pub place : ℕ
  pub rule : RuleTree
  pub here : slice_get rs place ≡ Some rule
  pub before : TypedRules
  pub typed : typed_rules s start (take place rs) names ≡ Some before
  pub id : ℕ
  pub counted : id ≡ start + place
  pub typing : Typing TypedRule
  pub reached : elaborated_rule s d id rule before.names ≡ Some typing
  pub none : typed_rule s id rule before.names ≡ None
  pub stay : Stay names before.names

module _ (s : Setting) (d : ℕ) where
  at_head : (id : ℕ) (r : RuleTree) (rs : List RuleTree) (names : List (List ℕ)) (a : Typing TypedRule) → elaborated_rule s d id r names ≡ Some a → typed_rule s id r names ≡ None → FirstFrom s d id (r ∷ rs) names
  at_head id r rs names a reached none = record {
    place = 0;
    rule = r;
    here = refl;
    before = record { rules = []; names = names };
    typed = refl;
    id = id;
    counted = omega arith;
    typing = a;
    reached = reached;
    none = none;
    stay = (([], sym (append-nil names)), λ once. once);
  }

  later : (id : ℕ) (r : RuleTree) (rs : List RuleTree) (names : List (List ℕ)) (b : Typing TypedRule) → typed_rule s id r names ≡ Some b → FirstFrom s d (suc id) rs b.scope.names → FirstFrom s d id (r ∷ rs) names
  later id r rs names b h f =
      let g = ((typed_within_limits s id r names b.made b.scope b.expansions).1 h).0 in
      let c = f.counted in
      record {
        place = suc f.place;
        rule = f.rule;
        here = f.here;
        before = record { rules = b.made ∷ f.before.rules; names = f.before.names };
        typed = ap (λ (o : Option (Typing TypedRule)). then_option o (λ a. with_typed a.made (typed_rules s (suc id) (take f.place rs) a.scope.names))) h ∙ ap (with_typed b.made) f.typed;
        id = f.id;
        counted = omega (arith, c);
        typing = f.typing;
        reached = f.reached;
        none = f.none;
        stay = stay_on names b.scope.names f.before.names (names_stay s most_nested id r names b.made b.scope b.expansions g) f.stay;
      }

  -- a rule has one typed rule at most
  same_scope : (id : ℕ) (r : RuleTree) (names : List (List ℕ)) (a b : Typing TypedRule) → elaborated_rule s d id r names ≡ Some a → typed_rule s id r names ≡ Some b → a.scope ≡ b.scope
  same_scope id r names a b g h =
      (rules_one_way s d most_nested id r names a.made b.made a.scope b.scope a.expansions b.expansions
      ((rules_agree s d id r names a.made a.scope a.expansions).1 g) ((typed_within_limits s id r names b.made b.scope b.expansions).1 h).0).1

  first_from : (id : ℕ) (rs : List RuleTree) (names : List (List ℕ)) (l : TypedRules) → rules_reached s d id rs names ≡ Some l → typed_rules s id rs names ≡ None → FirstFrom s d id rs names
  first_from id [] names l reached none = absurd (none-some (record { rules = []; names = names }) (sym none))
  first_from id (r ∷ rs) names l reached none =
      let a = then_gives (elaborated_rule s d id r names) (λ a. with_typed a.made (rules_reached s d (suc id) rs a.scope.names)) reached in
      let m = with_some a.0.made (rules_reached s d (suc id) rs a.0.scope.names) l a.2 in
      elim (typed_rule s id r names) as (λ o. typed_rule s id r names ≡ o → FirstFrom s d id (r ∷ rs) names) [
        | None ↦ λ h. at_head id r rs names a.0 a.1 h
        | Some b ↦ grind (arith, common_steps, first_from (suc id) rs b.scope.names m.0, later, same_scope, rest_none)
      ] refl

-- 3. the rules of a list
module _ (e : TypesRead) (readable : AreReadable e) (defs : List Definition) (expand : Bool) (errors : List Refusal) (named : NamesTypedPastLimits e defs expand errors) where
  abbrev s : Setting
  s = setting_of e defs expand

  abbrev names : List (List ℕ)
  names = term_names_met e.known defs

  names_once : IsDistinct names
  names_once = distinct_names e.known.names (decl_names defs ++ flat_map function_of defs) readable.well_formed.names_distinct

  pub first_named : NamesFirstPastLimits e defs expand errors
  first_named h =
      let f = first_from s h.depth 0 (rule_trees defs) names h.rules h.reached h.none in
      let more = f.stay.0.0 in
      let longer = f.stay.0.1 in
      let once = subst (λ (ns : List (List ℕ)). IsDistinct ns) longer (f.stay.1 names_once) in
      let b = alike_some (elaborated_rule s h.depth f.id f.rule names) (elaborated_rule s h.depth f.id f.rule (names ++ more)) f.typing
      (names_of_rules_dont_matter_lem e defs expand h.depth f.id f.rule more readable once).0 (subst (λ ns. elaborated_rule s h.depth f.id f.rule ns ≡ Some f.typing) longer f.reached) in
      let none = alike_none (typed_rule s f.id f.rule names) (typed_rule s f.id f.rule (names ++ more))
      (names_of_rules_dont_matter_lem e defs expand most_nested f.id f.rule more readable once).1 (subst (λ ns. typed_rule s f.id f.rule ns ≡ None) longer f.none) in
      let c = f.counted in
      let place : f.place ≡ f.id = omega (arith, c) in
      let here = subst (λ i. slice_get (rule_trees defs) i ≡ Some f.rule) place f.here in
      let p : IsTypedPastLimits e defs expand f.id = record { terms = h.terms; rule = f.rule; here = here; depth = h.depth; typing = b.0; reached = b.1; none = none } in
      record {
        id = f.id;
        rule = f.rule;
        here = here;
        before = f.before;
        typed = subst (λ i. typed_rules s 0 (take i (rule_trees defs)) names ≡ Some f.before) place f.typed;
        none = f.none;
        named = named f.id p;
      }
