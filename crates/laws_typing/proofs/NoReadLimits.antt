-- No rule of a list that elaborates passes a limit on expansions.
use Rattle.std.proofs.Common.{◌≡◌, ℕ, zero, suc, ◌+◌, ◌≤◌, Bool, List, [], ◌++◌, Option, Some, option_map, slice_get, flat_map, refl, sym, ap, ◌∙◌, subst, subst₂, arith}
use Rattle.std.proofs.lemmas.Grind.{common_steps}
use Rattle.std.proofs.lemmas.List.{append-nil, append_assoc}
use Rattle.model.specs.lists.Syntax.{Definition, RuleTree}
use Rattle.model.specs.lists.Names.{IsDistinct}
use Rattle.model.specs.lists.TermTable.{rule_trees, term_names_met, decl_names, function_of}
use Rattle.model.specs.lists.Setting.{Setting, Scope}
use Rattle.model.specs.lists.Elaborated.{TypedRules, typed_rules, named, few_enough, most_nested, most_expansions}
use Rattle.model.specs.lists.Elaborates.{ElaboratesRule, ElaboratesRules, no_rule, one_rule}
use Rattle.model.specs.rules.Typed.{TypedRule}
use Rattle.model.specs.claims.Environments.{TypesRead, AreReadable, setting_of, IsElaborated}
use Rattle.model.specs.claims.Refusals.{nesting_passes, expansions_pass}
use Rattle.model.proofs.Elements.{some_is, none_some}
use Rattle.model.proofs.Names.{distinct_names}
use Rattle.laws_typing.specs.FurtherNames.{AreThereAlike}
use Rattle.laws_typing.proofs.NamesOfTables.{names_of_rules_dont_matter_lem}
use Rattle.laws_typing.proofs.TypedResults as results
use Rattle.laws_typing.proofs.TypedRules as typed
use Rattle.laws_typing.specs.ReadLimits.{ElaboratedRulesAreWithinLimits, ElaboratedListsPassNoLimit}

-- a rule has a derivation within the limits, from these names and more
pub record Derived (e : Setting) (names : List (List ℕ)) (id : ℕ) (r : RuleTree) : Type 0 where
  pub more : List (List ℕ)
  pub once : IsDistinct names → IsDistinct (names ++ more)
  pub rule : TypedRule
  pub scope : Scope
  pub count : ℕ
  pub made : ElaboratesRule e most_nested id r (names ++ more) rule scope count
  pub few : count ≤ most_expansions

module _ (e : Setting) where
  derived_at : {id : ℕ} {rs : List RuleTree} {names after : List (List ℕ)} {qs : List TypedRule} → ElaboratesRules e id rs names qs after
      → (i : ℕ) (r : RuleTree) → slice_get rs i ≡ Some r → (k : ℕ) → k ≡ id + i → Derived e names k r
  derived_at no_rule i r h k same = absurd (none_some r h)
  derived_at {id = id} {names = names} (one_rule {n = n} {r = x} {q = q} {t = t} g l rest) zero r h k same =
      let a : id ≡ k = omega arith in
      let b : names ≡ names ++ [] = sym (append-nil names) in
      record {
        more = [];
        once = subst IsDistinct b;
        rule = q;
        scope = t;
        count = n;
        made = grind (arith, common_steps, some_is);
        few = l;
      }
  derived_at {id = id} {names = names} (one_rule {n = n} {r = x} {q = q} {t = t} g l rest) (suc i) r h k same =
      let d = derived_at rest i r h k (let s : k ≡ suc id + i = omega arith in s) in
      let stay = results.names_stay e most_nested id x names q t n g in
      let b : t.names ++ d.more ≡ names ++ (stay.0.0 ++ d.more) = ap (λ ns. ns ++ d.more) stay.0.1 ∙ append_assoc names stay.0.0 d.more in
      record {
        more = stay.0.0 ++ d.more;
        once = λ o. subst IsDistinct b (d.once (stay.1 o));
        rule = d.rule;
        scope = d.scope;
        count = d.count;
        made = subst (λ ns. ElaboratesRule e most_nested k r ns d.rule d.scope d.count) b d.made;
        few = d.few;
      }

  typed_there : (trees : List RuleTree) (names : List (List ℕ)) (o : Option TypedRules) (l : TypedRules) → typed_rules e 0 trees names ≡ o → option_map (named e) o ≡ Some l
      → (k : TypedRules) × (typed_rules e 0 trees names ≡ Some k)
  typed_there trees names o l g h = grind (arith, common_steps, none_some)

names_once : (e : TypesRead) (defs : List Definition) → AreReadable e → IsDistinct (term_names_met e.known defs)
names_once e defs readable = distinct_names e.known.names (decl_names defs ++ flat_map function_of defs) readable.well_formed.names_distinct

derived : (e : TypesRead) (defs : List Definition) (expand : Bool) (rules : TypedRules) → IsElaborated e defs expand rules → (i : ℕ) (r : RuleTree) → slice_get (rule_trees defs) i ≡ Some r
    → Derived (setting_of e defs expand) (term_names_met e.known defs) i r
derived e defs expand rules h i r at =
    let s = setting_of e defs expand in
    let names = term_names_met e.known defs in
    let k = typed_there s (rule_trees defs) names (typed_rules s 0 (rule_trees defs) names) rules refl h.elaborate.typed in
    derived_at s ((typed.lists_agree s 0 (rule_trees defs) names k.0.rules k.0.names).1 k.1) i r at i (let q : i ≡ 0 + i = omega arith in q)

pub elaborated_rules_are_within_limits_lem : ElaboratedRulesAreWithinLimits
elaborated_rules_are_within_limits_lem e defs expand rules h id r here none =
    let d = derived e defs expand rules h id r here in
    let alike = names_of_rules_dont_matter_lem e defs expand most_nested id r d.more h.readable (d.once (names_once e defs h.readable)) in
    let made = (typed.typed_within_limits (setting_of e defs expand) id r (term_names_met e.known defs ++ d.more) d.rule d.scope d.count).0 (d.made, d.few) in
    subst₂ (λ a b. AreThereAlike a b) none made alike.1

pub elaborated_lists_pass_no_limit_lem : ElaboratedListsPassNoLimit
elaborated_lists_pass_no_limit_lem e defs expand rules h _ _ (nesting_passes id w) =
    elaborated_rules_are_within_limits_lem e defs expand rules h id w.rule w.here (ap few_enough w.none)
elaborated_lists_pass_no_limit_lem e defs expand rules h _ _ (expansions_pass id w) =
    elaborated_rules_are_within_limits_lem e defs expand rules h id w.rule w.here (w.none most_nested)
