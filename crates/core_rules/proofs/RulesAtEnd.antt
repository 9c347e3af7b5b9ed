-- What stands at the end of the reading of rules: all of them are typed, named and defined, or something was noted.
use Rattle.std.proofs.Common.{◌≡◌, ◌≢◌, List, [], Some, None, option_map, sym, ap, subst, ◌∙◌, inl, inr, ◌⊎◌, arith}
use Rattle.std.specs.List.{flat_map}
use Rattle.std.proofs.lemmas.Option.{none-some, same_Some}
use Rattle.core_syntax.specs.declared.syntax.Error.{Error}
use Rattle.model.specs.lists.Syntax.{Definition}
use Rattle.model.specs.lists.Names.{IsDistinct}
use Rattle.model.specs.lists.TermTable.{rule_trees}
use Rattle.model.specs.lists.Setting.{Setting}
use Rattle.model.specs.lists.Elaborated.{TypedRules, typed_rules, named, named_rules, rule_names}
use Rattle.model.specs.rules.Typed.{TypedRule}
use Rattle.core_types.specs.declared.type_env.TypeEnv.{TypeEnv}
use Rattle.core_types.specs.Envs.{names_of}
use Rattle.core_syntax.specs.NotedErrors.{NotesMore}
use Rattle.core_syntax.proofs.NotedErrors.{some_noted}
use Rattle.core_typed.proofs.FirstErrors.{may_check}
use Rattle.core_rules.proofs.RulesRefused.{mapped_noted}
use Rattle.core_terms.specs.TermViews.{term_views}
use Rattle.core_rules.specs.declared.term_env.TermEnv.{TermEnv}
use Rattle.core_typed.specs.declared.rules.Rule.{Rule}
use Rattle.core_rules.specs.Constructors.{AreFoundMade, AreTermsNamed, uses_of_rule}
use Rattle.core_typed.specs.Elaborating.{Checks}
use Rattle.core_rules.specs.RuleLists.{CollectsRules}
use Rattle.core_typed.specs.RuleNaming.{MapsNames, AreDefined}
use Rattle.core_rules.specs.RulesRead.{CanBeRead, AreReadRules}
use Rattle.core_typed.specs.RuleViews.{rule_views}
use Rattle.core_rules.specs.ShownSettings.{Keeps, IsSettingOf}
use Rattle.core_rules.proofs.RulesTyped.{still_some, rules_typed}

module _ (env : TermEnv) (old new : TypeEnv) (defs : List Definition) (after : TermEnv) (keeps : Keeps old new) (typed : List Rule) (e : Setting) (is : IsSettingOf old env e) (k : AreTermsNamed e (names_of old))
    (names_are : rule_views after.rules.items ≡ named_rules (term_views env.terms.items) (rule_views typed)) where
  abbrev rules : List TypedRule
  rules = rule_views after.rules.items

  abbrev read : TypedRules
  read = record { rules = rule_views typed; names = names_of new }

  abbrev Ends : List Error → Type 0
  Ends errors = ((errors ≡ []) × AreReadRules e defs old new after) ⊎ ((errors ≢ []) × ((l : TypedRules) → CanBeRead e defs (names_of old) l → ⊥))

  -- the rules that can be read are these
  same_rules : typed_rules e 0 (rule_trees defs) (names_of old) ≡ Some read → (l : TypedRules) → CanBeRead e defs (names_of old) l → l.rules ≡ rules
  same_rules t l c = grind (arith, same_Some)

  not_typed : typed_rules e 0 (rule_trees defs) (names_of old) ≡ None → (l : TypedRules) → CanBeRead e defs (names_of old) l → ⊥
  not_typed t l c = none-some l (sym (ap (option_map (named e)) t) ∙ c.elaborate.typed)

  right : typed_rules e 0 (rule_trees defs) (names_of old) ≡ Some read → IsDistinct (rule_names rules) → AreDefined (term_views env.terms.items) → CanBeRead e defs (names_of old) (record { rules = rules; names = names_of new })
  right t once defined = grind arith

  module _ (e1 e2 e3 e4 : List Error) where
    -- all are typed
    where_typed : e1 ≡ [] → e4 ≡ e3 → typed_rules e 0 (rule_trees defs) (names_of old) ≡ Some read → MapsNames e1 e2 rules after.rule_map → Checks e2 e3 (AreDefined (term_views env.terms.items)) → Ends e4
    where_typed none last t (inl n) (inl d) = inl (last ∙ d.0 ∙ n.0 ∙ none, record { right = right t n.1 d.1; named = n.2 })
    where_typed none last t (inl n) (inr d) = inr (λ g. some_noted d.0 (sym last ∙ g), λ l c. d.1 (subst AreDefined (sym is.terms) c.defined))
    where_typed none last t (inr n) (inl d) = inr (λ g. some_noted n.0 (sym d.0 ∙ sym last ∙ g), λ l c. n.1 (subst (λ rs. IsDistinct (rule_names rs)) (same_rules t l c) c.elaborate.distinct))
    where_typed none last t (inr n) (inr d) = inr (λ g. some_noted d.0 (sym last ∙ g), λ l c. n.1 (subst (λ rs. IsDistinct (rule_names rs)) (same_rules t l c) c.elaborate.distinct))

    module _ (n : MapsNames e1 e2 rules after.rule_map) (d : Checks e2 e3 (AreDefined (term_views env.terms.items))) (c : Checks e3 e4 (AreFoundMade env new (flat_map uses_of_rule (rule_trees defs)))) where
      -- what was noted at the first is there at the end
      noted_first : e1 ≢ [] → e4 ≢ []
      noted_first some = still_some e3 e4 (still_some e2 e3 (still_some e1 e2 some (mapped_noted e1 e2 rules after.rule_map n)) (may_check d)) (may_check c)

      end : ((e1 ≡ []) × (e4 ≡ e3) × (typed_rules e 0 (rule_trees defs) (names_of old) ≡ Some read)) ⊎ (((e1 ≢ []) ⊎ NotesMore e3 e4) × (typed_rules e 0 (rule_trees defs) (names_of old) ≡ None)) → Ends e4
      end (inl t) = where_typed t.0 t.1 t.2 n d
      end (inr (inl some, t)) = inr (noted_first some, not_typed t)
      end (inr (inr noted, t)) = inr (some_noted noted, not_typed t)

      pub rules_end : CollectsRules env old new [] e1 (rule_trees defs) (rule_views typed) → Ends e4
      rules_end r = end (rules_typed env old new keeps.inverse keeps e is k [] e1 e3 e4 (rule_trees defs) (rule_views typed) r c)
