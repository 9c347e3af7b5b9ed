-- From what reading terms and rules gave to what the environments show of the list.
use Rattle.std.proofs.Common.{◌≡◌, ◌≢◌, ◌==◌, ℕ, Bool, true, false, List, [], ◌∷◌, ◌++◌, length, OnErr, Result, refl, sym, ap, subst, ◌∙◌, ◌⊎◌, arith, eqb-true}
use Rattle.std.specs.List.{flat_map}
use Rattle.std.proofs.lemmas.Bool.{false≢true}
use Rattle.std.proofs.lemmas.List.{append_assoc}
use Rattle.std.proofs.lemmas.Option.{same_Some}
use Rattle.std.proofs.lemmas.Grind.{common_steps}
use Rattle.core_syntax.specs.declared.syntax.Error.{Error}
use Rattle.model.specs.lists.Syntax.{Definition}
use Rattle.model.specs.lists.Names.{IsDistinct}
use Rattle.model.specs.lists.TermTable.{decl_names, function_of}
use Rattle.model.specs.lists.Elaborated.{TypedRules, rule_named}
use Rattle.model.specs.rules.Meaning.{look}
use Rattle.model.specs.rules.Typed.{TypedRule}
use Rattle.model.specs.claims.Environments.{TypesRead, AreReadable, setting_of, IsElaborated, IsReadAs, environment_of, with_read_names, rules_by_name, ShowsTerms, AreTermsOf, AreRulesOf, IsLeftByRefusal}
use Rattle.model.proofs.NumbersOf.{environments_are_read}
use Rattle.laws_typing.proofs.TypesStay.{types_are_shown_lem, types_stay_lem}
use Rattle.core_types.specs.declared.type_env.TypeEnv.{TypeEnv}
use Rattle.core_types.specs.Envs.{names_of, IsInterned}
use Rattle.core_types.specs.EnvViews.{environment_view}
use Rattle.core_terms.specs.declared.term_table.TermTable.{TermTable}
use Rattle.core_terms.specs.ShownTables.{shown_by}
use Rattle.core_terms.proofs.TypesStaying.{with_names_more}
use Rattle.laws_typing.proofs.TermLaws.{terms_stand_at_ids_lem}
use Rattle.core_rules.specs.declared.term_env.TermEnv.{TermEnv}
use Rattle.core_typed.specs.RuleViews.{rule_views}
use Rattle.core_rules.specs.RulesRead.{CanBeRead, AreReadRules, ReadsRules, rules_of}
use Rattle.core_rules.specs.ShownEnvs.{terms_shown_by, environment_shown_by}
use Rattle.core_rules.specs.ShownSettings.{Keeps, IsSettingOf}
use Rattle.core_rules.proofs.DefinedTerms.{terms_defined, all_defined}
use Rattle.core_rules.proofs.NamedTerms.{terms_named}
use Rattle.core_rules.proofs.ShownSettings.{setting_shown, terms_once}

-- the rule of a name is the first entry of that name
look_rule : (rs : List TypedRule) (k : ℕ) → rule_named rs k ≡ look (λ n. n == k) (rules_by_name rs)
look_rule [] k = refl
look_rule (r ∷ rs) k = grind (arith, common_steps, look_rule rs k)

-- where only names are added, the types stay
pub left_by_keeping : (e : TypesRead) → AreReadable e → (old new : TypeEnv) → IsLeftByRefusal e (environment_view old) → Keeps old new → IsLeftByRefusal e (environment_view new)
left_by_keeping e r old new left k =
    let more : List (List ℕ) = left.more ++ k.names.0 in
    let names : names_of new ≡ e.known.names ++ more = k.names.1 ∙ ap (λ ns. ns ++ k.names.0) left.types.names ∙ append_assoc e.known.names left.more k.names.0 in
    let distinct : IsDistinct (names_of new) = λ i j x h l. same_Some i j (sym (k.inverse.numbered x i h) ∙ k.inverse.numbered x j l) in
    let e' : TypesRead = with_read_names e (e.known.names ++ more) in
    let before = types_stay_lem e (environment_of e) (environment_view old) left.more r (types_are_shown_lem e r) left.types in
    let after = types_stay_lem e (environment_of e) (environment_of e') more r (types_are_shown_lem e r) (environments_are_read e' (subst IsDistinct names distinct)) in
    record {
      more = more;
      types = grind (arith, common_steps);
    }

module _ (e : TypesRead) (r : AreReadable e) (defs : List Definition) where
  -- what the terms leave
  pub left_by_terms : (table : TermTable) (tyenv : TypeEnv) → AreTermsOf e defs (shown_by table) (environment_view tyenv) → IsLeftByRefusal e (environment_view tyenv)
  left_by_terms table tyenv a = grind (arith, common_steps, with_names_more e.known.names (decl_names defs ++ flat_map function_of defs))

  -- what reading the rules gives of the list's own tables
  pub read_by_terms : (table : TermTable) (old new : TypeEnv) → AreTermsOf e defs (shown_by table) (environment_view old) → (env : TermEnv) → terms_shown_by env ≡ shown_by table → (expand : Bool) → env.expand_internal_extractors ≡ expand → (after : TermEnv) (errors : List Error) → ReadsRules env old new defs after errors
      → ((errors ≡ []) × AreReadRules (setting_of e defs expand) defs old new after) ⊎ ((errors ≢ []) × ((rules : TypedRules) → CanBeRead (setting_of e defs expand) defs (names_of old) rules → ⊥))
  read_by_terms table old new a env shown expand flag after errors reads =
      let own : AreTermsOf e defs (terms_shown_by env) (environment_view old) = subst (λ t. AreTermsOf e defs t (environment_view old)) (sym shown) a in
      let is : IsSettingOf old env (setting_of e defs expand) = subst (λ b. IsSettingOf old env (setting_of e defs b)) flag (setting_shown e r defs env old own) in
      let inverse : IsInterned old = record { numbered = a.types.inverse.numbered; named = a.types.inverse.named } in
      reads (setting_of e defs expand) is (terms_named env old (setting_of e defs expand) inverse is (terms_stand_at_ids_lem e.known defs) (terms_once e r defs a.valid))

  module _ (table : TermTable) (old new : TypeEnv) (a : AreTermsOf e defs (shown_by table) (environment_view old)) (k : Keeps old new) where
    pub left_in_the_end : IsLeftByRefusal e (environment_view new)
    left_in_the_end = left_by_keeping e r old new (left_by_terms table old a) k

    module _ (env : TermEnv) (shown : terms_shown_by env ≡ shown_by table) (expand : Bool) (flag : env.expand_internal_extractors ≡ expand) where
      elaborated : (l : TypedRules) → CanBeRead (setting_of e defs expand) defs (names_of old) l → IsElaborated e defs expand l
      elaborated l c = grind (arith, common_steps, all_defined e.known defs c.defined)

      pub all_read : AreReadRules (setting_of e defs expand) defs old new env → AreRulesOf e defs expand (rules_of env new) (environment_shown_by env) (environment_view new)
      all_read x = record {
        elaborated = elaborated (rules_of env new) x.right;
        rows = subst (ShowsTerms e defs) (sym shown) a.rows;
        typed = refl;
        look_ups = λ n. x.named n ∙ look_rule (rule_views env.rules.items) n;
        flag = flag;
        types = subst (λ ns. IsReadAs (environment_view new) (with_read_names e ns)) (sym left_in_the_end.types.names) left_in_the_end.types;
      }

    -- what can be said to be elaborated can be read
    pub could_be_read : (expand : Bool) (l : TypedRules) → IsElaborated e defs expand l → CanBeRead (setting_of e defs expand) defs (names_of old) l
    could_be_read expand l x = grind (arith, common_steps, terms_defined e.known defs x.defined)

nothing : (xs : List Error) → length xs ≡ 0 → xs ≡ []
nothing xs e = grind (arith, common_steps)

-- an empty list of errors has none
pub is_nothing : (n : ℕ) (b : Bool) (xs : List Error) → n ≡ length xs → b ≡ (n == 0) → b ≡ true → xs ≡ []
is_nothing n b xs size test e = nothing xs (sym size ∙ eqb-true n 0 (sym test ∙ e))

-- any other has some
pub is_something : (n : ℕ) (b : Bool) (xs : List Error) → n ≡ length xs → b ≡ (n == 0) → b ≡ false → xs ≢ []
is_something n b xs size test e none = false≢true (sym e ∙ test ∙ ap (λ k. k == 0) (size ∙ ap length none))

-- where there are errors
pub wrong_in_the_end : {A B C : Type 0} (xs : List Error) → xs ≢ [] → ((xs ≡ []) × A) ⊎ ((xs ≢ []) × B) → (B → C) → C
wrong_in_the_end xs some h f = grind (arith, common_steps)

-- where there are none
pub right_in_the_end : {A B C : Type 0} (xs : List Error) → xs ≡ [] → ((xs ≡ []) × A) ⊎ ((xs ≢ []) × B) → (A → C) → C
right_in_the_end xs none h f = grind (arith, common_steps)

-- what holds anyway
pub whatever : {T E : Type 0} (r : Result T E) (P : Type 0) → P → OnErr r P
whatever r P p = grind (arith, common_steps)
