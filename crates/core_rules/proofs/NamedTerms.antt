-- Terms of distinct names are found by these, so that the tables have them by name.
use Rattle.std.proofs.Common.{◌≡◌, ℕ, zero, suc, List, [], ◌∷◌, map, Some, None, option_map, slice_get, refl, sym, ap, ◌∙◌, arith}
use Rattle.std.proofs.lemmas.Bool.{eq-eqb}
use Rattle.std.proofs.lemmas.Option.{none-some, same_Some, slice_get-map}
use Rattle.std.proofs.lemmas.Grind.{common_steps}
use Rattle.model.specs.lists.Names.{IsDistinct}
use Rattle.model.specs.lists.Tables.{TermEntry}
use Rattle.model.specs.lists.Setting.{Setting, entry_named}
use Rattle.core_types.specs.declared.type_env.TypeEnv.{TypeEnv}
use Rattle.core_types.specs.Envs.{names_of, IsInterned}
use Rattle.laws_typing.proofs.FormedRules.{named_at}
use Rattle.laws_typing.proofs.Typings.{then_gives}
use Rattle.core_rules.specs.declared.term_env.TermEnv.{TermEnv}
use Rattle.core_rules.specs.TermEnvs.{term_in_env}
use Rattle.core_rules.specs.Constructors.{AreTermsNamed}
use Rattle.core_rules.specs.ShownSettings.{IsSettingOf}
use Rattle.core_rules.proofs.ConstructorLaws.{named_is}

-- a term that stands in a list is found by its name, or one before it of that name is
some_named : (ts : List TermEntry) (i : ℕ) (t : TermEntry) → slice_get ts i ≡ Some t → entry_named t.name ts ≡ None → ⊥
some_named [] i t h n = none-some t h
some_named (u ∷ us) zero t h n = grind (arith, common_steps, same_Some, none-some, eq-eqb)
some_named (u ∷ us) (suc i) t h n = grind (arith, common_steps, some_named us i t h, none-some)

pub found_at : (ts : List TermEntry) (i : ℕ) (t : TermEntry) → IsDistinct (map (λ e. e.name) ts) → slice_get ts i ≡ Some t → entry_named t.name ts ≡ Some t
found_at ts i t once h =
    elim (entry_named t.name ts) as (λ o. entry_named t.name ts ≡ o → o ≡ Some t) [
      | None ↦ λ n. absurd (some_named ts i t h n)
      | Some u ↦ λ n.
          let a = named_at t.name ts u n in
          let there : slice_get (map (λ (e : TermEntry). e.name) ts) a.0 ≡ Some t.name = slice_get-map (λ (e : TermEntry). e.name) ts a.0 ∙ ap (option_map (λ (e : TermEntry). e.name)) a.1 ∙ ap (λ (k : ℕ). Some k) (named_is t.name ts u n) in
          let here : slice_get (map (λ (e : TermEntry). e.name) ts) i ≡ Some t.name = slice_get-map (λ (e : TermEntry). e.name) ts i ∙ ap (option_map (λ (e : TermEntry). e.name)) h in
          sym a.1 ∙ ap (slice_get ts) (once a.0 i t.name there here) ∙ h
    ] refl

pub terms_named : (env : TermEnv) (tyenv : TypeEnv) (e : Setting) → IsInterned tyenv → IsSettingOf tyenv env e → ((k : ℕ) (t : TermEntry) → slice_get e.terms k ≡ Some t → t.id ≡ k) → IsDistinct (map (λ t. t.name) e.terms) → AreTermsNamed e (names_of tyenv)
terms_named env tyenv e inv is placed once = record {
  placed = placed;
  met = λ k t h. let a = then_gives (term_in_env env t.name) (slice_get e.terms) (is.term_names t.name ∙ found_at e.terms k t once h) in is.terms_met t.name a.0 a.1;
  found = λ k t h. found_at e.terms k t once h;
  once = λ i j x h l. same_Some i j (sym (inv.numbered x i h) ∙ inv.numbered x j l);
}
