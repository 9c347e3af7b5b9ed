-- The term of a name, as the tables find it, is that of a setting.
use Rattle.std.proofs.Common.{◌≡◌, ℕ, false, List, Option, None, option_and_then, slice_get, refl, sym, ap, ◌∙◌, arith}
use Rattle.std.proofs.lemmas.Grind.{common_steps}
use Rattle.model.specs.lists.Names.{number, has_name}
use Rattle.model.specs.lists.Setting.{Setting, entry_named}
use Rattle.model.specs.rules.Outcome.{then_option}
use Rattle.model.proofs.ByNumber.{looked_up}
use Rattle.model.proofs.Names.{last}
use Rattle.core_types.specs.declared.type_env.TypeEnv.{TypeEnv}
use Rattle.core_types.specs.Envs.{names_of, symbol_of, IsInterned}
use Rattle.core_rules.specs.declared.term_env.TermEnv.{TermEnv}
use Rattle.core_rules.specs.TermEnvs.{term_in_env}
use Rattle.core_rules.specs.PatternUses.{found_term}
use Rattle.core_rules.specs.ShownSettings.{IsSettingOf}

module _ (env : TermEnv) (tyenv : TypeEnv) (inv : IsInterned tyenv) (x : List ℕ) (e : Setting) (is : IsSettingOf tyenv env e) where
  past : (o : Option ℕ) → term_in_env env (number (names_of tyenv) x) ≡ o → has_name (names_of tyenv) x ≡ false → o ≡ None
  past o k none = grind (arith, common_steps, last)

  by_number : term_in_env env (number (names_of tyenv) x) ≡ option_and_then (term_in_env env) (symbol_of tyenv x)
  by_number = grind (arith, looked_up (names_of tyenv) (symbol_of tyenv) inv.numbered inv.named x, past (term_in_env env (number (names_of tyenv) x)) refl)

  pub found_named : entry_named (number (names_of tyenv) x) e.terms ≡ found_term env tyenv x
  found_named =
      sym (is.term_names (number (names_of tyenv) x))
      ∙ ap (λ i. then_option i (slice_get e.terms)) by_number
      ∙ ap (λ ts. then_option (option_and_then (term_in_env env) (symbol_of tyenv x)) (slice_get ts)) (sym is.terms)
