-- The use of a name in an expression, step by step as it is looked at.
use Rattle.std.proofs.Common.{◌≡◌, ℕ, false, Option, None, option_and_then, refl, sym, ap, ◌∙◌, arith}
use Rattle.std.proofs.lemmas.Grind.{common_steps}
use Rattle.model.specs.lists.Syntax.{Position, Name}
use Rattle.model.specs.lists.Names.{number, has_name}
use Rattle.model.specs.lists.Tables.{Flags}
use Rattle.model.specs.lists.Setting.{Scope, var_of, var_named}
use Rattle.model.specs.rules.Typed.{TypedVar}
use Rattle.model.proofs.ByNumber.{looked_up}
use Rattle.model.proofs.Names.{last}
use Rattle.core_types.specs.Envs.{names_of, symbol_of, IsInterned}
use Rattle.core_rules.specs.declared.term_env.TermEnv.{TermEnv}
use Rattle.core_rules.specs.Progress.{newest}
use Rattle.core_rules.specs.ShownSettings.{Standing, Shows}

-- a variable is found by its number
module _ (env : TermEnv) (old : Standing) (inv : IsInterned old.tyenv) (name : Name) (at : Position) (flags : Flags) (ty : Option ℕ) where
  pub var_found : (o : Option TypedVar) → o ≡ option_and_then (newest old.work) (symbol_of old.tyenv name.text) → (s : Scope) → Shows old s → var_of s name.text ≡ o
  var_found o h s sh =
      ap (λ ns. var_named (number ns name.text) s.visible) (sym sh.names) ∙ sym (sh.visible (number (names_of old.tyenv) name.text)) ∙ by_number ∙ sym h
    where
      past : (o : Option TypedVar) → newest old.work (number (names_of old.tyenv) name.text) ≡ o → has_name (names_of old.tyenv) name.text ≡ false → o ≡ None
      past o k none = grind (arith, common_steps, last)

      by_number : newest old.work (number (names_of old.tyenv) name.text) ≡ option_and_then (newest old.work) (symbol_of old.tyenv name.text)
      by_number =
          sym (ap (option_and_then (newest old.work)) (looked_up (names_of old.tyenv) (symbol_of old.tyenv) inv.numbered inv.named name.text)
          ∙ (grind (arith, common_steps, past (newest old.work (number (names_of old.tyenv) name.text)) refl)))
