-- Lets, from what their definitions and their body became.
use Rattle.std.proofs.Common.{◌≡◌, ℕ, false, nat_eq, Option, None, option_and_then, refl, sym, ap, ◌∙◌, arith}
use Rattle.std.specs.List.{position_from}
use Rattle.std.proofs.lemmas.Grind.{common_steps}
use Rattle.core_syntax.specs.SyntaxViews as S
use Rattle.model.specs.lists.Syntax.{Position, Name, ExprTree}
use Rattle.model.specs.lists.Names.{number, has_name}
use Rattle.model.specs.lists.Tables.{Flags}
use Rattle.model.specs.rules.Typed.{TypedLets, no_typed_let, typed_let_and}
use Rattle.model.specs.lists.Setting as M
use Rattle.model.specs.lists.Setting.{Setting, Scope}
use Rattle.model.proofs.ByNumber.{looked_up}
use Rattle.model.proofs.Names.{last}
use Rattle.core_types.specs.Envs.{names_of, symbol_of, type_at, type_of_name, IsInterned}
use Rattle.core_rules.specs.declared.term_env.TermEnv.{TermEnv}
use Rattle.core_rules.specs.ShownSettings.{Standing, IsSettingOf, Shows}

-- one definition
module _ (env : TermEnv) (old mid : Standing) (name ty : Name) (value : ExprTree) (at : Position) (flags : Flags) (inv : IsInterned old.tyenv) where
  pub type_found : (o : Option ℕ) → o ≡ type_of_name old.tyenv ty.text → (e : Setting) (s : Scope) → IsSettingOf old.tyenv env e → Shows old s → M.type_of_name e s ty.text ≡ o
  type_found o h e s is sh =
      ap (λ ns. position_from (λ n. nat_eq n (number ns ty.text)) 0 e.type_names) (sym sh.names)
      ∙ sym (is.type_names (number (names_of old.tyenv) ty.text)) ∙ by_number ∙ sym h
    where
      past : (o : Option ℕ) → type_at old.tyenv (number (names_of old.tyenv) ty.text) ≡ o → has_name (names_of old.tyenv) ty.text ≡ false → o ≡ None
      past o k none = grind (arith, common_steps, last)

      by_number : type_at old.tyenv (number (names_of old.tyenv) ty.text) ≡ option_and_then (type_at old.tyenv) (symbol_of old.tyenv ty.text)
      by_number =
          sym (ap (option_and_then (type_at old.tyenv)) (looked_up (names_of old.tyenv) (symbol_of old.tyenv) inv.numbered inv.named ty.text)
          ∙ (grind (arith, common_steps, past (type_at old.tyenv (number (names_of old.tyenv) ty.text)) refl)))

-- definitions after definitions
abbrev pub lets_joined : TypedLets → TypedLets → TypedLets
lets_joined no_typed_let ds = ds
lets_joined (typed_let_and x ty value rest) ds = typed_let_and x ty value (lets_joined rest ds)
