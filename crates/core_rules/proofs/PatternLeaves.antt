-- What patterns without parts become, and what binding a name around a pattern does.
use Rattle.std.proofs.Common.{◌≡◌, ℕ, Option, sym, ap, ◌∙◌}
use Rattle.model.specs.lists.Syntax.{Name}
use Rattle.model.specs.lists.Names.{number}
use Rattle.model.specs.lists.Setting.{Setting, Scope, type_of_constant}
use Rattle.core_types.specs.Envs.{names_of, constant_at}
use Rattle.core_rules.specs.declared.term_env.TermEnv.{TermEnv}
use Rattle.core_rules.specs.ShownSettings.{Standing, IsSettingOf, Shows}

-- a named constant's type, as the environment has it
pub constant_is : (env : TermEnv) (old : Standing) (x : Name) (e : Setting) (s : Scope) → IsSettingOf old.tyenv env e → Shows old s → (o : Option ℕ)
    → o ≡ constant_at old.tyenv (number (names_of old.tyenv) x.text) → type_of_constant e s x.text ≡ o
constant_is env old x e s is sh o h = sym (is.constants (number s.names x.text)) ∙ ap (λ ns. constant_at old.tyenv (number ns x.text)) (sym sh.names) ∙ sym h
