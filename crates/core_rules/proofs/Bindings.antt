-- How a name is bound, step by step.
use Rattle.std.proofs.Common.{◌≡◌, ℕ, cond, Option, [], ◌∷◌, ◌++◌, Some, option_map, arith}
use Rattle.std.proofs.lemmas.List.{map-append}
use Rattle.std.proofs.lemmas.Grind.{common_steps}
use Rattle.core_syntax.specs.Stable.{look_up}
use Rattle.core_types.specs.declared.ids.Sym.{Sym}
use Rattle.core_types.specs.Envs.{same_symbol}
use Rattle.core_typed.specs.declared.rules.BoundVar.{BoundVar}
use Rattle.core_rules.specs.declared.typing.progress.Progress.{Progress}
use Rattle.core_typed.specs.RuleViews.{var_view}
use Rattle.core_rules.specs.Progress.{BindsNext, PutsBack, next_var}

pub bound_next : (p q : Progress) (name : Sym) (ty : ℕ) (var : BoundVar) → var_view var ≡ next_var p name.0 ty
    → q.seen.items ≡ p.seen.items ++ var ∷ []
    → ((x : Sym) → look_up same_symbol q.in_scope x ≡ cond (same_symbol name x) (Some (Some var)) (look_up same_symbol p.in_scope x))
    → q.expansions ≡ p.expansions → q.errors.items ≡ p.errors.items
    → BindsNext name.0 ty p q
bound_next p q name ty var is pushed has expansions errors = grind (arith, common_steps, map-append)

pub put_back : (p q : Progress) (name : Sym) (var : Option BoundVar) → q.seen.items ≡ p.seen.items
    → ((x : Sym) → look_up same_symbol q.in_scope x ≡ cond (same_symbol name x) (Some var) (look_up same_symbol p.in_scope x))
    → q.expansions ≡ p.expansions → q.errors.items ≡ p.errors.items
    → PutsBack name.0 (option_map var_view var) p q
put_back p q name var seen has expansions errors = grind (arith, common_steps)
