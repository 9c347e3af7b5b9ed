-- What is seen of the work on a rule: its variables, the names that stand for some of them, and how many expansions it took.
use Rattle.std.specs.Prelude.{◌≡◌, ℕ, suc, ◌+◌, ◌≤◌, ◌<◌, nat_eq, List, [], ◌∷◌, ◌++◌, length, map, Option, Some, None, option_map, unwrap_or, Result, Ok, Err, if◌then◌else◌}
use Rattle.core_syntax.specs.declared.syntax.Error.{Error}
use Rattle.core_syntax.specs.Stable.{look_up}
use Rattle.model.specs.rules.Typed.{TypedVar}
use Rattle.model.specs.lists.Elaborated.{most_expansions}
use Rattle.core_types.specs.Envs.{same_symbol, symbol}
use Rattle.core_rules.specs.declared.typing.progress.Progress.{Progress}
use Rattle.core_rules.specs.declared.typing.progress.Stop.{Stop}
use Rattle.core_rules.specs.declared.typing.progress.Stop.TheVariants.{Memory, Nesting, Expansions}
use Rattle.core_typed.specs.RuleViews.{var_view}

-- the newest variable of the name of a number that can be used
abbrev pub newest : Progress → ℕ → Option TypedVar
newest p k = option_map var_view (unwrap_or (look_up same_symbol p.in_scope (symbol k)) None)

-- all variables, in the order bound
abbrev pub vars_of : Progress → List TypedVar
vars_of p = map var_view p.seen.items

-- the next variable
abbrev pub next_var : Progress → ℕ → ℕ → TypedVar
next_var p name ty = record { id = length p.seen.items; name = name; ty = ty }

-- nothing was done, but for these errors
pub record IsFresh (p : Progress) (found : List Error) : Type 0 where
  pub vars : p.seen.items ≡ []
  pub names : (k : ℕ) → newest p k ≡ None
  pub expansions : p.expansions ≡ 0
  pub errors : p.errors.items ≡ found

-- the name of a number stands for the next variable, and all else stays
pub record BindsNext (name ty : ℕ) (old new : Progress) : Type 0 where
  pub vars : vars_of new ≡ vars_of old ++ next_var old name ty ∷ []
  pub names : (k : ℕ) → newest new k ≡ (if nat_eq name k then Some (next_var old name ty) else newest old k)
  pub expansions : new.expansions ≡ old.expansions
  pub errors : new.errors.items ≡ old.errors.items

-- the name of a number stands for this variable, or for none, and all else stays
pub record PutsBack (name : ℕ) (var : Option TypedVar) (old new : Progress) : Type 0 where
  pub vars : vars_of new ≡ vars_of old
  pub names : (k : ℕ) → newest new k ≡ (if nat_eq name k then var else newest old k)
  pub expansions : new.expansions ≡ old.expansions
  pub errors : new.errors.items ≡ old.errors.items

-- but for the number of expansions nothing changes
pub record CountsOne (old new : Progress) : Type 0 where
  pub vars : vars_of new ≡ vars_of old
  pub names : (k : ℕ) → newest new k ≡ newest old k
  pub expansions : new.expansions ≡ old.expansions + 1
  pub errors : new.errors.items ≡ old.errors.items

-- one more expansion is counted, in which one fewer may nest; or none may, or some may and there are as many as may be, and nothing
-- changes
abbrev pub Counts : ℕ → Progress → Progress → Result ℕ Stop → Type 0
Counts nesting old new (Ok left) = (suc left ≡ nesting) × CountsOne old new
Counts nesting old new (Err (Memory e)) = ⊥
Counts nesting old new (Err Nesting) = (nesting ≡ 0) × (new ≡ old)
Counts nesting old new (Err Expansions) = (most_expansions ≤ old.expansions) × (new ≡ old) × (0 < nesting)

-- at most errors were noted
pub record Remains (old new : Progress) : Type 0 where
  pub vars : vars_of new ≡ vars_of old
  pub names : (k : ℕ) → newest new k ≡ newest old k
  pub expansions : new.expansions ≡ old.expansions
