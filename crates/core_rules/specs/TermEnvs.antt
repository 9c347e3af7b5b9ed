-- What is looked up in a term environment.
use Rattle.std.specs.Prelude.{ℕ, Option, option_map}
use Rattle.core_syntax.specs.Stable.{look_up}
use Rattle.core_types.specs.declared.type_env.TypeEnv.{TypeEnv}
use Rattle.core_types.specs.Envs.{same_symbol, symbol}
use Rattle.model.specs.claims.Questions.{term_of_variant}
use Rattle.core_types.specs.TypeViews.{type_views}
use Rattle.core_rules.specs.declared.term_env.TermEnv.{TermEnv}

-- the term, and the rule, of the name of a number
abbrev pub term_in_env : TermEnv → ℕ → Option ℕ
term_in_env env k = option_map (λ t. t.0) (look_up same_symbol env.term_map (symbol k))

abbrev pub rule_in_env : TermEnv → ℕ → Option ℕ
rule_in_env env k = option_map (λ r. r.0) (look_up same_symbol env.rule_map (symbol k))

-- the term of a variant of an enum
abbrev pub variant_term_in : TermEnv → TypeEnv → ℕ → ℕ → Option ℕ
variant_term_in env types = term_of_variant (type_views types.types.items) (term_in_env env)
