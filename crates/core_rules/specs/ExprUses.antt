-- What the use of a name in an expression stands for: a conversion, a variable, or a term itself.
use Rattle.std.specs.Prelude.{ℕ, Bool, true, Option}
use Rattle.model.specs.lists.Syntax.{Position, ExprTree, term_expr, no_expr, expr_and}
use Rattle.model.specs.lists.Tables.{Flags, TermKindEntry, variant_term, struct_term, declared_term, TermEntry}
use Rattle.model.specs.lists.Setting.{allow}
use Rattle.model.specs.rules.Outcome.{then_option}
use Rattle.core_types.specs.declared.type_env.TypeEnv.{TypeEnv}
use Rattle.core_terms.specs.Terms.{has_constructor_kind}
use Rattle.core_rules.specs.declared.term_env.TermEnv.{TermEnv}
use Rattle.core_rules.specs.PatternUses.{found_converter, name_at}

-- the term that converts expressions of a type into another one that is expected
abbrev pub found_expr_converter : TermEnv → ℕ → Option ℕ → Option TermEntry
found_expr_converter env inner outer = then_option outer (found_converter env has_constructor_kind inner)

-- the term that is declared to convert a type into another one that is expected, whether it can make a value or not
abbrev pub declared_converter : TermEnv → ℕ → Option ℕ → Option TermEntry
declared_converter env inner outer = then_option outer (found_converter env (λ k. true) inner)

-- an expression inside a use of a term
abbrev pub inside_call : TypeEnv → TermEntry → Position → ExprTree → ExprTree
inside_call tyenv t at x = term_expr (name_at tyenv t at) (expr_and x no_expr) at

-- whether the flags in force allow a use of a term
abbrev pub allowed : Flags → TermKindEntry → Bool
allowed flags (variant_term variant) = true
allowed flags struct_term = true
allowed flags (declared_term own constructor_kind extractor_kind) = allow flags own
