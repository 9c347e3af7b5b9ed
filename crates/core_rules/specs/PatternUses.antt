-- What the use of a term in a pattern stands for: a conversion, a template with patterns in the place of its arguments, or the
-- term itself.
use Rattle.std.specs.Prelude.{◌≡◌, ◌⊎◌, ℕ, suc, Bool, List, Option, Some, None, option_and_then, slice_get, Result, Ok, Err, ⊤, if◌then◌else◌}
use Rattle.std.specs.Bool.{◌==◌}
use Rattle.core_syntax.specs.SyntaxViews as S
use Rattle.model.specs.lists.Syntax.{Position, Name, PatternTree, PatternTrees, no_pattern, pattern_and, term_pattern, pattern_list}
use Rattle.model.specs.lists.Tables.{TermKindEntry, TermEntry}
use Rattle.model.specs.lists.Signatures.{text_of}
use Rattle.model.specs.lists.Expansions.{substituted}
use Rattle.model.specs.lists.Setting.{that, kind_template}
use Rattle.model.specs.rules.Outcome.{then_option}
use Rattle.core_types.specs.declared.type_env.TypeEnv.{TypeEnv}
use Rattle.core_types.specs.Envs.{names_of, symbol_of}
use Rattle.core_terms.specs.TermViews.{term_views}
use Rattle.core_rules.specs.declared.term_env.TermEnv.{TermEnv}
use Rattle.core_rules.specs.declared.typing.progress.Stop.{Stop}
use Rattle.core_rules.specs.declared.typing.pattern_uses.PatternUse.{PatternUse}
use Rattle.core_rules.specs.declared.typing.pattern_uses.PatternUse.TheVariants.{Wrong, Expansion, Parts}
use Rattle.core_rules.specs.TermEnvs.{term_in_env}
use Rattle.core_rules.specs.ShownSettings.{converter_in}

-- the term of a name
abbrev pub found_term : TermEnv → TypeEnv → List ℕ → Option TermEntry
found_term env tyenv x = then_option (option_and_then (term_in_env env) (symbol_of tyenv x)) (slice_get (term_views env.terms.items))

-- the term that converts an inner type into another one, if it passes a test
abbrev pub found_converter : TermEnv → (TermKindEntry → Bool) → ℕ → ℕ → Option TermEntry
found_converter env p inner outer =
    if inner == outer then None else that (λ t. p t.kind) (then_option (converter_in env inner outer) (slice_get (term_views env.terms.items)))

-- the template that stands for a term in patterns, where internal extractors are expanded
abbrev pub found_template : TermEnv → TermEntry → Option PatternTree
found_template env t = if env.expand_internal_extractors then kind_template t.kind else None

-- a term's name at a place
abbrev pub name_at : TypeEnv → TermEntry → Position → Name
name_at tyenv t at = record { text = text_of (names_of tyenv) t.name; at = at }

-- a pattern inside a use of a term
abbrev pub inside_term : TypeEnv → TermEntry → Position → PatternTree → PatternTree
inside_term tyenv t at p = term_pattern (name_at tyenv t at) (pattern_and p no_pattern) at

-- what an expansion makes of a use of a term: the use inside a converter's, or a term's template with the arguments
abbrev pub IsExpansionOf : TermEnv → PatternTree → PatternTrees → PatternTree → Type 0
IsExpansionOf env whole args made =
    ((name : Name) × (at : Position) × (made ≡ term_pattern name (pattern_and whole no_pattern) at))
    ⊎ ((k : ℕ) × (t : TermEntry) × (template : PatternTree) × (slice_get (term_views env.terms.items) k ≡ Some t) × (kind_template t.kind ≡ Some template)
    × (substituted (pattern_list args) template ≡ Some made))

-- what takes the place of a use is one expansion of it, in which one fewer may nest
abbrev pub Deepens : TermEnv → ℕ → PatternTree → PatternTrees → Result PatternUse Stop → Type 0
Deepens env d whole args (Ok Wrong) = ⊤
Deepens env d whole args (Ok (Expansion made left)) = (suc left ≡ d) × IsExpansionOf env whole args (S.pattern_view made)
Deepens env d whole args (Ok (Parts t)) = ⊤
Deepens env d whole args (Err stop) = ⊤
