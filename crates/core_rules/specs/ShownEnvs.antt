-- What a term environment shows to whom it is handed.
use Rattle.model.specs.claims.Environments.{TermsShown, TermEnvironment}
use Rattle.core_terms.specs.TermViews.{term_views}
use Rattle.core_rules.specs.declared.term_env.TermEnv.{TermEnv}
use Rattle.core_typed.specs.RuleViews.{rule_views}
use Rattle.core_rules.specs.TermEnvs.{term_in_env, rule_in_env}
use Rattle.core_rules.specs.ShownSettings.{converter_in}

-- its terms, the term of the number of each name, and the term that converts each type into another one
abbrev pub terms_shown_by : TermEnv → TermsShown
terms_shown_by env = record { terms = term_views env.terms.items; term_of = term_in_env env; converter_of = converter_in env }

-- with its rules, the rule of the number of each name, and whether internal extractors are expanded
abbrev pub environment_shown_by : TermEnv → TermEnvironment
environment_shown_by env = record { terms = terms_shown_by env; rules = rule_views env.rules.items; rule_of = rule_in_env env; expand = env.expand_internal_extractors }
