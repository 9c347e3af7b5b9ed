-- What is told of a call, where all that it calls is answered as an echo.
use Rattle.std.specs.Prelude.{ℕ, ◌≡◌, Bool, true, false, ◌==◌, if◌then◌else◌, List, [], ◌++◌, Option, Some, codes}
use Rattle.std.specs.List.{filter}
use Rattle.std.specs.Str.{bytes_eq}
use Rattle.cranelift_isle.specs.declared.lower.Lowered.{Lowered}
use Rattle.cranelift_isle.specs.Checks.{env_program}
use Rattle.cranelift_isle.specs.Choice.{choice}
use Rattle.cranelift_isle.specs.Envs.{constant_at}
use Rattle.cranelift_isle.specs.Layers.{LoweredTerm}
use Rattle.cranelift_isle.specs.Lowerings.{lowered_views}
use Rattle.cranelift_isle.specs.Meaning.{TotalMeaning, total}
use Rattle.cranelift_isle.specs.Outcome.{Outcome}
use Rattle.cranelift_isle.specs.Program.{is_multi}
use Rattle.cranelift_isle.specs.RuleViews.{rule_views}
use Rattle.cranelift_isle.specs.Run.{run}
use Rattle.cranelift_isle.specs.TermViews.{term_views}
use Rattle.cranelift_isle.specs.Values.{Value}
use Rattle.report_queries.specs.Lookups.{entry_of}
use Rattle.run_terms.specs.SourceViews.{of_terms}
use Rattle.report_traces.specs.EchoedTerms.{called_at, echoed_words}
use Rattle.report_traces.specs.Echoes.{echoes}
use Rattle.report_traces.specs.OutcomeTexts.{names_in, outcome_words}

abbrev pub echoes_in : Lowered → TotalMeaning
echoes_in l = echoes (constant_at l.tyenv) (term_views l.termenv.terms.items)

abbrev pub is_multi_in : Lowered → ℕ → Bool
is_multi_in l term = is_multi (env_program l.termenv) term

-- the outcome of a term's tree on arguments under functions, and that of its source rules by echoes
abbrev pub outcome_under : TotalMeaning → (multi : Bool) → LoweredTerm → List Value → Outcome
outcome_under functions multi t args = run t.tree (record { sites = t.set.sites; args = args; meaning = total functions; multi = multi })

abbrev pub choice_by_echoes : Lowered → ℕ → List Value → Outcome
choice_by_echoes l term args = choice (of_terms l.termenv.terms.items) (total (echoes_in l)) (filter (λ r. r.root_term == term) (rule_views l.termenv.rules.items)) args

-- the words of a choice follow those of a tree where they are others; of a multi term they never do
abbrev pub by_source_rules : (told chosen : List ℕ) → List ℕ
by_source_rules told chosen = if bytes_eq chosen told then [] else codes "; by the source rules " ++ chosen

abbrev pub with_choice : (multi : Bool) → (told chosen : List ℕ) → List ℕ
with_choice true told chosen = told
with_choice false told chosen = told ++ by_source_rules told chosen

abbrev pub answer_by : (multi : Bool) → Lowered → LoweredTerm → List Value → List ℕ
answer_by multi l t args =
    with_choice multi (outcome_words (names_in l) multi (outcome_under (echoes_in l) multi t args)) (outcome_words (names_in l) false (choice_by_echoes l t.term args))

-- what is told of a call of a term, where echoes answer: the terms that its rules call, and the outcome
abbrev pub answer_words : Lowered → LoweredTerm → List Value → List ℕ
answer_words l t args = echoed_words (names_in l) (called_at t.set.sites) ++ answer_by (is_multi_in l t.term) l t args

-- the entry of a term with rules
abbrev pub IsEntry : Lowered → LoweredTerm → Type 0
IsEntry l t = (term : ℕ) × (entry_of term (lowered_views l.terms.items) ≡ Some t)
