-- The names of accepted definitions tell what they name.
use Rattle.std.specs.Prelude.{Bool, List}
use Rattle.model.specs.lists.Syntax.{Definition}
use Rattle.model.specs.lists.Elaborated.{TypedRules}
use Rattle.model.specs.claims.Layers.{LoweringAnswers}
use Rattle.core_types.specs.EnvViews.{environment_view}
use Rattle.core_rules.specs.ShownEnvs.{environment_shown_by}
use Rattle.cranelift_isle.specs.declared.lower.Lowered.{Lowered}
use Rattle.cranelift_isle.specs.Lowerings.{lowered_views}
use Rattle.rust_text.specs.OneReading.{IsSettingOf}
use Rattle.rust_text.specs.ProgramNames.{NameSetting}
use Rattle.rust_text.specs.ProgramTokens.{NamesTell}
use Rattle.rust_text.specs.WholeCode.{named_of}

-- whatever names of what lowering answers are written by, they give different things of one kind different names
abbrev pub NamesOfAnswersTell : Type 0
NamesOfAnswersTell =
    (l : Lowered) (defs : List Definition) (expand : Bool) (rules : TypedRules)
    → LoweringAnswers defs expand (environment_view l.tyenv) (environment_shown_by l.termenv) rules (lowered_views l.terms.items)
    → (s : NameSetting) → IsSettingOf (named_of l) s → NamesTell s (named_of l).constants (named_of l).with_rules
