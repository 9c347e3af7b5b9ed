-- The code of an answer has one reading.
use Rattle.std.specs.Prelude.{◌≡◌, Bool, List, ℕ}
use Rattle.model.specs.lists.Syntax.{Definition}
use Rattle.model.specs.lists.Elaborated.{TypedRules}
use Rattle.model.specs.claims.Layers.{LoweringAnswers}
use Rattle.model_code.specs.Code.{Block}
use Rattle.model_code.specs.Notation.{Notation}
use Rattle.core_types.specs.EnvViews.{environment_view}
use Rattle.core_rules.specs.ShownEnvs.{environment_shown_by}
use Rattle.cranelift_isle.specs.declared.lower.Lowered.{Lowered}
use Rattle.cranelift_isle.specs.Lowerings.{lowered_views}
use Rattle.rust_text.specs.OneReading.{IsReadIn, IsSettingOf}
use Rattle.rust_text.specs.ProgramNames.{NameSetting}
use Rattle.rust_text.specs.WholeCode.{IsWholeCode, named_of}
use Rattle.rust_text.specs.WrittenFunctions.{TextSetting}

-- whatever text `rust_code` gives for an answer of lowering, no text is read as two codes by tokens of its program: so none of the
-- functions' bodies is
abbrev pub AnswersCodeIsReadOnce : Type 0
AnswersCodeIsReadOnce =
    (l : Lowered) (s : TextSetting) (excluded : Bool) (text : List ℕ) → IsWholeCode l s excluded text
    → (defs : List Definition) (expand : Bool) (rules : TypedRules)
    → LoweringAnswers defs expand (environment_view l.tyenv) (environment_shown_by l.termenv) rules (lowered_views l.terms.items)
    → (setting : NameSetting) → IsSettingOf (named_of l) setting
    → (p : Notation) (body : List ℕ) (a b : Block) → IsReadIn (named_of l) setting p body a → IsReadIn (named_of l) setting p body b → a ≡ b
