-- Each term with rules in the code of its program.
use Rattle.std.specs.Prelude.{◌≡◌, ℕ, Bool, List, [], ◌∷◌, ◌++◌, Some, slice_get}
use Rattle.model.specs.lists.Syntax.{Definition}
use Rattle.model.specs.lists.Tables.{TermEntry}
use Rattle.model.specs.lists.Elaborated.{TypedRules}
use Rattle.model.specs.rules.Program.{Program, terms_with_rules}
use Rattle.model.specs.claims.Layers.{own_program, LoweringAnswers}
use Rattle.model_code.specs.ProgramNotation.{notation_of}
use Rattle.model_code.specs.PureAlike.{is_impure_number}
use Rattle.laws_code.specs.CalledAlike.{AreCalledAlike}
use Rattle.laws_code.specs.TextRuns.{SaysItsSource}
use Rattle.core_types.specs.EnvViews.{environment_view}
use Rattle.core_rules.specs.ShownEnvs.{environment_shown_by}
use Rattle.cranelift_isle.specs.declared.lower.Lowered.{Lowered}
use Rattle.cranelift_isle.specs.Lowerings.{lowered_views}
use Rattle.rust_text.specs.Fronts.{outside, standing_behind}
use Rattle.rust_text.specs.ProgramNames.{names_of}
use Rattle.rust_text.specs.WholeCode.{IsWholeCode}
use Rattle.rust_text.specs.WrittenFunctions.{TextSetting, head_of_entry, kind_of_entry, setting_of_entry}

-- a text is the function of a term with rules: its first lines are the term's signature, and its body is read as code that, run as shown
-- code runs, gives what trying the term's rules by priority gives. Functions that are one in the text are pure alike
pub record IsFunctionOf (s : TextSetting) (p : Program) (t : ℕ) (text : List ℕ) : Type 0 where
  pub entry : TermEntry
  pub is : slice_get p.terms t ≡ Some entry
  pub body : List ℕ
  pub parts : text ≡ head_of_entry s p entry ++ body
  pub says : SaysItsSource (names_of (setting_of_entry s p entry)) (notation_of p (kind_of_entry entry) s.is_logged) p t body
  pub called : AreCalledAlike p (notation_of p (kind_of_entry entry) s.is_logged) (is_impure_number p)

-- the functions of these terms, one behind another
abbrev pub AreFunctionsOf : TextSetting → Program → List ℕ → List ℕ → Type 0
AreFunctionsOf s p [] text = text ≡ []
AreFunctionsOf s p (t ∷ ts) text = (function rest : List ℕ) × (text ≡ function ++ rest) × IsFunctionOf s p t function × AreFunctionsOf s p ts rest

-- a text is the code of a program: a front that leaves no comment and no quotes open, behind it one function of each term with rules, in
-- order, and nothing else
pub record IsTextOfProgram (s : TextSetting) (p : Program) (text : List ℕ) : Type 0 where
  pub front : List ℕ
  pub closed : standing_behind outside front ≡ outside
  pub functions : List ℕ
  pub whole : text ≡ front ++ functions
  pub each : AreFunctionsOf s p (terms_with_rules p) functions

-- the code of what lowering answers is such a text
abbrev pub EachTermIsInItsCode : Type 0
EachTermIsInItsCode =
    (l : Lowered) (s : TextSetting) (excluded : Bool) (text : List ℕ) → IsWholeCode l s excluded text
    → (defs : List Definition) (expand : Bool) (rules : TypedRules)
    → LoweringAnswers defs expand (environment_view l.tyenv) (environment_shown_by l.termenv) rules (lowered_views l.terms.items)
    → IsTextOfProgram s (own_program defs rules) text
