-- The code of the terms of an answer of lowering.
use Rattle.std.specs.Prelude.{◌≡◌, Bool, Contains, List}
use Rattle.model.specs.lists.Syntax.{Definition}
use Rattle.model.specs.lists.Elaborated.{TypedRules}
use Rattle.model.specs.rules.Program.{Program}
use Rattle.model.specs.claims.Layers.{own_program, LoweredTerm, LoweringAnswers}
use Rattle.model_code.specs.Code.{Block}
use Rattle.core_types.specs.EnvViews.{environment_view}
use Rattle.core_rules.specs.ShownEnvs.{environment_shown_by}
use Rattle.rust_code.specs.CodeOf.{code_in_program}
use Rattle.cranelift_isle.specs.declared.lower.LoweredTerm as Code
use Rattle.cranelift_isle.specs.declared.lower.Lowered.{Lowered}
use Rattle.cranelift_isle.specs.Lowerings.{lowered_view, lowered_views}

-- what holds of a term of an answer, in the program of each definitions that it is an answer of
abbrev pub OfLowered : Lowered → Code.LoweredTerm → (Program → LoweredTerm → Type 0) → Type 0
OfLowered l t P =
    (defs : List Definition) (expand : Bool) (rules : TypedRules)
    → LoweringAnswers defs expand (environment_view l.tyenv) (environment_shown_by l.termenv) rules (lowered_views l.terms.items)
    → Contains (lowered_views l.terms.items) (lowered_view t) → P (own_program defs rules) (lowered_view t)

-- the code of a term by the types of its program, with moves in place of clones
abbrev pub IsItsCode : Block → Program → LoweredTerm → Type 0
IsItsCode code p l = code ≡ code_in_program p l.term l.set.sites l.tree
