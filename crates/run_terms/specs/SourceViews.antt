-- What variables and what an expression comes to say, without where their parts lie in memory.
use Rattle.std.specs.Prelude.{Bool, true, List, [], ◌∷◌, ◌++◌, Option, Some, None, if◌then◌else◌, option_map}
use Rattle.model.specs.rules.Program.{Program, Kind, a_variant, a_struct, a_call, unknown}
use Rattle.model.specs.rules.Matching.{Vars}
use Rattle.model.specs.rules.Meaning.{Meaning, TotalMeaning, total}
use Rattle.model.specs.rules.Outcome as O
use Rattle.model.specs.rules.RightSide as R
use Rattle.core_types.specs.declared.ids.VarId.{VarId}
use Rattle.core_terms.specs.declared.term.Term.{Term}
use Rattle.core_terms.specs.TermViews.{term_views}
use Rattle.run_terms.specs.declared.values.Value.{Value}
use Rattle.run_terms.specs.ValueViews.{value_view, value_views}
use Rattle.run_terms.specs.declared.source.RuleContext.{RuleContext}
use Rattle.run_terms.specs.declared.exprs.Evaluated.{Evaluated}
use Rattle.run_terms.specs.declared.exprs.Evaluated.TheVariants as E
use Rattle.run_terms.specs.declared.exprs.EvaluatedAll.{EvaluatedAll}
use Rattle.run_terms.specs.declared.exprs.EvaluatedAll.TheVariants as A

-- a program of these terms; a choice asks nothing else of it
abbrev pub of_terms : List Term → Program
of_terms ts = record { types = []; constants = []; terms = term_views ts; rules = [] }

-- the program of a source's terms, and the meaning of what it calls
abbrev pub source_program : {E : Type 0} → RuleContext E → Program
source_program source = of_terms source.terms.now

abbrev pub meaning_in : {E : Type 0} → (E → TotalMeaning) → RuleContext E → Meaning
meaning_in functions source = total (functions source.externs.now)

-- what is pushed last is first
abbrev pub vars_onto : List (VarId × Option Value) → Vars → Vars
vars_onto [] vars = vars
vars_onto (x ∷ rest) vars = vars_onto rest ((x.0.0, option_map value_view x.1) ∷ vars)

abbrev pub vars_view : List (VarId × Option Value) → Vars
vars_view xs = vars_onto xs []

-- the variables, where what was asked holds
abbrev pub if_held : Bool → Vars → Option Vars
if_held b vars = if b then Some vars else None

-- what an expression comes to, with these calls made
abbrev pub evaluated_view : Evaluated → List O.Call → R.Eval
evaluated_view (E.Gives o) calls = R.gives (option_map value_view o) calls
evaluated_view E.Ends calls = R.ends calls

abbrev pub evaluated_all_view : EvaluatedAll → List O.Call → R.EvalAll
evaluated_all_view (A.GivesAll o) calls = R.gives_all (option_map (λ vs. value_views vs.items) o) calls
evaluated_all_view A.EndsAll calls = R.ends_all calls

-- variables that a let binds, or the end of all
abbrev pub lets_view : Bool → Vars → List O.Call → R.EvalLets
lets_view b vars calls = if b then R.gives_vars vars calls else R.ends_lets calls

-- whether a term is pure, where there is such a term
abbrev pub purity : Kind → Option Bool
purity unknown = None
purity (a_variant ty variant) = Some true
purity (a_struct ty) = Some true
purity (a_call flags infallible) = Some flags.pure

-- values with one more behind them, where all are there
abbrev pub with_value : Option (List Value) → Option Value → Option (List Value)
with_value (Some out) (Some v) = Some (out ++ v ∷ [])
with_value (Some out) None = None
with_value None o = None
