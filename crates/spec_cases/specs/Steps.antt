-- Steps, as the model has them, and those whose numbers an arena and a list of expressions have.
use Rattle.std.specs.Prelude.{ℕ, Bool, true, false, ◌&&◌, List, map, option_map, Option, Some, None, nat_lt}
use Rattle.std.specs.List.{list_all}
use Rattle.model.specs.sites.Sites as Sites
use Rattle.laws_specs.specs.Words as D
use Rattle.model_questions.specs.Steps as S
use Rattle.spec_cases.specs.declared.forms.Form.{Form}
use Rattle.spec_cases.specs.declared.steps.Constant.{Constant}
use Rattle.spec_cases.specs.declared.steps.Constraint.{Constraint}
use Rattle.spec_cases.specs.declared.steps.Constraint.TheVariants as C
use Rattle.spec_cases.specs.declared.steps.Said.{Said}
use Rattle.spec_cases.specs.declared.steps.Step.{Step}
use Rattle.spec_cases.specs.declared.steps.Step.TheVariants as T
use Rattle.spec_cases.specs.Arenas.{form_within}
use Rattle.spec_cases.specs.Expressions.{Saying}
use Rattle.spec_cases.specs.Literals.{literal_view}
use Rattle.spec_cases.specs.Namings.{Naming, form_of}

abbrev pub constraint_view : Constraint → Sites.Constraint
constraint_view (C.Variant ty variant fields) = Sites.is_variant ty.0 variant.0 fields
constraint_view (C.Struct ty fields) = Sites.is_struct ty.0 fields
constraint_view (C.ConstBool b ty) = Sites.is_bool b ty.0
constraint_view (C.ConstInt z ty) = Sites.is_int z ty.0
constraint_view (C.ConstPrim name) = Sites.is_prim name.0
constraint_view C.Some = Sites.is_present

abbrev pub constant_view : Constant → ℕ × D.Denoted
constant_view c = (c.name.0, literal_view c.value)

abbrev pub constant_views : List Constant → List (ℕ × D.Denoted)
constant_views cs = map constant_view cs

-- by what numbers stand for
module _ (v : Naming) (w : Saying) where
  abbrev pub said_view : Said → S.Said
  said_view s = record { args = v.fields s.args.0; result = option_map (form_of v) s.answer; expr = w.expr s.expr.0 }

  abbrev pub said_views : List Said → List S.Said
  said_views ss = map said_view ss

  abbrev pub step_view : Step → S.Step
  step_view (T.SplitAt ty p) = S.split_at ty.0 (v.place p.0)
  step_view (T.ToldAs f c) = S.told_as (form_of v f) (constraint_view c)
  step_view (T.ToldSame f g) = S.told_same (form_of v f) (form_of v g)
  step_view (T.Assumed s) = S.assumed (said_view s)
  step_view (T.AssumedUnder under s) = S.assumed_under (said_views under.items) (said_view s)
  step_view (T.Shown s) = S.shown (said_view s)

  abbrev pub step_views : List Step → List S.Step
  step_views ss = map step_view ss

-- its fact is told: it neither splits a place nor is to be shown
abbrev pub is_told : Step → Bool
is_told (T.SplitAt ty p) = false
is_told (T.ToldAs f c) = true
is_told (T.ToldSame f g) = true
is_told (T.Assumed s) = true
is_told (T.AssumedUnder under s) = true
is_told (T.Shown s) = false

-- its numbers are those of an arena and of a list of expressions, of so many each
abbrev pub answer_within : ℕ → Option Form → Bool
answer_within count None = true
answer_within count (Some f) = form_within count f

abbrev pub said_within : ℕ → ℕ → Said → Bool
said_within count exprs s = nat_lt s.args.0 count && answer_within count s.answer && nat_lt s.expr.0 exprs

abbrev pub saids_within : ℕ → ℕ → List Said → Bool
saids_within count exprs ss = list_all (said_within count exprs) ss

abbrev pub step_within : ℕ → ℕ → Step → Bool
step_within count exprs (T.SplitAt ty p) = nat_lt p.0 count
step_within count exprs (T.ToldAs f c) = form_within count f
step_within count exprs (T.ToldSame f g) = form_within count f && form_within count g
step_within count exprs (T.Assumed s) = said_within count exprs s
step_within count exprs (T.AssumedUnder under s) = saids_within count exprs under.items && said_within count exprs s
step_within count exprs (T.Shown s) = said_within count exprs s

abbrev pub steps_within : ℕ → ℕ → List Step → Bool
steps_within count exprs ss = list_all (step_within count exprs) ss
