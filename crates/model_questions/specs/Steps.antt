-- The steps in which a condition is asked: what its sites stand for, by forms; what is assumed of them, in order; and what is shown.
use Rattle.std.specs.Prelude.{ℕ, zero, suc, Bool, true, false, not, ◌&&◌, ◌||◌, List, [], ◌∷◌, ◌++◌, map, Option, Some, None, if◌then◌else◌, slice_get}
use Rattle.std.specs.List.{flat_map}
use Rattle.model.specs.rules.Program.{Program, arg_types}
use Rattle.model.specs.rules.Values.{variant_types, struct_types}
use Rattle.model.specs.sites.Sites.{Constraint, is_variant, is_int, is_prim, is_present, SiteTerm, bool_term, int_term, prim_term, argument, extractor_call, constructor_call, pick_of, variant_made, variant_field, struct_made, struct_field, some_made, some_part, tuple_part, SiteTerms, no_site_term, site_term_and}
use Rattle.model.specs.sites.Serves.{term_args, term_results}
use Rattle.model.specs.visits.Demands.{site_term_eq, has_site}
use Rattle.laws_specs.specs.Words.{Denoted}
use Rattle.laws_specs.specs.Specs.{SpecExpr, Specs, spec_of, constant_of, literal_of}
use Rattle.laws_specs.specs.Conditions.{Condition, is_impure_call, call_of}
use Rattle.model_questions.specs.Formulas.{Place, argument_at, site_at, output_at, variant_field_at, struct_field_at, known}
use Rattle.model_questions.specs.Forms.{Form, a_fact, variant_by, struct_by, any_of, some_at, Forms, no_form, form_and, form_list, form_of}
use Rattle.model_questions.specs.Evaluated.{fields_at}

-- an expression of a spec, on what arguments and which result
pub record Said : Type 0 where
  pub args : Forms
  pub result : Option Form
  pub expr : SpecExpr

-- a place is asked at each of its widths by itself; what a site stands for is told, by a constraint or by another site; an expression is
-- assumed, also where others hold, as what a call provides is where its require holds; or it is to be shown
pub data Step : Type 0 where
  split_at : (ty : ℕ) (at : Place) → Step
  told_as : (f : Form) (k : Constraint) → Step
  told_same : (f g : Form) → Step
  assumed : (s : Said) → Step
  assumed_under : (under : List Said) (s : Said) → Step
  shown : (s : Said) → Step

abbrev pub or_form : Form → Option Form → Form
or_form f None = f
or_form f (Some g) = g

-- of a place whose type is known, and of one whose type isn't
abbrev pub typed_at : Option ℕ → Place → Form
typed_at None at = some_at at
typed_at (Some ty) at = any_of ty at

abbrev pub written_or : Place → Option Denoted → Form
written_or at None = some_at at
written_or at (Some x) = form_of x

abbrev pub any_if : Option ℕ → Place → Option Form
any_if None at = None
any_if (Some ty) at = Some (any_of ty at)

-- the type of a field where the types of all are known
abbrev pub type_at : Option (List ℕ) → ℕ → Option ℕ
type_at None i = None
type_at (Some tys) i = slice_get tys i

abbrev pub first_of : List ℕ → Option ℕ
first_of tys = slice_get tys 0

-- what happens in a condition, in order: a constraint, an equality, an impure call, the result
pub data Event : Type 0 where
  tests : (s : SiteTerm) (k : Constraint) → Event
  equals_at : (a b : SiteTerm) → Event
  calls : (u : SiteTerm) → Event
  gives_at : (s : SiteTerm) → Event

abbrev pub events_of : Condition → List Event
events_of c = map (λ e. tests e.0 e.1) c.constraints ++ (map (λ e. equals_at e.0 e.1) c.equalities ++ (map calls c.impure ++ gives_at c.result ∷ []))

-- the calls whose answers a site's value is made of, sources first, where the site has a value. Of a call whose answer isn't used nothing
-- is known, not even that there is one
abbrev mutual
  pub told_in : SiteTerm → List SiteTerm
  told_in (extractor_call t s) = told_in s ++ extractor_call t s ∷ []
  told_in (constructor_call t ss n) = told_in_each ss ++ constructor_call t ss n ∷ []
  told_in (pick_of s) = sources_in s ++ pick_of s ∷ []
  told_in (variant_made ty variant ss) = told_in_each ss
  told_in (variant_field s variant i) = told_in s
  told_in (struct_made ty ss) = told_in_each ss
  told_in (struct_field s i) = told_in s
  told_in (some_part s) = part_in s
  told_in (tuple_part s i) = outputs_in s
  told_in _ = []

  pub told_in_each : SiteTerms → List SiteTerm
  told_in_each no_site_term = []
  told_in_each (site_term_and s rest) = told_in s ++ told_in_each rest

  -- where the call has an answer
  pub sources_in : SiteTerm → List SiteTerm
  sources_in (extractor_call t s) = told_in s
  sources_in (constructor_call t ss n) = told_in_each ss
  sources_in _ = []

  -- where it has just a value
  pub part_in : SiteTerm → List SiteTerm
  part_in (extractor_call t s) = told_in s ++ extractor_call t s ∷ []
  part_in (constructor_call t ss n) = told_in_each ss ++ constructor_call t ss n ∷ []
  part_in (pick_of s) = sources_in s ++ pick_of s ∷ []
  part_in (some_made s) = told_in s
  part_in _ = []

  -- where it has outputs, none or several
  pub outputs_in : SiteTerm → List SiteTerm
  outputs_in (extractor_call t s) = told_in s ++ extractor_call t s ∷ []
  outputs_in (pick_of s) = picked_in s
  outputs_in (some_part s) = part_outputs_in s
  outputs_in _ = []

  pub picked_in : SiteTerm → List SiteTerm
  picked_in (extractor_call t s) = told_in s ++ pick_of (extractor_call t s) ∷ []
  picked_in _ = []

  pub part_outputs_in : SiteTerm → List SiteTerm
  part_outputs_in (extractor_call t s) = told_in s ++ extractor_call t s ∷ []
  part_outputs_in (pick_of s) = picked_in s
  part_outputs_in _ = []

-- those that weren't seen before
abbrev pub fresh : List SiteTerm → List SiteTerm → List SiteTerm
fresh seen [] = []
fresh seen (s ∷ rest) = if has_site seen s then fresh seen rest else s ∷ fresh (s ∷ seen) rest

-- a call whose answer is unwrapped is one of the calls
abbrev pub present_in : SiteTerm → List SiteTerm
present_in (extractor_call t s) = told_in (extractor_call t s)
present_in (constructor_call t ss n) = told_in (constructor_call t ss n)
present_in s = sources_in s

-- a constant without a value says nothing of a site
abbrev pub where_known : Option Denoted → List SiteTerm → List SiteTerm
where_known None sites = []
where_known (Some x) sites = sites

abbrev pub args_in : SiteTerm → List SiteTerm
args_in (constructor_call t ss n) = told_in_each ss
args_in _ = []

-- an impure call was made
abbrev pub made_after : Event → List SiteTerm → List SiteTerm
made_after (calls u) done = call_of u ∷ done
made_after _ done = done

-- what a term requires of arguments, and provides with a result
abbrev pub requires_of : Specs → ℕ → Forms → List Said
requires_of specs t args = map (λ e. record { args = args; result = None; expr = e }) (spec_of specs t).require

abbrev pub provides_of : Specs → ℕ → Forms → Form → List Said
provides_of specs t args r = map (λ e. record { args = args; result = Some r; expr = e }) (spec_of specs t).provide

-- places of values are split as a plan has it: any will do
abbrev pub split_form : (Place → Bool) → Form → List Step
split_form plan (any_of ty at) = if plan at then split_at ty at ∷ [] else []
split_form plan _ = []

abbrev pub split_each : (Place → Bool) → Forms → List Step
split_each plan no_form = []
split_each plan (form_and f rest) = split_form plan f ++ split_each plan rest

-- what a call provides, where its require holds; of an impure call that was made it was shown that it does
abbrev pub provided_steps : ℕ → List Said → List Said → List Step
provided_steps zero under ss = map (assumed_under under) ss
provided_steps (suc n) under ss = map assumed ss

-- arguments and outputs of a call, and what is below them
abbrev pub is_argument : Place → Bool
is_argument (argument_at i) = true
is_argument _ = false

abbrev pub is_output_of : SiteTerm → Place → Bool
is_output_of u (output_at s i) = site_term_eq s u
is_output_of u _ = false

abbrev pub is_below : (Place → Bool) → Place → Bool
is_below root (variant_field_at at ty variant i) = is_below root at
is_below root (struct_field_at at ty i) = is_below root at
is_below root at = root at

abbrev pub is_form_below : (Place → Bool) → Form → Bool
is_form_below root (any_of ty at) = is_below root at
is_form_below root _ = false

-- the fields of what a constraint tells to be a variant
abbrev pub fields_if : (ℕ → Place) → Option (List ℕ) → Forms
fields_if at None = no_form
fields_if at (Some tys) = fields_at at 0 tys

abbrev pub told_fields : Program → Form → Constraint → Forms
told_fields p (any_of ty at) (is_variant t variant n) = fields_if (variant_field_at at ty variant) (variant_types (slice_get p.types ty) variant)
told_fields p _ _ = no_form

-- what a field of a form is, where that is known
abbrev pub variant_field_form : Program → ℕ → ℕ → Form → Option Form
variant_field_form p variant i (variant_by ty v fs) = slice_get (form_list fs) i
variant_field_form p variant i (any_of ty at) = any_if (type_at (variant_types (slice_get p.types ty) variant) i) (variant_field_at at ty variant i)
variant_field_form p variant i _ = None

abbrev pub struct_field_form : Program → ℕ → Form → Option Form
struct_field_form p i (struct_by ty fs) = slice_get (form_list fs) i
struct_field_form p i (any_of ty at) = any_if (type_at (struct_types (slice_get p.types ty)) i) (struct_field_at at ty i)
struct_field_form p i _ = None

abbrev pub where_typed : Bool → Option ℕ → Place → Place → Form
where_typed true ty at place = typed_at ty at
where_typed false ty at place = some_at place

module _ (p : Program) (specs : Specs) (c : Condition) where
  -- a call's answers are of its types, and as its spec says: a pure call that the condition makes, and an impure one that was made
  abbrev pub is_pure_made : SiteTerm → Bool
  is_pure_made s = has_site c.made s && not (is_impure_call s)

  abbrev pub is_answered : List SiteTerm → SiteTerm → Bool
  is_answered done s = is_pure_made s || has_site done s

  -- the value that a site of a call holds, or the one that is picked of its answers
  abbrev pub answer_form : Bool → SiteTerm → SiteTerm → Form
  answer_form typed (constructor_call t ss n) u = where_typed typed (first_of (term_results (slice_get p.terms t))) (site_at u) (site_at u)
  answer_form typed (extractor_call t s) u = where_typed typed (first_of (term_args (slice_get p.terms t))) (output_at u 0) (site_at u)
  answer_form typed w u = some_at (site_at u)

  -- an output of an extractor that has several
  abbrev pub output_form : Bool → SiteTerm → SiteTerm → ℕ → Place → Form
  output_form typed (extractor_call t s) u i place = where_typed typed (slice_get (term_args (slice_get p.terms t)) i) (output_at u i) place
  output_form typed w u i place = some_at place

  module _ (done : List SiteTerm) where
    -- what sites stand for, where they hold a value
    abbrev mutual
      pub form_at : SiteTerm → Form
      form_at (bool_term b ty) = a_fact (known b)
      form_at (int_term z ty) = written_or (site_at (int_term z ty)) (literal_of specs z ty)
      form_at (prim_term name) = written_or (site_at (prim_term name)) (constant_of specs name)
      form_at (argument i) = typed_at (slice_get (arg_types p c.term) i) (argument_at i)
      form_at (extractor_call t s) = answer_form (is_answered done (extractor_call t s)) (extractor_call t s) (extractor_call t s)
      form_at (constructor_call t ss n) = answer_form (is_answered done (constructor_call t ss n)) (constructor_call t ss n) (constructor_call t ss n)
      form_at (pick_of s) = answer_form (is_pure_made s) s (pick_of s)
      form_at (variant_made ty variant ss) = variant_by ty variant (forms_at ss)
      form_at (variant_field s variant i) = or_form (some_at (site_at (variant_field s variant i))) (variant_field_form p variant i (form_at s))
      form_at (struct_made ty ss) = struct_by ty (forms_at ss)
      form_at (struct_field s i) = or_form (some_at (site_at (struct_field s i))) (struct_field_form p i (form_at s))
      form_at (some_part s) = part_form s (site_at (some_part s))
      form_at (tuple_part s i) = outputs_form s i (site_at (tuple_part s i))
      form_at s = some_at (site_at s)

      pub forms_at : SiteTerms → Forms
      forms_at no_site_term = no_form
      forms_at (site_term_and s rest) = form_and (form_at s) (forms_at rest)

      -- what is there just of it
      pub part_form : SiteTerm → Place → Form
      part_form (extractor_call t s) place = answer_form (is_answered done (extractor_call t s)) (extractor_call t s) (extractor_call t s)
      part_form (constructor_call t ss n) place = answer_form (is_answered done (constructor_call t ss n)) (constructor_call t ss n) (constructor_call t ss n)
      part_form (pick_of s) place = answer_form (is_pure_made s) s (pick_of s)
      part_form (some_made s) place = form_at s
      part_form s place = some_at place

      pub outputs_form : SiteTerm → ℕ → Place → Form
      outputs_form (extractor_call t s) i place = output_form (is_answered done (extractor_call t s)) (extractor_call t s) (extractor_call t s) i place
      outputs_form (pick_of s) i place = output_form (is_pure_made s) s (pick_of s) i place
      outputs_form (some_part s) i place = part_outputs_form s i place
      outputs_form s i place = some_at place

      pub part_outputs_form : SiteTerm → ℕ → Place → Form
      part_outputs_form (extractor_call t s) i place = output_form (is_answered done (extractor_call t s)) (extractor_call t s) (extractor_call t s) i place
      part_outputs_form (pick_of s) i place = output_form (is_pure_made s) s (pick_of s) i place
      part_outputs_form s i place = some_at place

    -- what is unwrapped of a call is its one result, or its one output
    abbrev pub is_unwrapped : SiteTerm → Bool
    is_unwrapped (constructor_call t ss n) = is_answered done (constructor_call t ss n)
    is_unwrapped (extractor_call t s) = is_answered done (extractor_call t s)
    is_unwrapped _ = false

    abbrev pub result_form : SiteTerm → Form
    result_form (some_made s) = form_at s
    result_form (some_part s) = if is_unwrapped s then form_at (some_part s) else some_at (site_at (some_part s))
    result_form s = form_at s

    -- the calls that the result is made of, unwrapped where the term is partial
    abbrev pub result_in : SiteTerm → List SiteTerm
    result_in (some_made s) = told_in s
    result_in (some_part s) = if is_unwrapped s then told_in (some_part s) else []
    result_in s = told_in s

  -- what is told by the demands, before any impure call
  abbrev pub told_form : SiteTerm → Form
  told_form s = form_at [] s

  -- fields of variants that are told are split too
  abbrev pub told_splits : (Place → Bool) → (Place → Bool) → SiteTerm → Constraint → List Step
  told_splits plan root s k = if is_form_below root (told_form s) then split_each plan (told_fields p (told_form s) k) else []

  abbrev pub field_splits : (Place → Bool) → (Place → Bool) → List (SiteTerm × Constraint) → List Step
  field_splits plan root ks = flat_map (λ e. told_splits plan root e.0 e.1) ks

  abbrev pub tested_in : SiteTerm → Constraint → List SiteTerm
  tested_in s (is_int z ty) = where_known (literal_of specs z ty) (told_in s)
  tested_in s (is_prim name) = where_known (constant_of specs name) (told_in s)
  tested_in s is_present = if is_pure_made s then present_in s else sources_in s
  tested_in s k = told_in s

  abbrev pub event_sites : List SiteTerm → Event → List SiteTerm
  event_sites done (tests s k) = tested_in s k
  event_sites done (equals_at a b) = told_in a ++ told_in b
  event_sites done (calls u) = args_in (call_of u)
  event_sites done (gives_at s) = result_in done s

  module _ (done : List SiteTerm) where
    -- a constructor's answer is what its term provides
    abbrev pub constructed : (Place → Bool) → Bool → ℕ → SiteTerms → ℕ → SiteTerm → List Step
    constructed plan true t ss n u = split_form plan (form_at done u) ++ provided_steps n (requires_of specs t (forms_at done ss)) (provides_of specs t (forms_at done ss) (form_at done u))
    constructed plan false t ss n u = []

    -- what an extractor looks at is its term's result, its outputs are the arguments
    abbrev pub outputs_at : ℕ → SiteTerm → Forms
    outputs_at t u = fields_at (output_at u) 0 (term_args (slice_get p.terms t))

    abbrev pub extracted : (Place → Bool) → Bool → ℕ → SiteTerm → SiteTerm → List Step
    extracted plan true t s u =
        split_each plan (outputs_at t u) ++ (field_splits plan (is_output_of u) c.constraints ++ (map assumed (requires_of specs t (outputs_at t u)) ++ map assumed (provides_of specs t (outputs_at t u) (form_at done s))))
    extracted plan false t s u = []

    abbrev pub picked : (Place → Bool) → SiteTerm → List Step
    picked plan (constructor_call t ss n) = constructed plan (is_pure_made (constructor_call t ss n)) t ss n (pick_of (constructor_call t ss n))
    picked plan (extractor_call t s) = extracted plan (is_pure_made (extractor_call t s)) t s (pick_of (extractor_call t s))
    picked plan _ = []

    abbrev pub answer_steps : (Place → Bool) → SiteTerm → List Step
    answer_steps plan (constructor_call t ss n) = constructed plan (is_answered done (constructor_call t ss n)) t ss n (constructor_call t ss n)
    answer_steps plan (extractor_call t s) = extracted plan (is_answered done (extractor_call t s)) t s (extractor_call t s)
    answer_steps plan (pick_of s) = picked plan s
    answer_steps plan _ = []

    -- the require of an impure call is shown, and what the term provides with its result
    abbrev pub required_steps : SiteTerm → List Step
    required_steps (constructor_call t ss n) = map shown (requires_of specs t (forms_at done ss))
    required_steps _ = []

    abbrev pub event_steps : Forms → Event → List Step
    event_steps args (tests s k) = []
    event_steps args (equals_at a b) = told_same (form_at done a) (form_at done b) ∷ []
    event_steps args (calls u) = required_steps (call_of u)
    event_steps args (gives_at s) = map shown (provides_of specs c.term args (result_form done s))

  abbrev pub steps_from : (Place → Bool) → Forms → List SiteTerm → List SiteTerm → List Event → List Step
  steps_from plan args seen done [] = []
  steps_from plan args seen done (e ∷ es) =
      flat_map (answer_steps done plan) (fresh seen (event_sites done e)) ++ (event_steps done args e ++ steps_from plan args (event_sites done e ++ seen) (made_after e done) es)

  -- arguments of the term's types, what constraints tell, so that specs are asked of known variants and numbers, the term's require, and
  -- then what happens
  abbrev pub args_of : Forms
  args_of = fields_at argument_at 0 (arg_types p c.term)

  abbrev pub told_steps : List (SiteTerm × Constraint) → List Step
  told_steps ks = map (λ e. told_as (told_form e.0) e.1) ks

  abbrev pub steps_of : (Place → Bool) → List Step
  steps_of plan =
      split_each plan args_of ++ (told_steps c.constraints ++ (field_splits plan is_argument c.constraints ++ (map assumed (requires_of specs c.term args_of) ++ steps_from plan args_of [] [] (events_of c))))
