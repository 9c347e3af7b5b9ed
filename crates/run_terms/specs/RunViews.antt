-- What a run's state says: the sites that are bound, the last one first, what a site was found to hold, and the trace.
use Rattle.std.specs.Prelude.{◌≡◌, ℕ, Bool, true, false, List, [], ◌∷◌, ◌++◌, map, Option, Some, None, if◌then◌else◌}
use Rattle.model.specs.rules.Values as Values
use Rattle.model.specs.rules.Values.{value_eq}
use Rattle.model.specs.rules.Outcome as O
use Rattle.model.specs.trees.Run as R
use Rattle.model.specs.trees.Run.{Env, all_bound, unwrap_failed, no_content_there, ending_at, World}
use Rattle.model.specs.rules.Meaning as M
use Rattle.core_rule_sets.specs.SiteViews.{site_views}
use Rattle.core_rule_sets.specs.declared.trie_again.Binding.{Binding}
use Rattle.model.specs.rules.Meaning.{TotalMeaning, total}
use Rattle.run_terms.specs.declared.values.Value.{Value}
use Rattle.run_terms.specs.declared.values.Content.{Content}
use Rattle.run_terms.specs.declared.state.Stage.{Stage}
use Rattle.run_terms.specs.declared.state.Call.{Call}
use Rattle.run_terms.specs.declared.state.Trace.{Trace}
use Rattle.run_terms.specs.declared.state.Outcome.{Outcome}
use Rattle.run_terms.specs.declared.state.Ending.{Ending}
use Rattle.run_terms.specs.declared.state.Ending.TheVariants as E
use Rattle.run_terms.specs.declared.state.Found.{Found}
use Rattle.run_terms.specs.declared.state.Found.TheVariants as F
use Rattle.run_terms.specs.declared.state.Bound.{Bound}
use Rattle.run_terms.specs.declared.state.Bound.TheVariants as B
use Rattle.run_terms.specs.ValueViews.{value_view, value_views, content_view}

-- what is pushed last is first
abbrev pub env_onto : List (ℕ × Content) → Env → Env
env_onto [] env = env
env_onto (e ∷ rest) env = env_onto rest ((e.0, content_view e.1) ∷ env)

abbrev pub env_view : List (ℕ × Content) → Env
env_view es = env_onto es []

-- what was bound before is still there
abbrev pub IsBeginningOf : List (ℕ × Content) → List (ℕ × Content) → Type 0
IsBeginningOf old new = (more : List (ℕ × Content)) × (new ≡ old ++ more)

abbrev pub arg_views : List Value → List Values.Value
arg_views vs = map value_view vs

-- what a run works with, what is called being these functions
abbrev pub stage_of : TotalMeaning → List Binding → Bool → List Value → World
stage_of f sites multi args = record { sites = site_views sites; args = arg_views args; meaning = total f; multi = multi }

abbrev pub stage_view : {E : Type 0} → (E → TotalMeaning) → Stage E → World
stage_view functions stage = stage_of (functions stage.externs.now) stage.sites.now stage.multi stage.args.now

-- what a site holds that is used, on a stage and with these sites bound, and its value; and the values of some sites
abbrev pub used_in : {E : Type 0} → (E → TotalMeaning) → Stage E → List (ℕ × Content) → ℕ → Option M.Content
used_in functions stage env = R.used (stage_view functions stage) (env_view env)

abbrev pub used_value_in : {E : Type 0} → (E → TotalMeaning) → Stage E → List (ℕ × Content) → ℕ → Option Values.Value
used_value_in functions stage env = R.used_value (stage_view functions stage) (env_view env)

abbrev pub used_values_in : {E : Type 0} → (E → TotalMeaning) → Stage E → List (ℕ × Content) → List ℕ → Option Values.Values
used_values_in functions stage env = R.used_values (stage_view functions stage) (env_view env)

-- what a site holds: it is bound to it, or an unwrap failed, or there is nothing of the form that is used
abbrev pub found_view : Found → Env → List O.Call → ℕ → R.Bound
found_view (F.There c) env calls s = all_bound ((s, content_view c) ∷ env) calls
found_view F.Failed env calls s = unwrap_failed calls
found_view F.Missing env calls s = no_content_there calls

abbrev pub bound_view : Bound → Env → List O.Call → R.Bound
bound_view B.All env calls = all_bound env calls
bound_view B.Failed env calls = unwrap_failed calls
bound_view B.Missing env calls = no_content_there calls

abbrev pub is_all_bound : Bound → Bool
is_all_bound B.All = true
is_all_bound B.Failed = false
is_all_bound B.Missing = false

abbrev pub call_view : Call → O.Call
call_view c = record { term = c.term.0; args = value_views c.args.items }

abbrev pub call_views : List Call → List O.Call
call_views cs = map call_view cs

abbrev pub content_list : List Content → List M.Content
content_list cs = map content_view cs

abbrev pub trace_view : Trace → R.Trace
trace_view t = record { calls = call_views t.calls.items; results = content_list t.results.items }

abbrev pub ending_view : Ending → O.Ending
ending_view E.Ended = O.ended
ending_view E.Failed = O.failed
ending_view E.RanThrough = O.ran_through
ending_view E.Stuck = O.stuck

abbrev pub is_through : Ending → Bool
is_through E.Ended = false
is_through E.Failed = false
is_through E.RanThrough = true
is_through E.Stuck = false

-- a run that ended so, with this trace
abbrev pub outcome_at : Ending → Trace → O.Outcome
outcome_at e t = ending_at (ending_view e) (trace_view t)

abbrev pub outcome_view : Outcome → O.Outcome
outcome_view o = outcome_at o.ending o.trace

-- whether two values are equal, where both are there
abbrev pub equality_by : Option Values.Value → Option Values.Value → Option Bool
equality_by None b = None
equality_by (Some v) None = None
equality_by (Some v) (Some w) = Some (value_eq v w)

-- the sites of fields, where each has a content
abbrev pub if_bound : Bool → Env → Option Env
if_bound b env = if b then Some env else None

-- a field's site is bound to it, where there is such a site
abbrev pub with_field : Option ℕ → M.Content → Env → Env
with_field None c env = env
with_field (Some s) c env = (s, c) ∷ env

-- the answers of a content that has several
abbrev pub many_by : Option M.Content → Option (List M.Content)
many_by (Some (M.many cs)) = Some (M.contents cs)
many_by _ = None
