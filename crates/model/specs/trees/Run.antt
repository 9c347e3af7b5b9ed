-- What a tree of tests does: its run on arguments under a meaning.
use Rattle.std.specs.Prelude.{ℕ, zero, suc, Bool, true, false, List, [], ◌∷◌, ◌++◌, length, Option, Some, None, if◌then◌else◌, ◌&&◌, slice_get}
use Rattle.std.specs.Bool.{◌==◌}
use Rattle.model.specs.rules.Values.{Value, of_variant, of_struct, Values, no_value, value_and, value_eq, listed}
use Rattle.model.specs.rules.Meaning.{Content, one, parts, nothing, just, many, contents, Meaning, look, bool_literal, int_literal, literal_value, constant_value, extractor_answer, pure_answer, impure_answer}
use Rattle.model.specs.rules.Outcome.{Call, Ending, ended, failed, ran_through, stuck, Outcome, then_option}
use Rattle.model.specs.sites.Sites.{Site, bool_site, int_site, prim_site, argument_site, extractor_site, constructor_site, iterator_site, make_variant_site, match_variant_site, make_struct_site, extract_struct_site, make_some_site, match_some_site, match_tuple_site, Constraint, is_variant, is_struct, is_bool, is_int, is_prim, is_present}
use Rattle.model.specs.trees.Trees.{Tree, no_step, step, Check, match_at, equal_at, loop_at, return_at, Arms, no_arm, arm}
use Rattle.model.specs.rules.Program.{Program, is_multi}

-- what a run works with: the sites, the arguments, the meaning, and whether the term is multi
pub record World : Type 0 where
  pub sites : List Site
  pub args : List Value
  pub meaning : Meaning
  pub multi : Bool

-- what sites are bound to, the last one first
abbrev pub Env : Type 0
Env = List (ℕ × Content)

abbrev pub bound_to : Env → ℕ → Option Content
bound_to env s = look (λ k. k == s) env

abbrev pub as_value : Content → Option Value
as_value (one v) = Some v
as_value _ = None

abbrev pub from_value : Option Value → Option Content
from_value None = None
from_value (Some v) = Some (one v)

abbrev pub part_at : Content → ℕ → Option Content
part_at (parts vs) i = from_value (slice_get (listed vs) i)
part_at _ i = None

-- the content of a site that is written in place: a constant, an argument, a tuple part, a construction without parts
abbrev pub in_place : World → Env → Site → Option Content
in_place w env (int_site z ty) = from_value (literal_value w.meaning (int_literal z ty))
in_place w env (prim_site name) = from_value (constant_value w.meaning name)
in_place w env (argument_site i) = from_value (slice_get w.args i)
in_place w env (match_tuple_site source field) = then_option (bound_to env source) (λ c. part_at c field)
in_place w env (make_variant_site ty variant []) = Some (one (of_variant ty variant no_value))
in_place w env (make_struct_site ty []) = Some (one (of_struct ty no_value))
in_place w env _ = None

-- the content of a site that is used: what it is bound to, or what is written in place
abbrev pub or_else : {X : Type 0} → Option X → Option X → Option X
or_else None b = b
or_else (Some x) b = Some x

abbrev pub used : World → Env → ℕ → Option Content
used w env s = or_else (bound_to env s) (then_option (slice_get w.sites s) (in_place w env))

abbrev pub used_value : World → Env → ℕ → Option Value
used_value w env s = then_option (used w env s) as_value

abbrev pub used_values : World → Env → List ℕ → Option Values
used_values w env [] = Some no_value
used_values w env (s ∷ rest) = then_option (used_value w env s) (λ v. then_option (used_values w env rest) (λ vs. Some (value_and v vs)))

-- what binding sites leads to: they are bound, an unwrap of nothing failed, or it is stuck
pub data Bound : Type 0 where
  all_bound : (env : Env) (calls : List Call) → Bound
  unwrap_failed : (calls : List Call) → Bound
  no_content_there : (calls : List Call) → Bound

abbrev pub now_bound : Env → List Call → ℕ → Option Content → Bound
now_bound env calls s None = no_content_there calls
now_bound env calls s (Some c) = all_bound ((s, c) ∷ env) calls

abbrev pub unwrapped : Env → List Call → ℕ → Option Content → Bound
unwrapped env calls s (Some (just c)) = all_bound ((s, c) ∷ env) calls
unwrapped env calls s (Some nothing) = unwrap_failed calls
unwrapped env calls s _ = no_content_there calls

-- a constructor's call: pure where the instance is 0; an impure one is answered by the calls made before it
abbrev pub constructed : World → Env → List Call → ℕ → ℕ → ℕ → Option Values → Bound
constructed w env calls s term instance None = no_content_there calls
constructed w env calls s term zero (Some vs) = now_bound env calls s (pure_answer w.meaning term vs)
constructed w env calls s term (suc before) (Some vs) =
    now_bound env (calls ++ record { term = term; args = vs } ∷ []) s (impure_answer w.meaning term (length calls))

-- a site is bound to its content; fields and picks are not bound in a bind order
abbrev pub bind_site : World → Env → List Call → ℕ → Option Site → Bound
bind_site w env calls s None = no_content_there calls
bind_site w env calls s (Some (bool_site b ty)) = now_bound env calls s (from_value (literal_value w.meaning (bool_literal b ty)))
bind_site w env calls s (Some (int_site z ty)) = now_bound env calls s (in_place w env (int_site z ty))
bind_site w env calls s (Some (prim_site name)) = now_bound env calls s (in_place w env (prim_site name))
bind_site w env calls s (Some (argument_site i)) = now_bound env calls s (in_place w env (argument_site i))
bind_site w env calls s (Some (extractor_site term source)) = now_bound env calls s (then_option (used_value w env source) (extractor_answer w.meaning term))
bind_site w env calls s (Some (constructor_site term sources instance)) = constructed w env calls s term instance (used_values w env sources)
bind_site w env calls s (Some (iterator_site source)) = no_content_there calls
bind_site w env calls s (Some (make_variant_site ty variant fields)) = now_bound env calls s (then_option (used_values w env fields) (λ vs. Some (one (of_variant ty variant vs))))
bind_site w env calls s (Some (match_variant_site source variant field)) = no_content_there calls
bind_site w env calls s (Some (make_struct_site ty fields)) = now_bound env calls s (then_option (used_values w env fields) (λ vs. Some (one (of_struct ty vs))))
bind_site w env calls s (Some (extract_struct_site source field)) = no_content_there calls
bind_site w env calls s (Some (make_some_site source)) = now_bound env calls s (then_option (used w env source) (λ c. Some (just c)))
bind_site w env calls s (Some (match_some_site source)) = unwrapped env calls s (used w env source)
bind_site w env calls s (Some (match_tuple_site source field)) = now_bound env calls s (then_option (used w env source) (λ c. part_at c field))

-- sites are bound in order
abbrev pub then_bind : Bound → (Env → List Call → Bound) → Bound
then_bind (all_bound env calls) go = go env calls
then_bind (unwrap_failed calls) go = unwrap_failed calls
then_bind (no_content_there calls) go = no_content_there calls

abbrev pub bind_all : World → Env → List Call → List ℕ → Bound
bind_all w env calls [] = all_bound env calls
bind_all w env calls (s ∷ rest) = then_bind (bind_site w env calls s (slice_get w.sites s)) (λ env' calls'. bind_all w env' calls' rest)

-- where a run stands: the impure calls made and the results given so far
pub record Trace : Type 0 where
  pub calls : List Call
  pub results : List Content

abbrev pub ending_at : Ending → Trace → Outcome
ending_at ending t = record { calls = t.calls; results = t.results; ending = ending }

abbrev pub with_calls : Trace → List Call → Trace
with_calls t calls = record { calls = calls; results = t.results }

abbrev pub on_bound : Bound → Trace → (Env → Trace → Outcome) → Outcome
on_bound (all_bound env calls) t go = go env (with_calls t calls)
on_bound (unwrap_failed calls) t go = ending_at failed (with_calls t calls)
on_bound (no_content_there calls) t go = ending_at stuck (with_calls t calls)

-- the next step follows where a step ran through
abbrev pub on_ending : Ending → Trace → (Trace → Outcome) → Outcome
on_ending ran_through t go = go t
on_ending ended t go = ending_at ended t
on_ending failed t go = ending_at failed t
on_ending stuck t go = ending_at stuck t

abbrev pub or_next : Outcome → (Trace → Outcome) → Outcome
or_next o go = on_ending o.ending (record { calls = o.calls; results = o.results }) go

abbrev pub all_one : List Value → List Content
all_one [] = []
all_one (v ∷ rest) = one v ∷ all_one rest

-- the fields of a value that is the constant, that variant or that struct; a value of another form doesn't meet it
abbrev pub where_constant : Option Value → Value → Option (List Content)
where_constant None v = None
where_constant (Some w) v = if value_eq w v then Some [] else None

abbrev pub value_fields : Meaning → Constraint → Value → Option (List Content)
value_fields m (is_variant ty variant fields) (of_variant t i vs) = if (t == ty) && (i == variant) then Some (all_one (listed vs)) else None
value_fields m (is_struct ty fields) (of_struct t vs) = if t == ty then Some (all_one (listed vs)) else None
value_fields m (is_bool b ty) v = where_constant (literal_value m (bool_literal b ty)) v
value_fields m (is_int z ty) v = where_constant (literal_value m (int_literal z ty)) v
value_fields m (is_prim name) v = where_constant (constant_value m name) v
value_fields m _ v = None

-- what a content that meets a constraint brings
abbrev pub content_fields : Meaning → Constraint → Content → Option (List Content)
content_fields m is_present (just c) = Some (c ∷ [])
content_fields m c (one v) = value_fields m c v
content_fields m _ _ = None

-- the sites of the fields are bound to them, where there is such a site
abbrev pub bind_fields : List (Option ℕ) → List Content → Env → Option Env
bind_fields [] [] env = Some env
bind_fields (None ∷ rest) (c ∷ cs) env = bind_fields rest cs env
bind_fields (Some s ∷ rest) (c ∷ cs) env = bind_fields rest cs ((s, c) ∷ env)
bind_fields _ _ env = None

abbrev pub with_env : Option Env → Trace → (Env → Outcome) → Outcome
with_env None t go = ending_at stuck t
with_env (Some env) t go = go env

abbrev pub with_content : Option Content → Trace → (Content → Outcome) → Outcome
with_content None t go = ending_at stuck t
with_content (Some c) t go = go c

abbrev pub on_met : Option (List Content) → List (Option ℕ) → Env → Trace → (Env → Outcome) → Outcome → Outcome
on_met (Some cs) fields env t go other = with_env (bind_fields fields cs env) t go
on_met None fields env t go other = other

abbrev pub on_equal : Option Value → Option Value → Trace → Outcome → Outcome
on_equal (Some v) (Some w) t body = if value_eq v w then body else ending_at ran_through t
on_equal _ _ t body = ending_at stuck t

-- the body for each answer in turn, until one ends the run
abbrev pub for_each : List Content → (Content → Trace → Outcome) → Trace → Outcome
for_each [] go t = ending_at ran_through t
for_each (c ∷ cs) go t = or_next (go c t) (for_each cs go)

abbrev pub on_many : Option Content → (Content → Trace → Outcome) → Trace → Outcome
on_many (Some (many cs)) go t = for_each (contents cs) go t
on_many _ go t = ending_at stuck t

-- the call whose answers a loop goes over
abbrev pub iterated : Site → Option ℕ
iterated (iterator_site source) = Some source
iterated _ = None

-- a result: in a multi term the run goes on
abbrev pub returned : Bool → Trace → Content → Outcome
returned false t c = record { calls = t.calls; results = t.results ++ c ∷ []; ending = ended }
returned true t c = record { calls = t.calls; results = t.results ++ c ∷ []; ending = ran_through }

abbrev mutual
  pub run_tree : Tree → World → Env → Trace → Outcome
  run_tree no_step w env t = ending_at ran_through t
  run_tree (step binds check rest) w env t =
      on_bound (bind_all w env t.calls binds) t (λ env' t'. or_next (run_check check w env' t') (run_tree rest w env'))

  pub run_check : Check → World → Env → Trace → Outcome
  run_check (match_at source arms) w env t = with_content (used w env source) t (λ c. run_arms arms w c env t)
  run_check (equal_at a b body) w env t = on_equal (used_value w env a) (used_value w env b) t (run_tree body w env t)
  run_check (loop_at result body) w env t =
      on_many (then_option (then_option (slice_get w.sites result) iterated) (used w env)) (λ c t'. run_tree body w ((result, c) ∷ env) t') t
  run_check (return_at at result) w env t = with_content (used w env result) t (returned w.multi t)

  -- the first arm whose constraint is met
  pub run_arms : Arms → World → Content → Env → Trace → Outcome
  run_arms no_arm w c env t = ending_at ran_through t
  run_arms (arm constraint fields body rest) w c env t =
      on_met (content_fields w.meaning constraint c) fields env t (λ env'. run_tree body w env' t) (run_arms rest w c env t)

abbrev pub at_start : Trace
at_start = record { calls = []; results = [] }

-- the run of a whole tree
abbrev pub run : Tree → World → Outcome
run tree w = run_tree tree w [] at_start

abbrev pub world_of : Program → ℕ → List Site → Meaning → List Value → World
world_of p t sites m args = record { sites = sites; args = args; meaning = m; multi = is_multi p t }
