-- What code does: its run on arguments under a meaning. It comes to an outcome as a tree's run does, or leaves the labelled
-- block around it.
use Rattle.std.specs.Prelude.{ℕ, zero, suc, Bool, true, false, List, [], ◌∷◌, ◌++◌, length, Option, Some, None, if◌then◌else◌, slice_get}
use Rattle.model.specs.rules.Values.{Value, of_variant, of_struct, Values, no_value, value_and, value_eq}
use Rattle.model.specs.rules.Meaning.{Content, one, just, many, contents, bool_literal, int_literal, literal_value, constant_value, extractor_answer}
use Rattle.model.specs.rules.Outcome.{Call, ended, failed, ran_through, stuck, Outcome, then_option}
use Rattle.model.specs.trees.Run.{World, Env, bound_to, as_value, from_value, part_at, Bound, all_bound, unwrap_failed, no_content_there, now_bound, unwrapped, constructed, Trace, with_calls, ending_at, content_fields, bind_fields, at_start}
use Rattle.model_code.specs.Code.{Place, variable, parameter, part_of, int_written, name_written, variant_written, struct_written, PlaceUse, Expr, truth_written, read, extraction, call, variant_of, struct_of, some_of, Block, no_statement, statement, Statement, bind, bind_some, no_way, match_on, if_equal, for_each_of, give, labelled, unless_let, unless_equal, CodeArms, no_code_arm, code_arm}

-- what is read there: how it is handed on makes no difference
abbrev pub held : World → Env → Place → Option Content
held w env (variable v) = bound_to env v
held w env (parameter i) = from_value (slice_get w.args i)
held w env (part_of v i) = then_option (bound_to env v) (λ c. part_at c i)
held w env (int_written z ty) = from_value (literal_value w.meaning (int_literal z ty))
held w env (name_written name) = from_value (constant_value w.meaning name)
held w env (variant_written ty variant) = Some (one (of_variant ty variant no_value))
held w env (struct_written ty) = Some (one (of_struct ty no_value))

abbrev pub held_value : World → Env → PlaceUse → Option Value
held_value w env u = then_option (held w env u.place) as_value

abbrev pub held_values : World → Env → List PlaceUse → Option Values
held_values w env [] = Some no_value
held_values w env (u ∷ rest) = then_option (held_value w env u) (λ v. then_option (held_values w env rest) (λ vs. Some (value_and v vs)))

-- a variable is bound to what an expression comes to
abbrev pub bind_expr : World → Env → List Call → ℕ → Expr → Bound
bind_expr w env calls s (truth_written b ty) = now_bound env calls s (from_value (literal_value w.meaning (bool_literal b ty)))
bind_expr w env calls s (read u) = now_bound env calls s (held w env u.place)
bind_expr w env calls s (extraction term u) = now_bound env calls s (then_option (held_value w env u) (extractor_answer w.meaning term))
bind_expr w env calls s (call term us instance) = constructed w env calls s term instance (held_values w env us)
bind_expr w env calls s (variant_of ty variant us) = now_bound env calls s (then_option (held_values w env us) (λ vs. Some (one (of_variant ty variant vs))))
bind_expr w env calls s (struct_of ty us) = now_bound env calls s (then_option (held_values w env us) (λ vs. Some (one (of_struct ty vs))))
bind_expr w env calls s (some_of u) = now_bound env calls s (then_option (held w env u.place) (λ c. Some (just c)))

-- where a block or a statement comes to: on, with what is bound; out of the labelled block; a return, a failure; or it is stuck
pub data Flow : Type 0 where
  goes_on : (env : Env) (t : Trace) → Flow
  leaves : (t : Trace) → Flow
  returns : (t : Trace) → Flow
  fails : (t : Trace) → Flow
  sticks : (t : Trace) → Flow

abbrev pub then_flow : Flow → (Env → Trace → Flow) → Flow
then_flow (goes_on env t) go = go env t
then_flow (leaves t) go = leaves t
then_flow (returns t) go = returns t
then_flow (fails t) go = fails t
then_flow (sticks t) go = sticks t

-- what is bound in braces ends there
abbrev pub in_braces : Env → Flow → Flow
in_braces env (goes_on env' t) = goes_on env t
in_braces env (leaves t) = leaves t
in_braces env (returns t) = returns t
in_braces env (fails t) = fails t
in_braces env (sticks t) = sticks t

abbrev pub in_label : Env → Flow → Flow
in_label env (goes_on env' t) = goes_on env t
in_label env (leaves t) = goes_on env t
in_label env (returns t) = returns t
in_label env (fails t) = fails t
in_label env (sticks t) = sticks t

abbrev pub flow_of_bound : Bound → Trace → Flow
flow_of_bound (all_bound env calls) t = goes_on env (with_calls t calls)
flow_of_bound (unwrap_failed calls) t = fails (with_calls t calls)
flow_of_bound (no_content_there calls) t = sticks (with_calls t calls)

-- the list of results is full at so many, where there is a bound
abbrev pub at_least : ℕ → ℕ → Bool
at_least zero n = true
at_least (suc m) zero = false
at_least (suc m) (suc n) = at_least m n

abbrev pub is_full : Option ℕ → ℕ → Bool
is_full None n = false
is_full (Some most) n = at_least most n

abbrev pub with_result : Trace → Content → Trace
with_result t c = record { calls = t.calls; results = t.results ++ c ∷ [] }

-- a result: in a multi term the code goes on, unless the list is full
abbrev pub after_result : Bool → Option ℕ → Env → Trace → Flow
after_result false most env t = returns t
after_result true most env t = if is_full most (length t.results) then returns t else goes_on env t

abbrev pub give_content : Option Content → Bool → Option ℕ → Env → Trace → Flow
give_content None multi most env t = sticks t
give_content (Some c) multi most env t = after_result multi most env (with_result t c)

abbrev pub with_bindings : Option Env → Trace → (Env → Flow) → Flow
with_bindings None t go = sticks t
with_bindings (Some env) t go = go env

abbrev pub where_met : Option (List Content) → List (Option ℕ) → Env → Trace → (Env → Flow) → Flow → Flow
where_met (Some cs) fields env t go other = with_bindings (bind_fields fields cs env) t go
where_met None fields env t go other = other

abbrev pub on_content : Option Content → Trace → (Content → Flow) → Flow
on_content None t go = sticks t
on_content (Some c) t go = go c

abbrev pub where_equal : Option Value → Option Value → Trace → Flow → Flow → Flow
where_equal (Some v) (Some w) t body other = if value_eq v w then body else other
where_equal _ _ t body other = sticks t

-- the body for each answer in turn
abbrev pub each_flow : List Content → (Content → Trace → Flow) → Env → Trace → Flow
each_flow [] go env t = goes_on env t
each_flow (c ∷ cs) go env t = then_flow (in_braces env (go c t)) (λ env' t'. each_flow cs go env t')

abbrev pub on_answers : Option Content → (Content → Trace → Flow) → Env → Trace → Flow
on_answers (Some (many cs)) go env t = each_flow (contents cs) go env t
on_answers _ go env t = sticks t

abbrev mutual
  pub run_block : Block → World → Option ℕ → Env → Trace → Flow
  run_block no_statement w most env t = goes_on env t
  run_block (statement s rest) w most env t = then_flow (run_statement s w most env t) (run_block rest w most)

  pub run_statement : Statement → World → Option ℕ → Env → Trace → Flow
  run_statement (bind v e) w most env t = flow_of_bound (bind_expr w env t.calls v e) t
  run_statement (bind_some v u) w most env t = flow_of_bound (unwrapped env t.calls v (held w env u.place)) t
  run_statement no_way w most env t = sticks t
  run_statement (match_on u arms) w most env t = in_braces env (on_content (held w env u.place) t (λ c. run_code_arms arms w most c env t))
  run_statement (if_equal a b body) w most env t = in_braces env (where_equal (held_value w env a) (held_value w env b) t (run_block body w most env t) (goes_on env t))
  run_statement (for_each_of v from body) w most env t = on_answers (bound_to env from) (λ c t'. run_block body w most ((v, c) ∷ env) t') env t
  run_statement (give at u) w most env t = give_content (held w env u.place) w.multi most env t
  run_statement (labelled body) w most env t = in_label env (run_block body w most env t)
  run_statement (unless_let u pattern fields) w most env t =
      on_content (held w env u.place) t (λ c. where_met (content_fields w.meaning pattern c) fields env t (λ env'. goes_on env' t) (leaves t))
  run_statement (unless_equal a b) w most env t = where_equal (held_value w env a) (held_value w env b) t (goes_on env t) (leaves t)

  -- the first arm whose pattern is met
  pub run_code_arms : CodeArms → World → Option ℕ → Content → Env → Trace → Flow
  run_code_arms no_code_arm w most c env t = goes_on env t
  run_code_arms (code_arm pattern fields body rest) w most c env t =
      where_met (content_fields w.meaning pattern c) fields env t (λ env'. run_block body w most env' t) (run_code_arms rest w most c env t)

-- the outcome of a flow: a label that isn't there can't be left
abbrev pub outcome_of : Flow → Outcome
outcome_of (goes_on env t) = ending_at ran_through t
outcome_of (leaves t) = ending_at stuck t
outcome_of (returns t) = ending_at ended t
outcome_of (fails t) = ending_at failed t
outcome_of (sticks t) = ending_at stuck t

-- the run of a function's body, with at most so many results where there is a bound
abbrev pub code_run : Block → World → Option ℕ → Outcome
code_run body w most = outcome_of (run_block body w most [] at_start)
