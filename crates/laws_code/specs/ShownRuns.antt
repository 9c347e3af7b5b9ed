-- What shown code does: its run on arguments, where functions are told by their numbers.
use Rattle.std.specs.Prelude.{ℕ, Bool, true, false, List, [], ◌∷◌, ◌++◌, Option, Some, None}
use Rattle.model.specs.rules.Values.{Value, Values}
use Rattle.model.specs.rules.Meaning.{Content, Literal}
use Rattle.model.specs.rules.Outcome.{Call, Outcome}
use Rattle.model.specs.trees.Run.{World, Env, bound_to, Bound, no_content_there, now_bound, unwrapped, Trace, content_fields, at_start}
use Rattle.model_code.specs.Code.{Expr, call, Block, no_statement, statement, Statement, bind, bind_some, no_way, match_on, if_equal, for_each_of, give, labelled, unless_let, unless_equal, CodeArms, no_code_arm, code_arm}
use Rattle.model_code.specs.CodeRuns.{held, held_value, held_values, bind_expr, Flow, goes_on, leaves, sticks, then_flow, in_braces, in_label, flow_of_bound, give_content, where_met, on_content, where_equal, on_answers, outcome_of}

-- what is around a function's text, told by what the text shows: the values of what is written out, of a truth value at type 0, and of
-- an integer at what stands behind its digits; those of named constants; and the answer of each function, by its number and its
-- arguments, of an impure one by the calls of impure ones that were made before. The text doesn't show which ones are impure. All may
-- say nothing
pub record ShownExterns : Type 0 where
  pub literals : Literal → Option Value
  pub constants : ℕ → Option Value
  pub is_impure : ℕ → Bool
  pub pures : ℕ → Values → Option Content
  pub impures : List Call → Call → Option Content

-- with the arguments, and whether the function puts its results into a list
pub record ShownWorld : Type 0 where
  pub around : ShownExterns
  pub args : List Value
  pub multi : Bool

-- for what calls no function
abbrev pub world_of_shown : ShownWorld → World
world_of_shown w = record {
  sites = [];
  args = w.args;
  meaning = record { literals = w.around.literals; constants = w.around.constants; extractors = λ f v. None; pures = w.around.pures; impures = λ f n. None };
  multi = w.multi;
}

-- a function is called: an impure one is noted
abbrev pub answered : Bool → ShownExterns → Env → List Call → ℕ → Call → Bound
answered false a env calls v c = now_bound env calls v (a.pures c.term c.args)
answered true a env calls v c = now_bound env (calls ++ c ∷ []) v (a.impures calls c)

abbrev pub called : ShownExterns → Env → List Call → (v f : ℕ) → Option Values → Bound
called a env calls v f None = no_content_there calls
called a env calls v f (Some vs) = answered (a.is_impure f) a env calls v (record { term = f; args = vs })

-- that of an extraction isn't shown
abbrev pub bind_shown : ShownWorld → Env → List Call → ℕ → Expr → Bound
bind_shown w env calls v (call f us instance) = called w.around env calls v f (held_values (world_of_shown w) env us)
bind_shown w env calls v e = bind_expr (world_of_shown w) env calls v e

abbrev mutual
  pub run_shown : Block → ShownWorld → Option ℕ → Env → Trace → Flow
  run_shown no_statement w most env t = goes_on env t
  run_shown (statement s rest) w most env t = then_flow (run_shown_at s w most env t) (run_shown rest w most)

  pub run_shown_at : Statement → ShownWorld → Option ℕ → Env → Trace → Flow
  run_shown_at (bind v e) w most env t = flow_of_bound (bind_shown w env t.calls v e) t
  run_shown_at (bind_some v u) w most env t = flow_of_bound (unwrapped env t.calls v (held (world_of_shown w) env u.place)) t
  run_shown_at no_way w most env t = sticks t
  run_shown_at (match_on u arms) w most env t = in_braces env (on_content (held (world_of_shown w) env u.place) t (λ c. run_shown_arms arms w most c env t))
  run_shown_at (if_equal a b body) w most env t =
      in_braces env (where_equal (held_value (world_of_shown w) env a) (held_value (world_of_shown w) env b) t (run_shown body w most env t) (goes_on env t))
  run_shown_at (for_each_of v from body) w most env t = on_answers (bound_to env from) (λ c t'. run_shown body w most ((v, c) ∷ env) t') env t
  run_shown_at (give at u) w most env t = give_content (held (world_of_shown w) env u.place) w.multi most env t
  run_shown_at (labelled body) w most env t = in_label env (run_shown body w most env t)
  run_shown_at (unless_let u pattern fields) w most env t =
      on_content (held (world_of_shown w) env u.place) t (λ c. where_met (content_fields (world_of_shown w).meaning pattern c) fields env t (λ env'. goes_on env' t) (leaves t))
  run_shown_at (unless_equal a b) w most env t = where_equal (held_value (world_of_shown w) env a) (held_value (world_of_shown w) env b) t (goes_on env t) (leaves t)

  pub run_shown_arms : CodeArms → ShownWorld → Option ℕ → Content → Env → Trace → Flow
  run_shown_arms no_code_arm w most c env t = goes_on env t
  run_shown_arms (code_arm pattern fields body rest) w most c env t =
      where_met (content_fields (world_of_shown w).meaning pattern c) fields env t (λ env'. run_shown body w most env' t) (run_shown_arms rest w most c env t)

-- the run of a function's body, with at most so many results where there is a bound
abbrev pub shown_run : Block → ShownWorld → Option ℕ → Outcome
shown_run body w most = outcome_of (run_shown body w most [] at_start)
