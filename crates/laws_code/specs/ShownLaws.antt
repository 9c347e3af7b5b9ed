-- What a text shows of code runs as the code.
use Rattle.std.specs.Prelude.{◌≡◌, ◌≢◌, ◌&&◌, ℕ, ℤ, zero, suc, Bool, true, false, not, List, ◌∷◌, ◌++◌, length, map, Option}
use Rattle.model.specs.rules.Values.{Value, Values, no_value, value_and}
use Rattle.model.specs.rules.Meaning.{Meaning, bool_literal, int_literal, literal_value, constant_value, extractor_answer, pure_answer, impure_answer}
use Rattle.model.specs.rules.Outcome.{Call, Outcome, stuck}
use Rattle.model.specs.trees.Run.{World}
use Rattle.model_code.specs.Code.{Expr, extraction, call, Block, no_statement, statement, Statement, bind, match_on, if_equal, for_each_of, labelled, CodeArms, no_code_arm, code_arm}
use Rattle.model_code.specs.CodeRuns.{code_run}
use Rattle.model_code.specs.Notation.{Notation, extractor_of, constructor_of}
use Rattle.model_code.specs.Pieces.{result_ends}
use Rattle.model_code.specs.Written.{shown_code}
use Rattle.model_code.specs.ReadsBack.{writable}
use Rattle.laws_code.specs.ShownRuns.{ShownExterns, ShownWorld, shown_run}

-- 1. each call is an impure one exactly if its function is impure
abbrev pub impure_call : ℕ → Bool → Bool
impure_call zero impure = not impure
impure_call (suc before) impure = impure

abbrev pub expr_calls_as : Notation → (ℕ → Bool) → Expr → Bool
expr_calls_as p is_impure (extraction term u) = not (is_impure (p.function (extractor_of term)))
expr_calls_as p is_impure (call term us instance) = impure_call instance (is_impure (p.function (constructor_of term)))
expr_calls_as p is_impure e = true

abbrev mutual
  pub calls_as : Notation → (ℕ → Bool) → Block → Bool
  calls_as p is_impure no_statement = true
  calls_as p is_impure (statement s later) = calls_as_at p is_impure s && calls_as p is_impure later

  pub calls_as_at : Notation → (ℕ → Bool) → Statement → Bool
  calls_as_at p is_impure (bind v e) = expr_calls_as p is_impure e
  calls_as_at p is_impure (match_on u arms) = arms_call_as p is_impure arms
  calls_as_at p is_impure (if_equal a b body) = calls_as p is_impure body
  calls_as_at p is_impure (for_each_of v from body) = calls_as p is_impure body
  calls_as_at p is_impure (labelled body) = calls_as p is_impure body
  calls_as_at p is_impure s = true

  pub arms_call_as : Notation → (ℕ → Bool) → CodeArms → Bool
  arms_call_as p is_impure no_code_arm = true
  arms_call_as p is_impure (code_arm pattern fields body rest) = calls_as p is_impure body && arms_call_as p is_impure rest

-- 2. calls by the numbers of their functions
abbrev pub by_number : Notation → Call → Call
by_number p c = record { term = p.function (constructor_of c.term); args = c.args }

abbrev pub outcome_by_number : Notation → Outcome → Outcome
outcome_by_number p o = record { calls = map (by_number p) o.calls; results = o.results; ending = o.ending }

-- a meaning says what is said around the text: of what is written out, whatever its type; of constants; of pure calls; and, under
-- the number of each impure call that a run makes, what is answered to it behind those before it
pub record SaysWhatIsAround (p : Notation) (m : Meaning) (around : ShownExterns) (calls : List Call) : Type 0 where
  pub truths : (b : Bool) (ty : ℕ) → literal_value m (bool_literal b ty) ≡ around.literals (bool_literal b 0)
  pub integers : (z : ℤ) (ty : ℕ) → literal_value m (int_literal z ty) ≡ around.literals (int_literal z (p.ending ty))
  pub constants : (name : ℕ) → constant_value m name ≡ around.constants name
  pub extractors : (t : ℕ) (v : Value) → around.is_impure (p.function (extractor_of t)) ≡ false → extractor_answer m t v ≡ around.pures (p.function (extractor_of t)) (value_and v no_value)
  pub pures : (t : ℕ) (vs : Values) → around.is_impure (p.function (constructor_of t)) ≡ false → pure_answer m t vs ≡ around.pures (p.function (constructor_of t)) vs
  pub impures : (before after : List Call) (c : Call) → calls ≡ before ++ c ∷ after → impure_answer m c.term (length before) ≡ around.impures (map (by_number p) before) (by_number p c)

abbrev pub shown_world : ShownExterns → World → ShownWorld
shown_world around w = record { around = around; args = w.args; multi = w.multi }

-- code that can be written, and runs without getting stuck, does what is shown of it: the same results and ending, and the same impure
-- calls, by the numbers of their functions
abbrev pub ShownCodeRunsAsCode : Type 0
ShownCodeRunsAsCode =
    (p : Notation) (code : Block) (w : World) (around : ShownExterns) (most : Option ℕ)
    → writable p false code ≡ true → calls_as p around.is_impure code ≡ true → w.multi ≡ not (result_ends p)
    → SaysWhatIsAround p w.meaning around (code_run code w most).calls → (code_run code w most).ending ≢ stuck
    → shown_run (shown_code p code) (shown_world around w) most ≡ outcome_by_number p (code_run code w most)
