-- How a rule, a set of rules or a tree ends.
use Rattle.std.specs.Prelude.{ℕ, List, [], Option, Some, None}
use Rattle.model.specs.rules.Values.{Values}
use Rattle.model.specs.rules.Meaning.{Content}

-- an impure call that was made
pub record Call : Type 0 where
  pub term : ℕ
  pub args : Values

-- a result ended it; a failure ended it; it ran through, without an end; it is stuck
pub data Ending : Type 0 where
  ended : Ending
  failed : Ending
  ran_through : Ending
  stuck : Ending

-- the impure calls in order, the results in order, and the ending
pub record Outcome : Type 0 where
  pub calls : List Call
  pub results : List Content
  pub ending : Ending

-- no rule matches: no impure call is made, and there is no result
abbrev pub no_rule : Outcome
no_rule = record { calls = []; results = []; ending = ran_through }

abbrev pub then_option : {X Y : Type 0} → Option X → (X → Option Y) → Option Y
then_option None f = None
then_option (Some x) f = f x
