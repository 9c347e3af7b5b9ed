-- A step of reading a rule: it goes on, also where something is wrong, or a limit stops it. What is wrong is kept in order.
use Rattle.std.specs.Prelude.{ℕ, suc, ◌+◌, ℤ, Bool, true, false, List, [], ◌∷◌, ◌++◌, Option, Some, None, option_map}
use Rattle.model.specs.lists.Syntax.{Position}
use Rattle.model.specs.lists.Setting.{Scope}
use Rattle.model.specs.claims.Refusals.{NamedLimit}

-- what is wrong with a rule: names as texts, types by id. Two of a kind differ in what they name
pub data Why : Type 0 where
  -- names that stand for nothing. A term's in an expression: whether a variable has it
  unknown_extractor : (name : List ℕ) → Why
  unknown_constructor : (name : List ℕ) (is_variable : Bool) → Why
  unknown_variable : (name : List ℕ) → Why
  unknown_constant : (name : List ℕ) → Why
  unknown_let_type : (ty variable : List ℕ) → Why
  -- a name is bound twice in patterns
  rebound : (name : List ℕ) → Why
  -- in patterns: something is of another type than is wanted
  bound_type : (name : List ℕ) (want has : ℕ) → Why
  extractor_type : (name : List ℕ) (want has : ℕ) → Why
  matched_constant_type : (name : List ℕ) (want has : ℕ) → Why
  -- in expressions
  variable_type : (name : List ℕ) (want : Option ℕ) (has : ℕ) → Why
  constructor_type : (name : List ℕ) (want : Option ℕ) (has : ℕ) → Why
  constant_type : (name : List ℕ) (want : Option ℕ) (has : ℕ) → Why
  -- literals
  no_integer : (ty : ℕ) (z : ℤ) → Why
  no_truth : (want : Option ℕ) (b : Bool) → Why
  untyped_integer : Why
  -- uses of terms
  argument_count : (name : List ℕ) (got expect : ℕ) → Why
  no_extractor : (name : List ℕ) → Why
  multi_extractor : (name : List ℕ) → Why
  no_constructor : (name : List ℕ) → Why
  impure_constructor : (name : List ℕ) → Why
  multi_constructor : (name : List ℕ) → Why
  partial_constructor : (name : List ℕ) → Why
  macro_argument : (index : ℕ) → Why
  -- roots of rules, and priorities
  no_root : Why
  unknown_root : (name : List ℕ) → Why
  undeclared_root : (name : List ℕ) → Why
  priority : Why

-- and where
pub record Mistake : Type 0 where
  pub why : Why
  pub at : Position

-- what a step comes to: what it made, if anything, the scope after it, its expansions, and what is wrong; or the limit that stops
-- the work, the scope where it does, and what is wrong before it
pub data Step (X : Type 0) : Type 0 where
  went_on : (made : Option X) (scope : Scope) (expansions : ℕ) (wrong : List Mistake) → Step X
  stopped : (limit : NamedLimit) (scope : Scope) (wrong : List Mistake) → Step X

-- what is wrong unless a test holds
abbrev pub unless : Bool → Why → Position → List Mistake
unless true why at = []
unless false why at = record { why = why; at = at } ∷ []

-- something is made without an expansion; or nothing is, for a reason
abbrev pub here : {X : Type 0} → X → Scope → Step X
here x s = went_on (Some x) s 0 []

abbrev pub nothing : {X : Type 0} → Scope → Why → Position → Step X
nothing s why at = went_on None s 0 (record { why = why; at = at } ∷ [])

-- this is wrong before what a step finds
abbrev pub noting : {X : Type 0} → List Mistake → Step X → Step X
noting ws (went_on m s k es) = went_on m s k (ws ++ es)
noting ws (stopped l s es) = stopped l s (ws ++ es)

-- the same of what was made
abbrev pub made_step : {X Y : Type 0} → (X → Y) → Step X → Step Y
made_step f (went_on m s k es) = went_on (option_map f m) s k es
made_step f (stopped l s es) = stopped l s es

-- one expansion more
abbrev pub counted_step : {X : Type 0} → Step X → Step X
counted_step (went_on m s k es) = went_on m s (suc k) es
counted_step (stopped l s es) = stopped l s es

-- what a later step made, behind what was made before it by so many expansions
abbrev pub joined_step : {X Y Z : Type 0} → (Option X → Y → Z) → Option X → ℕ → Step Y → Step Z
joined_step g m k (went_on None s j es) = went_on None s (k + j) es
joined_step g m k (went_on (Some y) s j es) = went_on (Some (g m y)) s (k + j) es
joined_step g m k (stopped l s es) = stopped l s es

-- one step, then the next, from where the first went on, whether it made something or not
abbrev pub then_step : {X Y Z : Type 0} → (Option X → Y → Z) → Step X → (Option X → Scope → ℕ → Step Y) → Step Z
then_step g (went_on m s k es) next = noting es (joined_step g m k (next m s k))
then_step g (stopped l s es) next = stopped l s es

-- the next is made where the first made something; else nothing is
abbrev pub after_made : {X Y : Type 0} → (X → Scope → ℕ → Step Y) → Option X → Scope → ℕ → Step Y
after_made next None s k = went_on None s 0 []
after_made next (Some x) s k = next x s k

abbrev pub last_made : {X Y : Type 0} → Option X → Y → Y
last_made m y = y

abbrev pub then_made : {X Y : Type 0} → Step X → (X → Scope → ℕ → Step Y) → Step Y
then_made t next = then_step last_made t (after_made next)
