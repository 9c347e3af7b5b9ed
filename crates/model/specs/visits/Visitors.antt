-- Visitors: what their calls may answer and do. Each relation speaks of the state before, the arguments, the answer or a
-- fault, and the state after; types, terms, variants, names and arguments are given by their numbers.
use Rattle.std.specs.Prelude.{ℕ, ℤ, Bool, List, Result}

-- patterns: an id of the part that is matched, its type, and what it is matched with; a term's parts are answered
pub record PatternSteps (F S P : Type 0) : Type 1 where
  pub match_equal_steps : S → P → P → ℕ → Result (Unit {0}) F → S → Type 0
  pub match_bool_steps : S → P → ℕ → Bool → Result (Unit {0}) F → S → Type 0
  pub match_int_steps : S → P → ℕ → ℤ → Result (Unit {0}) F → S → Type 0
  pub match_prim_steps : S → P → ℕ → ℕ → Result (Unit {0}) F → S → Type 0
  -- the types of its fields, and the variant
  pub match_variant_steps : S → P → ℕ → List ℕ → ℕ → Result (List P) F → S → Type 0
  pub extract_struct_steps : S → P → ℕ → List ℕ → Result (List P) F → S → Type 0
  -- the types of its outputs, the term, whether it always answers, and whether it may answer many times
  pub extract_steps : S → P → ℕ → List ℕ → ℕ → Bool → Bool → Result (List P) F → S → Type 0

-- expressions: each answers the id of its value; inputs are given by id and type
pub record ExprSteps (F S E : Type 0) : Type 1 where
  pub const_bool_steps : S → ℕ → Bool → Result E F → S → Type 0
  pub const_int_steps : S → ℕ → ℤ → Result E F → S → Type 0
  pub const_prim_steps : S → ℕ → ℕ → Result E F → S → Type 0
  pub create_variant_steps : S → List (E × ℕ) → ℕ → ℕ → Result E F → S → Type 0
  pub create_struct_steps : S → List (E × ℕ) → ℕ → Result E F → S → Type 0
  -- the inputs, the type, the term, and whether it is pure, always answers, is multi and recursive
  pub construct_steps : S → List (E × ℕ) → ℕ → ℕ → Bool → Bool → Bool → Bool → Result E F → S → Type 0

-- rules: S is the state, L and M are those of the visitors that are lent for patterns and for expressions, X is what an
-- expression becomes, P and E are the ids of patterns and of expressions
pub record RuleSteps (F S L M X P E : Type 0) : Type 1 where
  -- the argument of a number, and its type
  pub arg_steps : S → ℕ → ℕ → Result P F → S → Type 0
  pub expr_as_pattern_steps : S → X → Result P F → S → Type 0
  pub pattern_as_expr_steps : S → P → Result E F → S → Type 0
  pub lend_pattern_steps : S → Result L F → S → Type 0
  pub take_pattern_steps : S → L → Result (Unit {0}) F → S → Type 0
  pub leave_pattern_steps : L → S → S → Type 0
  pub lend_expr_steps : S → Result M F → S → Type 0
  -- the type and the id of the expression that was visited
  pub take_expr_steps : S → M → ℕ → E → Result X F → S → Type 0
  pub leave_expr_steps : M → S → S → Type 0
