-- Formulas of words, integers and truths, and what they come to in a model, which gives each constant a value.
use Rattle.std.specs.Prelude.{ℕ, suc, ℤ, pos, Bool, true, false, not, ◌&&◌, ◌||◌, List, [], ◌∷◌, Option, Some, if◌then◌else◌}
use Rattle.std.specs.Bool.{◌==◌}
use Rattle.std.proofs.Math.Bool.{beq}
use Rattle.model.specs.sites.Sites.{SiteTerm}
use Rattle.model.specs.visits.Demands.{site_term_eq}
use Rattle.laws_specs.specs.Words.{Denoted, a_truth, an_integer, a_word, DenotedList, no_denoted, denoted_and, Operator, applied_to}
use Rattle.laws_specs.specs.Specs.{Unknowns}

-- where a value stands: an argument, the value that a site holds or that its call answers, an output of the call of an extractor, a field
pub data Place : Type 0 where
  argument_at : (i : ℕ) → Place
  site_at : (s : SiteTerm) → Place
  output_at : (s : SiteTerm) (i : ℕ) → Place
  variant_field_at : (of : Place) (ty variant i : ℕ) → Place
  struct_field_at : (of : Place) (ty i : ℕ) → Place

abbrev pub place_eq : Place → Place → Bool
place_eq (argument_at i) (argument_at j) = i == j
place_eq (site_at s) (site_at t) = site_term_eq s t
place_eq (output_at s i) (output_at t j) = site_term_eq s t && (i == j)
place_eq (variant_field_at a s v i) (variant_field_at b t w j) = place_eq a b && (s == t) && (v == w) && (i == j)
place_eq (struct_field_at a s i) (struct_field_at b t j) = place_eq a b && (s == t) && (i == j)
place_eq _ _ = false

mutual
  -- a number that is written, the constant of a place at a width, what an operator or an unknown function gives, one of two
  pub data Word : Type 0 where
    written : (n : ℕ) → Word
    word_at : (at : Place) (width : ℕ) → Word
    word_by : (o : Operator) (of : Operands) → Word
    word_answered : (f : ℕ) (of : Operands) → Word
    either_word : (f : Fact) (a b : Word) → Word

  pub data Integer : Type 0 where
    written_integer : (z : ℤ) → Integer
    integer_at : (at : Place) → Integer
    integer_by : (o : Operator) (of : Operands) → Integer
    integer_answered : (f : ℕ) (of : Operands) → Integer
    either_integer : (f : Fact) (a b : Integer) → Integer

  pub data Fact : Type 0 where
    known : (b : Bool) → Fact
    truth_at : (at : Place) → Fact
    -- the word at a place is of this width
    as_wide : (at : Place) (width : ℕ) → Fact
    -- what stands at a place is this variant
    is_kind : (at : Place) (variant : ℕ) → Fact
    fact_by : (o : Operator) (of : Operands) → Fact
    fact_answered : (f : ℕ) (of : Operands) → Fact
    both_facts : (a b : Fact) → Fact
    one_fact : (a b : Fact) → Fact
    no_fact : (a : Fact) → Fact
    same_facts : (a b : Fact) → Fact

  -- what an operator is applied to: truths, integers, words of a width
  pub data Operands : Type 0 where
    no_operand : Operands
    fact_and : (f : Fact) (rest : Operands) → Operands
    integer_and : (z : Integer) (rest : Operands) → Operands
    word_and : (width : ℕ) (t : Word) (rest : Operands) → Operands

-- constants: the word at a place for each width, how wide the word there is, which variant stands there (by a number from 1), integers,
-- truths; and unknown functions
pub record Model : Type 0 where
  pub words : Place → ℕ → ℕ
  pub widths : Place → ℕ
  pub kinds : Place → ℕ
  pub integers : Place → ℤ
  pub truths : Place → Bool
  pub functions : Unknowns

-- the number of a word, an integer, a truth, where it is one
abbrev pub number_in : Option Denoted → ℕ
number_in (Some (a_word width n)) = n
number_in _ = 0

abbrev pub integer_in : Option Denoted → ℤ
integer_in (Some (an_integer z)) = z
integer_in _ = pos 0

abbrev pub truth_in : Option Denoted → Bool
truth_in (Some (a_truth b)) = b
truth_in _ = false

-- an operator comes to what it is where specs are said; an unknown function to what the model has for it
abbrev mutual
  pub number_of : Model → Word → ℕ
  number_of m (written n) = n
  number_of m (word_at at width) = m.words at width
  number_of m (word_by o of) = number_in (applied_to o (operands_in m of))
  number_of m (word_answered f of) = number_in (Some (m.functions f (operands_in m of)))
  number_of m (either_word f a b) = if is_so m f then number_of m a else number_of m b

  pub integer_of : Model → Integer → ℤ
  integer_of m (written_integer z) = z
  integer_of m (integer_at at) = m.integers at
  integer_of m (integer_by o of) = integer_in (applied_to o (operands_in m of))
  integer_of m (integer_answered f of) = integer_in (Some (m.functions f (operands_in m of)))
  integer_of m (either_integer f a b) = if is_so m f then integer_of m a else integer_of m b

  pub is_so : Model → Fact → Bool
  is_so m (known b) = b
  is_so m (truth_at at) = m.truths at
  is_so m (as_wide at width) = m.widths at == width
  is_so m (is_kind at variant) = m.kinds at == suc variant
  is_so m (fact_by o of) = truth_in (applied_to o (operands_in m of))
  is_so m (fact_answered f of) = truth_in (Some (m.functions f (operands_in m of)))
  is_so m (both_facts a b) = is_so m a && is_so m b
  is_so m (one_fact a b) = is_so m a || is_so m b
  is_so m (no_fact a) = not (is_so m a)
  is_so m (same_facts a b) = beq (is_so m a) (is_so m b)

  pub operands_in : Model → Operands → DenotedList
  operands_in m no_operand = no_denoted
  operands_in m (fact_and f rest) = denoted_and (a_truth (is_so m f)) (operands_in m rest)
  operands_in m (integer_and z rest) = denoted_and (an_integer (integer_of m z)) (operands_in m rest)
  operands_in m (word_and width t rest) = denoted_and (a_word width (number_of m t)) (operands_in m rest)

abbrev pub are_so : Model → List Fact → Bool
are_so m [] = true
are_so m (f ∷ fs) = is_so m f && are_so m fs

-- without facts that change nothing: a question with a fact that is false needs no solver
abbrev pub and_last : Fact → Fact → Fact
and_last a (known true) = a
and_last a (known false) = known false
and_last a b = both_facts a b

abbrev pub both_of : Fact → Fact → Fact
both_of (known true) b = b
both_of (known false) b = known false
both_of a b = and_last a b

abbrev pub or_last : Fact → Fact → Fact
or_last a (known true) = known true
or_last a (known false) = a
or_last a b = one_fact a b

abbrev pub one_of : Fact → Fact → Fact
one_of (known true) b = known true
one_of (known false) b = b
one_of a b = or_last a b

abbrev pub none_of : Fact → Fact
none_of (known true) = known false
none_of (known false) = known true
none_of a = no_fact a
