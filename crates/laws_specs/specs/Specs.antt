-- Specs of terms, as data: what types and constants stand for, and what a call requires and provides.
use Rattle.std.specs.Prelude.{◌≡◌, ℕ, ℤ, Bool, true, false, ◌&&◌, List, [], ◌∷◌, ◌++◌, Option, Some, None, if◌then◌else◌, slice_get, All}
use Rattle.std.specs.Bool.{◌==◌}
use Rattle.std.specs.List.{list_any}
use Rattle.model.specs.rules.Meaning.{look}
use Rattle.model.specs.rules.Outcome.{then_option}
use Rattle.laws_specs.specs.WordOperators.{word_of}
use Rattle.laws_specs.specs.Words.{Denoted, a_truth, an_integer, a_word, variant_of, struct_of, DenotedList, no_denoted, denoted_and, denoted_list, is_formed, are_formed, denoted_eq, same_sort, Operator, applied_to}

-- what values of a type stand for: truths, integers, words of a width, or words of any of these widths
pub data Sort : Type 0 where
  truths : Sort
  integers : Sort
  words : (width : ℕ) → Sort
  words_among : (widths : List ℕ) → Sort

abbrev pub is_of_sort : Sort → Denoted → Bool
is_of_sort truths (a_truth b) = true
is_of_sort integers (an_integer z) = true
is_of_sort (words width) (a_word w n) = w == width
is_of_sort (words_among widths) (a_word w n) = list_any (λ v. w == v) widths
is_of_sort _ _ = false

-- no word is of it
abbrev pub is_closed : Option Sort → Bool
is_closed (Some (words_among [])) = true
is_closed _ = false

-- whether it is that variant: of another type nothing is said
abbrev pub on_variant : ℕ → ℕ → Denoted → (DenotedList → Option Denoted) → Option Denoted → Option Denoted
on_variant ty variant (variant_of t i fields) go other = if t == ty then (if i == variant then go fields else other) else None
on_variant ty variant _ go other = None

-- the fields of a struct of that type: of anything else nothing is said
abbrev pub on_struct : ℕ → Denoted → (DenotedList → Option Denoted) → Option Denoted
on_struct ty (struct_of t fields) go = if t == ty then go fields else None
on_struct ty _ go = None

-- functions without a meaning of their own, by numbers
abbrev pub Unknowns : Type 0
Unknowns = ℕ → DenotedList → Denoted

-- where no expression names one
abbrev pub no_unknown : Unknowns
no_unknown f xs = a_truth true

mutual
  -- arguments by their places; variables by their places, those bound last first, the fields of an arm in their order
  pub data SpecExpr : Type 0 where
    its_argument : (i : ℕ) → SpecExpr
    its_result : SpecExpr
    variable : (i : ℕ) → SpecExpr
    the_same : (x : Denoted) → SpecExpr
    operation : (o : Operator) (of : SpecExprs) → SpecExpr
    unknown : (f : ℕ) (of : SpecExprs) → SpecExpr
    -- a variant or a struct, made of its fields
    variant_said : (ty variant : ℕ) (of : SpecExprs) → SpecExpr
    struct_said : (ty : ℕ) (of : SpecExprs) → SpecExpr
    -- the expression is bound in the body
    let_in : (e body : SpecExpr) → SpecExpr
    -- the first case of an equal value
    switch_on : (e : SpecExpr) (cases : SpecCases) → SpecExpr
    -- the arm of its variant or of its struct, in which its fields are bound
    match_on : (e : SpecExpr) (arms : SpecArms) → SpecExpr

  pub data SpecExprs : Type 0 where
    no_spec_expr : SpecExprs
    spec_expr_and : (e : SpecExpr) (rest : SpecExprs) → SpecExprs

  pub data SpecCases : Type 0 where
    no_case : SpecCases
    case_and : (key e : SpecExpr) (rest : SpecCases) → SpecCases

  pub data SpecArms : Type 0 where
    no_spec_arm : SpecArms
    spec_arm_and : (ty variant : ℕ) (body : SpecExpr) (rest : SpecArms) → SpecArms
    -- of a struct there is one arm
    struct_arm : (ty : ℕ) (body : SpecExpr) → SpecArms
    -- what no arm before it took, by a name or `_`: it is bound in the body
    arm_else : (body : SpecExpr) → SpecArms

-- (if c x y): what isn't taken needs to say nothing, nor to be of the other's sort
abbrev pub if_else : SpecExpr → SpecExpr → SpecExpr → SpecExpr
if_else c x y = switch_on c (case_and (the_same (a_truth true)) x (case_and (the_same (a_truth false)) y no_case))

-- what an expression comes to, on arguments and a result; a require has no result. Where no case or arm fits it says nothing
module _ (unknowns : Unknowns) (args : DenotedList) (result : Option Denoted) where
  abbrev mutual
    pub says : SpecExpr → List Denoted → Option Denoted
    says (its_argument i) bound = slice_get (denoted_list args) i
    says its_result bound = result
    says (variable i) bound = slice_get bound i
    says (the_same x) bound = Some x
    says (operation o of) bound = then_option (says_each of bound) (applied_to o)
    says (unknown f of) bound = then_option (says_each of bound) (λ xs. Some (unknowns f xs))
    says (variant_said ty variant of) bound = then_option (says_each of bound) (λ xs. Some (variant_of ty variant xs))
    says (struct_said ty of) bound = then_option (says_each of bound) (λ xs. Some (struct_of ty xs))
    says (let_in e body) bound = then_option (says e bound) (λ x. says body (x ∷ bound))
    says (switch_on e cases) bound = then_option (says e bound) (λ x. says_case cases x bound)
    says (match_on e arms) bound = then_option (says e bound) (λ x. says_arm arms x bound)

    pub says_each : SpecExprs → List Denoted → Option DenotedList
    says_each no_spec_expr bound = Some no_denoted
    says_each (spec_expr_and e rest) bound = then_option (says e bound) (λ x. then_option (says_each rest bound) (λ xs. Some (denoted_and x xs)))

    pub says_case : SpecCases → Denoted → List Denoted → Option Denoted
    says_case no_case x bound = None
    says_case (case_and key e rest) x bound = then_option (says key bound) (λ k. if same_sort k x then (if denoted_eq k x then says e bound else says_case rest x bound) else None)

    pub says_arm : SpecArms → Denoted → List Denoted → Option Denoted
    says_arm no_spec_arm x bound = None
    says_arm (struct_arm ty body) x bound = on_struct ty x (λ fields. says body (denoted_list fields ++ bound))
    says_arm (arm_else body) x bound = says body (x ∷ bound)
    says_arm (spec_arm_and ty variant body rest) x bound = on_variant ty variant x (λ fields. says body (denoted_list fields ++ bound)) (says_arm rest x bound)

pub record Spec : Type 0 where
  pub require : List SpecExpr
  pub provide : List SpecExpr

-- what an unknown function takes and gives
pub record UnknownSort : Type 0 where
  pub takes : List Sort
  pub gives : Sort

-- sorts of types, what named constants stand for, by the number of the name, unknown functions and their sorts, and specs of terms
pub record Specs : Type 0 where
  pub models : List (ℕ × Sort)
  pub constants : List (ℕ × Denoted)
  pub unknowns : Unknowns
  pub unknown_sorts : List (ℕ × UnknownSort)
  pub terms : List (ℕ × Spec)

abbrev pub sort_of : Specs → ℕ → Option Sort
sort_of specs ty = look (λ k. k == ty) specs.models

abbrev pub constant_of : Specs → ℕ → Option Denoted
constant_of specs name = look (λ k. k == name) specs.constants

abbrev pub are_of_sorts : List Sort → DenotedList → Bool
are_of_sorts [] no_denoted = true
are_of_sorts (s ∷ sorts) (denoted_and x xs) = is_of_sort s x && are_of_sorts sorts xs
are_of_sorts _ _ = false

-- what unknown functions answer is of their sorts, where operands are; of other operands, and of functions without a sort, nothing is said
abbrev pub AreUnknownsSorted : Specs → Type 0
AreUnknownsSorted specs =
    (f : ℕ) (s : UnknownSort) (xs : DenotedList) → look (λ k. k == f) specs.unknown_sorts ≡ Some s → are_of_sorts s.takes xs ≡ true → are_formed xs ≡ true
    → (is_of_sort s.gives (specs.unknowns f xs) ≡ true) × (is_formed (specs.unknowns f xs) ≡ true)

-- a term without a spec requires and provides nothing
abbrev pub or_no_spec : Option Spec → Spec
or_no_spec None = record { require = []; provide = [] }
or_no_spec (Some s) = s

abbrev pub spec_of : Specs → ℕ → Spec
spec_of specs t = or_no_spec (look (λ k. k == t) specs.terms)

-- an expression holds where it comes to true: one whose operands don't fit doesn't
abbrev pub IsSaid : Unknowns → DenotedList → Option Denoted → SpecExpr → Type 0
IsSaid unknowns args result e = says unknowns args result e [] ≡ Some (a_truth true)

abbrev pub IsRequired : Specs → ℕ → DenotedList → Type 0
IsRequired specs t args = All (IsSaid specs.unknowns args None) (spec_of specs t).require

abbrev pub IsProvided : Specs → ℕ → DenotedList → Denoted → Type 0
IsProvided specs t args result = All (IsSaid specs.unknowns args (Some result)) (spec_of specs t).provide

-- what an integer literal stands for in a sort
abbrev pub integer_in : Sort → ℤ → Option Denoted
integer_in integers z = Some (an_integer z)
integer_in (words width) z = Some (a_word width (word_of width z))
integer_in truths z = None
integer_in (words_among widths) z = None

abbrev pub literal_of : Specs → ℤ → ℕ → Option Denoted
literal_of specs z ty = then_option (sort_of specs ty) (λ s. integer_in s z)
