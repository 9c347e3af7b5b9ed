-- Which constants do patterns name? A walk over typed patterns, and what it is to tell these constants apart.
use Rattle.std.specs.Prelude.{◌≡◌, ◌↔◌, ◌&&◌, ℕ, Bool, true, false, List, [], ◌∷◌, ◌++◌, Option, Some, slice_get, All, Contains, IsTrue}
use Rattle.std.specs.List.{flat_map}
use Rattle.model.specs.lists.Syntax.{Definition}
use Rattle.model.specs.lists.Elaborated.{TypedRules}
use Rattle.model.specs.rules.Values.{Value, args_well_typed}
use Rattle.model.specs.rules.Meaning.{Literal, bool_literal, int_literal, Meaning, literal_value, constant_value}
use Rattle.model.specs.rules.Choice.{choice, MatchesOnce}
use Rattle.model.specs.rules.Program.{Program, is_multi, arg_types, rules_of}
use Rattle.model.specs.rules.Typed.{TypedPattern, match_bind, match_bool, match_int, match_prim, match_term, match_and, TypedPatterns, no_typed_pattern, typed_pattern_and, TypedRule}
use Rattle.model.specs.rules.Picks.{bag}
use Rattle.model.specs.sites.Sites.{Site}
use Rattle.model.specs.sites.Serves.{is_own_type, is_type_with_parts, Serves, TellsConstantsApart}
use Rattle.model.specs.trees.Collects.{Collects, CollectsTheBag, HasCollectedResults}
use Rattle.model.specs.trees.Run.{run, world_of}
use Rattle.model.specs.trees.Trees.{Tree}
use Rattle.model.specs.claims.Environments.{TypesRead, IsElaborated, program_of}
use Rattle.model.specs.claims.Headline.{RunsAsChosen}

-- a constant that a pattern names: a literal, with its type, or a named constant, with its type
pub data PatternConstant : Type 0 where
  a_literal : (l : Literal) → PatternConstant
  a_name : (name ty : ℕ) → PatternConstant

-- those of a pattern, left to right
abbrev mutual
  pub pattern_constants : TypedPattern → List PatternConstant
  pattern_constants (match_bind ty x sub) = pattern_constants sub
  pattern_constants (match_bool ty b) = a_literal (bool_literal b ty) ∷ []
  pattern_constants (match_int ty z) = a_literal (int_literal z ty) ∷ []
  pattern_constants (match_prim ty name) = a_name name ty ∷ []
  pattern_constants (match_term ty t args) = patterns_constants args
  pattern_constants (match_and ty subs) = patterns_constants subs
  pattern_constants _ = []

  pub patterns_constants : TypedPatterns → List PatternConstant
  patterns_constants no_typed_pattern = []
  patterns_constants (typed_pattern_and q qs) = pattern_constants q ++ patterns_constants qs

-- those of a rule: of the patterns of its arguments and of its if-lets
abbrev pub rule_constants : TypedRule → List PatternConstant
rule_constants r = flat_map pattern_constants r.args ++ flat_map (λ i. pattern_constants i.lhs) r.iflets

abbrev pub rules_constants : List TypedRule → List PatternConstant
rules_constants rs = flat_map rule_constants rs

abbrev pub literal_type : Literal → ℕ
literal_type (bool_literal b ty) = ty
literal_type (int_literal z ty) = ty

abbrev pub type_of_constant : PatternConstant → ℕ
type_of_constant (a_literal l) = literal_type l
type_of_constant (a_name name ty) = ty

-- whether a constant is a literal that means what it writes: a boolean, or a number of a built-in type
abbrev pub means_itself : Program → PatternConstant → Bool
means_itself p (a_literal (bool_literal b ty)) = true
means_itself p (a_literal (int_literal z ty)) = is_own_type (slice_get p.types ty)
means_itself p (a_name name ty) = false

-- the value of a constant
abbrev pub value_in : Meaning → PatternConstant → Option Value
value_in m (a_literal l) = literal_value m l
value_in m (a_name name ty) = constant_value m name

-- different constants of one type that the patterns of these rules name have different values, unless both mean what they
-- write, and no pattern names a constant of an enum with variants or of a struct
pub record TellsPatternsApart (p : Program) (m : Meaning) (rs : List TypedRule) : Type 0 where
  pub different : (a b : PatternConstant) (v : Value) → Contains (rules_constants rs) a → Contains (rules_constants rs) b
      → type_of_constant a ≡ type_of_constant b → (means_itself p a && means_itself p b) ≡ false → value_in m a ≡ Some v → value_in m b ≡ Some v → a ≡ b
  pub without_parts : (name ty : ℕ) → Contains (rules_constants rs) (a_name name ty) → is_type_with_parts (slice_get p.types ty) ≡ false

-- of the rules of a term that elaborate, this is the headline's premise on constants, which speaks of sites and demands
abbrev pub ConstantsAreOfPatterns : Type 0
ConstantsAreOfPatterns =
    (e : TypesRead) (defs : List Definition) (expand : Bool) (rules : TypedRules) (t : ℕ) (m : Meaning) → IsElaborated e defs expand rules
    → TellsPatternsApart (program_of e defs rules.rules) m (rules_of (program_of e defs rules.rules) t)
    ↔ TellsConstantsApart (program_of e defs rules.rules) m (rules_of (program_of e defs rules.rules) t)

-- where patterns name no constants but literals that mean what they write, every meaning tells them apart
abbrev pub LiteralsAreToldApart : Type 0
LiteralsAreToldApart = (p : Program) (m : Meaning) (rs : List TypedRule) → All (λ c. IsTrue (means_itself p c)) (rules_constants rs) → TellsPatternsApart p m rs

-- what holds on all well-typed arguments, under every meaning that serves a term's rules and tells the constants of their
-- patterns apart
abbrev pub WherePatternsAreServed : Program → ℕ → (Meaning → List Value → Type 0) → Type 0
WherePatternsAreServed p t P =
    (m : Meaning) (args : List Value) → IsTrue (args_well_typed p.types (arg_types p t) args)
    → Serves p m args (rules_of p t) → TellsPatternsApart p m (rules_of p t) → P m args

-- the headline by that premise
abbrev pub RunsAsChosenByPatterns : Program → ℕ → List Site → Tree → Type 0
RunsAsChosenByPatterns p t sites tree =
    is_multi p t ≡ false → WherePatternsAreServed p t (λ m args. (run tree (world_of p t sites m args) ≡ choice p m (rules_of p t) args) × MatchesOnce p m (rules_of p t) args)

-- and the bag of a multi term
abbrev pub CollectsTheBagByPatterns : Program → ℕ → List Site → Tree → Type 0
CollectsTheBagByPatterns p t sites tree =
    is_multi p t ≡ true → All (HasCollectedResults p) (rules_of p t)
    → WherePatternsAreServed p t (λ m args. Collects (run tree (world_of p t sites m args)) (bag p m (rules_of p t) args))

-- whatever tree has the headline, or collects the bag, does so by that premise too
pub record KeepsTheHeadlineByPatterns (p : Program) (t : ℕ) (sites : List Site) (tree : Tree) : Type 0 where
  pub chooses : RunsAsChosen p t sites tree → RunsAsChosenByPatterns p t sites tree
  pub collects : CollectsTheBag p t sites tree → CollectsTheBagByPatterns p t sites tree

abbrev pub HeadlineIsOfPatterns : Type 0
HeadlineIsOfPatterns =
    (e : TypesRead) (defs : List Definition) (expand : Bool) (rules : TypedRules) (t : ℕ) (sites : List Site) (tree : Tree) → IsElaborated e defs expand rules
    → KeepsTheHeadlineByPatterns (program_of e defs rules.rules) t sites tree
