-- The questions about a condition, by its steps, and what it is that none can be satisfied.
use Rattle.std.specs.Prelude.{◌≡◌, ◌<◌, ℕ, suc, ℤ, ◌^◌, Bool, true, false, List, [], ◌∷◌, ◌++◌, Option, Some, None, slice_get, Contains}
use Rattle.model.specs.lists.Tables.{TypeEntry, builtin_type, primitive_type, enum_type}
use Rattle.model.specs.rules.Program.{Program}
use Rattle.model.specs.sites.Sites.{Constraint, is_variant, is_struct, is_bool, is_int, is_prim, is_present}
use Rattle.laws_specs.specs.Words.{Denoted, Operator, equals}
use Rattle.laws_specs.specs.Specs.{Sort, words_among, Specs, sort_of, constant_of, literal_of, AreUnknownsSorted}
use Rattle.laws_specs.specs.Conditions.{Condition}
use Rattle.model_questions.specs.Formulas.{Place, Integer, written_integer, integer_at, Fact, known, truth_at, as_wide, is_kind, fact_by, both_facts, Operands, no_operand, integer_and, Model, are_so, both_of, one_of, none_of}
use Rattle.model_questions.specs.Forms.{Form, a_fact, any_of, some_at, no_form, form_and, form_of, Cases, then_cases, surely, perhaps}
use Rattle.model_questions.specs.Evaluated.{Known, widths_of, fitted, opened, opened_each, evaluated}
use Rattle.model_questions.specs.Steps.{Said, Step, split_at, told_as, told_same, assumed, assumed_under, shown, steps_of}

abbrev pub nothing_known : Known
nothing_known = record { widths = []; integers = []; kinds = [] }

abbrev pub with_width : Place → ℕ → Known → Known
with_width at w k = record { widths = (at, w) ∷ k.widths; integers = k.integers; kinds = k.kinds }

abbrev pub with_integer : Place → ℤ → Known → Known
with_integer at z k = record { widths = k.widths; integers = (at, z) ∷ k.integers; kinds = k.kinds }

abbrev pub with_kind : Place → ℕ → Known → Known
with_kind at i k = record { widths = k.widths; integers = k.integers; kinds = (at, i) ∷ k.kinds }

abbrev pub same_learned : Integer → Integer → Known → Known
same_learned (integer_at at) (written_integer z) k = with_integer at z k
same_learned (written_integer z) (integer_at at) k = with_integer at z k
same_learned _ _ k = k

abbrev pub equals_learned : Operator → Operands → Known → Known
equals_learned equals (integer_and a (integer_and b no_operand)) k = same_learned a b k
equals_learned _ _ k = k

-- what a fact tells of places
abbrev pub learned : Fact → Known → Known
learned (as_wide at w) k = with_width at w k
learned (is_kind at i) k = with_kind at i k
learned (fact_by o of) k = equals_learned o of k
learned (both_facts a b) k = learned a (learned b k)
learned _ k = k

abbrev pub each_of : {X Y : Type 0} → (X → List Y) → List X → List Y
each_of f [] = []
each_of f (x ∷ xs) = f x ++ each_of f xs

-- a branch ends where an assumption has come to what is false
abbrev pub unless_false : Fact → List (List Fact) → List (List Fact)
unless_false (known false) qs = []
unless_false f qs = qs

-- the sort of a type that has atoms alone
abbrev pub split_sort : Option TypeEntry → Option Sort → Option Sort
split_sort (Some (builtin_type (suc n))) s = s
split_sort (Some (primitive_type id name place)) s = s
split_sort (Some (enum_type name id is_extern is_nodebug [] place)) s = s
split_sort _ s = None

-- a type of words of listed widths, at each of them
abbrev pub at_each_width : Option Sort → (ℕ → List (List Fact)) → List (List Fact) → List (List Fact)
at_each_width (Some (words_among ws)) f qs = each_of f ws
at_each_width _ f qs = qs

-- what a constraint tells
abbrev pub kind_fact : ℕ → Form → Fact
kind_fact variant (any_of ty at) = is_kind at variant
kind_fact variant (some_at at) = is_kind at variant
kind_fact variant _ = known true

abbrev pub truth_fact : Bool → Form → Fact
truth_fact true (a_fact f) = f
truth_fact false (a_fact f) = none_of f
truth_fact true (any_of ty at) = truth_at at
truth_fact false (any_of ty at) = none_of (truth_at at)
truth_fact b _ = known true

module _ (types : List TypeEntry) (specs : Specs) where
  abbrev pub come_to : Known → Said → Cases Form
  come_to k s = then_cases (evaluated types specs k s.args s.result s.expr []) (opened types specs k)

  abbrev pub same_fact : Known → Form → Form → Fact
  same_fact k f g = perhaps (then_cases (opened_each types specs k (form_and f (form_and g no_form))) (fitted (widths_of specs) equals))

  abbrev pub same_if : Known → Form → Option Denoted → Fact
  same_if k f None = known true
  same_if k f (Some x) = same_fact k f (form_of x)

  abbrev pub told_fact : Known → Form → Constraint → Fact
  told_fact k f (is_variant ty variant fields) = kind_fact variant f
  told_fact k f (is_struct ty fields) = known true
  told_fact k f (is_bool b ty) = truth_fact b f
  told_fact k f (is_int z ty) = same_if k f (literal_of specs z ty)
  told_fact k f (is_prim name) = same_if k f (constant_of specs name)
  told_fact k f is_present = known true

  abbrev pub all_surely : Known → List Said → Fact
  all_surely k [] = known true
  all_surely k (s ∷ ss) = both_of (surely (come_to k s)) (all_surely k ss)

  -- the fact that a step adds
  abbrev pub fact_of : Known → Step → Fact
  fact_of k (split_at ty at) = known true
  fact_of k (told_as f c) = told_fact k f c
  fact_of k (told_same f g) = same_fact k f g
  fact_of k (assumed s) = perhaps (come_to k s)
  fact_of k (assumed_under ss s) = one_of (none_of (all_surely k ss)) (perhaps (come_to k s))
  fact_of k (shown s) = surely (come_to k s)

  -- a question is a list of facts, the last one first. Each goal asks one: all that is known before it, and that it isn't so
  abbrev pub paths : List Step → Known → List Fact → List (List Fact)
  paths [] k fs = []
  paths (split_at ty at ∷ rest) k fs = at_each_width (split_sort (slice_get types ty) (sort_of specs ty)) (λ w. paths rest (with_width at w k) (as_wide at w ∷ fs)) (paths rest k fs)
  paths (shown s ∷ rest) k fs = (none_of (fact_of k (shown s)) ∷ fs) ∷ paths rest (learned (fact_of k (shown s)) k) (fact_of k (shown s) ∷ fs)
  paths (told_as f c ∷ rest) k fs = unless_false (fact_of k (told_as f c)) (paths rest (learned (fact_of k (told_as f c)) k) (fact_of k (told_as f c) ∷ fs))
  paths (told_same f g ∷ rest) k fs = unless_false (fact_of k (told_same f g)) (paths rest (learned (fact_of k (told_same f g)) k) (fact_of k (told_same f g) ∷ fs))
  paths (assumed s ∷ rest) k fs = unless_false (fact_of k (assumed s)) (paths rest (learned (fact_of k (assumed s)) k) (fact_of k (assumed s) ∷ fs))
  paths (assumed_under ss s ∷ rest) k fs =
      unless_false (fact_of k (assumed_under ss s)) (paths rest (learned (fact_of k (assumed_under ss s)) k) (fact_of k (assumed_under ss s) ∷ fs))

-- the questions about a condition, by a plan of the places that are asked width by width
abbrev pub questions : Program → Specs → Condition → (Place → Bool) → List (List Fact)
questions p specs c plan = paths p.types specs (steps_of p specs c plan) nothing_known []

-- words lie below two to their width, and unknown functions answer by values of their sorts: what a solver's sorts say
pub record IsModel (specs : Specs) (m : Model) : Type 0 where
  pub formed : (at : Place) (width : ℕ) → m.words at width < 2 ^ width
  pub functions : AreUnknownsSorted (record specs { unknowns = m.functions })

-- no model makes all of the facts true: what a solver says by `unsat`
abbrev pub IsUnsatisfiable : Specs → List Fact → Type 0
IsUnsatisfiable specs fs = (m : Model) → IsModel specs m → are_so m fs ≡ true → ⊥

abbrev pub AreUnsatisfiable : Specs → List (List Fact) → Type 0
AreUnsatisfiable specs qs = (q : List Fact) → Contains qs q → IsUnsatisfiable specs q
