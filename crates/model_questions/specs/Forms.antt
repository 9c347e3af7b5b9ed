-- What a value may be, by formulas; and values under guards.
use Rattle.std.specs.Prelude.{ℕ, true, false, List, [], ◌∷◌, ◌++◌, Option, Some, None, if◌then◌else◌}
use Rattle.std.specs.Bool.{◌==◌}
use Rattle.laws_specs.specs.Words.{Denoted, a_truth, an_integer, a_word, variant_of, struct_of, DenotedList, no_denoted, denoted_and}
use Rattle.model_questions.specs.Formulas.{Place, Word, written, either_word, Integer, written_integer, either_integer, Fact, known, both_of, one_of, none_of}

mutual
  -- a truth, an integer, a word of a width, a variant or a struct with its fields; what stands at a place, of which the type is known, or
  -- nothing
  pub data Form : Type 0 where
    a_fact : (f : Fact) → Form
    an_integer_by : (z : Integer) → Form
    a_word_by : (width : ℕ) (t : Word) → Form
    variant_by : (ty variant : ℕ) (fields : Forms) → Form
    struct_by : (ty : ℕ) (fields : Forms) → Form
    any_of : (ty : ℕ) (at : Place) → Form
    some_at : (at : Place) → Form

  pub data Forms : Type 0 where
    no_form : Forms
    form_and : (f : Form) (rest : Forms) → Forms

abbrev pub form_list : Forms → List Form
form_list no_form = []
form_list (form_and f rest) = f ∷ form_list rest

-- a value that is written
abbrev mutual
  pub form_of : Denoted → Form
  form_of (a_truth b) = a_fact (known b)
  form_of (an_integer z) = an_integer_by (written_integer z)
  form_of (a_word width n) = a_word_by width (written n)
  form_of (variant_of ty variant xs) = variant_by ty variant (forms_of xs)
  form_of (struct_of ty xs) = struct_by ty (forms_of xs)

  pub forms_of : DenotedList → Forms
  forms_of no_denoted = no_form
  forms_of (denoted_and x xs) = form_and (form_of x) (forms_of xs)

-- what an expression comes to: values under guards. Where no guard is so it says nothing, unless `rest` is so: then anything may come of it
pub record Case (X : Type 0) : Type 0 where
  pub guard : Fact
  pub gives : X

pub record Cases (X : Type 0) : Type 0 where
  pub cases : List (Case X)
  pub rest : Fact

module _ {X : Type 0} where
  abbrev pub nothing_said : Cases X
  nothing_said = record { cases = []; rest = known false }

  abbrev pub one_case : X → Cases X
  one_case f = record { cases = record { guard = known true; gives = f } ∷ []; rest = known false }

  abbrev pub anything : Cases X
  anything = record { cases = []; rest = known true }

  -- each under a further guard; what is never taken isn't kept
  abbrev pub case_under : Fact → X → List (Case X) → List (Case X)
  case_under (known false) x cs = cs
  case_under g x cs = record { guard = g; gives = x } ∷ cs

  abbrev pub each_under : Fact → List (Case X) → List (Case X)
  each_under g [] = []
  each_under g (c ∷ cs) = case_under (both_of g c.guard) c.gives (each_under g cs)

  abbrev pub under : Fact → Cases X → Cases X
  under g cs = record { cases = each_under g cs.cases; rest = both_of g cs.rest }

  abbrev pub joined_cases : Cases X → Cases X → Cases X
  joined_cases a b = record { cases = a.cases ++ b.cases; rest = one_of a.rest b.rest }

  abbrev pub without_rest : Cases X → Cases X
  without_rest cs = record { cases = cs.cases; rest = known false }

  abbrev pub or_nothing : Option X → Cases X
  or_nothing None = nothing_said
  or_nothing (Some x) = one_case x

-- what comes of each case
abbrev pub from_each : {X Y : Type 0} → List (Case X) → (X → Cases Y) → Cases Y
from_each [] k = nothing_said
from_each (c ∷ cs) k = joined_cases (under c.guard (k c.gives)) (from_each cs k)

abbrev pub then_cases : {X Y : Type 0} → Cases X → (X → Cases Y) → Cases Y
then_cases cs k = record { cases = (from_each cs.cases k).cases; rest = one_of cs.rest (from_each cs.cases k).rest }

-- two cases of one sort as one, so that a choice among words of one width is one case
abbrev pub where_same_case : ℕ → ℕ → Case Form → Option (Case Form)
where_same_case w v c = if w == v then Some c else None

abbrev pub either_of : Fact → Fact → Form → Form → Option (Case Form)
either_of g h (a_fact a) (a_fact b) = Some (record { guard = one_of g h; gives = a_fact (one_of (both_of g a) (both_of (none_of g) b)) })
either_of g h (an_integer_by a) (an_integer_by b) = Some (record { guard = one_of g h; gives = an_integer_by (either_integer g a b) })
either_of g h (a_word_by w a) (a_word_by v b) = where_same_case w v (record { guard = one_of g h; gives = a_word_by w (either_word g a b) })
either_of g h _ _ = None

abbrev pub merged_or : Option (Case Form) → Case Form → List (Case Form) → List (Case Form) → List (Case Form)
merged_or (Some c) d ds more = c ∷ ds
merged_or None d ds more = d ∷ more

abbrev pub merged_in : Case Form → List (Case Form) → List (Case Form)
merged_in c [] = c ∷ []
merged_in c (d ∷ ds) = merged_or (either_of c.guard d.guard c.gives d.gives) d ds (merged_in c ds)

abbrev pub merged_all : List (Case Form) → List (Case Form)
merged_all [] = []
merged_all (c ∷ cs) = merged_in c (merged_all cs)

abbrev pub merged : Cases Form → Cases Form
merged cs = record { cases = merged_all cs.cases; rest = cs.rest }

-- a case surely gives true; or one may give it, or anything may come of it
abbrev pub truth_of : Form → Fact
truth_of (a_fact f) = f
truth_of _ = known false

abbrev pub is_true : List (Case Form) → Fact
is_true [] = known false
is_true (c ∷ cs) = one_of (both_of c.guard (truth_of c.gives)) (is_true cs)

abbrev pub surely : Cases Form → Fact
surely cs = is_true cs.cases

abbrev pub possible_truth : Form → Fact
possible_truth (a_fact f) = f
possible_truth (any_of ty at) = known true
possible_truth (some_at at) = known true
possible_truth _ = known false

abbrev pub may_be_true : List (Case Form) → Fact
may_be_true [] = known false
may_be_true (c ∷ cs) = one_of (both_of c.guard (possible_truth c.gives)) (may_be_true cs)

abbrev pub perhaps : Cases Form → Fact
perhaps cs = one_of (may_be_true cs.cases) cs.rest
