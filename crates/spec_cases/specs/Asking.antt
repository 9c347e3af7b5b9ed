-- What steps come to, and the questions that they ask, by what numbers stand for.
use Rattle.std.specs.Prelude.{◌≡◌, ℕ, zero, suc, Bool, true, false, List, [], ◌∷◌, ◌++◌, Option, Some, None}
use Rattle.laws_specs.specs.Specs as L
use Rattle.laws_specs.specs.Words.{Denoted}
use Rattle.model.specs.lists.Tables.{TypeEntry, builtin_type, primitive_type, enum_type, struct_type}
use Rattle.model.specs.sites.Sites as Sites
use Rattle.model_questions.specs.Formulas as M
use Rattle.model_questions.specs.Forms as MF
use Rattle.model_questions.specs.Steps as S
use Rattle.model_questions.specs.Questions as Q
use Rattle.spec_cases.specs.declared.asking.Asking.{Asking}
use Rattle.spec_cases.specs.declared.expressions.Expr.{Expr}
use Rattle.spec_cases.specs.declared.formulas.Node.{Node}
use Rattle.spec_cases.specs.declared.steps.Step.{Step}
use Rattle.spec_cases.specs.declared.trails.Link.{Link}
use Rattle.spec_cases.specs.declared.trails.Trail.{Trail}
use Rattle.spec_cases.specs.Expressions.{Saying, AreSaid}
use Rattle.spec_cases.specs.Namings.{Naming, Names}
use Rattle.spec_cases.specs.Places.{AreApart}
use Rattle.spec_cases.specs.Sorts.{type_sorts, function_sorts}
use Rattle.spec_cases.specs.Steps.{constant_views, step_views}
use Rattle.spec_cases.specs.Tables.{types_in, known_in}
use Rattle.spec_cases.specs.Trails.{trail_of, trails_in, AreTrails}
use Rattle.spec_cases.specs.Variants.{is_empty}

-- what asking asks of specs: no more than these three lists
abbrev pub asked_specs : Asking → L.Specs
asked_specs a = record {
  models = type_sorts a.tables.now.sorts.now;
  constants = constant_views a.constants.now;
  unknowns = L.no_unknown;
  unknown_sorts = function_sorts a.tables.now.functions.now;
  terms = [];
}

module _ (v : Naming) (a : Asking) where
  abbrev pub come_to_in : S.Said → MF.Cases MF.Form
  come_to_in = Q.come_to (types_in a.tables.now) (asked_specs a) (known_in v a.tables.now)

  abbrev pub surely_in : S.Said → M.Fact
  surely_in s = MF.surely (come_to_in s)

  abbrev pub perhaps_in : S.Said → M.Fact
  perhaps_in s = MF.perhaps (come_to_in s)

  abbrev pub same_in : MF.Form → MF.Form → M.Fact
  same_in = Q.same_fact (types_in a.tables.now) (asked_specs a) (known_in v a.tables.now)

  abbrev pub same_if_in : MF.Form → Option Denoted → M.Fact
  same_if_in = Q.same_if (types_in a.tables.now) (asked_specs a) (known_in v a.tables.now)

  abbrev pub told_in : MF.Form → Sites.Constraint → M.Fact
  told_in = Q.told_fact (types_in a.tables.now) (asked_specs a) (known_in v a.tables.now)

  abbrev pub all_surely_in : List S.Said → M.Fact
  all_surely_in = Q.all_surely (types_in a.tables.now) (asked_specs a) (known_in v a.tables.now)

  abbrev pub fact_in : S.Step → M.Fact
  fact_in = Q.fact_of (types_in a.tables.now) (asked_specs a) (known_in v a.tables.now)

-- the widths of a sort that lists them
abbrev pub listed : Option L.Sort → Option (List ℕ)
listed (Some (L.words_among ws)) = Some ws
listed _ = None

-- a type that has atoms alone, where it has a sort
abbrev pub has_atoms : TypeEntry → Bool
has_atoms (builtin_type zero) = false
has_atoms (builtin_type (suc n)) = true
has_atoms (primitive_type id name place) = true
has_atoms (enum_type name id is_extern is_nodebug vs place) = is_empty vs
has_atoms (struct_type name id is_extern is_nodebug fields place) = false

-- the questions of steps after the facts of a trail; and after one fact more, which tells of places
abbrev pub asked_in : Naming → (ℕ → List M.Fact) → Asking → List S.Step → Trail → List (List M.Fact)
asked_in v s a steps t = Q.paths (types_in a.tables.now) (asked_specs a) steps (known_in v a.tables.now) (trail_of s t)

abbrev pub asked_after : Naming → Saying → (ℕ → List M.Fact) → Asking → M.Fact → List Step → Trail → List (List M.Fact)
asked_after v w s a f steps t = Q.paths (types_in a.tables.now) (asked_specs a) (step_views v w steps) (Q.learned f (known_in v a.tables.now)) (f ∷ trail_of s t)

-- questions are added
abbrev pub Adds : (ℕ → List M.Fact) → List Trail → List Trail → List (List M.Fact) → Type 0
Adds s old new qs = trails_in s new ≡ trails_in s old ++ qs

-- formulas and links are added, and what was there stands for what it stood for; whatever numbers stand for, of sites that are told apart,
-- P is so
abbrev pub Asks : List Node → List Node → List Link → List Link → List Expr → (Naming → Saying → (ℕ → List M.Fact) → Type 0) → Type 0
Asks old new before after exprs P =
    (v : Naming) (w : Saying) (s : ℕ → List M.Fact) → Names v new → AreApart v → AreSaid w exprs → AreTrails v s after
    → Names v old × AreTrails v s before × P v w s
