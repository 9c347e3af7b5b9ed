-- The calls of a pattern's visit.
use Rattle.std.specs.Prelude.{ℕ, List, [], ◌∷◌, Option, Some, None, slice_get}
use Rattle.model.specs.lists.Tables.{TermKindEntry, variant_term, struct_term, declared_term, TermEntry}
use Rattle.model.specs.lists.Formed.{pattern_type}
use Rattle.model.specs.rules.Program.{always_answers}
use Rattle.model.specs.rules.Typed.{TypedPattern, match_bind, match_var, match_bool, match_int, match_prim, match_term, match_any, match_and, TypedPatterns, no_typed_pattern, typed_pattern_and}
use Rattle.model.specs.visits.Runs.{VisitRun, BoundIds, done, no_run, or_refused, and_then, binds, finds, calls_visitor, on_variables}
use Rattle.model.specs.visits.Visitors.{PatternSteps}

-- the types of a term's parts
abbrev pub part_types : TypedPatterns → List ℕ
part_types no_typed_pattern = []
part_types (typed_pattern_and q rest) = pattern_type q ∷ part_types rest

-- `want` is the fault for want of memory, where there is one
module _ {F S P : Type 0} (want : Option F) (v : PatternSteps F S P) where
  -- the call for a term of this kind at the type ty, whose parts have the types tys
  abbrev pub OpensKind : TermEntry → ℕ → ℕ → List ℕ → P → TermKindEntry → VisitRun F S (List P)
  OpensKind e ty term tys input (variant_term variant) = λ s r t. v.match_variant_steps s input ty e.arg_tys variant r t
  OpensKind e ty term tys input struct_term = λ s r t. v.extract_struct_steps s input ty e.arg_tys r t
  OpensKind e ty term tys input (declared_term flags constructor_kind None) = no_run
  OpensKind e ty term tys input (declared_term flags constructor_kind (Some x)) =
      or_refused want (λ s r t. v.extract_steps s input e.ret_ty tys term (always_answers flags (Some x)) flags.multi r t)

  abbrev pub Opens : ℕ → ℕ → List ℕ → P → Option TermEntry → VisitRun F S (List P)
  Opens ty term tys input None = no_run
  Opens ty term tys input (Some e) = OpensKind e ty term tys input e.kind

module _ {F S P : Type 0} (want : Option F) (v : PatternSteps F S P) (terms : List TermEntry) where
  abbrev mutual
    -- the visit of a pattern with its input, where the state is the visitor's beside the variables that are bound
    pub PatternRun : TypedPattern → P → VisitRun F (S × BoundIds P) (Unit {0})
    PatternRun (match_bind ty x of) input = and_then (on_variables (binds want x input)) (λ _. PatternRun of input)
    PatternRun (match_var ty x) input = and_then (on_variables (finds x)) (λ id. calls_visitor (λ s r t. v.match_equal_steps s input id ty r t))
    PatternRun (match_bool ty b) input = calls_visitor (λ s r t. v.match_bool_steps s input ty b r t)
    PatternRun (match_int ty z) input = calls_visitor (λ s r t. v.match_int_steps s input ty z r t)
    PatternRun (match_prim ty name) input = calls_visitor (λ s r t. v.match_prim_steps s input ty name r t)
    PatternRun (match_term ty term args) input =
        and_then (calls_visitor (Opens want v ty term (part_types args) input (slice_get terms term))) (λ ids. PartsRun args ids)
    PatternRun (match_any ty) input = done tt
    PatternRun (match_and ty parts) input = EachRun parts input

    -- as many parts as ids, each with its own
    pub PartsRun : TypedPatterns → List P → VisitRun F (S × BoundIds P) (Unit {0})
    PartsRun no_typed_pattern [] = done tt
    PartsRun no_typed_pattern (id ∷ ids) = no_run
    PartsRun (typed_pattern_and q rest) [] = no_run
    PartsRun (typed_pattern_and q rest) (id ∷ ids) = and_then (PatternRun q id) (λ _. PartsRun rest ids)

    -- each with the same input
    pub EachRun : TypedPatterns → P → VisitRun F (S × BoundIds P) (Unit {0})
    EachRun no_typed_pattern input = done tt
    EachRun (typed_pattern_and q rest) input = and_then (PatternRun q input) (λ _. EachRun rest input)
