-- The calls of an expression's visit.
use Rattle.std.specs.Prelude.{ℕ, not, List, [], ◌∷◌, Option, Some, None, slice_get}
use Rattle.model.specs.lists.Tables.{TermKindEntry, variant_term, struct_term, declared_term, TermEntry}
use Rattle.model.specs.rules.Typed.{TypedExpr, make_term, make_var, make_bool, make_int, make_prim, make_let, TypedExprs, no_typed_expr, typed_expr_and, TypedLets, no_typed_let, typed_let_and}
use Rattle.model.specs.visits.Runs.{VisitRun, BoundIds, done, no_run, or_refused, and_then, finds, looks, with_bound}
use Rattle.model.specs.visits.Visitors.{ExprSteps}

-- the types of a term's arguments
abbrev pub entry_arg_types : Option TermEntry → List ℕ
entry_arg_types None = []
entry_arg_types (Some e) = e.arg_tys

module _ {F S E : Type 0} (v : ExprSteps F S E) where
  -- the call for a term of this kind at the type ty, with its arguments, each with its type
  abbrev pub MakesKind : ℕ → ℕ → List (E × ℕ) → TermKindEntry → VisitRun F S E
  MakesKind ty term inputs (variant_term variant) = λ s r t. v.create_variant_steps s inputs ty variant r t
  MakesKind ty term inputs struct_term = λ s r t. v.create_struct_steps s inputs ty r t
  MakesKind ty term inputs (declared_term flags None extractor_kind) = no_run
  MakesKind ty term inputs (declared_term flags (Some x) extractor_kind) =
      λ s r t. v.construct_steps s inputs ty term flags.pure (not flags.partial) flags.multi flags.rec r t

  abbrev pub Makes : ℕ → ℕ → List (E × ℕ) → Option TermEntry → VisitRun F S E
  Makes ty term inputs None = no_run
  Makes ty term inputs (Some e) = MakesKind ty term inputs e.kind

module _ {F S E : Type 0} (want : Option F) (v : ExprSteps F S E) (terms : List TermEntry) where
  abbrev mutual
    -- the visit of an expression under variables
    pub ExprRun : TypedExpr → BoundIds E → VisitRun F S E
    ExprRun (make_term ty term args) vs =
        and_then (InputsRun args (entry_arg_types (slice_get terms term)) vs) (λ inputs. Makes v ty term inputs (slice_get terms term))
    ExprRun (make_var ty x) vs = looks (finds x) vs
    ExprRun (make_bool ty b) vs = λ s r t. v.const_bool_steps s ty b r t
    ExprRun (make_int ty z) vs = λ s r t. v.const_int_steps s ty z r t
    ExprRun (make_prim ty name) vs = λ s r t. v.const_prim_steps s ty name r t
    ExprRun (make_let ty defs body) vs = or_refused want (and_then (LetsRun defs vs) (λ ws. ExprRun body ws))

    -- as many arguments as types, left to right
    pub InputsRun : TypedExprs → List ℕ → BoundIds E → VisitRun F S (List (E × ℕ))
    InputsRun no_typed_expr [] vs = done []
    InputsRun no_typed_expr (ty ∷ tys) vs = no_run
    InputsRun (typed_expr_and e rest) [] vs = no_run
    InputsRun (typed_expr_and e rest) (ty ∷ tys) vs =
        and_then (ExprRun e vs) (λ id. or_refused want (and_then (InputsRun rest tys vs) (λ inputs. done ((id, ty) ∷ inputs))))

    -- each definition in order, a later name over an earlier one
    pub LetsRun : TypedLets → BoundIds E → VisitRun F S (BoundIds E)
    LetsRun no_typed_let vs = done vs
    LetsRun (typed_let_and x ty value rest) vs = and_then (ExprRun value vs) (λ id. or_refused want (LetsRun rest (with_bound vs x id)))
