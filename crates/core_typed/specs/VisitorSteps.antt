-- What visitors do, as the model's runs speak of it.
use Rattle.std.specs.Prelude.{ℕ, Option, Some, Result, Ok, Err, alloc_error}
use Rattle.core_syntax.specs.declared.visit_fault.VisitFault.{VisitFault}
use Rattle.core_syntax.specs.declared.visit_fault.VisitFault.TheVariants.{Memory}
use Rattle.model.specs.visits.Visitors.{PatternSteps, ExprSteps, RuleSteps}
use Rattle.core_typed.specs.declared.visitors.PatternVisitor.{Ghosts as PatternGhosts}
use Rattle.core_typed.specs.declared.visitors.ExprVisitor.{Ghosts as ExprGhosts}
use Rattle.core_typed.specs.declared.visitors.RuleVisitor.{Ghosts as RuleGhosts}
use Rattle.core_typed.specs.declared.visitors.VisitedExpr.{VisitedExpr}

-- the fault for want of memory
abbrev pub no_memory : Option VisitFault
no_memory = Some (Memory alloc_error)

-- the answer, with the type and the id in place of a visited expression
abbrev pub visited_of : {I E : Type 0} → Result (VisitedExpr I) E → Result (ℕ × I) E
visited_of (Ok x) = Ok (x.ty.0, x.value)
visited_of (Err e) = Err e

-- a visitor of patterns
abbrev pub pattern_steps : {S P : Type 0} → PatternGhosts S P → PatternSteps VisitFault S P
pattern_steps v =
    record {
      match_equal_steps = λ s a b ty r t. v.match_equal_steps s a b ty r t;
      match_bool_steps = λ s input ty b r t. v.match_bool_steps s input ty b r t;
      match_int_steps = λ s input ty z r t. v.match_int_steps s input ty z r t;
      match_prim_steps = λ s input ty name r t. v.match_prim_steps s input ty name r t;
      match_variant_steps = λ s input ty tys variant r t. v.match_variant_steps s input ty tys variant r t;
      extract_struct_steps = λ s input ty tys r t. v.extract_struct_steps s input ty tys r t;
      extract_steps = λ s input ty tys term infallible multi r t. v.extract_steps s input ty tys term infallible multi r t;
    }

-- a visitor of expressions
abbrev pub expr_steps : {S E : Type 0} → ExprGhosts S E → ExprSteps VisitFault S E
expr_steps v =
    record {
      const_bool_steps = λ s ty b r t. v.const_bool_steps s ty b r t;
      const_int_steps = λ s ty z r t. v.const_int_steps s ty z r t;
      const_prim_steps = λ s ty name r t. v.const_prim_steps s ty name r t;
      create_variant_steps = λ s inputs ty variant r t. v.create_variant_steps s inputs ty variant r t;
      create_struct_steps = λ s inputs ty r t. v.create_struct_steps s inputs ty r t;
      construct_steps = λ s inputs ty term pure infallible multi recursive r t. v.construct_steps s inputs ty term pure infallible multi recursive r t;
    }

-- a visitor of rules
abbrev pub rule_steps : {S L M X P E : Type 0} → RuleGhosts S L M X P E → RuleSteps VisitFault S L M X P E
rule_steps v =
    record {
      arg_steps = λ s i ty r t. v.arg_steps s i ty r t;
      expr_as_pattern_steps = λ s x r t. v.expr_as_pattern_steps s x r t;
      pattern_as_expr_steps = λ s id r t. v.pattern_as_expr_steps s id r t;
      lend_pattern_steps = λ s r t. v.lend_pattern_steps s r t;
      take_pattern_steps = λ s l r t. v.take_pattern_steps s l r t;
      leave_pattern_steps = λ l s t. v.leave_pattern_steps l s t;
      lend_expr_steps = λ s r t. v.lend_expr_steps s r t;
      take_expr_steps = λ s l ty id r t. v.take_expr_steps s l ty id r t;
      leave_expr_steps = λ l s t. v.leave_expr_steps l s t;
    }
