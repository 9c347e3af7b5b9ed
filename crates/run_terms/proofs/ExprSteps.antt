-- Expressions, evaluated one after another.
use Rattle.std.proofs.Common.{◌≡◌, ℕ, Bool, true, false, ◌+◌, ◌<◌, ◌≤◌, List, [], ◌∷◌, ◌++◌, length, get_or, drop, Option, Some, None, option_map, Box, Vec, refl, sym, ap, ◌∙◌}
use Rattle.std.proofs.lemmas.Bool.{false≢true}
use Rattle.std.proofs.lemmas.List.{at_drop_more, at_drop_all}
use Rattle.std.specs.declared.alloc.Global.{Global}
use Rattle.core_types.specs.declared.ids.TypeId.{TypeId}
use Rattle.core_types.specs.declared.ids.VarId.{VarId}
use Rattle.model.specs.rules.Values as Values
use Rattle.model.specs.rules.Values.{Values, no_value, value_and}
use Rattle.model.specs.rules.Outcome as O
use Rattle.model.specs.rules.Outcome.{then_option}
use Rattle.model.specs.rules.Typed.{TypedExprs, typed_expr_and, TypedLets, typed_let_and}
use Rattle.model.specs.rules.Matching.{Vars, pure_value, pure_values, pure_lets}
use Rattle.model.specs.rules.RightSide.{Eval, gives, ends, EvalAll, gives_all, ends_all, EvalLets, gives_vars, ends_lets, pair_up, then_rest, then_lets, eval, eval_all, eval_lets}
use Rattle.model.specs.rules.Meaning.{Meaning}
use Rattle.core_typed.specs.declared.exprs.Expr.{Expr}
use Rattle.core_typed.specs.ExprViews.{expr_view, expr_views, expr_parts, let_views, let_parts}
use Rattle.run_terms.specs.declared.values.Value.{Value}
use Rattle.run_terms.specs.ValueViews.{value_view, value_views}
use Rattle.run_terms.proofs.ValueSteps.{before}
use Rattle.run_terms.proofs.EnvSteps.{after, after_push, after_none, after_all}
use Rattle.model.specs.rules.Program.{Program}
use Rattle.run_terms.specs.SourceViews.{lets_view, with_value}

abbrev args_of : List Expr → TypedExprs
args_of xs = expr_parts (expr_views xs)

abbrev LetDef : Type 0
LetDef = VarId × TypeId × Box Expr Global

abbrev defs_of : List LetDef → TypedLets
defs_of ds = let_parts (let_views ds)

-- 1. values after others, where there may be none
module _ (program : Program) (m : Meaning) (vars : Vars) where
  abbrev all_pure : List Expr → Option Values
  all_pure xs = pure_values program m (args_of xs) vars

  pure_next : (xs : List Expr) (x : Expr) (i : ℕ) (o : Option Values.Value) → i < length xs → x ≡ get_or xs i x → o ≡ pure_value program m (expr_view x) vars
      → all_pure (drop i xs) ≡ then_option o (λ v. then_option (all_pure (drop (i + 1) xs)) (λ vs. Some (value_and v vs)))
  pure_next xs x i o h at is =
      at_drop_more all_pure xs i x h
      ∙ ap (λ y. then_option (pure_value program m (expr_view y) vars) (λ v. then_option (all_pure (drop (i + 1) xs)) (λ vs. Some (value_and v vs)))) (sym at)
      ∙ ap (λ y. then_option y (λ v. then_option (all_pure (drop (i + 1) xs)) (λ vs. Some (value_and v vs)))) (sym is)

  pub pure_more : (out new : List Value) (v : Value) (xs : List Expr) (i : ℕ) (x : Expr) → i < length xs → x ≡ get_or xs i x → Some (value_view v) ≡ pure_value program m (expr_view x) vars → new ≡ out ++ v ∷ []
      → after out (all_pure (drop i xs)) ≡ all_pure xs → after new (all_pure (drop (i + 1) xs)) ≡ all_pure xs
  pure_more out new v xs i x h at there is inv =
      ap (λ l. after l (all_pure (drop (i + 1) xs))) is ∙ after_push out v (all_pure (drop (i + 1) xs)) ∙ ap (after out) (sym (pure_next xs x i (Some (value_view v)) h at there)) ∙ inv

  pub pure_missing : (out : List Value) (xs : List Expr) (i : ℕ) (x : Expr) → i < length xs → x ≡ get_or xs i x → None ≡ pure_value program m (expr_view x) vars
      → after out (all_pure (drop i xs)) ≡ all_pure xs → None ≡ all_pure xs
  pure_missing out xs i x h at none inv = sym (after_none out) ∙ ap (after out) (sym (pure_next xs x i None h at none)) ∙ inv

  pub pure_all : (out : List Value) (xs : List Expr) (i : ℕ) → length xs ≤ i → after out (all_pure (drop i xs)) ≡ all_pure xs → Some (value_views out) ≡ all_pure xs
  pure_all out xs i h inv = sym (after_all out) ∙ ap (after out) (sym (at_drop_all all_pure xs i h)) ∙ inv

-- 2. arguments of a right side: those before, where all are there, and what comes
unfoldable pub ahead : Option (List Value) → EvalAll → EvalAll
ahead given (ends_all calls) = ends_all calls
ahead given (gives_all vs calls) = gives_all (then_option given (λ out. after out vs)) calls

ahead_more : (given : Option (List Value)) (o : Option Value) (r : EvalAll) → ahead (with_value given o) r ≡ ahead given (pair_up (option_map value_view o) r)
unfolding ahead
ahead_more None o (ends_all calls) = refl
ahead_more None o (gives_all vs calls) = refl
ahead_more (Some out) None (ends_all calls) = refl
ahead_more (Some out) None (gives_all vs calls) = ap (λ q. gives_all q calls) (sym (after_none out))
ahead_more (Some out) (Some v) (ends_all calls) = refl
ahead_more (Some out) (Some v) (gives_all vs calls) = ap (λ q. gives_all q calls) (after_push out v vs)

ahead_ends : (given : Option (List Value)) (calls : List O.Call) → ahead given (ends_all calls) ≡ ends_all calls
unfolding ahead
ahead_ends given calls = refl

pub ahead_nothing : (r : EvalAll) → ahead (Some []) r ≡ r
unfolding ahead after before
ahead_nothing (ends_all calls) = refl
ahead_nothing (gives_all None calls) = refl
ahead_nothing (gives_all (Some vs) calls) = refl

all_given : (given : Option (List Value)) (calls : List O.Call) → ahead given (gives_all (Some no_value) calls) ≡ gives_all (option_map value_views given) calls
unfolding ahead
all_given None calls = refl
all_given (Some out) calls = ap (λ q. gives_all q calls) (after_all out)

viewed : (o : Option (Vec Value Global)) → option_map (λ v. value_views v.items) o ≡ option_map value_views (option_map (λ v. v.items) o)
viewed None = refl
viewed (Some v) = refl

-- a let's definitions went on, or all ended
pub goes_on : (b : Bool) (vars : Vars) (calls : List O.Call) (r : EvalLets) → lets_view b vars calls ≡ r → b ≡ true → gives_vars vars calls ≡ r
goes_on true vars calls r e h = e
goes_on false vars calls r e h = absurd (false≢true h)

pub ends_there : (b : Bool) (vars : Vars) (calls : List O.Call) (r : EvalLets) → lets_view b vars calls ≡ r → b ≡ false → ends_lets calls ≡ r
ends_there true vars calls r e h = absurd (false≢true (sym h))
ends_there false vars calls r e h = e

module _ (program : Program) (m : Meaning) where
  -- 3. a let's definitions, and arguments, one after another
  pub lets_more : (ds : List LetDef) (d : LetDef) (i : ℕ) (vars vars' : Vars) (whole : Vars) → i < length ds → d ≡ get_or ds i d → vars' ≡ (d.0.0, pure_value program m (expr_view d.2.value) vars) ∷ vars
      → pure_lets program m (defs_of (drop i ds)) vars ≡ whole → pure_lets program m (defs_of (drop (i + 1) ds)) vars' ≡ whole
  lets_more ds d i vars vars' whole h at is inv =
      ap (pure_lets program m (defs_of (drop (i + 1) ds))) is
      ∙ sym (ap (λ l. pure_lets program m l vars) (at_drop_more defs_of ds i d h ∙ ap (λ (x : LetDef). typed_let_and x.0.0 x.1.0 (expr_view x.2.value) (defs_of (drop (i + 1) ds))) (sym at))) ∙ inv

  pub lets_done : (ds : List LetDef) (i : ℕ) (vars whole : Vars) → length ds ≤ i → pure_lets program m (defs_of (drop i ds)) vars ≡ whole → vars ≡ whole
  lets_done ds i vars whole h inv = sym (ap (λ l. pure_lets program m l vars) (at_drop_all defs_of ds i h)) ∙ inv

  module _ (vars : Vars) where
    abbrev all_eval : List Expr → List O.Call → EvalAll
    all_eval xs calls = eval_all program m (args_of xs) vars calls

    eval_next : (xs : List Expr) (x : Expr) (i : ℕ) (calls : List O.Call) (r : Eval) → i < length xs → x ≡ get_or xs i x → r ≡ eval program m (expr_view x) vars calls
        → all_eval (drop i xs) calls ≡ then_rest r (λ calls'. all_eval (drop (i + 1) xs) calls')
    eval_next xs x i calls r h at is =
        ap (λ l. eval_all program m l vars calls) (at_drop_more args_of xs i x h ∙ ap (λ y. typed_expr_and (expr_view y) (args_of (drop (i + 1) xs))) (sym at))
        ∙ ap (λ y. then_rest y (λ calls'. all_eval (drop (i + 1) xs) calls')) (sym is)

    pub given_more : (given more : Option (List Value)) (o : Option Value) (xs : List Expr) (i : ℕ) (x : Expr) (calls calls' : List O.Call) (r : EvalAll) → i < length xs → x ≡ get_or xs i x
        → gives (option_map value_view o) calls' ≡ eval program m (expr_view x) vars calls → more ≡ with_value given o
        → ahead given (all_eval (drop i xs) calls) ≡ r → ahead more (all_eval (drop (i + 1) xs) calls') ≡ r
    given_more given more o xs i x calls calls' r h at there is inv =
        ap (λ g. ahead g (all_eval (drop (i + 1) xs) calls')) is ∙ ahead_more given o (all_eval (drop (i + 1) xs) calls')
        ∙ ap (ahead given) (sym (eval_next xs x i calls (gives (option_map value_view o) calls') h at there)) ∙ inv

    pub ended_there : (given : Option (List Value)) (xs : List Expr) (i : ℕ) (x : Expr) (calls calls' : List O.Call) (r : EvalAll) → i < length xs → x ≡ get_or xs i x
        → ends calls' ≡ eval program m (expr_view x) vars calls → ahead given (all_eval (drop i xs) calls) ≡ r → ends_all calls' ≡ r
    ended_there given xs i x calls calls' r h at there inv = sym (ahead_ends given calls') ∙ ap (ahead given) (sym (eval_next xs x i calls (ends calls') h at there)) ∙ inv

    pub all_evaluated : (given : Option (Vec Value Global)) (xs : List Expr) (i : ℕ) (calls : List O.Call) (r : EvalAll) → length xs ≤ i → ahead (option_map (λ v. v.items) given) (all_eval (drop i xs) calls) ≡ r
        → gives_all (option_map (λ v. value_views v.items) given) calls ≡ r
    all_evaluated given xs i calls r h inv =
        ap (λ q. gives_all q calls) (viewed given) ∙ sym (all_given (option_map (λ v. v.items) given) calls)
        ∙ ap (ahead (option_map (λ v. v.items) given)) (sym (ap (λ l. eval_all program m l vars calls) (at_drop_all args_of xs i h))) ∙ inv

  -- 4. a let's definitions on a right side
  defs_next : (ds : List LetDef) (d : LetDef) (i : ℕ) (vars : Vars) (calls : List O.Call) (r : Eval) → i < length ds → d ≡ get_or ds i d → r ≡ eval program m (expr_view d.2.value) vars calls
      → eval_lets program m (defs_of (drop i ds)) vars calls ≡ then_lets r (λ o calls'. eval_lets program m (defs_of (drop (i + 1) ds)) ((d.0.0, o) ∷ vars) calls')
  defs_next ds d i vars calls r h at is =
      ap (λ l. eval_lets program m l vars calls) (at_drop_more defs_of ds i d h ∙ ap (λ (x : LetDef). typed_let_and x.0.0 x.1.0 (expr_view x.2.value) (defs_of (drop (i + 1) ds))) (sym at))
      ∙ ap (λ y. then_lets y (λ o calls'. eval_lets program m (defs_of (drop (i + 1) ds)) ((d.0.0, o) ∷ vars) calls')) (sym is)

  pub defs_more : (ds : List LetDef) (d : LetDef) (i : ℕ) (vars vars' : Vars) (o : Option Values.Value) (calls calls' : List O.Call) (r : EvalLets) → i < length ds → d ≡ get_or ds i d
      → gives o calls' ≡ eval program m (expr_view d.2.value) vars calls → vars' ≡ (d.0.0, o) ∷ vars
      → eval_lets program m (defs_of (drop i ds)) vars calls ≡ r → eval_lets program m (defs_of (drop (i + 1) ds)) vars' calls' ≡ r
  defs_more ds d i vars vars' o calls calls' r h at there is inv =
      ap (λ l. eval_lets program m (defs_of (drop (i + 1) ds)) l calls') is ∙ sym (defs_next ds d i vars calls (gives o calls') h at there) ∙ inv
