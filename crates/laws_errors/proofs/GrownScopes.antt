-- What can be used behind an expression: what could be before it, and above that what was left open. A let that is made puts its names back.
use Rattle.std.proofs.Common.{◌≡◌, ℕ, zero, suc, ◌≤◌, true, false, cond, eqb, nat_le, List, [], ◌∷◌, ◌++◌, length, Option, Some, None, slice_get, append_assoc, append-nil, length-append, true≢false, inl, inr, refl, sym, ap, ◌∙◌, arith}
use Rattle.std.proofs.lemmas.Bool.{cases_Bool, eq-eqb, eqb-true, ne_eqb}
use Rattle.std.proofs.lemmas.Grind.{common_steps}
use Rattle.model.specs.lists.Syntax.{Position, Name, ExprTree, term_expr, var_expr, bool_expr, int_expr, prim_expr, let_expr, ExprTrees, no_expr, expr_and, LetTrees, no_let, let_and}
use Rattle.model.specs.lists.Names.{number, with_name}
use Rattle.model.specs.lists.Tables.{Flags, TermEntry}
use Rattle.model.specs.lists.Setting.{Setting, Scope, new_var, var_named, met, bound, var_of, term_of, type_of_name, type_of_constant}
use Rattle.model.specs.lists.Elaborated.{most_expansions}
use Rattle.model.specs.rules.Typed.{TypedExpr, TypedLets, no_typed_let, typed_let_and, TypedVar}
use Rattle.model.specs.claims.Refusals.{of_expansions}
use Rattle.laws_errors.specs.Steps.{Mistake, Step, went_on, stopped, here, noting, made_step, counted_step, joined_step, then_step, then_made}
use Rattle.laws_errors.specs.ExprSteps.{converted_or, expected_step, called_step, used_step, made_constant_step, with_def, let_step, uncovered, put_back, closed, ended_step, expr_step, args_step, lets_step, deeper_expr_step}

-- 1. scopes
abbrev pub AreNewer : ℕ → List TypedVar → Type 0
AreNewer n [] = Unit {0}
AreNewer n (w ∷ ws) = (n ≤ w.id) × AreNewer n ws

newer_both : (n : ℕ) (ws vs : List TypedVar) → AreNewer n ws → AreNewer n vs → AreNewer n (ws ++ vs)
newer_both n [] vs h k = k
newer_both n (w ∷ ws) vs h k = (h.0, newer_both n ws vs h.1 k)

newer_still : (n m : ℕ) (ws : List TypedVar) → n ≤ m → AreNewer m ws → AreNewer n ws
newer_still n m [] l h = tt
newer_still n m (w ∷ ws) l h = (let k = h.0 in omega (arith, l, k), newer_still n m ws l h.1)

-- what can be used is what could be, and newer variables above it; all variables stay
pub record GrowsOn (s t : Scope) : Type 0 where
  pub top : List TypedVar
  pub visible : t.visible ≡ top ++ s.visible
  pub newer : AreNewer (length s.vars) top
  pub more : List TypedVar
  pub vars : t.vars ≡ s.vars ++ more

pub grows_same : (s : Scope) → GrowsOn s s
grows_same s = record { top = []; visible = refl; newer = tt; more = []; vars = sym (append-nil s.vars) }

longer : (s t : Scope) → GrowsOn s t → length s.vars ≤ length t.vars
longer s t a = let l = ap length a.vars ∙ length-append s.vars a.more in omega (arith, l)

pub grows_both : (s t u : Scope) → GrowsOn s t → GrowsOn t u → GrowsOn s u
grows_both s t u a b = record {
  top = b.top ++ a.top;
  visible = b.visible ∙ ap (λ vs. b.top ++ vs) a.visible ∙ sym (append_assoc b.top a.top s.visible);
  newer = newer_both (length s.vars) b.top a.top (newer_still (length s.vars) (length t.vars) b.top (longer s t a) b.newer) a.newer;
  more = a.more ++ b.more;
  vars = b.vars ∙ ap (λ vs. vs ++ b.more) a.vars ∙ append_assoc s.vars a.more b.more;
}

pub grows_met : (s : Scope) (x : List ℕ) → GrowsOn s (met s x)
grows_met s x = record { top = []; visible = refl; newer = tt; more = []; vars = sym (append-nil s.vars) }

-- the variable that is bound
abbrev pub fresh : Scope → List ℕ → ℕ → TypedVar
fresh s x ty = new_var s.vars (number (with_name s.names x) x) ty

pub grows_bound : (s : Scope) (x : List ℕ) (ty : ℕ) → GrowsOn s (bound s x ty)
grows_bound s x ty = record { top = fresh s x ty ∷ []; visible = refl; newer = (omega arith, tt); more = fresh s x ty ∷ []; vars = refl }

-- 2. names that are put back
-- variables but those of a name
abbrev pub but_named : ℕ → List TypedVar → List TypedVar
but_named name [] = []
but_named name (v ∷ vs) = cond (eqb name v.name) (but_named name vs) (v ∷ but_named name vs)

newer_kept : (n name : ℕ) (vs : List TypedVar) → AreNewer n vs → AreNewer n (but_named name vs)
newer_kept n name [] h = tt
newer_kept n name (v ∷ vs) h = elim (eqb name v.name) as (λ b. AreNewer n (cond b (but_named name vs) (v ∷ but_named name vs))) [ true ↦ newer_kept n name vs h.1 | false ↦ (h.0, newer_kept n name vs h.1) ]

pub uncovered_is : (x : ℕ) (w : TypedVar) (top rest : List TypedVar) → w.id ≡ x → AreNewer (suc x) top → uncovered x (Some w) (top ++ w ∷ rest) ≡ but_named w.name top ++ rest
uncovered_is x w [] rest here newer = ap (λ b. cond b rest (cond (eqb w.name w.name) (uncovered x (Some w) rest) (w ∷ uncovered x (Some w) rest))) (eq-eqb w.id x here)
uncovered_is x w (v ∷ top) rest here newer = grind (arith, common_steps, uncovered_is x w top rest here newer.1, ne_eqb)

-- what a name stands for once a newer variable is put back
but_is : (k : ℕ) (w : TypedVar) (top rest : List TypedVar) → var_named k (but_named w.name top ++ rest) ≡ cond (eqb w.name k) (var_named k rest) (var_named k (top ++ w ∷ rest))
but_is k w [] rest = elim (eqb w.name k) as (λ b. var_named k rest ≡ cond b (var_named k rest) (cond b (Some w) (var_named k rest))) [ true ↦ refl | false ↦ refl ]
but_is k w (v ∷ top) rest =
    let before = but_is k w top rest in
    let kept : List TypedVar = but_named w.name top in
    let old : Option TypedVar = var_named k (top ++ w ∷ rest) in
    let under : Option TypedVar = var_named k rest in
    elim (cases_Bool (eqb w.name v.name)) [
      | inl same ↦ grind (arith, common_steps, eqb-true)
      | inr other ↦
          ap (λ b. var_named k (cond b kept (v ∷ kept) ++ rest)) other ∙ ap (cond (eqb v.name k) (Some v)) before
          ∙ (elim (cases_Bool (eqb v.name k)) [
            | inl here ↦
                let apart : eqb w.name k ≡ false = ne_eqb w.name k (λ there. true≢false (sym (eq-eqb w.name v.name (there ∙ sym (eqb-true v.name k here))) ∙ other)) in
                ap (λ b. cond b (Some v) (cond (eqb w.name k) under old)) here ∙ sym (ap (λ b. cond b under (cond (eqb v.name k) (Some v) old)) apart ∙ ap (λ b. cond b (Some v) old) here)
            | inr not_here ↦ grind (arith, common_steps)
          ])
    ]

named_back : (k x : ℕ) (w : TypedVar) (top rest : List TypedVar) → w.id ≡ x → AreNewer (suc x) top
    → var_named k (uncovered x (Some w) (top ++ w ∷ rest)) ≡ cond (eqb w.name k) (var_named k rest) (var_named k (top ++ w ∷ rest))
named_back k x w top rest here newer = ap (var_named k) (uncovered_is x w top rest here newer) ∙ but_is k w top rest

there : (xs ys : List TypedVar) (v : TypedVar) → slice_get (xs ++ v ∷ ys) (length xs) ≡ Some v
there [] ys v = refl
there (x ∷ xs) ys v = there xs ys v

-- behind a variable that was bound
module _ (s : Scope) (x : List ℕ) (ty id : ℕ) (place : id ≡ length s.vars) (u : Scope) (a : GrowsOn (bound s x ty) u) where
  abbrev v : TypedVar
  v = fresh s x ty

  all : u.vars ≡ s.vars ++ v ∷ a.more
  all = a.vars ∙ append_assoc s.vars (v ∷ []) a.more

  -- it stays at its place
  pub stays_there : slice_get u.vars id ≡ Some v
  stays_there = ap (λ (k : ℕ). slice_get u.vars k) place ∙ ap (λ vs. slice_get vs (length s.vars)) all ∙ there s.vars a.more v

  newer_than : AreNewer (suc id) a.top
  newer_than = newer_still (suc id) (length (bound s x ty).vars) a.top (let l = length-append s.vars (v ∷ []) in omega (arith, l, place)) a.newer

  pub put_back_grows : GrowsOn s (put_back id u)
  put_back_grows = record {
    top = but_named v.name a.top;
    visible = ap (λ o. uncovered id o u.visible) stays_there ∙ ap (uncovered id (Some v)) a.visible ∙ uncovered_is id v a.top s.visible (sym place) newer_than;
    newer = newer_kept (length s.vars) v.name a.top (newer_still (length s.vars) (suc id) a.top (omega (arith, place)) newer_than);
    more = v ∷ a.more;
    vars = all;
  }

  -- its name stands for what it stood for, and any other for what it stands for
  pub put_back_names : (k : ℕ) → var_named k (put_back id u).visible ≡ cond (eqb v.name k) (var_named k s.visible) (var_named k u.visible)
  put_back_names k =
      ap (λ o. var_named k (uncovered id o u.visible)) stays_there ∙ ap (λ vs. var_named k (uncovered id (Some v) vs)) a.visible
      ∙ named_back k id v a.top s.visible (sym place) newer_than ∙ ap (λ vs. cond (eqb v.name k) (var_named k s.visible) (var_named k vs)) (sym a.visible)

-- 3. definitions that were made from one scope to another
abbrev pub Opened : TypedLets → Scope → Scope → Type 0
Opened no_typed_let s t = GrowsOn s t
Opened (typed_let_and x ty value rest) s t = (mid : Scope) × (name : List ℕ) × GrowsOn s mid × (x ≡ length mid.vars) × Opened rest (bound mid name ty) t

abbrev pub opened_after : (ds : TypedLets) (s u t : Scope) → GrowsOn s u → Opened ds u t → Opened ds s t
opened_after no_typed_let s u t a o = grows_both s u t a o
opened_after (typed_let_and x ty value rest) s u t a o = (o.0, o.1, grows_both s u o.0 a o.2, o.3, o.4)

abbrev pub opened_before : (ds : TypedLets) (s t u : Scope) → Opened ds s t → GrowsOn t u → Opened ds s u
opened_before no_typed_let s t u o a = grows_both s t u o a
opened_before (typed_let_and x ty value rest) s t u o a = (o.0, o.1, o.2, o.3, opened_before rest (bound o.0 o.1 ty) t u o.4 a)

pub opened_grows : (ds : TypedLets) (s t : Scope) → Opened ds s t → GrowsOn s t
opened_grows no_typed_let s t o = o
opened_grows (typed_let_and x ty value rest) s t o =
    grows_both s o.0 t o.2 (grows_both o.0 (bound o.0 o.1 ty) t (grows_bound o.0 o.1 ty) (opened_grows rest (bound o.0 o.1 ty) t o.4))

pub closed_grows : (ds : TypedLets) (s t : Scope) → Opened ds s t → GrowsOn s (closed ds t)
closed_grows no_typed_let s t o = o
closed_grows (typed_let_and x ty value rest) s t o = grows_both s o.0 (put_back x (closed rest t)) o.2 (put_back_grows o.0 o.1 ty x o.3 (closed rest t) (closed_grows rest (bound o.0 o.1 ty) t o.4))

-- 4. steps
module _ {X : Type 0} where
  abbrev pub StepGrows : Scope → Step X → Type 0
  StepGrows s (went_on m t k es) = GrowsOn s t
  StepGrows s (stopped l t es) = Unit {0}

  noting_grows : (s : Scope) (ws : List Mistake) (t : Step X) → StepGrows s t → StepGrows s (noting ws t)
  noting_grows s ws t h = grind (arith, common_steps)

  counted_grows : (s : Scope) (t : Step X) → StepGrows s t → StepGrows s (counted_step t)
  counted_grows s t h = grind (arith, common_steps)

  later_grows : (s u : Scope) (t : Step X) → GrowsOn s u → StepGrows u t → StepGrows s t
  later_grows s u (went_on m t k es) a h = grows_both s u t a h
  later_grows s u (stopped l t es) a h = tt

made_grows : {X Y : Type 0} (f : X → Y) (s : Scope) (t : Step X) → StepGrows s t → StepGrows s (made_step f t)
made_grows f s t h = grind (arith, common_steps)

module _ {X Y Z : Type 0} (g : Option X → Y → Z) where
  joined_grows : (s : Scope) (m : Option X) (k : ℕ) (t : Step Y) → StepGrows s t → StepGrows s (joined_step g m k t)
  joined_grows s m k t h = grind arith

  in_order_grows : (s : Scope) (t : Step X) (next : Option X → Scope → ℕ → Step Y) → StepGrows s t → ((m : Option X) (u : Scope) (k : ℕ) → StepGrows u (next m u k)) → StepGrows s (then_step g t next)
  in_order_grows s t next h r = grind (arith, common_steps, noting_grows, joined_grows, later_grows)

converted_grows : (at : Position) (s : Scope) (itself : Step TypedExpr) (convert : TermEntry → Step TypedExpr) → StepGrows s itself → ((c : TermEntry) → StepGrows s (convert c)) → (o p : Option TermEntry)
    → StepGrows s (converted_or at s itself convert o p)
converted_grows at s itself convert h i (Some c) p = i c
converted_grows at s itself convert h i None (Some c) = grows_same s
converted_grows at s itself convert h i None None = h

expected_grows : (e : Setting) (own : ℕ) (ty : Option ℕ) (at : Position) (s : Scope) (itself : Step TypedExpr) (convert : TermEntry → Step TypedExpr) → StepGrows s itself → ((c : TermEntry) → StepGrows s (convert c))
    → StepGrows s (expected_step e own ty at s itself convert)
expected_grows e own ty at s itself convert h i = grind (arith, common_steps, converted_grows)

-- 5. lets
abbrev pub LetsGrow : Scope → Step TypedLets → Type 0
LetsGrow s (went_on None t k es) = GrowsOn s t
LetsGrow s (went_on (Some ds) t k es) = Opened ds s t
LetsGrow s (stopped l t es) = Unit {0}

ended_grows : (ds : TypedLets) (s u : Scope) (t : Step TypedExpr) → Opened ds s u → StepGrows u t → StepGrows s (ended_step ds t)
ended_grows ds s u (went_on None t k es) o h = grows_both s u t (opened_grows ds s u o) h
ended_grows ds s u (went_on (Some body) t k es) o h = closed_grows ds s t (opened_before ds s u t o h)
ended_grows ds s u (stopped l t es) o h = tt

let_grows : (s : Scope) (t : Step TypedLets) (next : TypedLets → Scope → ℕ → Step TypedExpr) → LetsGrow s t → ((ds : TypedLets) (u : Scope) (k : ℕ) → Opened ds s u → StepGrows s (next ds u k)) → StepGrows s (then_made t next)
let_grows s t next h r = grind (arith, joined_grows)

-- one definition, by its value
abbrev pub DefGrows : Scope → Step (TypedLets → TypedLets) → Type 0
DefGrows s (went_on None t k es) = GrowsOn s t
DefGrows s (went_on (Some f) t k es) = (rest : TypedLets) (u : Scope) → Opened rest t u → Opened (f rest) s u
DefGrows s (stopped l t es) = Unit {0}

one_def_grows : (x ty : List ℕ) (at : Position) (s : Scope) (value : ℕ → Step TypedExpr) (o : Option ℕ) → ((own : ℕ) → StepGrows (met s x) (value own)) → DefGrows s (let_step x ty at s value o)
one_def_grows x ty at s value o h = grind (arith, common_steps, grows_met, later_grows)

rest_grows : (s u : Scope) (es : List Mistake) (m : Option (TypedLets → TypedLets)) (k : ℕ) (t : Step TypedLets) → DefGrows s (went_on m u k es) → LetsGrow u t → LetsGrow s (noting es (joined_step with_def m k t))
rest_grows s u es None k (went_on None t j ws) h i = grows_both s u t h i
rest_grows s u es None k (went_on (Some ds) t j ws) h i = opened_after ds s u t h i
rest_grows s u es (Some f) k (went_on None t j ws) h i = grind (arith, common_steps, grows_both s u t, grows_same u, opened_grows (f no_typed_let) s u)
rest_grows s u es (Some f) k (went_on (Some ds) t j ws) h i = h ds t i
rest_grows s u es None k (stopped l t ws) h i = tt
rest_grows s u es (Some f) k (stopped l t ws) h i = tt

defs_grow : (s : Scope) (t : Step (TypedLets → TypedLets)) (next : Option (TypedLets → TypedLets) → Scope → ℕ → Step TypedLets) → DefGrows s t → ((m : Option (TypedLets → TypedLets)) (u : Scope) (k : ℕ) → LetsGrow u (next m u k))
    → LetsGrow s (then_step with_def t next)
defs_grow s t next h r = grind (arith, common_steps, rest_grows)

-- 6. expressions
module _ (e : Setting) (flags : Flags) (d : ℕ) (deeper : (x : ExprTree) (ty : Option ℕ) (n : ℕ) (s : Scope) → StepGrows s (deeper_expr_step e flags d x ty n s)) where
  called_grows : (name : Name) (args : ExprTrees) (at : Position) (ty : Option ℕ) (n : ℕ) (s : Scope) → ((tys : List ℕ) → StepGrows s (args_step e flags (deeper_expr_step e flags d) args tys n s)) → (o : Option TermEntry)
      → StepGrows s (called_step e flags (deeper_expr_step e flags d) name args at ty n s (λ tys. args_step e flags (deeper_expr_step e flags d) args tys n s) o)
  called_grows name args at ty n s parts None = grows_same s
  called_grows name args at ty n s parts (Some t) = grind (arith, common_steps, expected_grows, noting_grows, made_grows, parts t.arg_tys)

  used_grows : (name : Name) (at : Position) (ty : Option ℕ) (n : ℕ) (s : Scope) (o : Option TypedVar) → StepGrows s (used_step e (deeper_expr_step e flags d) name at ty n s o)
  used_grows name at ty n s o = grind (arith, common_steps, grows_same)

  constant_grows : (ty : Option ℕ) (x : List ℕ) (at : Position) (s : Scope) (o : Option ℕ) → StepGrows s (made_constant_step ty x at s o)
  constant_grows ty x at s o = grind (arith, common_steps, grows_met, grows_same)

  mutual
    pub expr_grows : (x : ExprTree) (ty : Option ℕ) (n : ℕ) (s : Scope) → StepGrows s (expr_step e flags (deeper_expr_step e flags d) x ty n s)
    expr_grows (term_expr name args at) ty n s = called_grows name args at ty n s (λ tys. args_grow args tys n s) (term_of e s name.text)
    expr_grows (var_expr name at) ty n s = used_grows name at ty n s (var_of s name.text)
    expr_grows (bool_expr b at) ty n s = grows_same s
    expr_grows (int_expr z at) None n s = grows_same s
    expr_grows (int_expr z at) (Some own) n s = grows_same s
    expr_grows (prim_expr name at) ty n s = constant_grows ty name.text at s (type_of_constant e s name.text)
    expr_grows (let_expr defs body at) ty n s = grind (arith, common_steps, lets_grow defs at n s, expr_grows body ty, let_grows, ended_grows)

    args_grow : (args : ExprTrees) (tys : List ℕ) (n : ℕ) (s : Scope) → StepGrows s (args_step e flags (deeper_expr_step e flags d) args tys n s)
    args_grow no_expr tys n s = grows_same s
    args_grow (expr_and x rest) [] n s = grows_same s
    args_grow (expr_and x rest) (ty ∷ tys) n s = grind (arith, common_steps, expr_grows x (Some ty) n s, args_grow rest tys, in_order_grows)

    pub lets_grow : (defs : LetTrees) (at : Position) (n : ℕ) (s : Scope) → LetsGrow s (lets_step e flags (deeper_expr_step e flags d) defs at n s)
    lets_grow no_let at n s = grows_same s
    lets_grow (let_and name ty value own_at rest) at n s = grind (arith, common_steps, expr_grows value, lets_grow rest at, defs_grow, one_def_grows)

-- what expansions make
pub deeper_grows : (e : Setting) (flags : Flags) (d : ℕ) (x : ExprTree) (ty : Option ℕ) (n : ℕ) (s : Scope) → StepGrows s (deeper_expr_step e flags d x ty n s)
deeper_grows e flags zero x ty n s = tt
deeper_grows e flags (suc d) x ty n s = elim (nat_le most_expansions n) as (λ b. StepGrows s (cond b (stopped of_expansions s []) (counted_step (expr_step e flags (deeper_expr_step e flags d) x ty (suc n) s)))) [
  | true ↦ tt
  | false ↦ counted_grows s (expr_step e flags (deeper_expr_step e flags d) x ty (suc n) s) (expr_grows e flags d (deeper_grows e flags d) x ty (suc n) s)
]

-- one definition
pub def_grow : (e : Setting) (flags : Flags) (d : ℕ) (name ty : Name) (value : ExprTree) (at : Position) (n : ℕ) (s : Scope)
    → DefGrows s (let_step name.text ty.text at s (λ own. expr_step e flags (deeper_expr_step e flags d) value (Some own) n (met s name.text)) (type_of_name e s ty.text))
def_grow e flags d name ty value at n s =
    one_def_grows name.text ty.text at s (λ own. expr_step e flags (deeper_expr_step e flags d) value (Some own) n (met s name.text)) (type_of_name e s ty.text)
    (λ own. expr_grows e flags d (deeper_grows e flags d) value (Some own) n (met s name.text))
