-- What names stood for before the definitions of a let, and that what is hidden gives what closing their scope gives.
use Rattle.std.proofs.Common.{◌≡◌, ℕ, cond, eqb, nat_eq, true, List, [], ◌∷◌, ◌++◌, length, Option, Some, None, refl, sym, ap, ◌∙◌, arith}
use Rattle.std.proofs.lemmas.Bool.{eqb-true}
use Rattle.std.proofs.lemmas.Option.{none-some}
use Rattle.std.proofs.lemmas.Grind.{common_steps}
use Rattle.model.specs.rules.Typed.{TypedVar, TypedExpr, TypedLets, no_typed_let, typed_let_and}
use Rattle.model.specs.lists.Setting.{Scope, var_named, bound}
use Rattle.laws_errors.specs.Steps.{Mistake, went_on}
use Rattle.laws_errors.specs.ExprSteps.{closed}
use Rattle.laws_errors.proofs.GrownScopes.{GrowsOn, grows_same, fresh, Opened, opened_after, opened_before, opened_grows, closed_grows, stays_there, put_back_names, DefGrows}
use Rattle.core_types.specs.declared.ids.Sym.{Sym}
use Rattle.core_typed.specs.declared.rules.BoundVar.{BoundVar}
use Rattle.core_rules.specs.LetTaking.{def_made, is_defined, before_defs, Hides}
use Rattle.core_rules.specs.Lets.{before_all}
use Rattle.core_rules.proofs.LetForms.{lets_joined}

-- 1. by the scopes before each definition
abbrev stood : (ds : TypedLets) (s t : Scope) → Opened ds s t → ℕ → Option TypedVar → Option TypedVar
stood no_typed_let s t o k now = now
stood (typed_let_and x ty value rest) s t o k now = cond (eqb (fresh o.0 o.1 ty).name k) (var_named k o.0.visible) (stood rest (bound o.0 o.1 ty) t o.4 k now)

-- a name stands for what it stood for once the scope is closed
closed_stood : (ds : TypedLets) (s t : Scope) (o : Opened ds s t) (k : ℕ) → var_named k (closed ds t).visible ≡ stood ds s t o k (var_named k t.visible)
closed_stood no_typed_let s t o k = refl
closed_stood (typed_let_and x ty value rest) s t o k =
    put_back_names o.0 o.1 ty x o.3 (closed rest t) (closed_grows rest (bound o.0 o.1 ty) t o.4) k
    ∙ ap (cond (eqb (fresh o.0 o.1 ty).name k) (var_named k o.0.visible)) (closed_stood rest (bound o.0 o.1 ty) t o.4 k)

-- names that no definition has stand for what they stand for
stood_is : (ds : TypedLets) (s t : Scope) (o : Opened ds s t) (k : ℕ) (other now : Option TypedVar) → stood ds s t o k now ≡ cond (is_defined ds t.vars k) (stood ds s t o k other) now
stood_is no_typed_let s t o k other now = refl
stood_is (typed_let_and x ty value rest) s t o k other now = grind (arith, common_steps, stood_is rest, fresh, stays_there, opened_grows)

pub stood_before : (ds : TypedLets) (s t : Scope) (o : Opened ds s t) (k : ℕ) (now : Option TypedVar) → stood ds s t o k now ≡ before_defs ds t k now
stood_before ds s t o k now = stood_is ds s t o k (var_named k t.visible) now ∙ ap (λ v. cond (is_defined ds t.vars k) v now) (sym (closed_stood ds s t o k))

-- as the scope goes on it stays known
stood_later : (ds : TypedLets) (s t u : Scope) (o : Opened ds s t) (a : GrowsOn t u) (k : ℕ) (now : Option TypedVar) → stood ds s u (opened_before ds s t u o a) k now ≡ stood ds s t o k now
stood_later no_typed_let s t u o a k now = refl
stood_later (typed_let_and x ty value rest) s t u o a k now = ap (cond (eqb (fresh o.0 o.1 ty).name k) (var_named k o.0.visible)) (stood_later rest (bound o.0 o.1 ty) t u o.4 a k now)

stood_sooner : (ds : TypedLets) (s u t : Scope) (a : GrowsOn s u) (o : Opened ds u t) (k : ℕ) (now : Option TypedVar) → stood ds s t (opened_after ds s u t a o) k now ≡ stood ds u t o k now
stood_sooner no_typed_let s u t a o k now = refl
stood_sooner (typed_let_and x ty value rest) s u t a o k now = refl

-- 2. definitions, then others
abbrev pub opened_joined : (ds es : TypedLets) (s t u : Scope) → Opened ds s t → Opened es t u → Opened (lets_joined ds es) s u
opened_joined no_typed_let es s t u o p = opened_after es s t u o p
opened_joined (typed_let_and x ty value rest) es s t u o p = (o.0, o.1, o.2, o.3, opened_joined rest es (bound o.0 o.1 ty) t u o.4 p)

stood_joined : (ds es : TypedLets) (s t u : Scope) (o : Opened ds s t) (p : Opened es t u) (k : ℕ) (now : Option TypedVar)
    → stood (lets_joined ds es) s u (opened_joined ds es s t u o p) k now ≡ stood ds s t o k (stood es t u p k now)
stood_joined no_typed_let es s t u o p k now = stood_sooner es s t u o p k now
stood_joined (typed_let_and x ty value rest) es s t u o p k now = ap (cond (eqb (fresh o.0 o.1 ty).name k) (var_named k o.0.visible)) (stood_joined rest es (bound o.0 o.1 ty) t u o.4 p k now)

-- what is hidden is known of all
pub hides_joined : (ds es : TypedLets) (s t u : Scope) (earlier mid hidden : List (Sym × Option BoundVar)) → Opened ds s t → Opened es t u → Hides earlier mid ds t → Hides mid hidden es u → Hides earlier hidden (lets_joined ds es) u
hides_joined ds es s t u earlier mid hidden o p h i k now =
    i k now ∙ h k (before_defs es u k now)
    ∙ ap (before_all earlier k) (
    sym (stood_before ds s t o k (before_defs es u k now)) ∙ ap (stood ds s t o k) (sym (stood_before es t u p k now))
    ∙ sym (stood_joined ds es s t u o p k now) ∙ stood_before (lets_joined ds es) s u (opened_joined ds es s t u o p) k now
    )

-- one definition, if it was made
pub opened_one : (s t : Scope) (m : Option (TypedLets → TypedLets)) (n : ℕ) (ws : List Mistake) → DefGrows s (went_on m t n ws) → Opened (def_made m) s t
opened_one s t m n ws h = grind (arith, common_steps, grows_same)

-- 3. a definition is bound
pub bound_hides : (t : Scope) (x : List ℕ) (ty id : ℕ) (value : TypedExpr) (earlier hidden : List (Sym × Option BoundVar)) → id ≡ (fresh t x ty).name
    → ((k : ℕ) (now : Option TypedVar) → before_all hidden k now ≡ before_all earlier k (cond (nat_eq id k) (var_named id t.visible) now)) → Hides earlier hidden (typed_let_and (length t.vars) ty value no_typed_let) (bound t x ty)
bound_hides t x ty id value earlier hidden named hides k now =
    let one : TypedLets = typed_let_and (length t.vars) ty value no_typed_let in
    let o : Opened one t (bound t x ty) = (t, x, grows_same t, refl, grows_same (bound t x ty)) in
    let here : cond (nat_eq id k) (var_named id t.visible) now ≡ cond (nat_eq id k) (var_named k t.visible) now = grind (arith, common_steps, eqb-true) in
    hides k now ∙ ap (before_all earlier k) (here ∙ ap (λ (i : ℕ). cond (eqb i k) (var_named k t.visible) now) named ∙ stood_before one t (bound t x ty) o k now)

-- 4. the scope is closed, behind what goes on from the definitions
pub closed_hides : (ds : TypedLets) (s t u : Scope) (hidden : List (Sym × Option BoundVar)) → Opened ds s t → GrowsOn t u → Hides [] hidden ds t → (k : ℕ) → before_all hidden k (var_named k u.visible) ≡ var_named k (closed ds u).visible
closed_hides ds s t u hidden o a h k =
    h k (var_named k u.visible) ∙ sym (stood_before ds s t o k (var_named k u.visible)) ∙ sym (stood_later ds s t u o a k (var_named k u.visible)) ∙ sym (closed_stood ds s u (opened_before ds s t u o a) k)

-- only visible variables change
pub closed_names : (ds : TypedLets) (u : Scope) → (closed ds u).names ≡ u.names
closed_names no_typed_let u = refl
closed_names (typed_let_and x ty value rest) u = closed_names rest u

pub closed_vars : (ds : TypedLets) (u : Scope) → (closed ds u).vars ≡ u.vars
closed_vars no_typed_let u = refl
closed_vars (typed_let_and x ty value rest) u = closed_vars rest u

-- and no name stands for one that stood for none
within : (k : ℕ) (w : TypedVar) (top rest : List TypedVar) → eqb w.name k ≡ true → var_named k (top ++ w ∷ rest) ≡ None → ⊥
within k w [] rest here none = none-some w (sym none ∙ ap (λ b. cond b (Some w) (var_named k rest)) here)
within k w (v ∷ top) rest here none = grind (arith, common_steps, within k w top rest here, none-some)

none_stood : (ds : TypedLets) (s u : Scope) (o : Opened ds s u) (k : ℕ) → var_named k u.visible ≡ None → stood ds s u o k None ≡ None
none_stood no_typed_let s u o k none = refl
none_stood (typed_let_and x ty value rest) s u o k none = grind (arith, none_stood rest (bound o.0 o.1 ty) u o.4 k none, fresh, opened_grows, within)

pub closed_some : (ds : TypedLets) (s u : Scope) → Opened ds s u → (k : ℕ) (v : TypedVar) → var_named k (closed ds u).visible ≡ Some v → (w : TypedVar) × (var_named k u.visible ≡ Some w)
closed_some ds s u o k v h = grind (arith, common_steps, none-some v, none_stood ds s u o k, closed_stood ds s u o k)
