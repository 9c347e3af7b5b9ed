-- What a visit asks of sites whose gates are demanded.
use Rattle.std.proofs.Common.{◌≡◌, ◌⊎◌, ℕ, ◌==◌, Bool, true, false, List, [], ◌∷◌, ◌++◌, Some, is_some, Contains, refl, sym, subst, inl, inr, ◌∙◌, eq-eqb, arith}
use Rattle.std.proofs.lemmas.Bool.{cond-true}
use Rattle.std.proofs.lemmas.Grind.{common_steps}
use Rattle.model.specs.rules.Meaning.{look}
use Rattle.model.specs.sites.Sites.{Constraint, is_present, SiteTerm}
use Rattle.model.specs.visits.Demands.{Count, counting, Visit, making, asking, equating, iterating, calling, binding, or_no_site, var_site, asking_all}
use Rattle.model.specs.lists.Formed.{var_type}
use Rattle.model.proofs.Elements.{In, in_from_contains, contains_from_in, in_left, in_right, in_either}
use Rattle.model.specs.sites.DemandedGates.{GatesDemanded}
use Rattle.laws_sites.proofs.Gates.{asking_of, AllIn, gates_stay}

-- the gates of a site are demanded by a visit so far
abbrev pub Good : Bool → Bool → Visit → SiteTerm → Type 0
Good asked pure v u = GatesDemanded asked pure v.demands.constraints v.demands.iterators u

-- a site may be tested
abbrev pub MayTest : Visit → SiteTerm → Type 0
MayTest v u = Good true true v u

-- what is constrained or equated so far may be tested, and the gates below impure calls are demanded, but for answers
pub record IsSound (v : Visit) : Type 0 where
  pub asked : (e : SiteTerm × Constraint) → In v.demands.constraints e → MayTest v e.0
  pub equal : (e : SiteTerm × SiteTerm) → In v.demands.equalities e → MayTest v e.0 × MayTest v e.1
  pub impure : (u : SiteTerm) → In v.demands.impure u → Good false false v u

-- a later visit, which asks for no less
pub record Later (v w : Visit) : Type 0 where
  pub sound : IsSound v → IsSound w
  pub more : AllIn v.demands.constraints w.demands.constraints
  pub calls : AllIn v.demands.iterators w.demands.iterators

pub good_stays : (v w : Visit) → Later v w → (asked pure : Bool) (u : SiteTerm) → Good asked pure v u → Good asked pure w u
good_stays v w l = gates_stay (asking_of v.demands) (asking_of w.demands) (record { constraints = l.more; calls = l.calls })

pub now : (v : Visit) → Later v v
now v = record { sound = λ h. h; more = λ x c. c; calls = λ x c. c }

pub then_later : (u v w : Visit) → Later u v → Later v w → Later u w
then_later u v w a b = record { sound = λ h. b.sound (a.sound h); more = λ x c. b.more x (a.more x c); calls = λ x c. b.calls x (a.calls x c) }

pub later_making : (ts : List SiteTerm) (v : Visit) → Later v (making ts v)
later_making ts v = record { sound = λ h. record { asked = h.asked; equal = h.equal; impure = h.impure }; more = λ x c. c; calls = λ x c. c }

pub later_counting : (c : Count) (v : Visit) → Later v (counting c v)
later_counting c v = record { sound = λ h. record { asked = h.asked; equal = h.equal; impure = h.impure }; more = λ x k. k; calls = λ x k. k }

pub later_calling : (s : SiteTerm) (v : Visit) → Good false false v s → Later v (calling s v)
later_calling s v g = grind (arith, common_steps, in_either)

pub later_binding : (x : ℕ) (s : SiteTerm) (v : Visit) → Later v (binding x s v)
later_binding x s v = record { sound = λ h. record { asked = h.asked; equal = h.equal; impure = h.impure }; more = λ y c. c; calls = λ y c. c }

pub at_left : {X : Type 0} (xs ys : List X) → AllIn xs (xs ++ ys)
at_left xs ys x c = contains_from_in (xs ++ ys) x (in_left xs ys x (in_from_contains xs x c))

pub at_right : {X : Type 0} (xs : List X) (y : X) → Contains (xs ++ y ∷ []) y
at_right xs y = contains_from_in (xs ++ y ∷ []) y (in_right xs (y ∷ []) y (inl refl))

pub later_iterating : (s : SiteTerm) (v : Visit) → Later v (iterating s v)
later_iterating s v = record {
  sound = grind (arith, common_steps, keep true true, keep false false);
  more = λ x c. c;
  calls = at_left v.demands.iterators (s ∷ []);
}
  where
    keep : (asked pure : Bool) (u : SiteTerm) → Good asked pure v u → Good asked pure (iterating s v) u
    keep = gates_stay (asking_of v.demands) (record { constraints = v.demands.constraints; calls = v.demands.iterators ++ s ∷ [] }) (record { constraints = λ x c. c; calls = at_left v.demands.iterators (s ∷ []) })

pub later_asking : (s : SiteTerm) (c : Constraint) (v : Visit) → MayTest v s → Later v (asking s c v)
later_asking s c v g = record {
  sound = grind (arith, common_steps, keep true true, keep true true s g, keep false false, in_either v.demands.constraints ((s, c) ∷ []));
  more = at_left v.demands.constraints ((s, c) ∷ []);
  calls = λ x c. c;
}
  where
    keep : (asked pure : Bool) (u : SiteTerm) → Good asked pure v u → Good asked pure (asking s c v) u
    keep = gates_stay (asking_of v.demands) (record { constraints = v.demands.constraints ++ (s, c) ∷ []; calls = v.demands.iterators }) (record { constraints = at_left v.demands.constraints ((s, c) ∷ []); calls = λ x k. k })

-- with one equality more
abbrev pub equated : SiteTerm → SiteTerm → Visit → Visit
equated a b v = record { vars = v.vars; impure_calls = v.impure_calls; demands = record { constraints = v.demands.constraints; equalities = v.demands.equalities ++ (a, b) ∷ []; iterators = v.demands.iterators; impure = v.demands.impure; made = v.demands.made; counted = v.demands.counted } }

later_equated : (a b : SiteTerm) (v : Visit) → MayTest v a → MayTest v b → Later v (equated a b v)
later_equated a b v m n = grind (arith, common_steps, in_either)

pub later_equating : (a b : SiteTerm) (v : Visit) → MayTest v a → MayTest v b → Later v (equating a b v)
later_equating a b v m n = grind (arith, now v, later_equated a b v m n)

pub equating_binds : (a b : SiteTerm) (v : Visit) → (equating a b v).vars ≡ v.vars
equating_binds a b v = grind (arith, common_steps)

-- the calls that a value unwraps are asked to answer
pub asked_binds : (ss : List SiteTerm) (v : Visit) → (asking_all ss v).vars ≡ v.vars
asked_binds [] v = refl
asked_binds (s ∷ ss) v = asked_binds ss (asking s is_present v)

pub asked_more : (ss : List SiteTerm) (v : Visit) → AllIn v.demands.constraints (asking_all ss v).demands.constraints
asked_more [] v x c = c
asked_more (s ∷ ss) v x c = asked_more ss (asking s is_present v) x (at_left v.demands.constraints ((s, is_present) ∷ []) x c)

pub asked_calls : (ss : List SiteTerm) (v : Visit) → AllIn v.demands.iterators (asking_all ss v).demands.iterators
asked_calls [] v x c = c
asked_calls (s ∷ ss) v x c = asked_calls ss (asking s is_present v) x c

pub all_asked : (ss : List SiteTerm) (v : Visit) (s : SiteTerm) → In ss s → Contains (asking_all ss v).demands.constraints (s, is_present)
all_asked [] v s i = absurd i
all_asked (t ∷ ss) v s (inl e) = grind (arith, common_steps, asked_more ss (asking t is_present v) (s, is_present), at_right v.demands.constraints (t, is_present))
all_asked (t ∷ ss) v s (inr i) = all_asked ss (asking t is_present v) s i

asked_from : (ss : List SiteTerm) (v : Visit) (e : SiteTerm × Constraint) → In (asking_all ss v).demands.constraints e → In v.demands.constraints e ⊎ In ss e.0
asked_from [] v e i = inl i
asked_from (s ∷ ss) v e i = grind (arith, common_steps, asked_from ss (asking s is_present v) e i, in_either)

asked_equal : (ss : List SiteTerm) (v : Visit) → (asking_all ss v).demands.equalities ≡ v.demands.equalities
asked_equal [] v = refl
asked_equal (s ∷ ss) v = asked_equal ss (asking s is_present v)

asked_impure : (ss : List SiteTerm) (v : Visit) → (asking_all ss v).demands.impure ≡ v.demands.impure
asked_impure [] v = refl
asked_impure (s ∷ ss) v = asked_impure ss (asking s is_present v)

pub later_asked : (ss : List SiteTerm) (v : Visit) → ((s : SiteTerm) → In ss s → MayTest (asking_all ss v) s) → Later v (asking_all ss v)
later_asked ss v f = record {
  sound = grind (arith, common_steps, keep true true, keep false false, asked_from ss v, asked_equal ss v, asked_impure ss v);
  more = asked_more ss v;
  calls = asked_calls ss v;
}
  where
    keep : (asked pure : Bool) (u : SiteTerm) → Good asked pure v u → Good asked pure (asking_all ss v) u
    keep = gates_stay (asking_of v.demands) (asking_of (asking_all ss v).demands) (record { constraints = asked_more ss v; calls = asked_calls ss v })

-- variables that can be used stand for sites whose gates are demanded
abbrev pub AreGood : Bool → Bool → List (ℕ × ℕ) → Visit → Type 0
AreGood asked pure vars v = (x : ℕ) → is_some (var_type vars x) ≡ true → Good asked pure v (var_site v x)

-- a variable whose site may be tested stands for such a one later
abbrev pub Keeps : Visit → Visit → Type 0
Keeps v w = (x : ℕ) → MayTest v (var_site v x) → MayTest w (var_site w x)

-- variables that can be used stand for the same sites later
abbrev pub Same : List (ℕ × ℕ) → Visit → Visit → Type 0
Same vars v w = (x : ℕ) → is_some (var_type vars x) ≡ true → var_site w x ≡ var_site v x

-- without a binding
pub keeps_vars : (v w : Visit) → Later v w → w.vars ≡ v.vars → Keeps v w
keeps_vars v w l e x g = grind (arith, common_steps, good_stays)

pub then_keeps : (u v w : Visit) → Keeps u v → Keeps v w → Keeps u w
then_keeps u v w f g x h = g x (f x h)

-- a binding of a site that may be tested
pub keeps_binding : (y : ℕ) (s : SiteTerm) (v : Visit) → MayTest v s → Keeps v (binding y s v)
keeps_binding y s v m x g = grind (arith, common_steps)

pub bound_good : (asked pure : Bool) (y : ℕ) (s : SiteTerm) (v : Visit) → Good asked pure v s → Good asked pure (binding y s v) (var_site (binding y s v) y)
bound_good asked pure y s v g = subst (λ o. Good asked pure v (or_no_site o)) (sym (cond-true (y == y) (Some s) (look (λ k. k == y) v.vars) (eq-eqb y y refl))) g

-- one more variable
pub good_and : (asked pure : Bool) (y ty : ℕ) (vars : List (ℕ × ℕ)) (v : Visit) → AreGood asked pure vars v → Good asked pure v (var_site v y) → AreGood asked pure ((y, ty) ∷ vars) v
good_and asked pure y ty vars v f g x h = grind (arith, common_steps)

pub good_later : (asked pure : Bool) (vars : List (ℕ × ℕ)) (v w : Visit) → Later v w → Same vars v w → AreGood asked pure vars v → AreGood asked pure vars w
good_later asked pure vars v w l same f x h = subst (Good asked pure w) (sym (same x h)) (good_stays v w l asked pure (var_site v x) (f x h))

pub then_same : (vars : List (ℕ × ℕ)) (u v w : Visit) → Same vars u v → Same vars v w → Same vars u w
then_same vars u v w f g x h = g x h ∙ f x h

-- a binding of a variable that can't be used yet
pub same_binding : (vars : List (ℕ × ℕ)) (y : ℕ) (s : SiteTerm) (v : Visit) → is_some (var_type vars y) ≡ false → Same vars v (binding y s v)
same_binding vars y s v new x h = grind (arith, common_steps)
