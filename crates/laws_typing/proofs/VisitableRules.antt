-- Rules that hang together can be visited: terms have as many parts as arguments, and variables are bound before their use.
use Rattle.std.proofs.Common.{◌≡◌, ℕ, suc, ◌==◌, Bool, true, false, not, ◌&&◌, ◌||◌, if◌then◌else◌, List, [], ◌∷◌, length, Option, Some, None, is_some, is_none, slice_get, refl, sym, ap, subst, ◌∙◌, inl, inr, eq-eqb, arith}
use Rattle.std.proofs.lemmas.Grind.{common_steps}
use Rattle.std.proofs.lemmas.Bool.{and_parts, and_from, cases_Bool, false≢true, or_from}
use Rattle.std.proofs.lemmas.Option.{cond_some, none-some, same_Some}
use Rattle.model.specs.rules.Outcome.{then_option}
use Rattle.model.specs.lists.Tables.{TermEntry}
use Rattle.model.specs.lists.Ranges.{is_literal_of}
use Rattle.model.specs.rules.Program.{Program}
use Rattle.model.specs.visits.Demands.{pattern_count}
use Rattle.model.specs.sites.Serves.{constant_type}
use Rattle.model.specs.rules.Typed.{TypedPattern, match_bind, match_var, match_bool, match_int, match_prim, match_term, match_any, match_and, TypedPatterns, no_typed_pattern, typed_pattern_and, TypedExpr, make_term, make_let, TypedExprs, typed_expr_and, TypedLets, no_typed_let, typed_let_and, TypedIfLet}
use Rattle.model.specs.lists.Setting.{bool_type, expr_type, has_extractor}
use Rattle.model.specs.lists.Formed.{pattern_type, var_type, is_type, with_new, of_entry, where_bound, formed_pattern, formed_parts, formed_each, is_formed_expr, are_formed_args, formed_lets, formed_list, formed_iflets}
use Rattle.model.specs.lists.Visitable.{expr_count, bound_after, bound_after_parts, is_visitable_pattern, are_visitable_parts, bound_after_lets, is_visitable_expr, are_visitable_args, are_visitable_lets, bound_after_list, are_visitable_list, bound_after_iflets, are_visitable_iflets}
use Rattle.model.specs.trees.Places.{is_in}
use Rattle.model.proofs.Elements.{or_split, or_left, or_right}
use Rattle.model.proofs.Options.{then_some}
use Rattle.laws_typing.specs.TypingResults.{FormedRulesCanBeVisited}
use Rattle.laws_typing.proofs.FormedParts.{from_if, from_entry, from_vars, has_type, has_none}

-- 1. variables that can be used, beside those that are bound
abbrev has : List (ℕ × ℕ) → ℕ → Bool
has vars y = is_some (var_type vars y)

has_with : (x ty : ℕ) (vars : List (ℕ × ℕ)) (y : ℕ) → has ((x, ty) ∷ vars) y ≡ ((x == y) || has vars y)
has_with x ty vars y = grind arith

-- what can be used is bound
abbrev Holds : List (ℕ × ℕ) → List ℕ → Type 0
Holds vars ks = (y : ℕ) → has vars y ≡ true → is_in y ks ≡ true

holds_with : (x ty : ℕ) (vars : List (ℕ × ℕ)) (ks : List ℕ) → Holds vars ks → Holds ((x, ty) ∷ vars) (x ∷ ks)
holds_with x ty vars ks h y e = grind (arith, common_steps, or_split, has_with, or_left, or_right)

-- and what comes isn't bound yet
record IsReady (vars more : List (ℕ × ℕ)) (ks : List ℕ) : Type 0 where
  bound : Holds vars ks
  new : (y : ℕ) → has vars y ≡ false → has more y ≡ true → is_in y ks ≡ false

-- how a part of a rule is visited: whether it can be where these variables are bound, and what is bound after it
record PartVisit : Type 0 where
  can_visit : List ℕ → Bool
  after : List ℕ → List ℕ

-- one part after another
abbrev and_then : PartVisit → PartVisit → PartVisit
and_then a b = record { can_visit = λ ks. a.can_visit ks && b.can_visit (a.after ks); after = λ ks. b.after (a.after ks) }

-- a variable, which isn't bound yet, and then a part
abbrev with_variable : ℕ → PartVisit → PartVisit
with_variable x a = record { can_visit = λ ks. not (is_in x ks) && a.can_visit (x ∷ ks); after = λ ks. a.after (x ∷ ks) }

-- a part that binds nothing
abbrev binds_nothing : (List ℕ → Bool) → PartVisit
binds_nothing can_visit = record { can_visit = can_visit; after = λ ks. ks }

-- a visit from these variables to those can be made wherever it may begin, and binds just what comes
record Visits (vars more : List (ℕ × ℕ)) (a : PartVisit) : Type 0 where
  kept : (y : ℕ) → has vars y ≡ true → has more y ≡ true
  can : (ks : List ℕ) → IsReady vars more ks → a.can_visit ks ≡ true
  binds : (ks : List ℕ) → IsReady vars more ks → (y : ℕ) → is_in y (a.after ks) ≡ (is_in y ks || has more y)

absorbed : (a b c : Bool) → (b ≡ true → c ≡ true) → ((a || b) || c) ≡ (a || c)
absorbed a b c h = grind (arith, common_steps)

exchanged : (a b c : Bool) → ((a || b) || c) ≡ (b || (a || c))
exchanged a b c = grind (arith, common_steps)

-- where nothing is bound
unbound : (vars more : List (ℕ × ℕ)) (can_visit : List ℕ → Bool) → Some vars ≡ Some more → ((ks : List ℕ) → Holds vars ks → can_visit ks ≡ true) → Visits vars more (binds_nothing can_visit)
unbound vars more can_visit e h = grind (arith, common_steps, same_Some)

outside : {vars more : List (ℕ × ℕ)} {a : PartVisit} → Visits vars more a → (y : ℕ) → has more y ≡ false → has vars y ≡ false
outside {vars = vars} v y h = elim (cases_Bool (has vars y)) [ inl t ↦ absurd (false≢true (sym h ∙ v.kept y t)) | inr n ↦ n ]

-- one visit after another
then_visits : {vars mid more : List (ℕ × ℕ)} {a b : PartVisit} → Visits vars mid a → Visits mid more b → Visits vars more (and_then a b)
then_visits {vars = vars} {mid = mid} {more = more} {a = a} {b = b} v w =
    record {
      kept = λ y h. w.kept y (v.kept y h);
      can = λ ks r. and_from (a.can_visit ks) (b.can_visit (a.after ks)) (v.can ks (ready_first ks r)) (w.can (a.after ks) (ready_next ks r));
      binds = λ ks r y.
          (w.binds (a.after ks) (ready_next ks r) y ∙ ap (λ c. c || has more y) (v.binds ks (ready_first ks r) y)
          ∙ absorbed (is_in y ks) (has mid y) (has more y) (w.kept y));
    }
  where
    ready_first : (ks : List ℕ) → IsReady vars more ks → IsReady vars mid ks
    ready_first ks r = record { bound = r.bound; new = λ y h k. r.new y h (w.kept y k) }

    ready_next : (ks : List ℕ) → IsReady vars more ks → IsReady mid more (a.after ks)
    ready_next ks r =
        let first = ready_first ks r in
        record {
          bound = λ y h. v.binds ks first y ∙ or_right (is_in y ks) (has mid y) h;
          new = λ y h k. v.binds ks first y ∙ or_from (is_in y ks) (has mid y) (r.new y (outside v y h) k) h;
        }

-- a variable, and then a visit
bind_visits : {vars mid : List (ℕ × ℕ)} (x ty : ℕ) {a : PartVisit} → Visits vars mid a → has mid x ≡ false → Visits vars ((x, ty) ∷ mid) (with_variable x a)
bind_visits {vars = vars} {mid = mid} x ty {a = a} v n =
    record {
      kept = λ y h. has_with x ty mid y ∙ or_right (x == y) (has mid y) (v.kept y h);
      can = λ ks r. and_from (not (is_in x ks)) (a.can_visit (x ∷ ks)) (ap not (r.new x (outside v x n) comes)) (v.can (x ∷ ks) (ready_within ks r));
      binds = λ ks r y.
          (v.binds (x ∷ ks) (ready_within ks r) y ∙ exchanged (x == y) (is_in y ks) (has mid y) ∙ ap (λ b. is_in y ks || b) (sym (has_with x ty mid y)));
    }
  where
    comes : has ((x, ty) ∷ mid) x ≡ true
    comes = has_with x ty mid x ∙ or_left (x == x) (has mid x) (eq-eqb x x refl)

    ready_within : (ks : List ℕ) → IsReady vars ((x, ty) ∷ mid) ks → IsReady vars mid (x ∷ ks)
    ready_within ks r = grind (arith, common_steps, or_right, or_from, has_with)

-- 2. rules
module _ (p : Program) where
  abbrev pattern_walk : TypedPattern → PartVisit
  pattern_walk q = record { can_visit = is_visitable_pattern p.terms q; after = bound_after q }

  abbrev parts_walk : TypedPatterns → PartVisit
  parts_walk qs = record { can_visit = are_visitable_parts p.terms qs; after = bound_after_parts qs }

  abbrev list_walk : List TypedPattern → PartVisit
  list_walk qs = record { can_visit = are_visitable_list p.terms qs; after = bound_after_list qs }

  abbrev iflets_walk : List TypedIfLet → PartVisit
  iflets_walk is = record { can_visit = are_visitable_iflets p.terms is; after = bound_after_iflets is }

  -- a pattern at its type, and more after it
  then_rest : (q : TypedPattern) (b : Bool) (rest : List (ℕ × ℕ) → Option (List (ℕ × ℕ))) (vars more : List (ℕ × ℕ)) → (if b then then_option (formed_pattern p q vars) rest else None) ≡ Some more
      → (b ≡ true) × (mid : List (ℕ × ℕ)) × (formed_pattern p q vars ≡ Some mid) × (rest mid ≡ Some more)
  then_rest q b rest vars more f = grind (arith, common_steps, from_if, then_some)

  mutual
    pattern_visits : (q : TypedPattern) (vars more : List (ℕ × ℕ)) → formed_pattern p q vars ≡ Some more → Visits vars more (pattern_walk q)
    pattern_visits (match_bind ty x of) vars more f =
        let a = then_rest of (pattern_type of == ty) (with_new x ty) vars more f in
        let n = cond_some (is_none (var_type a.1 x)) ((x, ty) ∷ a.1) more a.3 in
        subst (λ vs. Visits vars vs (pattern_walk (match_bind ty x of))) n.1
        (bind_visits x ty (pattern_visits of vars a.1 a.2) (has_none (var_type a.1 x) n.0))
    pattern_visits (match_var ty x) vars more f = grind (arith, common_steps, from_if, unbound, has_type)
    pattern_visits (match_bool ty b) vars more f = unbound vars more (λ ks. true) (from_if (ty == bool_type) (Some vars) more f).1 (λ ks h. refl)
    pattern_visits (match_int ty z) vars more f = unbound vars more (λ ks. true) (from_if (is_literal_of (slice_get p.types ty) z) (Some vars) more f).1 (λ ks h. refl)
    pattern_visits (match_prim ty name) vars more f = unbound vars more (λ ks. true) (from_if (is_type (constant_type p name) ty) (Some vars) more f).1 (λ ks h. refl)
    pattern_visits (match_term ty term args) vars more f =
        let a = then_some (slice_get p.terms term) (λ (t : TermEntry). if (t.ret_ty == ty) && has_extractor t.kind then formed_parts p args t.arg_tys vars else None) more f in
        let b = from_if ((a.0.ret_ty == ty) && has_extractor a.0.kind) (formed_parts p args a.0.arg_tys vars) more a.2 in
        let r = parts_visit args a.0.arg_tys vars more b.1 in
        let opens : of_entry (slice_get p.terms term) (λ e. has_extractor e.kind && (length e.arg_tys == pattern_count args)) ≡ true =
        (grind (arith, common_steps, and_from, and_parts)) in
        record { kept = r.1.kept; can = λ ks h. and_from _ (are_visitable_parts p.terms args ks) opens (r.1.can ks h); binds = r.1.binds }
    pattern_visits (match_any ty) vars more f = unbound vars more (λ ks. true) f (λ ks h. refl)
    pattern_visits (match_and ty parts) vars more f = each_visit parts ty vars more f

    parts_visit : (qs : TypedPatterns) (tys : List ℕ) (vars more : List (ℕ × ℕ)) → formed_parts p qs tys vars ≡ Some more
        → (length tys ≡ pattern_count qs) × Visits vars more (parts_walk qs)
    parts_visit (typed_pattern_and q rest) (ty ∷ tys) vars more f =
        let a = then_rest q (pattern_type q == ty) (λ mid. formed_parts p rest tys mid) vars more f in
        let r = parts_visit rest tys a.1 more a.3 in
        (ap suc r.0, then_visits (pattern_visits q vars a.1 a.2) r.1)
    parts_visit qs tys vars more f = grind (arith, common_steps, unbound, none-some)

    each_visit : (qs : TypedPatterns) (ty : ℕ) (vars more : List (ℕ × ℕ)) → formed_each p qs ty vars ≡ Some more → Visits vars more (parts_walk qs)
    each_visit no_typed_pattern ty vars more f = unbound vars more (λ ks. true) f (λ ks h. refl)
    each_visit (typed_pattern_and q rest) ty vars more f =
        let a = then_rest q (pattern_type q == ty) (λ mid. formed_each p rest ty mid) vars more f in
        then_visits (pattern_visits q vars a.1 a.2) (each_visit rest ty a.1 more a.3)

  mutual
    expr_visits : (e : TypedExpr) (vars : List (ℕ × ℕ)) (ks : List ℕ) → is_formed_expr p e vars ≡ true → Holds vars ks → is_visitable_expr p.terms e ks ≡ true
    expr_visits (make_term ty term args) vars ks f h = grind (arith, common_steps, args_visit args, from_entry (slice_get p.terms term), from_entry, and_parts, and_from, eq-eqb)
    expr_visits (make_let ty defs body) vars ks f h =
        let a = from_vars (formed_lets p defs vars) (λ more. (expr_type body == ty) && is_formed_expr p body more) f in
        let r = lets_visit defs vars a.0 ks a.1 h in
        and_from (are_visitable_lets p.terms defs ks) (is_visitable_expr p.terms body (bound_after_lets defs ks)) r.0
        (expr_visits body a.0 (bound_after_lets defs ks) (and_parts (expr_type body == ty) (is_formed_expr p body a.0) a.2).1 r.1)
    expr_visits e vars ks f h = grind (arith, common_steps, has_type)

    args_visit : (es : TypedExprs) (tys : List ℕ) (vars : List (ℕ × ℕ)) (ks : List ℕ) → are_formed_args p es tys vars ≡ true → Holds vars ks
        → (length tys ≡ expr_count es) × (are_visitable_args p.terms es ks ≡ true)
    args_visit (typed_expr_and e rest) (ty ∷ tys) vars ks f h =
        let a = and_parts (is_formed_expr p e vars) (are_formed_args p rest tys vars) (and_parts (expr_type e == ty) (is_formed_expr p e vars && are_formed_args p rest tys vars) f).1 in
        let r = args_visit rest tys vars ks a.1 h in
        (ap suc r.0, and_from (is_visitable_expr p.terms e ks) (are_visitable_args p.terms rest ks) (expr_visits e vars ks a.0 h) r.1)
    args_visit es tys vars ks f h = grind (arith, common_steps)

    lets_visit : (ds : TypedLets) (vars more : List (ℕ × ℕ)) (ks : List ℕ) → formed_lets p ds vars ≡ Some more → Holds vars ks
        → (are_visitable_lets p.terms ds ks ≡ true) × Holds more (bound_after_lets ds ks)
    lets_visit no_typed_let vars more ks f h = (refl, subst (λ vs. Holds vs ks) (same_Some vars more f) h)
    lets_visit (typed_let_and x ty value rest) vars more ks f h =
        let a = from_if ((expr_type value == ty) && is_formed_expr p value vars) (then_option (with_new x ty vars) (λ after. formed_lets p rest after)) more f in
        let b = then_some (with_new x ty vars) (λ after. formed_lets p rest after) more a.1 in
        let n = cond_some (is_none (var_type vars x)) ((x, ty) ∷ vars) b.0 b.1 in
        let r = lets_visit rest b.0 more (x ∷ ks) b.2 (subst (λ vs. Holds vs (x ∷ ks)) n.1 (holds_with x ty vars ks h)) in
        (and_from (is_visitable_expr p.terms value ks) (are_visitable_lets p.terms rest (x ∷ ks)) (expr_visits value vars ks (and_parts (expr_type value == ty) (is_formed_expr p value vars) a.0).1 h) r.0, r.1)

  list_visits : (qs : List TypedPattern) (tys : List ℕ) (vars more : List (ℕ × ℕ)) → formed_list p qs tys vars ≡ Some more
      → (length tys ≡ length qs) × Visits vars more (list_walk qs)
  list_visits (q ∷ qs) (ty ∷ tys) vars more f =
      let a = then_rest q (pattern_type q == ty) (λ mid. formed_list p qs tys mid) vars more f in
      let r = list_visits qs tys a.1 more a.3 in
      (ap suc r.0, then_visits (pattern_visits q vars a.1 a.2) r.1)
  list_visits qs tys vars more f = grind (arith, common_steps, unbound, none-some)

  -- an if-let's expression is visited with what is bound before its pattern
  abbrev value_first : TypedExpr → PartVisit → PartVisit
  value_first e a = record { can_visit = λ ks. is_visitable_expr p.terms e ks && a.can_visit ks; after = a.after }

  value_visits : (e : TypedExpr) {vars more : List (ℕ × ℕ)} {a : PartVisit} → is_formed_expr p e vars ≡ true → Visits vars more a → Visits vars more (value_first e a)
  value_visits e {vars = vars} {a = a} f v = grind (arith, common_steps, and_from, expr_visits)

  iflets_visit : (is : List TypedIfLet) (vars more : List (ℕ × ℕ)) → formed_iflets p is vars ≡ Some more → Visits vars more (iflets_walk is)
  iflets_visit [] vars more f = unbound vars more (λ ks. true) f (λ ks h. refl)
  iflets_visit (i ∷ is) vars more f =
      let typed = is_formed_expr p i.rhs vars && (pattern_type i.lhs == expr_type i.rhs) in
      let a = then_rest i.lhs typed (λ mid. formed_iflets p is mid) vars more f in
      value_visits i.rhs
      (and_parts (is_formed_expr p i.rhs vars) (pattern_type i.lhs == expr_type i.rhs) a.0).0
      (then_visits (pattern_visits i.lhs vars a.1 a.2) (iflets_visit is a.1 more a.3))

ready_start : (vars : List (ℕ × ℕ)) → IsReady [] vars []
ready_start vars = record { bound = λ y h. h; new = λ y h k. refl }

pub formed_rules_can_be_visited : FormedRulesCanBeVisited
formed_rules_can_be_visited p r f =
    let a = from_entry (slice_get p.terms r.root_term) (λ (t : TermEntry). where_bound (then_option (formed_list p r.args t.arg_tys []) (formed_iflets p r.iflets)) (λ vars. (expr_type r.rhs == t.ret_ty) && is_formed_expr p r.rhs vars)) f in
    let b = from_vars (then_option (formed_list p r.args a.0.arg_tys []) (formed_iflets p r.iflets)) (λ vars. (expr_type r.rhs == a.0.ret_ty) && is_formed_expr p r.rhs vars) a.2 in
    let c = then_some (formed_list p r.args a.0.arg_tys []) (formed_iflets p r.iflets) b.0 b.1 in
    let args = list_visits p r.args a.0.arg_tys [] c.0 c.1 in
    let iflets = iflets_visit p r.iflets c.0 b.0 c.2 in
    let whole = then_visits args.1 iflets in
    let start = ready_start b.0 in
    let last = bound_after_iflets r.iflets (bound_after_list r.args []) in
    let visited = and_parts (are_visitable_list p.terms r.args []) (are_visitable_iflets p.terms r.iflets (bound_after_list r.args [])) (whole.can [] start) in
    and_from _ _ (ap (λ o. of_entry o (λ e. length e.arg_tys == length r.args)) a.1 ∙ eq-eqb (length a.0.arg_tys) (length r.args) args.0)
    (grind (arith, common_steps, at_end b.0 last (whole.binds [] start), and_from, expr_visits, and_parts))
  where
    at_end : (vars : List (ℕ × ℕ)) (ks : List ℕ) → ((y : ℕ) → is_in y ks ≡ (false || has vars y)) → Holds vars ks
    at_end vars ks same y h = same y ∙ h
