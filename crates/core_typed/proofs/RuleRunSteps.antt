-- A rule's run: what is bound after its parts, and how it is made of their runs.
use Rattle.std.proofs.Common.{◌≡◌, true≢false, ℕ, suc, ◌+◌, ◌<◌, IsTrue, length, get_or, drop, inl, inr, ⊎_elim, List, [], ◌∷◌, ◌++◌, Result, Ok, Err, MatchResult, is_ok, map, alloc_error, slice_get, is_some, Some, refl, sym, ap, ◌∙◌, subst, eqb-true, ◌==◌, arith}
use Rattle.std.proofs.lemmas.Bool.{and_parts}
use Rattle.std.proofs.lemmas.List.{drop_more, map-append}
use Rattle.std.specs.List.Sorted.{IsStrictlySortedBy}
use Rattle.std.specs.Ordering.{nat_cmp}
use Rattle.std.proofs.lemmas.Grind.{common_steps}
use Rattle.core_types.specs.declared.ids.TypeId.{TypeId}
use Rattle.model.specs.lists.Formed.{of_entry}
use Rattle.model.specs.lists.Setting.{expr_type}
use Rattle.model.specs.lists.Tables.{TermEntry}
use Rattle.model.specs.rules.Typed.{TypedPattern, TypedExpr, TypedIfLet, TypedRule}
use Rattle.model.specs.trees.Places.{is_in}
use Rattle.core_typed.specs.declared.patterns.Pattern.{Pattern}
use Rattle.core_typed.specs.declared.rules.IfLet.{IfLet}
use Rattle.core_typed.specs.declared.visitors.VisitedExpr.{VisitedExpr}
use Rattle.core_syntax.specs.declared.visit_fault.VisitFault.{VisitFault}
use Rattle.core_syntax.specs.declared.visit_fault.VisitFault.TheVariants.{Memory}
use Rattle.model.specs.visits.Visitors.{PatternSteps, ExprSteps, RuleSteps}
use Rattle.core_typed.specs.PatternViews.{pattern_view, pattern_views}
use Rattle.core_typed.specs.ExprViews.{expr_view}
use Rattle.core_typed.specs.RuleViews.{iflet_view}
use Rattle.model.specs.visits.PatternRuns.{PatternRun}
use Rattle.model.specs.visits.RuleRuns.{lent_binding, lent_valuing, PatternCall, ExchangeRun, ExprCall, ValueRun, ArgsRun, IfLetsRun, RuleRun}
use Rattle.model.specs.visits.ExprRuns.{entry_arg_types, ExprRun}
use Rattle.model.specs.lists.Visitable.{is_visitable_rule, bound_after, bound_after_list, bound_after_iflets, is_visitable_pattern, is_visitable_expr, are_visitable_list, are_visitable_iflets}
use Rattle.core_typed.specs.VisitAnswers.{type_numbers}
use Rattle.model.specs.visits.Runs.{BoundIds, answering, binds, bound_vars, lent_run, taking}
use Rattle.core_typed.specs.VisitorSteps.{no_memory, visited_of}
use Rattle.core_typed.proofs.BoundVars.{SameVars, after_same, pattern_same, expr_same}
use Rattle.core_typed.proofs.ExprRunSteps.{after_these}
use Rattle.core_typed.proofs.OrderedVars.{insert_last}
use Rattle.core_typed.proofs.PatternRunSteps.{run_binds}

abbrev ok_or : {A : Type 0} → A → Result A VisitFault → A
ok_or a (Ok x) = x
ok_or a (Err e) = a

pub same_ok : {A : Type 0} (x y : A) → ◌≡◌ {A = Result A VisitFault} (Ok x) (Ok y) → x ≡ y
same_ok x y h = ap (ok_or x) h

abbrev fault_or : {A : Type 0} → VisitFault → Result A VisitFault → VisitFault
fault_or e (Ok _) = e
fault_or e (Err z) = z

-- the fault of a variable that isn't bound
pub binds_fault : {P : Type 0} (x : ℕ) (id : P) (vs ws : BoundIds P) (f : VisitFault) → binds no_memory x id vs (Err f) ws → f ≡ Memory alloc_error
binds_fault x id vs ws f b = ⊎_elim (λ p. absurd (true≢false (sym (ap is_ok p.0)))) (λ p. ap (fault_or f) p.0) b

-- what can be visited depends on no more than which variables are bound
pub list_after_same : (qs : List TypedPattern) (ks ls : List ℕ) → SameVars ks ls → SameVars (bound_after_list qs ks) (bound_after_list qs ls)
list_after_same [] ks ls h = h
list_after_same (q ∷ rest) ks ls h = list_after_same rest (bound_after q ks) (bound_after q ls) (after_same q ks ls h)

pub iflets_after_same : (is : List TypedIfLet) (ks ls : List ℕ) → SameVars ks ls → SameVars (bound_after_iflets is ks) (bound_after_iflets is ls)
iflets_after_same [] ks ls h = h
iflets_after_same (i ∷ rest) ks ls h = iflets_after_same rest (bound_after i.lhs ks) (bound_after i.lhs ls) (after_same i.lhs ks ls h)

module _ (terms : List TermEntry) where
  pub list_same : (qs : List TypedPattern) (ks ls : List ℕ) → SameVars ks ls → are_visitable_list terms qs ks ≡ are_visitable_list terms qs ls
  list_same [] ks ls h = refl
  list_same (q ∷ rest) ks ls h = rw (pattern_same terms q ks ls h, list_same rest (bound_after q ks) (bound_after q ls) (after_same q ks ls h)) refl

  pub iflets_same : (is : List TypedIfLet) (ks ls : List ℕ) → SameVars ks ls → are_visitable_iflets terms is ks ≡ are_visitable_iflets terms is ls
  iflets_same [] ks ls h = refl
  iflets_same (i ∷ rest) ks ls h =
      rw (expr_same terms i.rhs ks ls h, pattern_same terms i.lhs ks ls h, iflets_same rest (bound_after i.lhs ks) (bound_after i.lhs ls) (after_same i.lhs ks ls h)) refl

  -- the next argument, and those that follow
  pub next_arg : (ps : List Pattern) (i : ℕ) (d : Pattern) (ks : List ℕ) → i < length ps → IsTrue (are_visitable_list terms (pattern_views (drop i ps)) ks) →
      IsTrue (is_visitable_pattern terms (pattern_view (get_or ps i d)) ks) × IsTrue (are_visitable_list terms (pattern_views (drop (i + 1) ps)) (bound_after (pattern_view (get_or ps i d)) ks))
  next_arg ps i d ks lt h = and_parts _ _ (subst (λ zs. IsTrue (are_visitable_list terms (pattern_views zs) ks)) (drop_more ps i d lt) h)

  -- the next if-let's expression and pattern, and those that follow
  pub next_iflet : (fs : List IfLet) (i : ℕ) (d : IfLet) (ks : List ℕ) → i < length fs → IsTrue (are_visitable_iflets terms (map iflet_view (drop i fs)) ks) →
      IsTrue (is_visitable_expr terms (expr_view (get_or fs i d).rhs) ks)
      × (IsTrue (is_visitable_pattern terms (pattern_view (get_or fs i d).lhs) ks) × IsTrue (are_visitable_iflets terms (map iflet_view (drop (i + 1) fs)) (bound_after (pattern_view (get_or fs i d).lhs) ks)))
  next_iflet fs i d ks lt h = grind (arith, common_steps, and_parts, drop_more)

module _ {S L M X P E : Type 0} (v : RuleSteps VisitFault S L M X P E) where
  pub exchange_step : (is rest : BoundIds P) (k : ℕ) (id : P) (x : E) (s u : S) (r : Result (BoundIds E) VisitFault) (t : S) →
      is ≡ (k, id) ∷ rest → v.pattern_as_expr_steps s id (Ok x) u → ExchangeRun no_memory v rest u r t → ExchangeRun no_memory v is s (after_these ((k, x) ∷ []) r) t
  exchange_step is rest k id x s u r t e first h = grind (arith, common_steps)

  pub exchange_stop : (is rest : BoundIds P) (k : ℕ) (id : P) (s : S) (f : VisitFault) (t : S) → is ≡ (k, id) ∷ rest → v.pattern_as_expr_steps s id (Err f) t → ExchangeRun no_memory v is s (Err f) t
  exchange_stop is rest k id s f t e first = rw e (inr (f, first, refl))

  pub exchange_refused : (is rest : BoundIds P) (k : ℕ) (id : P) (x : E) (s u : S) → is ≡ (k, id) ∷ rest → v.pattern_as_expr_steps s id (Ok x) u → ExchangeRun no_memory v is s (Err (Memory alloc_error)) u
  exchange_refused is rest k id x s u e first = rw e (inl (x, u, first, inl (refl, refl)))

  pub exchange_end : (is : BoundIds P) (s : S) → is ≡ [] → ExchangeRun no_memory v is s (Ok []) s
  exchange_end is s e = rw e (refl, refl)

  -- the same variables are exchanged
  pub exchange_binds : (vs : BoundIds P) (s : S) (ws : BoundIds E) (t : S) → ExchangeRun no_memory v vs s (Ok ws) t → bound_vars ws ≡ bound_vars vs
  exchange_binds [] s ws t h = ap bound_vars (same_ok ws [] h.0)
  exchange_binds (b ∷ rest) s ws t h = grind (arith, common_steps, exchange_binds rest, same_ok)

  -- one more of all variables
  pub exchanged_more : (values next : BoundIds E) (it rest all : BoundIds P) (k : ℕ) (id : P) (x : E) (a : Unit {0}) (r : Result (BoundIds E) VisitFault) →
      bound_vars values ++ bound_vars it ≡ bound_vars all → it ≡ (k, id) ∷ rest → IsStrictlySortedBy nat_cmp (bound_vars all) → binds no_memory k x values (Ok a) next →
      (after_these values (after_these ((k, x) ∷ []) r) ≡ after_these next r) × (bound_vars next ++ bound_vars rest ≡ bound_vars all)
  exchanged_more values next it rest all k id x a r done is sorted bound = grind (arith, common_steps, insert_last, after_these, map-append)

module _ {S L M X P E : Type 0} (v : RuleSteps VisitFault S L M X P E) (p : PatternSteps VisitFault L P) (q : ExprSteps VisitFault M E) (terms : List TermEntry) where
  -- a visitor that is lent for an expression runs its visit
  pub lends_value : (expr : TypedExpr) (ws : BoundIds E) (body : M → Result (VisitedExpr E) VisitFault → M → Type 0) (s : S) (r : Result X VisitFault) (t : S) →
      ((l : M) (a : Result (VisitedExpr E) VisitFault) (k : M) → body l a k → lent_valuing (ExprRun no_memory q terms expr ws) (expr_type expr) l (visited_of a) k) →
      lent_run (λ s r t. v.lend_expr_steps s r t) (λ l x s r t. v.take_expr_steps s l x.ty.0 x.value r t) (λ l s t. v.leave_expr_steps l s t) body s r t → ExprCall no_memory v p q terms expr ws s r t
  lends_value expr ws body s r t f h = grind (arith, common_steps)

  -- and one that is lent for a pattern
  pub lends_pattern : (pattern : TypedPattern) (input : P) (vs : BoundIds P) (body : L → Result (BoundIds P) VisitFault → L → Type 0) (s : S) (r : Result (BoundIds P) VisitFault) (t : S) →
      ((l : L) (a : Result (BoundIds P) VisitFault) (k : L) → body l a k → lent_binding (PatternRun no_memory p terms pattern input) vs l a k) →
      lent_run (λ s r t. v.lend_pattern_steps s r t) (taking (λ s l r t. v.take_pattern_steps s l r t)) (λ l s t. v.leave_pattern_steps l s t) body s r t →
      PatternCall no_memory v p q terms pattern input vs s r t
  lends_pattern pattern input vs body s r t f h = ⊎_elim (λ e. inl e) (λ c. inr (c.0, c.1, c.2, c.3, c.4, f c.0 c.2 c.3 c.5, c.6)) h

  -- what is bound after `add_pattern`
  pub call_binds : (pattern : TypedPattern) (input : P) (vs : BoundIds P) (s : S) (ws : BoundIds P) (t : S) → PatternCall no_memory v p q terms pattern input vs s (Ok ws) t → SameVars (bound_vars ws) (bound_after pattern (bound_vars vs))
  call_binds pattern input vs s ws t h = ⊎_elim (λ e. absurd (true≢false (ap is_ok e.2))) (λ c. of_body c.2 c.0 c.3 c.1 c.5 c.6) h
    where
      of_answer : (u : Result (Unit {0}) VisitFault) (xs : BoundIds P) → ◌≡◌ {A = Result (BoundIds P) VisitFault} (Ok ws) (answering xs u) → ws ≡ xs
      of_answer u xs e = grind (arith, common_steps, same_ok)

      of_body : (a : Result (BoundIds P) VisitFault) (l k : L) (g : S) → lent_binding (PatternRun no_memory p terms pattern input) vs l a k →
          MatchResult a (λ x. taking (λ s l r t. v.take_pattern_steps s l r t) k x g (Ok ws) t) (λ e. v.leave_pattern_steps k g t × (◌≡◌ {A = Result (BoundIds P) VisitFault} (Ok ws) (Err e))) →
          SameVars (bound_vars ws) (bound_after pattern (bound_vars vs))
      of_body (Ok xs) l k g body m = λ y. ap (λ zs. is_in y (bound_vars zs)) (of_answer m.0 xs m.2) ∙ run_binds p terms pattern input (l, vs) tt (k, xs) body y
      of_body (Err e) l k g body m = absurd (true≢false (ap is_ok m.1))

  pub args_step : (ps : List Pattern) (tys : List TypeId) (i : ℕ) (d : Pattern) (y : TypeId) (vs ws : BoundIds P) (x : P) (s u w : S) (r : Result (BoundIds P) VisitFault) (t : S) →
      i < length ps → i < length tys → v.arg_steps s i (get_or tys i y).0 (Ok x) u → PatternCall no_memory v p q terms (pattern_view (get_or ps i d)) x vs u (Ok ws) w →
      ArgsRun no_memory v p q terms (pattern_views (drop (i + 1) ps)) (type_numbers (drop (i + 1) tys)) (i + 1) ws w r t → ArgsRun no_memory v p q terms (pattern_views (drop i ps)) (type_numbers (drop i tys)) i vs s r t
  args_step ps tys i d y vs ws x s u w r t lt lt' first second rest = grind (arith, common_steps, drop_more)

  pub args_stop_arg : (ps : List Pattern) (tys : List TypeId) (i : ℕ) (d : Pattern) (y : TypeId) (vs : BoundIds P) (s : S) (f : VisitFault) (t : S) →
      i < length ps → i < length tys → v.arg_steps s i (get_or tys i y).0 (Err f) t → ArgsRun no_memory v p q terms (pattern_views (drop i ps)) (type_numbers (drop i tys)) i vs s (Err f) t
  args_stop_arg ps tys i d y vs s f t lt lt' first = rw (drop_more ps i d lt, drop_more tys i y lt') (inr (f, first, refl))

  pub args_stop : (ps : List Pattern) (tys : List TypeId) (i : ℕ) (d : Pattern) (y : TypeId) (vs : BoundIds P) (x : P) (s u : S) (f : VisitFault) (t : S) →
      i < length ps → i < length tys → v.arg_steps s i (get_or tys i y).0 (Ok x) u → PatternCall no_memory v p q terms (pattern_view (get_or ps i d)) x vs u (Err f) t →
      ArgsRun no_memory v p q terms (pattern_views (drop i ps)) (type_numbers (drop i tys)) i vs s (Err f) t
  args_stop ps tys i d y vs x s u f t lt lt' first second = rw (drop_more ps i d lt, drop_more tys i y lt') (inl (x, u, first, inr (f, second, refl)))

  pub iflets_step : (fs : List IfLet) (i : ℕ) (d : IfLet) (vs ws : BoundIds P) (e : X) (x : P) (s u w z : S) (r : Result (BoundIds P) VisitFault) (t : S) →
      i < length fs → ValueRun no_memory v p q terms (expr_view (get_or fs i d).rhs) vs s (Ok e) u → v.expr_as_pattern_steps u e (Ok x) w → PatternCall no_memory v p q terms (pattern_view (get_or fs i d).lhs) x vs w (Ok ws) z →
      IfLetsRun no_memory v p q terms (map iflet_view (drop (i + 1) fs)) ws z r t → IfLetsRun no_memory v p q terms (map iflet_view (drop i fs)) vs s r t
  iflets_step fs i d vs ws e x s u w z r t lt first second third rest = rw (drop_more fs i d lt) (inl (e, u, first, inl (x, w, second, inl (ws, z, third, rest))))

  pub iflets_stop_value : (fs : List IfLet) (i : ℕ) (d : IfLet) (vs : BoundIds P) (s : S) (f : VisitFault) (t : S) →
      i < length fs → ValueRun no_memory v p q terms (expr_view (get_or fs i d).rhs) vs s (Err f) t → IfLetsRun no_memory v p q terms (map iflet_view (drop i fs)) vs s (Err f) t
  iflets_stop_value fs i d vs s f t lt first = rw (drop_more fs i d lt) (inr (f, first, refl))

  pub iflets_stop_input : (fs : List IfLet) (i : ℕ) (d : IfLet) (vs : BoundIds P) (e : X) (s u : S) (f : VisitFault) (t : S) →
      i < length fs → ValueRun no_memory v p q terms (expr_view (get_or fs i d).rhs) vs s (Ok e) u → v.expr_as_pattern_steps u e (Err f) t → IfLetsRun no_memory v p q terms (map iflet_view (drop i fs)) vs s (Err f) t
  iflets_stop_input fs i d vs e s u f t lt first second = rw (drop_more fs i d lt) (inl (e, u, first, inr (f, second, refl)))

  pub iflets_stop_pattern : (fs : List IfLet) (i : ℕ) (d : IfLet) (vs : BoundIds P) (e : X) (x : P) (s u w : S) (f : VisitFault) (t : S) →
      i < length fs → ValueRun no_memory v p q terms (expr_view (get_or fs i d).rhs) vs s (Ok e) u → v.expr_as_pattern_steps u e (Ok x) w → PatternCall no_memory v p q terms (pattern_view (get_or fs i d).lhs) x vs w (Err f) t →
      IfLetsRun no_memory v p q terms (map iflet_view (drop i fs)) vs s (Err f) t
  iflets_stop_pattern fs i d vs e x s u w f t lt first second third = rw (drop_more fs i d lt) (inl (e, u, first, inl (x, w, second, inr (f, third, refl))))

  -- what is bound after all arguments, and after all if-lets
  pub args_bind : (ps : List TypedPattern) (tys : List ℕ) (i : ℕ) (vs : BoundIds P) (s : S) (ws : BoundIds P) (t : S) → ArgsRun no_memory v p q terms ps tys i vs s (Ok ws) t → SameVars (bound_vars ws) (bound_after_list ps (bound_vars vs))
  args_bind [] [] i vs s ws t h = λ y. ap (λ zs. is_in y (bound_vars zs)) (same_ok ws vs h.0)
  args_bind [] (ty ∷ tys) i vs s ws t h = absurd h
  args_bind (a ∷ rest) [] i vs s ws t h = absurd h
  args_bind (a ∷ rest) (ty ∷ tys) i vs s ws t h =
      ⊎_elim
      (λ c. ⊎_elim (λ d. λ y. args_bind rest tys (suc i) d.0 d.1 ws t d.3 y ∙ list_after_same rest (bound_vars d.0) (bound_after a (bound_vars vs)) (call_binds a c.0 vs c.1 d.0 d.1 d.2) y) (λ e. absurd (true≢false (ap is_ok e.2))) c.3)
      (λ e. absurd (true≢false (ap is_ok e.2)))
      h

  pub iflets_bind : (fs : List TypedIfLet) (vs : BoundIds P) (s : S) (ws : BoundIds P) (t : S) → IfLetsRun no_memory v p q terms fs vs s (Ok ws) t → SameVars (bound_vars ws) (bound_after_iflets fs (bound_vars vs))
  iflets_bind [] vs s ws t h = λ y. ap (λ zs. is_in y (bound_vars zs)) (same_ok ws vs h.0)
  iflets_bind (f ∷ rest) vs s ws t h =
      ⊎_elim
      (λ c.
      ⊎_elim
      (λ d. ⊎_elim (λ g. λ y. iflets_bind rest g.0 g.1 ws t g.3 y ∙ iflets_after_same rest (bound_vars g.0) (bound_after f.lhs (bound_vars vs)) (call_binds f.lhs d.0 vs d.1 g.0 g.1 g.2) y) (λ e. absurd (true≢false (ap is_ok e.2))) d.3)
      (λ e. absurd (true≢false (ap is_ok e.2)))
      c.3)
      (λ e. absurd (true≢false (ap is_ok e.2)))
      h

  -- the whole rule, where its term has these argument types
  types_of_root : (rule : TypedRule) (e : TermEntry) (tys : List TypeId) → slice_get terms rule.root_term ≡ Some e → e.arg_tys ≡ type_numbers tys → entry_arg_types (slice_get terms rule.root_term) ≡ type_numbers tys
  types_of_root rule e tys at is = ap entry_arg_types at ∙ is

  pub runs_rule : (rule : TypedRule) (e : TermEntry) (tys : List TypeId) (vs ws : BoundIds P) (s u w : S) (r : Result X VisitFault) (t : S) → slice_get terms rule.root_term ≡ Some e → e.arg_tys ≡ type_numbers tys →
      ArgsRun no_memory v p q terms rule.args (type_numbers tys) 0 [] s (Ok vs) u → IfLetsRun no_memory v p q terms rule.iflets vs u (Ok ws) w → ValueRun no_memory v p q terms rule.rhs ws w r t → RuleRun no_memory v p q terms rule s r t
  runs_rule rule e tys vs ws s u w r t at is first second third = grind (arith, common_steps, types_of_root)

  pub stops_iflets : (rule : TypedRule) (e : TermEntry) (tys : List TypeId) (vs : BoundIds P) (s u : S) (f : VisitFault) (t : S) → slice_get terms rule.root_term ≡ Some e → e.arg_tys ≡ type_numbers tys →
      ArgsRun no_memory v p q terms rule.args (type_numbers tys) 0 [] s (Ok vs) u → IfLetsRun no_memory v p q terms rule.iflets vs u (Err f) t → RuleRun no_memory v p q terms rule s (Err f) t
  stops_iflets rule e tys vs s u f t at is first second = grind (arith, common_steps, types_of_root)

-- what is asked of a rule's parts
pub record RuleParts (terms : List TermEntry) (r : TypedRule) : Type 0 where
  pub root : IsTrue (of_entry (slice_get terms r.root_term) (λ e. length e.arg_tys == length r.args))
  pub args : IsTrue (are_visitable_list terms r.args [])
  pub iflets : IsTrue (are_visitable_iflets terms r.iflets (bound_after_list r.args []))
  pub rhs : IsTrue (is_visitable_expr terms r.rhs (bound_after_iflets r.iflets (bound_after_list r.args [])))

pub parts_of_rule : (terms : List TermEntry) (r : TypedRule) → IsTrue (is_visitable_rule terms r) → RuleParts terms r
parts_of_rule terms r h = grind (arith, common_steps, and_parts)

pub known_root : (terms : List TermEntry) (r : TypedRule) → IsTrue (is_visitable_rule terms r) → IsTrue (is_some (slice_get terms r.root_term))
known_root terms r h = grind (arith, common_steps, parts_of_rule)

pub counts_root : (terms : List TermEntry) (r : TypedRule) (e : TermEntry) → IsTrue (is_visitable_rule terms r) → slice_get terms r.root_term ≡ Some e → length e.arg_tys ≡ length r.args
counts_root terms r e h at = eqb-true (length e.arg_tys) (length r.args) (subst (λ o. IsTrue (of_entry o (λ e. length e.arg_tys == length r.args))) at (parts_of_rule terms r h).root)
