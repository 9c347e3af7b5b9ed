-- A rule meets each multi call after those that the call's arguments take answers of.
use Rattle.std.proofs.Common.{◌≡◌, ◌==◌, ℕ, zero, suc, Bool, true, false, cond, List, [], ◌∷◌, ◌++◌, Option, Some, Contains, sym, subst, inl, inr, arith}
use Rattle.std.proofs.lemmas.Bool.{cases_Bool, cond-true, cond-false, or_cases, false≢true}
use Rattle.std.proofs.lemmas.List.{append_assoc, append-nil}
use Rattle.std.proofs.lemmas.List.Elements.{Contains-append_left, Contains-append_right, Contains-append_cases}
use Rattle.std.proofs.lemmas.Grind.{common_steps}
use Rattle.model.specs.lists.Tables.{Flags}
use Rattle.model.specs.rules.Meaning.{look}
use Rattle.model.specs.rules.Program.{Program, Kind, a_variant, a_struct, a_call, unknown, kind, is_partial}
use Rattle.model.specs.sites.Sites.{Constraint, is_present, SiteTerm, argument, extractor_call, constructor_call, pick_of, variant_field, struct_field, some_part, tuple_part, SiteTerms, fields_from}
use Rattle.model.specs.visits.Demands.{site_term_eq, Visit, visit_start, making, asking, equating, iterating, calling, binding, or_no_site, var_site, Opened, output_sites, open_call, open_term, visit_pattern, visit_each, visit_all, Valued, ValuedAll, valued, call_result, call_sites, where_multi, visit_call, visit_term, visit_expr, visit_exprs, visit_lets, unwraps, asking_all, visit_args, visit_iflets, finished, demands_of, has_site, with_sites, taking_argument, outputs_opened, pattern_count}
use Rattle.model.specs.trees.Collects.{calls_in, calls_in_all}
use Rattle.model.specs.rules.Picks.{multi_calls}
use Rattle.model.specs.rules.Typed.{TypedPattern, match_bind, match_var, match_bool, match_int, match_prim, match_term, match_any, match_and, TypedPatterns, no_typed_pattern, typed_pattern_and, TypedExpr, make_term, make_var, make_bool, make_int, make_prim, make_let, TypedExprs, no_typed_expr, typed_expr_and, TypedLets, no_typed_let, typed_let_and, TypedIfLet, TypedRule}
use Rattle.model.proofs.Members.{nothing_in, in_head, in_tail, in_cases, in_alone}
use Rattle.laws_trees.specs.Orders.{Within, Covered, OrderedFrom}
use Rattle.model.proofs.SameSites.{term_means}
use Rattle.model.proofs.Either.{either}

-- 1. calls that stand in a list
pub none_within : (ls : List SiteTerm) → Within [] ls
none_within ls c h = absurd (nothing_in c h)

within_push : (ls : List SiteTerm) (s : SiteTerm) → Within ls (ls ++ s ∷ [])
within_push ls s c h = Contains-append_left ls (s ∷ []) c h

last_in : (ls : List SiteTerm) (s : SiteTerm) → Contains (ls ++ s ∷ []) s
last_in ls s = Contains-append_right ls (s ∷ []) s (in_head s [])

push : (ls xs : List SiteTerm) (c : SiteTerm) → OrderedFrom ls xs → Covered (ls ++ xs) c → OrderedFrom ls (xs ++ c ∷ [])
push ls [] c h k = (subst (λ l. Covered l c) (append-nil ls) k, tt)
push ls (x ∷ xs) c h k = (h.0, push (ls ++ x ∷ []) xs c h.1 (subst (λ l. Covered l c) (sym (append_assoc ls (x ∷ []) xs)) k))

has_contains : (ts : List SiteTerm) (s : SiteTerm) → has_site ts s ≡ true → Contains ts s
has_contains [] s h = absurd (false≢true h)
has_contains (t ∷ ts) s h = grind (arith, common_steps, has_contains ts s, or_cases (site_term_eq t s) (has_site ts s) h, term_means t s, in_head t ts, in_tail t s ts)

-- each call once, by first meeting, keeps the order
once_ordered : (ts ls rest : List SiteTerm) → Within ls ts → OrderedFrom [] ts → OrderedFrom ls rest → OrderedFrom [] (with_sites ts rest)
once_ordered ts ls [] w h g = h
once_ordered ts ls (s ∷ rest) w h g =
    elim (cases_Bool (has_site ts s)) [
      | inl e ↦
          subst (λ l. OrderedFrom [] (with_sites l rest)) (sym (cond-true (has_site ts s) ts (ts ++ s ∷ []) e))
          (once_ordered ts (ls ++ s ∷ []) rest (kept (has_contains ts s e)) h g.1)
      | inr e ↦
          subst (λ l. OrderedFrom [] (with_sites l rest)) (sym (cond-false (has_site ts s) ts (ts ++ s ∷ []) e))
          (once_ordered (ts ++ s ∷ []) (ls ++ s ∷ []) rest more (push [] ts s h (λ c k. w c (g.0 c k))) g.1)
    ]
  where
    kept : Contains ts s → Within (ls ++ s ∷ []) ts
    kept there c k = elim (Contains-append_cases ls (s ∷ []) c k) [ inl a ↦ w c a | inr b ↦ subst (Contains ts) (in_alone s c b) there ]

    more : Within (ls ++ s ∷ []) (ts ++ s ∷ [])
    more c k = elim (Contains-append_cases ls (s ∷ []) c k) [ inl a ↦ Contains-append_left ts (s ∷ []) c (w c a) | inr b ↦ Contains-append_right ts (s ∷ []) c b ]

-- 2. visits
abbrev pub met : Visit → List SiteTerm
met v = v.demands.iterators

pub record Fine (v : Visit) : Type 0 where
  pub order : OrderedFrom [] (met v)
  pub vars : (x : ℕ) → Covered (met v) (var_site v x)

-- after a visit: it is fine, and has all calls that were met before
pub record Follows (v w : Visit) : Type 0 where
  pub fine : Fine w
  pub kept : Within (met v) (met w)

stays : (v : Visit) → Fine v → Follows v v
stays v f = record { fine = f; kept = λ c h. h }

then_follows : (u v w : Visit) → Follows u v → Follows v w → Follows u w
then_follows u v w f g = record { fine = g.fine; kept = λ c h. g.kept c (f.kept c h) }

after_making : (ts : List SiteTerm) (v : Visit) → Fine v → Follows v (making ts v)
after_making ts v f = record { fine = record { order = f.order; vars = f.vars }; kept = λ c h. h }

after_asking : (s : SiteTerm) (d : Constraint) (v : Visit) → Fine v → Follows v (asking s d v)
after_asking s d v f = record { fine = record { order = f.order; vars = f.vars }; kept = λ c h. h }

after_calling : (s : SiteTerm) (v : Visit) → Fine v → Follows v (calling s v)
after_calling s v f = record { fine = record { order = f.order; vars = f.vars }; kept = λ c h. h }

after_iterating : (s : SiteTerm) (v : Visit) → Fine v → Covered (met v) s → Follows v (iterating s v)
after_iterating s v f h = record {
  fine = record { order = push [] (met v) s f.order h; vars = λ x c k. within_push (met v) s c (f.vars x c k) };
  kept = within_push (met v) s;
}

after_equating : (a b : SiteTerm) (v : Visit) → Fine v → Follows v (equating a b v)
after_equating a b v f = either (λ w. Follows v w) (site_term_eq a b) v _ (stays v f) (record { fine = record { order = f.order; vars = f.vars }; kept = λ c h. h })

found_covered : (ls : List SiteTerm) (b : Bool) (s : SiteTerm) (o : Option SiteTerm) → Covered ls s → Covered ls (or_no_site o) → Covered ls (or_no_site (cond b (Some s) o))
found_covered ls b s o h g = grind (arith, common_steps)

after_binding : (x : ℕ) (s : SiteTerm) (v : Visit) → Fine v → Covered (met v) s → Follows v (binding x s v)
after_binding x s v f h = record {
  fine = record { order = f.order; vars = λ y. found_covered (met v) (x == y) s (look (λ k. k == y) v.vars) h (f.vars y) };
  kept = λ c k. k;
}

-- 3. patterns
abbrev AllCovered : List SiteTerm → List SiteTerm → Type 0
AllCovered ls [] = Unit {0}
AllCovered ls (s ∷ ss) = Covered ls s × AllCovered ls ss

all_kept : (ls ms ss : List SiteTerm) → Within ls ms → AllCovered ls ss → AllCovered ms ss
all_kept ls ms [] w h = tt
all_kept ls ms (s ∷ ss) w h = ((λ c k. w c (h.0 c k)), all_kept ls ms ss w h.1)

fields_covered : (ls : List SiteTerm) (f : ℕ → SiteTerm) (i n : ℕ) → ((j : ℕ) → Covered ls (f j)) → AllCovered ls (fields_from f i n)
fields_covered ls f i zero h = tt
fields_covered ls f i (suc n) h = (h i, fields_covered ls f (suc i) n h)

outputs_covered : (ls : List SiteTerm) (s : SiteTerm) (qs : TypedPatterns) → Covered ls s → AllCovered ls (output_sites s qs)
outputs_covered ls s no_typed_pattern h = tt
outputs_covered ls s (typed_pattern_and q no_typed_pattern) h = (h, tt)
outputs_covered ls s (typed_pattern_and q (typed_pattern_and r rs)) h = fields_covered ls (tuple_part s) 0 (pattern_count (typed_pattern_and q (typed_pattern_and r rs))) (λ j. h)

pub record OpensWell (v : Visit) (o : Opened) : Type 0 where
  pub follows : Follows v o.visit
  pub inputs : AllCovered (met o.visit) o.inputs

-- the answer of a call that was just met
picked_covered : (ls : List SiteTerm) (call : SiteTerm) → Covered ls call → Covered (ls ++ call ∷ []) (pick_of call)
picked_covered ls call h c k = grind (arith, common_steps, in_cases call c (calls_in call) k, last_in ls call, within_push ls call c)

call_opens : (flags : Flags) (infallible : Bool) (call : SiteTerm) (args : TypedPatterns) (v : Visit) → Fine v → Covered (met v) call → OpensWell v (open_call flags infallible call args v)
call_opens flags infallible call args v f h =
    either (λ o. OpensWell v o) flags.multi _ _ over (either (λ o. OpensWell v o) infallible _ _ plain asked)
  where
    over : OpensWell v (outputs_opened (pick_of call) args (iterating call (making (call ∷ (pick_of call ∷ [])) v)))
    over =
        let m = after_making (call ∷ (pick_of call ∷ [])) v f in
        let g = after_iterating call (making (call ∷ (pick_of call ∷ [])) v) m.fine h in
        record { follows = record { fine = record { order = g.fine.order; vars = g.fine.vars }; kept = g.kept }; inputs = outputs_covered (met v ++ call ∷ []) (pick_of call) args (picked_covered (met v) call h) }

    plain : OpensWell v (outputs_opened call args (making (call ∷ []) v))
    plain = record { follows = record { fine = record { order = f.order; vars = f.vars }; kept = λ c k. k }; inputs = outputs_covered (met v) call args h }

    asked : OpensWell v (outputs_opened (some_part call) args (asking call is_present (making (call ∷ (some_part call ∷ [])) v)))
    asked = record { follows = record { fine = record { order = f.order; vars = f.vars }; kept = λ c k. k }; inputs = outputs_covered (met v) (some_part call) args h }

term_opens : (k : Kind) (t : ℕ) (s : SiteTerm) (args : TypedPatterns) (v : Visit) → Fine v → Covered (met v) s → OpensWell v (open_term k t s args v)
term_opens (a_variant ty variant) t s args v f h = grind (arith, common_steps, fields_covered (met v) (variant_field s variant) 0 (pattern_count args) (λ j. h))
term_opens (a_struct ty) t s args v f h = grind (arith, common_steps, fields_covered (met v) (struct_field s) 0 (pattern_count args) (λ j. h))
term_opens (a_call flags infallible) t s args v f h = call_opens flags infallible (extractor_call t s) args v f h
term_opens unknown t s args v f h = record { follows = stays v f; inputs = tt }

module _ (p : Program) where
  mutual
    pattern_follows : (q : TypedPattern) (s : SiteTerm) (v : Visit) → Fine v → Covered (met v) s → Follows v (visit_pattern p q s v)
    pattern_follows (match_bind ty x sub) s v f h =
        let b = after_binding x s v f h in then_follows v (binding x s v) (visit_pattern p sub s (binding x s v)) b (pattern_follows sub s (binding x s v) b.fine h)
    pattern_follows (match_var ty x) s v f h = after_equating s (var_site v x) v f
    pattern_follows (match_bool ty b) s v f h = after_asking s _ v f
    pattern_follows (match_int ty z) s v f h = after_asking s _ v f
    pattern_follows (match_prim ty name) s v f h = after_asking s _ v f
    pattern_follows (match_term ty t args) s v f h = grind (arith, common_steps, each_follows args, term_opens (kind p t) t s args v f h, then_follows v)
    pattern_follows (match_any ty) s v f h = stays v f
    pattern_follows (match_and ty subs) s v f h = all_follow subs s v f h

    each_follows : (qs : TypedPatterns) (ss : List SiteTerm) (v : Visit) → Fine v → AllCovered (met v) ss → Follows v (visit_each p qs ss v)
    each_follows no_typed_pattern ss v f h = stays v f
    each_follows (typed_pattern_and q qs) [] v f h = stays v f
    each_follows (typed_pattern_and q qs) (s ∷ ss) v f h =
        let g = pattern_follows q s v f h.0 in
        then_follows v (visit_pattern p q s v) (visit_each p qs ss (visit_pattern p q s v)) g
        (each_follows qs ss (visit_pattern p q s v) g.fine (all_kept (met v) (met (visit_pattern p q s v)) ss g.kept h.1))

    all_follow : (qs : TypedPatterns) (s : SiteTerm) (v : Visit) → Fine v → Covered (met v) s → Follows v (visit_all p qs s v)
    all_follow no_typed_pattern s v f h = stays v f
    all_follow (typed_pattern_and q qs) s v f h =
        let g = pattern_follows q s v f h in
        then_follows v (visit_pattern p q s v) (visit_all p qs s (visit_pattern p q s v)) g
        (all_follow qs s (visit_pattern p q s v) g.fine (λ c k. g.kept c (h c k)))

-- 4. expressions
pub record ValuesWell (v : Visit) (a : Valued) : Type 0 where
  pub follows : Follows v a.visit
  pub covered : Covered (met a.visit) a.site

pub record ValuesAllWell (v : Visit) (a : ValuedAll) : Type 0 where
  pub follows : Follows v a.visit
  pub covered : Within (calls_in_all a.sites) (met a.visit)

then_values : (u v : Visit) (a : Valued) → Follows u v → ValuesWell v a → ValuesWell u a
then_values u v a f g = record { follows = then_follows u v a.visit f g.follows; covered = g.covered }

-- a call is met, where it is multi, before an answer of it is taken
result_well : (partial multi : Bool) (call : SiteTerm) (v : Visit) → Fine v → Covered (met v) call
    → ValuesWell v (valued (cond partial (some_part call) (cond multi (pick_of call) call)) (cond multi (iterating call v) v))
result_well true true call v f h = let g = after_iterating call v f h in record { follows = g; covered = λ c k. g.kept c (h c k) }
result_well true false call v f h = record { follows = stays v f; covered = h }
result_well false true call v f h = record { follows = after_iterating call v f h; covered = picked_covered (met v) call h }
result_well false false call v f h = record { follows = stays v f; covered = h }

call_well : (flags : Flags) (t : ℕ) (args : SiteTerms) (v : Visit) → Fine v → Within (calls_in_all args) (met v) → ValuesWell v (visit_call flags t args v)
call_well flags t args v f h = either (λ a. ValuesWell v a) flags.pure _ _ (pure (constructor_call t args 0) h) (impure (constructor_call t args (suc v.impure_calls)) h)
  where
    pure : (call : SiteTerm) → Covered (met v) call → ValuesWell v (valued (call_result flags call) (where_multi flags call (making (call_sites flags call) v)))
    pure call k =
        let m = after_making (call_sites flags call) v f in
        let w = making (call_sites flags call) v in
        then_values v w (valued (call_result flags call) (where_multi flags call w)) m (result_well flags.partial flags.multi call w m.fine k)

    impure : (call : SiteTerm) → Covered (met v) call → ValuesWell v (valued (call_result flags call) (calling (call_result flags call) (where_multi flags call (making (call_sites flags call) v))))
    impure call k =
        let a = pure call k in
        let c = after_calling (call_result flags call) (where_multi flags call (making (call_sites flags call) v)) a.follows.fine in
        record { follows = then_follows v (where_multi flags call (making (call_sites flags call) v)) (calling (call_result flags call) (where_multi flags call (making (call_sites flags call) v))) a.follows c; covered = a.covered }

term_well : (k : Kind) (t : ℕ) (u : Visit) (a : ValuedAll) → ValuesAllWell u a → ValuesWell u (visit_term k t a)
term_well (a_variant ty variant) t u a h = record { follows = then_follows u a.visit _ h.follows (after_making _ a.visit h.follows.fine); covered = h.covered }
term_well (a_struct ty) t u a h = record { follows = then_follows u a.visit _ h.follows (after_making _ a.visit h.follows.fine); covered = h.covered }
term_well (a_call flags infallible) t u a h = then_values u a.visit (visit_call flags t a.sites a.visit) h.follows (call_well flags t a.sites a.visit h.follows.fine h.covered)
term_well unknown t u a h = record { follows = h.follows; covered = none_within (met a.visit) }

module _ (p : Program) where
  mutual
    expr_well : (x : TypedExpr) (v : Visit) → Fine v → ValuesWell v (visit_expr p x v)
    expr_well (make_term ty t args) v f = term_well (kind p t) t v (visit_exprs p args v) (exprs_well args v f)
    expr_well (make_var ty x) v f = record { follows = stays v f; covered = f.vars x }
    expr_well (make_bool ty b) v f = record { follows = after_making _ v f; covered = none_within (met v) }
    expr_well (make_int ty z) v f = record { follows = after_making _ v f; covered = none_within (met v) }
    expr_well (make_prim ty name) v f = record { follows = after_making _ v f; covered = none_within (met v) }
    expr_well (make_let ty defs body) v f =
        let l = lets_follow defs v f in then_values v (visit_lets p defs v) (visit_expr p body (visit_lets p defs v)) l (expr_well body (visit_lets p defs v) l.fine)

    exprs_well : (xs : TypedExprs) (v : Visit) → Fine v → ValuesAllWell v (visit_exprs p xs v)
    exprs_well no_typed_expr v f = record { follows = stays v f; covered = none_within (met v) }
    exprs_well (typed_expr_and x xs) v f =
        let a = expr_well x v f in
        let b = exprs_well xs (visit_expr p x v).visit a.follows.fine in
        record {
          follows = then_follows v (visit_expr p x v).visit (visit_exprs p xs (visit_expr p x v).visit).visit a.follows b.follows;
          covered = λ c k.
              elim (Contains-append_cases (calls_in (visit_expr p x v).site) (calls_in_all (visit_exprs p xs (visit_expr p x v).visit).sites) c k) [
                | inl n ↦ b.follows.kept c (a.covered c n)
                | inr n ↦ b.covered c n
              ];
        }

    lets_follow : (xs : TypedLets) (v : Visit) → Fine v → Follows v (visit_lets p xs v)
    lets_follow no_typed_let v f = stays v f
    lets_follow (typed_let_and x ty value rest) v f =
        let a = expr_well value v f in
        let w = visit_expr p value v in
        let b = after_binding x w.site w.visit a.follows.fine a.covered in
        then_follows v w.visit (visit_lets p rest (binding x w.site w.visit)) a.follows
        (then_follows w.visit (binding x w.site w.visit) (visit_lets p rest (binding x w.site w.visit)) b (lets_follow rest (binding x w.site w.visit) b.fine))

  -- 5. rules
  asking_follows : (ss : List SiteTerm) (v : Visit) → Fine v → Follows v (asking_all ss v)
  asking_follows [] v f = stays v f
  asking_follows (s ∷ ss) v f = grind (arith, common_steps, asking_follows ss (asking s is_present v), after_asking, then_follows)

  args_follow : (i : ℕ) (qs : List TypedPattern) (v : Visit) → Fine v → Fine (visit_args p i qs v)
  args_follow i [] v f = f
  args_follow i (q ∷ qs) v f =
      let m = after_making (argument i ∷ []) v f in
      let g = pattern_follows p q (argument i) (taking_argument i v) (record { order = m.fine.order; vars = m.fine.vars }) (none_within (met v)) in
      args_follow (suc i) qs (visit_pattern p q (argument i) (taking_argument i v)) g.fine

  iflets_follow : (is : List TypedIfLet) (v : Visit) → Fine v → Fine (visit_iflets p is v)
  iflets_follow [] v f = f
  iflets_follow (i ∷ rest) v f =
      let a = expr_well i.rhs v f in
      let w = visit_expr p i.rhs v in
      let b = asking_follows (unwraps w.site) w.visit a.follows.fine in
      let g = pattern_follows p i.lhs w.site (asking_all (unwraps w.site) w.visit) b.fine (λ c k. b.kept c (a.covered c k)) in
      iflets_follow rest (visit_pattern p i.lhs w.site (asking_all (unwraps w.site) w.visit)) g.fine

  start_fine : Fine visit_start
  start_fine = record { order = tt; vars = λ x. none_within [] }

  finished_ordered : (b : Bool) (a : Valued) → OrderedFrom [] (met a.visit) → OrderedFrom [] (met (finished b a).visit)
  finished_ordered b a h = grind (arith, common_steps)

  pub calls_ordered : (r : TypedRule) → OrderedFrom [] (multi_calls p r)
  calls_ordered r =
      let left = iflets_follow r.iflets (visit_args p 0 r.args visit_start) (args_follow 0 r.args visit_start start_fine) in
      let right = expr_well r.rhs (visit_iflets p r.iflets (visit_args p 0 r.args visit_start)) left in
      once_ordered [] [] (demands_of p r).iterators (λ c h. h) tt
      (finished_ordered (is_partial p r.root_term) (visit_expr p r.rhs (visit_iflets p r.iflets (visit_args p 0 r.args visit_start))) right.follows.fine.order)
