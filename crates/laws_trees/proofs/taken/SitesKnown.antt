-- The sites of a built set have forms, and those of classes are values: what visits make, and what closing adds to it.
use Rattle.std.proofs.Common.{◌≡◌, ◌⊎◌, ℕ, zero, suc, Bool, true, false, cond, List, [], ◌∷◌, map, take, Option, Some, None, Contains, filter, flat_map, refl, sym, subst, inl, inr, arith}
use Rattle.std.proofs.lemmas.Bool.{cases_Bool, cond-true, cond-false}
use Rattle.std.specs.List.{zip}
use Rattle.std.proofs.lemmas.Grind.{common_steps}
use Rattle.model.specs.rules.Program.{Program}
use Rattle.model.specs.rules.Typed.{TypedRule}
use Rattle.model.specs.sites.Sites.{Constraint, SiteTerm, field_terms}
use Rattle.model.specs.visits.Demands.{Demands, demands_of, has_site, with_sites}
use Rattle.model.specs.sites.Closure.{Closed, class_at, is_in_class, next_constrained, ascending, field_equalities, taken, closing, before_closing, begins_with, in_order, most_closing_steps, closed, is_unreachable}
use Rattle.model.specs.sites.Limits.{RuleLimit, most_sites, passed_in_visit, sites_until, sites_reached, sites_after_rule, sites_after_rules}
use Rattle.model.specs.sites.Overlap.{BuiltRule, is_built, built_rule, built_from}
use Rattle.model.specs.sites.Serves.{asked}
use Rattle.model.proofs.Elements.{In, contains_from_in, in_left, in_either, in_slice, in_any, in_map, in_flat_map, from_flat_map, in_zip, in_filter, passed_filter, none_some, some_is}
use Rattle.model.proofs.SitesMade.{has_in}
use Rattle.laws_sites.proofs.Classes.{with_sites_in}
use Rattle.laws_sites.proofs.Closing.{closing_keeps}
use Rattle.laws_sites.proofs.ClosingGates.{Members, in_class_at, without_members, all_merged_members}
use Rattle.laws_sites.proofs.Patterns.{by_field}
use Rattle.laws_trees.proofs.taken.Fits.{IsField}
use Rattle.laws_trees.proofs.taken.Forms.{a_value, IsValue, HasSomeForm, AreKnown}

module _ (p : Program) (n : ℕ) (rs : List TypedRule) where
  -- a site that has a form, and is asked by the rules or is a field
  pub record Stands (u : SiteTerm) : Type 0 where
    pub form : HasSomeForm p n u
    pub asks : Contains (asked p rs) u ⊎ IsField u

  -- 1. fields of values
  field_value : (c : Constraint) (s u : SiteTerm) → IsValue p n s → In (field_terms c s) u → IsValue p n u × IsField u
  field_value c s u g = by_field (λ x. IsValue p n x × IsField x) s (λ k i. ((g, refl), tt)) (λ i. ((g, refl), tt)) c u

  -- 2. closing
  pub record IsKnownSoFar (k : Closed) : Type 0 where
    pub members : Members (IsValue p n) k.classes
    pub made : (u : SiteTerm) → In k.made u → Stands u

  next_in_class : (ks : List (List SiteTerm)) (cs : List (SiteTerm × Constraint)) (ss : List SiteTerm) (c : SiteTerm × Constraint) → next_constrained ks cs ss ≡ Some c → is_in_class ks c.0 ≡ true
  next_in_class ks cs [] c e = absurd (none_some c e)
  next_in_class ks cs (s ∷ ss) c e = grind (arith, common_steps, next_in_class ks cs ss c, some_is)

  constrained_value : (ks : List (List SiteTerm)) → Members (IsValue p n) ks → (s : SiteTerm) → is_in_class ks s ≡ true → IsValue p n s
  constrained_value ks h s i = let k = in_any (λ l. has_site l s) ks i in h k.0 s k.1 (has_in k.0 s k.2)

  taken_known : (k : Closed) → IsKnownSoFar k → (c : SiteTerm × Constraint) → IsValue p n c.0 → IsKnownSoFar (taken k c (ascending k.made (class_at k.classes c.0)))
  taken_known k f c g = record {
    members =
        all_merged_members (IsValue p n) (field_equalities c.1 (ascending k.made (class_at k.classes c.0))) _
        (without_members (IsValue p n) k.classes f.members c.0)
        (fields (ascending k.made (class_at k.classes c.0)) (λ m j. j));
    made = λ u i. elim (with_sites_in k.made (flat_map (field_terms c.1) (ascending k.made (class_at k.classes c.0))) u i) [
      | inl j ↦ f.made u j
      | inr j ↦
          let m = from_flat_map (field_terms c.1) (ascending k.made (class_at k.classes c.0)) u j in
          let v = field_value c.1 m.0 u (member m.0 m.1) m.2 in
          record { form = (a_value, v.0); asks = inr v.1 }
    ];
  }
    where
      member : (m : SiteTerm) → In (ascending k.made (class_at k.classes c.0)) m → IsValue p n m
      member m j = in_class_at (IsValue p n) k.classes f.members c.0 g m (has_in (class_at k.classes c.0) m (passed_filter (has_site (class_at k.classes c.0)) k.made m j))

      fields : (ms : List SiteTerm) → ((m : SiteTerm) → In ms m → In (ascending k.made (class_at k.classes c.0)) m) → (e : SiteTerm × SiteTerm) → In (field_equalities c.1 ms) e → IsValue p n e.0 × IsValue p n e.1
      fields [] h e j = absurd j
      fields (least ∷ rest) h e j =
          let m = from_flat_map (λ x. zip (field_terms c.1 least) (field_terms c.1 x)) rest e j in
          let z = in_zip (field_terms c.1 least) (field_terms c.1 m.0) e m.2 in
          ((field_value c.1 least e.0 (member least (h least (inl refl))) (in_slice (field_terms c.1 least) z.0 e.0 z.1)).0, (field_value c.1 m.0 e.1 (member m.0 (h m.0 (inr m.1))) (in_slice (field_terms c.1 m.0) z.0 e.1 z.2)).0)

  before_known : (before : List SiteTerm) → ((u : SiteTerm) → In before u → Stands u) → (d : Demands) → ((u : SiteTerm) → In d.made u → Stands u) → AreKnown p n d → IsKnownSoFar (before_closing before d)
  before_known before b d m h = record {
    members = all_merged_members (IsValue p n) d.equalities [] (λ k u i. absurd i) (λ e i. h.equal e i);
    made = λ u i. elim (with_sites_in before d.made u i) [ inl j ↦ b u j | inr j ↦ m u j ];
  }

  in_order_known : (k : Closed) → IsKnownSoFar k → IsKnownSoFar (in_order k)
  in_order_known k f = record {
    members = λ l a i m.
        let s = from_flat_map (λ u. filter (begins_with u) (map (ascending k.made) k.classes)) k.made l i in
        let w = in_map (ascending k.made) k.classes l (in_filter (begins_with s.0) (map (ascending k.made) k.classes) l s.2) in
        f.members w.0 a w.1 (has_in w.0 a (passed_filter (has_site w.0) k.made a (subst (λ q. In q a) (sym w.2) m)));
    made = f.made;
  }

  pub closed_known : (before : List SiteTerm) → ((u : SiteTerm) → In before u → Stands u) → (d : Demands) → ((u : SiteTerm) → In d.made u → Stands u) → AreKnown p n d → IsKnownSoFar (closed before d)
  closed_known before b d m h =
      in_order_known (closing most_closing_steps (before_closing before d))
      (closing_keeps IsKnownSoFar (λ k f c e. taken_known k f c (constrained_value k.classes f.members c.0 (next_in_class k.classes k.constraints k.made c e))) most_closing_steps (before_closing before d) (before_known before b d m h))

  -- 3. the sites of all rules
  from_take : (k : ℕ) (us : List SiteTerm) (u : SiteTerm) → In (take k us) u → In us u
  from_take zero us u i = absurd i
  from_take (suc k) [] u i = absurd i
  from_take (suc k) (x ∷ us) u (inl e) = inl e
  from_take (suc k) (x ∷ us) u (inr i) = inr (from_take k us u i)

  pub made_stands : (r : TypedRule) → In rs r → AreKnown p n (demands_of p r) → (u : SiteTerm) → In (demands_of p r).made u → Stands u
  made_stands r i h u j = grind (arith, common_steps, contains_from_in, in_flat_map, in_left)

  with_both : (ts us : List SiteTerm) → ((u : SiteTerm) → In ts u → Stands u) → ((u : SiteTerm) → In us u → Stands u) → (u : SiteTerm) → In (with_sites ts us) u → Stands u
  with_both ts us f g u i = elim (with_sites_in ts us u i) [ inl j ↦ f u j | inr j ↦ g u j ]

  rule_stands : (before : List SiteTerm) → ((u : SiteTerm) → In before u → Stands u) → (r : TypedRule) → In rs r → AreKnown p n (demands_of p r) → (u : SiteTerm) → In (sites_after_rule p before r) u → Stands u
  rule_stands before b r i h u j =
      by (passed_in_visit p r) (cases_Bool (is_unreachable (demands_of p r))) (from_take most_sites (sites_reached p before r) u j)
    where
      made : (x : SiteTerm) → In (demands_of p r).made x → Stands x
      made = made_stands r i h

      by : (o : Option (RuleLimit × ℕ)) → (is_unreachable (demands_of p r) ≡ true) ⊎ (is_unreachable (demands_of p r) ≡ false) → In (sites_until p before r o) u → Stands u
      by (Some passed) x k =
          with_both before (take passed.1 (demands_of p r).made) b (λ y l. made y (from_take passed.1 (demands_of p r).made y l)) u k
      by None (inl x) k =
          with_both before (demands_of p r).made b made u
          (subst (λ l. In l u) (cond-true (is_unreachable (demands_of p r)) (with_sites before (demands_of p r).made) (closed before (demands_of p r)).made x) k)
      by None (inr x) k =
          (closed_known before b (demands_of p r) made h).made u
          (subst (λ l. In l u) (cond-false (is_unreachable (demands_of p r)) (with_sites before (demands_of p r).made) (closed before (demands_of p r)).made x) k)

  pub rules_stand : (before : List SiteTerm) → ((u : SiteTerm) → In before u → Stands u) → (qs : List TypedRule) → ((r : TypedRule) → In qs r → In rs r × AreKnown p n (demands_of p r))
      → (u : SiteTerm) → In (sites_after_rules p before qs) u → Stands u
  rules_stand before b [] f u i = b u i
  rules_stand before b (r ∷ qs) f u i =
      rules_stand (sites_after_rule p before r) (rule_stands before b r (f r (inl refl)).0 (f r (inl refl)).1) qs (λ q j. f q (inr j)) u i

  -- the sites that stand before a rule that was built
  pub before_stands : (before : List SiteTerm) → ((u : SiteTerm) → In before u → Stands u) → (qs : List TypedRule) → ((r : TypedRule) → In qs r → In rs r × AreKnown p n (demands_of p r))
      → (b : BuiltRule) → In (built_from p before qs) b → (prior : List SiteTerm) × (r : TypedRule) × ((u : SiteTerm) → In prior u → Stands u) × In rs r × AreKnown p n (demands_of p r) × (built_rule p prior r ≡ b)
  before_stands before f [] g b i = absurd i
  before_stands before f (r ∷ qs) g b i =
      elim (in_either (cond (is_built p before r) (built_rule p before r ∷ []) []) (built_from p (sites_after_rule p before r) qs) b i) [
        | inl j ↦ (before, r, f, (g r (inl refl)).0, (g r (inl refl)).1, here (is_built p before r) j)
        | inr j ↦ before_stands (sites_after_rule p before r) (rule_stands before f r (g r (inl refl)).0 (g r (inl refl)).1) qs (λ q k. g q (inr k)) b j
      ]
    where
      here : (q : Bool) → In (cond q (built_rule p before r ∷ []) []) b → built_rule p before r ≡ b
      here true j = elim j [ inl e ↦ e | inr x ↦ absurd x ]
      here false j = absurd j
