-- What closing asks may be tested.
use Rattle.std.proofs.Common.{ℕ, true, not, List, [], ◌∷◌, ◌++◌, map, Contains, filter, refl, sym, subst, inl, inr, arith}
use Rattle.std.specs.List.{zip}
use Rattle.std.proofs.lemmas.Grind.{common_steps}
use Rattle.model.specs.sites.Sites.{Constraint, SiteTerm, field_terms}
use Rattle.model.specs.visits.Demands.{Demands, has_site}
use Rattle.model.specs.sites.Closure.{HasConstraint, IsUnreachable, Closed, class_at, without_class_of, merged_classes, merged_all, with_constraints, ascending, field_equalities, taken, closing, before_closing, begins_with, in_order, most_closing_steps, closed}
use Rattle.model.proofs.Elements.{In, in_from_contains, contains_from_in, in_left, in_right, in_either, in_slice, in_map, map_in, from_flat_map, in_zip, in_filter, passed_filter}
use Rattle.model.proofs.SitesMade.{has_in}
use Rattle.laws_sites.proofs.Closing.{closing_keeps, OneEach, constraints_in, in_constraints, constraints_kept, one_each, FollowsSoFar, in_class_joined, constraint_carried, next_asked, taken_follows, before_closing_follows, in_order_follows, from_constraints, keeps_all, one_demanded}
use Rattle.model.specs.sites.DemandedGates.{GatesDemanded, CanBeTested, ClosedCanBeTested}
use Rattle.laws_sites.proofs.Gates.{asking_of, gates_stay}
use Rattle.laws_sites.proofs.Patterns.{in_fields}

-- 1. members of classes
module _ (P : SiteTerm → Type 0) where
  -- a fact holds of all members
  abbrev pub Members : List (List SiteTerm) → Type 0
  Members ks = (k : List SiteTerm) (u : SiteTerm) → In ks k → In k u → P u

  pub in_class_at : (ks : List (List SiteTerm)) → Members ks → (s : SiteTerm) → P s → (u : SiteTerm) → In (class_at ks s) u → P u
  in_class_at [] h s g u i = elim i [ inl e ↦ subst P e g | inr n ↦ absurd n ]
  in_class_at (k ∷ ks) h s g u i = grind (arith, common_steps, in_class_at ks (λ l w j. h l w (inr j)) s g u)

  pub without_members : (ks : List (List SiteTerm)) → Members ks → (s : SiteTerm) → Members (without_class_of ks s)
  without_members ks h s k u i = h k u (in_filter (λ l. not (has_site l s)) ks k i)

  pub all_merged_members : (es : List (SiteTerm × SiteTerm)) (ks : List (List SiteTerm)) → Members ks → ((e : SiteTerm × SiteTerm) → In es e → P e.0 × P e.1) → Members (merged_all ks es)
  all_merged_members [] ks h f = h
  all_merged_members (e ∷ es) ks h f = all_merged_members es (merged_classes ks e) (grind (arith, common_steps, in_either, in_class_at, without_members)) (λ x i. f x (inr i))

-- 2. fields
-- the fields of a constrained site that may be tested may be tested
field_tested : (cs : List (SiteTerm × Constraint)) (calls : List SiteTerm) (c : Constraint) (s u : SiteTerm) → GatesDemanded true true cs calls s → Contains cs (s, c) → In (field_terms c s) u → GatesDemanded true true cs calls u
field_tested cs calls c s u g a i = grind (arith, common_steps, in_fields)

-- 3. the closing
module _ (d : Demands) (reachable : IsUnreachable d → ⊥) (tested : CanBeTested d) where
  -- so far all that is asked may be tested, and no constraint is lost
  record IsTestedSoFar (k : Closed) : Type 0 where
    follows : FollowsSoFar d k
    kept : (x : SiteTerm × Constraint) → In d.constraints x → In k.constraints x
    asked : (x : SiteTerm × Constraint) → In k.constraints x → GatesDemanded true true k.constraints d.iterators x.0
    equal : Members (GatesDemanded true true k.constraints d.iterators) k.classes

  taken_tested : (k : Closed) → IsTestedSoFar k → (c : SiteTerm × Constraint) → In k.constraints c → IsTestedSoFar (taken k c (ascending k.made (class_at k.classes c.0)))
  taken_tested k f c i = record {
    follows = taken_follows d k f.follows c i;
    kept = λ x j. keeps_all k.constraints each x (f.kept x j);
    asked = λ x j. elim (constraints_in k.constraints each x j) [
      | inl l ↦ stays x.0 (f.asked x l)
      | inr r ↦
          let m = in_map (λ (u : SiteTerm). (u, c.1)) (ascending k.made (class_at k.classes c.0)) x r in
          subst (λ (y : SiteTerm × Constraint). GatesDemanded true true (with_constraints k.constraints each) d.iterators y.0) m.2 (member m.0 m.1)
    ];
    equal =
        all_merged_members (GatesDemanded true true (with_constraints k.constraints each) d.iterators) (field_equalities c.1 (ascending k.made (class_at k.classes c.0))) (without_class_of k.classes c.0)
        (without_members (GatesDemanded true true (with_constraints k.constraints each) d.iterators) k.classes (λ l u a b. stays u (f.equal l u a b)) c.0)
        (fields (ascending k.made (class_at k.classes c.0)) (λ m j. j));
  }
    where
      each : List (SiteTerm × Constraint)
      each = map (λ m. (m, c.1)) (ascending k.made (class_at k.classes c.0))

      stays : (u : SiteTerm) → GatesDemanded true true k.constraints d.iterators u → GatesDemanded true true (with_constraints k.constraints each) d.iterators u
      stays =
          gates_stay (record { constraints = k.constraints; calls = d.iterators }) (record { constraints = with_constraints k.constraints each; calls = d.iterators })
          (record { constraints = λ x j. contains_from_in (with_constraints k.constraints each) x (keeps_all k.constraints each x (in_from_contains k.constraints x j)); calls = λ x j. j }) true true

      member : (m : SiteTerm) → In (ascending k.made (class_at k.classes c.0)) m → GatesDemanded true true (with_constraints k.constraints each) d.iterators m
      member m j = stays m (in_class_at (GatesDemanded true true k.constraints d.iterators) k.classes f.equal c.0 (f.asked c i) m (grind (arith, has_in, passed_filter)))

      due : (x : SiteTerm × Constraint) → In (k.constraints ++ each) x → HasConstraint d x.0 x.1
      due x j =
          elim (in_either k.constraints each x j) [
            | inl l ↦ f.follows.constraints x l
            | inr r ↦
                let m = in_map (λ (u : SiteTerm). (u, c.1)) (ascending k.made (class_at k.classes c.0)) x r in
                subst (λ (y : SiteTerm × Constraint). HasConstraint d y.0 y.1) m.2
                (constraint_carried d c.0 m.0 c.1 (in_class_joined d k.classes f.follows.classes c.0 m.0 (grind (arith, common_steps, has_in, passed_filter))) (f.follows.constraints c i))
          ]

      once : OneEach (k.constraints ++ each)
      once s a b m n = one_demanded d reachable s a b (due (s, a) m) (due (s, b) n)

      constrained : (m : SiteTerm) → In (ascending k.made (class_at k.classes c.0)) m → Contains (with_constraints k.constraints each) (m, c.1)
      constrained m j =
          contains_from_in (with_constraints k.constraints each) (m, c.1)
          (in_constraints (k.constraints ++ each) once k.constraints each (m, c.1)
          (λ y l. in_left k.constraints each y l) (λ y l. in_right k.constraints each y l) (inr (map_in (λ (u : SiteTerm). (u, c.1)) (ascending k.made (class_at k.classes c.0)) m j)))

      fields : (ms : List SiteTerm) → ((m : SiteTerm) → In ms m → In (ascending k.made (class_at k.classes c.0)) m) → (e : SiteTerm × SiteTerm) → In (field_equalities c.1 ms) e
          → GatesDemanded true true (with_constraints k.constraints each) d.iterators e.0 × GatesDemanded true true (with_constraints k.constraints each) d.iterators e.1
      fields [] g e j = absurd j
      fields (least ∷ rest) g e j =
          let m = from_flat_map (λ x. zip (field_terms c.1 least) (field_terms c.1 x)) rest e j in
          let z = in_zip (field_terms c.1 least) (field_terms c.1 m.0) e m.2 in
          let a = g least (inl refl) in
          let b = g m.0 (inr m.1) in (
            field_tested (with_constraints k.constraints each) d.iterators c.1 least e.0 (member least a) (constrained least a) (in_slice (field_terms c.1 least) z.0 e.0 z.1),
            field_tested (with_constraints k.constraints each) d.iterators c.1 m.0 e.1 (member m.0 b) (constrained m.0 b) (in_slice (field_terms c.1 m.0) z.0 e.1 z.2),
          )

  closing_tested : (n : ℕ) (k : Closed) → IsTestedSoFar k → IsTestedSoFar (closing n k)
  closing_tested = closing_keeps IsTestedSoFar (λ k f c e. taken_tested k f c (next_asked d k.classes k.constraints k.made c e))

  before_tested : (before : List SiteTerm) → IsTestedSoFar (before_closing before d)
  before_tested before = record {
    follows = before_closing_follows d before;
    kept = kept;
    asked = λ x i. stays x.0 (tested.asked x.0 x.1 (contains_from_in d.constraints x (from_constraints d.constraints x i)));
    equal = all_merged_members (GatesDemanded true true (with_constraints [] d.constraints) d.iterators) d.equalities [] (λ k u n. absurd n)
        (λ e i. let t = tested.equal e.0 e.1 (contains_from_in d.equalities e i) in (stays e.0 t.0, stays e.1 t.1));
  }
    where
      kept : (x : SiteTerm × Constraint) → In d.constraints x → In (with_constraints [] d.constraints) x
      kept = constraints_kept d.constraints (one_each d reachable)

      stays : (u : SiteTerm) → GatesDemanded true true d.constraints d.iterators u → GatesDemanded true true (with_constraints [] d.constraints) d.iterators u
      stays =
          gates_stay (asking_of d) (record { constraints = with_constraints [] d.constraints; calls = d.iterators })
          (record { constraints = λ x j. contains_from_in (with_constraints [] d.constraints) x (kept x (in_from_contains d.constraints x j)); calls = λ x j. j }) true true

  in_order_tested : (k : Closed) → IsTestedSoFar k → IsTestedSoFar (in_order k)
  in_order_tested k f = record {
    follows = in_order_follows d k f.follows;
    kept = f.kept;
    asked = f.asked;
    equal = λ l a i m.
        let s = from_flat_map (λ u. filter (begins_with u) (map (ascending k.made) k.classes)) k.made l i in
        let w = in_map (ascending k.made) k.classes l (in_filter (begins_with s.0) (map (ascending k.made) k.classes) l s.2) in
        f.equal w.0 a w.1 (has_in w.0 a (passed_filter (has_site w.0) k.made a (subst (λ q. In q a) (sym w.2) m)));
  }

  closed_tested : (before : List SiteTerm) → IsTestedSoFar (closed before d)
  closed_tested before = in_order_tested (closing most_closing_steps (before_closing before d)) (closing_tested most_closing_steps (before_closing before d) (before_tested before))

pub closing_keeps_gates_lem : (before : List SiteTerm) (d : Demands) → (IsUnreachable d → ⊥) → CanBeTested d
    → ((u : SiteTerm) (c : Constraint) → Contains d.constraints (u, c) → Contains (closed before d).constraints (u, c)) × ClosedCanBeTested d.iterators (closed before d)
closing_keeps_gates_lem before d n t =
    let f = closed_tested d n t before in (
      λ u c i. contains_from_in (closed before d).constraints (u, c) (f.kept (u, c) (in_from_contains d.constraints (u, c) i)),
      record {
        asked = λ u c i. f.asked (u, c) (in_from_contains (closed before d).constraints (u, c) i);
        equal = λ k u i m. f.equal k u (in_from_contains (closed before d).classes k i) (in_from_contains k u m);
      },
    )
