-- Closing demands without equalities adds nothing; closing never asks what doesn't follow.
use Rattle.std.proofs.Common.{◌≡◌, ◌⊎◌, ◌↔◌, ℕ, zero, suc, not, List, [], ◌∷◌, ◌++◌, map, Some, None, is_some, Contains, filter, flat_map, refl, sym, ap, ◌∙◌, subst, inl, inr, arith}
use Rattle.std.proofs.lemmas.Bool.{cases_Bool, cond-true, cond-false}
use Rattle.std.specs.List.{zip}
use Rattle.std.proofs.lemmas.Grind.{common_steps}
use Rattle.model.specs.sites.Sites.{Constraint, SiteTerm, field_terms}
use Rattle.model.specs.visits.Demands.{Demands, has_site, with_sites}
use Rattle.model.specs.sites.Closure.{Joined, given, itself, turned, chained, at_field, HasConstraint, IsUnreachable, two_at_a_site, constraint_of, Closed, class_at, without_class_of, merged_classes, merged_all, with_constraint, with_constraints, ascending, next_constrained, field_equalities, taken, closing, before_closing, begins_with, in_order, most_closing_steps, closed, two_in_a_class}
use Rattle.laws_sites.specs.ClosureLaws.{ClosedFollows, HasEnded}
use Rattle.model.proofs.Elements.{In, in_from_contains, contains_from_in, some_is, none_some, in_left, in_right, in_either, in_map, from_flat_map, in_zip, in_filter, passed_filter}
use Rattle.model.proofs.SameSites.{term_means, constraint_cases}
use Rattle.model.proofs.SitesMade.{has_in}
use Rattle.model.proofs.Options.{is_there}

nothing_next : (cs : List (SiteTerm × Constraint)) (order : List SiteTerm) → next_constrained [] cs order ≡ None
nothing_next cs [] = refl
nothing_next cs (s ∷ ss) = grind (arith, common_steps, nothing_next cs ss)

pub closing_ends : (n : ℕ) (k : Closed) → next_constrained k.classes k.constraints k.made ≡ None → closing n k ≡ k
closing_ends n k e = grind (arith, common_steps)

no_classes : (order made : List SiteTerm) → flat_map (λ s. filter (begins_with s) (map (ascending made) [])) order ≡ []
no_classes [] made = refl
no_classes (s ∷ ss) made = no_classes ss made

-- demands without equalities are closed before the closing
abbrev unclosed : List SiteTerm → Demands → Closed
unclosed before d = record { constraints = with_constraints [] d.constraints; classes = []; made = with_sites before d.made }

stays : (before : List SiteTerm) (d : Demands) → d.equalities ≡ [] → closing most_closing_steps (before_closing before d) ≡ unclosed before d
stays before d e = ap (closing most_closing_steps) opened ∙ closing_ends most_closing_steps (unclosed before d) (nothing_next (with_constraints [] d.constraints) (with_sites before d.made))
  where
    opened : before_closing before d ≡ record { constraints = with_constraints [] d.constraints; classes = []; made = with_sites before d.made }
    opened = λ i. record { constraints = with_constraints [] d.constraints; classes = merged_all [] (e i); made = with_sites before d.made }

pub closing_adds_nothing_lem : (before : List SiteTerm) (d : Demands) → d.equalities ≡ []
    → closed before d ≡ record { constraints = with_constraints [] d.constraints; classes = []; made = with_sites before d.made }
closing_adds_nothing_lem before d e = grind (arith, common_steps, stays before d e, no_classes (with_sites before d.made) (with_sites before d.made))

pub plain_closing_ends_lem : (before : List SiteTerm) (d : Demands) → d.equalities ≡ [] → HasEnded (closing most_closing_steps (before_closing before d))
plain_closing_ends_lem before d e = subst HasEnded (sym (stays before d e)) (nothing_next (with_constraints [] d.constraints) (with_sites before d.made))

pub found_constraint : (cs : List (SiteTerm × Constraint)) (s : SiteTerm) (c : Constraint) → constraint_of cs s ≡ Some c → In cs (s, c)
found_constraint [] s c e = absurd (none_some c e)
found_constraint (d ∷ ds) s c e = grind (arith, common_steps, found_constraint ds s c, term_means d.0 s, some_is d.1 c)

pub constraints_in : (cs ds : List (SiteTerm × Constraint)) (x : SiteTerm × Constraint) → In (with_constraints cs ds) x → In cs x ⊎ In ds x
constraints_in cs [] x i = inl i
constraints_in cs (d ∷ ds) x i = grind (arith, common_steps, constraints_in (with_constraint cs d) ds x i, in_either)

-- constraints stay
pub keeps_one : (cs : List (SiteTerm × Constraint)) (c x : SiteTerm × Constraint) → In cs x → In (with_constraint cs c) x
keeps_one cs c x i = grind (arith, common_steps, in_left)

pub keeps_all : (cs ds : List (SiteTerm × Constraint)) (x : SiteTerm × Constraint) → In cs x → In (with_constraints cs ds) x
keeps_all cs [] x i = i
keeps_all cs (d ∷ ds) x i = keeps_all (with_constraint cs d) ds x (keeps_one cs d x i)

-- a site of demands that can be met must meet one constraint at most
pub one_demanded : (d : Demands) → (IsUnreachable d → ⊥) → (s : SiteTerm) (a b : Constraint) → HasConstraint d s a → HasConstraint d s b → a ≡ b
one_demanded d reachable s a b h k = elim (constraint_cases a b) [ inl e ↦ e | inr n ↦ absurd (reachable (two_in_a_class s a b h k n)) ]

-- no site has two constraints in a list
abbrev pub OneEach : List (SiteTerm × Constraint) → Type 0
OneEach cs = (s : SiteTerm) (a b : Constraint) → In cs (s, a) → In cs (s, b) → a ≡ b

module _ (all : List (SiteTerm × Constraint)) (once : OneEach all) where
  one_kept : (cs : List (SiteTerm × Constraint)) (c x : SiteTerm × Constraint) → ((y : SiteTerm × Constraint) → In cs y → In all y) → In all c → In cs x ⊎ (c ≡ x) → In (with_constraint cs c) x
  one_kept cs c x within m h =
      elim (cases_Bool (is_some (constraint_of cs c.0))) [
        | inl t ↦
            let o = is_there (constraint_of cs c.0) t in
            let i = found_constraint cs c.0 o.0 o.1 in
            let same : o.0 ≡ c.1 = once c.0 o.0 c.1 (within (c.0, o.0) i) m in
            subst (λ l. In l x) (sym (cond-true (is_some (constraint_of cs c.0)) cs (cs ++ c ∷ []) t))
            (elim h [ inl j ↦ j | inr e ↦ subst (In cs) e (subst (λ k. In cs (c.0, k)) same i) ])
        | inr f ↦ grind (arith, common_steps, in_left cs (c ∷ []) x, in_right cs (c ∷ []) x)
      ]

  pub in_constraints : (cs ds : List (SiteTerm × Constraint)) (x : SiteTerm × Constraint) → ((y : SiteTerm × Constraint) → In cs y → In all y) → ((y : SiteTerm × Constraint) → In ds y → In all y)
      → In cs x ⊎ In ds x → In (with_constraints cs ds) x
  in_constraints cs [] x f g h = elim h [ inl i ↦ i | inr n ↦ absurd n ]
  in_constraints cs (d ∷ ds) x f g h = grind (arith, common_steps, in_constraints (with_constraint cs d) ds x, one_kept, in_either)

-- each constraint of a list in which no site has two is kept
pub constraints_kept : (ds : List (SiteTerm × Constraint)) → OneEach ds → (x : SiteTerm × Constraint) → In ds x → In (with_constraints [] ds) x
constraints_kept ds once x i = in_constraints ds once [] ds x (λ y n. absurd n) (λ y j. j) (inr i)

pub from_constraints : (ds : List (SiteTerm × Constraint)) (x : SiteTerm × Constraint) → In (with_constraints [] ds) x → In ds x
from_constraints ds x i = elim (constraints_in [] ds x i) [ inl n ↦ absurd n | inr j ↦ j ]

pub one_each : (d : Demands) → (IsUnreachable d → ⊥) → OneEach d.constraints
one_each d n s a b i j =
    elim (constraint_cases a b) [
      | inl e ↦ e
      | inr m ↦ absurd (n (two_at_a_site s a b (contains_from_in d.constraints (s, a) i) (contains_from_in d.constraints (s, b) j) m))
    ]

-- what each step of the closing keeps, the closing keeps
pub closing_keeps : (P : Closed → Type 0)
    → ((k : Closed) → P k → (c : SiteTerm × Constraint) → next_constrained k.classes k.constraints k.made ≡ Some c → P (taken k c (ascending k.made (class_at k.classes c.0))))
    → (n : ℕ) (k : Closed) → P k → P (closing n k)
closing_keeps P step zero k h = h
closing_keeps P step (suc n) k h = grind (arith, common_steps, closing_keeps P step n)

-- what closing asks follows from the demands
module _ (d : Demands) where
  -- each constraint must be met, and the members of a class must be equal
  abbrev pub AreDue : List (SiteTerm × Constraint) → Type 0
  AreDue cs = (x : SiteTerm × Constraint) → In cs x → HasConstraint d x.0 x.1

  abbrev pub AreJoined : List (List SiteTerm) → Type 0
  AreJoined ks = (k : List SiteTerm) (a b : SiteTerm) → In ks k → In k a → In k b → Joined d a b

  pub in_class_joined : (ks : List (List SiteTerm)) → AreJoined ks → (s x : SiteTerm) → In (class_at ks s) x → Joined d s x
  in_class_joined [] j s x i = elim i [ inl e ↦ subst (Joined d s) e itself | inr n ↦ absurd n ]
  in_class_joined (k ∷ ks) j s x i = grind (arith, in_class_joined ks (λ l a b m. j l a b (inr m)) s x, has_in k s, j k s x (inl refl))

  without_joined : (ks : List (List SiteTerm)) → AreJoined ks → (s : SiteTerm) → AreJoined (without_class_of ks s)
  without_joined ks j s k a b i = j k a b (in_filter (λ l. not (has_site l s)) ks k i)

  merged_joined : (ks : List (List SiteTerm)) → AreJoined ks → (e : SiteTerm × SiteTerm) → Joined d e.0 e.1 → AreJoined (merged_classes ks e)
  merged_joined ks j e same =
      elim (cases_Bool (has_site (class_at ks e.0) e.1)) [
        | inl t ↦ subst AreJoined (sym (cond-true (has_site (class_at ks e.0) e.1) ks ((class_at ks e.0 ++ class_at ks e.1) ∷ without_class_of (without_class_of ks e.0) e.1) t)) j
        | inr f ↦ subst AreJoined (sym (cond-false (has_site (class_at ks e.0) e.1) ks ((class_at ks e.0 ++ class_at ks e.1) ∷ without_class_of (without_class_of ks e.0) e.1) f)) both
      ]
    where
      to_first : (x : SiteTerm) → In (class_at ks e.0 ++ class_at ks e.1) x → Joined d e.0 x
      to_first x i =
          elim (in_either (class_at ks e.0) (class_at ks e.1) x i) [
            | inl l ↦ in_class_joined ks j e.0 x l
            | inr r ↦ chained same (in_class_joined ks j e.1 x r)
          ]

      both : AreJoined ((class_at ks e.0 ++ class_at ks e.1) ∷ without_class_of (without_class_of ks e.0) e.1)
      both k a b (inl q) m n =
          chained (turned (to_first a (subst (λ l. In l a) (sym q) m))) (to_first b (subst (λ l. In l b) (sym q) n))
      both k a b (inr i) m n = without_joined (without_class_of ks e.0) (without_joined ks j e.0) e.1 k a b i m n

  all_merged_joined : (es : List (SiteTerm × SiteTerm)) (ks : List (List SiteTerm)) → AreJoined ks → ((e : SiteTerm × SiteTerm) → In es e → Joined d e.0 e.1) → AreJoined (merged_all ks es)
  all_merged_joined [] ks j f = j
  all_merged_joined (e ∷ es) ks j f = all_merged_joined es (merged_classes ks e) (merged_joined ks j e (f e (inl refl))) (λ x i. f x (inr i))

  pub constraint_carried : (a b : SiteTerm) (c : Constraint) → Joined d a b → HasConstraint d a c → HasConstraint d b c
  constraint_carried a b c j h = record { source = h.source; joined = chained h.joined j; asked = h.asked }

  fields_joined : (c : Constraint) (members : List SiteTerm) (s : SiteTerm) → HasConstraint d s c → ((m : SiteTerm) → In members m → Joined d s m)
      → (e : SiteTerm × SiteTerm) → In (field_equalities c members) e → Joined d e.0 e.1
  fields_joined c [] s h f e i = absurd i
  fields_joined c (least ∷ rest) s h f e i =
      let m = from_flat_map (λ x. zip (field_terms c least) (field_terms c x)) rest e i in
      let z = in_zip (field_terms c least) (field_terms c m.0) e m.2 in
      let from_s = f least (inl refl) in
      at_field z.0 (chained (turned from_s) (f m.0 (inr m.1))) (chained h.joined from_s) h.asked z.1 z.2

  -- so far all follows
  pub record FollowsSoFar (k : Closed) : Type 0 where
    pub constraints : AreDue k.constraints
    pub classes : AreJoined k.classes

  pub next_asked : (ks : List (List SiteTerm)) (cs : List (SiteTerm × Constraint)) (order : List SiteTerm) (c : SiteTerm × Constraint) → next_constrained ks cs order ≡ Some c → In cs c
  next_asked ks cs [] c e = absurd (none_some c e)
  next_asked ks cs (s ∷ ss) c e = grind (arith, common_steps, next_asked ks cs ss c, some_is, found_constraint)

  pub taken_follows : (k : Closed) → FollowsSoFar k → (c : SiteTerm × Constraint) → In k.constraints c → FollowsSoFar (taken k c (ascending k.made (class_at k.classes c.0)))
  taken_follows k f c i =
      record {
        constraints = λ x j. elim (constraints_in k.constraints (map (λ m. (m, c.1)) members) x j) [
          | inl l ↦ f.constraints x l
          | inr r ↦
              let m = in_map (λ (u : SiteTerm). (u, c.1)) members x r in
              subst (λ (y : SiteTerm × Constraint). HasConstraint d y.0 y.1) m.2 (constraint_carried c.0 m.0 c.1 (member m.0 m.1) (f.constraints c i))
        ];
        classes = all_merged_joined (field_equalities c.1 members) (without_class_of k.classes c.0) (without_joined k.classes f.classes c.0) (fields_joined c.1 members c.0 (f.constraints c i) member);
      }
    where
      members : List SiteTerm
      members = ascending k.made (class_at k.classes c.0)

      member : (m : SiteTerm) → In (ascending k.made (class_at k.classes c.0)) m → Joined d c.0 m
      member m j = in_class_joined k.classes f.classes c.0 m (has_in (class_at k.classes c.0) m (passed_filter (has_site (class_at k.classes c.0)) k.made m j))

  closing_follows : (n : ℕ) (k : Closed) → FollowsSoFar k → FollowsSoFar (closing n k)
  closing_follows = closing_keeps FollowsSoFar (λ k f c e. taken_follows k f c (next_asked k.classes k.constraints k.made c e))

  pub before_closing_follows : (before : List SiteTerm) → FollowsSoFar (before_closing before d)
  before_closing_follows before = record {
    constraints = λ x i. record { source = x.0; joined = itself; asked = contains_from_in d.constraints x (from_constraints d.constraints x i) };
    classes = all_merged_joined d.equalities [] (λ k a b n. absurd n) (λ e i. given (contains_from_in d.equalities e i));
  }

  pub in_order_follows : (k : Closed) → FollowsSoFar k → FollowsSoFar (in_order k)
  in_order_follows k f = grind (arith, common_steps, from_flat_map, in_map, in_filter, has_in, passed_filter)

  pub closed_follows : (before : List SiteTerm) → FollowsSoFar (closed before d)
  closed_follows before = in_order_follows (closing most_closing_steps (before_closing before d)) (closing_follows most_closing_steps (before_closing before d) (before_closing_follows before))

pub closing_is_sound_lem : (before : List SiteTerm) (d : Demands) → ClosedFollows d (closed before d)
closing_is_sound_lem before d =
    let f = closed_follows d before in
    record {
      constraints = λ s c i. f.constraints (s, c) (in_from_contains (closed before d).constraints (s, c) i);
      classes = λ k a b i m n. f.classes k a b (in_from_contains (closed before d).classes k i) (in_from_contains k a m) (in_from_contains k b n);
    }

pub constraints_are_kept_lem : (d : Demands) → (IsUnreachable d → ⊥) → (s : SiteTerm) (c : Constraint) → Contains (with_constraints [] d.constraints) (s, c) ↔ Contains d.constraints (s, c)
constraints_are_kept_lem d n s c = (
  λ i. contains_from_in d.constraints (s, c) (from_constraints d.constraints (s, c) (in_from_contains (with_constraints [] d.constraints) (s, c) i)),
  λ i. contains_from_in (with_constraints [] d.constraints) (s, c) (constraints_kept d.constraints (one_each d n) (s, c) (in_from_contains d.constraints (s, c) i)),
)
