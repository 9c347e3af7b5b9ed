-- Closing keeps all that follows from the demands within reach; where it ends, all of it is asked.
use Rattle.std.proofs.Common.{◌≡◌, ℕ, true, List, [], ◌∷◌, ◌++◌, map, filter, flat_map, refl, sym, ◌∙◌, subst, inl, inr, arith}
use Rattle.std.proofs.lemmas.Bool.{cases_Bool, false≢true}
use Rattle.std.proofs.lemmas.Grind.{common_steps}
use Rattle.model.specs.sites.Sites.{Constraint, SiteTerm, field_terms}
use Rattle.model.specs.visits.Demands.{Demands, has_site, with_sites}
use Rattle.model.specs.sites.Closure.{Joined, given, itself, turned, chained, at_field, HasConstraint, IsUnreachable, Closed, ClosedIsWhole, class_at, without_class_of, merged_all, ascending, field_equalities, taken, closing, before_closing, begins_with, in_order, most_closing_steps, closed}
use Rattle.laws_sites.specs.VisitLaws.{EqualSitesAreMade}
use Rattle.laws_sites.specs.ClosureLaws.{HasEnded}
use Rattle.model.proofs.Elements.{In, in_from_contains, contains_from_in, some_is, in_right, in_either, any_in, in_map, map_in, from_flat_map, in_flat_map, in_filter, filter_from, passed_filter}
use Rattle.model.proofs.SameSites.{term_same}
use Rattle.model.proofs.SitesMade.{in_has, has_in}
use Rattle.laws_sites.proofs.Classes.{in_with_sites, fields_at, moved}
use Rattle.laws_sites.proofs.Closing.{closing_keeps, FollowsSoFar, in_class_joined, constraint_carried, next_asked, taken_follows, before_closing_follows, constraints_kept, one_each, keeps_all, one_demanded}
use Rattle.laws_sites.proofs.FollowingDemands.{IsApart, InOne, class_is, without_in, in_without, AllIn, each_apart, each_keeps_one, each_joins_one, each_all_in, Chain, one_class, one_take, alike, back, then_on, chain_carried, joined_chain_cases, FieldsChained, IsTaken, gets_constraint, pairs_of, members_chained, pair_members, equality_members, none_constrained}

module _ (d : Demands) (reachable : IsUnreachable d → ⊥) where
  -- where a closing stands: all that is asked follows, and all that follows is asked or joined
  record Stands (k : Closed) (h : List (SiteTerm × SiteTerm)) : Type 0 where
    follows : FollowsSoFar d k
    kept : (x : SiteTerm × Constraint) → In d.constraints x → In k.constraints x
    apart : IsApart k.classes
    within : AllIn (In k.made) k.classes
    equal : (a b : SiteTerm) → In d.equalities (a, b) → Chain k.classes h a b
    history : (a b : SiteTerm) → In h (a, b) → IsTaken k.constraints k.classes h a b

  -- a step of a closing: where it stands, and the constraint that is taken next
  record StandingStep : Type 0 where
    closing : Closed
    joined : List (SiteTerm × SiteTerm)
    stands : Stands closing joined
    constraint : SiteTerm × Constraint
    asked : In closing.constraints constraint

  module _ (step : StandingStep) where
    abbrev k : Closed
    k = step.closing

    abbrev h : List (SiteTerm × SiteTerm)
    h = step.joined

    abbrev w : Stands k h
    w = step.stands

    abbrev c : SiteTerm × Constraint
    c = step.constraint

    abbrev m : In k.constraints c
    m = step.asked

    abbrev members : List SiteTerm
    members = ascending k.made (class_at k.classes c.0)

    abbrev after : Closed
    after = taken k c (ascending k.made (class_at k.classes c.0))

    abbrev history_after : List (SiteTerm × SiteTerm)
    history_after = pairs_of (ascending k.made (class_at k.classes c.0)) ++ h

    after_follows : FollowsSoFar d after
    after_follows = taken_follows d k w.follows c m

    member_joined : (s : SiteTerm) → In members s → Joined d c.0 s
    member_joined s i = in_class_joined d k.classes w.follows.classes c.0 s (grind (arith, has_in, passed_filter))

    left_apart : IsApart (without_class_of k.classes c.0)
    left_apart l n s i j x y = w.apart l n s (without_in k.classes c.0 l i).0 (without_in k.classes c.0 n j).0 x y

    -- each member has the constraint, since it has one, and no other follows
    member_asked : (s : SiteTerm) → In members s → In after.constraints (s, c.1)
    member_asked s i =
        let g = gets_constraint k.constraints (map (λ u. (u, c.1)) members) (s, c.1) (map_in (λ (u : SiteTerm). (u, c.1)) members s i) in
        let same = one_demanded d reachable s g.0 c.1 (after_follows.constraints (s, g.0) g.1) (constraint_carried d c.0 s c.1 (member_joined s i) (w.follows.constraints c m)) in
        subst (λ b. In after.constraints (s, b)) same g.1

    -- the classes before are joined after
    class_chained : (a b : SiteTerm) → InOne k.classes a b → Chain after.classes history_after a b
    class_chained a b o =
        elim (cases_Bool (has_site o.class c.0)) [
          | inl t ↦ grind (arith, a_member a, a_member b, class_is, has_in, members_chained)
          | inr f ↦
              one_class (each_keeps_one (field_equalities c.1 members) (without_class_of k.classes c.0) left_apart a b
              (record { class = o.class; there = in_without k.classes c.0 o.class o.there f; first = o.first; second = o.second }))
        ]
      where
        a_member : (s : SiteTerm) → class_at k.classes c.0 ≡ o.class → In o.class s → In (ascending k.made (class_at k.classes c.0)) s
        a_member s e i = grind (arith, filter_from, in_has)

    carried : (a b : SiteTerm) → Chain k.classes h a b → Chain after.classes history_after a b
    carried a b j =
        chain_carried k.classes after.classes h history_after class_chained (λ x y i. in_right (pairs_of members) h (x, y) i) a b j

    field_joined : (x y : SiteTerm) → In (field_equalities c.1 members) (x, y) → Chain after.classes history_after x y
    field_joined x y i = joined_chain_cases after.classes history_after x y (each_joins_one (field_equalities c.1 members) (without_class_of k.classes c.0) left_apart x y i)

    new_taken : (a b : SiteTerm) → In (pairs_of members) (a, b) → IsTaken after.constraints after.classes history_after a b
    new_taken a b i = grind (arith, common_steps, pair_members c.1 members a b i, member_asked a, member_asked b, field_joined)

    made_field : (s x : SiteTerm) → In members s → In (field_terms c.1 s) x → In after.made x
    made_field s x i j = in_with_sites k.made (flat_map (field_terms c.1) members) x (inr (in_flat_map (field_terms c.1) members s x i j))

    stands_after : Stands after history_after
    stands_after = record {
      follows = after_follows;
      kept = λ x i. keeps_all k.constraints (map (λ u. (u, c.1)) members) x (w.kept x i);
      apart = each_apart (field_equalities c.1 members) (without_class_of k.classes c.0) left_apart;
      within = each_all_in (In after.made) (field_equalities c.1 members) (without_class_of k.classes c.0)
          (λ l s i j. in_with_sites k.made (flat_map (field_terms c.1) members) s (inl (w.within l s (without_in k.classes c.0 l i).0 j)))
          (λ e i. let q = equality_members c.1 members e i in (made_field q.0 e.0 q.2 q.4, made_field q.1 e.1 q.3 q.5));
      equal = λ a b i. carried a b (w.equal a b i);
      history = λ a b i. elim (in_either (pairs_of members) h (a, b) i) [ inl j ↦ new_taken a b j | inr j ↦ grind (arith, keeps_all, carried) ];
    }

  abbrev Standing : Closed → Type 0
  Standing k = (h : List (SiteTerm × SiteTerm)) × Stands k h

  closing_stands : (n : ℕ) (k : Closed) → Standing k → Standing (closing n k)
  closing_stands = closing_keeps Standing (λ k s c e. (pairs_of (ascending k.made (class_at k.classes c.0)) ++ s.0, stands_after (record { closing = k; joined = s.0; stands = s.1; constraint = c; asked = next_asked d k.classes k.constraints k.made c e })))

  before_closing_stands : (before : List SiteTerm) → EqualSitesAreMade d → Standing (before_closing before d)
  before_closing_stands before made = (
    [],
    record {
      follows = before_closing_follows d before;
      kept = λ x i. constraints_kept d.constraints (one_each d reachable) x i;
      apart = each_apart d.equalities [] (λ l m s i. absurd i);
      within = each_all_in (In (with_sites before d.made)) d.equalities [] (λ l s i. absurd i)
          (λ e i.
          let p = made e.0 e.1 (contains_from_in d.equalities e i) in
          (in_with_sites before d.made e.0 (inr (in_from_contains d.made e.0 p.0)), in_with_sites before d.made e.1 (inr (in_from_contains d.made e.1 p.1))));
      equal = λ a b i. joined_chain_cases (merged_all [] d.equalities) [] a b (each_joins_one d.equalities [] (λ l m s j. absurd j) a b i);
      history = λ a b i. absurd i;
    },
  )

  -- at the end
  module _ (k : Closed) (h : List (SiteTerm × SiteTerm)) (w : Stands k h) (ended : HasEnded k) where
    class_free : (l : List SiteTerm) (s : SiteTerm) (c : Constraint) → In k.classes l → In l s → In k.constraints (s, c) → ⊥
    class_free l s c i j m =
        false≢true (sym (none_constrained k.classes k.constraints k.made ended s c (w.within l s i j) m)
        ∙ any_in (λ (q : List SiteTerm). has_site q s) k.classes l i (in_has l s j))

    once : (s : SiteTerm) (a b : Constraint) → In k.constraints (s, a) → In k.constraints (s, b) → a ≡ b
    once s a b i j = one_demanded d reachable s a b (w.follows.constraints (s, a) i) (w.follows.constraints (s, b) j)

    -- a constraint goes along, and the fields are joined
    record Along (a b : SiteTerm) : Type 0 where
      there : (c : Constraint) → In k.constraints (a, c) → In k.constraints (b, c) × FieldsChained k.classes h c a b

    same_fields : (c : Constraint) (a : SiteTerm) → FieldsChained k.classes h c a a
    same_fields c a i x y e f = subst (Chain k.classes h x) (some_is x y (sym e ∙ f)) alike

    along : (a b : SiteTerm) → Chain k.classes h a b → Along a b × Along b a
    along a b (one_class o) = grind (arith, common_steps, class_free)
    along a b (one_take i) = grind (arith, common_steps, once, FieldsChained, back)
    along a b alike = (record { there = λ c i. (i, same_fields c a) }, record { there = λ c i. (i, same_fields c a) })
    along a b (back j) = let r = along b a j in (r.1, r.0)
    along a b (then_on {b = m} i j) =
        let p = along a m i in
        let q = along m b j in
        (both a m b p.0 q.0, both b m a q.1 p.1)
      where
        both : (x y z : SiteTerm) → Along x y → Along y z → Along x z
        both x y z r s = record {
          there = λ c n.
              let u = r.there c n in
              let v = s.there c u.0 in
              (v.0, λ i f g e l. let middle = fields_at c x y i f e in then_on (u.1 i f (moved y f) e middle) (v.1 i (moved y f) g middle l));
        }

    joined_chain : (a b : SiteTerm) → Joined d a b → Chain k.classes h a b
    joined_chain a b (given i) = w.equal a b (in_from_contains d.equalities (a, b) i)
    joined_chain a b itself = alike
    joined_chain a b (turned j) = back (joined_chain b a j)
    joined_chain a b (chained {b = m} i j) = then_on (joined_chain a m i) (joined_chain m b j)
    joined_chain x y (at_field {a = a} {b = b} {t = t} {k = c} i j l m e f) =
        let at_a = (along t a (joined_chain t a l)).0.there c (w.kept (t, c) (in_from_contains d.constraints (t, c) m)) in
        ((along a b (joined_chain a b j)).0.there c at_a.0).1 i x y e f

    constraint_asked : (s : SiteTerm) (c : Constraint) → HasConstraint d s c → In k.constraints (s, c)
    constraint_asked s c g =
        ((along g.source s (joined_chain g.source s g.joined)).0.there c (w.kept (g.source, c) (in_from_contains d.constraints (g.source, c) g.asked))).0

    -- joined sites are one, or in one class, or both constrained
    data Ends (a b : SiteTerm) : Type 0 where
      same_site : a ≡ b → Ends a b
      in_class : InOne k.classes a b → Ends a b
      constrained : (c : Constraint) → In k.constraints (a, c) → In k.constraints (b, c) → Ends a b

    back_ends : (a b : SiteTerm) → Ends a b → Ends b a
    back_ends a b (same_site e) = same_site (sym e)
    back_ends a b (in_class o) = in_class (record { class = o.class; there = o.there; first = o.second; second = o.first })
    back_ends a b (constrained c i j) = constrained c j i

    on_ends : (a b c : SiteTerm) → Ends a b → Ends b c → Ends a c
    on_ends a b c (same_site e) q = subst (λ u. Ends u c) (sym e) q
    on_ends a b c (in_class o) (same_site e) = in_class (record { class = o.class; there = o.there; first = o.first; second = subst (In o.class) e o.second })
    on_ends a b c (in_class o) (in_class r) = grind (arith, common_steps)
    on_ends a b c (in_class o) (constrained n i j) = absurd (class_free o.class b n o.there o.second i)
    on_ends a b c (constrained n i j) (same_site e) = constrained n i (subst (λ u. In k.constraints (u, n)) e j)
    on_ends a b c (constrained n i j) (in_class r) = absurd (class_free r.class b n r.there r.first j)
    on_ends a b c (constrained n i j) (constrained m p q) = constrained n i (subst (λ u. In k.constraints (c, u)) (sym (once b n m j p)) q)

    chain_ends : (a b : SiteTerm) → Chain k.classes h a b → Ends a b
    chain_ends a b (one_class o) = in_class o
    chain_ends a b (one_take i) = let t = w.history a b i in constrained t.constraint t.first t.second
    chain_ends a b alike = same_site refl
    chain_ends a b (back j) = back_ends b a (chain_ends b a j)
    chain_ends a b (then_on {b = m} i j) = on_ends a m b (chain_ends a m i) (chain_ends m b j)

    -- the classes in order are the classes
    abbrev ordered : List (List SiteTerm)
    ordered = (in_order k).classes

    first_of : (l : List SiteTerm) (s : SiteTerm) → In l s → (f : SiteTerm) × In l f × (begins_with f l ≡ true)
    first_of [] s i = absurd i
    first_of (t ∷ ts) s i = (t, inl refl, term_same t)

    in_ordered : (a b : SiteTerm) → InOne k.classes a b → InOne ordered a b
    in_ordered a b o =
        let l : List SiteTerm = ascending k.made o.class in
        let i : In (ascending k.made o.class) a = filter_from (has_site o.class) k.made a (w.within o.class a o.there o.first) (in_has o.class a o.first) in
        let j : In (ascending k.made o.class) b = filter_from (has_site o.class) k.made b (w.within o.class b o.there o.second) (in_has o.class b o.second) in
        let f = first_of (ascending k.made o.class) a i in
        let made = in_filter (has_site o.class) k.made f.0 f.1 in
        record {
          class = ascending k.made o.class;
          there = in_flat_map (λ s. filter (begins_with s) (map (ascending k.made) k.classes)) k.made f.0 (ascending k.made o.class) made
              (filter_from (begins_with f.0) (map (ascending k.made) k.classes) (ascending k.made o.class) (map_in (ascending k.made) k.classes o.class o.there) f.2);
          first = i;
          second = j;
        }

    from_ordered : (a b : SiteTerm) → InOne ordered a b → InOne k.classes a b
    from_ordered a b o = grind (arith, common_steps, from_flat_map, in_map, in_filter, has_in, passed_filter)

    whole : ClosedIsWhole d (in_order k)
    whole = record {
      constraints = grind (arith, common_steps, in_from_contains k.constraints, contains_from_in k.constraints, constraint_asked);
      equalities = λ a b. (
        λ e.
            let o = from_ordered a b (record {
              class = e.1.0;
              there = in_from_contains ordered e.1.0 e.1.1;
              first = in_from_contains e.1.0 a e.1.2;
              second = in_from_contains e.1.0 b e.1.3;
            }) in
            record {
              different = e.0;
              joined = w.follows.classes o.class a b o.there o.first o.second;
              free = λ c q. class_free o.class a c o.there o.first (constraint_asked a c q);
            },
        λ q.
            let o = in_ordered a b (grind (arith, common_steps, chain_ends a b (joined_chain a b q.joined), q.different, q.free)) in
            (q.different, (o.class, contains_from_in ordered o.class o.there, contains_from_in o.class a o.first, contains_from_in o.class b o.second)),
      );
    }

pub closing_is_whole_lem : (before : List SiteTerm) (d : Demands) → EqualSitesAreMade d → (IsUnreachable d → ⊥) → HasEnded (closing most_closing_steps (before_closing before d)) → ClosedIsWhole d (closed before d)
closing_is_whole_lem before d made reachable ended =
    let s = closing_stands d reachable most_closing_steps (before_closing before d) (before_closing_stands d reachable before made) in
    whole d reachable (closing most_closing_steps (before_closing before d)) s.0 s.1 ended
