-- What the names of classes say of unreachable demands.
use Rattle.std.proofs.Common.{◌≡◌, ◌⊎◌, ℕ, zero, suc, ◌≤◌, true, false, not, List, [], ◌∷◌, map, length, Option, Some, None, refl, sym, ◌∙◌, subst, inl, inr, arith}
use Rattle.std.proofs.lemmas.Bool.{cases_Bool, and_parts, false≢true, not-true}
use Rattle.std.specs.List.{list_any}
use Rattle.std.proofs.lemmas.Grind.{common_steps}
use Rattle.model.specs.sites.Sites.{Constraint, SiteTerm, field_terms}
use Rattle.model.specs.visits.Demands.{Demands, constraint_eq}
use Rattle.model.specs.sites.Closure.{Joined, itself, IsPartOf, IsProperPart, directly, deeper, IsUnreachable, two_at_a_site, two_in_a_class, part_of_itself, class_name, same_class, class_names, differs_in_class, has_conflict, constrained_in, fields_of_first, parts_of, goes_deeper, has_cycle, is_unreachable}
use Rattle.model.proofs.Elements.{In, contains_from_in, in_any, in_map, map_in, or_split, or_left, or_right}
use Rattle.model.proofs.SameSites.{same_constraint}
use Rattle.laws_sites.proofs.Names.{same_name, named_joined, names_sound, named_alike}
use Rattle.laws_sites.proofs.Classes.{IsSettled, HasNoConflict, no_conflict, one_constraint, no_cycle, constrained_means}
use Rattle.model.proofs.DistinctCounts.{dropped}

-- a conflict that the names show is one
pub conflict_is : (d : Demands) → has_conflict (class_names d) d.constraints ≡ true → IsUnreachable d
conflict_is d h =
    let a = in_any (λ x. list_any (differs_in_class (class_names d) x) d.constraints) d.constraints h in
    let b = in_any (differs_in_class (class_names d) a.0) d.constraints a.2 in
    let p = and_parts (same_class (class_names d) a.0.0 b.0.0) (not (constraint_eq a.0.1 b.0.1)) b.2 in
    let j = named_alike d a.0.0 b.0.0 (same_name (class_names d) a.0.0 b.0.0 p.0) in
    two_in_a_class b.0.0 a.0.1 b.0.1
    (record { source = a.0.0; joined = j; asked = contains_from_in d.constraints a.0 a.1 })
    (record { source = b.0.0; joined = itself; asked = contains_from_in d.constraints b.0 b.1 })
    (λ e. false≢true (sym (not-true (constraint_eq a.0.1 b.0.1) p.1) ∙ same_constraint a.0.1 b.0.1 e))

module _ (d : Demands) where
  -- the parts of a name are parts of its class
  part_is : (n s : SiteTerm) → In (parts_of (class_names d) d.constraints n) s → IsPartOf d s n × ((c : SiteTerm × Constraint) × In d.constraints c × (class_name (class_names d) c.0 ≡ n))
  part_is n s i = from (constrained_in (class_names d) d.constraints n) refl i
    where
      from : (o : Option (SiteTerm × Constraint)) → constrained_in (class_names d) d.constraints n ≡ o → In (fields_of_first (class_names d) o) s
          → IsPartOf d s n × ((c : SiteTerm × Constraint) × In d.constraints c × (class_name (class_names d) c.0 ≡ n))
      from None e j = absurd j
      from (Some c) e j =
          let m = constrained_means (class_names d) d.constraints n c e in
          let f = in_map (class_name (class_names d)) (field_terms c.1 c.0) s j in (
            record {
              whole = c.0;
              constraint = c.1;
              field = f.0;
              of_class = subst (Joined d c.0) m.1 (named_joined d (class_names d) (names_sound d) c.0);
              constrained = record { source = c.0; joined = itself; asked = contains_from_in d.constraints c m.0 };
              there = contains_from_in (field_terms c.1 c.0) f.0 f.1;
              in_class = subst (Joined d f.0) f.2 (named_joined d (class_names d) (names_sound d) f.0);
            },
            (c, m.0, m.1),
          )

  abbrev Found : Type 0
  Found = (s : SiteTerm) × IsProperPart d s s

  step_below : (n s : SiteTerm) (passed : List SiteTerm) → ((v : SiteTerm) → In passed v → IsProperPart d n v) → IsPartOf d s n → (v : SiteTerm) → In (n ∷ passed) v → IsProperPart d s v
  step_below n s passed below p v (inl e) = subst (IsProperPart d s) e (directly p)
  step_below n s passed below p v (inr i) = deeper p (below v i)

  -- the first step of a chain: a part, in a chain that is shorter by one, of a class that the names list
  first_step : (k : ℕ) (left passed : List SiteTerm) (n : SiteTerm)
      → ((c : SiteTerm × Constraint) → In d.constraints c → In left (class_name (class_names d) c.0) ⊎ In passed (class_name (class_names d) c.0))
      → goes_deeper (suc k) (class_names d) d.constraints n ≡ true
      → (s : SiteTerm) × IsPartOf d s n × (goes_deeper k (class_names d) d.constraints s ≡ true) × (In left n ⊎ In passed n)
  first_step k left passed n covered deep = grind (arith, in_any, part_is)

  -- a chain of parts that is longer than the list of names left comes back to one that it passed
  chain_returns : (k : ℕ) (left passed : List SiteTerm) (n : SiteTerm) → length left ≤ k
      → ((c : SiteTerm × Constraint) → In d.constraints c → In left (class_name (class_names d) c.0) ⊎ In passed (class_name (class_names d) c.0))
      → ((v : SiteTerm) → In passed v → IsProperPart d n v)
      → goes_deeper (suc k) (class_names d) d.constraints n ≡ true → Found
  chain_returns zero left passed n short covered below deep = grind (arith, common_steps, first_step zero left passed n covered deep, dropped left n)
  chain_returns (suc k) left passed n short covered below deep =
      let f = first_step (suc k) left passed n covered deep in
      elim f.3 [
        | inr p ↦ (n, below n p)
        | inl l ↦
            let r = dropped left n l in
            chain_returns k r.0 (n ∷ passed) f.0 (let e = r.1 in omega (arith, e, short))
            (λ c i. grind (arith, common_steps))
            (step_below n f.0 passed below f.1) f.2
      ]

  names_count : (cs : List (SiteTerm × Constraint)) → length (map (λ (c : SiteTerm × Constraint). class_name (class_names d) c.0) cs) ≤ length cs
  names_count [] = omega arith
  names_count (c ∷ cs) = let e = names_count cs in omega (arith, e)

  -- a cycle that the names show is one
  pub cycle_is : has_cycle (class_names d) d.constraints ≡ true → IsUnreachable d
  cycle_is h =
      let c = in_any (λ (x : SiteTerm × Constraint). goes_deeper (suc (length d.constraints)) (class_names d) d.constraints (class_name (class_names d) x.0)) d.constraints h in
      let f = chain_returns (length d.constraints) (map (λ (x : SiteTerm × Constraint). class_name (class_names d) x.0) d.constraints) [] (class_name (class_names d) c.0.0) (names_count d.constraints)
      (λ x i. inl (map_in (λ (y : SiteTerm × Constraint). class_name (class_names d) y.0) d.constraints x i))
      (λ v i. absurd i) c.2 in
      part_of_itself f.0 f.1

  pub verdict_is : is_unreachable d ≡ true → IsUnreachable d
  verdict_is h =
      elim (or_split (has_conflict (class_names d) d.constraints) (has_cycle (class_names d) d.constraints) h) [
        | inl t ↦ conflict_is d t
        | inr t ↦ cycle_is t
      ]

  -- settled names without conflict and cycle leave nothing unreachable
  reached : IsSettled (class_names d) d → HasNoConflict (class_names d) d → has_cycle (class_names d) d.constraints ≡ false → IsUnreachable d → ⊥
  reached s a c (two_at_a_site t x y i j e) =
      e (one_constraint d s a t x y (record { source = t; joined = itself; asked = i }) (record { source = t; joined = itself; asked = j }))
  reached s a c (two_in_a_class t x y h k e) = e (one_constraint d s a t x y h k)
  reached s a c (part_of_itself t h) = no_cycle d s a c t h

  pub unreachable_is : IsSettled (class_names d) d → IsUnreachable d → is_unreachable d ≡ true
  unreachable_is s u =
      elim (cases_Bool (has_conflict (class_names d) d.constraints)) [
        | inl t ↦ or_left (has_conflict (class_names d) d.constraints) (has_cycle (class_names d) d.constraints) t
        | inr f ↦
            elim (cases_Bool (has_cycle (class_names d) d.constraints)) [
              | inl t ↦ or_right (has_conflict (class_names d) d.constraints) (has_cycle (class_names d) d.constraints) t
              | inr g ↦ absurd (reached s (no_conflict (class_names d) d f) g u)
            ]
      ]
