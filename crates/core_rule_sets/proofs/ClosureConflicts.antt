-- The first conflict of a closure, over numbers and over what they stand for.
use Rattle.std.proofs.Common.{◌≡◌, ◌==◌, ℕ, suc, ◌+◌, ◌<◌, ◌≤◌, true, not, ◌&&◌, if◌then◌else◌, List, [], ◌∷◌, ◌++◌, map, length, Option, Some, None, is_some, slice_get, refl, sym, ap, ap₂, ◌∙◌, subst, inl, inr, eqb-true, eq-eqb, arith}
use Rattle.std.proofs.lemmas.Bool.{cases_Bool, cond-true, cond-false, and_parts, both_ways, false_from_ne_true}
use Rattle.std.proofs.lemmas.Option.{slice_get_within}
use Rattle.std.proofs.lemmas.Grind.{common_steps}
use Rattle.model.specs.trees.Places.{constraint_at}
use Rattle.model.specs.sites.Sites.{Site, Constraint, SiteTerm, unfold_site}
use Rattle.model.specs.visits.Demands.{Demands, with_sites, constraint_eq}
use Rattle.model.specs.sites.Closure.{Unreachability, conflict, constraint_of, constraint_at_site, in_site_order, with_constrained, same_class, class_names, spoken_of, differs_in_class, first_differing, first_conflict, with_constraints}
use Rattle.model.proofs.Elements.{In, contains_from_in, in_from_contains, some_is, in_map, map_in}
use Rattle.model.proofs.SitesMade.{in_has}
use Rattle.laws_sites.proofs.Names.{same_name, name_same}
use Rattle.laws_sites.proofs.Classes.{asked_spoken}
use Rattle.laws_sites.proofs.Closing.{found_constraint, constraints_kept, from_constraints}
use Rattle.laws_sites.proofs.overlaps.Overlaps.{bool_same}
use Rattle.core_rule_sets.specs.SiteDemands.{constraint_held}
use Rattle.core_rule_sets.specs.Listings.{ascends, is_below_first, sites_of}
use Rattle.core_rule_sets.specs.Verdicts.{AreClassesOf, AreVisited, class_head, conflict_in, differ_in, first_other}
use Rattle.core_rule_sets.specs.declared.demanded.Demanded.{Demanded}
use Rattle.core_rule_sets.proofs.ListedParts.{above, each_once, there_listed, there_not_none}

-- 1. sites that are there change nothing
all_there : (ts ss : List SiteTerm) → ((s : SiteTerm) → In ss s → In ts s) → with_sites ts ss ≡ ts
all_there ts [] h = refl
all_there ts (s ∷ ss) h = grind (arith, common_steps, all_there ts ss (λ x i. h x (inr i)), in_has ts s (h s (inl refl)))

-- 2. constraints ascending by number are those in the order of the sites
abbrev of_numbers : (ℕ → SiteTerm) → ℕ × Constraint → SiteTerm × Constraint
of_numbers term c = (term c.0, c.1)

abbrev listed_with : SiteTerm → Option Constraint → List (SiteTerm × Constraint)
listed_with u o = elim o as (λ _. List (SiteTerm × Constraint)) [ None ↦ [] | Some c ↦ (u, c) ∷ [] ]

module _ (term : ℕ → SiteTerm) (asked : List (SiteTerm × Constraint)) where
  none_below : (cs : List (ℕ × Constraint)) (i : ℕ) → ((x : ℕ × Constraint) → In cs x → i < x.0) → constraint_at cs i ≡ None
  none_below [] i h = refl
  none_below (d ∷ ds) i h = grind (arith, common_steps, none_below ds i (λ x m. h x (inr m)), false_from_ne_true (d.0 == i), d.0, h d (inl refl))

  later : (u : SiteTerm) (us : List SiteTerm) (i : ℕ) → ((k : ℕ) (v : SiteTerm) → slice_get (u ∷ us) k ≡ Some v → v ≡ term (i + k)) → (k : ℕ) (v : SiteTerm) → slice_get us k ≡ Some v → v ≡ term ((i + 1) + k)
  later u us i stand k v e = let m : i + suc k ≡ (i + 1) + k = omega arith in stand (suc k) v e ∙ ap term m

  in_order : (us : List SiteTerm) (i : ℕ) (cs : List (ℕ × Constraint)) → ((k : ℕ) (u : SiteTerm) → slice_get us k ≡ Some u → u ≡ term (i + k)) → ascends (sites_of cs) ≡ true
      → ((x : ℕ × Constraint) → In cs x → (i ≤ x.0) × (x.0 < i + length us)) → ((s : ℕ) → i ≤ s → s < i + length us → constraint_of asked (term s) ≡ constraint_at cs s)
      → in_site_order us asked ≡ map (of_numbers term) cs
  in_order [] i [] stand rise within same = refl
  in_order [] i (d ∷ ds) stand rise within same = let w = within d (inl refl) in let a = w.0 in let b = w.1 in absurd (omega (arith, a, b))
  in_order (u ∷ us) i [] stand rise within same =
      ap (λ l. l ++ in_site_order us asked) (at_first None (same i (omega arith) (omega arith)))
      ∙ in_order us (i + 1) [] (later u us i stand) rise (λ x m. absurd m) (λ s l m. same s (omega (arith, l)) (omega (arith, m)))
    where
      here : u ≡ term i
      here = let e : i + 0 ≡ i = omega arith in stand 0 u refl ∙ ap term e

      at_first : (o : Option Constraint) → constraint_of asked (term i) ≡ o → constraint_at_site asked u ≡ listed_with u o
      at_first o e = ap (listed_with u) (ap (constraint_of asked) here ∙ e)
  in_order (u ∷ us) i (d ∷ ds) stand rise within same =
      elim (cases_Bool (d.0 == i)) [
        | inl t ↦
            let e = eqb-true d.0 i t in
            ap (λ l. l ++ in_site_order us asked) (at_first (Some d.1) (same i (omega arith) (omega arith) ∙ cond-true (d.0 == i) (Some d.1) (constraint_at ds i) t))
            ∙ ap₂ (λ (c : SiteTerm × Constraint) l. c ∷ l) (λ k. ((here ∙ ap term (sym e)) k, d.1))
            (in_order us (i + 1) ds (later u us i stand) (and_parts (is_below_first d.0 (sites_of ds)) (ascends (sites_of ds)) rise).1
            (λ x m.
            let w = within x (inr m) in
            let a = w.1 in
            let b : d.0 < x.0 = above d.0 (sites_of ds) rise x.0 (map_in (λ (y : ℕ × Constraint). y.0) ds x m) in
            (omega (arith, b, e), omega (arith, a)))
            (λ s l m. same s (omega (arith, l)) (omega (arith, m)) ∙ cond-false (d.0 == s) (Some d.1) (constraint_at ds s) (false_from_ne_true (d.0 == s) (λ q. let f = eqb-true d.0 s q in absurd (omega (arith, f, e, l))))))
        | inr f ↦
            let n : d.0 ≡ i → ⊥ = λ (q : d.0 ≡ i). both_ways (d.0 == i) f (eq-eqb d.0 i q) in
            let w = within d (inl refl) in
            let a = w.0 in
            let more : i < d.0 = omega (arith, a, n) in
            let all_more : (x : ℕ × Constraint) → In (d ∷ ds) x → i < x.0 = λ x m. beyond more x m in
            ap (λ l. l ++ in_site_order us asked) (at_first None (same i (omega arith) (omega arith) ∙ none_below (d ∷ ds) i all_more))
            ∙ in_order us (i + 1) (d ∷ ds) (later u us i stand) rise (λ x m. let w = within x m in let a = w.1 in let b = all_more x m in (omega (arith, b), omega (arith, a))) (λ s l m. same s (omega (arith, l)) (omega (arith, m)))
      ]
    where
      here : u ≡ term i
      here = let e : i + 0 ≡ i = omega arith in stand 0 u refl ∙ ap term e

      at_first : (o : Option Constraint) → constraint_of asked (term i) ≡ o → constraint_at_site asked u ≡ listed_with u o
      at_first o e = ap (listed_with u) (ap (constraint_of asked) here ∙ e)

      beyond : i < d.0 → (x : ℕ × Constraint) → In (d ∷ ds) x → i < x.0
      beyond l x h = grind (arith, common_steps, above d.0 (sites_of ds) rise x.0, map_in (λ (y : ℕ × Constraint). y.0) ds x)

-- 3. the first conflict, where classes agree
module _ (rs : List (SiteTerm × SiteTerm)) (class : ℕ → ℕ) (term : ℕ → SiteTerm) where
  abbrev Agree : ℕ × Constraint → ℕ × Constraint → Type 0
  Agree a b = differs_in_class rs (of_numbers term a) (of_numbers term b) ≡ differ_in class a b

  same_other : (a : ℕ × Constraint) (bs : List (ℕ × Constraint)) → ((b : ℕ × Constraint) → In bs b → Agree a b) → first_differing rs (of_numbers term a) (map (of_numbers term) bs) ≡ first_other class a bs
  same_other a [] h = refl
  same_other a (b ∷ bs) h = ap₂ (λ t o. if t then Some b.1 else o) (h b (inl refl)) (same_other a bs (λ x i. h x (inr i)))

  abbrev found_at : Constraint → List Unreachability → Option Constraint → List Unreachability
  found_at c rest o = elim o as (λ _. List Unreachability) [ None ↦ rest | Some b ↦ conflict c b ∷ [] ]

  same_conflict : (all as' : List (ℕ × Constraint)) → ((a b : ℕ × Constraint) → In as' a → In all b → Agree a b)
      → first_conflict rs (map (of_numbers term) all) (map (of_numbers term) as') ≡ conflict_in class all as'
  same_conflict all [] h = refl
  same_conflict all (a ∷ as') h = grind (arith, common_steps, same_conflict all as' (λ x b i. h x b (inr i)), same_other a all (λ b. h a b (inl refl)))

-- 4. of a closure
module _ (sites : List Site) (before : List SiteTerm) (d : Demands) (h : Demanded) (v : AreVisited sites before d h) (cs : List (ℕ × Constraint)) (ascend : ascends (sites_of cs) ≡ true)
    (asked : (s : ℕ) → constraint_at cs s ≡ constraint_held h s) where
  abbrev term : ℕ → SiteTerm
  term s = unfold_site sites s

  abbrev order : List SiteTerm
  order = with_sites before d.made

  abbrev kept : List (SiteTerm × Constraint)
  kept = with_constraints [] d.constraints

  constrained_made : (s : SiteTerm) → In (map (λ c. c.0) d.constraints) s → In order s
  constrained_made s i =
      let c = in_map (λ (c : SiteTerm × Constraint). c.0) d.constraints s i in
      let j = constraints_kept d.constraints (each_once [] d.constraints (λ u a b m n. absurd m) v.agreed) c.0 c.1 in
      subst (In order) c.2 (in_from_contains order c.0.0 (v.held.asked_made c.0.0 c.0.1 (contains_from_in kept c.0 j)))

  -- what is asked first is what is kept
  first_is_kept : (u : SiteTerm) → constraint_of d.constraints u ≡ constraint_of kept u
  first_is_kept u = by (constraint_of d.constraints u) (constraint_of kept u) refl refl
    where
      once : (s : SiteTerm) (a b : Constraint) → In d.constraints (s, a) → In d.constraints (s, b) → a ≡ b
      once = each_once [] d.constraints (λ u a b i j. absurd i) v.agreed

      by : (o p : Option Constraint) → constraint_of d.constraints u ≡ o → constraint_of kept u ≡ p → constraint_of d.constraints u ≡ constraint_of kept u
      by None None e f = e ∙ sym f
      by None (Some b) e f = absurd (there_not_none d.constraints u b (from_constraints d.constraints (u, b) (found_constraint kept u b f)) e)
      by (Some a) None e f = absurd (there_not_none kept u a (constraints_kept d.constraints once (u, a) (found_constraint d.constraints u a e)) f)
      by (Some a) (Some b) e f =
          e ∙ ap Some (once u a b (found_constraint d.constraints u a e) (from_constraints d.constraints (u, b) (found_constraint kept u b f))) ∙ sym f

  number_within : (x : ℕ × Constraint) → In cs x → x.0 < length sites
  number_within x i = v.held.asked_within x.0 (ap is_some (sym (asked x.0) ∙ there_listed cs ascend x.0 x.1 i))

  as_ordered : in_site_order (with_constrained order d) d.constraints ≡ map (of_numbers term) cs
  as_ordered =
      ap (λ l. in_site_order l d.constraints) (all_there order (map (λ c. c.0) d.constraints) constrained_made)
      ∙ in_order term d.constraints order 0 cs stands ascend (λ x i. let l = number_within x i in let c = v.held.stand.count in (omega arith, omega (arith, l, c)))
      (λ s l m. let c = v.held.stand.count in let w : s < length sites = omega (arith, m, c) in first_is_kept (term s) ∙ sym (v.held.asked s w) ∙ sym (asked s))
    where
      stands : (k : ℕ) (u : SiteTerm) → slice_get order k ≡ Some u → u ≡ term (0 + k)
      stands k u e = grind (arith, common_steps, slice_get_within order k u e, some_is u (term k))

  spoken : (x : ℕ × Constraint) → In cs x → In d.constraints (term x.0, x.1)
  spoken x i =
      from_constraints d.constraints (term x.0, x.1)
      (found_constraint kept (term x.0) x.1 (sym (v.held.asked x.0 (number_within x i)) ∙ sym (asked x.0) ∙ there_listed cs ascend x.0 x.1 i))

  pub conflict_is : (ks : List (List ℕ)) → AreClassesOf sites ks d
      → conflict_in (class_head ks) cs cs ≡ first_conflict (class_names d) (in_site_order (with_constrained order d) d.constraints) (in_site_order (with_constrained order d) d.constraints)
  conflict_is ks classes =
      sym (same_conflict (class_names d) (class_head ks) term cs cs agree) ∙ sym (ap (λ l. first_conflict (class_names d) l l) as_ordered)
    where
      turned : (x y : SiteTerm) → same_class (class_names d) x y ≡ same_class (class_names d) y x
      turned x y =
          bool_same (same_class (class_names d) x y) (same_class (class_names d) y x)
          (λ t. name_same (class_names d) y x (sym (same_name (class_names d) x y t))) (λ t. name_same (class_names d) x y (sym (same_name (class_names d) y x t)))

      agree : (a b : ℕ × Constraint) → In cs a → In cs b → differs_in_class (class_names d) (of_numbers term a) (of_numbers term b) ≡ differ_in (class_head ks) a b
      agree a b i j =
          ap (λ t. t && not (constraint_eq a.1 b.1))
          (turned (term a.0) (term b.0)
          ∙ sym (classes b.0 a.0 (number_within b j) (number_within a i) (inl (contains_from_in (spoken_of d) (term b.0) (asked_spoken d (term b.0, b.1) (spoken b j))))
          (inl (contains_from_in (spoken_of d) (term a.0) (asked_spoken d (term a.0, a.1) (spoken a i))))))
