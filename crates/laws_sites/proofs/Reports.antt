-- Something is reported of demands exactly where they can't be met.
use Rattle.std.proofs.Common.{◌≡◌, ◌⊎◌, ◌↔◌, false, not, if◌then◌else◌, List, [], ◌∷◌, ◌++◌, map, Option, Some, None, refl, sym, ap, ◌∙◌, subst, inl, inr, arith}
use Rattle.std.proofs.lemmas.Bool.{cases_Bool, cond-true, cond-false, and_parts, false≢true}
use Rattle.std.specs.List.{list_any}
use Rattle.std.proofs.lemmas.List.{append_assoc}
use Rattle.std.proofs.lemmas.Grind.{common_steps}
use Rattle.model.specs.sites.Sites.{Constraint, SiteTerm}
use Rattle.model.specs.visits.Demands.{Demands, constraint_eq}
use Rattle.model.specs.sites.Closure.{IsUnreachable, same_class, class_names, differs_in_class, has_conflict, has_cycle, Unreachability, conflict, cycle, constraint_of, conflict_with, conflicts_met, in_site_order, first_differing, first_conflict, first_filled, with_constrained, reported}
use Rattle.model.proofs.Elements.{In, in_from_contains, contains_from_in, some_is, none_some, in_any, or_split, from_flat_map, in_flat_map, map_in}
use Rattle.model.proofs.SameSites.{same_term, constraint_means, same_constraint}
use Rattle.laws_sites.specs.FieldLaws.{ConflictFreeConstraintsAgree}
use Rattle.laws_sites.proofs.Names.{same_name}
use Rattle.laws_sites.proofs.Classes.{HasNoConflict, no_conflict, in_with_sites}
use Rattle.laws_sites.proofs.Closing.{OneEach, found_constraint, one_each}
use Rattle.laws_sites.proofs.Verdict.{conflict_is, cycle_is, unreachable_is}
use Rattle.laws_sites.proofs.Settled.{names_settled}
use Rattle.model.proofs.FewElements.{not_empty}

-- nothing is first where neither list has anything
both_empty : (us vs : List Unreachability) → first_filled us vs ≡ [] → (us ≡ []) × (vs ≡ [])
both_empty us vs e = grind (arith, common_steps, not_empty)

empty_first : (us vs : List Unreachability) → us ≡ [] → vs ≡ [] → first_filled us vs ≡ []
empty_first us vs e f = ap (λ xs. first_filled xs vs) e ∙ f

-- a constraint that is the one a site had is no conflict
no_clash : (o : Option Constraint) (c : Constraint) → ((b : Constraint) → o ≡ Some b → b ≡ c) → conflict_with o c ≡ []
no_clash o c f = grind (arith, common_steps, same_constraint)

none_met : (all : List (SiteTerm × Constraint)) → OneEach all → (had cs : List (SiteTerm × Constraint)) → ((x : SiteTerm × Constraint) → In had x → In all x) → ((x : SiteTerm × Constraint) → In cs x → In all x)
    → conflicts_met had cs ≡ []
none_met all once had [] f g = refl
none_met all once had (c ∷ cs) f g =
    ap (λ us. us ++ conflicts_met (had ++ c ∷ []) cs)
    (no_clash (constraint_of had c.0) c.1 (λ b e. once c.0 b c.1 (f (c.0, b) (found_constraint had c.0 b e)) (g c (inl refl))))
    ∙ none_met all once (had ++ c ∷ []) cs (λ x i. added x i) (λ x i. g x (inr i))
  where
    either : (xs : List (SiteTerm × Constraint)) (x : SiteTerm × Constraint) → In (xs ++ c ∷ []) x → In xs x ⊎ (c ≡ x)
    either [] x i = elim i [ inl e ↦ inr e | inr n ↦ absurd n ]
    either (y ∷ ys) x (inl e) = inl (inl e)
    either (y ∷ ys) x (inr i) = elim (either ys x i) [ inl j ↦ inl (inr j) | inr e ↦ inr e ]

    added : (x : SiteTerm × Constraint) → In (had ++ c ∷ []) x → In all x
    added x i = elim (either had x i) [ inl j ↦ f x j | inr e ↦ subst (In all) e (g c (inl refl)) ]

pub joined_empty : (us vs : List Unreachability) → (us ++ vs) ≡ [] → (us ≡ []) × (vs ≡ [])
joined_empty [] vs e = (refl, e)
joined_empty (u ∷ us) vs e = absurd (not_empty u (us ++ vs) e)

constraint_of_left : (xs ys : List (SiteTerm × Constraint)) (s : SiteTerm) (c : Constraint) → constraint_of xs s ≡ Some c → constraint_of (xs ++ ys) s ≡ Some c
constraint_of_left [] ys s c e = absurd (none_some c e)
constraint_of_left (x ∷ xs) ys s c e = grind (arith, common_steps, constraint_of_left xs ys s c)

constraint_of_right : (xs ys : List (SiteTerm × Constraint)) (s : SiteTerm) → constraint_of xs s ≡ None → constraint_of (xs ++ ys) s ≡ constraint_of ys s
constraint_of_right [] ys s e = refl
constraint_of_right (x ∷ xs) ys s e = grind (arith, common_steps, constraint_of_right xs ys s, none_some)

first_is : (had cs : List (SiteTerm × Constraint)) (c : SiteTerm × Constraint) (o : Option Constraint) → constraint_of had c.0 ≡ o → conflict_with o c.1 ≡ [] → constraint_of (had ++ c ∷ cs) c.0 ≡ Some c.1
first_is had cs c None e f = constraint_of_right had (c ∷ cs) c.0 e ∙ (grind (arith, same_term))
first_is had cs c (Some b) e f = constraint_of_left had (c ∷ cs) c.0 b e ∙ ap Some (grind (arith, common_steps, none_some, some_is, constraint_means, not_empty))

-- where no conflict is met, each site's constraint is the first one
each_first : (had cs : List (SiteTerm × Constraint)) → conflicts_met had cs ≡ [] → (x : SiteTerm × Constraint) → In cs x → constraint_of (had ++ cs) x.0 ≡ Some x.1
each_first had [] e x i = absurd i
each_first had (c ∷ cs) e x (inl p) = grind (arith, common_steps, joined_empty, first_is)
each_first had (c ∷ cs) e x (inr i) =
    let q = joined_empty (conflict_with (constraint_of had c.0) c.1) (conflicts_met (had ++ c ∷ []) cs) e in
    subst (λ l. constraint_of l x.0 ≡ Some x.1) (append_assoc had (c ∷ []) cs) (each_first (had ++ c ∷ []) cs q.1 x i)

-- and so there is one, as where each site has one none is met
pub conflict_free_constraints_agree_lem : ConflictFreeConstraintsAgree
conflict_free_constraints_agree_lem d = (
  λ e s a b i j.
      let first = each_first [] d.constraints e in
      some_is a b (sym (first (s, a) (in_from_contains d.constraints (s, a) i)) ∙ first (s, b) (in_from_contains d.constraints (s, b) j)),
  λ one.
      none_met d.constraints (λ s a b i j. one s a b (contains_from_in d.constraints (s, a) i) (contains_from_in d.constraints (s, b) j))
      [] d.constraints (λ x i. absurd i) (λ x i. i),
)

ordered_in : (order : List SiteTerm) (cs : List (SiteTerm × Constraint)) (x : SiteTerm × Constraint) → In (in_site_order order cs) x → In cs x
ordered_in order cs x i = grind (arith, common_steps, from_flat_map, found_constraint)

in_ordered : (order : List SiteTerm) (cs : List (SiteTerm × Constraint)) (x : SiteTerm × Constraint) → In order x.0 → constraint_of cs x.0 ≡ Some x.1 → In (in_site_order order cs) x
in_ordered order cs x i e = grind (arith, common_steps, in_flat_map)

-- no first differing one where none differs, and the converse
none_differs : (rs : List (SiteTerm × SiteTerm)) (a : SiteTerm × Constraint) (bs : List (SiteTerm × Constraint)) → ((b : SiteTerm × Constraint) → In bs b → differs_in_class rs a b ≡ false) → first_differing rs a bs ≡ None
none_differs rs a [] f = refl
none_differs rs a (b ∷ bs) f = cond-false (differs_in_class rs a b) (Some b.1) (first_differing rs a bs) (f b (inl refl)) ∙ none_differs rs a bs (λ x i. f x (inr i))

differs_none : (rs : List (SiteTerm × SiteTerm)) (a : SiteTerm × Constraint) (bs : List (SiteTerm × Constraint)) → first_differing rs a bs ≡ None → (b : SiteTerm × Constraint) → In bs b → differs_in_class rs a b ≡ false
differs_none rs a [] e b i = absurd i
differs_none rs a (c ∷ bs) e b i = grind (arith, differs_none rs a bs, none_some)

abbrev found_at : SiteTerm × Constraint → List Unreachability → Option Constraint → List Unreachability
found_at a rest o = elim o as (λ _. List Unreachability) [ None ↦ rest | Some b ↦ conflict a.1 b ∷ [] ]

no_first : (rs : List (SiteTerm × SiteTerm)) (all list : List (SiteTerm × Constraint)) → ((a : SiteTerm × Constraint) → In list a → first_differing rs a all ≡ None) → first_conflict rs all list ≡ []
no_first rs all [] f = refl
no_first rs all (a ∷ list) f = ap (found_at a (first_conflict rs all list)) (f a (inl refl)) ∙ no_first rs all list (λ x i. f x (inr i))

found_none : (a : SiteTerm × Constraint) (rest : List Unreachability) (o : Option Constraint) → found_at a rest o ≡ [] → (o ≡ None) × (rest ≡ [])
found_none a rest o e = grind (arith, common_steps, not_empty)

first_none : (rs : List (SiteTerm × SiteTerm)) (all list : List (SiteTerm × Constraint)) → first_conflict rs all list ≡ [] → (a : SiteTerm × Constraint) → In list a → first_differing rs a all ≡ None
first_none rs all [] e a i = absurd i
first_none rs all (c ∷ list) e a (inl p) = subst (λ x. first_differing rs x all ≡ None) p (found_none c (first_conflict rs all list) (first_differing rs c all) e).0
first_none rs all (c ∷ list) e a (inr i) = first_none rs all list (found_none c (first_conflict rs all list) (first_differing rs c all) e).1 a i

module _ (order : List SiteTerm) (d : Demands) where
  abbrev sorted : List (SiteTerm × Constraint)
  sorted = in_site_order (with_constrained order d) d.constraints

  abbrev last : List Unreachability
  last = if has_cycle (class_names d) d.constraints then cycle ∷ [] else []

  nothing_reported : (IsUnreachable d → ⊥) → reported order d ≡ []
  nothing_reported n =
      empty_first (conflicts_met [] d.constraints) (first_filled (first_conflict (class_names d) sorted sorted) last)
      (none_met d.constraints (one_each d n) [] d.constraints (λ x i. absurd i) (λ x i. i))
      (empty_first (first_conflict (class_names d) sorted sorted) last (no_first (class_names d) sorted sorted (λ a i. none_differs (class_names d) a sorted (λ b j. agree a b i j))) without_cycle)
    where
      agreed : HasNoConflict (class_names d) d
      agreed = elim (cases_Bool (has_conflict (class_names d) d.constraints)) [ inl t ↦ absurd (n (conflict_is d t)) | inr f ↦ no_conflict (class_names d) d f ]

      agree : (a b : SiteTerm × Constraint) → In (in_site_order (with_constrained order d) d.constraints) a → In (in_site_order (with_constrained order d) d.constraints) b → differs_in_class (class_names d) a b ≡ false
      agree a b i j =
          elim (cases_Bool (differs_in_class (class_names d) a b)) [
            | inr f ↦ f
            | inl t ↦
                let p = and_parts (same_class (class_names d) a.0 b.0) (not (constraint_eq a.1 b.1)) t in
                let e = agreed a b (ordered_in (with_constrained order d) d.constraints a i) (ordered_in (with_constrained order d) d.constraints b j) (same_name (class_names d) a.0 b.0 p.0) in
                absurd (false≢true (ap not (sym (same_constraint a.1 b.1 e)) ∙ p.1))
          ]

      without_cycle : (if has_cycle (class_names d) d.constraints then cycle ∷ [] else []) ≡ []
      without_cycle =
          elim (cases_Bool (has_cycle (class_names d) d.constraints)) [
            | inl t ↦ absurd (n (cycle_is d t))
            | inr f ↦ cond-false (has_cycle (class_names d) d.constraints) (cycle ∷ []) [] f
          ]

  silent_reachable : reported order d ≡ [] → IsUnreachable d → ⊥
  silent_reachable e u =
      let p = both_empty (conflicts_met [] d.constraints) (first_filled (first_conflict (class_names d) sorted sorted) last) e in
      let q = both_empty (first_conflict (class_names d) sorted sorted) last p.1 in
      elim (or_split (has_conflict (class_names d) d.constraints) (has_cycle (class_names d) d.constraints) (unreachable_is d (names_settled d) u)) [
        | inr t ↦ not_empty cycle [] (sym (cond-true (has_cycle (class_names d) d.constraints) (cycle ∷ []) [] t) ∙ q.1)
        | inl t ↦
            let a = in_any (λ x. list_any (differs_in_class (class_names d) x) d.constraints) d.constraints t in
            let b = in_any (differs_in_class (class_names d) a.0) d.constraints a.2 in
            let in_order : (x : SiteTerm × Constraint) → In d.constraints x → In sorted x =
            λ x i. in_ordered (with_constrained order d) d.constraints x (in_with_sites order (map (λ c. c.0) d.constraints) x.0 (inr (map_in (λ (c : SiteTerm × Constraint). c.0) d.constraints x i))) (each_first [] d.constraints p.0 x i) in
            false≢true (sym (differs_none (class_names d) a.0 sorted (first_none (class_names d) sorted sorted q.0 a.0 (in_order a.0 a.1)) b.0 (in_order b.0 b.1)) ∙ b.2)
      ]

pub reports_are_exact_lem : (order : List SiteTerm) (d : Demands) → (reported order d ≡ []) ↔ (IsUnreachable d → ⊥)
reports_are_exact_lem order d = (silent_reachable order d, nothing_reported order d)
