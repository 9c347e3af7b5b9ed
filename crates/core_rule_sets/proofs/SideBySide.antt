-- Two rules' constraints side by side: what is found by going on at the lesser site, where both ascend.
use Rattle.std.proofs.Common.{◌≡◌, ◌==◌, ℕ, suc, ◌+◌, ◌<◌, ◌≤◌, Bool, true, false, ◌&&◌, ◌||◌, List, [], ◌∷◌, length, drop, get_or, refl, sym, ap, ◌∙◌, subst, arith, nat_lt, ◌⊎◌}
use Rattle.std.specs.List.{list_any}
use Rattle.std.proofs.lemmas.Bool.{and_parts, both_ways, eq-eqb, ne_eqb}
use Rattle.std.proofs.lemmas.Bool.Decides.{Decides-ltb}
use Rattle.std.proofs.Math.Bool.{and-false}
use Rattle.std.proofs.lemmas.Grind.{common_steps}
use Rattle.model.specs.sites.Sites as Sites
use Rattle.model.specs.visits.Demands.{constraint_eq}
use Rattle.model.specs.sites.SetRules.{differs_at, sites_differ, agrees_at, all_agree}
use Rattle.model.proofs.SameSites.{constraint_means, same_constraint}
use Rattle.core_rule_sets.specs.Listings.{is_below_first, ascends, sites_of}
use Rattle.core_rule_sets.specs.Overlaps.{IsComparedAs}
use Rattle.core_rule_sets.specs.SiteViews.{constraint_view, constraint_views}
use Rattle.core_rule_sets.specs.declared.trie_again.Constraint.{Constraint}
use Rattle.core_rule_sets.proofs.ListTails.{rest_is}

abbrev Demand : Type 0
Demand = ℕ × Sites.Constraint

-- 1. sites that are told apart
abbrev AllAbove : ℕ → List Demand → Type 0
AllAbove n [] = Unit {0}
AllAbove n (c ∷ cs) = (n < c.0) × AllAbove n cs

still_above : (n m : ℕ) (cs : List Demand) → n < m → AllAbove m cs → AllAbove n cs
still_above n m [] l h = tt
still_above n m (c ∷ cs) l h = ((let k : m < c.0 = h.0 in omega arith), still_above n m cs l h.1)

lt_from : (n m : ℕ) → nat_lt n m ≡ true → n < m
lt_from n m h = (Decides-ltb n m).0 h

above : (n : ℕ) (cs : List Demand) → is_below_first n (sites_of cs) ≡ true → ascends (sites_of cs) ≡ true → AllAbove n cs
above n [] h a = tt
above n (c ∷ cs) h a =
    let l = lt_from n c.0 h in
    let p = and_parts (is_below_first c.0 (sites_of cs)) (ascends (sites_of cs)) a in
    (l, still_above n c.0 cs l (above c.0 cs p.0 p.1))

-- an ascending list's first site is below the others
rest_above : (c : Demand) (cs : List Demand) → ascends (sites_of (c ∷ cs)) ≡ true → AllAbove c.0 cs
rest_above c cs a = let p = and_parts (is_below_first c.0 (sites_of cs)) (ascends (sites_of cs)) a in above c.0 cs p.0 p.1

rest_ascends : (c : Demand) (cs : List Demand) → ascends (sites_of (c ∷ cs)) ≡ true → ascends (sites_of cs) ≡ true
rest_ascends c cs a = (and_parts (is_below_first c.0 (sites_of cs)) (ascends (sites_of cs)) a).1

none_differs : (x : Demand) (ys : List Demand) → AllAbove x.0 ys → list_any (differs_at x) ys ≡ false
none_differs x [] h = refl
none_differs x (y ∷ ys) h = grind (arith, common_steps, none_differs x ys h.1, ne_eqb x.0 y.0)

none_agrees : (x : Demand) (ys : List Demand) → AllAbove x.0 ys → list_any (agrees_at x) ys ≡ false
none_agrees x [] h = refl
none_agrees x (y ∷ ys) h = grind (arith, common_steps, none_agrees x ys h.1, ne_eqb x.0 y.0)

-- a site below all of the others' tells nothing
difference_skipped : (y : Demand) (xs ys : List Demand) → AllAbove y.0 xs → sites_differ xs (y ∷ ys) ≡ sites_differ xs ys
difference_skipped y [] ys h = refl
difference_skipped y (x ∷ xs) ys h = grind (arith, common_steps, difference_skipped y xs ys h.1, ne_eqb x.0 y.0)

agreement_skipped : (y : Demand) (xs ys : List Demand) → AllAbove y.0 xs → all_agree xs (y ∷ ys) ≡ all_agree xs ys
agreement_skipped y [] ys h = refl
agreement_skipped y (x ∷ xs) ys h = grind (arith, common_steps, agreement_skipped y xs ys h.1, ne_eqb x.0 y.0)

-- 2. what is left of both, and what was met so far
pub record IsMetSoFar (as' bs xs ys : List Demand) (first second : Bool) : Type 0 where
  pub ascending : ascends (sites_of xs) ≡ true
  pub others_ascending : ascends (sites_of ys) ≡ true
  pub differ : sites_differ as' bs ≡ sites_differ xs ys
  pub among : all_agree as' bs ≡ (first && all_agree xs ys)
  pub others_among : all_agree bs as' ≡ (second && all_agree ys xs)

pub nothing_met : (as' bs : List Demand) → ascends (sites_of as') ≡ true → ascends (sites_of bs) ≡ true → IsMetSoFar as' bs as' bs true true
nothing_met as' bs a b = record { ascending = a; others_ascending = b; differ = refl; among = refl; others_among = refl }

module _ (as' bs : List Demand) (x y : Demand) (xs ys : List Demand) (first second : Bool) (m : IsMetSoFar as' bs (x ∷ xs) (y ∷ ys) first second) where
  -- the first one's site is the lesser
  pub first_goes_on : x.0 < y.0 → IsMetSoFar as' bs xs (y ∷ ys) false second
  first_goes_on l =
      let up : AllAbove x.0 (y ∷ ys) = (l, still_above x.0 y.0 ys l (rest_above y ys m.others_ascending)) in
      record {
        ascending = rest_ascends x xs m.ascending;
        others_ascending = m.others_ascending;
        differ = m.differ ∙ ap (λ b. b || sites_differ xs (y ∷ ys)) (none_differs x (y ∷ ys) up);
        among = m.among ∙ ap (λ b. first && (b && all_agree xs (y ∷ ys))) (none_agrees x (y ∷ ys) up) ∙ and-false first;
        others_among = m.others_among ∙ ap (λ b. second && b) (agreement_skipped x (y ∷ ys) xs up);
      }

  -- the second one's is
  pub second_goes_on : y.0 < x.0 → IsMetSoFar as' bs (x ∷ xs) ys first false
  second_goes_on l =
      let up : AllAbove y.0 (x ∷ xs) = (l, still_above y.0 x.0 xs l (rest_above x xs m.ascending)) in
      record {
        ascending = m.ascending;
        others_ascending = rest_ascends y ys m.others_ascending;
        differ = m.differ ∙ difference_skipped y (x ∷ xs) ys up;
        among = m.among ∙ ap (λ b. first && b) (agreement_skipped y (x ∷ xs) ys up);
        others_among = m.others_among ∙ ap (λ b. second && (b && all_agree ys (x ∷ xs))) (none_agrees y (x ∷ xs) up) ∙ and-false second;
      }

  module _ (s : x.0 ≡ y.0) where
    above_other : AllAbove x.0 ys
    above_other = subst (λ n. AllAbove n ys) (sym s) (rest_above y ys m.others_ascending)

    other_above : AllAbove y.0 xs
    other_above = subst (λ n. AllAbove n xs) s (rest_above x xs m.ascending)

    -- one site with one constraint
    pub both_go_on : constraint_eq x.1 y.1 ≡ true → IsMetSoFar as' bs xs ys first second
    both_go_on g =
        let e : (x.0 == y.0) ≡ true = eq-eqb x.0 y.0 s in
        let f : (y.0 == x.0) ≡ true = eq-eqb y.0 x.0 (sym s) in
        let h : constraint_eq y.1 x.1 ≡ true = same_constraint y.1 x.1 (sym (constraint_means x.1 y.1 g)) in
        record {
          ascending = rest_ascends x xs m.ascending;
          others_ascending = rest_ascends y ys m.others_ascending;
          differ = grind (arith, common_steps, none_differs x ys above_other, difference_skipped y xs ys other_above);
          among = grind (arith, common_steps, agreement_skipped y xs ys other_above);
          others_among = grind (arith, common_steps, agreement_skipped x ys xs above_other);
        }

-- 3. at an end: whether nothing is left
abbrev pub is_at_end : List Demand → Bool
is_at_end [] = true
is_at_end (c ∷ cs) = false

among_none : (xs : List Demand) → all_agree xs [] ≡ is_at_end xs
among_none xs = grind (arith, common_steps)

none_differ : (xs : List Demand) → sites_differ xs [] ≡ false
none_differ [] = refl
none_differ (x ∷ xs) = none_differ xs

-- one of the two lists is walked whole
pub met_at_end : (as' bs xs ys : List Demand) (first second : Bool) → (xs ≡ []) ⊎ (ys ≡ []) → IsMetSoFar as' bs xs ys first second → IsComparedAs as' bs (first && is_at_end xs) (second && is_at_end ys)
met_at_end as' bs xs ys first second h m = grind (arith, common_steps, among_none ys, none_differ xs, among_none xs)

-- 4. the same by places of the lists as code holds them
module _ (as' bs : List (ℕ × Constraint)) (i j : ℕ) (x y : ℕ × Constraint) (p q : Bool) (l : i < length as') (k : j < length bs) (e : x ≡ get_or as' i x) (f : y ≡ get_or bs j y) where
  abbrev MetAt : ℕ → ℕ → Bool → Bool → Type 0
  MetAt n m r s = IsMetSoFar (constraint_views as') (constraint_views bs) (constraint_views (drop n as')) (constraint_views (drop m bs)) r s

  abbrev MetFrom : List (ℕ × Constraint) → List (ℕ × Constraint) → Bool → Bool → Type 0
  MetFrom xs ys r s = IsMetSoFar (constraint_views as') (constraint_views bs) (constraint_views xs) (constraint_views ys) r s

  this_rest : drop i as' ≡ x ∷ drop (i + 1) as'
  this_rest = rest_is as' i x l e

  other_rest : drop j bs ≡ y ∷ drop (j + 1) bs
  other_rest = rest_is bs j y k f

  here : MetAt i j p q → MetFrom (x ∷ drop (i + 1) as') (y ∷ drop (j + 1) bs) p q
  here m = subst (λ xs. MetFrom xs (y ∷ drop (j + 1) bs) p q) this_rest (subst (λ ys. MetFrom (drop i as') ys p q) other_rest m)

  abbrev this : Demand
  this = (x.0, constraint_view x.1)

  abbrev other : Demand
  other = (y.0, constraint_view y.1)

  pub walk_first : x.0 < y.0 → MetAt i j p q → MetAt (i + 1) j false q
  walk_first h m =
      subst (λ ys. MetFrom (drop (i + 1) as') ys false q) (sym other_rest)
      (first_goes_on (constraint_views as') (constraint_views bs) this other (constraint_views (drop (i + 1) as')) (constraint_views (drop (j + 1) bs)) p q (here m) h)

  pub walk_second : y.0 < x.0 → MetAt i j p q → MetAt i (j + 1) p false
  walk_second h m =
      subst (λ xs. MetFrom xs (drop (j + 1) bs) p false) (sym this_rest)
      (second_goes_on (constraint_views as') (constraint_views bs) this other (constraint_views (drop (i + 1) as')) (constraint_views (drop (j + 1) bs)) p q (here m) h)

  pub walk_both : x.0 ≡ y.0 → constraint_eq (constraint_view x.1) (constraint_view y.1) ≡ true → MetAt i j p q → MetAt (i + 1) (j + 1) p q
  walk_both h c m =
      both_go_on (constraint_views as') (constraint_views bs) this other (constraint_views (drop (i + 1) as')) (constraint_views (drop (j + 1) bs)) p q (here m) h c

suc_same : (i n : ℕ) → (suc i == suc n) ≡ (i == n)
suc_same i n = grind (arith, common_steps, eq-eqb (suc i) (suc n), ne_eqb (suc i) (suc n), both_ways (i == n), eq-eqb i n)

-- both walked as far as one of them goes
at_end_by_place : (cs : List (ℕ × Constraint)) (i : ℕ) → i ≤ length cs → is_at_end (constraint_views (drop i cs)) ≡ (i == length cs)
at_end_by_place (c ∷ cs) (suc i) l = at_end_by_place cs i (omega arith) ∙ sym (suc_same i (length cs))
at_end_by_place cs i l = grind (arith, ne_eqb)

nothing_left : (cs : List (ℕ × Constraint)) (i : ℕ) → length cs ≤ i → constraint_views (drop i cs) ≡ []
nothing_left (c ∷ cs) (suc i) l = nothing_left cs i (omega arith)
nothing_left cs i l = grind (arith, common_steps)

pub walked_whole : (as' bs : List (ℕ × Constraint)) (i j : ℕ) (p q r s : Bool) → i ≤ length as' → j ≤ length bs → (length as' ≤ i) ⊎ (length bs ≤ j)
    → IsMetSoFar (constraint_views as') (constraint_views bs) (constraint_views (drop i as')) (constraint_views (drop j bs)) p q
    → r ≡ (p && (i == length as')) → s ≡ (q && (j == length bs)) → IsComparedAs (constraint_views as') (constraint_views bs) r s
walked_whole as' bs i j p q r s l k done m e f =
    let end : IsComparedAs (constraint_views as') (constraint_views bs) (p && is_at_end (constraint_views (drop i as'))) (q && is_at_end (constraint_views (drop j bs))) =
    met_at_end (constraint_views as') (constraint_views bs) (constraint_views (drop i as')) (constraint_views (drop j bs)) p q (one_done as' bs i j done) m in
    record {
      differ = end.differ;
      among = e ∙ ap (λ b. p && b) (sym (at_end_by_place as' i l)) ∙ end.among;
      others_among = f ∙ ap (λ b. q && b) (sym (at_end_by_place bs j k)) ∙ end.others_among;
    }
  where
    one_done : (as' bs : List (ℕ × Constraint)) (i j : ℕ) → (length as' ≤ i) ⊎ (length bs ≤ j) → (constraint_views (drop i as') ≡ []) ⊎ (constraint_views (drop j bs) ≡ [])
    one_done as' bs i j k = grind (arith, common_steps, nothing_left as' i, nothing_left bs j)
