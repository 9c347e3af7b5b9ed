-- A test of sets by computing: those that pass are well built.
use Rattle.std.proofs.Common.{◌≡◌, ℕ, ℤ, pos, negsuc, zero, suc, ◌<◌, ◌==◌, Bool, true, false, not, ◌&&◌, ◌||◌, nat_lt, List, [], ◌∷◌, ◌++◌, map, length, Option, Some, None, slice_get, Contains, bytes_eq, refl, sym, ap, ◌∙◌, subst, inl, inr, arith, eqb-true, eq-eqb, ltb-true}
use Rattle.std.specs.List.{list_all}
use Rattle.std.proofs.lemmas.Bool.{cases_Bool, cond-true, cond-false, and_parts, or_cases, false≢true}
use Rattle.std.proofs.lemmas.Option.{none-some, same_Some}
use Rattle.std.proofs.lemmas.Slice.Eq.{bytes_eq-Decides}
use Rattle.std.proofs.lemmas.List.Elements.{Contains-append_left, Contains-append_right}
use Rattle.std.proofs.lemmas.Grind.{common_steps}
use Rattle.model.specs.lists.Names.{IsDistinct}
use Rattle.model.specs.sites.Sites.{Site, bool_site, int_site, prim_site, argument_site, extractor_site, constructor_site, iterator_site, make_variant_site, match_variant_site, make_struct_site, extract_struct_site, make_some_site, match_some_site, match_tuple_site, Constraint, SetRule, SiteSet, sources_of, sources_at}
use Rattle.model.specs.trees.Places.{is_in, constraint_at, below}
use Rattle.model.specs.trees.Sound.{as_number}
use Rattle.model.specs.trees.Tests.{match_test, equal_test, loop_test, needs, up_to}
use Rattle.model.specs.trees.Best.{are_distinct}
use Rattle.model.specs.trees.WellBuilt.{tests_site, IsWellBuiltRule, IsWellBuilt}
use Rattle.model.proofs.Members.{nothing_in, in_cases, constraint_in, member_from_get, each_passes, in_map, member_found, member_is_in, in_up_to}
use Rattle.laws_trees.proofs.JudgeExactness.{not_exact}
use Rattle.laws_trees.proofs.StepCounts.{members, joined_member}
use Rattle.model.specs.sites.Gates.{gate_demanded}

-- 1. sites by their parts
abbrev pub integer_parts : ℤ → List ℕ
integer_parts (pos n) = 0 ∷ (n ∷ [])
integer_parts (negsuc n) = 1 ∷ (n ∷ [])

abbrev pub parts_of : Site → List ℕ
parts_of (bool_site b ty) = 0 ∷ (as_number b ∷ (ty ∷ []))
parts_of (int_site z ty) = 1 ∷ (ty ∷ integer_parts z)
parts_of (prim_site name) = 2 ∷ (name ∷ [])
parts_of (argument_site i) = 3 ∷ (i ∷ [])
parts_of (extractor_site term source) = 4 ∷ (term ∷ (source ∷ []))
parts_of (constructor_site term sources instance) = 5 ∷ (term ∷ (instance ∷ sources))
parts_of (iterator_site source) = 6 ∷ (source ∷ [])
parts_of (make_variant_site ty variant fields) = 7 ∷ (ty ∷ (variant ∷ fields))
parts_of (match_variant_site source variant field) = 8 ∷ (source ∷ (variant ∷ (field ∷ [])))
parts_of (make_struct_site ty fields) = 9 ∷ (ty ∷ fields)
parts_of (extract_struct_site source field) = 10 ∷ (source ∷ (field ∷ []))
parts_of (make_some_site source) = 11 ∷ (source ∷ [])
parts_of (match_some_site source) = 12 ∷ (source ∷ [])
parts_of (match_tuple_site source field) = 13 ∷ (source ∷ (field ∷ []))

abbrev pub differs : Site → Site → Bool
differs b c = not (bytes_eq (parts_of b) (parts_of c))

abbrev pub sites_differ : List Site → Bool
sites_differ [] = true
sites_differ (b ∷ bs) = list_all (differs b) bs && sites_differ bs

not_itself : (b : Site) → differs b b ≡ true → ⊥
not_itself b h = false≢true (sym ((not_exact (bytes_eq (parts_of b) (parts_of b))).0 h) ∙ (bytes_eq-Decides (parts_of b) (parts_of b)).1 refl)

differ_once : (bs : List Site) → sites_differ bs ≡ true → IsDistinct bs
differ_once [] h j k x e f = absurd (none-some x e)
differ_once (b ∷ bs) h zero zero x e f = refl
differ_once (b ∷ bs) h zero (suc k) x e f = grind (arith, common_steps, not_itself, same_Some, each_passes, and_parts, member_from_get)
differ_once (b ∷ bs) h (suc j) zero x e f = grind (arith, common_steps, not_itself, same_Some, each_passes, and_parts, member_from_get)
differ_once (b ∷ bs) h (suc j) (suc k) x e f = ap suc (differ_once bs (and_parts (list_all (differs b) bs) (sites_differ bs) h).1 j k x e f)

-- 2. sources have smaller numbers
abbrev pub sources_smaller : List Site → ℕ → Bool
sources_smaller sites s = list_all (λ u. nat_lt u s) (sources_at sites s)

abbrev pub all_smaller : List Site → Bool
all_smaller sites = list_all (sources_smaller sites) (up_to (length sites))

smaller : (sites : List Site) → all_smaller sites ≡ true → (s u : ℕ) → Contains (sources_at sites s) u → u < s
smaller sites h s u c = by (slice_get sites s) refl
  where
    by : (o : Option Site) → slice_get sites s ≡ o → u < s
    by None e = absurd (nothing_in u (subst (λ (o : Option Site). Contains (elim o as (λ _. List ℕ) [ None ↦ [] | Some b ↦ sources_of b ]) u) e c))
    by (Some b) e =
        let l = member_from_get sites s b e in
        ltb-true u s (each_passes (λ v. nat_lt v s) (sources_at sites s) (each_passes (sources_smaller sites) (up_to (length sites)) h s (in_up_to (length sites) s (within sites s b e))) u c)
      where
        within : (sites : List Site) (s : ℕ) (b : Site) → slice_get sites s ≡ Some b → s < length sites
        within [] s b e = absurd (none-some b e)
        within (x ∷ xs) zero b e = omega arith
        within (x ∷ xs) (suc s) b e = (let l = within xs s b e in omega arith)

-- 3. rules
abbrev pub sites_asked : SetRule → List ℕ
sites_asked r = map (λ (d : ℕ × Constraint). d.0) r.constraints

abbrev pub sites_tested : SetRule → List ℕ
sites_tested r = sites_asked r ++ (members r.classes ++ r.iterators)

abbrev pub gates_demanded : List Site → SetRule → ℕ → Bool
gates_demanded sites r s = list_all (λ u. gate_demanded r (slice_get sites u)) (below (suc s) sites s)

abbrev pub rule_passes : List Site → SetRule → Bool
rule_passes sites r =
    are_distinct (sites_asked r) && list_all (λ s. not (is_in s r.iterators)) (sites_asked r) && list_all (gates_demanded sites r) (sites_tested r)

abbrev pub set_passes : SiteSet → Bool
set_passes set = all_smaller set.sites && sites_differ set.sites && list_all (rule_passes set.sites) set.rules

asked_once : (ds : List (ℕ × Constraint)) → are_distinct (map (λ (d : ℕ × Constraint). d.0) ds) ≡ true → (s : ℕ) (c : Constraint) → Contains ds (s, c) → constraint_at ds s ≡ Some c
asked_once [] h s c k = absurd (nothing_in (s, c) k)
asked_once (d ∷ ds) h s c k =
    let q = and_parts (not (is_in d.0 (map (λ (e : ℕ × Constraint). e.0) ds))) (are_distinct (map (λ (e : ℕ × Constraint). e.0) ds)) h in
    elim (in_cases d (s, c) ds k) [
      | inl e ↦
          cond-true (d.0 == s) (Some d.1) (constraint_at ds s) (eq-eqb d.0 s (ap (λ (x : ℕ × Constraint). x.0) e)) ∙ ap (λ (x : ℕ × Constraint). Some x.1) e
      | inr m ↦
          cond-false (d.0 == s) (Some d.1) (constraint_at ds s) (other d.0 s ds c ((not_exact (is_in d.0 (map (λ (e : ℕ × Constraint). e.0) ds))).0 q.0) m)
          ∙ asked_once ds q.1 s c m
    ]
  where
    other : (x s : ℕ) (ds : List (ℕ × Constraint)) (c : Constraint) → is_in x (map (λ (e : ℕ × Constraint). e.0) ds) ≡ false → Contains ds (s, c) → (x == s) ≡ false
    other x s ds c f m =
        elim (cases_Bool (x == s)) [
          | inl t ↦
              let k = in_map (λ (e : ℕ × Constraint). e.0) ds (s, c) m in
              absurd (false≢true (sym f ∙ ap (λ y. is_in y (map (λ (e : ℕ × Constraint). e.0) ds)) (eqb-true x s t) ∙ member_is_in s (map (λ (e : ℕ × Constraint). e.0) ds) k))
          | inr n ↦ n
        ]

asked_in : (ds : List (ℕ × Constraint)) (s : ℕ) (o : Option Constraint) → constraint_at ds s ≡ o → elim o as (λ _. Bool) [ None ↦ false | Some c ↦ true ] ≡ true → Contains (map (λ (d : ℕ × Constraint). d.0) ds) s
asked_in ds s o e h = grind (arith, common_steps, constraint_in ds s)

tested_in : (r : SetRule) (s : ℕ) → tests_site r s ≡ true → Contains (sites_tested r) s
tested_in r s h =
    elim (or_cases (needs (match_test s) r || needs (equal_test s s) r) (needs (loop_test s) r) h) [
      | inl a ↦
          elim (or_cases (needs (match_test s) r) (needs (equal_test s s) r) a) [
            | inl b ↦ Contains-append_left (sites_asked r) (members r.classes ++ r.iterators) s (asked_in r.constraints s (constraint_at r.constraints s) refl b)
            | inr b ↦ Contains-append_right (sites_asked r) (members r.classes ++ r.iterators) s (Contains-append_left (members r.classes) r.iterators s (joined_member r.classes s s b).0)
          ]
      | inr a ↦ Contains-append_right (sites_asked r) (members r.classes ++ r.iterators) s (Contains-append_right (members r.classes) r.iterators s (member_found s r.iterators a))
    ]

rule_well_built : (sites : List Site) (r : SetRule) → rule_passes sites r ≡ true → IsWellBuiltRule sites r
rule_well_built sites r h =
    let a = and_parts (are_distinct (sites_asked r) && list_all (λ s. not (is_in s r.iterators)) (sites_asked r)) (list_all (gates_demanded sites r) (sites_tested r)) h in
    let b = and_parts (are_distinct (sites_asked r)) (list_all (λ s. not (is_in s r.iterators)) (sites_asked r)) a.0 in
    record {
      asks_once = asked_once r.constraints b.0;
      asks_or_goes_over = λ s c k m.
          let n = each_passes (λ x. not (is_in x r.iterators)) (sites_asked r) b.1 s (in_map (λ (d : ℕ × Constraint). d.0) r.constraints (s, c) k) in
          false≢true (sym ((not_exact (is_in s r.iterators)).0 n) ∙ member_is_in s r.iterators m);
      gates = λ s u t k.
          each_passes (λ v. gate_demanded r (slice_get sites v)) (below (suc s) sites s) (each_passes (gates_demanded sites r) (sites_tested r) a.1 s (tested_in r s t)) u k;
    }

pub passes_well_built : (set : SiteSet) → set_passes set ≡ true → IsWellBuilt set
passes_well_built set h =
    let a = and_parts (all_smaller set.sites && sites_differ set.sites) (list_all (rule_passes set.sites) set.rules) h in
    let b = and_parts (all_smaller set.sites) (sites_differ set.sites) a.0 in
    record {
      sources = smaller set.sites b.0;
      sites_once = differ_once set.sites b.1;
      each = λ i r e. rule_well_built set.sites r (each_passes (rule_passes set.sites) set.rules a.1 r (member_from_get set.rules i r e));
    }
