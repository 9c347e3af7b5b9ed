-- The fields that are listed of the constraints of sites are all that the demands ask for.
use Rattle.std.proofs.Common.{◌≡◌, ◌↔◌, ◌==◌, ℕ, zero, suc, ◌+◌, ◌<◌, true, ◌&&◌, nat_lt, List, [], ◌∷◌, ◌++◌, length, Option, Some, None, is_some, slice_get, Contains, refl, sym, ap, ◌∙◌, subst, inl, inr, eqb-true, arith}
use Rattle.std.proofs.lemmas.Bool.{cond-false, and_parts, both_ways, false_from_ne_true}
use Rattle.std.proofs.lemmas.List.{append-nil, append_assoc}
use Rattle.std.proofs.lemmas.Option.{slice_get_within}
use Rattle.std.proofs.lemmas.Grind.{common_steps}
use Rattle.laws_sites.proofs.Reports.{joined_empty}
use Rattle.laws_sites.specs.FieldLaws.{GivesField}
use Rattle.model.specs.trees.Places.{constraint_at}
use Rattle.model.specs.sites.Sites.{Site, Constraint, is_variant, is_struct, is_bool, is_int, is_prim, is_present, sources_of, sources_at, SiteTerm, variant_field, struct_field, no_site, layer, layer_at, unfold_site, fields_from, field_terms}
use Rattle.model.specs.visits.Demands.{Demands, site_term_eq}
use Rattle.model.specs.sites.Closure.{constraint_of, conflict, conflict_with, conflicts_met, before_closing, with_constraints}
use Rattle.model.proofs.Elements.{In, contains_from_in, in_from_contains, slice_in, some_is, none_some, in_either, map_in}
use Rattle.model.proofs.FewElements.{not_empty, in_one}
use Rattle.model.proofs.SameSites.{same_term, constraint_means}
use Rattle.laws_sites.proofs.Classes.{in_with_sites}
use Rattle.laws_sites.proofs.Closing.{OneEach, found_constraint, constraints_kept, from_constraints}
use Rattle.laws_sites.proofs.built.Unfolding.{SourcesFirst, unfolds}
use Rattle.core_types.specs.declared.ids.VariantId.{VariantId}
use Rattle.core_rule_sets.specs.SiteDemands.{constraint_held}
use Rattle.core_rule_sets.specs.Listings.{ascends, is_below_first, sites_of}
use Rattle.core_rule_sets.specs.SiteViews.{constraint_views, site_view}
use Rattle.core_rule_sets.specs.declared.trie_again.Constraint.{Constraint as Code}
use Rattle.core_rule_sets.specs.Verdicts.{AreVisited}
use Rattle.core_rule_sets.specs.FieldParts.{field_binding, field_term, ArePartsOf, IsPartOfSite, IsPartBy, IsPartOfAny}
use Rattle.core_rule_sets.specs.declared.demanded.Demanded.{Demanded}
use Rattle.core_rule_sets.specs.declared.closure_classes.Part.{Part}

-- 1. where no conflict is met each site has one constraint
pub there_not_none : (cs : List (SiteTerm × Constraint)) (s : SiteTerm) (a : Constraint) → In cs (s, a) → constraint_of cs s ≡ None → ⊥
there_not_none [] s a i e = i
there_not_none (c ∷ cs) s a i e = grind (arith, common_steps, there_not_none cs s a, none_some c.1, both_ways (site_term_eq c.0 s), same_term c.0 s)

no_clash_same : (b c : Constraint) → conflict_with (Some b) c ≡ [] → b ≡ c
no_clash_same b c e = grind (arith, common_steps, constraint_means b c, not_empty (conflict b c) [])

same_as_had : (had : List (SiteTerm × Constraint)) (c : SiteTerm × Constraint) → OneEach had → conflict_with (constraint_of had c.0) c.1 ≡ [] → (a : Constraint) → In had (c.0, a) → a ≡ c.1
same_as_had had c once e a i = by (constraint_of had c.0) refl
  where
    by : (o : Option Constraint) → constraint_of had c.0 ≡ o → a ≡ c.1
    by None q = absurd (there_not_none had c.0 a i q)
    by (Some x) q = once c.0 a x i (found_constraint had c.0 x q) ∙ no_clash_same x c.1 (sym (ap (λ o. conflict_with o c.1) q) ∙ e)

once_more : (had : List (SiteTerm × Constraint)) (c : SiteTerm × Constraint) → OneEach had → conflict_with (constraint_of had c.0) c.1 ≡ [] → OneEach (had ++ c ∷ [])
once_more had c once e s a b i j =
    elim (in_either had (c ∷ []) (s, a) i) [
      | inl k ↦ elim (in_either had (c ∷ []) (s, b) j) [ inl m ↦ once s a b k m | inr m ↦ against a b k (in_one c (s, b) m) ]
      | inr k ↦ grind (arith, common_steps, against b a, in_either had (c ∷ []) (s, b) j, in_one c (s, a) k, in_one c (s, b))
    ]
  where
    against : (x y : Constraint) → In had (s, x) → c ≡ (s, y) → x ≡ y
    against x y k p = grind (arith, common_steps, same_as_had had c once e x)

pub each_once : (had cs : List (SiteTerm × Constraint)) → OneEach had → conflicts_met had cs ≡ [] → OneEach (had ++ cs)
each_once had [] once e = subst OneEach (sym (append-nil had)) once
each_once had (c ∷ cs) once e =
    let p = joined_empty (conflict_with (constraint_of had c.0) c.1) (conflicts_met (had ++ c ∷ []) cs) e in
    subst OneEach (append_assoc had (c ∷ []) cs) (each_once (had ++ c ∷ []) cs (once_more had c once p.0) p.1)

-- 2. lists that ascend
pub above : (n : ℕ) (ns : List ℕ) → (is_below_first n ns && ascends ns) ≡ true → (m : ℕ) → In ns m → n < m
above n [] h m i = absurd i
above n (x ∷ xs) h m i = grind (arith, common_steps, above x xs, and_parts (nat_lt n x) (is_below_first x xs && ascends xs) h)

pub views_sites : (cs : List (ℕ × Code)) → sites_of (constraint_views cs) ≡ sites_of cs
views_sites [] = refl
views_sites (c ∷ cs) = ap (λ l. c.0 ∷ l) (views_sites cs)

pub listed_there : (cs : List (ℕ × Constraint)) (s : ℕ) (c : Constraint) → constraint_at cs s ≡ Some c → In cs (s, c)
listed_there [] s c e = absurd (none_some c e)
listed_there (d ∷ ds) s c e = grind (arith, common_steps, listed_there ds s c, some_is d.1 c)

pub there_listed : (cs : List (ℕ × Constraint)) → ascends (sites_of cs) ≡ true → (s : ℕ) (c : Constraint) → In cs (s, c) → constraint_at cs s ≡ Some c
there_listed [] h s c i = absurd i
there_listed (d ∷ ds) h s c (inl p) = grind (arith, common_steps)
there_listed (d ∷ ds) h s c (inr i) =
    let l : d.0 < s = above d.0 (sites_of ds) h s (map_in (λ (x : ℕ × Constraint). x.0) ds (s, c) i) in
    cond-false (d.0 == s) (Some d.1) (constraint_at ds s) (false_from_ne_true (d.0 == s) (λ t. let e = eqb-true d.0 s t in absurd (omega (arith, e, l))))
    ∙ there_listed ds (and_parts (is_below_first d.0 (sites_of ds)) (ascends (sites_of ds)) h).1 s c i

-- 3. fields
field_in : (f : ℕ → SiteTerm) (j n i : ℕ) → i < n → In (fields_from f j n) (f (j + i))
field_in f j zero i l = absurd (omega arith)
field_in f j (suc n) zero l = let e : j ≡ j + 0 = omega arith in inl (ap f e)
field_in f j (suc n) (suc i) l = let e : suc j + i ≡ j + suc i = omega arith in inr (subst (λ m. In (fields_from f (suc j) n) (f m)) e (field_in f (suc j) n i (omega arith)))

pub in_field : (f : ℕ → SiteTerm) (j n : ℕ) (x : SiteTerm) → In (fields_from f j n) x → (i : ℕ) × (i < n) × (x ≡ f (j + i))
in_field f j zero x h = absurd h
in_field f j (suc n) x (inl e) = let k : j ≡ j + 0 = omega arith in (0, omega arith, sym e ∙ ap f k)
in_field f j (suc n) x (inr h) =
    let r = in_field f (suc j) n x h in
    let l = r.1 in
    let k : suc j + r.0 ≡ j + suc r.0 = omega arith in
    (suc r.0, omega (arith, l), r.2 ∙ ap f k)

first_field : (f : ℕ → SiteTerm) (n i : ℕ) → i < n → In (fields_from f 0 n) (f i)
first_field f n i l = let e : 0 + i ≡ i = omega arith in subst (λ m. In (fields_from f 0 n) (f m)) e (field_in f 0 n i l)

layer_field : (f : ℕ → SiteTerm) (v : Option VariantId) (s i : ℕ) → layer f (site_view (field_binding v s i)) ≡ field_term v (f s) i
layer_field f v s i = grind (arith, common_steps)

-- what a part by a constraint is
record IsGivenPart (sites : List Site) (s : ℕ) (c : Constraint) (p : Part) : Type 0 where
  source : p.source ≡ s
  field : slice_get sites p.field ≡ Some (site_view (field_binding p.variant s p.place))
  there : (u : SiteTerm) → In (field_terms c u) (field_term p.variant u p.place)

part_by : (sites : List Site) (s : ℕ) (c : Constraint) (p : Part) → IsPartBy sites s c p → IsGivenPart sites s c p
part_by sites s (is_variant ty k n) p h = record {
  source = h.source;
  field = subst (λ o. slice_get sites p.field ≡ Some (site_view (field_binding o s p.place))) (sym h.variant) h.field;
  there = λ u. subst (λ o. In (fields_from (variant_field u k) 0 n) (field_term o u p.place)) (sym h.variant) (first_field (variant_field u k) n p.place h.place);
}
part_by sites s (is_struct ty n) p h = grind (arith, common_steps, first_field)
part_by sites s (is_bool b ty) p h = absurd h
part_by sites s (is_int z ty) p h = absurd h
part_by sites s (is_prim name) p h = absurd h
part_by sites s is_present p h = absurd h

-- a site that stands for a field is one
abbrev IsFieldSite : (ℕ → SiteTerm) → Option VariantId → SiteTerm → ℕ → Site → Type 0
IsFieldSite f v u i b = (s : ℕ) × (b ≡ site_view (field_binding v s i)) × (f s ≡ u) × In (sources_of b) s

field_site : (f : ℕ → SiteTerm) (v : Option VariantId) (u : SiteTerm) (i : ℕ) (b : Site) → layer f b ≡ field_term v u i → IsFieldSite f v u i b
field_site f v u i b e = grind arith

no_field : (v : Option VariantId) (u : SiteTerm) (i : ℕ) → no_site ≡ field_term v u i → ⊥
no_field v u i e = grind (arith, common_steps)

-- the sites of a visit that stand for one term are one
pub one_number : (sites : List Site) (before : List SiteTerm) (d : Demands) (h : Demanded) → AreVisited sites before d h
    → (a b : ℕ) → a < length sites → b < length sites → unfold_site sites a ≡ unfold_site sites b → a ≡ b
one_number sites before d h v a b l m e = v.held.once a b (unfold_site sites a) (v.held.stand.exact a l) (v.held.stand.exact b m ∙ ap Some (sym e))

-- and each term that is made has one
pub made_number : (sites : List Site) (before : List SiteTerm) (d : Demands) (h : Demanded) → AreVisited sites before d h
    → (u : SiteTerm) → In (before_closing before d).made u → (n : ℕ) × (n < length sites) × (unfold_site sites n ≡ u)
made_number sites before d h v u i =
    let s = slice_in (before_closing before d).made u i in
    let w = slice_get_within (before_closing before d).made s.0 u s.1 in
    let c = v.held.stand.count in
    let l : s.0 < length sites = omega (arith, c, w) in
    (s.0, l, some_is (unfold_site sites s.0) u (sym (v.held.stand.exact s.0 l) ∙ s.1))

-- 4. the parts that are listed
module _ (sites : List Site) (first : SourcesFirst sites) (before : List SiteTerm) (d : Demands) (h : Demanded) (v : AreVisited sites before d h)
    (cs : List (ℕ × Constraint)) (ascend : ascends (sites_of cs) ≡ true) (asked : (s : ℕ) → constraint_at cs s ≡ constraint_held h s)
    (parts : List Part) (listed : (p : Part) → Contains parts p ↔ IsPartOfAny sites cs p) where
  abbrev term : ℕ → SiteTerm
  term s = unfold_site sites s

  once : OneEach d.constraints
  once = each_once [] d.constraints (λ s a b i j. absurd i) v.agreed

  held_there : (s : ℕ) (c : Constraint) → In cs (s, c) → (s < length sites) × In d.constraints (term s, c)
  held_there s c i =
      let held : constraint_held h s ≡ Some c = sym (asked s) ∙ there_listed cs ascend s c i in
      let l = v.held.asked_within s (ap is_some held) in
      (l, from_constraints d.constraints (term s, c) (found_constraint (with_constraints [] d.constraints) (term s) c (sym (v.held.asked s l) ∙ held)))

  there_held : (n : ℕ) (s : SiteTerm) (c : Constraint) → n < length sites → term n ≡ s → In d.constraints (s, c) → In cs (n, c)
  there_held n s c l e i = by (constraint_of (with_constraints [] d.constraints) s) refl
    where
      kept : In (with_constraints [] d.constraints) (s, c)
      kept = constraints_kept d.constraints once (s, c) i

      by : (o : Option Constraint) → constraint_of (with_constraints [] d.constraints) s ≡ o → In cs (n, c)
      by None q = absurd (there_not_none (with_constraints [] d.constraints) s c kept q)
      by (Some x) q =
          let same = once s x c (from_constraints d.constraints (s, x) (found_constraint (with_constraints [] d.constraints) s x q)) i in
          listed_there cs n c (asked n ∙ v.held.asked n l ∙ ap (constraint_of (with_constraints [] d.constraints)) e ∙ q ∙ ap Some same)

  each_part : (p : Part) → Contains parts p → IsPartOfSite sites d p
  each_part p i =
      let c = (listed p).0 i in
      let g = part_by sites c.0.0 c.0.1 p c.2 in
      let t = held_there c.0.0 c.0.1 (in_from_contains cs c.0 c.1) in
      let is : term p.field ≡ field_term p.variant (term c.0.0) p.place =
      unfolds sites first p.field ∙ ap (layer_at (unfold_site sites)) g.field ∙ layer_field (unfold_site sites) p.variant c.0.0 p.place in
      let here : term c.0.0 ≡ term p.source = ap term (sym g.source) in
      record {
        source = subst (λ s. s < length sites) (sym g.source) t.0;
        field = slice_get_within sites p.field (site_view (field_binding p.variant c.0.0 p.place)) g.field;
        is = is ∙ ap (λ u. field_term p.variant u p.place) here;
        given = subst (λ u. GivesField d u (term p.field)) here (
          c.0.1,
          contains_from_in d.constraints (term c.0.0, c.0.1) t.1,
          contains_from_in (field_terms c.0.1 (term c.0.0)) (term p.field) (subst (In (field_terms c.0.1 (term c.0.0))) (sym is) (g.there (term c.0.0))),
        );
      }

  -- the number of a field
  field_number : (n : ℕ) (o : Option VariantId) (u : SiteTerm) (i m : ℕ) → n < length sites → term n ≡ u → m < length sites → term m ≡ field_term o u i
      → slice_get sites m ≡ Some (site_view (field_binding o n i))
  field_number n o u i m l e k f = by (slice_get sites m) refl
    where
      layered : layer_at (unfold_site sites) (slice_get sites m) ≡ field_term o u i
      layered = sym (unfolds sites first m) ∙ f

      by : (q : Option Site) → slice_get sites m ≡ q → slice_get sites m ≡ Some (site_view (field_binding o n i))
      by None at = absurd (no_field o u i (sym (ap (layer_at (unfold_site sites)) at) ∙ layered))
      by (Some b) at =
          let r = field_site (unfold_site sites) o u i b (sym (ap (layer_at (unfold_site sites)) at) ∙ layered) in
          let less : r.0 < m = first m r.0 (contains_from_in (sources_at sites m) r.0 (subst (λ q. In (elim q as (λ _. List ℕ) [ None ↦ [] | Some x ↦ sources_of x ]) r.0) (sym at) r.3)) in
          let same = one_number sites before d h v r.0 n (omega (arith, less, k)) l (r.2 ∙ sym e) in
          at ∙ ap Some r.1 ∙ ap (λ s. Some (site_view (field_binding o s i))) same

  abbrev Found : SiteTerm → SiteTerm → Type 0
  Found s x = (p : Part) × Contains parts p × (term p.source ≡ s) × (term p.field ≡ x)

  find_field : (s x : SiteTerm) (c : Constraint) (n m : ℕ) → n < length sites → term n ≡ s → m < length sites → term m ≡ x → In cs (n, c) → In (field_terms c s) x → Found s x
  find_field s x (is_variant ty k t) n m l e f g i there =
      let r = in_field (variant_field s k) 0 t x there in
      let a : 0 + r.0 ≡ r.0 = omega arith in
      let form : Option VariantId = Some (record { 0 = k }) in
      let p : Part = record { source = n; variant = form; place = r.0; field = m } in
      (p, (listed p).1 ((n, is_variant ty k t), contains_from_in cs (n, is_variant ty k t) i, record { source = refl; variant = refl; place = r.1; field = field_number n form s r.0 m l e f (g ∙ r.2 ∙ ap (variant_field s k) a) }), e, g)
  find_field s x (is_struct ty t) n m l e f g i there =
      let r = in_field (struct_field s) 0 t x there in
      let a : 0 + r.0 ≡ r.0 = omega arith in
      let form : Option VariantId = None in
      let p : Part = record { source = n; variant = form; place = r.0; field = m } in
      (p, (listed p).1 ((n, is_struct ty t), contains_from_in cs (n, is_struct ty t) i, record { source = refl; variant = refl; place = r.1; field = field_number n form s r.0 m l e f (g ∙ r.2 ∙ ap (struct_field s) a) }), e, g)
  find_field s x (is_bool b ty) n m l e f g i there = absurd there
  find_field s x (is_int z ty) n m l e f g i there = absurd there
  find_field s x (is_prim name) n m l e f g i there = absurd there
  find_field s x is_present n m l e f g i there = absurd there

  -- each constrained site is listed
  pub listed_number : (s : SiteTerm) (c : Constraint) → In d.constraints (s, c) → (n : ℕ) × (n < length sites) × (term n ≡ s) × In cs (n, c)
  listed_number s c j =
      let kept = constraints_kept d.constraints once (s, c) j in
      let n = made_number sites before d h v s (in_from_contains (before_closing before d).made s (v.held.asked_made s c (contains_from_in (with_constraints [] d.constraints) (s, c) kept))) in
      (n.0, n.1, n.2, there_held n.0 s c n.1 n.2 j)

  all_parts : (s x : SiteTerm) → GivesField d s x → Found s x
  all_parts s x (c, i, there) =
      let n = listed_number s c (in_from_contains d.constraints (s, c) i) in
      let m = made_number sites before d h v x (in_with_sites before d.made x (inr (in_from_contains d.made x (v.made s x (c, i, there))))) in
      find_field s x c n.0 m.0 n.1 n.2 m.1 m.2 n.3 (in_from_contains (field_terms c s) x there)

  pub are_parts : ArePartsOf sites d parts
  are_parts = record { each = each_part; all = all_parts }
