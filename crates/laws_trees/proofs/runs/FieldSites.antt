-- Which site is that of a field, and that what a site waits for is brought: by an arm, or by a loop.
use Rattle.std.proofs.Common.{◌≡◌, ◌⊎◌, ℕ, zero, suc, ◌+◌, ◌<◌, ◌≤◌, ◌==◌, Bool, true, ◌&&◌, List, [], ◌∷◌, Option, Some, None, slice_get, Contains, IsTrue, nat_lt, ltb-true, refl, sym, ap, ◌∙◌, subst, inl, inr, arith, eqb-true, eq-eqb}
use Rattle.std.proofs.lemmas.Bool.{cases_Bool, cond-true, cond-false, and_parts, and_from, false≢true, cases_lt}
use Rattle.std.proofs.lemmas.Option.{none-some, same_Some}
use Rattle.std.proofs.Math.Nat.{zero-add, add-zero, suc_inj, suc-ne-zero}
use Rattle.std.proofs.lemmas.Grind.{common_steps}
use Rattle.model.specs.lists.Names.{IsDistinct}
use Rattle.model.specs.sites.Sites.{Site, iterator_site, match_variant_site, extract_struct_site, match_some_site, Constraint, is_variant, is_struct, is_present, SetRule}
use Rattle.model.specs.trees.Places.{waits, is_variant_field, is_struct_field, is_part_of, site_from, each_field, fields_of, field_sites}
use Rattle.model.proofs.Members.{in_head, in_tail, one_passes, member_found}
use Rattle.model.specs.sites.Gates.{asks_answer, asks_struct, asks_variant, gate_demanded}
use Rattle.model.proofs.SameSites.{parts_mean}

-- 1. the first site that passes
plus_suc : (n k : ℕ) → suc n + k ≡ n + suc k
plus_suc n k = omega arith

module _ (p : Site → Bool) where
  site_from_is : (sites : List Site) (n x : ℕ) → site_from n p sites ≡ Some x → (k : ℕ) × (b : Site) × (x ≡ n + k) × (slice_get sites k ≡ Some b) × (p b ≡ true)
  site_from_is [] n x e = absurd (none-some x e)
  site_from_is (b ∷ sites) n x e =
      elim (cases_Bool (p b)) [
        | inl t ↦ (0, b, sym (same_Some n x (sym (cond-true (p b) (Some n) (site_from (suc n) p sites) t) ∙ e)) ∙ sym (add-zero n), refl, t)
        | inr f ↦
            let r = site_from_is sites (suc n) x (sym (cond-false (p b) (Some n) (site_from (suc n) p sites) f) ∙ e) in
            (suc r.0, r.1, r.2 ∙ plus_suc n r.0, r.3, r.4)
      ]

  pub site_passes : (sites : List Site) (x : ℕ) → site_from 0 p sites ≡ Some x → (b : Site) × (slice_get sites x ≡ Some b) × (p b ≡ true)
  site_passes sites x e = grind (arith, common_steps, site_from_is)

  pub site_found : (sites : List Site) (n s : ℕ) (b : Site) → slice_get sites s ≡ Some b → p b ≡ true
      → ((j : ℕ) (x : Site) → slice_get sites j ≡ Some x → p x ≡ true → j ≡ s) → site_from n p sites ≡ Some (n + s)
  site_found [] n s b e h only = absurd (none-some b e)
  site_found (x ∷ xs) n zero b e h only = grind (arith, common_steps, same_Some, add-zero)
  site_found (x ∷ xs) n (suc k) b e h only =
      elim (cases_Bool (p x)) [
        | inl t ↦ absurd (suc-ne-zero k (sym (only 0 x refl t)))
        | inr f ↦
            cond-false (p x) (Some n) (site_from (suc n) p xs) f
            ∙ site_found xs (suc n) k b e h (λ j y at t. suc_inj (only (suc j) y at t))
            ∙ ap Some (plus_suc n k)
      ]

-- 2. which site a field's is
pub variant_field_same : (s v i : ℕ) (b : Site) → is_variant_field s v i b ≡ true → b ≡ match_variant_site s v i
variant_field_same s v i b h = grind (arith, common_steps, parts_mean)

pub struct_field_same : (s i : ℕ) (b : Site) → is_struct_field s i b ≡ true → b ≡ extract_struct_site s i
struct_field_same s i b h = grind (arith, common_steps, and_parts)

pub part_same : (s : ℕ) (b : Site) → is_part_of s b ≡ true → b ≡ match_some_site s
part_same s b h = grind (arith, common_steps)

pub field_listed : (p : ℕ → Site → Bool) (sites : List Site) (i n f s : ℕ) → i ≤ f → f < i + n → site_from 0 (p f) sites ≡ Some s → Contains (field_sites (each_field p sites i n)) s
field_listed p sites i zero f s l m e = absurd (omega arith)
field_listed p sites i (suc n) f s l m e =
    elim (cases_lt i f) [
      | inl k ↦ later (site_from 0 (p i) sites) (each_field p sites (suc i) n) (field_listed p sites (suc i) n f s k (omega arith) e)
      | inr k ↦
          let same : f ≡ i = omega arith in
          let here : site_from 0 (p i) sites ≡ Some s = ap (λ j. site_from 0 (p j) sites) (sym same) ∙ e in
          subst (λ o. Contains (field_sites (o ∷ each_field p sites (suc i) n)) s) (sym here) (in_head s (field_sites (each_field p sites (suc i) n)))
    ]
  where
    later : (o : Option ℕ) (os : List (Option ℕ)) → Contains (field_sites os) s → Contains (field_sites (o ∷ os)) s
    later None os c = c
    later (Some x) os c = in_tail x s (field_sites os) c

-- the one site that is this one
only_site : (sites : List Site) → IsDistinct sites → (s : ℕ) (b : Site) → slice_get sites s ≡ Some b → (p : Site → Bool) → p b ≡ true → ((x : Site) → p x ≡ true → x ≡ b) → site_from 0 p sites ≡ Some s
only_site sites once s b e p h only = site_found p sites 0 s b e h (λ j x at t. once j s b (at ∙ ap Some (only x t)) e) ∙ ap Some (zero-add s)

-- 3. a gate that a rule demands is a field of what it asks
variant_asked : (s v i : ℕ) (d : ℕ × Constraint) → asks_variant s v i d ≡ true → (ty n : ℕ) × (d ≡ (s, is_variant ty v n)) × (i < n)
variant_asked s v i (a, is_variant ty w n) h =
    let p = and_parts ((a == s) && (w == v)) (nat_lt i n) h in
    let q = and_parts (a == s) (w == v) p.0 in
    let x = eqb-true a s q.0 in
    let y = eqb-true w v q.1 in
    (ty, n, λ k. (x k, is_variant ty (y k) n), ltb-true i n p.1)
variant_asked s v i (a, _) h = absurd (false≢true h)

struct_asked : (s i : ℕ) (d : ℕ × Constraint) → asks_struct s i d ≡ true → (ty n : ℕ) × (d ≡ (s, is_struct ty n)) × (i < n)
struct_asked s i (a, is_struct ty n) h =
    let p = and_parts (a == s) (nat_lt i n) h in
    let x = eqb-true a s p.0 in
    (ty, n, λ k. (x k, is_struct ty n), ltb-true i n p.1)
struct_asked s i (a, _) h = absurd (false≢true h)

answer_asked : (s : ℕ) (d : ℕ × Constraint) → asks_answer s d ≡ true → d ≡ (s, is_present)
answer_asked s d h = grind (arith, common_steps)

-- the arm of a test around brings it, or the loop over a call that the rule goes over
pub gate_brought : (sites : List Site) → IsDistinct sites → (r : SetRule) → (s : ℕ) (b : Site) → slice_get sites s ≡ Some b → waits (Some b) ≡ true → IsTrue (gate_demanded r (Some b))
    → ((a : ℕ) × (c : Constraint) × Contains r.constraints (a, c) × Contains (field_sites (fields_of sites a c)) s) ⊎ ((call : ℕ) × (b ≡ iterator_site call) × Contains r.iterators call)
gate_brought sites once r s (match_variant_site source v i) e w g =
    let m = one_passes (asks_variant source v i) r.constraints g in
    let d = variant_asked source v i m.0 m.2 in
    let here = and_from ((source == source) && (v == v)) (i == i) (and_from (source == source) (v == v) (eq-eqb source source refl) (eq-eqb v v refl)) (eq-eqb i i refl) in
    let found = only_site sites once s (match_variant_site source v i) e (is_variant_field source v i) here (variant_field_same source v i) in
    inl (source, is_variant d.0 v d.1, subst (Contains r.constraints) d.2 m.1, field_listed (is_variant_field source v) sites 0 d.1 i s (omega arith) (up i d.1 d.3) found)
  where
    up : (f n : ℕ) → f < n → f < 0 + n
    up f n l = omega arith
gate_brought sites once r s (extract_struct_site source i) e w g =
    let m = one_passes (asks_struct source i) r.constraints g in
    let d = struct_asked source i m.0 m.2 in
    let here = and_from (source == source) (i == i) (eq-eqb source source refl) (eq-eqb i i refl) in
    let found = only_site sites once s (extract_struct_site source i) e (is_struct_field source i) here (struct_field_same source i) in
    inl (source, is_struct d.0 d.1, subst (Contains r.constraints) d.2 m.1, field_listed (is_struct_field source) sites 0 d.1 i s (omega arith) (up i d.1 d.3) found)
  where
    up : (f n : ℕ) → f < n → f < 0 + n
    up f n l = omega arith
gate_brought sites once r s (match_some_site source) e w g =
    let m = one_passes (asks_answer source) r.constraints g in
    let d = answer_asked source m.0 m.2 in
    let found = only_site sites once s (match_some_site source) e (is_part_of source) (eq-eqb source source refl) (part_same source) in
    inl (source, is_present, subst (Contains r.constraints) d m.1, subst (λ o. Contains (field_sites (o ∷ [])) s) (sym found) (in_head s []))
gate_brought sites once r s (iterator_site source) e w g = inr (source, refl, member_found source r.iterators g)
gate_brought sites once r s _ e w g = absurd (false≢true w)
