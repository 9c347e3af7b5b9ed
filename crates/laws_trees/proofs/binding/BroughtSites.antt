-- The sites that an arm brings wait for its source, and are different.
use Rattle.std.proofs.Common.{◌≡◌, ℕ, zero, suc, ◌≤◌, Bool, true, not, List, [], ◌∷◌, Option, Some, None, slice_get, Contains, refl, sym, ap, ◌∙◌, inl, inr, arith}
use Rattle.std.proofs.lemmas.Bool.{cases_Bool, and_parts, and_from}
use Rattle.std.proofs.lemmas.Option.{same_Some}
use Rattle.std.proofs.lemmas.Grind.{common_steps}
use Rattle.model.specs.sites.Sites.{Site, match_variant_site, extract_struct_site, Constraint, is_variant, is_struct, is_bool, is_int, is_prim, is_present, sources_at}
use Rattle.model.specs.trees.Places.{is_in, waits, is_variant_field, is_struct_field, is_part_of, site_from, each_field, fields_of, field_sites}
use Rattle.model.specs.trees.Best.{are_distinct}
use Rattle.model.proofs.Members.{nothing_in, in_cases, in_alone, member_found}
use Rattle.laws_trees.proofs.runs.Contents.{sources_in}
use Rattle.laws_trees.proofs.runs.FieldSites.{site_passes, variant_field_same, struct_field_same, part_same}

-- a field of this source
pub record IsFieldOf (sites : List Site) (s x : ℕ) : Type 0 where
  pub waiting : waits (slice_get sites x) ≡ true
  pub source : sources_at sites x ≡ s ∷ []

field_of : (sites : List Site) (s x : ℕ) (b : Site) → slice_get sites x ≡ Some b → waits (Some b) ≡ true → sources_in (Some b) ≡ s ∷ [] → IsFieldOf sites s x
field_of sites s x b at w e = record { waiting = ap waits at ∙ w; source = ap sources_in at ∙ e }

module _ (sites : List Site) (p : ℕ → Site → Bool) where
  -- where the fields of a list stand
  listed_at : (i n x : ℕ) → Contains (field_sites (each_field p sites i n)) x → (f : ℕ) × (i ≤ f) × (site_from 0 (p f) sites ≡ Some x)
  listed_at i zero x c = absurd (nothing_in x c)
  listed_at i (suc n) x c = grind (arith, common_steps, listed_at (suc i) n x, in_cases)

  module _ (one : (b : Site) (i j : ℕ) → p i b ≡ true → p j b ≡ true → i ≡ j) where
    fields_distinct : (i n : ℕ) → are_distinct (field_sites (each_field p sites i n)) ≡ true
    fields_distinct i zero = refl
    fields_distinct i (suc n) = by (site_from 0 (p i) sites) refl (fields_distinct (suc i) n)
      where
        by : (o : Option ℕ) → site_from 0 (p i) sites ≡ o → are_distinct (field_sites (each_field p sites (suc i) n)) ≡ true → are_distinct (field_sites (o ∷ each_field p sites (suc i) n)) ≡ true
        by None e later = later
        by (Some y) e later =
            let rest = field_sites (each_field p sites (suc i) n) in
            and_from (not (is_in y rest)) (are_distinct rest)
            (elim (cases_Bool (is_in y rest)) [
              | inr f ↦ ap not f
              | inl t ↦
                  let r = listed_at (suc i) n y (member_found y rest t) in
                  let a = site_passes (p i) sites y e in
                  let b = site_passes (p r.0) sites y r.2 in
                  let same = one a.0 i r.0 a.2 (ap (p r.0) (same_Some a.0 b.0 (sym a.1 ∙ b.1)) ∙ b.2) in
                  let l = r.1 in
                  absurd (omega (arith, same, l))
            ])
            later

variant_once : (s v : ℕ) (b : Site) (i j : ℕ) → is_variant_field s v i b ≡ true → is_variant_field s v j b ≡ true → i ≡ j
variant_once s v b i j h k = grind (arith, common_steps, and_parts)

struct_once : (s : ℕ) (b : Site) (i j : ℕ) → is_struct_field s i b ≡ true → is_struct_field s j b ≡ true → i ≡ j
struct_once s b i j h k = grind (arith, common_steps, and_parts)

part_field : (sites : List Site) (s x : ℕ) (o : Option ℕ) → site_from 0 (is_part_of s) sites ≡ o → Contains (field_sites (o ∷ [])) x → IsFieldOf sites s x
part_field sites s x None e c = absurd (nothing_in x c)
part_field sites s x (Some y) e c = grind (arith, common_steps, site_passes, in_alone, field_of, part_same)

-- 1. what is brought
pub brought_is_field : (sites : List Site) (s : ℕ) (c : Constraint) (x : ℕ) → Contains (field_sites (fields_of sites s c)) x → IsFieldOf sites s x
brought_is_field sites s (is_variant ty v n) x c =
    let r = listed_at sites (is_variant_field s v) 0 n x c in
    let b = site_passes (is_variant_field s v r.0) sites x r.2 in
    field_of sites s x (match_variant_site s v r.0) (b.1 ∙ ap Some (variant_field_same s v r.0 b.0 b.2)) refl refl
brought_is_field sites s (is_struct ty n) x c =
    let r = listed_at sites (is_struct_field s) 0 n x c in
    let b = site_passes (is_struct_field s r.0) sites x r.2 in
    field_of sites s x (extract_struct_site s r.0) (b.1 ∙ ap Some (struct_field_same s r.0 b.0 b.2)) refl refl
brought_is_field sites s is_present x c = part_field sites s x (site_from 0 (is_part_of s) sites) refl c
brought_is_field sites s (is_bool b ty) x c = absurd (nothing_in x c)
brought_is_field sites s (is_int z ty) x c = absurd (nothing_in x c)
brought_is_field sites s (is_prim name) x c = absurd (nothing_in x c)

-- 2. is different
pub brought_distinct : (sites : List Site) (s : ℕ) (c : Constraint) → are_distinct (field_sites (fields_of sites s c)) ≡ true
brought_distinct sites s c = grind (arith, common_steps, fields_distinct, variant_once, struct_once)
