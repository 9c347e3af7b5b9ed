-- The sites that an arm brings: fields of its source, which wait for it.
use Rattle.std.proofs.Common.{◌≡◌, ℕ, zero, suc, Bool, true, List, [], ◌∷◌, Some, slice_get, Contains, arith}
use Rattle.std.proofs.lemmas.Grind.{common_steps}
use Rattle.model.specs.sites.Sites.{Site, match_variant_site, extract_struct_site, match_some_site, Constraint, is_variant, is_struct, is_bool, is_int, is_prim, is_present, sources_at}
use Rattle.model.specs.trees.Places.{waits, is_variant_field, is_struct_field, is_part_of, site_from, each_field, fields_of, field_sites}
use Rattle.model.proofs.Members.{nothing_in, in_cases, in_alone}
use Rattle.laws_trees.proofs.runs.Contents.{sources_in}
use Rattle.laws_trees.proofs.runs.FieldSites.{site_passes, variant_field_same, struct_field_same, part_same}

-- a field that this constraint gives this source
abbrev pub IsBrought : List Site → ℕ → Constraint → ℕ → Type 0
IsBrought sites s (is_variant ty v n) x = (i : ℕ) × (slice_get sites x ≡ Some (match_variant_site s v i))
IsBrought sites s (is_struct ty n) x = (i : ℕ) × (slice_get sites x ≡ Some (extract_struct_site s i))
IsBrought sites s is_present x = slice_get sites x ≡ Some (match_some_site s)
IsBrought sites s c x = ⊥

-- what is listed of a constraint's fields stands where one of them is found
listed_from : (sites : List Site) (p : ℕ → Site → Bool) (i n x : ℕ) → Contains (field_sites (each_field p sites i n)) x → (f : ℕ) × (site_from 0 (p f) sites ≡ Some x)
listed_from sites p i (suc n) x c = grind (arith, common_steps, listed_from sites p (suc i) n x, in_cases)
listed_from sites p i zero x c = absurd (nothing_in x c)

pub is_brought : (sites : List Site) (s : ℕ) (c : Constraint) (x : ℕ) → Contains (field_sites (fields_of sites s c)) x → IsBrought sites s c x
is_brought sites s (is_variant ty v n) x c = grind (arith, common_steps, listed_from sites (is_variant_field s v) 0 n x c, site_passes, variant_field_same s v)
is_brought sites s (is_struct ty n) x c = grind (arith, common_steps, listed_from sites (is_struct_field s) 0 n x c, site_passes, struct_field_same s)
is_brought sites s is_present x c = grind (arith, common_steps, nothing_in x, site_passes (is_part_of s) sites x, in_alone, part_same s)
is_brought sites s (is_bool b ty) x c = nothing_in x c
is_brought sites s (is_int z ty) x c = nothing_in x c
is_brought sites s (is_prim name) x c = nothing_in x c

-- it waits for the source, and is made of nothing else
pub brought_waits : (sites : List Site) (s : ℕ) (c : Constraint) (x : ℕ) → IsBrought sites s c x → waits (slice_get sites x) ≡ true
brought_waits sites s c x b = grind (arith, common_steps)

pub brought_source : (sites : List Site) (s : ℕ) (c : Constraint) (x : ℕ) → IsBrought sites s c x → sources_at sites x ≡ s ∷ []
brought_source sites s c x b = grind (arith, common_steps, sources_in)
