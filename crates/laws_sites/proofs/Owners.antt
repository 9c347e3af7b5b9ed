-- The site whose field a site is.
use Rattle.std.proofs.Common.{◌≡◌, [], ◌∷◌, Option, Some, None, refl, sym, ◌∙◌, arith}
use Rattle.std.proofs.lemmas.Grind.{common_steps}
use Rattle.model.specs.sites.Sites.{Constraint, SiteTerm, variant_field, struct_field, field_terms}
use Rattle.model.specs.sites.Closure.{with_owners}
use Rattle.model.proofs.Elements.{In, none_some}
use Rattle.laws_sites.proofs.Patterns.{by_field}

-- the site whose field a site is
abbrev pub owner_of : SiteTerm → Option SiteTerm
owner_of (variant_field a variant i) = Some a
owner_of (struct_field a i) = Some a
owner_of s = None

-- what holds of sites that are no fields, and of a field where it holds of its owner
pub by_owners : (P : SiteTerm → Type 0) → ((s : SiteTerm) → owner_of s ≡ None → with_owners s ≡ s ∷ [] → P s)
    → ((s a : SiteTerm) → owner_of s ≡ Some a → with_owners s ≡ s ∷ with_owners a → P a → P s) → (s : SiteTerm) → P s
by_owners P alone field (variant_field a variant i) = field (variant_field a variant i) a refl refl (by_owners P alone field a)
by_owners P alone field (struct_field a i) = field (struct_field a i) a refl refl (by_owners P alone field a)
by_owners P alone field s = grind (arith, common_steps)

pub owner_of_field : (c : Constraint) (a x : SiteTerm) → In (field_terms c a) x → owner_of x ≡ Some a
owner_of_field c a = by_field (λ x. owner_of x ≡ Some a) a (λ variant i. refl) (λ i. refl) c

-- the owners of a field are itself and those of its owner
pub owners_of_field : (c : Constraint) (a x : SiteTerm) → In (field_terms c a) x → with_owners x ≡ x ∷ with_owners a
owners_of_field c a = by_field (λ x. with_owners x ≡ x ∷ with_owners a) a (λ variant i. refl) (λ i. refl) c

-- of what is no field there is no other
pub no_other_owner : (s : SiteTerm) → owner_of s ≡ None → with_owners s ≡ s ∷ []
no_other_owner = by_owners (λ s. owner_of s ≡ None → with_owners s ≡ s ∷ []) (λ s e w n. w) (λ s a e w h n. absurd (none_some a (sym n ∙ e)))
