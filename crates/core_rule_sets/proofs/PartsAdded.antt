-- Lists of fields, to which one after another is added.
use Rattle.std.proofs.Common.{◌⊎◌, ◌↔◌, ◌==◌, ℕ, ◌+◌, List, [], ◌∷◌, ◌++◌, Option, Contains, refl, sym, subst, inl, inr, arith}
use Rattle.std.proofs.lemmas.Bool.{both_ways}
use Rattle.std.proofs.lemmas.Grind.{common_steps}
use Rattle.model.specs.sites.Sites.{Site, Constraint}
use Rattle.model.proofs.Elements.{contains_from_in, in_from_contains, in_left, in_right, in_either}
use Rattle.core_types.specs.declared.ids.VariantId.{VariantId}
use Rattle.core_rule_sets.specs.FieldParts.{IsPartAt, IsFieldPart, IsPartBy, IsPartOfAny}
use Rattle.core_rule_sets.specs.declared.closure_classes.Part.{Part}

-- one part more, where the field is a site
module _ (sites : List Site) (s : ℕ) (form : Option VariantId) (i : ℕ) where
  abbrev pub Adds : List Part → List Part → Type 0
  Adds old new = (p : Part) → Contains new p ↔ (Contains old p ⊎ IsPartAt sites s form i p)

-- the parts of a site so far
module _ (sites : List Site) (s : ℕ) (form : Option VariantId) (old : List Part) where
  abbrev pub HasParts : ℕ → List Part → Type 0
  HasParts n now = (p : Part) → Contains now p ↔ (Contains old p ⊎ IsFieldPart sites s form n p)

  pub part_more : (n : ℕ) (now next : List Part) → HasParts n now → Adds sites s form n now next → HasParts (n + 1) next
  part_more n now next had adds p = grind (arith, common_steps, both_ways (p.place == n), adds p, had p, p.place)

-- the parts of constraints so far
module _ (sites : List Site) where
  abbrev pub HasAll : List (ℕ × Constraint) → List Part → Type 0
  HasAll cs now = (p : Part) → Contains now p ↔ IsPartOfAny sites cs p

  pub all_more : (cs : List (ℕ × Constraint)) (c : ℕ × Constraint) (now next : List Part) → HasAll cs now
      → ((p : Part) → Contains next p ↔ (Contains now p ⊎ IsPartBy sites c.0 c.1 p)) → HasAll (cs ++ c ∷ []) next
  all_more cs c now next had adds p = (
    λ i.
        elim ((adds p).0 i) [
          | inl d ↦ grind (arith, common_steps, contains_from_in (cs ++ c ∷ []), in_left cs (c ∷ []), in_from_contains cs, had p)
          | inr a ↦ (c, contains_from_in (cs ++ c ∷ []) c (in_right cs (c ∷ []) c (inl refl)), a)
        ],
    λ h.
        (adds p).1
        (elim (in_either cs (c ∷ []) h.0 (in_from_contains (cs ++ c ∷ []) h.0 h.1)) [
          | inl j ↦ inl ((had p).1 (h.0, contains_from_in cs h.0 j, h.2))
          | inr j ↦ elim j [ inl e ↦ inr (subst (λ (x : ℕ × Constraint). IsPartBy sites x.0 x.1 p) (sym e) h.2) | inr n ↦ absurd n ]
        ]),
  )
