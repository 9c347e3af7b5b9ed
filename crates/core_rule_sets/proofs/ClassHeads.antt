-- The members that classes go by: sites are of one class exactly where they go by one.
use Rattle.std.proofs.Common.{◌≡◌, ◌⊎◌, ℕ, Bool, true, ◌&&◌, List, [], ◌∷◌, slice_get, refl, sym, ap, ◌∙◌, inl, inr, eq-eqb, arith}
use Rattle.std.specs.Prelude.{nat_eq}
use Rattle.std.specs.Option.{unwrap_or}
use Rattle.std.proofs.lemmas.Bool.{and_parts, and_from, false≢true}
use Rattle.std.proofs.lemmas.Grind.{common_steps}
use Rattle.core_containers.specs.Partition.{set_of, in_set, together, joined, merged, together_after, IsPartition}
use Rattle.model.proofs.Elements.{or_split, or_left, or_right}
use Rattle.core_rule_sets.specs.FieldParts.{HaveOneName}
use Rattle.core_rule_sets.specs.Verdicts.{class_head}

-- the first of a set, or the site where there is none
abbrev first_or : ℕ → List ℕ → ℕ
first_or a s = unwrap_or (slice_get s 0) a

module _ (ks : List (List ℕ)) (p : IsPartition nat_eq ks) where
  -- sites that are together go by one
  pub one_head : (a b : ℕ) → together nat_eq ks a b ≡ true → class_head ks a ≡ class_head ks b
  one_head a b h = of (set_of nat_eq ks a) (set_of nat_eq ks b) (p.one_set a b h) h
    where
      of : (s t : List ℕ) → t ≡ s → in_set nat_eq s b ≡ true → first_or a s ≡ first_or b t
      of [] t e i = absurd (false≢true i)
      of (x ∷ xs) t e i = sym (ap (first_or b) e)

  -- a site goes by itself, or is together with the one it goes by
  pub own_head : (a : ℕ) → (class_head ks a ≡ a) ⊎ (together nat_eq ks a (class_head ks a) ≡ true)
  own_head a = of (set_of nat_eq ks a)
    where
      of : (s : List ℕ) → (first_or a s ≡ a) ⊎ (in_set nat_eq s (first_or a s) ≡ true)
      of [] = inl refl
      of (x ∷ xs) = inr (or_left (nat_eq x x) (in_set nat_eq xs x) (eq-eqb x x refl))

  swap : (a b : ℕ) → together nat_eq ks a b ≡ true → together nat_eq ks b a ≡ true
  swap a b h = p.symmetric b a ∙ h

  -- sites that go by one are one, or together
  pub same_head : (a b : ℕ) → class_head ks a ≡ class_head ks b → (a ≡ b) ⊎ (together nat_eq ks a b ≡ true)
  same_head a b e = grind (arith, common_steps, own_head a, own_head b, swap b a, swap b (class_head ks b))

  pub head_again : (a : ℕ) → class_head ks (class_head ks a) ≡ class_head ks a
  head_again a = elim (own_head a) [ inl e ↦ ap (class_head ks) e | inr h ↦ sym (one_head a (class_head ks a) h) ]

-- once two sites are merged
module _ (before after : List (List ℕ)) (p : IsPartition nat_eq before) (q : IsPartition nat_eq after) (x y : ℕ)
    (merges : (a b : ℕ) → together nat_eq after a b ≡ together_after nat_eq before x y a b) where
  abbrev Beside : ℕ → Bool
  Beside a = merged nat_eq before x y a

  pub merged_keeps : HaveOneName before (class_head after)
  merged_keeps a b e =
      elim (same_head before p a b e) [
        | inl f ↦ ap (class_head after) f
        | inr h ↦ one_head after q a b (merges a b ∙ or_right (Beside a && Beside b) (together nat_eq before a b) h)
      ]

  pub merged_joins : class_head after x ≡ class_head after y
  merged_joins =
      one_head after q x y
      (merges x y ∙ or_left (Beside x && Beside y) (together nat_eq before x y)
      (and_from (Beside x) (Beside y)
      (or_left (joined nat_eq before x x) (joined nat_eq before y x) (or_left (nat_eq x x) (together nat_eq before x x) (eq-eqb x x refl)))
      (or_right (joined nat_eq before x y) (joined nat_eq before y y) (or_left (nat_eq y y) (together nat_eq before y y) (eq-eqb y y refl)))))

  module _ {X : Type 0} (name : ℕ → X) (before_named : HaveOneName before name) (same : name x ≡ name y) where
    joined_named : (z a : ℕ) → joined nat_eq before z a ≡ true → name z ≡ name a
    joined_named z a h = grind (arith, common_steps, or_split (nat_eq z a) (together nat_eq before z a) h, one_head before p z a)

    beside_named : (a : ℕ) → Beside a ≡ true → name x ≡ name a
    beside_named a h = grind (arith, common_steps, or_split (joined nat_eq before x a) (joined nat_eq before y a) h, joined_named x a, joined_named y a)

    pub merged_named : HaveOneName after name
    merged_named a b e =
        elim (same_head after q a b e) [
          | inl f ↦ ap name f
          | inr h ↦
              elim (or_split (Beside a && Beside b) (together nat_eq before a b) (sym (merges a b) ∙ h)) [
                | inl t ↦ let s = and_parts (Beside a) (Beside b) t in sym (beside_named a s.0) ∙ beside_named b s.1
                | inr t ↦ before_named a b (one_head before p a b t)
              ]
        ]
