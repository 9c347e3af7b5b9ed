-- All sites that are in a set stay noted.
use Rattle.std.proofs.Common.{◌≡◌, ℕ, true, false, ◌&&◌, List, [], refl, sym, ap, ◌∙◌, inl, inr, arith}
use Rattle.std.specs.Prelude.{nat_eq}
use Rattle.std.specs.Ordering.{nat_cmp}
use Rattle.std.specs.BTreeSet.{BTreeSet, contains, IsUnchanged, Updates}
use Rattle.std.proofs.lemmas.Bool.{and_parts}
use Rattle.std.proofs.lemmas.Grind.{common_steps}
use Rattle.core_containers.specs.Partition.{joined, merged, set_of, together, together_after}
use Rattle.model.proofs.Elements.{or_split}
use Rattle.core_rule_sets.specs.SetLists.{AreNoted}
use Rattle.core_rule_sets.proofs.DueSites.{still_open}

-- no sets have nothing in one
pub none_together : (a b : ℕ) → together nat_eq [] a b ≡ false
unfolding set_of
none_together a b = refl

pub noted_still : (sets : List (List ℕ)) (s n : BTreeSet ℕ) (x : ℕ) → AreNoted sets s → Updates nat_cmp s n x true → AreNoted sets n
noted_still sets s n x noted u a b h = still_open s n x u b (noted a b h)

pub noted_unchanged : (sets : List (List ℕ)) (s n : BTreeSet ℕ) → AreNoted sets s → IsUnchanged s n → AreNoted sets n
noted_unchanged sets s n noted same a b h = ap (λ ks. contains nat_cmp (record { keys = ks }) b) same ∙ noted a b h

-- once two sites that are noted are merged
module _ (before after : List (List ℕ)) (x y : ℕ) (n : BTreeSet ℕ) (noted : AreNoted before n) (first : contains nat_cmp n x ≡ true) (second : contains nat_cmp n y ≡ true)
    (merges : (a b : ℕ) → together nat_eq after a b ≡ together_after nat_eq before x y a b) where
  beside : (z b : ℕ) → contains nat_cmp n z ≡ true → joined nat_eq before z b ≡ true → contains nat_cmp n b ≡ true
  beside z b there h = grind (arith, common_steps, or_split (nat_eq z b) (together nat_eq before z b) h)

  pub noted_merged : AreNoted after n
  noted_merged a b h =
      elim (or_split (merged nat_eq before x y a && merged nat_eq before x y b) (together nat_eq before a b) (sym (merges a b) ∙ h)) [
        | inl t ↦
            elim (or_split (joined nat_eq before x b) (joined nat_eq before y b) (and_parts (merged nat_eq before x y a) (merged nat_eq before x y b) t).1) [
              | inl j ↦ beside x b first j
              | inr j ↦ beside y b second j
            ]
        | inr t ↦ noted a b t
      ]
