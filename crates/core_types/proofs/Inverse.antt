-- Names and look-ups of them, with one more name.
use Rattle.std.proofs.Common.{◌≡◌, ℕ, true, false, List, [], ◌∷◌, ◌++◌, length, Option, Some, option_map, slice_get, refl, sym, ◌∙◌, arith}
use Rattle.std.specs.Map.{update}
use Rattle.std.specs.Str.{bytes_eq}
use Rattle.std.proofs.lemmas.Grind.{common_steps}
use Rattle.model.specs.lists.Names.{IsDistinct, AreNumbersOf}
use Rattle.model.proofs.Bytes.{same_bytes, differ}
use Rattle.model.proofs.Positions.{get_front, get_middle, get_push_cases}

-- what is read off a map with one more entry
pub update_read : {X Y : Type 0} (f : X → Y) (old new : List ℕ → Option X) (name : List ℕ) (w : X) → ((q : List ℕ) → new q ≡ update bytes_eq old name (Some w) q) → (q : List ℕ) → option_map f (new q) ≡ update bytes_eq (λ p. option_map f (old p)) name (Some (f w)) q
update_read f old new name w is q = grind (arith, common_steps)

module _ (names : List (List ℕ)) (old new : List ℕ → Option ℕ) (i : AreNumbersOf names old) (name : List ℕ) (absent : (k : ℕ) → slice_get names k ≡ Some name → ⊥) (is : (q : List ℕ) → new q ≡ update bytes_eq old name (Some (length names)) q) where
  at_same : (q : List ℕ) → bytes_eq name q ≡ true → new q ≡ Some (length names)
  at_same q e = is q ∙ rw e refl

  at_other : (q : List ℕ) → bytes_eq name q ≡ false → new q ≡ old q
  at_other q e = is q ∙ rw e refl

  pub inverse_push : AreNumbersOf (names ++ name ∷ []) new
  inverse_push = record {
    numbered = λ q k h.
        elim (bytes_eq name q) as (λ b. bytes_eq name q ≡ b → new q ≡ Some k) [
          | true ↦ grind (arith, common_steps, same_bytes name q, at_same q, get_push_cases names name q k h)
          | false ↦ grind (arith, common_steps, at_other q, differ name q, get_push_cases names name q k h)
        ] refl;
    named = λ q k h.
        elim (bytes_eq name q) as (λ b. bytes_eq name q ≡ b → slice_get (names ++ name ∷ []) k ≡ Some q) [
          | true ↦ λ e. let same = same_bytes name q e in let n : length names ≡ k = cc (at_same q e) in rw (← n, ← same) (get_middle names name [])
          | false ↦ λ e. get_front names (name ∷ []) k q (i.named q k (sym (at_other q e) ∙ h))
        ] refl;
  }

-- each name stands once
pub inverse_distinct : (names : List (List ℕ)) (look : List ℕ → Option ℕ) → AreNumbersOf names look → IsDistinct names
inverse_distinct names look i j k x p q = let first = i.numbered x j p in let second = i.numbered x k q in cc
