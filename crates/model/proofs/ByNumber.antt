-- What is known of names, read off by their numbers, while more names are met.
use Rattle.std.proofs.Common.{◌≡◌, ℕ, suc, nat_eq, true, false, cond, List, [], ◌∷◌, ◌++◌, Option, Some, None, option_and_then, slice_get, refl, eq-eqb, arith}
use Rattle.std.proofs.lemmas.Grind.{common_steps}
use Rattle.std.specs.Str.{bytes_eq}
use Rattle.model.specs.lists.Names.{number, has_name, with_name, with_names, IsDistinct}
use Rattle.model.specs.rules.Outcome.{then_option}
use Rattle.model.specs.lists.TypeTable.{place_from}
use Rattle.model.proofs.Bytes.{same_bytes}
use Rattle.model.proofs.FirstPlaces.{place_push_other}
use Rattle.model.proofs.Names.{found, absent, last, with_missing}
use Rattle.model.proofs.Positions.{past_end}

module _ {X : Type 0} where
  then_push : (ns : List (List ℕ)) (x : List ℕ) (P : List ℕ → Option X) → P x ≡ None → (k : ℕ) → then_option (slice_get (ns ++ x ∷ []) k) P ≡ then_option (slice_get ns k) P
  then_push (y ∷ ys) x P e (suc k) = then_push ys x P e k
  then_push ns x P e h = grind (arith, common_steps)

  -- what is known of each name stays, where nothing is known of a new one
  pub then_with : (ns : List (List ℕ)) (x : List ℕ) (P : List ℕ → Option X) → (has_name ns x ≡ false → P x ≡ None) → (k : ℕ) → then_option (slice_get (with_name ns x) k) P ≡ then_option (slice_get ns k) P
  then_with ns x P h k = grind (arith, common_steps, then_push ns x P, then_push)

  pub then_withs : (ns xs : List (List ℕ)) (P : List ℕ → Option X) → ((y : List ℕ) → has_name ns y ≡ false → P y ≡ None) → (k : ℕ) → then_option (slice_get (with_names ns xs) k) P ≡ then_option (slice_get ns k) P
  then_withs ns (x ∷ xs) P h k = grind (arith, common_steps, then_withs (with_name ns x) xs P, with_missing ns x, then_with ns x P (h x) k, with_missing, then_with)
  then_withs ns [] P h k = refl

  -- what is known of a text stands at its number
  pub of_text : (ns : List (List ℕ)) (P : List ℕ → Option X) (x : List ℕ) → (has_name ns x ≡ false → P x ≡ None) → then_option (slice_get ns (number ns x)) P ≡ P x
  of_text ns P x h = grind (arith, found, last, past_end)

-- a look-up that finds each name at its place and nothing else
module _ (ns : List (List ℕ)) (look_up : List ℕ → Option ℕ) (numbered : (x : List ℕ) (k : ℕ) → slice_get ns k ≡ Some x → look_up x ≡ Some k) (named : (x : List ℕ) (k : ℕ) → look_up x ≡ Some k → slice_get ns k ≡ Some x) where
  pub looked_up : (x : List ℕ) → look_up x ≡ cond (has_name ns x) (Some (number ns x)) None
  looked_up x =
      elim (has_name ns x) as (λ b. has_name ns x ≡ b → look_up x ≡ cond b (Some (number ns x)) None) [
        | true ↦ λ e. numbered x (number ns x) (found ns x e)
        | false ↦ λ e. elim (look_up x) as (λ o. look_up x ≡ o → o ≡ None) [
          | None ↦ λ _. refl
          | Some k ↦ λ h. absurd (absent ns x e k (named x k h))
        ] refl
      ] refl

  -- finds by a text what is known of it
  pub by_text : {X : Type 0} (at : ℕ → Option X) (P : List ℕ → Option X) → ((k : ℕ) → at k ≡ then_option (slice_get ns k) P) → (x : List ℕ) → (has_name ns x ≡ false → P x ≡ None) → option_and_then at (look_up x) ≡ P x
  by_text at P is x h = grind (arith, common_steps, looked_up x, of_text ns P x h, looked_up, of_text)

-- one more text has got a place
module _ (ns : List (List ℕ)) (once : IsDistinct ns) (n : ℕ) (x : List ℕ) (at : slice_get ns n ≡ Some x) (ts : List (List ℕ)) where
  other_text : (k : ℕ) (y : List ℕ) → nat_eq n k ≡ false → slice_get ns k ≡ Some y → bytes_eq x y ≡ false
  other_text k y e g = grind (arith, common_steps, same_bytes x y, eq-eqb n k, same_bytes, eq-eqb)

  -- at the other numbers stand the others, which keep their places
  pub others : (k : ℕ) → nat_eq n k ≡ false → then_option (slice_get ns k) (λ y. place_from 0 y ts) ≡ then_option (slice_get ns k) (λ y. place_from 0 y (ts ++ x ∷ []))
  others k e = grind (arith, place_push_other, other_text)
