-- What is known of a term by the first of the definitions of it, where something else may decide before them.
use Rattle.std.proofs.Common.{◌≡◌, ℕ, suc, not, Bool, true, false, cond, List, [], ◌∷◌, ◌++◌, ◌⊎◌, map, slice_get, Option, None, Some, is_some, option_map, refl, sym, ap, subst, ◌∙◌, inl, inr, arith}
use Rattle.std.specs.List.{find}
use Rattle.std.specs.Str.{bytes_eq}
use Rattle.std.proofs.lemmas.Bool.{false≢true}
use Rattle.std.proofs.lemmas.Option.{same_Some}
use Rattle.std.proofs.lemmas.Grind.{common_steps}
use Rattle.model.proofs.Bytes.{same_bytes, same_self, differ}
use Rattle.core_terms.proofs.Rooting.{turned_other}

module _ {T K : Type 0} (term_of : T → List ℕ) (before : List ℕ → Bool) (other : List ℕ → Option K) (kind : T → K) where
  abbrev first_of : List T → List ℕ → Option T
  first_of ts x = find (λ t. bytes_eq (term_of t) x) ts

  abbrev known_by : List T → List ℕ → Option K
  known_by ts x = cond (before x) (other x) (option_map kind (first_of ts x))

  first_other : (ts : List T) (t : T) (x : List ℕ) → bytes_eq (term_of t) x ≡ false → first_of ts x ≡ first_of (ts ++ t ∷ []) x
  first_other [] t x e = sym (ap (λ b. cond b (Some t) None) e)
  first_other (u ∷ us) t x e = ap (cond (bytes_eq (term_of u) x) (Some u)) (first_other us t x e)

  first_new : (ts : List T) (t : T) (x : List ℕ) → first_of ts x ≡ None → bytes_eq (term_of t) x ≡ true → first_of (ts ++ t ∷ []) x ≡ Some t
  first_new [] t x none e = ap (λ b. cond b (Some t) None) e
  first_new (u ∷ us) t x none e = grind (arith, common_steps, first_new us t x)

  -- one more definition says nothing of other terms
  pub known_other : (ts : List T) (t : T) (x : List ℕ) → bytes_eq x (term_of t) ≡ false → known_by ts x ≡ known_by (ts ++ t ∷ []) x
  known_other ts t x e = ap (λ o. cond (before x) (other x) (option_map kind o)) (first_other ts t x (turned_other x (term_of t) e))

  -- it decides of its own term, where nothing did
  pub known_new : (ts : List T) (t : T) (x : List ℕ) → before (term_of t) ≡ false → first_of ts (term_of t) ≡ None → bytes_eq x (term_of t) ≡ true → Some (kind t) ≡ known_by (ts ++ t ∷ []) x
  known_new ts t x b none e =
      let same : x ≡ term_of t = same_bytes x (term_of t) e in
      let here : Some (kind t) ≡ known_by (ts ++ t ∷ []) (term_of t) =
      sym (ap (λ c. cond c (other (term_of t)) (option_map kind (first_of (ts ++ t ∷ []) (term_of t)))) b ∙ ap (option_map kind) (first_new ts t (term_of t) none (same_self (term_of t)))) in
      subst (λ y. Some (kind t) ≡ known_by (ts ++ t ∷ []) y) (sym same) here

  -- nothing decided so far
  pub not_known : (ts : List T) (x : List ℕ) → (before x ≡ true → is_some (other x) ≡ true) → not (is_some (known_by ts x)) ≡ true → (before x ≡ false) × (first_of ts x ≡ None)
  not_known ts x some h = grind (arith, common_steps)

  -- something did
  pub was_known : (ts : List T) (x : List ℕ) → not (is_some (known_by ts x)) ≡ false → (before x ≡ true) ⊎ ((j : ℕ) × (slice_get (map term_of ts) j ≡ Some x))
  was_known ts x h =
      elim (before x) as (λ b. not (is_some (cond b (other x) (option_map kind (first_of ts x)))) ≡ false → (b ≡ true) ⊎ ((j : ℕ) × (slice_get (map term_of ts) j ≡ Some x))) [
        | true ↦ λ g. inl refl
        | false ↦ λ g. inr (there ts g)
      ] h
    where
      there : (us : List T) → not (is_some (option_map kind (first_of us x))) ≡ false → (j : ℕ) × (slice_get (map term_of us) j ≡ Some x)
      there [] g = absurd (false≢true (sym g))
      there (u ∷ us) g =
          elim (bytes_eq (term_of u) x) as (λ b. bytes_eq (term_of u) x ≡ b → not (is_some (option_map kind (cond b (Some u) (first_of us x)))) ≡ false → (j : ℕ) × (slice_get (map term_of (u ∷ us)) j ≡ Some x)) [
            | true ↦ λ e _. (0, ap Some (same_bytes (term_of u) x e))
            | false ↦ λ _ k. let r = there us k in (suc r.0, r.1)
          ] refl g

  -- where none is found, none stands
  pub none_stands : (ts : List T) (x : List ℕ) → first_of ts x ≡ None → (j : ℕ) → slice_get (map term_of ts) j ≡ Some x → ⊥
  none_stands (u ∷ us) x none (suc j) h =
      elim (bytes_eq (term_of u) x) as (λ b. cond b (Some u) (first_of us x) ≡ None → ⊥) [
        | true ↦ λ g. absurd (cc)
        | false ↦ λ g. none_stands us x g j h
      ] none
  none_stands ts x none j h = grind (arith, differ, same_Some)
