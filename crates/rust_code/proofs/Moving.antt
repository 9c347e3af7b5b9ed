-- Moves in place of clones: what they are judged by may be said in several ways.
use Rattle.std.proofs.Common.{◌≡◌, ◌&&◌, ◌||◌, ◌++◌, ◌∷◌, ◌==◌, [], ℕ, Bool, true, false, not, List, inl, inr, refl, sym, ap, ◌∙◌, append_assoc}
use Rattle.std.proofs.Math.Bool.{or_comm}
use Rattle.std.proofs.lemmas.Bool.{cases_Bool, cond-true, cond-false, eqb-true}
use Rattle.std.proofs.lemmas.List.Folds.{list_any-append}
use Rattle.model.specs.trees.Places.{is_in}
use Rattle.model_code.specs.Code.{Place, PlaceUse}
use Rattle.model_code.specs.Modes.{Types}
use Rattle.model_code.specs.MovedOnce.{any_touch, beside, touches, without}
use Rattle.model_code.specs.Saving.{all_saved, saved_use}
use Rattle.rust_code.specs.Spots.{HasSame}

-- 1. uses that are handed on together
or_swap : (a b c : Bool) → (a || (b || c)) ≡ (b || (a || c))
or_swap true true c = refl
or_swap true false c = refl
or_swap false b c = refl

any_touch_pushed : (q : Place) (us : List PlaceUse) (u m : PlaceUse) → m.place ≡ u.place → any_touch q (us ++ m ∷ []) ≡ any_touch q (u ∷ us)
any_touch_pushed q [] u m e = ap (λ p. touches q p || false) e
any_touch_pushed q (v ∷ us) u m e = ap (λ b. touches q v.place || b) (any_touch_pushed q us u m e) ∙ or_swap (touches q v.place) (touches q u.place) (any_touch q us)

module _ (types : Types) (inside : List ℕ) (later : Place → Bool) where
  -- those before are asked for their places alone
  all_saved_same : (a b us : List PlaceUse) → ((q : Place) → any_touch q a ≡ any_touch q b) → all_saved types inside later a us ≡ all_saved types inside later b us
  all_saved_same a b [] e = refl
  all_saved_same a b (u ∷ us) e =
      λ i. saved_use types inside (λ q. (e q i || any_touch q us) || later q) u ∷ all_saved_same (u ∷ a) (u ∷ b) us (λ q. ap (λ x. touches q u.place || x) (e q)) i

  pub all_saved_more : (out us : List PlaceUse) (u m : PlaceUse) → m ≡ saved_use types inside (beside out us later) u
      → (out ++ m ∷ []) ++ all_saved types inside later (out ++ m ∷ []) us ≡ out ++ all_saved types inside later out (u ∷ us)
  all_saved_more out us u m e =
      append_assoc out (m ∷ []) (all_saved types inside later (out ++ m ∷ []) us)
      ∙ ap (λ l. out ++ m ∷ l) (all_saved_same (out ++ m ∷ []) (u ∷ out) us (λ q. any_touch_pushed q out u m (ap (λ x. x.place) e)))
      ∙ ap (λ x. out ++ x ∷ all_saved types inside later (u ∷ out) us) e

-- 2. the same variables in another order
pub same_joined : (xs ys zs : List ℕ) → HasSame xs ys → HasSame (xs ++ zs) (zs ++ ys)
same_joined xs ys zs e v =
    list_any-append (λ y. y == v) xs zs ∙ ap (λ b. b || is_in v zs) (e v) ∙ or_comm (is_in v ys) (is_in v zs) ∙ sym (list_any-append (λ y. y == v) zs ys)

and_false : (a : Bool) → false ≡ (a && false)
and_false true = refl
and_false false = refl

different : (v x y : ℕ) → (y == v) ≡ false → (v == x) ≡ true → (y == x) ≡ false
different v x y e h = ap (λ k. y == k) (sym (eqb-true v x h)) ∙ e

-- in a list without a variable is all else of it
in_without : (v x : ℕ) (xs : List ℕ) → is_in x (without v xs) ≡ (not (v == x) && is_in x xs)
in_without v x [] = and_false (not (v == x))
in_without v x (y ∷ xs) = elim (cases_Bool (y == v)) [
  | inl e ↦ ap (is_in x) (cond-true (y == v) (without v xs) (y ∷ without v xs) e) ∙ in_without v x xs ∙ taken (v == x) (y == x) (is_in x xs) (ap (λ k. k == x) (eqb-true y v e))
  | inr e ↦ ap (is_in x) (cond-false (y == v) (without v xs) (y ∷ without v xs) e) ∙ ap (λ b. (y == x) || b) (in_without v x xs) ∙ kept (v == x) (y == x) (is_in x xs) (different v x y e)
]
  where
    taken : (a b c : Bool) → b ≡ a → (not a && c) ≡ (not a && (b || c))
    taken true b c e = refl
    taken false b c e = ap (λ k. k || c) (sym e)

    kept : (a b c : Bool) → (a ≡ true → b ≡ false) → (b || (not a && c)) ≡ (not a && (b || c))
    kept true b c e = ap (λ k. k || false) (e refl)
    kept false b c e = refl

pub same_without : (v : ℕ) (xs ys : List ℕ) → HasSame xs ys → HasSame (without v xs) (without v ys)
same_without v xs ys e x = in_without v x xs ∙ ap (λ b. not (v == x) && b) (e x) ∙ sym (in_without v x ys)
