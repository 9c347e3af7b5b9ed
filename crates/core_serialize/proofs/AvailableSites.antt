-- A site is available exactly where it was brought, or needs not be and all its sources are available.
use Rattle.std.proofs.Common.{◌≡◌, ℕ, zero, suc, ◌+◌, ◌<◌, Bool, true, false, not, ◌&&◌, ◌||◌, List, [], ◌∷◌, ◌++◌, length, take, get_or, Contains, slice_get, refl, sym, ap, ◌∙◌, inl, inr, arith, ◌==◌, if◌then◌else◌}
use Rattle.std.specs.List.{list_all}
use Rattle.std.proofs.lemmas.Bool.{cases_Bool, cond-true, or_cases, or_left, or_right}
use Rattle.std.proofs.lemmas.List.{take_more}
use Rattle.std.proofs.lemmas.List.Folds.{list_all-append}
use Rattle.std.proofs.lemmas.Grind.{common_steps}
use Rattle.model.specs.sites.Sites.{Site, sources_at}
use Rattle.model.specs.trees.Places.{Around, available, is_in, waits, is_available}
use Rattle.model.proofs.Members.{nothing_in, in_head, in_tail, in_cases}
use Rattle.core_serialize.specs.AroundViews.{AreAtHand}
use Rattle.core_serialize.proofs.Tables.{is_in_append}

module _ (sites : List Site) (sources : (s a : ℕ) → Contains (sources_at sites s) a → a < s) (brought : List ℕ) where
  -- more layers than a number has change nothing
  layers : (n s : ℕ) → s < n → is_available n sites brought s ≡ is_available (suc s) sites brought s
  layers n s l = levels n (suc s) s l (omega arith)
    where
      each : (n m : ℕ) (xs : List ℕ) → ((x : ℕ) → Contains xs x → is_available n sites brought x ≡ is_available m sites brought x) → list_all (is_available n sites brought) xs ≡ list_all (is_available m sites brought) xs
      each n m [] h = refl
      each n m (x ∷ xs) h = grind (arith, common_steps, each n m xs (λ y c. h y (in_tail x y xs c)), in_head x xs, in_tail x)

      levels : (n m s : ℕ) → s < n → s < m → is_available n sites brought s ≡ is_available m sites brought s
      levels zero m s l k = absurd (omega arith)
      levels (suc n) zero s l k = absurd (omega arith)
      levels (suc n) (suc m) s l k =
          ap (λ b. is_in s brought || (not (waits (slice_get sites s)) && b))
          (each n m (sources_at sites s) (λ u c. let b = sources s u c in levels n m u (omega arith) (omega arith)))

  abbrev at_hand : ℕ → Bool
  at_hand s = is_available (suc s) sites brought s

  abbrev comes : ℕ → Bool
  comes s = not (waits (slice_get sites s))

  alike : (f g : ℕ → Bool) (xs : List ℕ) → ((x : ℕ) → Contains xs x → f x ≡ g x) → list_all f xs ≡ list_all g xs
  alike f g [] h = refl
  alike f g (x ∷ xs) h = grind (arith, common_steps, alike f g xs (λ y c. h y (in_tail x y xs c)), in_head x xs, in_tail x)

  by_sources : (s : ℕ) → at_hand s ≡ (is_in s brought || (comes s && list_all at_hand (sources_at sites s)))
  by_sources s = ap (λ b. is_in s brought || (comes s && b)) (alike (is_available s sites brought) at_hand (sources_at sites s) (λ a c. layers s a (sources s a c)))

  both_false : (b : Bool) → (b && false) ≡ false
  both_false b = grind (arith, common_steps)

  each_member : (f : ℕ → Bool) (xs : List ℕ) (x : ℕ) → Contains xs x → f x ≡ false → list_all f xs ≡ false
  each_member f [] x c h = absurd (nothing_in x c)
  each_member f (y ∷ xs) x c h = grind (arith, common_steps, each_member f xs x, in_cases y x xs c, both_false (f y))

  -- what was brought is at hand
  pub brought_at_hand : (s : ℕ) → is_in s brought ≡ true → at_hand s ≡ true
  brought_at_hand s b = by_sources s ∙ or_left (is_in s brought) (comes s && list_all at_hand (sources_at sites s)) b

  -- what has to be brought and wasn't is not
  pub missed : (s : ℕ) → is_in s brought ≡ false → waits (slice_get sites s) ≡ true → at_hand s ≡ false
  missed s b w = by_sources s ∙ ap (λ x. x || (comes s && list_all at_hand (sources_at sites s))) b ∙ ap (λ x. not x && list_all at_hand (sources_at sites s)) w

  -- nor is what wasn't brought and has a source that isn't at hand
  pub lacking : (s a : ℕ) → is_in s brought ≡ false → Contains (sources_at sites s) a → at_hand a ≡ false → at_hand s ≡ false
  lacking s a b c h = grind (arith, common_steps, by_sources s, each_member at_hand (sources_at sites s) a c h, both_false (comes s))

  -- what needs not be brought is at hand where all its sources are
  pub made_at_hand : (s : ℕ) → waits (slice_get sites s) ≡ false → list_all at_hand (sources_at sites s) ≡ true → at_hand s ≡ true
  made_at_hand s w h = by_sources s ∙ or_right (is_in s brought) (comes s && list_all at_hand (sources_at sites s)) (ap (λ x. not x && list_all at_hand (sources_at sites s)) w ∙ h)

  -- one source more
  pub source_more : (xs : List ℕ) (i x : ℕ) → i < length xs → x ≡ get_or xs i x → at_hand x ≡ true → list_all at_hand (take i xs) ≡ true → list_all at_hand (take (i + 1) xs) ≡ true
  source_more xs i x l e h k = grind (arith, common_steps, take_more xs i x l, list_all-append at_hand (take i xs) (x ∷ []))

pub neither : (a b : Bool) → (a || b) ≡ false → a ≡ false
neither a b h = grind (arith, common_steps)

-- a site that is found is noted
pub found_more : (sites : List Site) (ar : Around) (x : ℕ) (old new : List ℕ) → new ≡ (if is_in x old then old else old ++ x ∷ []) → available sites ar x ≡ true → AreAtHand sites ar old → AreAtHand sites ar new
found_more sites ar x old new e k a s h =
    elim (cases_Bool (is_in x old)) [
      | inl t ↦ a s (sym (ap (is_in s) (e ∙ cond-true (is_in x old) old (old ++ x ∷ []) t)) ∙ h)
      | inr f ↦ grind (arith, common_steps, or_cases (is_in s old) ((x == s) || false), is_in_append s old (x ∷ []), or_cases (x == s) false)
    ]
