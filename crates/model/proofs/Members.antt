-- Members of lists: by their places, in lists that are filtered, mapped and joined, and tests of members.
use Rattle.std.proofs.Common.{◌≡◌, ◌≢◌, ◌⊎◌, ℕ, zero, suc, ◌==◌, ◌<◌, Bool, true, false, List, [], ◌∷◌, map, length, get_or, Some, slice_get, Contains, All, filter, flat_map, count_by, refl, sym, ap, ◌∙◌, subst, inl, inr, arith, eqb-true, eq-eqb}
use Rattle.std.proofs.lemmas.Grind.{common_steps}
use Rattle.std.specs.List.{list_all, list_any}
use Rattle.std.proofs.lemmas.Bool.{cases_Bool, cond-true, cond-false, and_parts, and_from, or_cases, or_left, or_right, false≢true}
use Rattle.std.proofs.lemmas.List.Elements.{Contains-append_left, Contains-append_right, Contains-append_cases}
use Rattle.std.proofs.lemmas.List.Sums.{length-filter}
use Rattle.std.proofs.lemmas.Option.{none-some, same_Some, slice_get_within, slice_get-get_or, get_or_from_slice_get}
use Rattle.model.specs.sites.Sites.{Constraint}
use Rattle.model.specs.trees.Places.{is_in, constraint_at}
use Rattle.model.specs.trees.Tests.{up_to}

module _ {X : Type 0} where
  pub nothing_in : (x : X) → Contains [] x → ⊥
  nothing_in x c = (let l = c.1 in omega arith)

  pub in_head : (x : X) (xs : List X) → Contains (x ∷ xs) x
  in_head x xs = (0, omega arith, refl)

  pub in_tail : (y x : X) (xs : List X) → Contains xs x → Contains (y ∷ xs) x
  in_tail y x xs c = (let l = c.1 in (suc c.0, omega arith, c.2))

  member_at : (y x : X) (xs : List X) (k : ℕ) → k < length (y ∷ xs) → get_or (y ∷ xs) k x ≡ x → (y ≡ x) ⊎ Contains xs x
  member_at y x xs k l e = grind (arith, common_steps)

  pub in_cases : (y x : X) (xs : List X) → Contains (y ∷ xs) x → (y ≡ x) ⊎ Contains xs x
  in_cases y x xs c = member_at y x xs c.0 c.1 c.2

  pub in_alone : (y x : X) → Contains (y ∷ []) x → y ≡ x
  in_alone y x c = elim (in_cases y x [] c) [ inl e ↦ e | inr n ↦ absurd (nothing_in x n) ]

  pub some_member : (xs : List X) → xs ≢ [] → (x : X) × Contains xs x
  some_member [] h = absurd (h refl)
  some_member (x ∷ xs) h = (x, in_head x xs)

  pub member_from_get : (xs : List X) (i : ℕ) (x : X) → slice_get xs i ≡ Some x → Contains xs x
  member_from_get xs i x e = (i, slice_get_within xs i x e, get_or_from_slice_get xs i x x e)

  pub get_from_member : (xs : List X) (x : X) → Contains xs x → (i : ℕ) × (slice_get xs i ≡ Some x)
  get_from_member xs x c = (c.0, slice_get-get_or xs c.0 x c.1 ∙ ap Some c.2)

  pub get_within : (xs : List X) (i : ℕ) → i < length xs → (x : X) × (slice_get xs i ≡ Some x)
  get_within [] i l = absurd (omega arith)
  get_within (x ∷ xs) zero l = (x, refl)
  get_within (x ∷ xs) (suc i) l = get_within xs i (omega arith)

pub member_kept : (i : ℕ) (xs : List ℕ) → filter (λ j. j == i) xs ≢ [] → Contains xs i
member_kept i (x ∷ xs) h = grind (arith, common_steps, member_kept i xs, eqb-true x i, in_head x xs, in_tail x i xs, eqb-true, in_head, in_tail)
member_kept i [] h = absurd (h refl)

pub member_counted : (i : ℕ) (xs : List ℕ) → count_by (λ j. j == i) xs ≡ 1 → Contains xs i
member_counted i xs h = grind (arith, common_steps, length-filter (λ j. j == i) xs, member_kept i xs)

pub constraint_in : (ds : List (ℕ × Constraint)) (s : ℕ) (c : Constraint) → constraint_at ds s ≡ Some c → Contains ds (s, c)
constraint_in [] s c e = absurd (none-some c e)
constraint_in (d ∷ ds) s c e = grind (arith, constraint_in ds s c, same_Some, in_head, in_tail)

module _ {X : Type 0} where
  pub each_passes : (p : X → Bool) (xs : List X) → list_all p xs ≡ true → (x : X) → Contains xs x → p x ≡ true
  each_passes p (y ∷ ys) h x c = grind (arith, common_steps, each_passes p ys, and_parts (p y) (list_all p ys) h, in_cases y x ys c, and_parts, in_cases)
  each_passes p [] h x c = absurd (nothing_in x c)

  pub all_pass : (p : X → Bool) (xs : List X) → ((x : X) → Contains xs x → p x ≡ true) → list_all p xs ≡ true
  all_pass p [] h = refl
  all_pass p (y ∷ ys) h = and_from (p y) (list_all p ys) (h y (in_head y ys)) (all_pass p ys (λ x c. h x (in_tail y x ys c)))

  -- the member that passes, and that one passes
  pub one_passes : (p : X → Bool) (xs : List X) → list_any p xs ≡ true → (x : X) × Contains xs x × (p x ≡ true)
  one_passes p (y ∷ ys) h = grind (arith, common_steps, one_passes p ys, or_cases (p y) (list_any p ys) h, in_head y ys, in_tail y, or_cases, in_head, in_tail)
  one_passes p [] h = absurd (false≢true h)

  pub passes_any : (p : X → Bool) (xs : List X) (x : X) → Contains xs x → p x ≡ true → list_any p xs ≡ true
  passes_any p (y ∷ ys) x c h = grind (arith, common_steps, passes_any p ys x, in_cases y x ys c, or_left (p y) (list_any p ys), or_right (p y) (list_any p ys), in_cases, or_left, or_right)
  passes_any p [] x c h = absurd (nothing_in x c)

  pub all_members : (P : X → Type 0) (xs : List X) → ((x : X) → Contains xs x → P x) → All P xs
  all_members P xs h k d l = h (get_or xs k d) (k, l, same xs k d (get_or xs k d) l)
    where
      same : (xs : List X) (k : ℕ) (d e : X) → k < length xs → get_or xs k e ≡ get_or xs k d
      same [] k d e l = absurd (omega arith)
      same (x ∷ xs) zero d e l = refl
      same (x ∷ xs) (suc k) d e l = same xs k d e (omega arith)

  pub in_filter : (p : X → Bool) (xs : List X) (x : X) → Contains xs x → p x ≡ true → Contains (filter p xs) x
  in_filter p [] x c h = absurd (nothing_in x c)
  in_filter p (y ∷ ys) x c h =
      elim (in_cases y x ys c) [
        | inl e ↦ subst (λ l. Contains l x) (sym (cond-true (p y) (y ∷ filter p ys) (filter p ys) (ap p e ∙ h))) (subst (Contains (y ∷ filter p ys)) e (in_head y (filter p ys)))
        | inr d ↦
            let later = in_filter p ys x d h in
            elim (cases_Bool (p y)) [
              | inl t ↦ subst (λ l. Contains l x) (sym (cond-true (p y) (y ∷ filter p ys) (filter p ys) t)) (in_tail y x (filter p ys) later)
              | inr n ↦ subst (λ l. Contains l x) (sym (cond-false (p y) (y ∷ filter p ys) (filter p ys) n)) later
            ]
      ]

  pub from_filter : (p : X → Bool) (xs : List X) (x : X) → Contains (filter p xs) x → Contains xs x × (p x ≡ true)
  from_filter p [] x c = absurd (nothing_in x c)
  from_filter p (y ∷ ys) x c = grind (arith, from_filter p ys x, in_cases, in_head, in_tail)

module _ {X Y : Type 0} where
  pub from_map : (f : X → Y) (xs : List X) (y : Y) → Contains (map f xs) y → (x : X) × Contains xs x × (f x ≡ y)
  from_map f [] y c = absurd (nothing_in y c)
  from_map f (x ∷ xs) y c = grind (arith, from_map f xs y, in_cases, in_head, in_tail)

  pub in_map : (f : X → Y) (xs : List X) (x : X) → Contains xs x → Contains (map f xs) (f x)
  in_map f (y ∷ ys) x c = grind (arith, common_steps, in_map f ys x, in_cases y x ys c, in_head (f y) (map f ys), in_tail (f y) (f x) (map f ys), in_cases, in_head, in_tail)
  in_map f [] x c = absurd (nothing_in x c)

  pub in_flat_map : (f : X → List Y) (xs : List X) (x : X) (y : Y) → Contains xs x → Contains (f x) y → Contains (flat_map f xs) y
  in_flat_map f [] x y c d = absurd (nothing_in x c)
  in_flat_map f (z ∷ xs) x y c d =
      elim (in_cases z x xs c) [
        | inl e ↦ Contains-append_left (f z) (flat_map f xs) y (subst (λ w. Contains (f w) y) (sym e) d)
        | inr k ↦ Contains-append_right (f z) (flat_map f xs) y (in_flat_map f xs x y k d)
      ]

  pub from_flat_map : (f : X → List Y) (xs : List X) (y : Y) → Contains (flat_map f xs) y → (x : X) × Contains xs x × Contains (f x) y
  from_flat_map f [] y c = absurd (nothing_in y c)
  from_flat_map f (x ∷ xs) y c =
      elim (Contains-append_cases (f x) (flat_map f xs) y c) [
        | inl a ↦ (x, in_head x xs, a)
        | inr b ↦ let r = from_flat_map f xs y b in (r.0, in_tail x r.0 xs r.1, r.2)
      ]

pub member_found : (x : ℕ) (xs : List ℕ) → is_in x xs ≡ true → Contains xs x
member_found x (y ∷ ys) h = grind (arith, common_steps, member_found x ys, or_cases (y == x) (is_in x ys) h, eqb-true y x, in_head y ys, in_tail y x ys, or_cases, eqb-true, in_head, in_tail)
member_found x [] h = absurd (false≢true h)

pub member_is_in : (x : ℕ) (xs : List ℕ) → Contains xs x → is_in x xs ≡ true
member_is_in x (y ∷ ys) c = grind (arith, common_steps, member_is_in x ys, in_cases, or_left, eq-eqb, or_right)
member_is_in x [] c = absurd (nothing_in x c)

pub in_up_to : (n i : ℕ) → i < n → Contains (up_to n) i
in_up_to zero i l = absurd (omega arith)
in_up_to (suc n) i l =
    elim (cases_Bool (i == n)) [
      | inl t ↦ Contains-append_right (up_to n) (n ∷ []) i (subst (Contains (n ∷ [])) (sym (eqb-true i n t)) (in_head n []))
      | inr f ↦ Contains-append_left (up_to n) (n ∷ []) i (in_up_to n i (less i n l f))
    ]
  where
    less : (i n : ℕ) → i < suc n → (i == n) ≡ false → i < n
    less i n l f = (let d : i ≢ n = λ e. false≢true (sym f ∙ eq-eqb i n e) in omega arith)

pub from_up_to : (n i : ℕ) → Contains (up_to n) i → i < n
from_up_to (suc n) i c = grind (arith, common_steps, from_up_to n i, Contains-append_cases (up_to n) (n ∷ []) i c, in_alone n i, Contains-append_cases, in_alone)
from_up_to zero i c = absurd (nothing_in i c)
