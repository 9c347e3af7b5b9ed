-- Elements of lists, as a choice by recursion, and tests of lists.
use Rattle.std.proofs.Common.{◌≡◌, ◌⊎◌, ℕ, suc, ◌<◌, Bool, true, ◌||◌, List, [], ◌∷◌, ◌++◌, map, length, get_or, Some, None, slice_get, Contains, filter, flat_map, refl, sym, ap, ◌∙◌, subst, inl, inr, arith}
use Rattle.std.proofs.lemmas.Grind.{common_steps}
use Rattle.std.proofs.lemmas.Bool.{and_parts, and_from, false≢true}
use Rattle.std.specs.List.{list_any, list_all, zip}

abbrev pub In : {X : Type 0} → List X → X → Type 0
In [] x = ⊥
In (y ∷ ys) x = (y ≡ x) ⊎ In ys x

pub or_split : (a b : Bool) → (a || b) ≡ true → (a ≡ true) ⊎ (b ≡ true)
or_split a b h = grind (arith, common_steps)

pub or_left : (a b : Bool) → a ≡ true → (a || b) ≡ true
or_left a b h = grind (arith, common_steps)

pub or_right : (a b : Bool) → b ≡ true → (a || b) ≡ true
or_right a b h = grind (arith, common_steps)

module _ {X : Type 0} where
  in_from_place : (xs : List X) (x : X) (k : ℕ) → k < length xs → get_or xs k x ≡ x → In xs x
  in_from_place (y ∷ ys) x (suc k) lt e = inr (in_from_place ys x k (omega arith) e)
  in_from_place xs x k lt e = grind (arith, common_steps)

  pub in_from_contains : (xs : List X) (x : X) → Contains xs x → In xs x
  in_from_contains xs x c = in_from_place xs x c.0 c.1 c.2

  pub contains_from_in : (xs : List X) (x : X) → In xs x → Contains xs x
  contains_from_in (y ∷ ys) x (inl e) = (0, omega arith, e)
  contains_from_in (y ∷ ys) x (inr i) = let c : Contains ys x = contains_from_in ys x i in (suc c.0, let lt : c.0 < length ys = c.1 in omega arith, c.2)
  contains_from_in [] x i = absurd i

  pub some_is : (x y : X) → Some x ≡ Some y → x ≡ y
  some_is x y e = cc

  pub none_some : (x : X) → None ≡ Some x → ⊥
  none_some x e = cc

  pub in_left : (xs ys : List X) (x : X) → In xs x → In (xs ++ ys) x
  in_left (y ∷ xs) ys x (inl e) = inl e
  in_left (y ∷ xs) ys x (inr i) = inr (in_left xs ys x i)
  in_left [] ys x i = absurd i

  pub in_right : (xs ys : List X) (x : X) → In ys x → In (xs ++ ys) x
  in_right [] ys x i = i
  in_right (y ∷ xs) ys x i = inr (in_right xs ys x i)

  pub in_either : (xs ys : List X) (x : X) → In (xs ++ ys) x → In xs x ⊎ In ys x
  in_either [] ys x i = inr i
  in_either (y ∷ xs) ys x (inl e) = inl (inl e)
  in_either (y ∷ xs) ys x (inr i) = elim (in_either xs ys x i) [ inl a ↦ inl (inr a) | inr b ↦ inr b ]

  pub in_slice : (xs : List X) (k : ℕ) (x : X) → slice_get xs k ≡ Some x → In xs x
  in_slice (y ∷ ys) (suc k) x e = inr (in_slice ys k x e)
  in_slice xs k x e = grind (arith, common_steps, none_some, some_is)

  pub slice_in : (xs : List X) (x : X) → In xs x → (k : ℕ) × (slice_get xs k ≡ Some x)
  slice_in (y ∷ ys) x (inl e) = (0, ap Some e)
  slice_in (y ∷ ys) x (inr i) = let c : (k : ℕ) × (slice_get ys k ≡ Some x) = slice_in ys x i in (suc c.0, c.1)
  slice_in [] x i = absurd i

  pub any_in : (p : X → Bool) (xs : List X) (x : X) → In xs x → p x ≡ true → list_any p xs ≡ true
  any_in p [] x i h = absurd i
  any_in p (y ∷ ys) x (inl e) h = or_left (p y) (list_any p ys) (ap p e ∙ h)
  any_in p (y ∷ ys) x (inr i) h = or_right (p y) (list_any p ys) (any_in p ys x i h)

  pub in_any : (p : X → Bool) (xs : List X) → list_any p xs ≡ true → (x : X) × In xs x × (p x ≡ true)
  in_any p (y ∷ ys) h = grind (arith, common_steps, in_any p ys, or_split (p y) (list_any p ys) h, or_split)
  in_any p [] h = absurd (false≢true h)

  pub all_in : (p : X → Bool) (xs : List X) (x : X) → list_all p xs ≡ true → In xs x → p x ≡ true
  all_in p [] x h i = absurd i
  all_in p (y ∷ ys) x h (inl e) = ap p (sym e) ∙ (and_parts (p y) (list_all p ys) h).0
  all_in p (y ∷ ys) x h (inr i) = all_in p ys x (and_parts (p y) (list_all p ys) h).1 i

  pub all_from : (p : X → Bool) (xs : List X) → ((x : X) → In xs x → p x ≡ true) → list_all p xs ≡ true
  all_from p [] f = refl
  all_from p (y ∷ ys) f = and_from (p y) (list_all p ys) (f y (inl refl)) (all_from p ys (λ x i. f x (inr i)))

pub in_filter : {X : Type 0} (p : X → Bool) (xs : List X) (x : X) → In (filter p xs) x → In xs x
in_filter p (y ∷ ys) x i = grind (arith, common_steps, in_filter p ys x)
in_filter p [] x i = absurd i

pub filter_from : {X : Type 0} (p : X → Bool) (xs : List X) (x : X) → In xs x → p x ≡ true → In (filter p xs) x
filter_from p [] x i h = absurd i
filter_from p (y ∷ ys) x (inl e) h = grind (arith, common_steps)
filter_from p (y ∷ ys) x (inr i) h = grind (arith, common_steps, filter_from p ys x i h)

pub passed_filter : {X : Type 0} (p : X → Bool) (xs : List X) (x : X) → In (filter p xs) x → p x ≡ true
passed_filter p (y ∷ ys) x i = grind (arith, common_steps, passed_filter p ys x)
passed_filter p [] x i = absurd i

pub in_map : {X Y : Type 0} (f : X → Y) (xs : List X) (y : Y) → In (map f xs) y → (x : X) × In xs x × (f x ≡ y)
in_map f [] y i = absurd i
in_map f (x ∷ xs) y (inl e) = (x, inl refl, e)
in_map f (x ∷ xs) y (inr i) = let r = in_map f xs y i in (r.0, inr r.1, r.2)

pub map_in : {X Y : Type 0} (f : X → Y) (xs : List X) (x : X) → In xs x → In (map f xs) (f x)
map_in f [] x i = absurd i
map_in f (y ∷ xs) x (inl e) = inl (ap f e)
map_in f (y ∷ xs) x (inr i) = inr (map_in f xs x i)

pub in_flat_map : {X Y : Type 0} (f : X → List Y) (xs : List X) (x : X) (y : Y) → In xs x → In (f x) y → In (flat_map f xs) y
in_flat_map f [] x y i j = absurd i
in_flat_map f (z ∷ xs) x y (inl e) j = in_left (f z) (flat_map f xs) y (subst (λ u. In (f u) y) (sym e) j)
in_flat_map f (z ∷ xs) x y (inr i) j = in_right (f z) (flat_map f xs) y (in_flat_map f xs x y i j)

pub from_flat_map : {X Y : Type 0} (f : X → List Y) (xs : List X) (y : Y) → In (flat_map f xs) y → (x : X) × In xs x × In (f x) y
from_flat_map f (x ∷ xs) y i = grind (arith, common_steps, from_flat_map f xs y, in_either (f x) (flat_map f xs) y i, in_either)
from_flat_map f [] y i = absurd i

-- elements at one place
pub zip_in : {X Y : Type 0} (xs : List X) (ys : List Y) (i : ℕ) (x : X) (y : Y) → slice_get xs i ≡ Some x → slice_get ys i ≡ Some y → In (zip xs ys) (x, y)
zip_in (a ∷ xs) (b ∷ ys) (suc i) x y e f = inr (zip_in xs ys i x y e f)
zip_in xs ys i x y e f = grind (arith, common_steps, none_some, some_is)

pub in_zip : {X Y : Type 0} (xs : List X) (ys : List Y) (e : X × Y) → In (zip xs ys) e → (i : ℕ) × (slice_get xs i ≡ Some e.0) × (slice_get ys i ≡ Some e.1)
in_zip (a ∷ xs) (b ∷ ys) e (inl p) = (0, ap (λ q. Some q.0) p, ap (λ q. Some q.1) p)
in_zip (a ∷ xs) (b ∷ ys) e (inr i) = let r = in_zip xs ys e i in (suc r.0, r.1, r.2)
in_zip _ _ e i = absurd i
