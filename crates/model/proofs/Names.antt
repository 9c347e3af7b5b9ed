-- Names that were met: each stands at its number and keeps it, and which are there once more were met.
use Rattle.std.proofs.Common.{◌≡◌, ℕ, zero, suc, ◌<◌, ◌==◌, ◌||◌, Bool, true, false, cond, List, [], ◌∷◌, ◌++◌, length, Some, slice_get, IsTrue, refl, ap, ◌∙◌, arith}
use Rattle.std.proofs.lemmas.Grind.{common_steps}
use Rattle.std.specs.Str.{bytes_eq}
use Rattle.std.proofs.lemmas.Bool.{false≢true, eq-eqb}
use Rattle.std.proofs.lemmas.Option.{same_Some, slice_get_within}
use Rattle.std.proofs.Math.Bool.{or_assoc}
use Rattle.model.specs.lists.Names.{number, has_name, with_name, with_names, IsDistinct, all_different}
use Rattle.model.proofs.Bytes.{same_bytes, same_self, differ}
use Rattle.model.proofs.Positions.{get_front, get_middle, distinct_push}

or_left : (a b : Bool) → a || b ≡ false → a ≡ false
or_left a b e = grind (arith, common_steps)

or_right : (a b : Bool) → a || b ≡ false → b ≡ false
or_right a b e = grind (arith, common_steps)

pub or_second : (a b : Bool) → b ≡ true → a || b ≡ true
or_second a b e = grind (arith, common_steps)

-- a name that was met stands at its number
pub found : (ns : List (List ℕ)) (x : List ℕ) → has_name ns x ≡ true → slice_get ns (number ns x) ≡ Some x
found (y ∷ ys) x e = grind (arith, common_steps, found ys x, same_bytes y x, same_bytes)
found [] x e = absurd (false≢true e)

-- a text that wasn't met stands nowhere
pub absent : (ns : List (List ℕ)) (x : List ℕ) → has_name ns x ≡ false → (k : ℕ) → slice_get ns k ≡ Some x → ⊥
absent [] x e k h = cc
absent (y ∷ ys) x e zero h = differ y x (or_left (bytes_eq y x) (has_name ys x) e) (same_Some y x h)
absent (y ∷ ys) x e (suc k) h = absent ys x (or_right (bytes_eq y x) (has_name ys x) e) k h

-- and its number is the count of the names
pub last : (ns : List (List ℕ)) (x : List ℕ) → has_name ns x ≡ false → length ns ≡ number ns x
last (y ∷ ys) x e = grind (arith, common_steps, last ys x)
last [] x e = refl

-- what stands among names was met
pub has_at : (ns : List (List ℕ)) (k : ℕ) (x : List ℕ) → slice_get ns k ≡ Some x → has_name ns x ≡ true
has_at ns k x e = grind (arith, common_steps, absent ns x, absent)

-- the number of a name that was met is below their count
pub number_below : (ns : List (List ℕ)) (x : List ℕ) → has_name ns x ≡ true → number ns x < length ns
number_below ns x h = slice_get_within ns (number ns x) x (found ns x h)

-- what stands at a text's number is this text
pub at_number : (ns : List (List ℕ)) (x z : List ℕ) → slice_get ns (number ns x) ≡ Some z → z ≡ x
at_number (y ∷ ys) x z e = grind (arith, common_steps, at_number ys x z, same_Some y z, same_bytes y x, same_Some, same_bytes)
at_number [] x z e = absurd (cc)

-- names are told apart by their numbers
pub same_test : (ns : List (List ℕ)) (y x : List ℕ) → has_name ns y ≡ true → (number ns y == number ns x) ≡ bytes_eq y x
same_test ns y x h = grind (arith, common_steps, at_number ns x y, found ns y h, same_self y, eq-eqb (number ns y) (number ns x), same_bytes y x)

-- names of two lists
pub has_append : (xs ys : List (List ℕ)) (x : List ℕ) → has_name (xs ++ ys) x ≡ has_name xs x || has_name ys x
has_append (z ∷ zs) ys x = grind (arith, common_steps, has_append zs ys x, or_assoc (bytes_eq z x) (has_name zs x) (has_name ys x), or_assoc)
has_append [] ys x = refl

pub has_left : (xs ys : List (List ℕ)) (x : List ℕ) → has_name xs x ≡ true → has_name (xs ++ ys) x ≡ true
has_left xs ys x h = has_append xs ys x ∙ ap (λ b. b || has_name ys x) h

pub has_right : (xs ys : List (List ℕ)) (x : List ℕ) → has_name ys x ≡ true → has_name (xs ++ ys) x ≡ true
has_right xs ys x h = has_append xs ys x ∙ or_second (has_name xs x) (has_name ys x) h

-- one more name
pub known_name : (ns : List (List ℕ)) (x : List ℕ) → has_name ns x ≡ true → with_name ns x ≡ ns
known_name ns x e = ap (λ b. cond b ns (ns ++ x ∷ [])) e

pub has_with : (ns : List (List ℕ)) (y x : List ℕ) → has_name ns x ≡ true → has_name (with_name ns y) x ≡ true
has_with ns y x h = elim (has_name ns y) as (λ b. has_name (cond b ns (ns ++ y ∷ [])) x ≡ true) [ true ↦ h | false ↦ has_left ns (y ∷ []) x h ]

has_last : (ns : List (List ℕ)) (x : List ℕ) → has_name (ns ++ x ∷ []) x ≡ true
has_last ns x = has_right ns (x ∷ []) x (ap (λ b. b || false) (same_self x))

pub has_new : (ns : List (List ℕ)) (x : List ℕ) → has_name (with_name ns x) x ≡ true
has_new ns x = grind (arith, common_steps, has_last ns x, has_last)

pub with_missing : (ns : List (List ℕ)) (x y : List ℕ) → has_name (with_name ns x) y ≡ false → (has_name ns y ≡ false) × (bytes_eq x y ≡ false)
with_missing ns x y e = grind (arith, common_steps, has_with ns x y, same_bytes x y, has_new ns x, has_with, same_bytes, has_new)

-- a name that is met stands at its number
pub with_name_at : (ns : List (List ℕ)) (x : List ℕ) → slice_get (with_name ns x) (number ns x) ≡ Some x
with_name_at ns x = grind (arith, found, last, get_middle)

get_with : (ns : List (List ℕ)) (y : List ℕ) (k : ℕ) (x : List ℕ) → slice_get ns k ≡ Some x → slice_get (with_name ns y) k ≡ Some x
get_with ns y k x h = elim (has_name ns y) as (λ b. slice_get (cond b ns (ns ++ y ∷ [])) k ≡ Some x) [ true ↦ h | false ↦ get_front ns (y ∷ []) k x h ]

number_push : (ns : List (List ℕ)) (y x : List ℕ) → has_name ns x ≡ true → number (ns ++ y ∷ []) x ≡ number ns x
number_push (z ∷ zs) y x e = grind (arith, common_steps, number_push zs y x)
number_push [] y x e = absurd (false≢true e)

number_last : (ns : List (List ℕ)) (x : List ℕ) → number (ns ++ x ∷ []) x ≡ number ns x
number_last (y ∷ ys) x = grind (arith, common_steps, number_last ys x)
number_last [] x = rw (same_self x) refl

number_with : (ns : List (List ℕ)) (y x : List ℕ) → has_name ns x ≡ true → number (with_name ns y) x ≡ number ns x
number_with ns y x h = elim (has_name ns y) as (λ b. number (cond b ns (ns ++ y ∷ [])) x ≡ number ns x) [ true ↦ refl | false ↦ number_push ns y x h ]

pub number_new : (ns : List (List ℕ)) (x : List ℕ) → number (with_name ns x) x ≡ number ns x
number_new ns x = elim (has_name ns x) as (λ b. number (cond b ns (ns ++ x ∷ [])) x ≡ number ns x) [ true ↦ refl | false ↦ number_last ns x ]

distinct_with : (ns : List (List ℕ)) (y : List ℕ) → IsDistinct ns → IsDistinct (with_name ns y)
distinct_with ns y d = grind (arith, common_steps, distinct_push ns y d, absent ns y, distinct_push, absent)

-- many more names: those that were met stay at their numbers, and each new one is met
pub with_names_append : (ns xs ys : List (List ℕ)) → with_names ns (xs ++ ys) ≡ with_names (with_names ns xs) ys
with_names_append ns [] ys = refl
with_names_append ns (x ∷ xs) ys = with_names_append (with_name ns x) xs ys

pub has_kept : (ns ys : List (List ℕ)) (x : List ℕ) → has_name ns x ≡ true → has_name (with_names ns ys) x ≡ true
has_kept ns [] x h = h
has_kept ns (y ∷ ys) x h = has_kept (with_name ns y) ys x (has_with ns y x h)

pub has_met : (ns ys : List (List ℕ)) (x : List ℕ) → has_name ys x ≡ true → has_name (with_names ns ys) x ≡ true
has_met ns (y ∷ ys) x h = grind (arith, common_steps, has_met (with_name ns y) ys x, has_kept (with_name ns y) ys x, same_bytes y x, has_new ns y, has_kept, same_bytes, has_new)
has_met ns [] x h = absurd (false≢true h)

pub missing_before : (ns xs : List (List ℕ)) (x : List ℕ) → has_name (with_names ns xs) x ≡ false → has_name ns x ≡ false
missing_before ns xs x e = grind (arith, common_steps, has_kept ns xs x, has_kept)

pub get_kept : (ns ys : List (List ℕ)) (k : ℕ) (x : List ℕ) → slice_get ns k ≡ Some x → slice_get (with_names ns ys) k ≡ Some x
get_kept ns [] k x h = h
get_kept ns (y ∷ ys) k x h = get_kept (with_name ns y) ys k x (get_with ns y k x h)

pub number_kept : (ns ys : List (List ℕ)) (x : List ℕ) → has_name ns x ≡ true → number (with_names ns ys) x ≡ number ns x
number_kept ns [] x h = refl
number_kept ns (y ∷ ys) x h = number_kept (with_name ns y) ys x (has_with ns y x h) ∙ number_with ns y x h

-- a name keeps its number, whatever comes later
pub number_stays : (ns ys : List (List ℕ)) (x : List ℕ) → number (with_names (with_name ns x) ys) x ≡ number ns x
number_stays ns ys x = number_kept (with_name ns x) ys x (has_new ns x) ∙ number_new ns x

pub distinct_names : (ns ys : List (List ℕ)) → IsDistinct ns → IsDistinct (with_names ns ys)
distinct_names ns [] d = d
distinct_names ns (y ∷ ys) d = distinct_names (with_name ns y) ys (distinct_with ns y d)

-- names that are all different stand once
first_absent : (x : List ℕ) (xs : List (List ℕ)) → IsTrue (all_different (x ∷ xs)) → has_name xs x ≡ false
first_absent x xs t = grind (arith, common_steps)

rest_different : (x : List ℕ) (xs : List (List ℕ)) → IsTrue (all_different (x ∷ xs)) → IsTrue (all_different xs)
rest_different x xs t = grind (arith, common_steps)

pub distinct_if : (xs : List (List ℕ)) → IsTrue (all_different xs) → IsDistinct xs
distinct_if (y ∷ ys) t (suc j) (suc k) x p q = ap suc (distinct_if ys (rest_different y ys t) j k x p q)
distinct_if xs t j k x p q = grind (arith, common_steps, absent, first_absent)
