-- Numbers that are found by a table of their places.
use Rattle.std.proofs.Common.{◌≡◌, ◌≢◌, ℕ, zero, suc, ◌+◌, ◌<◌, ◌==◌, ◌||◌, Bool, true, false, cond, List, [], ◌∷◌, ◌++◌, length, take, get_or, Option, Some, None, MatchOption, is_some, slice_get, refl, sym, ap, ◌∙◌, inl, inr, ◌⊎◌, eqb-true, eq-eqb}
use Rattle.std.proofs.lemmas.Bool.{cases_Bool, cond-true, cond-false, or_cases, or_left, or_right, false≢true}
use Rattle.std.proofs.lemmas.List.{append_assoc, append-nil}
use Rattle.std.proofs.lemmas.List.Folds.{list_any-append, list_any_more}
use Rattle.std.proofs.lemmas.Option.{none-some, same_Some}
use Rattle.core_containers.specs.Places.{is_at, is_in, HasPlaces, Extends, KeepsPlaces, KeepsOthers}

-- 1. a number of a list stands somewhere in it
place_of : (n : ℕ) (list : List ℕ) → is_in n list ≡ true → (i : ℕ) × (slice_get list i ≡ Some n)
place_of n [] h = absurd (false≢true h)
place_of n (m ∷ list) h =
    elim (or_cases (m == n) (is_in n list) h) [
      | inl e ↦ (0, ap (λ k. Some k) (eqb-true m n e))
      | inr r ↦ let p = place_of n list r in (suc p.0, p.1)
    ]

in_from_place : (n i : ℕ) (list : List ℕ) → slice_get list i ≡ Some n → is_in n list ≡ true
in_from_place n i [] e = absurd (none-some n e)
in_from_place n zero (m ∷ list) e = or_left (m == n) (is_in n list) (eq-eqb m n (same_Some m n e))
in_from_place n (suc i) (m ∷ list) e = or_right (m == n) (is_in n list) (in_from_place n i list e)

is_at_some : (list : List ℕ) (p n m : ℕ) → slice_get list p ≡ Some m → is_at list p n ≡ (m == n)
is_at_some list p n m e = ap (λ o. elim o [ None ↦ false | Some k ↦ k == n ]) e

-- 2. by the table
pub found_at : (list places : List ℕ) (n p : ℕ) → HasPlaces list places → slice_get places n ≡ Some p → is_at list p n ≡ is_in n list
found_at list places n p h e =
    elim (cases_Bool (is_in n list)) [
      | inl t ↦
          let at = place_of n list t in
          let same : p ≡ at.0 = same_Some p at.0 (sym e ∙ h at.0 n at.1) in
          is_at_some list p n n (ap (slice_get list) same ∙ at.1) ∙ eq-eqb n n refl ∙ sym t
      | inr f ↦ none (slice_get list p) refl f ∙ sym f
    ]
  where
    none : (o : Option ℕ) → slice_get list p ≡ o → is_in n list ≡ false → is_at list p n ≡ false
    none None q f = ap (λ o. elim o [ None ↦ false | Some k ↦ k == n ]) q
    none (Some m) q f =
        elim (cases_Bool (m == n)) [
          | inl t ↦ absurd (false≢true (sym f ∙ in_from_place n p list (q ∙ ap (λ k. Some k) (eqb-true m n t))))
          | inr g ↦ is_at_some list p n m q ∙ g
        ]

pub not_found : (list places : List ℕ) (n : ℕ) → HasPlaces list places → slice_get places n ≡ None → is_in n list ≡ false
not_found list places n h e =
    elim (cases_Bool (is_in n list)) [
      | inl t ↦ let at = place_of n list t in absurd (none-some at.0 (sym e ∙ h at.0 n at.1))
      | inr f ↦ f
    ]

-- where the table has a place for a number, the number stands there, or nowhere
pub placed : (list places : List ℕ) (n p : ℕ) → HasPlaces list places → slice_get places n ≡ Some p → MatchOption (cond (is_at list p n) (Some p) None) (is_in n list ≡ false) (λ q. slice_get list q ≡ Some n)
placed list places n p h e =
    elim (cases_Bool (is_at list p n)) [
      | inl t ↦ rw t (stands (slice_get list p) refl t)
      | inr f ↦ rw f (sym (found_at list places n p h e) ∙ f)
    ]
  where
    stands : (o : Option ℕ) → slice_get list p ≡ o → elim o [ None ↦ false | Some m ↦ m == n ] ≡ true → slice_get list p ≡ Some n
    stands None q t = absurd (false≢true t)
    stands (Some m) q t = q ∙ ap (λ k. Some k) (eqb-true m n t)

-- a number has a place where the list has it
pub has_place : (list : List ℕ) (n : ℕ) (o : Option ℕ) → MatchOption o (is_in n list ≡ false) (λ p. slice_get list p ≡ Some n) → is_some o ≡ is_in n list
has_place list n None f = sym f
has_place list n (Some p) e = sym (in_from_place n p list e)

-- 3. changes
pub found_kept : (list old new : List ℕ) → HasPlaces list old → KeepsPlaces old new → HasPlaces list new
found_kept list old new h k i n e = k n i (h i n e)

not_same : (n m i : ℕ) (list : List ℕ) → is_in n list ≡ false → slice_get list i ≡ Some m → m ≢ n
not_same n m i list f e q = false≢true (sym f ∙ in_from_place n i list (e ∙ ap (λ k. Some k) q))

pub found_others : (list old new : List ℕ) (n : ℕ) → is_in n list ≡ false → HasPlaces list old → KeepsOthers n old new → HasPlaces list new
found_others list old new n f h k i m e = k m i (not_same n m i list f e) (h i m e)

at_end : (list : List ℕ) (n i m : ℕ) → slice_get (list ++ n ∷ []) i ≡ Some m → (slice_get list i ≡ Some m) ⊎ ((i ≡ length list) × (n ≡ m))
at_end [] n zero m e = inr (refl, same_Some n m e)
at_end [] n (suc i) m e = absurd (none-some m e)
at_end (x ∷ list) n zero m e = inl e
at_end (x ∷ list) n (suc i) m e = elim (at_end list n i m e) [ inl l ↦ inl l | inr r ↦ inr (ap suc r.0, r.1) ]

pub found_more : (list places : List ℕ) (n : ℕ) → HasPlaces list places → slice_get places n ≡ Some (length list) → HasPlaces (list ++ n ∷ []) places
found_more list places n h here i m e =
    elim (at_end list n i m e) [
      | inl l ↦ h i m l
      | inr r ↦ ap (slice_get places) (sym r.1) ∙ here ∙ ap (λ k. Some k) (sym r.0)
    ]

in_front : (k : ℕ) (list : List ℕ) (i m : ℕ) → slice_get (take k list) i ≡ Some m → slice_get list i ≡ Some m
in_front zero list i m e = absurd (none-some m e)
in_front (suc k) [] i m e = absurd (none-some m e)
in_front (suc k) (x ∷ list) zero m e = e
in_front (suc k) (x ∷ list) (suc i) m e = in_front k list i m e

-- 4. numbers that are added where they aren't there
abbrev inserted : ℕ → List ℕ → List ℕ
inserted x list = cond (is_in x list) list (list ++ x ∷ [])

behind_or : (a b : Bool) → (b || (a || false)) ≡ (a || b)
behind_or true true = refl
behind_or true false = refl
behind_or false true = refl
behind_or false false = refl

in_inserted : (n x : ℕ) (list : List ℕ) → is_in n (inserted x list) ≡ ((x == n) || is_in n list)
in_inserted n x list =
    elim (cases_Bool (is_in x list)) [
      | inl t ↦ ap (is_in n) (cond-true (is_in x list) list (list ++ x ∷ []) t) ∙ there t
      | inr f ↦ ap (is_in n) (cond-false (is_in x list) list (list ++ x ∷ []) f) ∙ list_any-append (λ m. m == n) list (x ∷ []) ∙ behind_or (x == n) (is_in n list)
    ]
  where
    there : is_in x list ≡ true → is_in n list ≡ ((x == n) || is_in n list)
    there t =
        elim (cases_Bool (x == n)) [
          | inl e ↦ ap (λ k. is_in k list) (sym (eqb-true x n e)) ∙ t ∙ sym (or_left (x == n) (is_in n list) e)
          | inr f ↦ sym (ap (λ b. b || is_in n list) f)
        ]

swapped : (a b c : Bool) → (a || (b || c)) ≡ ((b || a) || c)
swapped true true c = refl
swapped true false c = refl
swapped false true c = refl
swapped false false c = refl

pub in_more : (xs : List ℕ) (i n : ℕ) (start now next : List ℕ) → i < length xs → next ≡ inserted (get_or xs i 0) now → is_in n now ≡ (is_in n (take i xs) || is_in n start)
    → is_in n next ≡ (is_in n (take (i + 1) xs) || is_in n start)
in_more xs i n start now next l e h =
    ap (is_in n) e
    ∙ in_inserted n (get_or xs i 0) now
    ∙ ap (λ b. (get_or xs i 0 == n) || b) h
    ∙ swapped (get_or xs i 0 == n) (is_in n (take i xs)) (is_in n start)
    ∙ ap (λ b. b || is_in n start) (sym (list_any_more (λ m. m == n) xs i 0 l))

pub grown_first : (list : List ℕ) → Extends list list
grown_first list = ([], sym (append-nil list))

pub grown_more : (start now next : List ℕ) (x : ℕ) → next ≡ inserted x now → Extends start now → Extends start next
grown_more start now next x e g =
    elim (cases_Bool (is_in x now)) [
      | inl t ↦ (g.0, e ∙ cond-true (is_in x now) now (now ++ x ∷ []) t ∙ g.1)
      | inr f ↦ (g.0 ++ x ∷ [], e ∙ cond-false (is_in x now) now (now ++ x ∷ []) f ∙ ap (λ l. l ++ x ∷ []) g.1 ∙ append_assoc start g.0 (x ∷ []))
    ]
