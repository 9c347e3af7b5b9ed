-- Rounds of joining come to their end: each round that joins anything lessens the number of sites that are their own
-- class's name.
use Rattle.std.proofs.Common.{◌≡◌, ◌≢◌, ◌↔◌, ℕ, zero, suc, ◌≤◌, Bool, true, false, if◌then◌else◌, List, [], ◌∷◌, ◌++◌, length, Contains, flat_map, refl, sym, ap, ◌∙◌, subst, inl, inr, arith}
use Rattle.std.proofs.lemmas.Bool.{cases_Bool, cond-true, cond-false, and_parts, false≢true}
use Rattle.std.specs.List.{list_all}
use Rattle.std.proofs.lemmas.Grind.{common_steps}
use Rattle.model.specs.sites.Sites.{SiteTerm, field_terms}
use Rattle.model.specs.visits.Demands.{Demands, site_term_eq}
use Rattle.model.specs.sites.Closure.{class_name, same_class, joining, joining_each, due, joined_in, spoken_of, class_names, Joined, IsUnreachable, has_conflict, is_unreachable}
use Rattle.model.proofs.Elements.{In, in_from_contains, in_left, in_right, in_slice, all_in, from_flat_map, in_flat_map, in_zip}
use Rattle.model.proofs.SameSites.{term_means, same_term}
use Rattle.laws_sites.proofs.Names.{same_name, name_same, named_alike}
use Rattle.laws_sites.proofs.Classes.{IsSettled, HasNoConflict, no_conflict, joined_named, in_due, asked_spoken, equal_spoken}
use Rattle.laws_sites.proofs.Verdict.{conflict_is, verdict_is, unreachable_is}

-- the number of elements that pass a test
counted : {X : Type 0} → (X → Bool) → List X → ℕ
counted p [] = 0
counted p (x ∷ xs) = if p x then suc (counted p xs) else counted p xs

-- what passes one test passes another
abbrev Implies : {X : Type 0} → (X → Bool) → (X → Bool) → Type 0
Implies p q = (x : _) → p x ≡ true → q x ≡ true

module _ {X : Type 0} (p q : X → Bool) (within : Implies p q) where
  counted_within : (xs : List X) → counted p xs ≤ counted q xs
  unfolding counted
  counted_within [] = omega arith
  counted_within (x ∷ xs) =
      let rest = counted_within xs in
      elim (cases_Bool (p x)) [
        | inl t ↦
            subst (λ n. n ≤ (if q x then suc (counted q xs) else counted q xs)) (sym (cond-true (p x) (suc (counted p xs)) (counted p xs) t))
            (subst (λ n. suc (counted p xs) ≤ n) (sym (cond-true (q x) (suc (counted q xs)) (counted q xs) (within x t))) (omega (arith, rest)))
        | inr f ↦
            subst (λ n. n ≤ (if q x then suc (counted q xs) else counted q xs)) (sym (cond-false (p x) (suc (counted p xs)) (counted p xs) f))
            (elim (cases_Bool (q x)) [
              | inl t ↦ subst (λ n. counted p xs ≤ n) (sym (cond-true (q x) (suc (counted q xs)) (counted q xs) t)) (omega (arith, rest))
              | inr g ↦ subst (λ n. counted p xs ≤ n) (sym (cond-false (q x) (suc (counted q xs)) (counted q xs) g)) rest
            ])
      ]

  counted_less : (xs : List X) (x : X) → In xs x → q x ≡ true → p x ≡ false → suc (counted p xs) ≤ counted q xs
  unfolding counted
  counted_less [] x i h n = absurd i
  counted_less (y ∷ xs) x (inl e) h n =
      let rest = counted_within xs in
      let none : p y ≡ false = ap p e ∙ n in
      let one : q y ≡ true = ap q e ∙ h in
      subst (λ m. suc m ≤ (if q y then suc (counted q xs) else counted q xs)) (sym (cond-false (p y) (suc (counted p xs)) (counted p xs) none))
      (subst (λ m. suc (counted p xs) ≤ m) (sym (cond-true (q y) (suc (counted q xs)) (counted q xs) one)) (omega (arith, rest)))
  counted_less (y ∷ xs) x (inr i) h n =
      let rest = counted_less xs x i h n in
      elim (cases_Bool (p y)) [
        | inl t ↦
            subst (λ m. suc m ≤ (if q y then suc (counted q xs) else counted q xs)) (sym (cond-true (p y) (suc (counted p xs)) (counted p xs) t))
            (subst (λ m. suc (suc (counted p xs)) ≤ m) (sym (cond-true (q y) (suc (counted q xs)) (counted q xs) (within y t))) (omega (arith, rest)))
        | inr f ↦
            subst (λ m. suc m ≤ (if q y then suc (counted q xs) else counted q xs)) (sym (cond-false (p y) (suc (counted p xs)) (counted p xs) f))
            (elim (cases_Bool (q y)) [
              | inl t ↦ subst (λ m. suc (counted p xs) ≤ m) (sym (cond-true (q y) (suc (counted q xs)) (counted q xs) t)) (omega (arith, rest))
              | inr g ↦ subst (λ m. suc (counted p xs) ≤ m) (sym (cond-false (q y) (suc (counted q xs)) (counted q xs) g)) rest
            ])
      ]

counted_most : {X : Type 0} (p : X → Bool) (xs : List X) → counted p xs ≤ length xs
unfolding counted
counted_most p [] = omega arith
counted_most p (x ∷ xs) =
    let rest = counted_most p xs in
    elim (cases_Bool (p x)) [
      | inl t ↦ subst (λ n. n ≤ length (x ∷ xs)) (sym (cond-true (p x) (suc (counted p xs)) (counted p xs) t)) (omega (arith, rest))
      | inr f ↦ subst (λ n. n ≤ length (x ∷ xs)) (sym (cond-false (p x) (suc (counted p xs)) (counted p xs) f)) (omega (arith, rest))
    ]

-- names that are their own names, and that stay among some sites
record AreNames (us : List SiteTerm) (rs : List (SiteTerm × SiteTerm)) : Type 0 where
  again : (x : SiteTerm) → class_name rs (class_name rs x) ≡ class_name rs x
  stay : (x : SiteTerm) → In us x → In us (class_name rs x)

is_own : List (SiteTerm × SiteTerm) → SiteTerm → Bool
is_own rs x = site_term_eq (class_name rs x) x

module _ (us : List SiteTerm) where
  -- one more renaming, of the names of two classes
  module _ (rs : List (SiteTerm × SiteTerm)) (a b : SiteTerm) where
    added : List (SiteTerm × SiteTerm)
    added = (class_name rs a, class_name rs b) ∷ rs

    new_here : (x : SiteTerm) → class_name rs x ≡ class_name rs a → class_name added x ≡ class_name rs b
    unfolding added
    new_here x e = cond-true (site_term_eq (class_name rs x) (class_name rs a)) (class_name rs b) (class_name rs x) (same_term (class_name rs x) (class_name rs a) e)

    new_there : (x : SiteTerm) → site_term_eq (class_name rs x) (class_name rs a) ≡ false → class_name added x ≡ class_name rs x
    unfolding added
    new_there x f = cond-false (site_term_eq (class_name rs x) (class_name rs a)) (class_name rs b) (class_name rs x) f

    differs : (x : SiteTerm) → class_name rs x ≢ class_name rs a → site_term_eq (class_name rs x) (class_name rs a) ≡ false
    differs x n = grind (arith, common_steps, term_means)

    abbrev AreDifferent : Type 0
    AreDifferent = class_name rs a ≢ class_name rs b

    not_first : AreNames us rs → AreDifferent → class_name rs (class_name rs b) ≢ class_name rs a
    not_first good apart e = apart (sym e ∙ good.again b)

    added_names : AreNames us rs → AreDifferent → In us b → AreNames us added
    added_names good apart m = record {
      again = λ x. elim (cases_Bool (site_term_eq (class_name rs x) (class_name rs a))) [
        | inl t ↦
            let e = new_here x (term_means (class_name rs x) (class_name rs a) t) in
            ap (class_name added) e ∙ new_there (class_name rs b) (differs (class_name rs b) (not_first good apart)) ∙ good.again b ∙ sym e
        | inr f ↦
            let e = new_there x f in
            ap (class_name added) e ∙ new_there (class_name rs x) (ap (λ n. site_term_eq n (class_name rs a)) (good.again x) ∙ f) ∙ good.again x ∙ sym e
      ];
      stay = λ x i. elim (cases_Bool (site_term_eq (class_name rs x) (class_name rs a))) [
        | inl t ↦ subst (In us) (sym (new_here x (term_means (class_name rs x) (class_name rs a) t))) (good.stay b m)
        | inr f ↦ subst (In us) (sym (new_there x f)) (good.stay x i)
      ];
    }

    own_before : AreNames us rs → AreDifferent → (x : SiteTerm) → is_own added x ≡ true → is_own rs x ≡ true
    unfolding is_own
    own_before good apart x h =
        elim (cases_Bool (site_term_eq (class_name rs x) (class_name rs a))) [
          | inl t ↦
              let e = new_here x (term_means (class_name rs x) (class_name rs a) t) in
              let x_is : class_name rs b ≡ x = sym e ∙ term_means (class_name added x) x h in
              absurd (not_first good apart (ap (class_name rs) x_is ∙ term_means (class_name rs x) (class_name rs a) t))
          | inr f ↦ ap (λ n. site_term_eq n x) (sym (new_there x f)) ∙ h
        ]

    less_own : AreNames us rs → AreDifferent → In us a → suc (counted (is_own added) us) ≤ counted (is_own rs) us
    unfolding is_own
    less_own good apart m =
        counted_less (is_own added) (is_own rs) (own_before good apart) us (class_name rs a) (good.stay a m)
        (same_term (class_name rs (class_name rs a)) (class_name rs a) (good.again a))
        (elim (cases_Bool (site_term_eq (class_name added (class_name rs a)) (class_name rs a))) [
          | inl t ↦ absurd (apart (sym (sym (new_here (class_name rs a) (good.again a)) ∙ term_means (class_name added (class_name rs a)) (class_name rs a) t)))
          | inr f ↦ f
        ])

  -- after one joining the names are good, and no more of them; fewer where two classes met
  record After (rs next : List (SiteTerm × SiteTerm)) : Type 0 where
    good : AreNames us next
    no_more : counted (is_own next) us ≤ counted (is_own rs) us

  apart_from : (rs : List (SiteTerm × SiteTerm)) (a b : SiteTerm) → same_class rs a b ≡ false → class_name rs a ≢ class_name rs b
  apart_from rs a b f e = false≢true (sym f ∙ name_same rs a b e)

  after_joining : (rs : List (SiteTerm × SiteTerm)) → AreNames us rs → (a b : SiteTerm) → In us a → In us b → After rs (joining rs a b)
  unfolding added
  after_joining rs good a b m n =
      elim (cases_Bool (same_class rs a b)) [
        | inl t ↦ subst (After rs) (sym (cond-true (same_class rs a b) rs ((class_name rs a, class_name rs b) ∷ rs) t)) (record { good = good; no_more = omega arith })
        | inr f ↦
            subst (After rs) (sym (cond-false (same_class rs a b) rs ((class_name rs a, class_name rs b) ∷ rs) f))
            (record { good = added_names rs a b good (apart_from rs a b f) n; no_more = let l = less_own rs a b good (apart_from rs a b f) m in omega (arith, l) })
      ]

  fewer : (rs : List (SiteTerm × SiteTerm)) → AreNames us rs → (a b : SiteTerm) → In us a → In us b → same_class rs a b ≡ false
      → suc (counted (is_own (joining rs a b)) us) ≤ counted (is_own rs) us
  unfolding added
  fewer rs good a b m n f =
      subst (λ l. suc (counted (is_own l) us) ≤ counted (is_own rs) us) (sym (cond-false (same_class rs a b) rs ((class_name rs a, class_name rs b) ∷ rs) f))
      (less_own rs a b good (apart_from rs a b f) m)

  abbrev AllWithin : List (SiteTerm × SiteTerm) → Type 0
  AllWithin es = (e : SiteTerm × SiteTerm) → In es e → In us e.0 × In us e.1

  after_each : (es rs : List (SiteTerm × SiteTerm)) → AreNames us rs → AllWithin es → After rs (joining_each rs es)
  after_each [] rs good w = record { good = good; no_more = omega arith }
  after_each (e ∷ es) rs good w =
      let p = w e (inl refl) in
      let one = after_joining rs good e.0 e.1 p.0 p.1 in
      let rest = after_each es (joining rs e.0 e.1) one.good (λ x i. w x (inr i)) in
      record { good = rest.good; no_more = let x = one.no_more in let y = rest.no_more in omega (arith, x, y) }

  fewer_each : (es rs : List (SiteTerm × SiteTerm)) → AreNames us rs → AllWithin es → list_all (λ e. same_class rs e.0 e.1) es ≡ false
      → suc (counted (is_own (joining_each rs es)) us) ≤ counted (is_own rs) us
  fewer_each [] rs good w h = absurd (false≢true (sym h))
  fewer_each (e ∷ es) rs good w h =
      let p = w e (inl refl) in
      elim (cases_Bool (same_class rs e.0 e.1)) [
        | inl t ↦
            let same : joining rs e.0 e.1 ≡ rs = cond-true (same_class rs e.0 e.1) rs ((class_name rs e.0, class_name rs e.1) ∷ rs) t in
            subst (λ l. suc (counted (is_own (joining_each l es)) us) ≤ counted (is_own rs) us) (sym same)
            (fewer_each es rs good (λ x i. w x (inr i)) (grind arith))
        | inr f ↦
            let one = after_joining rs good e.0 e.1 p.0 p.1 in
            let rest = after_each es (joining rs e.0 e.1) one.good (λ x i. w x (inr i)) in
            let x = fewer rs good e.0 e.1 p.0 p.1 f in
            let y = rest.no_more in
            omega (arith, x, y)
      ]

unchanged : (rs es : List (SiteTerm × SiteTerm)) → list_all (λ e. same_class rs e.0 e.1) es ≡ true → joining_each rs es ≡ rs
unchanged rs [] h = refl
unchanged rs (e ∷ es) h = grind (arith, common_steps, unchanged rs es, and_parts)

module _ (d : Demands) where
  -- nothing more is due
  abbrev NothingDue : List (SiteTerm × SiteTerm) → Type 0
  NothingDue rs = list_all (λ e. same_class rs e.0 e.1) (due rs d.constraints (spoken_of d)) ≡ true

  stays : (n : ℕ) (rs : List (SiteTerm × SiteTerm)) → NothingDue rs → joined_in n d.constraints (spoken_of d) rs ≡ rs
  stays zero rs h = refl
  stays (suc n) rs h = ap (joined_in n d.constraints (spoken_of d)) (unchanged rs (due rs d.constraints (spoken_of d)) h) ∙ stays n rs h

  abbrev fields_of_site : SiteTerm → List SiteTerm
  fields_of_site s = flat_map (λ c. field_terms c.1 s) d.constraints

  -- the sites that names speak of
  abbrev all_sites : List SiteTerm
  all_sites = spoken_of d ++ flat_map (λ s. flat_map (λ c. field_terms c.1 s) d.constraints) (spoken_of d)

  due_within : (rs : List (SiteTerm × SiteTerm)) → AllWithin all_sites (due rs d.constraints (spoken_of d))
  due_within rs e i = grind (arith, from_flat_map, in_zip, asked_spoken, in_right, in_flat_map, in_slice)

  settled_where : (rs : List (SiteTerm × SiteTerm)) → NothingDue rs → IsSettled rs d
  settled_where rs h s c i x y m n e f g =
      same_name rs x y (all_in (λ (p : SiteTerm × SiteTerm). same_class rs p.0 p.1) (due rs d.constraints (spoken_of d)) (x, y) h (in_due rs d s c i x y m n e f g))

  -- rounds settle what they start from, where there are as many as names
  settles : (n : ℕ) (rs : List (SiteTerm × SiteTerm)) → AreNames all_sites rs → counted (is_own rs) all_sites ≤ n → IsSettled (joined_in n d.constraints (spoken_of d) rs) d
  settles zero rs good few = grind (arith, settled_where rs, fewer_each all_sites (due rs d.constraints (spoken_of d)) rs good (due_within rs), due_within rs)
  settles (suc n) rs good few =
      elim (cases_Bool (list_all (λ e. same_class rs e.0 e.1) (due rs d.constraints (spoken_of d)))) [
        | inl t ↦ subst (λ l. IsSettled l d) (sym (stays (suc n) rs t)) (settled_where rs t)
        | inr f ↦ grind (arith, settles n (joining_each rs (due rs d.constraints (spoken_of d))), fewer_each, due_within, after_each)
      ]

  first_names : AreNames all_sites []
  first_names = record { again = λ x. refl; stay = λ x i. i }

  -- the names of the closure are settled
  pub names_settled : IsSettled (class_names d) d
  names_settled =
      settles (length all_sites) (joining_each [] d.equalities) (after_each all_sites d.equalities [] first_names (λ e i. grind (arith, common_steps, equal_spoken, in_left))).good
      (counted_most (is_own (joining_each [] d.equalities)) all_sites)

pub verdict_is_exact_lem : (d : Demands) → (is_unreachable d ≡ true) ↔ IsUnreachable d
verdict_is_exact_lem d = (verdict_is d, unreachable_is d (names_settled d))

-- of demands that can be met, sites that are spoken of have one name exactly where they must be equal
pub names_are_exact_lem : (d : Demands) → (IsUnreachable d → ⊥) → (a b : SiteTerm) → Contains (spoken_of d) a → Contains (spoken_of d) b → (same_class (class_names d) a b ≡ true) ↔ Joined d a b
names_are_exact_lem d n a b i j = (
  λ h. named_alike d a b (same_name (class_names d) a b h),
  λ h. name_same (class_names d) a b (joined_named d (names_settled d) agreed a b (in_from_contains (spoken_of d) a i) (in_from_contains (spoken_of d) b j) h),
)
  where
    agreed : HasNoConflict (class_names d) d
    agreed = elim (cases_Bool (has_conflict (class_names d) d.constraints)) [ inl t ↦ absurd (n (conflict_is d t)) | inr f ↦ no_conflict (class_names d) d f ]
