-- Overlaps that aren't reported yet: which rules they leave, and how many each rule has.
use Rattle.std.proofs.Common.{◌≡◌, ◌==◌, ◌&&◌, ◌||◌, ℕ, suc, ◌+◌, ◌-◌, ◌<◌, ◌≤◌, Bool, true, false, not, cond, nat_lt, if◌then◌else◌, List, [], ◌∷◌, length, map, filter, flat_map, refl, sym, ap, ◌∙◌, subst, inl, inr, arith, eq-eqb}
use Rattle.std.proofs.lemmas.Bool.{cases_Bool, cond-false, and_parts, and_from, false≢true, not-true}
use Rattle.std.proofs.lemmas.Bool.Decides.{nat_tests}
use Rattle.std.proofs.lemmas.List.Elements.{filter_agree}
use Rattle.std.proofs.Math.Bool.{and-true, or-false}
use Rattle.std.proofs.lemmas.Grind.{common_steps}
use Rattle.model.specs.lists.Syntax.{Position}
use Rattle.model.specs.sites.Overlap.{position_eq, position_lt, has_end, other_end, degree, is_reported_before, foremost, overlap_report, overlap_reports_in}
use Rattle.model.proofs.Elements.{In, or_split, or_right, in_filter, filter_from, passed_filter, in_map, in_flat_map}
use Rattle.laws_sites.proofs.overlaps.ListedOverlaps.{position_means, first_end, second_end, left_over}
use Rattle.core_overlap.specs.Graphs.{neighbours}
use Rattle.core_overlap.proofs.Ascents.{lt_total}

abbrev Pair : Type 0
Pair = Position × Position

-- overlaps of rules that pass a test
abbrev pub kept_pairs : (Position → Bool) → List Pair → List Pair
kept_pairs kept ps = filter (λ e. kept e.0 && kept e.1) ps

-- how often a position stands in a list
abbrev pub stands : Position → List Position → ℕ
stands q ns = length (filter (λ p. position_eq p q) ns)

-- 1. tests
four : (x y u v : Bool) → ((x && y) && not (u || v)) ≡ ((x && not u) && (y && not v))
four x y u v = grind (arith, common_steps)

filter_on : {X : Type 0} (p q : X → Bool) (xs : List X) → ((x : X) → In xs x → p x ≡ q x) → filter p xs ≡ filter q xs
filter_on p q [] h = refl
filter_on p q (x ∷ xs) h = (λ k. cond (h x (inl refl) k) (x ∷ filter_on p q xs (λ y i. h y (inr i)) k) (filter_on p q xs (λ y i. h y (inr i)) k))

filter_twice : {X : Type 0} (p q : X → Bool) (xs : List X) → filter p (filter q xs) ≡ filter (λ x. q x && p x) xs
filter_twice p q [] = refl
filter_twice p q (x ∷ xs) = grind (arith, common_steps, filter_twice p q xs)

nil_from_none : {X : Type 0} (xs : List X) → ((x : X) → In xs x → ⊥) → xs ≡ []
nil_from_none [] h = refl
nil_from_none (x ∷ xs) h = absurd (h x (inl refl))

in_positive : {X : Type 0} (xs : List X) (x : X) → In xs x → 0 < length xs
in_positive xs x i = grind (arith, common_steps)

positive_in : {X : Type 0} (xs : List X) → 0 < length xs → (x : X) × In xs x
positive_in [] h = absurd (omega (arith, h))
positive_in (x ∷ xs) h = (x, inl refl)

length_cond : {X : Type 0} (b : Bool) (x : X) (xs : List X) → length (cond b (x ∷ xs) xs) ≡ cond b 1 0 + length xs
length_cond b x xs = grind (arith, common_steps)

pub filtered_map : {X Y : Type 0} (f : X → Y) (p : Y → Bool) (xs : List X) → map f (filter (λ x. p (f x)) xs) ≡ filter p (map f xs)
filtered_map f p [] = refl
filtered_map f p (x ∷ xs) = grind (arith, common_steps, filtered_map f p xs)

-- 2. the other rule of an overlap
end_other : (a : Position) (e : Pair) → has_end (other_end a e) e ≡ true
end_other a e = grind (arith, common_steps, second_end e.1 e refl, first_end e.0 e refl)

second_of : (a : Position) (e : Pair) → has_end a e ≡ true → position_eq e.0 a ≡ false → position_eq e.1 a ≡ true
second_of a e h f = elim (or_split (position_eq e.0 a) (position_eq e.1 a) h) [ inl t ↦ absurd (false≢true (sym f ∙ t)) | inr t ↦ t ]

both_kept : (kept : Position → Bool) (a : Position) (e : Pair) → kept a ≡ true → has_end a e ≡ true → (kept e.0 && kept e.1) ≡ kept (other_end a e)
both_kept kept a e ka h = grind (arith, common_steps, position_means e.0 a, position_means e.1 a, second_of a e h, and-true (kept e.0))

end_is_other : (a q : Position) (e : Pair) → position_eq a q ≡ false → has_end a e ≡ true → has_end q e ≡ position_eq (other_end a e) q
end_is_other a q e n h = grind (arith, common_steps, position_means e.0 a, position_means e.1 a, second_of a e h, or-false (position_eq e.0 q))

-- 3. what is left of a rule's overlaps
module _ (a : Position) where
  one_yes : (e : Pair) → has_end a e ≡ true → (b : Bool) (K : List Pair) → neighbours (cond b (e ∷ K) K) a ≡ cond b (other_end a e ∷ neighbours K a) (neighbours K a)
  one_yes e h b K = grind (arith, common_steps)

  one_no : (e : Pair) → has_end a e ≡ false → (b : Bool) (K : List Pair) → neighbours (cond b (e ∷ K) K) a ≡ neighbours K a
  one_no e h b K = grind (arith, common_steps)

  pub neighbours_kept : (kept : Position → Bool) → kept a ≡ true → (ps : List Pair) → neighbours (kept_pairs kept ps) a ≡ filter kept (neighbours ps a)
  neighbours_kept kept ka [] = refl
  neighbours_kept kept ka (e ∷ ps) = grind (arith, common_steps, neighbours_kept kept ka ps, one_yes e, both_kept kept a e ka, one_no e)

  none_left : (ps : List Pair) → degree (left_over a ps) a ≡ 0
  none_left ps =
      ap length (nil_from_none (filter (has_end a) (left_over a ps)) (λ e i.
      false≢true (sym (not-true (has_end a e) (passed_filter (λ x. not (has_end a x)) ps e (in_filter (has_end a) (left_over a ps) e i))) ∙ passed_filter (has_end a) (left_over a ps) e i)))

  fewer : (q : Position) → position_eq a q ≡ false → (ps : List Pair) → degree (left_over a ps) q + stands q (neighbours ps a) ≡ degree ps q
  fewer q n [] = refl
  fewer q n (e ∷ ps) =
      let later = fewer q n ps in
      let whole = length_cond (has_end q e) e (filter (has_end q) ps) in
      elim (cases_Bool (has_end a e)) [
        | inl t ↦
            let left = ap (λ l. degree l q) (cond-false (not (has_end a e)) (e ∷ left_over a ps) (left_over a ps) (ap not t)) in
            let more = ap (stands q) (one_yes e t true ps) ∙ length_cond (position_eq (other_end a e) q) (other_end a e) (filter (λ p. position_eq p q) (neighbours ps a)) in
            let same = ap {B = ℕ} (λ b. cond b 1 0) (end_is_other a q e n t) in
            omega (arith, later, whole, left, more, same)
        | inr f ↦ grind (arith, common_steps, left_over a ps, length_cond (has_end q e) e (filter (has_end q) (left_over a ps)), one_no e f true ps)
      ]

  pub degree_left : (q : Position) (ps : List Pair) → degree (left_over a ps) q ≡ (if position_eq a q then 0 else degree ps q - stands q (neighbours ps a))
  degree_left q ps = grind (arith, common_steps, left_over a ps, position_means a q, none_left ps, fewer q)

  pub left_kept : (kept : Position → Bool) (ps : List Pair) → left_over a (kept_pairs kept ps) ≡ kept_pairs (λ p. kept p && not (position_eq p a)) ps
  left_kept kept ps =
      filter_twice (λ e. not (has_end a e)) (λ e. kept e.0 && kept e.1) ps
      ∙ filter_agree (λ e. (kept e.0 && kept e.1) && not (has_end a e)) (λ e. (kept e.0 && not (position_eq e.0 a)) && (kept e.1 && not (position_eq e.1 a)))
      (λ e. four (kept e.0) (kept e.1) (position_eq e.0 a) (position_eq e.1 a)) ps

-- 4. a rule is kept where overlaps of it are left
module _ (kept : Position → Bool) (ps : List Pair) where
  none_of_others : (o : Position) → kept o ≡ false → degree (kept_pairs kept ps) o ≡ 0
  none_of_others o n =
      ap length (nil_from_none (filter (has_end o) (kept_pairs kept ps)) (λ e i.
      let both = and_parts (kept e.0) (kept e.1) (passed_filter (λ x. kept x.0 && kept x.1) ps e (in_filter (has_end o) (kept_pairs kept ps) e i)) in
      elim (or_split (position_eq e.0 o) (position_eq e.1 o) (passed_filter (has_end o) (kept_pairs kept ps) e i)) [
        | inl t ↦ false≢true (sym n ∙ ap kept (sym (position_means e.0 o t)) ∙ both.0)
        | inr t ↦ false≢true (sym n ∙ ap kept (sym (position_means e.1 o t)) ∙ both.1)
      ]))

  pub kept_from : (a : Position) → 0 < degree (kept_pairs kept ps) a → kept a ≡ true
  kept_from a h = elim (cases_Bool (kept a)) [ inl t ↦ t | inr f ↦ (let z = none_of_others a f in absurd (omega (arith, h, z))) ]

  some_of_kept : (a o : Position) → kept a ≡ true → kept o ≡ true → In (neighbours ps a) o → 0 < degree (kept_pairs kept ps) o
  some_of_kept a o ka ko i =
      let e = in_map (other_end a) (filter (has_end a) ps) o i in
      let has = passed_filter (has_end a) ps e.0 e.1 in
      let in' = filter_from (λ x. kept x.0 && kept x.1) ps e.0 (in_filter (has_end a) ps e.0 e.1) (both_kept kept a e.0 ka has ∙ ap kept e.2 ∙ ko) in
      in_positive (filter (has_end o) (kept_pairs kept ps)) e.0 (filter_from (has_end o) (kept_pairs kept ps) e.0 in' (subst (λ x. has_end x e.0 ≡ true) e.2 (end_other a e.0)))

  told : (a o : Position) → kept a ≡ true → In (neighbours ps a) o → nat_lt 0 (degree (kept_pairs kept ps) o) ≡ kept o
  told a o ka i = grind (arith, common_steps, some_of_kept a o ka, none_of_others o)

  -- the rules that a kept rule overlaps and that have overlaps left are those that these overlaps name
  pub left_of : (a : Position) → kept a ≡ true → filter (λ o. nat_lt 0 (degree (kept_pairs kept ps) o)) (neighbours ps a) ≡ neighbours (kept_pairs kept ps) a
  left_of a ka = filter_on (λ o. nat_lt 0 (degree (kept_pairs kept ps) o)) kept (neighbours ps a) (λ o i. told a o ka i) ∙ sym (neighbours_kept a kept ka ps)

-- 5. the rule that is reported first
same_degree : (m n : ℕ) (x y : Bool) → (nat_lt n m || ((m == n) && x)) ≡ false → (nat_lt m n || ((n == m) && y)) ≡ false → m ≡ n
same_degree m n x y h k = grind (arith, nat_tests)

then_first : (m n : ℕ) (x : Bool) → m ≡ n → (nat_lt n m || ((m == n) && x)) ≡ false → x ≡ false
then_first m n true e h = absurd (false≢true (sym h ∙ or_right (nat_lt n m) ((m == n) && true) (and_from (m == n) true (eq-eqb m n e) refl)))
then_first m n false e h = refl

pub no_more_than : (m n : ℕ) (x : Bool) → (nat_lt n m || ((m == n) && x)) ≡ false → m ≤ n
no_more_than m n x h = grind (arith, nat_tests)

pub none_first : (m n : ℕ) (x : Bool) → m ≡ 0 → 0 < n → (nat_lt n m || ((m == n) && x)) ≡ false
none_first m n x z p = grind (arith, nat_tests)

module _ (ps : List Pair) where
  one_first : (a b : Position) → is_reported_before ps a b ≡ false → is_reported_before ps b a ≡ false → a ≡ b
  one_first a b h k =
      let e = same_degree (degree ps a) (degree ps b) (position_lt b a) (position_lt a b) h k in
      lt_total a b (then_first (degree ps b) (degree ps a) (position_lt a b) (sym e) k) (then_first (degree ps a) (degree ps b) (position_lt b a) e h)

  foremost_is : (x a : Position) (bs : List Position) → In (a ∷ bs) x → ((y : Position) → is_reported_before ps y x ≡ false) → foremost ps a bs ≡ x
  foremost_is x a [] (inl e) h = e
  foremost_is x a [] (inr i) h = absurd i
  foremost_is x a (b ∷ bs) i h =
      elim (cases_Bool (is_reported_before ps b a)) [
        | inl t ↦ grind (arith, common_steps, foremost_is x b bs)
        | inr f ↦
            ap (λ u. foremost ps u bs) (cond-false (is_reported_before ps b a) b a f)
            ∙ foremost_is x a bs
            (elim i [
              | inl e ↦ inl e
              | inr j ↦ grind (arith, common_steps, one_first a b)
            ])
            h
      ]

-- 6. one more report
pub no_reports : (n : ℕ) → overlap_reports_in n [] ≡ []
no_reports n = grind (arith, common_steps)

-- both ends of each overlap
abbrev ends_of : List Pair → List Position
ends_of ps = flat_map (λ e. e.0 ∷ (e.1 ∷ [])) ps

end_in : (ps : List Pair) (a : Position) (e : Pair) → In ps e → has_end a e ≡ true → In (ends_of ps) a
end_in ps a e i h =
    in_flat_map (λ (x : Pair). x.0 ∷ (x.1 ∷ [])) ps e a i
    (grind (arith, common_steps, or_split (position_eq e.0 a) (position_eq e.1 a) h, position_means e.0 a, position_means e.1 a))

pub one_report : (n : ℕ) (ps : List Pair) (a : Position) → 0 < degree ps a → ((y : Position) → is_reported_before ps y a ≡ false)
    → overlap_reports_in (suc n) ps ≡ overlap_report ps a ∷ overlap_reports_in n (left_over a ps)
one_report n [] a d h = absurd (omega (arith, d))
one_report n (e ∷ es) a d h =
    let x = positive_in (filter (has_end a) (e ∷ es)) d in
    let in' = end_in (e ∷ es) a x.0 (in_filter (has_end a) (e ∷ es) x.0 x.1) (passed_filter (has_end a) (e ∷ es) x.0 x.1) in
    let is = foremost_is (e ∷ es) a e.0 (ends_of (e ∷ es)) (inr in') h in
    (λ k. overlap_report (e ∷ es) (is k) ∷ overlap_reports_in n (left_over (is k) (e ∷ es)))

-- where no rule has an overlap left, none is
pub none_left_over : (ps : List Pair) → ((y : Position) → degree ps y ≡ 0) → ps ≡ []
none_left_over [] h = refl
none_left_over (e ∷ es) h =
    let z = h e.0 in
    let some = in_positive (filter (has_end e.0) (e ∷ es)) e (filter_from (has_end e.0) (e ∷ es) e (inl refl) (first_end e.0 e refl)) in
    absurd (omega (arith, z, some))
