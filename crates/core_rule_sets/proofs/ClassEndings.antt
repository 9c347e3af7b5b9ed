-- Parts of which those whose class has none are left out, until each that is left has some.
use Rattle.std.proofs.Common.{◌≡◌, ◌≢◌, ◌⊎◌, ℕ, ◌+◌, ◌-◌, ◌<◌, ◌≤◌, Bool, true, false, cond, not, if◌then◌else◌, List, [], ◌∷◌, ◌++◌, length, map, take, Contains, refl, sym, ap, ◌∙◌, subst, inl, inr, eqb-true, eq-eqb, arith}
use Rattle.std.specs.Prelude.{nat_eq, Some}
use Rattle.std.specs.BTreeMap.{BTreeMap, Updates}
use Rattle.std.specs.Global.{Vec}
use Rattle.std.specs.List.{filter}
use Rattle.std.specs.Ordering.{nat_cmp}
use Rattle.std.proofs.lemmas.Bool.{cases_Bool}
use Rattle.std.proofs.lemmas.List.{length-map, length-append, length-take, append-nil}
use Rattle.std.proofs.lemmas.List.Filters.{length-filter_both}
use Rattle.std.proofs.lemmas.List.Elements.{filter-append}
use Rattle.std.proofs.lemmas.List.Sums.{length-filter, count_by-le-length}
use Rattle.std.proofs.lemmas.Grind.{common_steps}
use Rattle.model.proofs.Elements.{In, contains_from_in, in_from_contains, in_left, in_right, in_either, in_filter, filter_from, passed_filter}
use Rattle.core_rule_sets.specs.Endings.{class_ends, ClassEnds, ClassIsTaken, count_in, GoOnForEver, listed_at, PartsAreTaken, number_count, wholes_in}
use Rattle.core_rule_sets.specs.Verdicts.{class_head}
use Rattle.core_rule_sets.specs.declared.closure_classes.Part.{Part}

-- 1. filters
module _ {X : Type 0} (p q : X → Bool) where
  abbrev others : List X → List X
  others xs = filter (λ x. not (q x)) xs

  -- how many pass one test: of those that pass another one, and of the others
  split_filter : (xs : List X) → length (filter p xs) ≡ length (filter p (others xs)) + length (filter p (filter q xs))
  split_filter [] = refl
  split_filter (x ∷ xs) = grind (arith, common_steps, split_filter xs)

  left_whole : (xs : List X) → ((x : X) → q x ≡ true → p x ≡ false) → filter p (others xs) ≡ filter p xs
  left_whole [] apart = refl
  left_whole (x ∷ xs) apart = grind (arith, common_steps, left_whole xs apart)

  left_none : (xs : List X) → ((x : X) → p x ≡ true → q x ≡ true) → filter p (others xs) ≡ []
  left_none [] within = refl
  left_none (x ∷ xs) within = grind (arith, common_steps, left_none xs within)

-- how many images pass
filter_images : {X Y : Type 0} (f : X → Y) (p : Y → Bool) (xs : List X) → length (filter p (map f xs)) ≡ length (filter (λ x. p (f x)) xs)
filter_images f p [] = refl
filter_images f p (x ∷ xs) = grind (arith, common_steps, filter_images f p xs)

none_in : {X : Type 0} (xs : List X) (x : X) → length xs ≡ 0 → In xs x → ⊥
none_in xs x e i = grind (arith, common_steps)

one_in : {X : Type 0} (xs : List X) → length xs ≢ 0 → (x : X) × In xs x
one_in [] n = absurd (n refl)
one_in (y ∷ xs) n = (y, inl refl)

-- 2. classes by the maps that have them
-- the list of a class has one more
pub listed_more : {X : Type 0} (old mid new : BTreeMap ℕ (Vec X)) (class : ℕ) (whole : X) (listed : Vec X) → listed.items ≡ listed_at old class ++ whole ∷ [] → ((k : ℕ) → listed_at mid k ≡ (if nat_eq class k then [] else listed_at old k))
    → Updates nat_cmp mid new class (Some listed) → (k : ℕ) → listed_at new k ≡ listed_at old k ++ (if nat_eq class k then whole ∷ [] else [])
listed_more old mid new class whole listed e rest u k = grind (arith, common_steps, append-nil (listed_at old k))

-- no more parts are counted than there are
pub few_counted : (ks : List (List ℕ)) (parts : List Part) (i class : ℕ) → i < length parts → count_in ks (take i parts) class < length parts
few_counted ks parts i class l = grind (arith, common_steps, length-filter, count_by-le-length, length-take i parts)

pub no_items : (xs : List ℕ) (n : ℕ) → n ≡ length xs → (0 < n → ⊥) → xs ≡ []
no_items xs n e none = grind (arith, common_steps)

-- the classes of some parts, of those that have no parts themselves
pub record AreLast (ks : List (List ℕ)) (parts : List Part) (counts : ℕ → ℕ) (last : List ℕ) : Type 0 where
  pub all : (p : Part) → Contains parts p → counts (class_head ks p.field) ≡ 0 → Contains last (class_head ks p.field)
  pub only : (k : ℕ) → Contains last k → counts k ≡ 0

pub last_none : (ks : List (List ℕ)) (counts : ℕ → ℕ) (last : List ℕ) → last ≡ [] → AreLast ks [] counts last
last_none ks counts last e = record {
  all = λ p i. absurd (in_from_contains [] p i);
  only = λ k i. absurd (in_from_contains [] k (subst (λ l. Contains l k) e i));
}

pub last_more : (ks : List (List ℕ)) (parts : List Part) (p : Part) (counts : ℕ → ℕ) (last next : List ℕ) (k : ℕ) → k ≡ class_head ks p.field → next ≡ last ++ cond (nat_eq (counts k) 0) (k ∷ []) []
    → AreLast ks parts counts last → AreLast ks (parts ++ p ∷ []) counts next
last_more ks parts p counts last next k is e had = record {
  all = λ q i none. elim (in_either parts (p ∷ []) q (in_from_contains (parts ++ p ∷ []) q i)) [
    | inl j ↦ still (class_head ks q.field) (in_left last more (class_head ks q.field) (in_from_contains last (class_head ks q.field) (had.all q (contains_from_in parts q j) none)))
    | inr j ↦ still (class_head ks q.field) (in_right last more (class_head ks q.field) (here q none j))
  ];
  only = λ c i. elim (in_either last more c (in_from_contains (last ++ more) c (subst (λ l. Contains l c) e i))) [
    | inl j ↦ had.only c (contains_from_in last c j)
    | inr j ↦ of (nat_eq (counts k) 0) refl c j
  ];
}
  where
    more : List ℕ
    more = cond (nat_eq (counts k) 0) (k ∷ []) []

    still : (c : ℕ) → In (last ++ more) c → Contains next c
    still c i = subst (λ l. Contains l c) (sym e) (contains_from_in (last ++ more) c i)

    here : (q : Part) → counts (class_head ks q.field) ≡ 0 → In (p ∷ []) q → In more (class_head ks q.field)
    here q none h = grind (arith, common_steps)

    of : (b : Bool) → nat_eq (counts k) 0 ≡ b → (c : ℕ) → In (cond b (k ∷ []) []) c → counts c ≡ 0
    of b t c other = grind (arith, common_steps)

-- 3. one part of each of some classes is left out

pub taken_more : (before after next : ℕ → ℕ) (wholes ended now then' : List ℕ) (whole : ℕ) → PartsAreTaken before after wholes ended now → ((k : ℕ) → next k ≡ after k - cond (nat_eq whole k) 1 0)
    → then' ≡ now ++ (if nat_eq (next whole) 0 then whole ∷ [] else []) → PartsAreTaken before next (wholes ++ whole ∷ []) ended then'
taken_more before after next wholes ended now then' whole t e f = record {
  counts = λ k. let was = t.counts k in let is = e k in let more = times_more k in omega (arith, was, is, more);
  kept = λ k i. still k (t.kept k i);
  met = λ k some none. elim (cases_nat (after k)) [
    | inl z ↦ still k (t.met k some z)
    | inr n ↦ pushed k n none (cases_Bool (nat_eq whole k))
  ];
  only = λ k i. elim (in_either now last k (in_from_contains (now ++ last) k (subst (λ l. Contains l k) f i))) [
    | inl j ↦ elim (t.only k (contains_from_in now k j)) [ inl o ↦ inl o | inr z ↦ inr (let is = e k in omega (arith, is, z)) ]
    | inr j ↦ inr (in_last k j)
  ];
  few = let more = ap length f in let two = length-append now last in let three = length-append wholes (whole ∷ []) in let one = last_few (nat_eq (next whole) 0) in let was = t.few in omega (arith, more, two, three, one, was);
}
  where
    last : List ℕ
    last = if nat_eq (next whole) 0 then whole ∷ [] else []

    last_few : (b : Bool) → length (cond b (whole ∷ []) []) ≤ 1
    last_few b = grind (arith, common_steps)

    times_more : (k : ℕ) → number_count k (wholes ++ whole ∷ []) ≡ number_count k wholes + cond (nat_eq whole k) 1 0
    times_more k =
        ap length (filter-append (λ j. nat_eq j k) wholes (whole ∷ []))
        ∙ length-append (filter (λ j. nat_eq j k) wholes) (filter (λ j. nat_eq j k) (whole ∷ []))
        ∙ ap (λ n. number_count k wholes + n) (one (nat_eq whole k))
      where
        one : (b : Bool) → length (cond b (whole ∷ []) []) ≡ cond b 1 0
        one true = refl
        one false = refl

    still : (k : ℕ) → Contains now k → Contains then' k
    still k i = subst (λ l. Contains l k) (sym f) (contains_from_in (now ++ last) k (in_left now last k (in_from_contains now k i)))

    cases_nat : (n : ℕ) → (n ≡ 0) ⊎ (n ≢ 0)
    cases_nat n = grind (arith, common_steps)

    pushed : (k : ℕ) → after k ≢ 0 → next k ≡ 0 → (nat_eq whole k ≡ true) ⊎ (nat_eq whole k ≡ false) → Contains then' k
    pushed k n none h = grind (arith, common_steps, contains_from_in, in_right now)

    in_last : (k : ℕ) → In last k → next k ≡ 0
    in_last k i = of (nat_eq (next whole) 0) refl i
      where
        of : (b : Bool) → nat_eq (next whole) 0 ≡ b → In (cond b (whole ∷ []) []) k → next k ≡ 0
        of true t (inl one) = ap next (sym one) ∙ eqb-true (next whole) 0 t
        of true t (inr none) = absurd none
        of false t none = absurd none

-- 4. what is left
module _ (ks : List (List ℕ)) (parts : List Part) where
  abbrev whole : Part → ℕ
  whole p = class_head ks p.source

  abbrev class : Part → ℕ
  class p = class_head ks p.field

  pub record AreLeft (left : List Part) : Type 0 where
    pub within : (p : Part) → In left p → In parts p
    pub gone : (p : Part) → In parts p → In left p ⊎ ClassEnds ks parts (class p)

  -- a class ends where none of its parts is left
  ended : (left : List Part) → AreLeft left → (k : ℕ) → count_in ks left k ≡ 0 → ClassEnds ks parts k
  ended left l k none =
      class_ends (λ q i e. elim (l.gone q (in_from_contains parts q i)) [
        | inl j ↦ absurd (none_in (filter (λ p. nat_eq (whole p) k) left) q none (filter_from (λ p. nat_eq (whole p) k) left q j (eq-eqb (whole q) k e)))
        | inr done ↦ done
      ])

  -- those that are left are counted and kept by class, and classes of which none is left are ended
  pub record AreCounted (left : List Part) (wholes : ℕ → List ℕ) (counts : ℕ → ℕ) (ends : List ℕ) (number : ℕ) : Type 0 where
    pub are_left : AreLeft left
    pub many : number ≡ length left
    pub kept : (k : ℕ) → wholes k ≡ wholes_in ks left k
    pub counted : (k : ℕ) → counts k ≡ count_in ks left k
    pub all : (p : Part) → In left p → counts (class p) ≡ 0 → In ends (class p)
    pub only : (k : ℕ) → In ends k → counts k ≡ 0

  pub counting_starts : (wholes : ℕ → List ℕ) (counts : ℕ → ℕ) (ends : List ℕ) (number : ℕ) → number ≡ length parts → ((k : ℕ) → wholes k ≡ wholes_in ks parts k) → ((k : ℕ) → counts k ≡ count_in ks parts k)
      → ((p : Part) → Contains parts p → counts (class p) ≡ 0 → Contains ends (class p)) → ((k : ℕ) → Contains ends k → counts k ≡ 0) → AreCounted parts wholes counts ends number
  counting_starts wholes counts ends number many kept counted all only = record {
    are_left = record { within = λ p i. i; gone = λ p i. inl i };
    many = many;
    kept = kept;
    counted = counted;
    all = λ p i none. in_from_contains ends (class p) (all p (contains_from_in parts p i) none);
    only = λ k i. only k (contains_from_in ends k i);
  }

  module _ (left : List Part) (wholes : ℕ → List ℕ) (counts : ℕ → ℕ) (number : ℕ) where
    -- no more are kept than are left
    pub few_kept : (ends : List ℕ) → AreCounted left wholes counts ends number → (k : ℕ) → length (wholes k) ≤ number
    few_kept ends a k =
        let is = ap length (a.kept k) in
        let images = length-map (filter (λ p. nat_eq (class p) k) left) whole in
        let two = length-filter_both (λ p. nat_eq (class p) k) (λ p. not (nat_eq (class p) k)) (λ p. refl) left in
        let all = a.many in
        omega (arith, is, images, two, all)

    -- leaving out a class that ends makes less of what is left to be done
    pub fewer_left : (rest : List ℕ) (k : ℕ) → AreCounted left wholes counts (rest ++ k ∷ []) number → (wholes' : ℕ → List ℕ) (counts' : ℕ → ℕ) (now : List ℕ) (many : ℕ)
        → ClassIsTaken wholes wholes' counts counts' k rest now many → (number - many) + (number - many) + length now < number + number + length (rest ++ k ∷ [])
    fewer_left rest k a wholes' counts' now many t = grind (arith, common_steps, few_kept (rest ++ k ∷ []) a k, length-append rest (k ∷ []))

    -- the parts whose class ends are left out
    pub one_taken : (rest : List ℕ) (k : ℕ) → AreCounted left wholes counts (rest ++ k ∷ []) number → (wholes' : ℕ → List ℕ) (counts' : ℕ → ℕ) (now : List ℕ) (many : ℕ)
        → ClassIsTaken wholes wholes' counts counts' k rest now many → AreCounted (filter (λ p. not (nat_eq (class p) k)) left) wholes' counts' now (number - many)
    one_taken rest k a wholes' counts' now taken_many taken = record {
      are_left = record {
        within = λ p i. a.are_left.within p (in_filter other left p i);
        gone = λ p i. elim (a.are_left.gone p i) [
          | inl j ↦
              elim (cases_Bool (nat_eq (class p) k)) [
                | inl t ↦ inr (subst (ClassEnds ks parts) (sym (eqb-true (class p) k t)) (ended left a.are_left k (sym (a.counted k) ∙ a.only k (in_right rest (k ∷ []) k (inl refl)))))
                | inr f ↦ inl (filter_from other left p j (ap not f))
              ]
          | inr done ↦ inr done
        ];
      };
      many = grind (arith, common_steps, length-map (filter (λ p. nat_eq (class p) k) left) whole, length-filter_both (λ p. nat_eq (class p) k));
      kept = λ q. taken.rest q ∙ kept_still q (cases_Bool (nat_eq k q));
      counted = λ q.
          let was = a.counted q in
          let is = taken.parts.counts q in
          let gone = ap (number_count q) (a.kept k) ∙ filter_images whole (λ j. nat_eq j q) (filter (λ p. nat_eq (class p) k) left) in
          let two = split_filter (λ p. nat_eq (whole p) q) (λ p. nat_eq (class p) k) left in
          omega (arith, was, is, gone, two);
      all = λ p i none.
          let j = in_filter other left p i in
          elim (cases_nat (counts (class p))) [
            | inl z ↦
                elim (in_either rest (k ∷ []) (class p) (a.all p j z)) [
                  | inl r ↦ in_from_contains now (class p) (taken.parts.kept (class p) (contains_from_in rest (class p) r))
                  | inr o ↦ absurd (another p i o)
                ]
            | inr n ↦ in_from_contains now (class p) (taken.parts.met (class p) (omega (arith, n)) none)
          ];
      only = grind (arith, common_steps, contains_from_in now, in_left rest (k ∷ []), in_from_contains rest);
    }
      where
        other : Part → Bool
        other p = not (nat_eq (class p) k)

        cases_nat : (n : ℕ) → (n ≡ 0) ⊎ (n ≢ 0)
        cases_nat n = grind (arith, common_steps)

        another : (p : Part) → In (filter other left) p → In (k ∷ []) (class p) → ⊥
        another p i h = grind (arith, common_steps, passed_filter)

        kept_still : (q : ℕ) → (nat_eq k q ≡ true) ⊎ (nat_eq k q ≡ false) → (if nat_eq k q then [] else wholes q) ≡ wholes_in ks (filter other left) q
        kept_still q (inl t) = grind (arith, common_steps, left_none (λ p. nat_eq (class p) q) (λ p. nat_eq (class p) k) left)
        kept_still q (inr f) = grind (arith, common_steps, left_whole (λ p. nat_eq (class p) q) (λ p. nat_eq (class p) k) left)

  pub none_left : (left : List Part) (wholes : ℕ → List ℕ) (counts : ℕ → ℕ) (ends : List ℕ) → AreCounted left wholes counts ends 0 → (k : ℕ) → ClassEnds ks parts k
  none_left [] wholes counts ends a k = ended [] a.are_left k refl
  none_left (p ∷ left) wholes counts ends a k = absurd (let many = a.many in omega (arith, many))

  -- where no class ends any more, those that are left go on for ever
  pub go_on : (left : List Part) (wholes : ℕ → List ℕ) (counts : ℕ → ℕ) (number : ℕ) → AreCounted left wholes counts [] number → 0 < number → GoOnForEver ks parts left
  go_on left wholes counts number a some =
      let one = one_in left (λ e. let many = a.many in omega (arith, e, many, some)) in
      record {
        within = λ p i. contains_from_in parts p (a.are_left.within p (in_from_contains left p i));
        one = one.0;
        there = contains_from_in left one.0 one.1;
        next = λ p i.
            let test = λ (q : Part). nat_eq (whole q) (class p) in
            let q = one_in (filter test left) (λ z. a.all p (in_from_contains left p i) (a.counted (class p) ∙ z)) in
            (q.0, contains_from_in left q.0 (in_filter test left q.0 q.1), eqb-true (whole q.0) (class p) (passed_filter test left q.0 q.1));
      }
