-- Pairs of which none is joined by those before it: none is joined by the others, and they are at most as many as the
-- sites that they name.
use Rattle.std.proofs.Common.{◌≡◌, ◌≢◌, ◌⊎◌, ℕ, ◌≤◌, ◌==◌, true, false, not, cond, List, [], ◌∷◌, ◌++◌, length, Contains, refl, sym, ap, ◌∙◌, subst, inl, inr, arith, eqb-true, eq-eqb, append_assoc}
use Rattle.std.proofs.lemmas.Bool.{cases_Bool, and_from, false≢true}
use Rattle.std.proofs.lemmas.List.Elements.{Contains-append_left, Contains-append_right, Contains-append_cases}
use Rattle.std.proofs.lemmas.Grind.{common_steps}
use Rattle.model.specs.trees.Places.{is_in, class, joins}
use Rattle.model.specs.trees.Best.{are_distinct, are_apart}
use Rattle.laws_trees.proofs.runs.Classes.{SameAtPairs, joined_same}
use Rattle.model.proofs.Members.{nothing_in, in_head, in_tail, in_cases, member_found}
use Rattle.laws_trees.proofs.JudgeExactness.{not_exact}
use Rattle.laws_trees.proofs.Counting.{distinct_within}

abbrev pub Independent : List (ℕ × ℕ) → Type 0
Independent [] = Unit {0}
Independent (p ∷ ps) = (joins ps p.0 p.1 ≡ false) × Independent ps

-- 1. classes
class_cases : (p : ℕ × ℕ) (ps : List (ℕ × ℕ)) (x : ℕ)
    → ((class ps x ≡ class ps p.0) × (class (p ∷ ps) x ≡ class ps p.1)) ⊎ ((class ps x ≢ class ps p.0) × (class (p ∷ ps) x ≡ class ps x))
class_cases p ps x = grind (arith, common_steps)

class_again : (p : ℕ × ℕ) (ps : List (ℕ × ℕ)) (x y : ℕ) → class ps x ≡ class ps y → class (p ∷ ps) x ≡ class (p ∷ ps) y
class_again p ps x y e = ap (λ c. cond (c == class ps p.0) (class ps p.1) c) e

pair_joined : (ps : List (ℕ × ℕ)) (p : ℕ × ℕ) → Contains ps p → class ps p.0 ≡ class ps p.1
pair_joined [] p c = absurd (nothing_in p c)
pair_joined (q ∷ ps) p c = grind (arith, common_steps, pair_joined ps p, in_cases q p ps c, class_cases q ps q.0, class_cases q ps q.1, class_again q ps p.0 p.1)

pairs_same : (ps qs : List (ℕ × ℕ)) → ((p : ℕ × ℕ) → Contains ps p → Contains qs p) → SameAtPairs (class qs) ps
pairs_same [] qs h = tt
pairs_same (p ∷ ps) qs h = (pair_joined qs p (h p (in_head p ps)), pairs_same ps qs (λ q c. h q (in_tail p q ps c)))

-- more pairs join no less
class_within : (ps qs : List (ℕ × ℕ)) → ((p : ℕ × ℕ) → Contains ps p → Contains qs p) → (a b : ℕ) → class ps a ≡ class ps b → class qs a ≡ class qs b
class_within ps qs h a b e = joined_same (class qs) ps (pairs_same ps qs h) a b (eq-eqb (class ps a) (class ps b) e)

-- 2. none is joined by the others
not_joined : (ps : List (ℕ × ℕ)) (a b : ℕ) → joins ps a b ≡ false → class ps a ≡ class ps b → ⊥
not_joined ps a b f e = false≢true (sym f ∙ eq-eqb (class ps a) (class ps b) e)

others_apart : (pre : List (ℕ × ℕ)) (p : ℕ × ℕ) (post : List (ℕ × ℕ)) → Independent (pre ++ (p ∷ post)) → class (pre ++ post) p.0 ≡ class (pre ++ post) p.1 → ⊥
others_apart [] p post h e = not_joined post p.0 p.1 h.0 e
others_apart (q ∷ pre) p post h e = by (others_apart pre p post h.1) (class_cases q (pre ++ post) p.0) (class_cases q (pre ++ post) p.1)
  where
    more : (r : ℕ × ℕ) → Contains (pre ++ post) r → Contains (pre ++ (p ∷ post)) r
    more r c =
        elim (Contains-append_cases pre post r c) [
          | inl a ↦ Contains-append_left pre (p ∷ post) r a
          | inr b ↦ Contains-append_right pre (p ∷ post) r (in_tail p r post b)
        ]

    up : (a b : ℕ) → class (pre ++ post) a ≡ class (pre ++ post) b → class (pre ++ (p ∷ post)) a ≡ class (pre ++ (p ∷ post)) b
    up a b x = class_within (pre ++ post) (pre ++ (p ∷ post)) more a b x

    here : class (pre ++ (p ∷ post)) p.0 ≡ class (pre ++ (p ∷ post)) p.1
    here = pair_joined (pre ++ (p ∷ post)) p (Contains-append_right pre (p ∷ post) p (in_head p post))

    by : (class (pre ++ post) p.0 ≡ class (pre ++ post) p.1 → ⊥) → ((class (pre ++ post) p.0 ≡ class (pre ++ post) q.0) × (class (q ∷ (pre ++ post)) p.0 ≡ class (pre ++ post) q.1)) ⊎ ((class (pre ++ post) p.0 ≢ class (pre ++ post) q.0) × (class (q ∷ (pre ++ post)) p.0 ≡ class (pre ++ post) p.0))
        → ((class (pre ++ post) p.1 ≡ class (pre ++ post) q.0) × (class (q ∷ (pre ++ post)) p.1 ≡ class (pre ++ post) q.1)) ⊎ ((class (pre ++ post) p.1 ≢ class (pre ++ post) q.0) × (class (q ∷ (pre ++ post)) p.1 ≡ class (pre ++ post) p.1)) → ⊥
    by again (inl a) (inl b) = again (a.0 ∙ sym b.0)
    by again (inl a) (inr b) = not_joined (pre ++ (p ∷ post)) q.0 q.1 h.0 (up q.0 p.0 (sym a.0) ∙ here ∙ up p.1 q.1 (sym b.1 ∙ sym e ∙ a.1))
    by again (inr a) (inl b) = not_joined (pre ++ (p ∷ post)) q.0 q.1 h.0 (up q.0 p.1 (sym b.0) ∙ sym here ∙ up p.0 q.1 (sym a.1 ∙ e ∙ b.1))
    by again (inr a) (inr b) = again (sym a.1 ∙ e ∙ b.1)

apart_from : (pre others ps : List (ℕ × ℕ)) → ((q : ℕ × ℕ) → Contains others q → Contains pre q) → Independent (pre ++ ps) → are_apart others ps ≡ true
apart_from pre others [] sub h = refl
apart_from pre others (p ∷ ps) sub h =
    and_from (not (joins (others ++ ps) p.0 p.1)) (are_apart (p ∷ others) ps)
    ((not_exact (joins (others ++ ps) p.0 p.1)).1 alone)
    (apart_from (pre ++ (p ∷ [])) (p ∷ others) ps one_more (subst Independent (sym (append_assoc pre (p ∷ []) ps)) h))
  where
    more : (q : ℕ × ℕ) → Contains (others ++ ps) q → Contains (pre ++ ps) q
    more q c =
        elim (Contains-append_cases others ps q c) [
          | inl a ↦ Contains-append_left pre ps q (sub q a)
          | inr b ↦ Contains-append_right pre ps q b
        ]

    alone : joins (others ++ ps) p.0 p.1 ≡ false
    alone =
        elim (cases_Bool (joins (others ++ ps) p.0 p.1)) [
          | inl t ↦ absurd (others_apart pre p ps h (class_within (others ++ ps) (pre ++ ps) more p.0 p.1 (eqb-true (class (others ++ ps) p.0) (class (others ++ ps) p.1) t)))
          | inr f ↦ f
        ]

    one_more : (q : ℕ × ℕ) → Contains (p ∷ others) q → Contains (pre ++ (p ∷ [])) q
    one_more q c =
        elim (in_cases p q others c) [
          | inl e ↦ subst (Contains (pre ++ (p ∷ []))) e (Contains-append_right pre (p ∷ []) p (in_head p []))
          | inr d ↦ Contains-append_left pre (p ∷ []) q (sub q d)
        ]

pub independent_apart : (ps : List (ℕ × ℕ)) → Independent ps → are_apart [] ps ≡ true
independent_apart ps h = apart_from [] [] ps (λ q c. c) h

-- 3. each pair takes one class away
taken_away : List (ℕ × ℕ) → List ℕ
taken_away [] = []
taken_away (p ∷ ps) = class ps p.0 ∷ taken_away ps

not_in : (x : ℕ) (xs : List ℕ) → (Contains xs x → ⊥) → is_in x xs ≡ false
not_in x xs h = elim (cases_Bool (is_in x xs)) [ inl t ↦ absurd (h (member_found x xs t)) | inr f ↦ f ]

class_stays : (ps : List (ℕ × ℕ)) → Independent ps → (x : ℕ) → Contains (taken_away ps) (class ps x) → ⊥
unfolding taken_away
class_stays [] h x c = nothing_in x c
class_stays (p ∷ ps) h x c = by (class_stays ps h.1) (class_cases p ps x)
  where
    by : ((y : ℕ) → Contains (taken_away ps) (class ps y) → ⊥) → ((class ps x ≡ class ps p.0) × (class (p ∷ ps) x ≡ class ps p.1)) ⊎ ((class ps x ≢ class ps p.0) × (class (p ∷ ps) x ≡ class ps x)) → ⊥
    by again (inl a) =
        elim (in_cases (class ps p.0) (class ps p.1) (taken_away ps) (subst (Contains (class ps p.0 ∷ taken_away ps)) a.1 c)) [
          | inl e ↦ not_joined ps p.0 p.1 h.0 e
          | inr d ↦ again p.1 d
        ]
    by again (inr a) =
        elim (in_cases (class ps p.0) (class ps x) (taken_away ps) (subst (Contains (class ps p.0 ∷ taken_away ps)) a.1 c)) [
          | inl e ↦ a.0 (sym e)
          | inr d ↦ again x d
        ]

away_distinct : (ps : List (ℕ × ℕ)) → Independent ps → are_distinct (taken_away ps) ≡ true
unfolding taken_away
away_distinct [] h = refl
away_distinct (p ∷ ps) h =
    and_from (not (is_in (class ps p.0) (taken_away ps))) (are_distinct (taken_away ps))
    ((not_exact (is_in (class ps p.0) (taken_away ps))).1 (not_in (class ps p.0) (taken_away ps) (class_stays ps h.1 p.0)))
    (away_distinct ps h.1)

abbrev pub Names : List (ℕ × ℕ) → List ℕ → Type 0
Names ps members = (p : ℕ × ℕ) → Contains ps p → Contains members p.0 × Contains members p.1

class_named : (members : List ℕ) (ps : List (ℕ × ℕ)) → Names ps members → (x : ℕ) → Contains members x → Contains members (class ps x)
class_named members [] h x c = c
class_named members (p ∷ ps) h x c = by (class_named members ps (λ q d. h q (in_tail p q ps d))) (class_cases p ps x)
  where
    by : ((y : ℕ) → Contains members y → Contains members (class ps y)) → ((class ps x ≡ class ps p.0) × (class (p ∷ ps) x ≡ class ps p.1)) ⊎ ((class ps x ≢ class ps p.0) × (class (p ∷ ps) x ≡ class ps x)) → Contains members (class (p ∷ ps) x)
    by again (inl a) = subst (Contains members) (sym a.1) (again p.1 (h p (in_head p ps)).1)
    by again (inr a) = subst (Contains members) (sym a.1) (again x c)

away_named : (members : List ℕ) (ps : List (ℕ × ℕ)) → Names ps members → (x : ℕ) → Contains (taken_away ps) x → Contains members x
unfolding taken_away
away_named members [] h x c = absurd (nothing_in x c)
away_named members (p ∷ ps) h x c =
    elim (in_cases (class ps p.0) x (taken_away ps) c) [
      | inl e ↦ subst (Contains members) e (class_named members ps older p.0 (h p (in_head p ps)).0)
      | inr d ↦ away_named members ps older x d
    ]
  where
    older : Names ps members
    older q d = h q (in_tail p q ps d)

away_length : (ps : List (ℕ × ℕ)) → length (taken_away ps) ≡ length ps
unfolding taken_away
away_length [] = refl
away_length (p ∷ ps) = (let e = away_length ps in omega arith)

pub independent_few : (members : List ℕ) (ps : List (ℕ × ℕ)) → Independent ps → Names ps members → length ps ≤ length members
independent_few members ps h n =
    subst (λ k. k ≤ length members) (away_length ps) (distinct_within (taken_away ps) members (away_distinct ps h) (away_named members ps n))
