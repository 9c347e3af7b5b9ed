-- The texts between the marks `::`, by the first mark.
use Rattle.std.proofs.Common.{◌≡◌, ◌≢◌, ℕ, zero, suc, ◌+◌, ◌<◌, ◌≤◌, Bool, true, false, cond, ◌&&◌, List, [], ◌∷◌, ◌++◌, length, take, drop, map, codes, refl, sym, ap, subst, ◌∙◌, arith}
use Rattle.std.specs.Prelude.{◌==◌}
use Rattle.std.specs.List.{list_all}
use Rattle.std.specs.Str.Pattern.{FindsText, LacksTextAt, SplitsAroundMatch}
use Rattle.std.proofs.lemmas.Bool.{eqb-true, false≢true}
use Rattle.std.proofs.lemmas.List.{append_assoc}
use Rattle.rust_items.specs.RustNames.{onto_first, segments_from, is_identifier, are_several, is_path, joined, raw_segment}

-- a character that begins no mark belongs to the first text
passes : (c : ℕ) (cs : List ℕ) → ((rest : List ℕ) → c ∷ cs ≢ 58 ∷ (58 ∷ rest)) → segments_from false (c ∷ cs) ≡ onto_first c (segments_from false cs)
passes c [] h =
    elim (c == 58) as (λ b. (c == 58) ≡ b → cond b (segments_from true []) (onto_first c (segments_from false [])) ≡ onto_first c (segments_from false [])) [
      | true ↦ λ e. ap (λ x. (x ∷ []) ∷ []) (sym (eqb-true c 58 e))
      | false ↦ λ e. refl
    ] refl
passes c (d ∷ ds) h =
    elim (c == 58) as (λ b. (c == 58) ≡ b → cond b (segments_from true (d ∷ ds)) (onto_first c (segments_from false (d ∷ ds))) ≡ onto_first c (segments_from false (d ∷ ds))) [
      | true ↦ λ e. elim (d == 58) as (λ b. (d == 58) ≡ b → cond b ([] ∷ segments_from false ds) (onto_first 58 (onto_first d (segments_from false ds))) ≡ onto_first c (cond b (segments_from true ds) (onto_first d (segments_from false ds)))) [
        | true ↦ λ f. absurd (let p : c ∷ (d ∷ ds) ≡ 58 ∷ (58 ∷ ds) = cc (eqb-true c 58 e, eqb-true d 58 f) in h ds p)
        | false ↦ λ f. ap (λ x. onto_first x (onto_first d (segments_from false ds))) (sym (eqb-true c 58 e))
      ] refl
      | false ↦ λ e. refl
    ] refl

-- no mark: one text
pub no_mark : (s : List ℕ) → ((i : ℕ) → i ≤ length s → LacksTextAt (codes "::") s i) → segments_from false s ≡ s ∷ []
no_mark [] h = refl
no_mark (c ∷ cs) h = passes c cs (h 0 (omega arith)) ∙ ap (onto_first c) (no_mark cs (λ i l. h (suc i) (omega (arith, l))))

-- the first mark ends the first text
first_mark : (s : List ℕ) (i : ℕ) (back : List ℕ) → drop i s ≡ 58 ∷ (58 ∷ back) → ((k : ℕ) → k < i → LacksTextAt (codes "::") s k) → segments_from false s ≡ take i s ∷ segments_from false back
first_mark [] zero back e h = absurd (cc)
first_mark [] (suc i) back e h = absurd (cc)
first_mark (c ∷ cs) zero back e h = ap (segments_from false) e
first_mark (c ∷ cs) (suc i) back e h =
    passes c cs (h 0 (omega arith)) ∙ ap (onto_first c) (first_mark cs i back e (λ k l. h (suc k) (omega (arith, l))))

pub cut_at_mark : (s front back : List ℕ) → SplitsAroundMatch (FindsText (codes "::")) s front back → segments_from false s ≡ front ∷ segments_from false back
cut_at_mark s front back (i, j, finds, f, b, le, lf, lb) =
    let e : drop i s ≡ 58 ∷ (58 ∷ back) = finds.1.split ∙ ap (λ x. 58 ∷ (58 ∷ x)) (sym b) in
    first_mark s i back e finds.0 ∙ ap (λ x. x ∷ segments_from false back) (sym f)

-- there is always a text
pub record HasFirst (xs : List (List ℕ)) : Type 0 where
  pub first : List ℕ
  pub more : List (List ℕ)
  pub is : xs ≡ first ∷ more

onto_has : (c : ℕ) (xs : List (List ℕ)) → HasFirst (onto_first c xs)
onto_has c [] = record { first = c ∷ []; more = []; is = refl }
onto_has c (x ∷ xs) = record { first = c ∷ x; more = xs; is = refl }

pub has_first : (b : Bool) (s : List ℕ) → HasFirst (segments_from b s)
has_first false [] = record { first = []; more = []; is = refl }
has_first true [] = record { first = codes ":"; more = []; is = refl }
has_first false (c ∷ cs) = elim (c == 58) as (λ b. HasFirst (cond b (segments_from true cs) (onto_first c (segments_from false cs)))) [ true ↦ has_first true cs | false ↦ onto_has c _ ]
has_first true (c ∷ cs) = elim (c == 58) as (λ b. HasFirst (cond b ([] ∷ segments_from false cs) (onto_first 58 (onto_first c (segments_from false cs))))) [ true ↦ record { first = []; more = segments_from false cs; is = refl } | false ↦ onto_has 58 _ ]

several : (x : List ℕ) (xs : List (List ℕ)) → HasFirst xs → (are_several (x ∷ xs) && list_all is_identifier (x ∷ xs)) ≡ (is_identifier x && list_all is_identifier xs)
several x xs h = let P : List (List ℕ) → Type 0 = λ ys. (are_several (x ∷ ys) && list_all is_identifier (x ∷ ys)) ≡ (is_identifier x && list_all is_identifier ys) in subst P (sym h.is) refl

pub path_at_mark : (s front back : List ℕ) → SplitsAroundMatch (FindsText (codes "::")) s front back → is_path s ≡ (is_identifier front && list_all is_identifier (segments_from false back))
path_at_mark s front back h = ap (λ xs. are_several xs && list_all is_identifier xs) (cut_at_mark s front back h) ∙ several front _ (has_first false back)

pub no_path : (s : List ℕ) → ((i : ℕ) → i ≤ length s → LacksTextAt (codes "::") s i) → is_path s ≡ false
no_path s h = ap (λ xs. are_several xs && list_all is_identifier xs) (no_mark s h)

joined_more : (x : List ℕ) (xs : List (List ℕ)) → HasFirst xs → joined (map raw_segment (x ∷ xs)) ≡ raw_segment x ++ codes "::" ++ joined (map raw_segment xs)
joined_more x xs h = let P : List (List ℕ) → Type 0 = λ ys. joined (map raw_segment (x ∷ ys)) ≡ raw_segment x ++ codes "::" ++ joined (map raw_segment ys) in subst P (sym h.is) refl

-- a segment and the mark behind it are written
pub segment_moved : (s front back old between new whole : List ℕ) → SplitsAroundMatch (FindsText (codes "::")) s front back → between ≡ old ++ raw_segment front → new ≡ between ++ codes "::" → old ++ joined (map raw_segment (segments_from false s)) ≡ whole → new ++ joined (map raw_segment (segments_from false back)) ≡ whole
segment_moved s front back old between new whole h e f w =
    let rest = joined (map raw_segment (segments_from false back)) in
    let j : joined (map raw_segment (segments_from false s)) ≡ raw_segment front ++ codes "::" ++ rest = ap (λ xs. joined (map raw_segment xs)) (cut_at_mark s front back h) ∙ joined_more front _ (has_first false back) in
    ap (λ x. x ++ rest) (f ∙ ap (λ x. x ++ codes "::") e ∙ append_assoc old (raw_segment front) (codes "::")) ∙ append_assoc old (raw_segment front ++ codes "::") rest ∙ ap (λ x. old ++ x) (sym j) ∙ w

-- the last one is
pub segment_last : (s old new whole : List ℕ) → ((i : ℕ) → i ≤ length s → LacksTextAt (codes "::") s i) → old ++ joined (map raw_segment (segments_from false s)) ≡ whole → new ≡ old ++ raw_segment s → new ≡ whole
segment_last s old new whole h w e = e ∙ ap (λ x. old ++ x) (sym (ap (λ xs. joined (map raw_segment xs)) (no_mark s h))) ∙ w

-- the identifiers, one after another
pub identifiers_at_mark : (s front back : List ℕ) → SplitsAroundMatch (FindsText (codes "::")) s front back → list_all is_identifier (segments_from false s) ≡ (is_identifier front && list_all is_identifier (segments_from false back))
identifiers_at_mark s front back h = ap (list_all is_identifier) (cut_at_mark s front back h)

and_true : (b : Bool) → (b && true) ≡ b
and_true true = refl
and_true false = refl

pub one_identifier : (s : List ℕ) → ((i : ℕ) → i ≤ length s → LacksTextAt (codes "::") s i) → list_all is_identifier (segments_from false s) ≡ is_identifier s
one_identifier s h = ap (list_all is_identifier) (no_mark s h) ∙ and_true (is_identifier s)
