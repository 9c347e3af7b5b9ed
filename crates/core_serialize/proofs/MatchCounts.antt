-- Counts of what is matched around: raised, and undone again.
use Rattle.std.proofs.Common.{◌≡◌, ℕ, ◌+◌, ◌-◌, ◌<◌, ◌≤◌, ◌==◌, Bool, true, nat_lt, List, [], ◌∷◌, ◌++◌, set, take, drop, get_or, length, Some, Contains, slice_get, refl, sym, ap, ◌∙◌, subst, inl, inr, arith, eqb-true, eq-eqb, ltb-true, ltb-false}
use Rattle.std.specs.List.{prefix_len, take_while}
use Rattle.std.proofs.lemmas.Bool.{cases_Bool, false≢true}
use Rattle.std.proofs.Math.ListN.{drop_of_length-le}
use Rattle.std.proofs.Math.Seq.{drop-append_seam, take-add}
use Rattle.std.proofs.lemmas.List.{append-nil, append_assoc, drop-append-le, drop-map, get_or-set_same, get_or-set_other, length-take-le, set_past, take-append-drop, take-append-le, take-map, take_all, take_at}
use Rattle.std.proofs.lemmas.List.Elements.{Contains-append_cases}
use Rattle.std.proofs.lemmas.List.Sums.{take_while-cons}
use Rattle.std.proofs.lemmas.Grind.{common_steps}
use Rattle.model.specs.sites.Sites.{SetRule}
use Rattle.model.specs.trees.Places.{is_in}
use Rattle.model.proofs.Members.{nothing_in, from_map, in_cases, in_map}
use Rattle.core_rule_sets.specs.Listings.{sites_of}
use Rattle.core_rule_sets.specs.SiteViews.{constraint_views}
use Rattle.core_rule_sets.specs.declared.trie_again.Constraint.{Constraint}
use Rattle.core_serialize.specs.declared.matched.Matched.{Matched}
use Rattle.core_serialize.specs.declared.matched.Raised.{Raised}
use Rattle.core_serialize.specs.Matches.{asked_sites, undone, AreMatched, IsRaised, IsSame, IsUndone}

-- 1. counts undone
undone_both : (xs ys : List Raised) (counts : List ℕ) → undone (xs ++ ys) counts ≡ undone xs (undone ys counts)
undone_both [] ys counts = refl
undone_both (x ∷ xs) ys counts = ap (λ l. set l x.rule x.count) (undone_both xs ys counts)

pub raised_itself : (m : Matched) → IsRaised m m
raised_itself m = record { more = []; raised = sym (append-nil m.raised.items); back = refl }

pub raised_more : (a b c : Matched) → IsRaised a b → IsRaised b c → IsRaised a c
raised_more a b c h k = grind (arith, common_steps, append_assoc a.raised.items h.more k.more, undone_both h.more k.more c.counts.items)

pub raised_same : (a b c : Matched) → IsRaised a b → IsSame b c → IsRaised a c
raised_same a b c h k = record { more = h.more; raised = k.raised ∙ h.raised; back = ap (undone h.more) k.counts ∙ h.back }

pub same_itself : (m : Matched) → IsSame m m
same_itself m = record { raised = refl; counts = refl }

pub same_more : (a b c : Matched) → IsSame a b → IsSame b c → IsSame a c
same_more a b c h k = record { raised = k.raised ∙ h.raised; counts = k.counts ∙ h.counts }

pub same_raised : (a b : Matched) → IsSame a b → IsRaised a b
same_raised a b h = record { more = []; raised = h.raised ∙ sym (append-nil a.raised.items); back = h.counts }

-- what is raised is undone
pub raised_back : (a b c : Matched) (mark : ℕ) → mark ≡ length a.raised.items → IsRaised a b → IsUndone mark b c → IsSame a c
raised_back a b c mark m h k = grind (arith, common_steps, drop-append_seam a.raised.items h.more, take_at a.raised.items h.more (length a.raised.items) refl)

-- the latest raise undone, and those before it
pub undone_last : (mark last : ℕ) (start old new : Matched) → last ≡ length old.raised.items - 1 → mark < length old.raised.items → IsUndone last old new
    → take mark old.raised.items ≡ take mark start.raised.items → undone (drop mark old.raised.items) old.counts.items ≡ undone (drop mark start.raised.items) start.counts.items
    → (take mark new.raised.items ≡ take mark start.raised.items) × (undone (drop mark new.raised.items) new.counts.items ≡ undone (drop mark start.raised.items) start.counts.items)
undone_last mark last start old new e l h t u =
    let within : mark ≤ last = omega (arith, e, l) in
    let raised = old.raised.items in
    let first : length (take last raised) ≡ last = length-take-le last raised (omega (arith, e, l)) in
    let parted = take-append-drop last raised in
    let behind : drop mark raised ≡ drop mark (take last raised) ++ drop last raised =
    ap (drop mark) (sym parted) ∙ drop-append-le mark (take last raised) (drop last raised) (omega (arith, within, first)) in
    let before : take mark (take last raised) ≡ take mark raised =
    sym (take-append-le mark (take last raised) (drop last raised) (omega (arith, within, first))) ∙ ap (take mark) parted in (
      ap (take mark) h.raised ∙ before ∙ t,
      (λ i. undone (drop mark (h.raised i)) (h.counts i)) ∙ sym (undone_both (drop mark (take last raised)) (drop last raised) old.counts.items) ∙ ap (λ l. undone l old.counts.items) (sym behind) ∙ u,
    )

-- all that were raised since are undone
pub undone_whole : (mark : ℕ) (start end : Matched) → length end.raised.items ≤ mark → take mark end.raised.items ≡ take mark start.raised.items
    → undone (drop mark end.raised.items) end.counts.items ≡ undone (drop mark start.raised.items) start.counts.items → IsUndone mark start end
undone_whole mark start end l t u = grind (arith, common_steps, take_all mark end.raised.items l, drop_of_length-le end.raised.items l)

-- 2. counts that hold
-- where no rule has any
pub none_matched : (rules : List SetRule) (counts sources : List ℕ) → ((i : ℕ) → get_or counts i 0 ≡ 0) → AreMatched rules counts sources
none_matched rules counts sources h i s c = absurd (nothing_in s (subst (λ n. Contains (take n (asked_sites (slice_get rules i))) s) (h i) c))

-- the same counts, and sources that are all there still
pub still_matched : (rules : List SetRule) (counts more : List ℕ) (sources others : List ℕ) → more ≡ counts → ((s : ℕ) → is_in s sources ≡ true → is_in s others ≡ true) → AreMatched rules counts sources → AreMatched rules more others
still_matched rules counts more sources others e f h i s c = f s (h i s (subst (λ l. Contains (take (get_or l i 0) (asked_sites (slice_get rules i))) s) e c))

-- the sites of constraints, as they are seen
sites_seen : (cs : List (ℕ × Constraint)) → sites_of (constraint_views cs) ≡ sites_of cs
sites_seen [] = refl
sites_seen (c ∷ cs) = ap (λ l. c.0 ∷ l) (sites_seen cs)

-- the first of some constraints that pass a test
head_passes : {X : Type 0} (p : X → Bool) (xs : List X) (x : X) → Contains (take (prefix_len p xs) xs) x → p x ≡ true
head_passes p [] x c = absurd (nothing_in x c)
head_passes p (y ∷ ys) x c = grind (arith, common_steps, head_passes p ys x, take_while-cons p y ys, in_cases y x (take_while p ys), nothing_in x)

-- one rule's count is raised by what is found behind it
pub matched_more : (rules : List SetRule) (counts new sources : List ℕ) (n count more : ℕ) (r : SetRule) (cs : List (ℕ × Constraint)) → slice_get rules n ≡ Some r → r.constraints ≡ constraint_views cs
    → count ≡ get_or counts n 0 → more ≡ prefix_len (λ c. is_in c.0 sources) (drop count cs) → new ≡ set counts n (count + more) → AreMatched rules counts sources → AreMatched rules new sources
matched_more rules counts new sources n count more r cs at e k m g h i s c =
    elim (cases_Bool (n == i)) [
      | inl t ↦
          elim (cases_Bool (nat_lt n (length counts))) [
            | inl y ↦
                let same = eqb-true n i t in
                let now : get_or new i 0 ≡ count + more = ap (λ l. get_or l i 0) g ∙ ap (λ j. get_or (set counts n (count + more)) j 0) (sym same) ∙ get_or-set_same counts n (count + more) 0 (ltb-true n (length counts) y) in
                raised (subst (λ j. Contains (take (count + more) (asked_sites (slice_get rules j))) s) (sym same) (subst (λ j. Contains (take j (asked_sites (slice_get rules i))) s) now c))
            | inr f ↦ h i s (subst (λ l. Contains (take (get_or l i 0) (asked_sites (slice_get rules i))) s) (g ∙ set_past counts n (count + more) (ltb-false n (length counts) f)) c)
          ]
      | inr f ↦ grind (arith, common_steps, get_or-set_other counts n i (count + more) 0 (λ q. false≢true (sym f ∙ eq-eqb n i (sym q))), h i s)
    ]
  where
    sites : asked_sites (slice_get rules n) ≡ sites_of cs
    sites = ap asked_sites at ∙ ap sites_of e ∙ sites_seen cs

    raised : Contains (take (count + more) (asked_sites (slice_get rules n))) s → is_in s sources ≡ true
    raised d =
        elim (Contains-append_cases (take count (sites_of cs)) (take more (drop count (sites_of cs))) s (subst (λ l. Contains l s) (ap (take (count + more)) sites ∙ take-add count more (sites_of cs)) d)) [
          | inl b ↦ h n s (subst (λ l. Contains l s) (sym (ap (λ j. take j (asked_sites (slice_get rules n))) (sym k) ∙ ap (take count) sites)) b)
          | inr b ↦
              let seen = from_map (λ (c : ℕ × Constraint). c.0) (take more (drop count cs)) s (subst (λ l. Contains l s) (ap (take more) (drop-map (λ c. c.0) count cs) ∙ take-map (λ c. c.0) more (drop count cs)) b) in
              subst (λ x. is_in x sources ≡ true) seen.2 (head_passes (λ c. is_in c.0 sources) (drop count cs) seen.0 (subst (λ j. Contains (take j (drop count cs)) seen.0) m seen.1))
        ]

-- a rule's first sites, by its count
pub first_matched : (rules : List SetRule) (counts sources : List ℕ) (n count : ℕ) (r : SetRule) (cs : List (ℕ × Constraint)) → slice_get rules n ≡ Some r → r.constraints ≡ constraint_views cs → count ≡ get_or counts n 0
    → AreMatched rules counts sources → (c : ℕ × Constraint) → Contains (take count cs) c → is_in c.0 sources ≡ true
first_matched rules counts sources n count r cs at e k h c d =
    let sites : asked_sites (slice_get rules n) ≡ sites_of cs = ap asked_sites at ∙ ap sites_of e ∙ sites_seen cs in
    let there = subst (λ l. Contains l c.0) (sym (take-map (λ c. c.0) count cs)) (in_map (λ (c : ℕ × Constraint). c.0) (take count cs) c d) in
    h n c.0 (subst (λ l. Contains l c.0) (sym (ap (λ j. take j (asked_sites (slice_get rules n))) (sym k) ∙ ap (take count) sites)) there)
