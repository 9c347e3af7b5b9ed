-- The list of a rule's picks has its picks and no others, each once.
use Rattle.std.proofs.Common.{◌≡◌, ℕ, ◌<◌, List, [], ◌∷◌, ◌++◌, length, Option, Some, None, Contains, refl, sym, ap, ◌∙◌, subst, inl, inr, arith}
use Rattle.std.proofs.lemmas.List.{append_assoc, append-nil}
use Rattle.std.proofs.lemmas.Grind.{common_steps}
use Rattle.model.specs.rules.Values.{Value}
use Rattle.model.specs.rules.Meaning.{Content, one, parts, nothing, just, many, Contents, contents, Meaning}
use Rattle.model.specs.lists.Names.{IsDistinct}
use Rattle.model.specs.sites.Sites.{SiteTerm}
use Rattle.model.specs.rules.Program.{numbers_from}
use Rattle.model.specs.rules.Picks.{Pick, site_content, multi_calls, IsPick, places_in, picks_over}
use Rattle.model.proofs.Members.{nothing_in, in_head, in_tail, in_cases, in_alone, in_flat_map, from_flat_map}
use Rattle.model.proofs.Positions.{distinct_nil}
use Rattle.model.proofs.DistinctJoined.{distinct_cons, distinct_flat}
use Rattle.model.proofs.Numbers.{numbers_below, numbers_all, numbers_distinct}
use Rattle.laws_trees.specs.PickLaws.{PicksAreExact}
use Rattle.laws_trees.specs.Orders.{OrderedFrom}
use Rattle.laws_trees.proofs.picks.VisitOrder.{calls_ordered}
use Rattle.laws_trees.proofs.picks.LongerPicks.{keys, keys_push, content_kept}

-- 1. places of answers
abbrev Answers : Option Content → ℕ → Type 0
Answers o n = (cs : Contents) × (o ≡ Some (many cs)) × (n < length (contents cs))

from_places : (o : Option Content) (n : ℕ) → Contains (places_in o) n → Answers o n
from_places (Some (many cs)) n h = let b = numbers_below 0 (contents cs) n h in (cs, refl, omega (arith, b.1))
from_places (Some (one w)) n h = absurd (nothing_in n h)
from_places (Some (parts vs)) n h = absurd (nothing_in n h)
from_places (Some nothing) n h = absurd (nothing_in n h)
from_places (Some (just c)) n h = absurd (nothing_in n h)
from_places None n h = absurd (nothing_in n h)

to_places : (o : Option Content) (n : ℕ) → Answers o n → Contains (places_in o) n
to_places o n a = subst (λ q. Contains (places_in q) n) (sym a.1) (subst (Contains (numbers_from 0 (contents a.0))) (omega arith) (numbers_all 0 (contents a.0) n a.2))

places_distinct : (o : Option Content) → IsDistinct (places_in o)
places_distinct o = grind (arith, common_steps, numbers_distinct)

same_next : {X : Type 0} (k : List X) (a b : X) (xs ys : List X) → k ++ a ∷ xs ≡ k ++ b ∷ ys → a ≡ b
same_next [] a b xs ys e = cc
same_next (x ∷ k) a b xs ys e = same_next k a b xs ys cc

-- 2. each entry has a place in the list that its call answers under the entries before it
module _ (m : Meaning) (args : List Value) where
  abbrev Follow : Pick → Pick → Type 0
  Follow k [] = Unit {0}
  Follow k (e ∷ es) = Answers (site_content m args k e.0) e.1 × Follow (k ++ e ∷ []) es

  abbrev Listed : Pick → List SiteTerm → Pick → Type 0
  Listed k calls l = (es : Pick) × (l ≡ k ++ es) × (keys es ≡ calls) × Follow k es

  from_over : (k : Pick) (calls : List SiteTerm) (l : Pick) → Contains (picks_over m args k calls) l → Listed k calls l
  from_over k [] l h = ([], sym (in_alone k l h) ∙ sym (append-nil k), refl, tt)
  from_over k (call ∷ calls) l h =
      let a = from_flat_map (λ n. picks_over m args (k ++ (call, n) ∷ []) calls) (places_in (site_content m args k call)) l h in
      let b = from_over (k ++ (call, a.0) ∷ []) calls l a.2 in
      ((call, a.0) ∷ b.0, b.1 ∙ append_assoc k ((call, a.0) ∷ []) b.0, ap (λ cs. call ∷ cs) b.2, (from_places (site_content m args k call) a.0 a.1, b.3))

  to_over : (k es : Pick) → Follow k es → Contains (picks_over m args k (keys es)) (k ++ es)
  to_over k [] h = subst (Contains (k ∷ [])) (sym (append-nil k)) (in_head k [])
  to_over k (e ∷ es) h =
      in_flat_map (λ n. picks_over m args (k ++ (e.0, n) ∷ []) (keys es)) (places_in (site_content m args k e.0)) e.1 (k ++ e ∷ es)
      (to_places (site_content m args k e.0) e.1 h.0)
      (subst (Contains (picks_over m args (k ++ e ∷ []) (keys es))) (append_assoc k (e ∷ []) es) (to_over (k ++ e ∷ []) es h.1))

  -- 3. under the whole pick
  abbrev Valid : Pick → Pick → Type 0
  Valid k es = (call : SiteTerm) (n : ℕ) → Contains es (call, n) → Answers (site_content m args k call) n

  whole : (k es : Pick) → OrderedFrom (keys k) (keys es) → Follow k es → Valid (k ++ es) es
  whole k [] o f call n h = absurd (nothing_in (call, n) h)
  whole k (e ∷ es) o f call n h =
      elim (in_cases e (call, n) es h) [
        | inl s ↦
            subst (λ (x : SiteTerm × ℕ). Answers (site_content m args (k ++ e ∷ es) x.0) x.1) s
            (subst (λ q. Answers q e.1) (sym (content_kept m args k (e ∷ es) e.0 o.0)) f.0)
        | inr r ↦
            subst (λ l. Answers (site_content m args l call) n) (append_assoc k (e ∷ []) es)
            (whole (k ++ e ∷ []) es (subst (λ l. OrderedFrom l (keys es)) (keys_push k e) o.1) f.1 call n r)
      ]

  parted : (k es : Pick) → OrderedFrom (keys k) (keys es) → Valid (k ++ es) es → Follow k es
  parted k [] o v = tt
  parted k (e ∷ es) o v = (
    subst (λ q. Answers q e.1) (content_kept m args k (e ∷ es) e.0 o.0) (v e.0 e.1 (in_head e es)),
    parted (k ++ e ∷ []) es (subst (λ l. OrderedFrom l (keys es)) (keys_push k e) o.1)
        (λ call n h. subst (λ l. Answers (site_content m args l call) n) (sym (append_assoc k (e ∷ []) es)) (v call n (in_tail e (call, n) es h))),
  )

  -- 4. each pick once
  over_distinct : (k : Pick) (calls : List SiteTerm) → IsDistinct (picks_over m args k calls)
  over_distinct k [] = distinct_cons k [] (nothing_in k) distinct_nil
  over_distinct k (call ∷ calls) =
      distinct_flat (λ n. picks_over m args (k ++ (call, n) ∷ []) calls) (places_in (site_content m args k call)) (places_distinct (site_content m args k call))
      (λ n. over_distinct (k ++ (call, n) ∷ []) calls)
      (λ n j l a b.
      let c = from_over (k ++ (call, n) ∷ []) calls l a in
      let d = from_over (k ++ (call, j) ∷ []) calls l b in
      let e = sym (append_assoc k ((call, n) ∷ []) c.0) ∙ sym c.1 ∙ d.1 ∙ append_assoc k ((call, j) ∷ []) d.0 in
      ap (λ x. x.1) (same_next k (call, n) (call, j) c.0 d.0 e))

pub picks_are_exact_lem : PicksAreExact
picks_are_exact_lem p m args r = record {
  all = λ k h.
      subst (λ calls. Contains (picks_over m args [] calls) k) h.calls
      (to_over m args [] k (parted m args [] k (subst (OrderedFrom []) (sym h.calls) (calls_ordered p r)) h.places));
  only = λ k h.
      let l = from_over m args [] (multi_calls p r) k h in
      let same : k ≡ l.0 = l.1 in
      subst (IsPick p m args r) (sym same)
      (record { calls = l.2; places = whole m args [] l.0 (subst (OrderedFrom []) (sym l.2) (calls_ordered p r)) l.3 });
  once = over_distinct m args [] (multi_calls p r);
}
