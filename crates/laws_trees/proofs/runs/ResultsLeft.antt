-- What is left to collect at a place of a run: the results of rules under all picks of the calls that they go over, and no
-- loop around does.
use Rattle.std.proofs.Common.{◌≡◌, ℕ, suc, ◌<◌, ◌≤◌, ◌==◌, Bool, true, false, not, ◌&&◌, ◌||◌, List, [], ◌∷◌, ◌++◌, map, filter, flat_map, length, Option, Some, None, slice_get, Contains, sym, ap, ap₂, ◌∙◌, refl, subst, inl, inr, arith, eqb-true}
use Rattle.std.specs.Prelude.{IsPermutation}
use Rattle.std.proofs.lemmas.Bool.{cases_Bool, cond-false, and_parts, and_from}
use Rattle.std.proofs.lemmas.List.{append_assoc, append-nil, map-append}
use Rattle.model.specs.rules.Values.{Value}
use Rattle.model.specs.rules.Meaning.{Content, many, contents, Meaning}
use Rattle.model.specs.rules.Program.{numbers_from}
use Rattle.model.specs.rules.Picks.{Pick, site_content, places_in, picks_over}
use Rattle.model.specs.sites.Sites.{SetRule, SiteTerm, unfold_site}
use Rattle.model.specs.sites.Gates.{gate_demanded}
use Rattle.model.specs.trees.Places.{Around, is_in}
use Rattle.model.specs.trees.Sound.{AllGoOver, IsTested}
use Rattle.model.specs.trees.Collects.{content_at, demands_hold, as_list, result_in, calls_in}
use Rattle.model.proofs.Bags.{flat_flat, all_nothing, by_places}
use Rattle.model.proofs.Members.{in_head, get_within, from_map, member_from_get, member_found, member_is_in}
use Rattle.model.proofs.Numbers.{taken_out}
use Rattle.laws_trees.specs.Orders.{OrderedFrom}
use Rattle.laws_trees.proofs.picks.LongerPicks.{keys, content_covered}
use Rattle.laws_trees.proofs.picks.FirstCall.{calls_can_come_first_lem, results_are_of_places_lem}
use Rattle.laws_trees.proofs.picks.Calls.{unfold_once, calls_below, ordered_prefix, IsEarlier, numbers_ordered}
use Rattle.laws_trees.proofs.runs.Contents.{sources_in}
use Rattle.laws_trees.proofs.runs.Below.{below_within}
use Rattle.laws_trees.proofs.runs.RunPlaces.{ClearWorld, ServesUnder, Place, NextCall, call_known}
use Rattle.laws_trees.proofs.runs.Claims.{Known, NeverHold}

picks_nothing : (m : Meaning) (args : List Value) (f : Pick → List Content) (calls : List SiteTerm) (k : Pick) → ((rest : Pick) → f (k ++ rest) ≡ []) → flat_map f (picks_over m args k calls) ≡ []
picks_nothing m args f [] k h = append-nil (f k) ∙ ap f (sym (append-nil k)) ∙ h []
picks_nothing m args f (c ∷ cs) k h =
    flat_flat f (λ n. picks_over m args (k ++ (c, n) ∷ []) cs) (places_in (site_content m args k c))
    ∙ all_nothing (λ n. flat_map f (picks_over m args (k ++ (c, n) ∷ []) cs)) (places_in (site_content m args k c))
    (λ n i. picks_nothing m args f cs (k ++ (c, n) ∷ []) (λ rest. ap f (append_assoc k ((c, n) ∷ []) rest) ∙ h ((c, n) ∷ rest)))

module _ (clear : ClearWorld) where
  abbrev term_at : ℕ → SiteTerm
  term_at = unfold_site clear.world.sites

  -- a call that a rule goes over, and no loop around
  abbrev pub is_left : List ℕ → SetRule → ℕ → Bool
  is_left looped r s = is_in s r.iterators && not (is_in s looped)

  abbrev calls_left : List ℕ → SetRule → List SiteTerm
  calls_left looped r = map term_at (filter (is_left looped r) (numbers_from 0 clear.world.sites))

  -- the results of a rule under all picks of the calls left
  abbrev rule_left : List ℕ → Pick → SetRule → List Content
  rule_left looped pick r = flat_map (result_in clear.world r) (picks_over clear.world.meaning clear.world.args pick (calls_left looped r))

  abbrev pub left_of : List ℕ → Pick → Option SetRule → List Content
  left_of looped pick None = []
  left_of looped pick (Some r) = rule_left looped pick r

  -- those of the rules of these places in the set
  abbrev pub left : List ℕ → Pick → List ℕ → List Content
  left looped pick ids = flat_map (λ i. left_of looped pick (slice_get clear.rules i)) ids

  -- rules whose demands hold under no longer pick have nothing left
  pub left_nothing : ((k : Pick) → ServesUnder clear.world clear.rules k) → (looped : List ℕ) (pick : Pick) (ids : List ℕ) → NeverHold clear pick ids → left looped pick ids ≡ []
  left_nothing served looped pick ids never = all_nothing (λ i. left_of looped pick (slice_get clear.rules i)) ids (λ i c. by i c (slice_get clear.rules i) refl)
    where
      by : (i : ℕ) → Contains ids i → (o : Option SetRule) → slice_get clear.rules i ≡ o → left_of looped pick o ≡ []
      by i c None e = refl
      by i c (Some r) e =
          picks_nothing clear.world.meaning clear.world.args (result_in clear.world r) (calls_left looped r) pick
          (λ rest. elim (cases_Bool (demands_hold clear.world (pick ++ rest) r)) [
            | inl t ↦ absurd (never rest (served (pick ++ rest)) i r c e t)
            | inr f ↦ cond-false (demands_hold clear.world (pick ++ rest) r) (as_list (content_at clear.world (pick ++ rest) r.result)) [] f
          ])

  -- where loops around go over all calls of a rule, none is left
  pub none_left : (ar : Around) (r : SetRule) → IsTested ar r → (t : ℕ) → is_left ar.looped r t ≡ false
  none_left ar r all t =
      elim (cases_Bool (is_in t r.iterators)) [
        | inl i ↦ ap₂ (λ a b. a && not b) i (member_is_in t ar.looped (all.iterators t (member_found t r.iterators i)))
        | inr f ↦ ap (λ a. a && not (is_in t ar.looped)) f
      ]

  -- a call that is ready is gone over first
  module _ (place : Place clear) (next : NextCall clear place) where
    abbrev call : SiteTerm
    call = term_at next.source

    abbrev pub longer : ℕ → Pick
    longer n = place.pick ++ (call, n) ∷ []

    inside : next.source < length clear.world.sites
    inside = call_known clear next.source next.gone_over

    call_first : (r : SetRule) → Contains clear.rules r → Contains r.iterators next.source
        → IsPermutation (rule_left place.around.looped place.pick r) (flat_map (λ n. rule_left (next.source ∷ place.around.looped) (longer n) r) (numbers_from 0 (contents next.answers)))
    call_first r known over =
        let t = taken_out (is_left place.around.looped r) (is_left (next.source ∷ place.around.looped) r) next.source 0 clear.world.sites (omega arith) (omega (arith, inside)) left_now gone_then others in
        let first = map term_at t.first in
        let after = map term_at t.after in
        let all : calls_left place.around.looped r ≡ first ++ call ∷ after = ap (map term_at) t.all ∙ map-append term_at t.first (next.source ∷ t.after) in
        let less : calls_left (next.source ∷ place.around.looped) r ≡ first ++ after = ap (map term_at) t.others ∙ map-append term_at t.first t.after in
        let ordered = ordered_prefix (keys place.pick) first (call ∷ after) (subst (OrderedFrom (keys place.pick)) all (numbers_ordered term_at (is_left place.around.looped r) (keys place.pick) 0 clear.world.sites earlier)) in
        let absent : Contains first call → ⊥ = λ c.
        let u = from_map term_at t.first call c in
        let l = t.less u.0 u.1 in
        let e = unfold_once clear.world.sites clear.sources u.0 next.source clear.once (omega (arith, l, inside)) inside u.2 in
        absurd (omega (arith, l, e)) in
        let moved = calls_can_come_first_lem clear.world.meaning clear.world.args (result_in clear.world r) place.pick first after call (λ k l g. results_are_of_places_lem.1 clear.world r k l g) ordered (content_covered clear.world.meaning clear.world.args place.pick call (many next.answers) next.list) absent in
        let each =
        flat_flat (result_in clear.world r) (λ n. picks_over clear.world.meaning clear.world.args (longer n) (first ++ after)) (places_in (content_at clear.world place.pick next.source))
        ∙ ap (λ o. flat_map (λ n. flat_map (result_in clear.world r) (picks_over clear.world.meaning clear.world.args (longer n) (first ++ after))) (places_in o)) next.list
        ∙ ap (λ l. flat_map (λ n. flat_map (result_in clear.world r) (picks_over clear.world.meaning clear.world.args (longer n) l)) (numbers_from 0 (contents next.answers))) (sym less) in
        subst (λ l. IsPermutation (flat_map (result_in clear.world r) (picks_over clear.world.meaning clear.world.args place.pick l)) (flat_map (λ n. rule_left (next.source ∷ place.around.looped) (longer n) r) (numbers_from 0 (contents next.answers)))) (sym all)
        (subst (IsPermutation (flat_map (result_in clear.world r) (picks_over clear.world.meaning clear.world.args place.pick (first ++ call ∷ after)))) each moved)
      where
        left_now : is_left place.around.looped r next.source ≡ true
        left_now = and_from (is_in next.source r.iterators) (not (is_in next.source place.around.looped)) (member_is_in next.source r.iterators over) (ap not next.out)

        gone_then : is_left (next.source ∷ place.around.looped) r next.source ≡ false
        gone_then = ap₂ (λ a b. a && not b) (member_is_in next.source r.iterators over) (member_is_in next.source (next.source ∷ place.around.looped) (in_head next.source place.around.looped))

        others : (t : ℕ) → (t ≡ next.source → ⊥) → is_left (next.source ∷ place.around.looped) r t ≡ is_left place.around.looped r t
        others t d =
            elim (cases_Bool (next.source == t)) [
              | inl e ↦ absurd (d (sym (eqb-true next.source t e)))
              | inr f ↦ ap (λ b. is_in t r.iterators && not (b || is_in t place.around.looped)) f
            ]

        earlier : (s : ℕ) → 0 ≤ s → is_left place.around.looped r s ≡ true → (c : SiteTerm) → Contains (calls_in (term_at s)) c → IsEarlier term_at (is_left place.around.looped r) (keys place.pick) 0 s c
        earlier s l p c k =
            let i = member_found s r.iterators (and_parts (is_in s r.iterators) (not (is_in s place.around.looped)) p).0 in
            let b = calls_below clear.world.sites clear.sources s c k in
            let under_s = below_within clear.world.sites clear.sources (suc s) s b.0 b.2 in
            let source_less = clear.sources b.0 b.1 (subst (λ o. Contains (sources_in o) b.1) (sym b.3) (in_head b.1 [])) in
            let gate : is_in b.1 r.iterators ≡ true = sym (ap (gate_demanded r) b.3) ∙ (clear.gone_over r known s i).gates b.0 b.2 in
            elim (cases_Bool (is_in b.1 place.around.looped)) [
              | inl t ↦ inl (subst (Contains (keys place.pick)) (sym b.4) (place.at.picked.named b.1 (member_found b.1 place.around.looped t)))
              | inr f ↦ inr (b.1, and_from (is_in b.1 r.iterators) (not (is_in b.1 place.around.looped)) gate (ap not f), omega arith, omega (arith, under_s, source_less), b.4)
            ]

    pub loop_first : (ids : List ℕ) → Known clear.rules ids → AllGoOver clear.rules ids next.source
        → IsPermutation (left place.around.looped place.pick ids) (flat_map (λ n. left (next.source ∷ place.around.looped) (longer n) ids) (numbers_from 0 (contents next.answers)))
    loop_first ids known over =
        by_places (λ i. left_of place.around.looped place.pick (slice_get clear.rules i)) (λ n i. left_of (next.source ∷ place.around.looped) (longer n) (slice_get clear.rules i)) (numbers_from 0 (contents next.answers)) ids
        (λ i c.
        let g = get_within clear.rules i (known i c) in
        subst (λ o. IsPermutation (left_of place.around.looped place.pick o) (flat_map (λ n. left_of (next.source ∷ place.around.looped) (longer n) o) (numbers_from 0 (contents next.answers)))) (sym g.1)
        (call_first g.0 (member_from_get clear.rules i g.0 g.1) (over i g.0 c g.1)))
