-- Calls that are asked to answer, in whatever order and however often, but for those that were asked.
use Rattle.std.proofs.Common.{◌≡◌, ◌⊎◌, ℕ, add-one, ◌+◌, ◌<◌, ◌≤◌, All, get_or, take, length, arith, if◌then◌else◌, List, [], ◌∷◌, ◌++◌, map, Option, Some, None, Contains, refl, sym, ap, ◌∙◌, subst, inl, inr}
use Rattle.std.proofs.lemmas.Bool.{cases_Bool}
use Rattle.std.proofs.lemmas.List.{append_assoc, append-nil, map-append, take_all}
use Rattle.std.proofs.lemmas.List.Elements.{Contains-append_left, Contains-append_right, Contains-append_cases}
use Rattle.std.proofs.Math.Seq.{take-suc}
use Rattle.std.proofs.lemmas.Grind.{common_steps}
use Rattle.laws_sites.proofs.FollowingDemands.{constraint_there}
use Rattle.core_syntax.specs.Stable.{Members}
use Rattle.model.specs.sites.Sites.{Constraint, is_present, SiteTerm, unfold_site}
use Rattle.model.specs.visits.Demands.{has_site, Visit, asking, asking_all, unwraps}
use Rattle.model.specs.sites.Closure.{conflict_with, conflicts_met, constraint_of, with_constraints, before_closing}
use Rattle.model.proofs.Elements.{In, in_from_contains, contains_from_in, in_either, none_some}
use Rattle.model.proofs.Members.{from_map, in_map}
use Rattle.model.proofs.SitesMade.{in_has, has_in}
use Rattle.laws_sites.proofs.Closing.{found_constraint}
use Rattle.laws_sites.specs.Followers.{AsksNothingElse}
use Rattle.core_rule_sets.specs.Closings.{AreDemandsOf}
use Rattle.core_builder.specs.VisitedSites.{AreAnswered, AreUnwrapped, built_sites, GoesTo, BuilderStandsAt}
use Rattle.core_builder.specs.declared.ruleset_builder.RuleSetBuilder.{RuleSetBuilder}
use Rattle.core_builder.proofs.BuilderFields.{goes_further}
use Rattle.core_builder.proofs.BuilderSteps.{either_of, of_both, firsts_same, conflicts_push}

-- 1. where a visit stands then
abbrev presents : List SiteTerm → List (SiteTerm × Constraint)
presents us = map (λ s. (s, is_present)) us

abbrev answering : List SiteTerm → Visit → Visit
answering us v = record v { demands = record v.demands { constraints = v.demands.constraints ++ presents us } }

asks_all : (us : List SiteTerm) (v : Visit) → asking_all us v ≡ answering us v
asks_all [] v = sym (λ i. record v { demands = record v.demands { constraints = append-nil v.demands.constraints i } })
asks_all (s ∷ ss) v = grind (arith, common_steps, asks_all ss (asking s is_present v), append_assoc v.demands.constraints ((s, is_present) ∷ []) (presents ss))

-- 2. what sites are asked
of_presents : (us : List SiteTerm) (u : SiteTerm) → constraint_of (presents us) u ≡ (if has_site us u then Some is_present else None)
of_presents [] u = refl
of_presents (s ∷ ss) u = grind (arith, common_steps, of_presents ss u)

-- some of these sites are asked to answer, and the others were before
record AskTheOthers (cs : List (SiteTerm × Constraint)) (us ws : List SiteTerm) : Type 0 where
  few : (u : SiteTerm) → Contains ws u → Contains us u
  all : (u : SiteTerm) → Contains us u → Contains ws u ⊎ Contains cs (u, is_present)

module _ (cs : List (SiteTerm × Constraint)) (us ws : List SiteTerm) (h : AskTheOthers cs us ws) where
  has_same : (u : SiteTerm) → constraint_of cs u ≡ None → has_site us u ≡ has_site ws u
  has_same u none =
      elim (cases_Bool (has_site us u)) [
        | inl t ↦
            elim (h.all u (contains_from_in us u (has_in us u t))) [
              | inl i ↦ t ∙ sym (in_has ws u (in_from_contains ws u i))
              | inr i ↦ let r = constraint_there cs u is_present (in_from_contains cs (u, is_present) i) in absurd (none_some r.0 (sym none ∙ r.1))
            ]
        | inr f ↦ grind (arith, common_steps, in_has us u, in_from_contains us u, contains_from_in ws u, has_in ws u)
      ]

  asked_same : (u : SiteTerm) → constraint_of (with_constraints [] (cs ++ presents us)) u ≡ constraint_of (with_constraints [] (cs ++ presents ws)) u
  asked_same u =
      firsts_same (cs ++ presents us) [] u ∙ of_both cs (presents us) u ∙ either_same ∙ sym (of_both cs (presents ws) u) ∙ sym (firsts_same (cs ++ presents ws) [] u)
    where
      either_same : either_of (constraint_of cs u) (constraint_of (presents us) u) ≡ either_of (constraint_of cs u) (constraint_of (presents ws) u)
      either_same = grind (arith, common_steps, either_of, of_presents us u, has_same u, of_presents ws u)

  asked_too : (u : SiteTerm) → Contains (cs ++ presents ws) (u, is_present) → Contains (cs ++ presents us) (u, is_present)
  asked_too u i =
      elim (Contains-append_cases cs (presents ws) (u, is_present) i) [
        | inl j ↦ Contains-append_left cs (presents us) (u, is_present) j
        | inr j ↦
            let m = from_map (λ s. (s, is_present)) ws (u, is_present) j in
            Contains-append_right cs (presents us) (u, is_present) (subst (Contains (presents us)) m.2 (in_map (λ s. (s, is_present)) us m.0 (h.few m.0 m.1)))
      ]

-- 3. no conflicts are met, where nothing else is asked of them
agrees : (o : Option Constraint) → ((c : Constraint) → o ≡ Some c → c ≡ is_present) → conflict_with o is_present ≡ []
agrees o h = grind (arith, common_steps)

no_conflicts : (us : List SiteTerm) (cs : List (SiteTerm × Constraint)) → ((s : SiteTerm) (c : Constraint) → In us s → In cs (s, c) → c ≡ is_present)
    → conflicts_met [] (cs ++ presents us) ≡ conflicts_met [] cs
no_conflicts [] cs h = ap (conflicts_met []) (append-nil cs)
no_conflicts (s ∷ ss) cs h =
    ap (conflicts_met []) (sym (append_assoc cs ((s, is_present) ∷ []) (presents ss)))
    ∙ no_conflicts ss (cs ++ (s, is_present) ∷ [])
    (λ t c i j. grind (arith, common_steps, in_either cs ((s, is_present) ∷ []) (t, c) j))
    ∙ conflicts_push cs [] (s, is_present)
    ∙ ap (λ l. conflicts_met [] cs ++ l) (agrees (constraint_of cs s) (λ c e. h s c (inl refl) (found_constraint cs s c e)))
    ∙ append-nil (conflicts_met [] cs)

-- 4. so a builder that asked those that weren't stands where a visit does that asks them all
module _ (before : List SiteTerm) (b : RuleSetBuilder) (v : Visit) (us ws : List SiteTerm) (o : AskTheOthers v.demands.constraints us ws)
    (nothing_else : (s : SiteTerm) (c : Constraint) → Contains us s → Contains v.demands.constraints (s, c) → c ≡ is_present) where
  nothing_in : (ts : List SiteTerm) → ((s : SiteTerm) → Contains ts s → Contains us s) → (s : SiteTerm) (c : Constraint) → In ts s → In v.demands.constraints (s, c) → c ≡ is_present
  nothing_in ts h s c i j = nothing_else s c (h s (contains_from_in ts s i)) (contains_from_in v.demands.constraints (s, c) j)

  asked_before : AreDemandsOf (built_sites b) b.demanded (before_closing before (answering ws v).demands) → (u : SiteTerm) (c : Constraint)
      → Contains (with_constraints [] (v.demands.constraints ++ presents us)) (u, c) → Contains (before_closing before v.demands).made u
  asked_before h u c i =
      let all = v.demands.constraints ++ presents us in
      let there = constraint_there (with_constraints [] all) u c (in_from_contains (with_constraints [] all) (u, c) i) in
      let also = sym (asked_same v.demands.constraints us ws o u) ∙ there.1 in
      let others = with_constraints [] (v.demands.constraints ++ presents ws) in
      h.asked_made u there.0 (contains_from_in others (u, there.0) (found_constraint others u there.0 also))

  answering_too : BuilderStandsAt before b (answering ws v) → BuilderStandsAt before b (answering us v)
  answering_too h = record {
    table = h.table;
    due = h.due;
    demands = record {
      stand = h.demands.stand;
      once = h.demands.once;
      asked = λ s l. h.demands.asked s l ∙ sym (asked_same v.demands.constraints us ws o _);
      asked_within = h.demands.asked_within;
      asked_made = asked_before h.demands;
      equated = h.demands.equated;
      equated_within = h.demands.equated_within;
      equated_made = h.demands.equated_made;
      apart = h.demands.apart;
    };
    conflicts =
        h.conflicts ∙ no_conflicts ws v.demands.constraints (nothing_in ws o.few) ∙ sym (no_conflicts us v.demands.constraints (nothing_in us (λ s i. i)));
    gone_over = h.gone_over;
    all_gone_over = h.all_gone_over;
    impure = record { within = h.impure.within; numbers = h.impure.numbers };
    calls = h.calls;
    numbered = h.numbered;
    answered = λ s t. let g = h.answered s t in (g.0, λ u i. asked_too v.demands.constraints us ws o u (g.1 u i));
    few = h.few;
  }

  stands_same : BuilderStandsAt before b (asking_all ws v) → BuilderStandsAt before b (asking_all us v)
  stands_same h = subst (BuilderStandsAt before b) (sym (asks_all us v)) (answering_too (subst (BuilderStandsAt before b) (asks_all ws v) h))

-- and notes the sites whose calls were asked
abbrev pub with_answered : RuleSetBuilder → Members ℕ → RuleSetBuilder
with_answered b walked = record b { answered = walked }

pub stands_with : (before : List SiteTerm) (b : RuleSetBuilder) (v : Visit) (walked : Members ℕ) → BuilderStandsAt before b v → AreAnswered (built_sites b) v walked → BuilderStandsAt before (with_answered b walked) v
stands_with before b v walked h a = record {
  table = h.table;
  due = h.due;
  demands = h.demands;
  conflicts = h.conflicts;
  gone_over = h.gone_over;
  all_gone_over = h.all_gone_over;
  impure = record { within = h.impure.within; numbers = h.impure.numbers };
  calls = h.calls;
  numbered = h.numbered;
  answered = a;
  few = h.few;
}

module _ (before : List SiteTerm) (old mid : RuleSetBuilder) (v : Visit) (s : ℕ) (none walked : Members ℕ) (calls : List ℕ) (h : BuilderStandsAt before old v) (nothing_else : AsksNothingElse v (unfold_site (built_sites old) s))
    (a : AreUnwrapped (built_sites old) s old.answered walked calls) (g : GoesTo before (with_answered old none) mid (asking_all (map (unfold_site (built_sites old)) calls) v)) where
  abbrev f : ℕ → SiteTerm
  f = unfold_site (built_sites old)

  abbrev us : List SiteTerm
  us = unwraps (f s)

  the_others : AskTheOthers v.demands.constraints us (map f calls)
  the_others = record { few = a.unwrapped; all = λ u i. elim (a.all u i) [ inl j ↦ inl j | inr d ↦ inr ((h.answered d.0 d.1).1 u d.2) ] }

  still : (u : SiteTerm) → Contains v.demands.constraints (u, is_present) → Contains (asking_all us v).demands.constraints (u, is_present)
  still u i = subst (λ (w : Visit). Contains w.demands.constraints (u, is_present)) (sym (asks_all us v)) (Contains-append_left v.demands.constraints (presents us) (u, is_present) i)

  now : (u : SiteTerm) → Contains us u → Contains (asking_all us v).demands.constraints (u, is_present)
  now u i =
      subst (λ (w : Visit). Contains w.demands.constraints (u, is_present)) (sym (asks_all us v))
      (Contains-append_right v.demands.constraints (presents us) (u, is_present) (in_map (λ x. (x, is_present)) us u i))

  same : (t : ℕ) → t < length (built_sites old) → (u : SiteTerm) → Contains (unwraps (unfold_site (built_sites mid) t)) u → Contains (unwraps (f t)) u
  same t l u i = subst (λ x. Contains (unwraps x) u) (g.kept t l) i

  answered : AreAnswered (built_sites mid) (asking_all us v) walked
  answered t w =
      let longer = g.longer in
      elim (a.walked t w) [
        | inl b ↦ let k = h.answered t b in let l = k.0 in (omega (arith, l, longer), λ u i. still u (k.1 u (same t l u i)))
        | inr p ↦
            let l = p.0 in (
              omega (arith, l, longer),
              λ u i. elim (p.1 u (same t l u i)) [ inl j ↦ now u (a.unwrapped u j) | inr d ↦ still u ((h.answered d.0 d.1).1 u d.2) ],
            )
      ]

  pub answers_asked : GoesTo before old (with_answered mid walked) (asking_all us v)
  answers_asked = record {
    stands = stands_with before mid (asking_all us v) walked (stands_same before mid v us (map f calls) the_others nothing_else g.stands) answered;
    kept = g.kept;
    longer = g.longer;
  }

-- 5. calls that are asked one after another
asking_push : (us : List SiteTerm) (u : SiteTerm) (v : Visit) → asking_all (us ++ u ∷ []) v ≡ asking u is_present (asking_all us v)
asking_push [] u v = refl
asking_push (s ∷ ss) u v = asking_push ss u (asking s is_present v)

pub one_more_answer : (before : List SiteTerm) (old now new : RuleSetBuilder) (v : Visit) (xs : List ℕ) (i x : ℕ) → i < length xs → x ≡ get_or xs i x → All (λ n. n < length (built_sites old)) xs
    → GoesTo before old now (asking_all (map (unfold_site (built_sites old)) (take i xs)) v)
    → ((w : Visit) → BuilderStandsAt before now w → x < length (built_sites now) → GoesTo before now new (asking (unfold_site (built_sites now) x) is_present w))
    → GoesTo before old new (asking_all (map (unfold_site (built_sites old)) (take (i + 1) xs)) v)
one_more_answer before old now new v xs i x l is below g next =
    let f = unfold_site (built_sites old) in
    let w = asking_all (map f (take i xs)) v in
    let there : x < length (built_sites old) = subst (λ n. n < length (built_sites old)) (sym is) (below i x l) in
    let longer = g.longer in
    let asked : GoesTo before now new (asking (f x) is_present w) = subst (λ u. GoesTo before now new (asking u is_present w)) (g.kept x there) (next w g.stands (omega (arith, there, longer))) in
    let more : map f (take (i + 1) xs) ≡ map f (take i xs) ++ f x ∷ [] = ap (map f) (ap (λ j. take j xs) (add-one i) ∙ take-suc xs i x l ∙ ap (λ y. take i xs ++ y ∷ []) (sym is)) ∙ map-append f (take i xs) (x ∷ []) in
    subst (λ us. GoesTo before old new (asking_all us v)) (sym more)
    (subst (GoesTo before old new) (sym (asking_push (map f (take i xs)) (f x) v)) (goes_further before old now new w (asking (f x) is_present w) g asked))

pub all_answers : (before : List SiteTerm) (old now : RuleSetBuilder) (v : Visit) (xs : List ℕ) (i : ℕ) → length xs ≤ i → GoesTo before old now (asking_all (map (unfold_site (built_sites old)) (take i xs)) v)
    → GoesTo before old now (asking_all (map (unfold_site (built_sites old)) xs) v)
all_answers before old now v xs i l g = subst (λ ys. GoesTo before old now (asking_all (map (unfold_site (built_sites old)) ys) v)) (take_all i xs l) g
