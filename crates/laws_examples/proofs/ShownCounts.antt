-- A visit counts what the patterns of its rule show.
use Rattle.std.proofs.Common.{◌≡◌, ℕ, suc, List, [], ◌∷◌, ◌++◌, map, flat_map, refl, sym, ap, ◌∙◌, arith}
use Rattle.std.proofs.lemmas.Grind.{common_steps}
use Rattle.std.proofs.lemmas.List.{append-nil, append_assoc}
use Rattle.model.specs.rules.Program.{Program, Kind, kind}
use Rattle.model.specs.rules.Typed.{TypedPattern, match_bind, match_term, match_and, TypedPatterns, no_typed_pattern, typed_pattern_and, TypedIfLet}
use Rattle.model.specs.sites.Sites.{is_present, SiteTerm}
use Rattle.model.specs.visits.Demands.{Count, Visit, visit_start, asking, pattern_count, open_term, visit_pattern, visit_each, visit_all, visit_expr, asking_all, unwraps, visit_args, visit_iflets}
use Rattle.model.proofs.Either.{either}
use Rattle.laws_sites.proofs.VisitInvariants.{expr_kept}
use Rattle.laws_sites.proofs.Patterns.{AsManySites, as_many_sites}
use Rattle.laws_sites.proofs.AskedSites.{equated}
use Rattle.laws_examples.specs.ShownCounts.{shown, shown_in, shown_of_args, term_shown, VisitsCountWhatIsShown}

-- what a visit has counted so far
abbrev counts : Visit → List Count
counts v = map (λ c. c.0) v.demands.counted

-- 1. terms
module _ (p : Program) (args : TypedPatterns) (each : (ss : List SiteTerm) (v : Visit) → AsManySites ss args → counts (visit_each p args ss v) ≡ counts v ++ shown_in p args) where
  term_counts : (k : Kind) (t : ℕ) (s : SiteTerm) (v : Visit)
      → (let o = open_term k t s args v in counts (visit_each p args o.inputs o.visit) ≡ counts v ++ term_shown k (pattern_count args) (shown_in p args))
  term_counts k t s v = grind (arith, common_steps, as_many_sites, append-nil)

-- 2. patterns
then_more : (a b c : List Count) (x y : List Count) → b ≡ a ++ x → c ≡ b ++ y → c ≡ a ++ (x ++ y)
then_more a b c x y e f = f ∙ ap (λ l. l ++ y) e ∙ append_assoc a x y

module _ (p : Program) where
  mutual
    pattern_counts : (q : TypedPattern) (s : SiteTerm) (v : Visit) → counts (visit_pattern p q s v) ≡ counts v ++ shown p q
    pattern_counts (match_bind ty x sub) s v = pattern_counts sub s _
    pattern_counts (match_term ty t args) s v = term_counts p args (λ ss w m. each_counts args ss w m) (kind p t) t s v
    pattern_counts (match_and ty parts) s v = all_count parts s v
    pattern_counts q s v = grind (arith, either, equated, append-nil)

    each_counts : (qs : TypedPatterns) (ss : List SiteTerm) (v : Visit) → AsManySites ss qs → counts (visit_each p qs ss v) ≡ counts v ++ shown_in p qs
    each_counts (typed_pattern_and q qs) (s ∷ ss) v m = grind (arith, common_steps, pattern_counts q s v, each_counts qs ss, then_more (counts v), then_more)
    each_counts qs ss v m = grind (arith, common_steps, append-nil)

    all_count : (qs : TypedPatterns) (s : SiteTerm) (v : Visit) → counts (visit_all p qs s v) ≡ counts v ++ shown_in p qs
    all_count (typed_pattern_and q qs) s v = grind (arith, common_steps, pattern_counts q s v, all_count qs s, then_more (counts v), then_more)
    all_count no_typed_pattern s v = sym (append-nil (counts v))

  -- 3. expressions count nothing
  asking_counts : (ss : List SiteTerm) (v : Visit) → counts (asking_all ss v) ≡ counts v
  asking_counts [] v = refl
  asking_counts (s ∷ ss) v = asking_counts ss (asking s is_present v)

  -- 4. arguments and if-lets
  args_count : (i : ℕ) (qs : List TypedPattern) (v : Visit) → counts (visit_args p i qs v) ≡ counts v ++ shown_of_args p i qs
  args_count i (q ∷ qs) v = grind (arith, common_steps, args_count (suc i) qs, pattern_counts, then_more)
  args_count i [] v = sym (append-nil (counts v))

  iflets_count : (is : List TypedIfLet) (v : Visit) → counts (visit_iflets p is v) ≡ counts v ++ flat_map (λ i. shown p i.lhs) is
  iflets_count [] v = sym (append-nil (counts v))
  iflets_count (i ∷ is) v =
      let a = visit_expr p i.rhs v in
      let u = asking_all (unwraps a.site) a.visit in
      let w = visit_pattern p i.lhs a.site u in
      let same : counts u ≡ counts v = asking_counts (unwraps a.site) a.visit ∙ expr_kept p (λ x. counts x ≡ counts v) (grind (arith, common_steps)) i.rhs v refl in
      let first : counts w ≡ counts v ++ shown p i.lhs = pattern_counts i.lhs a.site u ∙ ap (λ l. l ++ shown p i.lhs) same in
      then_more (counts v) (counts w) (counts (visit_iflets p is w)) (shown p i.lhs) (flat_map (λ j. shown p j.lhs) is) first (iflets_count is w)

pub visits_count_what_is_shown_lem : VisitsCountWhatIsShown
visits_count_what_is_shown_lem p r =
    let u = visit_args p 0 r.args visit_start in
    let w = visit_iflets p r.iflets u in
    grind (arith, common_steps)
    ∙ expr_kept p (λ x. counts x ≡ counts w) (grind (arith, common_steps)) r.rhs w refl
    ∙ iflets_count p r.iflets u ∙ ap (λ l. l ++ flat_map (λ i. shown p i.lhs) r.iflets) (args_count p 0 r.args visit_start)
