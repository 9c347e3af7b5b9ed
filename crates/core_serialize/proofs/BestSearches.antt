-- The search for the best open test: one test more, those of one more thing, and when all that may cover a rule are tried.
use Rattle.std.proofs.Common.{◌≡◌, ℕ, ◌+◌, ◌<◌, Bool, true, false, not, ◌&&◌, nat_lt, List, [], ◌∷◌, ◌++◌, option_map, take, drop, get_or, length, is_some, Some, None, Contains, slice_get, refl, sym, ap, ◌∙◌, subst, inl, inr, ◌⊎◌, eqb-true, eq-eqb, ltb-true, arith, cond, zero, suc, ◌≤◌}
use Rattle.std.specs.Global.{Vec}
use Rattle.std.specs.List.{filter, find, flat_map, list_all, list_any, prefix_len}
use Rattle.std.proofs.lemmas.Bool.{cases_Bool, cond-true, cond-false, and_from, and_parts, not-false, or_cases, false≢true}
use Rattle.std.proofs.lemmas.List.{take_more, take-append-drop}
use Rattle.std.proofs.lemmas.Option.{none-some, same_Some}
use Rattle.std.proofs.lemmas.List.Elements.{Contains-append_left, Contains-append_cases}
use Rattle.std.proofs.lemmas.Grind.{common_steps}
use Rattle.model.specs.sites.Sites.{SetRule, SiteSet}
use Rattle.model.specs.trees.Places.{Around, is_in, class, joins, joins_in, constraint_at}
use Rattle.model.specs.trees.Tests as Tests
use Rattle.model.specs.trees.Tests.{match_test, equal_test, loop_test, needs_at, cover, IsOpen, is_at_hand}
use Rattle.model.proofs.Members.{nothing_in, each_passes, in_cases, in_head, in_map, in_tail, in_alone, one_passes, member_found, passes_any}
use Rattle.core_rule_sets.specs.Listings.{are_listed, ascends, class_lists, is_listed_class, sites_of}
use Rattle.core_rule_sets.specs.SiteViews.{constraint_views}
use Rattle.core_rule_sets.specs.declared.trie_again.Constraint.{Constraint as WrittenConstraint}
use Rattle.core_serialize.specs.declared.open_tests.BestSearch.{BestSearch}
use Rattle.core_serialize.specs.declared.tests.Scored.{Scored}
use Rattle.core_serialize.specs.declared.tests.Test.{Test}
use Rattle.core_serialize.specs.AroundViews.{AreAtHand}
use Rattle.core_serialize.specs.Bars.{reaches}
use Rattle.core_serialize.specs.declared.calls.CallsByRule.{CallsByRule}
use Rattle.core_serialize.specs.RuleCalls.{calls_of, AreCalls, AreCounts}
use Rattle.core_serialize.specs.NeededTests.{AllJoined, EmittedAreJoined, IsBestSearch, SearchesMore, OfSome, IsTest, IsMatch, IsMatchAsked, IsMatchOf, IsEqualOf, IsPair, IsPairOf, IsPairWith, IsWanted, IsLoop, IsLoopOf}
use Rattle.core_serialize.specs.TestViews.{test_view, greater_test, IsBestOpen, IsFrom, IsNoBetter, IsOpenScored, IsScored}
use Rattle.core_serialize.proofs.Ascents.{ascends_behind, ascends_head, ascends_tail}
use Rattle.core_serialize.proofs.BarSteps.{highest_need}
use Rattle.core_serialize.proofs.TestSteps.{cover_needed, greater_open, no_better_itself, no_better_kept}

-- one of the first of a list is one of it
pub in_first : {X : Type 0} (i : ℕ) (xs : List X) (x : X) → Contains (take i xs) x → Contains xs x
in_first i xs x c = subst (λ l. Contains l x) (take-append-drop i xs) (Contains-append_left (take i xs) (drop i xs) x c)

-- one of the first of a list, by its place
in_take : (xs : List ℕ) (i n x : ℕ) → i < n → i < length xs → x ≡ get_or xs i x → Contains (take n xs) x
in_take (y ∷ xs) (suc i) (suc n) x l m e = in_tail y x (take n xs) (in_take xs i n x (omega (arith, l)) (omega (arith, m)) e)
in_take xs i n x l m e = grind (arith, common_steps, in_head)

-- the sites of a class that may not be joined with the one at a place, where so many at its head are joined
abbrev others_at : List ℕ → ℕ → ℕ → List ℕ
others_at sites at n = cond (nat_lt at n) (drop n sites) sites

in_others : (sites : List ℕ) (at n s : ℕ) → Contains (others_at sites at n) s → Contains sites s
in_others sites at n s c =
    elim (cases_Bool (nat_lt at n)) [
      | inl t ↦ grind (arith, common_steps, take-append-drop n sites)
      | inr f ↦ subst (λ l. Contains l s) (cond-false (nat_lt at n) (drop n sites) sites f) c
    ]

drop_ascends : (n : ℕ) (sites : List ℕ) → ascends sites ≡ true → ascends (drop n sites) ≡ true
drop_ascends (suc n) (x ∷ sites) h = drop_ascends n sites (ascends_tail x sites h)
drop_ascends _ _ h = h

pub others_ascend : (sites : List ℕ) (at n : ℕ) → ascends sites ≡ true → ascends (others_at sites at n) ≡ true
others_ascend sites at n h = grind (arith, common_steps, drop_ascends n sites h)

-- what holds of the sites of a class holds of one of them and such others
pub others_joined : (ar : Around) (sites : List ℕ) (at n a : ℕ) → at < length sites → a ≡ get_or sites at a → EmittedAreJoined ar sites → EmittedAreJoined ar (a ∷ others_at sites at n)
others_joined ar sites at n a l e h x y c d = h x y (there x c) (there y d)
  where
    there : (s : ℕ) → Contains (a ∷ others_at sites at n) s → Contains sites s
    there s c = grind (arith, common_steps, in_cases a s (others_at sites at n) c, in_others sites at n s)

module _ (set : SiteSet) (ar : Around) (here : List ℕ) where
  -- 1. searches
  pub nothing_searched : (search : BestSearch) → search.found ≡ [] → search.scored.items ≡ [] → search.best ≡ None → IsBestSearch set ar here search
  nothing_searched search f s b = grind (arith, common_steps, nothing_in)

  -- nothing is tried of no things
  pub searches_none : {X : Type 0} (Kind : X → Tests.Test → Type 0) (old : BestSearch) → IsBestSearch set ar here old → SearchesMore set ar here (OfSome Kind []) old old
  searches_none Kind old h = record { now = h; kept = λ u l. l; tried = λ u o k. absurd (nothing_in k.0 k.1) }

  pub searches_as : (Kind Other : Tests.Test → Type 0) (old new : BestSearch) → ((u : Tests.Test) → Other u → Kind u) → SearchesMore set ar here Kind old new → SearchesMore set ar here Other old new
  searches_as Kind Other old new f h = record { now = h.now; kept = h.kept; tried = λ u o k. h.tried u o (f u k) }

  pub searches_both : (Kind Other : Tests.Test → Type 0) (old mid new : BestSearch) → SearchesMore set ar here Kind old mid → SearchesMore set ar here Other mid new → SearchesMore set ar here (λ u. Kind u ⊎ Other u) old new
  searches_both Kind Other old mid new g h = grind (arith, common_steps)

  -- of the things so far, and of one more
  pub searches_more : {X : Type 0} (Kind : X → Tests.Test → Type 0) (xs : List X) (i : ℕ) (x d : X) (old mid new : BestSearch) → i < length xs → x ≡ get_or xs i d
      → SearchesMore set ar here (OfSome Kind (take i xs)) old mid → SearchesMore set ar here (Kind x) mid new → SearchesMore set ar here (OfSome Kind (take (i + 1) xs)) old new
  searches_more Kind xs i x d old mid new l e g h =
      searches_as (λ u. OfSome Kind (take i xs) u ⊎ Kind x u) (OfSome Kind (take (i + 1) xs)) old new
      (λ u k. elim (Contains-append_cases (take i xs) (get_or xs i d ∷ []) k.0 (subst (λ l. Contains l k.0) (take_more xs i d l) k.1)) [
        | inl c ↦ inl (k.0, c, k.2)
        | inr c ↦ inr (subst (λ y. Kind y u) (sym (e ∙ in_alone (get_or xs i d) k.0 c)) k.2)
      ])
      (searches_both (OfSome Kind (take i xs)) (Kind x) old mid new g h)

  -- one open test is scored
  pub one_scored : (t : Test) (old new : BestSearch) (next : Scored) → new.found ≡ old.found → new.scored.items ≡ old.scored.items ++ t ∷ [] → new.best ≡ Some next
      → next.test ≡ greater_test set ar here (option_map (λ s. s.test) old.best) t → IsScored set ar here next → IsOpen set ar (test_view t) → IsBestSearch set ar here old → SearchesMore set ar here (IsTest t) old new
  one_scored t old new next f s b e k o h =
      let kept : (u : Tests.Test) → IsNoBetter set ar here old.best u → IsNoBetter set ar here new.best u =
      λ u n. subst (λ x. IsNoBetter set ar here x u) (sym b) (no_better_kept set ar here old.best t next e h.best k u n) in
      let this : IsNoBetter set ar here new.best (test_view t) = subst (λ x. IsNoBetter set ar here x (test_view t)) (sym b) (no_better_itself set ar here old.best t next e k) in
      record {
        now = record {
          found = subst (AreAtHand set.sites ar) (sym f) h.found;
          best = subst (IsOpenScored set ar here) (sym b) (greater_open set ar here old.best t next e o h.best, k);
          scored = λ x c. elim (Contains-append_cases old.scored.items (t ∷ []) x (subst (λ l. Contains l x) s c)) [
            | inl d ↦ kept (test_view x) (h.scored x d)
            | inr d ↦ subst (λ y. IsNoBetter set ar here new.best (test_view y)) (in_alone t x d) this
          ];
        };
        kept = kept;
        tried = λ u p i. subst (IsNoBetter set ar here new.best) i this;
      }

  -- the match of a site that is a source around isn't open
  pub one_closed : (s : ℕ) (search : BestSearch) → is_in s (Tests.sources_around ar) ≡ true → IsBestSearch set ar here search → SearchesMore set ar here (IsMatch s) search search
  one_closed s search l h = grind (arith, common_steps, and_parts (is_at_hand set ar s) (not (is_in s (Tests.sources_around ar))))

  -- no equality is better
  pub equalities_below : (r : SetRule) (least : ℕ) (search : BestSearch) → least ≡ 0 → ((u : Tests.Test) → IsFrom 1 least u → IsNoBetter set ar here search.best u)
      → IsBestSearch set ar here search → SearchesMore set ar here (IsEqualOf r) search search
  equalities_below r least search z f h = grind (arith, common_steps)

  -- where all emitted sites are joined, no open equality has two of them
  pub none_both : (sites : List ℕ) (a b : ℕ) → EmittedAreJoined ar sites → Contains sites a → Contains sites b → IsOpen set ar (equal_test a b) → (is_in a ar.emitted && is_in b ar.emitted) ≡ false
  none_both sites a b j c d o =
      elim (cases_Bool (is_in a ar.emitted && is_in b ar.emitted)) [
        | inl t ↦
            let p = and_parts (is_in a ar.emitted) (is_in b ar.emitted) t in
            absurd (false≢true (ap not (sym (j a b c d p.0 p.1)) ∙ (and_parts (nat_lt a b && is_at_hand set ar a && is_at_hand set ar b) (not (joins ar.joined a b)) o).1))
        | inr f ↦ f
      ]

  -- nor is any of sites that are all joined
  pub pairs_closed : (sites : List ℕ) (search : BestSearch) → AllJoined ar sites → IsBestSearch set ar here search → SearchesMore set ar here (IsPairOf sites) search search
  pairs_closed sites search j h = grind (arith, common_steps, and_parts)

  -- where no equality of a site and another one, or one behind that, is better, those with the sites before it are all
  pub pairs_below : (sites : List ℕ) (a k x : ℕ) (are_joined : Bool) (old new : BestSearch) → ascends sites ≡ true → (are_joined ≡ true → EmittedAreJoined ar (a ∷ sites)) → k < length sites → x ≡ get_or sites k x
      → SearchesMore set ar here (OfSome (IsPair a) (take k sites)) old new
      → ((b : ℕ) → x ≤ b → (are_joined ≡ true → (is_in a ar.emitted && is_in b ar.emitted) ≡ false) → IsNoBetter set ar here new.best (equal_test a b)) → SearchesMore set ar here (IsPairWith sites a) old new
  pairs_below sites a k x are_joined old new s j l i h n = record {
    now = h.now;
    kept = h.kept;
    tried = λ u o w.
        elim (Contains-append_cases (take k sites) (drop k sites) w.0 (subst (λ y. Contains y w.0) (sym (take-append-drop k sites)) w.1)) [
          | inl b ↦ h.tried u o (w.0, b, w.2)
          | inr b ↦
              subst (IsNoBetter set ar here new.best) w.2
              (n w.0 (ascends_behind sites k x w.0 s l i b) (λ t. none_both (a ∷ sites) a w.0 (j t) (in_head a sites) (in_tail a w.0 sites w.1) (subst (IsOpen set ar) (sym w.2) o)))
        ];
  }

  -- the equalities of a site of a class, where it is at the head, whose sites are joined, are those with the sites behind that
  pub pairs_at : (sites : List ℕ) (at n a : ℕ) (old new : BestSearch) → at < length sites → a ≡ get_or sites at a → AllJoined ar (take n sites) → SearchesMore set ar here (IsPairWith (others_at sites at n) a) old new
      → SearchesMore set ar here (IsPairWith sites a) old new
  pairs_at sites at n a old new m e j h =
      elim (cases_Bool (nat_lt at n)) [
        | inr f ↦ subst (λ l. SearchesMore set ar here (IsPairWith l a) old new) (cond-false (nat_lt at n) (drop n sites) sites f) h
        | inl t ↦
            let g = subst (λ l. SearchesMore set ar here (IsPairWith l a) old new) (cond-true (nat_lt at n) (drop n sites) sites t) h in
            record {
              now = g.now;
              kept = g.kept;
              tried = λ u o w.
                  elim (Contains-append_cases (take n sites) (drop n sites) w.0 (subst (λ y. Contains y w.0) (sym (take-append-drop n sites)) w.1)) [
                    | inl b ↦
                        absurd (false≢true (ap not (sym (j a w.0 (in_take sites at n a (ltb-true at n t) m e) b)) ∙ (and_parts (nat_lt a w.0 && is_at_hand set ar a && is_at_hand set ar w.0) (not (joins ar.joined a w.0)) (subst (IsOpen set ar) (sym w.2) o)).1))
                    | inr b ↦ g.tried u o (w.0, b, w.2)
                  ];
            }
      ]

  -- where no equality of a site or a later one is better, those of the sites before it are all
  pub pairs_behind : (sites : List ℕ) (k x : ℕ) (old new : BestSearch) → ascends sites ≡ true → k < length sites → x ≡ get_or sites k x → SearchesMore set ar here (OfSome (IsPairWith sites) (take k sites)) old new
      → ((u : Tests.Test) → IsFrom 1 x u → IsNoBetter set ar here new.best u) → SearchesMore set ar here (IsPairOf sites) old new
  pairs_behind sites k x old new s l i h f = record {
    now = h.now;
    kept = h.kept;
    tried = λ u o w.
        elim (Contains-append_cases (take k sites) (drop k sites) w.0 (subst (λ y. Contains y w.0) (sym (take-append-drop k sites)) w.1)) [
          | inl b ↦ h.tried u o (w.0, b, w.2)
          | inr b ↦ subst (IsNoBetter set ar here new.best) w.2.2 (f (equal_test w.0 w.2.0) (refl, ascends_behind sites k x w.0 s l i b))
        ];
  }

-- sites that are all joined with one of them
pub joined_with : (ar : Around) (sites : List ℕ) (one : ℕ) → list_all (joins ar.joined one) sites ≡ true → AllJoined ar sites
joined_with ar sites one h a b c d = grind (arith, common_steps, each_passes (joins ar.joined one) sites h)

-- a class that a rule lists ascends
pub class_ascends : (cs : List (Vec ℕ)) (k : ℕ) (x : Vec ℕ) → are_listed (class_lists cs) ≡ true → k < length cs → x ≡ get_or cs k x → ascends x.items ≡ true
class_ascends cs k x h l e =
    let all = (and_parts (list_all is_listed_class (class_lists cs)) (ascends (flat_map (take 1) (class_lists cs))) h).0 in
    let one = each_passes is_listed_class (class_lists cs) all x.items (in_map (λ c. c.items) cs x (k, l, sym e)) in
    (and_parts (ascends x.items) (nat_lt 1 (length x.items)) one).0

-- sites of which all that are emitted are joined with one of them
joined_to : (ar : Around) (sites : List ℕ) (one s : ℕ) → list_any (λ s. is_in s ar.emitted && not (joins ar.joined one s)) sites ≡ false → Contains sites s → is_in s ar.emitted ≡ true → class ar.joined one ≡ class ar.joined s
joined_to ar sites one s h k g =
    eqb-true (class ar.joined one) (class ar.joined s)
    (not-false (joins ar.joined one s)
    (elim (cases_Bool (not (joins ar.joined one s))) [
      | inl t ↦ absurd (false≢true (sym h ∙ passes_any (λ x. is_in x ar.emitted && not (joins ar.joined one x)) sites s k (and_from (is_in s ar.emitted) (not (joins ar.joined one s)) g t)))
      | inr n ↦ n
    ]))

not_found : (p : ℕ → Bool) (xs : List ℕ) → find p xs ≡ None → (x : ℕ) → Contains xs x → p x ≡ false
not_found p [] h x c = absurd (nothing_in x c)
not_found p (y ∷ xs) h x c = grind (arith, common_steps, not_found p xs, none-some y, in_cases y x xs c)

pub none_emitted : (ar : Around) (sites : List ℕ) → find (λ s. is_in s ar.emitted) sites ≡ None → EmittedAreJoined ar sites
none_emitted ar sites h a b c d e f = absurd (false≢true (sym (not_found (λ s. is_in s ar.emitted) sites h a c) ∙ e))

-- sites at the head of others that are joined with one of them
pub head_joined : (ar : Around) (sites : List ℕ) (one : ℕ) → AllJoined ar (take (prefix_len (joins ar.joined one) sites) sites)
head_joined ar sites one = joined_with ar (take (prefix_len (joins ar.joined one) sites) sites) one (all_pass (joins ar.joined one) sites)
  where
    one_more : (n : ℕ) → 1 + n ≡ suc n
    one_more n = omega arith

    all_pass : (p : ℕ → Bool) (xs : List ℕ) → list_all p (take (prefix_len p xs) xs) ≡ true
    all_pass p [] = refl
    all_pass p (x ∷ xs) = grind (arith, common_steps, one_more (prefix_len p xs), all_pass p xs, and_from (p x) (list_all p (take (prefix_len p xs) xs)))

found_in : (p : ℕ → Bool) (xs : List ℕ) (x : ℕ) → find p xs ≡ Some x → Contains xs x
found_in p [] x h = absurd (none-some x h)
found_in p (y ∷ xs) x h = grind (arith, common_steps, found_in p xs x, same_Some y x, in_head y xs, in_tail y x xs)

module _ (ar : Around) (sites : List ℕ) (n : ℕ) (head : AllJoined ar (take n sites)) where
  part : (s : ℕ) → Contains sites s → Contains (take n sites) s ⊎ Contains (drop n sites) s
  part s c = Contains-append_cases (take n sites) (drop n sites) s (subst (λ y. Contains y s) (sym (take-append-drop n sites)) c)

  -- where one at the head is emitted, and of those behind the head each emitted one is joined with it
  pub joined_behind : (one : ℕ) → find (λ s. is_in s ar.emitted) (take n sites) ≡ Some one → list_any (λ s. is_in s ar.emitted && not (joins ar.joined one s)) (drop n sites) ≡ false → EmittedAreJoined ar sites
  joined_behind one e h a b c d x y = eq-eqb (class ar.joined a) (class ar.joined b) (sym (alike a c x) ∙ alike b d y)
    where
      alike : (s : ℕ) → Contains sites s → is_in s ar.emitted ≡ true → class ar.joined one ≡ class ar.joined s
      alike s k g =
          elim (part s k) [
            | inl i ↦ eqb-true (class ar.joined one) (class ar.joined s) (head one s (found_in (λ s. is_in s ar.emitted) (take n sites) one e) i)
            | inr i ↦ joined_to ar (drop n sites) one s h i g
          ]

  -- where none at the head is, and those behind it are joined
  pub joined_rest : find (λ s. is_in s ar.emitted) (take n sites) ≡ None → EmittedAreJoined ar (drop n sites) → EmittedAreJoined ar sites
  joined_rest e h a b c d x y = h a b (behind a c x) (behind b d y) x y
    where
      behind : (s : ℕ) → Contains sites s → is_in s ar.emitted ≡ true → Contains (drop n sites) s
      behind s k g = grind (arith, common_steps, part s k, not_found (λ s. is_in s ar.emitted) (take n sites) e s)

-- 2. what a rule needs
asked_one : (cs : List (ℕ × WrittenConstraint)) (s : ℕ) → is_some (constraint_at (constraint_views cs) s) ≡ true → (c : ℕ × WrittenConstraint) × Contains cs c × (c.0 ≡ s)
asked_one [] s h = absurd (false≢true h)
asked_one (c ∷ cs) s h = grind (arith, common_steps, asked_one cs s, in_head c cs, in_tail c)

pub matches_of : (cs : List (ℕ × WrittenConstraint)) (r : SetRule) → r.constraints ≡ constraint_views cs → (u : Tests.Test) → IsMatchOf r u → OfSome IsMatchAsked cs u
matches_of cs r e u h = grind (arith, asked_one)

-- of numbers that ascend none behind one of them is below it
behind_ascends : (cs : List (ℕ × WrittenConstraint)) (k : ℕ) (x c : ℕ × WrittenConstraint) → ascends (sites_of cs) ≡ true → k < length cs → x ≡ get_or cs k x → Contains (drop k cs) c → x.0 ≤ c.0
behind_ascends [] k x c a l e m = omega (arith, l)
behind_ascends (d ∷ ds) zero x c a l e m = grind (arith, common_steps, in_cases d c ds m, ascends_head d.0 (sites_of ds) a c.0, in_map (λ y. y.0) ds c)
behind_ascends (d ∷ ds) (suc k) x c a l e m = behind_ascends ds k x c (ascends_tail d.0 (sites_of ds) a) (omega (arith, l)) e m

-- those behind a place ascend too
pub ascends_drop : (n : ℕ) (cs : List (ℕ × WrittenConstraint)) → ascends (sites_of cs) ≡ true → ascends (sites_of (drop n cs)) ≡ true
ascends_drop (suc n) (c ∷ cs) a = ascends_drop n cs (ascends_tail c.0 (sites_of cs) a)
ascends_drop _ _ a = a

module _ (set : SiteSet) (ar : Around) (here : List ℕ) where
  -- where no match of a site or a later one is better, the matches before that site are all
  pub matches_below : (cs : List (ℕ × WrittenConstraint)) (k : ℕ) (x : ℕ × WrittenConstraint) (old new : BestSearch) → ascends (sites_of cs) ≡ true → k < length cs → x ≡ get_or cs k x
      → SearchesMore set ar here (OfSome IsMatchAsked (take k cs)) old new → ((u : Tests.Test) → IsFrom 0 x.0 u → IsNoBetter set ar here new.best u) → SearchesMore set ar here (OfSome IsMatchAsked cs) old new
  matches_below cs k x old new a l i h f = record {
    now = h.now;
    kept = h.kept;
    tried = λ u o w.
        elim (Contains-append_cases (take k cs) (drop k cs) w.0 (subst (λ y. Contains y w.0) (sym (take-append-drop k cs)) w.1)) [
          | inl b ↦ h.tried u o (w.0, b, w.2)
          | inr b ↦ subst (IsNoBetter set ar here new.best) w.2 (f (match_test w.0.0) (refl, behind_ascends cs k x w.0 a l i b))
        ];
  }

  -- where the first sites of a rule are sources around, the matches of those behind them are all that it needs
  pub matches_behind : (cs : List (ℕ × WrittenConstraint)) (r : SetRule) (n : ℕ) (old new : BestSearch) → r.constraints ≡ constraint_views cs → ((c : ℕ × WrittenConstraint) → Contains (take n cs) c → is_in c.0 (Tests.sources_around ar) ≡ true)
      → SearchesMore set ar here (OfSome IsMatchAsked (drop n cs)) old new → SearchesMore set ar here (IsMatchOf r) old new
  matches_behind cs r n old new e g h = record {
    now = h.now;
    kept = h.kept;
    tried = λ u o m.
        let w = matches_of cs r e u m in
        elim (Contains-append_cases (take n cs) (drop n cs) w.0 (subst (λ y. Contains y w.0) (sym (take-append-drop n cs)) w.1)) [
          | inl b ↦
              absurd (false≢true (ap not (sym (g w.0 b)) ∙ (and_parts (is_at_hand set ar w.0.0) (not (is_in w.0.0 (Tests.sources_around ar))) (subst (IsOpen set ar) (sym w.2) o)).1))
          | inr b ↦ h.tried u o (w.0, b, w.2)
        ];
  }

joined_one : (cs : List (Vec ℕ)) (a b : ℕ) → joins_in (class_lists cs) a b ≡ true → (c : Vec ℕ) × Contains cs c × (Contains c.items a × Contains c.items b)
joined_one [] a b h = absurd (false≢true h)
joined_one (c ∷ cs) a b h =
    elim (or_cases (is_in a c.items && is_in b c.items) (joins_in (class_lists cs) a b) h) [
      | inl t ↦ let q = and_parts (is_in a c.items) (is_in b c.items) t in (c, in_head c cs, (member_found a c.items q.0, member_found b c.items q.1))
      | inr r ↦ let k = joined_one cs a b r in (k.0, in_tail c k.0 cs k.1, k.2)
    ]

pub equalities_of : (cs : List (Vec ℕ)) (r : SetRule) → ((a b : ℕ) → joins_in (class_lists cs) a b ≡ joins_in r.classes a b) → (u : Tests.Test) → IsEqualOf r u → OfSome (λ c. IsPairOf c.items) cs u
equalities_of cs r e (equal_test a b) h = let k = joined_one cs a b (e a b ∙ h) in (k.0, k.1, (a, k.2.0, (b, k.2.1, refl)))
equalities_of cs r e _ h = absurd h

-- 3. what some rules need
module _ (set : SiteSet) (ar : Around) (here : List ℕ) where
  pub wanted_of : (i : ℕ) (r : SetRule) → slice_get set.rules i ≡ Some r → (u : Tests.Test) → IsWanted set.rules i u → IsMatchOf r u ⊎ IsEqualOf r u
  wanted_of i r e u h = grind arith

  -- the loops that a rule needs are those over the calls that are listed for it
  pub loops_of : (calls : CallsByRule) → AreCalls set calls → (i : ℕ) (u : Tests.Test) → IsLoopOf set.rules i u → OfSome IsLoop (calls_of calls i) u
  loops_of calls h i u k = grind (arith, member_found)

  -- none of some rules that go over no call needs a loop
  pub no_loops : (numbers : List ℕ) (search : BestSearch) → ((s : ℕ) → list_any (needs_at set.rules (loop_test s)) numbers ≡ false) → IsBestSearch set ar here search
      → SearchesMore set ar here (OfSome (IsLoopOf set.rules) numbers) search search
  no_loops numbers search f h = record { now = h; kept = λ u n. n; tried = λ u o k. none u k.0 k.1 k.2 }
    where
      none : (u : Tests.Test) (i : ℕ) → Contains numbers i → IsLoopOf set.rules i u → IsNoBetter set ar here search.best u
      none (match_test s) i c k = absurd k
      none (equal_test a b) i c k = absurd k
      none (loop_test s) i c k = absurd (false≢true (sym (f s) ∙ passes_any (needs_at set.rules (loop_test s)) numbers i c k))

  -- a loop is no better, where it isn't though it covered as many rules as are counted
  pub loop_below : (s most : ℕ) (counts : List ℕ) (search : BestSearch) → AreCounts set.rules here counts → most ≡ get_or counts s (length here)
      → (length (cover set.rules here (loop_test s)) ≤ most → IsNoBetter set ar here search.best (loop_test s)) → IsBestSearch set ar here search → SearchesMore set ar here (IsLoop s) search search
  loop_below s most counts search c e f h = grind (arith, common_steps, cover_needed set here (loop_test s))

  -- where all that the highest rules need is tried, other open tests cover no rule
  abbrev highest : List ℕ
  highest = filter (reaches set.rules (slice_get here 0)) here

  needed_one : (u : Tests.Test) → list_any (needs_at set.rules u) highest ≡ true → OfSome (IsWanted set.rules) highest u ⊎ OfSome (IsLoopOf set.rules) highest u
  needed_one u k = grind (arith, one_passes)

  pub best_found : (top : List ℕ) (start some all : BestSearch) → top ≡ highest → SearchesMore set ar here (OfSome (IsWanted set.rules) top) start some → SearchesMore set ar here (OfSome (IsLoopOf set.rules) top) some all → IsBestOpen set ar here all.best
  best_found top start some all e g h = record {
    scored = h.now.best;
    others = λ u o. elim (cases_Bool (list_any (needs_at set.rules u) highest)) [
      | inl y ↦ elim (needed_one u y) [
        | inl w ↦ inl (h.kept u (g.tried u o (subst (λ l. OfSome (IsWanted set.rules) l u) (sym e) w)))
        | inr w ↦ inl (h.tried u o (subst (λ l. OfSome (IsLoopOf set.rules) l u) (sym e) w))
      ]
      | inr f ↦ inr (highest_need set.rules here u f)
    ];
  }
