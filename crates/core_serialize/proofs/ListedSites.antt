-- The sites below others, each once, in the order in which they are made.
use Rattle.std.proofs.Common.{◌≡◌, ◌⊎◌, ℕ, zero, suc, ◌+◌, ◌<◌, ◌≤◌, ◌==◌, true, false, ◌||◌, List, [], ◌∷◌, ◌++◌, length, take, drop, get_or, Contains, flat_map, refl, sym, ap, ◌∙◌, subst, inl, inr, arith, eqb-true}
use Rattle.std.proofs.lemmas.Bool.{cases_Bool, cond-true, cond-false, or_cases, or_left, or_right}
use Rattle.std.proofs.lemmas.List.{append_assoc, append-nil, drop_at, take_at, take_more}
use Rattle.std.proofs.lemmas.List.Elements.{Contains-append_left, Contains-append_right, Contains-append_cases}
use Rattle.std.proofs.lemmas.Grind.{common_steps}
use Rattle.laws_sites.proofs.overlaps.Overlaps.{bool_same}
use Rattle.model.specs.sites.Sites.{Site, sources_at}
use Rattle.model.specs.trees.Places.{is_in, each_after, listed_below, below, all_below}
use Rattle.model.proofs.Members.{nothing_in, in_head, in_tail, in_cases, in_alone, in_flat_map, from_flat_map, member_found, member_is_in}
use Rattle.core_containers.specs.Places.{Extends}
use Rattle.core_serialize.specs.Changes.{IsClosed, ListsAll, ListsBelow}
use Rattle.core_serialize.proofs.CallLists.{is_in_last}
use Rattle.core_serialize.proofs.Tables.{is_in_append}

each_append : (f : List ℕ → ℕ → List ℕ) (d xs : List ℕ) (x : ℕ) → each_after f d (xs ++ x ∷ []) ≡ f (each_after f d xs) x
each_append f d [] x = refl
each_append f d (y ∷ xs) x = each_append f (f d y) xs x

-- one more
pub each_more : (f : List ℕ → ℕ → List ℕ) (d xs : List ℕ) (i x : ℕ) (now next : List ℕ) → i < length xs → x ≡ get_or xs i x → now ≡ each_after f d (take i xs) → next ≡ f now x → next ≡ each_after f d (take (i + 1) xs)
each_more f d xs i x now next l e h k = grind (arith, common_steps, each_append f d (take i xs) x, take_more xs i x l)

-- one site and all below it, after those that were listed first
module _ (sites : List Site) (start : List ℕ) where
  pub listed_whole : (n s : ℕ) (done listed next : List ℕ) → s < n → (is_in s start || is_in s done) ≡ false
      → ((m : ℕ) → s ≤ m → listed ≡ start ++ each_after (listed_below m sites start) done (sources_at sites s)) → next ≡ listed ++ s ∷ [] → next ≡ start ++ listed_below n sites start done s
  listed_whole zero s done listed next l h f e = absurd (omega arith)
  listed_whole (suc n) s done listed next l h f e =
      let below = each_after (listed_below n sites start) done (sources_at sites s) in
      e ∙ ap (λ b. b ++ s ∷ []) (f n (omega arith)) ∙ append_assoc start below (s ∷ []) ∙ ap (λ b. start ++ b) (sym (cond-false (is_in s start || is_in s done) done (below ++ s ∷ []) h))

  pub listed_there : (n s : ℕ) (done now : List ℕ) → s < n → now ≡ start ++ done → is_in s now ≡ true → now ≡ start ++ listed_below n sites start done s
  listed_there n s done now l e t = grind (arith, common_steps, is_in_append s start done)

-- what is listed is what is below
module _ (sites : List Site) (sources : (s a : ℕ) → Contains (sources_at sites s) a → a < s) where
  below_levels : (n m s x : ℕ) → s < n → s < m → Contains (below n sites s) x → Contains (below m sites s) x
  below_levels (suc n) (suc m) s x l k c =
      elim (in_cases s x (flat_map (below n sites) (sources_at sites s)) c) [
        | inl e ↦ subst (Contains (s ∷ flat_map (below m sites) (sources_at sites s))) e (in_head s (flat_map (below m sites) (sources_at sites s)))
        | inr d ↦
            let r = from_flat_map (below n sites) (sources_at sites s) x d in
            let b = sources s r.0 r.1 in
            in_tail s x (flat_map (below m sites) (sources_at sites s)) (in_flat_map (below m sites) (sources_at sites s) r.0 x r.1 (below_levels n m r.0 x (omega arith) (omega arith) r.2))
      ]
  below_levels _ _ s x l k c = absurd (omega arith)

  abbrev Under : ℕ → ℕ → Type 0
  Under s x = Contains (below (suc s) sites s) x

  abbrev UnderSome : List ℕ → ℕ → Type 0
  UnderSome ss x = (s : ℕ) × Contains ss s × Under s x

  record Adds (d e : List ℕ) (P : ℕ → Type 0) : Type 0 where
    closed : IsClosed sites e
    from : (x : ℕ) → Contains e x → Contains d x ⊎ P x
    keeps : (x : ℕ) → Contains d x → Contains e x
    has : (x : ℕ) → P x → Contains e x

  under_itself : (s : ℕ) → Under s s
  under_itself s = in_head s (flat_map (below s sites) (sources_at sites s))

  each_adds : (f : List ℕ → ℕ → List ℕ) (ss : List ℕ) → ((s : ℕ) → Contains ss s → (d : List ℕ) → IsClosed sites d → Adds d (f d s) (Under s)) → (d : List ℕ) → IsClosed sites d → Adds d (each_after f d ss) (UnderSome ss)
  each_adds f [] h d c = record { closed = c; from = λ x k. inl k; keeps = λ x k. k; has = λ x u. absurd (nothing_in u.0 u.1) }
  each_adds f (s ∷ ss) h d c =
      let a = h s (in_head s ss) d c in
      let b = each_adds f ss (λ t k. h t (in_tail s t ss k)) (f d s) a.closed in
      record {
        closed = b.closed;
        from = λ x k. elim (b.from x k) [
          | inl j ↦ elim (a.from x j) [ inl y ↦ inl y | inr u ↦ inr (s, in_head s ss, u) ]
          | inr u ↦ inr (u.0, in_tail s u.0 ss u.1, u.2)
        ];
        keeps = λ x k. b.keeps x (a.keeps x k);
        has = λ x u. elim (in_cases s u.0 ss u.1) [
          | inl e ↦ b.keeps x (a.has x (subst (λ t. Under t x) (sym e) u.2))
          | inr k ↦ b.has x (u.0, k, u.2)
        ];
      }

  -- those below the sources, then the site
  pushed : (s : ℕ) (d e : List ℕ) → Adds d e (UnderSome (sources_at sites s)) → Adds d (e ++ s ∷ []) (Under s)
  pushed s d e a = record {
    closed = record {
      whole = λ t x k u. elim (Contains-append_cases e (s ∷ []) t k) [
        | inl j ↦ Contains-append_left e (s ∷ []) x (a.closed.whole t x j u)
        | inr j ↦ under x (subst (λ y. Under y x) (sym (in_alone s t j)) u)
      ];
    };
    from = λ x k. elim (Contains-append_cases e (s ∷ []) x k) [
      | inl j ↦ elim (a.from x j) [
        | inl y ↦ inl y
        | inr u ↦
            let b = sources s u.0 u.1 in
            inr (in_tail s x (flat_map (below s sites) (sources_at sites s)) (in_flat_map (below s sites) (sources_at sites s) u.0 x u.1 (below_levels (suc u.0) s u.0 x (omega arith) b u.2)))
      ]
      | inr j ↦ inr (subst (Under s) (in_alone s x j) (under_itself s))
    ];
    keeps = λ x k. Contains-append_left e (s ∷ []) x (a.keeps x k);
    has = λ x u. under x u;
  }
    where
      under : (x : ℕ) → Under s x → Contains (e ++ s ∷ []) x
      under x u =
          elim (in_cases s x (flat_map (below s sites) (sources_at sites s)) u) [
            | inl q ↦ Contains-append_right e (s ∷ []) x (subst (Contains (s ∷ [])) q (in_head s []))
            | inr k ↦
                let r = from_flat_map (below s sites) (sources_at sites s) x k in
                let b = sources s r.0 r.1 in
                Contains-append_left e (s ∷ []) x (a.has x (r.0, r.1, below_levels s (suc r.0) r.0 x b (omega arith) r.2))
          ]

  listed_adds : (n s : ℕ) → s < n → (d : List ℕ) → IsClosed sites d → Adds d (listed_below n sites [] d s) (Under s)
  listed_adds zero s l d c = absurd (omega arith)
  listed_adds (suc n) s l d c =
      let e = each_after (listed_below n sites []) d (sources_at sites s) in
      elim (cases_Bool (is_in s d)) [
        | inl t ↦
            subst (λ y. Adds d y (Under s)) (sym (cond-true (is_in s d) d (e ++ s ∷ []) t))
            (record { closed = c; from = λ x k. inl k; keeps = λ x k. k; has = λ x u. c.whole s x (member_found s d t) u })
        | inr f ↦
            subst (λ y. Adds d y (Under s)) (sym (cond-false (is_in s d) d (e ++ s ∷ []) f))
            (pushed s d e (each_adds (listed_below n sites []) (sources_at sites s) (λ u k. let b = sources s u k in listed_adds n u (omega arith)) d c))
      ]

  all_adds : (ss d : List ℕ) → IsClosed sites d → Adds d (each_after (λ d s. listed_below (suc s) sites [] d s) d ss) (UnderSome ss)
  all_adds ss d c = each_adds (λ d s. listed_below (suc s) sites [] d s) ss (λ s k d c. listed_adds (suc s) s (omega arith) d c) d c

  -- of what is listed each is there already, or isn't greater than the site
  each_from : (f : List ℕ → ℕ → List ℕ) (ss : List ℕ) (n : ℕ) → ((s : ℕ) → Contains ss s → (d : List ℕ) (x : ℕ) → Contains (f d s) x → Contains d x ⊎ (x < n))
      → (d : List ℕ) (x : ℕ) → Contains (each_after f d ss) x → Contains d x ⊎ (x < n)
  each_from f [] n h d x c = inl c
  each_from f (s ∷ ss) n h d x c =
      elim (each_from f ss n (λ t k. h t (in_tail s t ss k)) (f d s) x c) [
        | inl k ↦ h s (in_head s ss) d x k
        | inr l ↦ inr l
      ]

  listed_from : (n s : ℕ) (d : List ℕ) (x : ℕ) → Contains (listed_below n sites [] d s) x → Contains d x ⊎ (x ≤ s)
  listed_from zero s d x c = inl c
  listed_from (suc n) s d x c =
      let e = each_after (listed_below n sites []) d (sources_at sites s) in
      elim (cases_Bool (is_in s d)) [
        | inl t ↦ inl (subst (λ l. Contains l x) (cond-true (is_in s d) d (e ++ s ∷ []) t) c)
        | inr f ↦ elim (Contains-append_cases e (s ∷ []) x (subst (λ l. Contains l x) (cond-false (is_in s d) d (e ++ s ∷ []) f) c)) [
          | inl k ↦ elim (each_from (listed_below n sites []) (sources_at sites s) s (λ a m b y j. before a (sources s a m) y (listed_from n a b y j)) d x k) [
            | inl j ↦ inl j
            | inr l ↦ inr (omega (arith, l))
          ]
          | inr k ↦ let q = in_alone s x k in inr (omega (arith, q))
        ]
      ]
    where
      before : {P : Type 0} (a : ℕ) → a < s → (y : ℕ) → P ⊎ (y ≤ a) → P ⊎ (y < s)
      before a l y h = grind (arith, common_steps)

  -- so that a site isn't listed among those below its sources
  pub still_fresh : (a s : ℕ) (old new : List ℕ) → a < s → ListsBelow sites a old new → is_in s old ≡ false → is_in s new ≡ false
  still_fresh a s old new l e f = grind (arith, common_steps, listed_from (suc a) a old s, member_found s new, member_is_in s old, e [] old refl (suc a))

  -- what is emitted where the sites below some are closed too
  module _ (used closed after emitted next : List ℕ) (c : IsClosed sites closed) (within : (s : ℕ) → is_in s closed ≡ true → is_in s emitted ≡ true) (l : ListsAll sites used closed after)
      (more : (s : ℕ) → is_in s next ≡ (is_in s (drop (length closed) after) || is_in s emitted)) where
    adds : Adds closed after (UnderSome used)
    adds = subst (λ e. Adds closed e (UnderSome used)) (sym (l [] closed refl)) (all_adds used closed c)

    pub closed_grown : Extends closed after
    closed_grown = (each_after (λ d s. listed_below (suc s) sites closed d s) [] used, l closed [] (sym (append-nil closed)))

    rest_is : drop (length closed) after ≡ closed_grown.0
    rest_is = ap (drop (length closed)) closed_grown.1 ∙ drop_at closed closed_grown.0 (length closed) refl

    either : (s : ℕ) → Contains after s → Contains closed s ⊎ Contains (drop (length closed) after) s
    either s k =
        elim (Contains-append_cases closed closed_grown.0 s (subst (λ e. Contains e s) closed_grown.1 k)) [
          | inl a ↦ inl a
          | inr b ↦ inr (subst (λ e. Contains e s) (sym rest_is) b)
        ]

    pub after_within : (s : ℕ) → is_in s after ≡ true → is_in s next ≡ true
    after_within s h =
        elim (either s (member_found s after h)) [
          | inl k ↦ more s ∙ or_right (is_in s (drop (length closed) after)) (is_in s emitted) (within s (member_is_in s closed k))
          | inr k ↦ more s ∙ or_left (is_in s (drop (length closed) after)) (is_in s emitted) (member_is_in s (drop (length closed) after) k)
        ]

    pub after_closed : IsClosed sites after
    after_closed = adds.closed

    below_used : (s : ℕ) → UnderSome used s → is_in s (all_below sites used) ≡ true
    below_used s u = member_is_in s (all_below sites used) (in_flat_map (λ t. below (suc t) sites t) used u.0 s u.1 u.2)

    pub emitted_after : (s : ℕ) → is_in s next ≡ is_in s (all_below sites used ++ emitted)
    emitted_after s =
        bool_same (is_in s next) (is_in s (all_below sites used ++ emitted))
        (λ h. is_in_append s (all_below sites used) emitted ∙ elim (or_cases (is_in s (drop (length closed) after)) (is_in s emitted) (sym (more s) ∙ h)) [
          | inl a ↦ elim (adds.from s (behind (member_found s (drop (length closed) after) a))) [
            | inl k ↦ or_right (is_in s (all_below sites used)) (is_in s emitted) (within s (member_is_in s closed k))
            | inr u ↦ or_left (is_in s (all_below sites used)) (is_in s emitted) (below_used s u)
          ]
          | inr b ↦ or_right (is_in s (all_below sites used)) (is_in s emitted) b
        ])
        (λ h. elim (or_cases (is_in s (all_below sites used)) (is_in s emitted) (sym (is_in_append s (all_below sites used) emitted) ∙ h)) [
          | inl a ↦
              let r = from_flat_map (λ t. below (suc t) sites t) used s (member_found s (all_below sites used) a) in
              after_within s (member_is_in s after (adds.has s (r.0, r.1, r.2)))
          | inr b ↦ more s ∙ or_right (is_in s (drop (length closed) after)) (is_in s emitted) b
        ])
      where
        behind : Contains (drop (length closed) after) s → Contains after s
        behind k = subst (λ e. Contains e s) (sym closed_grown.1) (Contains-append_right closed closed_grown.0 s (subst (λ e. Contains e s) rest_is k))

-- what is bound is listed behind what is emitted
pub bound_behind : (sites : List Site) (ss emitted listed : List ℕ) → ListsAll sites ss emitted listed → drop (length emitted) listed ≡ each_after (λ d s. listed_below (suc s) sites emitted d s) [] ss
bound_behind sites ss emitted listed l = grind (arith, common_steps, append-nil emitted, drop_at emitted)

pub bound_back : (sites : List Site) (ss emitted listed : List ℕ) → ListsAll sites ss emitted listed → take (length emitted) listed ≡ emitted
bound_back sites ss emitted listed l = grind (arith, common_steps, append-nil emitted, take_at emitted)

-- how far some sites go, and one more
pub end_more : (xs : List ℕ) (i end new : ℕ) → i < length xs → end ≤ new → get_or xs i 0 < new → ((s : ℕ) → is_in s (take i xs) ≡ true → s < end) → (s : ℕ) → is_in s (take (i + 1) xs) ≡ true → s < new
end_more xs i end new l others this h s k =
    elim (or_cases (is_in s (take i xs)) (get_or xs i 0 == s) (sym (ap (is_in s) (take_more xs i 0 l) ∙ is_in_last s (get_or xs i 0) (take i xs)) ∙ k)) [
      | inl t ↦ let m = h s t in omega (arith, m, others)
      | inr t ↦ let m = eqb-true (get_or xs i 0) s t in omega (arith, m, this)
    ]
