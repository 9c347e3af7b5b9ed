-- What is listed below sites that aren't emitted, sources first: what is emitted or listed so far, and what stays as one site
-- more is listed.
use Rattle.std.proofs.Common.{◌≡◌, ◌⊎◌, ℕ, zero, suc, ◌<◌, true, false, ◌||◌, List, [], ◌∷◌, ◌++◌, Contains, sym, ◌∙◌, subst, inl, inr, arith}
use Rattle.std.proofs.lemmas.Bool.{cases_Bool, cond-true, cond-false, or_cases, or_parts, false≢true, false_from_ne_true}
use Rattle.std.proofs.lemmas.List.Elements.{Contains-append_right, Contains-append_cases}
use Rattle.std.proofs.lemmas.Grind.{common_steps}
use Rattle.model.specs.sites.Sites.{Site, sources_at}
use Rattle.model.specs.trees.Places.{is_in, each_after, listed_below}
use Rattle.model.proofs.Members.{nothing_in, in_head, in_tail, in_cases, in_alone, member_found, member_is_in}
use Rattle.laws_trees.proofs.runs.Contents.{SourcesBefore}

-- 1. what is here: from the start, or listed
pub listed_last : (done : List ℕ) (s t : ℕ) → Contains (done ++ s ∷ []) t → Contains done t ⊎ (s ≡ t)
listed_last done s t c = elim (Contains-append_cases done (s ∷ []) t c) [ inl d ↦ inl d | inr d ↦ inr (in_alone s t d) ]

module _ (Base : ℕ → Type 0) where
  abbrev pub IsHere : List ℕ → ℕ → Type 0
  IsHere done t = Base t ⊎ Contains done t

  pub stays_here : (done : List ℕ) (s t : ℕ) → IsHere done t → IsHere (done ++ s ∷ []) t
  stays_here done s t h = grind (arith, common_steps)

  pub last_here : (done : List ℕ) (s t : ℕ) → s ≡ t → IsHere (done ++ s ∷ []) t
  last_here done s t e = inr (Contains-append_right done (s ∷ []) t (subst (Contains (s ∷ [])) e (in_head s [])))

  pub here_or_last : (done : List ℕ) (s t : ℕ) → IsHere (done ++ s ∷ []) t → IsHere done t ⊎ (s ≡ t)
  here_or_last done s t h = grind (arith, common_steps, listed_last)

  -- what the tests of a listing say
  pub met_here : (emitted : List ℕ) → ((t : ℕ) → is_in t emitted ≡ true → Base t) → (done : List ℕ) (s : ℕ) → (is_in s emitted || is_in s done) ≡ true → IsHere done s
  met_here emitted base done s h = elim (or_cases (is_in s emitted) (is_in s done) h) [ inl a ↦ inl (base s a) | inr d ↦ inr (member_found s done d) ]

pub not_here : (emitted done : List ℕ) (s : ℕ) → (is_in s emitted || is_in s done) ≡ false → IsHere (λ t. is_in t emitted ≡ true) done s → ⊥
not_here emitted done s h k = grind (arith, common_steps, or_parts, member_is_in)

-- 2. what is listed below the sources of a site has smaller numbers
each_within : (f : List ℕ → ℕ → List ℕ) (m : ℕ) (xs : List ℕ) → ((x : ℕ) → Contains xs x → (done : List ℕ) (u : ℕ) → Contains (f done x) u → Contains done u ⊎ (u < m))
    → (done : List ℕ) (u : ℕ) → Contains (each_after f done xs) u → Contains done u ⊎ (u < m)
each_within f m [] h done u c = inl c
each_within f m (x ∷ xs) h done u c =
    elim (each_within f m xs (λ y d. h y (in_tail x y xs d)) (f done x) u c) [ inl d ↦ h x (in_head x xs) done u d | inr l ↦ inr l ]

smaller : (x y u : ℕ) (P : Type 0) → y < x → P ⊎ (u < suc y) → P ⊎ (u < x)
smaller x y u P l h = grind (arith, common_steps)

module _ (sites : List Site) (before : SourcesBefore sites) where
  listed_within : (emitted : List ℕ) (n x : ℕ) (done : List ℕ) (u : ℕ) → Contains (listed_below n sites emitted done x) u → Contains done u ⊎ (u < suc x)
  listed_within emitted zero x done u c = inl c
  listed_within emitted (suc n) x done u c =
      let rest = each_after (listed_below n sites emitted) done (sources_at sites x) in
      elim (cases_Bool (is_in x emitted || is_in x done)) [
        | inl t ↦ inl (subst (λ l. Contains l u) (cond-true (is_in x emitted || is_in x done) done (rest ++ x ∷ []) t) c)
        | inr f ↦ elim (Contains-append_cases rest (x ∷ []) u (subst (λ l. Contains l u) (cond-false (is_in x emitted || is_in x done) done (rest ++ x ∷ []) f) c)) [
          | inl d ↦
              smaller (suc x) x u (Contains done u) (omega arith)
              (elim (each_within (listed_below n sites emitted) x (sources_at sites x) (λ y k d v m. smaller x y v (Contains d v) (before x y k) (listed_within emitted n y d v m)) done u d) [
                | inl k ↦ inl k
                | inr l ↦ inr (omega (arith, l))
              ])
          | inr d ↦ let e = in_alone x u d in inr (omega (arith, e))
        ]
      ]

  pub sources_within : (emitted : List ℕ) (n x : ℕ) (done : List ℕ) (u : ℕ) → Contains (each_after (listed_below n sites emitted) done (sources_at sites x)) u → Contains done u ⊎ (u < x)
  sources_within emitted n x done u c =
      each_within (listed_below n sites emitted) x (sources_at sites x) (λ y k d v m. smaller x y v (Contains d v) (before x y k) (listed_within emitted n y d v m)) done u c

  -- a site that isn't emitted or listed isn't listed below its sources
  pub unlisted : (emitted : List ℕ) (n s : ℕ) (done : List ℕ) → (is_in s emitted || is_in s done) ≡ false
      → (is_in s emitted || is_in s (each_after (listed_below n sites emitted) done (sources_at sites s))) ≡ false
  unlisted emitted n s done f =
      let p = or_parts (is_in s emitted) (is_in s done) f in
      let rest = each_after (listed_below n sites emitted) done (sources_at sites s) in
      false_from_ne_true (is_in s emitted || is_in s rest)
      (λ t. elim (or_cases (is_in s emitted) (is_in s rest) t) [
        | inl i ↦ false≢true (sym p.0 ∙ i)
        | inr i ↦ elim (sources_within emitted n s done s (member_found s rest i)) [ inl c ↦ false≢true (sym p.1 ∙ member_is_in s done c) | inr l ↦ omega (arith, l) ]
      ])

-- 3. the next site that is listed: it is neither emitted nor listed yet, and its sources are here
pub record NextSite (sites : List Site) (emitted : List ℕ) (Base : ℕ → Type 0) (done : List ℕ) : Type 0 where
  pub site : ℕ
  pub unlisted : (is_in site emitted || is_in site done) ≡ false
  pub sources : (a : ℕ) → Contains (sources_at sites site) a → IsHere Base done a

-- the sources of all that is listed are here
abbrev pub AreClosed : List Site → (ℕ → Type 0) → List ℕ → Type 0
AreClosed sites Base done = (u a : ℕ) → Contains done u → Contains (sources_at sites u) a → IsHere Base done a

pub closed_next : (sites : List Site) (emitted : List ℕ) (Base : ℕ → Type 0) (done : List ℕ) → AreClosed sites Base done → (n : NextSite sites emitted Base done) → AreClosed sites Base (done ++ n.site ∷ [])
closed_next sites emitted Base done closed n u a c i =
    elim (listed_last done n.site u c) [
      | inl d ↦ stays_here Base done n.site a (closed u a d i)
      | inr q ↦ stays_here Base done n.site a (n.sources a (subst (λ x. Contains (sources_at sites x) a) (sym q) i))
    ]

-- a walk down from sites: what is emitted is here from the start, sites that may be listed have sources that may be, and the
-- invariant of all that is listed so far holds with the next site
pub record Walk : Type 1 where
  pub sites : List Site
  pub before : SourcesBefore sites
  pub emitted : List ℕ
  pub Base : ℕ → Type 0
  pub base : (t : ℕ) → is_in t emitted ≡ true → Base t
  pub MayList : ℕ → Type 0
  pub deeper : (s a : ℕ) → MayList s → is_in s emitted ≡ false → Contains (sources_at sites s) a → MayList a
  pub Invariant : List ℕ → Type 0
  pub next : (done : List ℕ) → Invariant done → (n : NextSite sites emitted Base done) → MayList n.site → Invariant (done ++ n.site ∷ [])

module _ (walk : Walk) where
  -- from one list to another: it holds, what was here stays, and these sites are here now
  pub record WalkedTo (done more : List ℕ) (Now : ℕ → Type 0) : Type 0 where
    pub holds : walk.Invariant more
    pub grows : (t : ℕ) → IsHere walk.Base done t → IsHere walk.Base more t
    pub now : (s : ℕ) → Now s → IsHere walk.Base more s

  each : (f : List ℕ → ℕ → List ℕ) (xs : List ℕ) → ((s : ℕ) → Contains xs s → (done : List ℕ) → walk.Invariant done → WalkedTo done (f done s) (λ t. s ≡ t))
      → (done : List ℕ) → walk.Invariant done → WalkedTo done (each_after f done xs) (Contains xs)
  each f [] go done h = record { holds = h; grows = λ t i. i; now = λ s c. absurd (nothing_in s c) }
  each f (s ∷ xs) go done h =
      let m = go s (in_head s xs) done h in
      let r = each f xs (λ u c. go u (in_tail s u xs c)) (f done s) m.holds in
      record {
        holds = r.holds;
        grows = λ t i. r.grows t (m.grows t i);
        now = λ t c. elim (in_cases s t xs c) [ inl e ↦ r.grows t (m.now t e) | inr d ↦ r.now t d ];
      }

  one_listed : (n s : ℕ) → s < n → walk.MayList s → (done : List ℕ) → walk.Invariant done → WalkedTo done (listed_below n walk.sites walk.emitted done s) (λ t. s ≡ t)
  one_listed zero s l may done h = absurd (omega (arith, l))
  one_listed (suc n) s l may done h =
      let rest = each_after (listed_below n walk.sites walk.emitted) done (sources_at walk.sites s) in
      elim (cases_Bool (is_in s walk.emitted || is_in s done)) [
        | inl t ↦
            subst (λ x. WalkedTo done x (λ t. s ≡ t)) (sym (cond-true (is_in s walk.emitted || is_in s done) done (rest ++ s ∷ []) t))
            record { holds = h; grows = λ u i. i; now = λ u e. subst (IsHere walk.Base done) e (met_here walk.Base walk.emitted walk.base done s t) }
        | inr f ↦
            subst (λ x. WalkedTo done x (λ t. s ≡ t)) (sym (cond-false (is_in s walk.emitted || is_in s done) done (rest ++ s ∷ []) f))
            (let r = each (listed_below n walk.sites walk.emitted) (sources_at walk.sites s)
            (λ x c. let m = walk.before s x c in one_listed n x (omega (arith, l, m)) (walk.deeper s x may (or_parts (is_in s walk.emitted) (is_in s done) f).0 c))
            done h in
            record {
              holds = walk.next rest r.holds (record { site = s; unlisted = unlisted walk.sites walk.before walk.emitted n s done f; sources = r.now }) may;
              grows = λ t i. stays_here walk.Base rest s t (r.grows t i);
              now = λ t e. last_here walk.Base rest s t e;
            })
      ]

  -- sites of a list, one after another
  pub all_listed : (n : ℕ) (xs : List ℕ) → ((s : ℕ) → Contains xs s → (s < n) × walk.MayList s)
      → (done : List ℕ) → walk.Invariant done → WalkedTo done (each_after (listed_below n walk.sites walk.emitted) done xs) (Contains xs)
  all_listed n xs fine done h = each (listed_below n walk.sites walk.emitted) xs (λ s c. let f = fine s c in one_listed n s f.0 f.1) done h

  pub below_listed : (s : ℕ) → walk.MayList s → (done : List ℕ) → walk.Invariant done → WalkedTo done (listed_below (suc s) walk.sites walk.emitted done s) (λ t. s ≡ t)
  below_listed s may done h = one_listed (suc s) s (omega arith) may done h

  -- so it holds of a bind order
  pub order_listed : (ss : List ℕ) → ((s : ℕ) → Contains ss s → walk.MayList s) → walk.Invariant []
      → WalkedTo [] (each_after (λ done s. listed_below (suc s) walk.sites walk.emitted done s) [] ss) (Contains ss)
  order_listed ss may h = each (λ done s. listed_below (suc s) walk.sites walk.emitted done s) ss (λ s c. below_listed s (may s c)) [] h
