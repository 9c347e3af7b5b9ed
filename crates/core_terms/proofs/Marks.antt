-- The steps of the search for recursion among templates.
use Rattle.std.proofs.Common.{◌≡◌, ◌≢◌, ℕ, zero, suc, ◌+◌, ◌-◌, ◌<◌, ◌≤◌, true, false, List, [], ◌∷◌, ◌++◌, ◌⊎◌, length, get_or, map, take, slice_get, MatchOption, Option, None, Some, option_map, unwrap_or, All, Contains, Vec, refl, sym, ap, subst, ◌∙◌, arith, inl, inr, ⊎_elim}
use Rattle.std.specs.List.{sum_by}
use Rattle.std.specs.Option.{IfSome}
use Rattle.std.specs.declared.alloc.Global.{Global}
use Rattle.std.proofs.Math.ListN.{set}
use Rattle.std.proofs.lemmas.Bool.{false≢true}
use Rattle.std.proofs.lemmas.Bool.Decides.{Decides-eqb}
use Rattle.std.proofs.lemmas.List.{length-set, length_push, take_all}
use Rattle.std.proofs.lemmas.List.Elements.{All-cons, All-nil, All-push, All-contains, All-take, Contains-push_cases}
use Rattle.std.proofs.lemmas.List.Sums.{sum_by-set}
use Rattle.std.proofs.lemmas.Option.{same_Some, slice_get-map, slice_get-get_or, slice_get_within}
use Rattle.std.proofs.lemmas.Grind.{common_steps}
use Rattle.model.proofs.Mapped.{mapped_some}
use Rattle.model.proofs.Members.{in_alone, in_cases, in_head, in_tail, member_from_get}
use Rattle.core_types.specs.declared.ids.TermId.{TermId}
use Rattle.core_terms.specs.declared.reading.recursion.Mark.{Mark}
use Rattle.core_terms.specs.declared.reading.recursion.Mark.TheVariants.{Unmet, Met, Ends}
use Rattle.core_terms.specs.declared.reading.recursion.Search.{Search}
use Rattle.core_terms.specs.Templating.{callees_of}
use Rattle.core_terms.specs.Recursion.{all_end, AreEnded, AreFindings, AreMarks, AreWithin, Comes, by_one, by_more, Enters, GoesOn, HasEnd, IsChain, IsOnWay, IsWayBack, is_end, is_on, on_path, steps_left, steps_of, uses_left}

abbrev Callees : Type 0
Callees = List (Vec TermId Global)

-- what stands in a list after a write of one place
written : {X : Type 0} (xs : List X) (t u : ℕ) (x y : X) → slice_get (set xs t x) u ≡ Some y → ((u ≡ t) × (x ≡ y)) ⊎ ((u ≢ t) × (slice_get xs u ≡ Some y))
written [] t u x y h = absurd (cc)
written (z ∷ zs) zero zero x y h = inl (refl, same_Some x y h)
written (z ∷ zs) zero (suc u) x y h = inr (λ s. omega (arith, s), h)
written (z ∷ zs) (suc t) zero x y h = inr (λ s. omega (arith, s), h)
written (z ∷ zs) (suc t) (suc u) x y h = grind (arith, common_steps, written zs t u x y h)

get_at : {X : Type 0} (xs : List X) (t : ℕ) (x : X) → t < length xs → x ≡ get_or xs t x → slice_get xs t ≡ Some x
get_at xs t x within here = slice_get-get_or xs t x within ∙ ap Some (sym here)

-- where there is no value, nothing is made of it
pub not_some : {X Y : Type 0} (f : X → Y) (o : Option X) (p : Option Y) → ((x : X) → o ≡ Some x → ⊥) → option_map f o ≡ p → p ≡ None
not_some f o p none e = grind (arith, common_steps)

-- a list with a last element is what stands before it, and it
split_last : {X : Type 0} (xs : List X) (x : X) → slice_get xs (length xs - 1) ≡ Some x → xs ≡ take (length xs - 1) xs ++ x ∷ []
split_last [] x h = absurd (cc)
split_last (y ∷ []) x h = ap (λ z. z ∷ []) (same_Some y x h)
split_last (y ∷ z ∷ zs) x h = grind (arith, common_steps, split_last (z ∷ zs) x)

first_stays : {X : Type 0} (xs : List X) (x y : X) → slice_get xs 0 ≡ Some x → slice_get (xs ++ y ∷ []) 0 ≡ Some x
first_stays [] x y h = absurd (cc)
first_stays (z ∷ zs) x y h = h

first_left : {X : Type 0} (xs : List X) (x y : X) → slice_get (xs ++ y ∷ []) 0 ≡ Some x → (slice_get xs 0 ≡ Some x) ⊎ (y ≡ x)
first_left [] x y h = inr (same_Some y x h)
first_left (z ∷ zs) x y h = inl h

ids_pushed : (ts : List TermId) (t : TermId) (w : ℕ) → Contains (map (λ u. u.0) (ts ++ t ∷ [])) w → Contains (map (λ u. u.0) ts) w ⊎ (t.0 ≡ w)
ids_pushed [] t w h = inr (in_alone t.0 w h)
ids_pushed (u ∷ us) t w h =
    elim (in_cases u.0 w (map (λ u. u.0) (us ++ t ∷ [])) h) [
      | inl e ↦ inl (subst (λ k. Contains (u.0 ∷ map (λ u. u.0) us) k) e (in_head u.0 (map (λ u. u.0) us)))
      | inr d ↦ ⊎_elim (λ c. inl (in_tail u.0 w (map (λ u. u.0) us) c)) (λ e. inr e) (ids_pushed us t w d)
    ]

ids_kept : (ts : List TermId) (t : TermId) (w : ℕ) → Contains (map (λ u. u.0) ts) w → Contains (map (λ u. u.0) (ts ++ t ∷ [])) w
ids_kept [] t w h = absurd (All-contains (λ _. ⊥) [] w (All-nil (λ _. ⊥)) h)
ids_kept (u ∷ us) t w h =
    elim (in_cases u.0 w (map (λ u. u.0) us) h) [
      | inl e ↦ subst (λ k. Contains (u.0 ∷ map (λ u. u.0) (us ++ t ∷ [])) k) e (in_head u.0 (map (λ u. u.0) (us ++ t ∷ [])))
      | inr d ↦ in_tail u.0 w (map (λ u. u.0) (us ++ t ∷ [])) (ids_kept us t w d)
    ]

id_in : (ts : List TermId) (t : TermId) → Contains (map (λ u. u.0) (ts ++ t ∷ [])) t.0
id_in [] t = in_head t.0 []
id_in (u ∷ us) t = in_tail u.0 t.0 (map (λ u. u.0) (us ++ t ∷ [])) (id_in us t)

-- marks
abbrev id_of : Option Mark → ℕ
id_of None = 0
id_of (Some Unmet) = 0
id_of (Some (Met k)) = k.0
id_of (Some Ends) = 0

same_root : (r : TermId) → is_on r.0 (Met r) ≡ true
same_root r = (Decides-eqb r.0 r.0).1 refl

on_is : (root : ℕ) (m : Mark) → is_on root m ≡ true → (by : TermId) × (m ≡ Met by) × (by.0 ≡ root)
on_is root m h = grind arith

end_is : (m : Mark) → is_end m ≡ true → m ≡ Ends
end_is m h = grind arith

marked_on : (root : ℕ) (ms : List Mark) (t : ℕ) → slice_get (on_path root ms) t ≡ Some true → (m : Mark) × (slice_get ms t ≡ Some m) × (is_on root m ≡ true)
marked_on root ms t h = mapped_some (is_on root) (slice_get ms t) true (sym (slice_get-map (is_on root) ms t) ∙ h)

on_marked : (root : ℕ) (ms : List Mark) (t : ℕ) (m : Mark) → slice_get ms t ≡ Some m → is_on root m ≡ true → slice_get (on_path root ms) t ≡ Some true
on_marked root ms t m h on = slice_get-map (is_on root) ms t ∙ ap (option_map (is_on root)) h ∙ ap Some on

steps_ahead : (root : ℕ) (m : Mark) → is_on root m ≡ false → is_end m ≡ false → steps_of root m ≡ 2
steps_ahead root m off more = grind arith

steps_on : (r : TermId) → steps_of r.0 (Met r) ≡ 0
steps_on r = rw (same_root r) refl

-- chains
follows_kept : (ts : List TermId) (t u : TermId) (P : TermId → Type 0) → IfSome (slice_get (ts ++ t ∷ []) 0) P → IfSome (slice_get ((ts ++ t ∷ []) ++ u ∷ []) 0) P
follows_kept [] t u P h = h
follows_kept (s ∷ ss) t u P h = h

follows_left : (ts : List TermId) (t : TermId) (P : TermId → Type 0) → IfSome (slice_get (ts ++ t ∷ []) 0) P → IfSome (slice_get ts 0) P
follows_left [] t P h = record {}
follows_left (s ∷ ss) t P h = h

chain_longer : (cs : Callees) (ts : List TermId) (t u : TermId) → Contains (callees_of cs t.0) u.0 → IsChain cs (ts ++ t ∷ []) → IsChain cs ((ts ++ t ∷ []) ++ u ∷ [])
chain_longer cs [] t u c h = (c, h)
chain_longer cs (s ∷ ss) t u c h = (follows_kept ss t u (λ v. Contains (callees_of cs s.0) v.0) h.0, chain_longer cs ss t u c h.1)

chain_shorter : (cs : Callees) (ts : List TermId) (t : TermId) → IsChain cs (ts ++ t ∷ []) → IsChain cs ts
chain_shorter cs [] t h = record {}
chain_shorter cs (s ∷ ss) t h = (follows_left ss t (λ v. Contains (callees_of cs s.0) v.0) h.0, chain_shorter cs ss t h.1)

before_all : (cs : Callees) {t u v : ℕ} → Contains (callees_of cs t) u → Comes cs u v → Comes cs t v
before_all cs h (by_one g) = by_more (by_one h) g
before_all cs h (by_more d g) = by_more (before_all cs h d) g

first_comes : (cs : Callees) (s : TermId) (ts : List TermId) (t : TermId) → IsChain cs (s ∷ (ts ++ t ∷ [])) → Comes cs s.0 t.0
first_comes cs s [] t h = by_one h.0
first_comes cs s (u ∷ us) t h = before_all cs h.0 (first_comes cs u us t h.1)

-- each term of a chain is the last one, or comes to it
comes_last : (cs : Callees) (ts : List TermId) (t : TermId) → IsChain cs (ts ++ t ∷ []) → (w : ℕ) → Contains (map (λ u. u.0) (ts ++ t ∷ [])) w → (w ≡ t.0) ⊎ Comes cs w t.0
comes_last cs [] t h w c = inl (sym (in_alone t.0 w c))
comes_last cs (s ∷ ss) t h w c = grind (arith, common_steps, comes_last cs ss t h.1 w, in_cases s.0 w (map (λ u. u.0) (ss ++ t ∷ [])) c, first_comes cs s ss t h)

-- uses that aren't known to end
one_use_fewer : (vs : Callees) (ns : List ℕ) (t n : ℕ) (v : Vec TermId Global) → slice_get vs t ≡ Some v → slice_get ns t ≡ Some n → n < length v.items → uses_left vs (set ns t (n + 1)) + 1 ≡ uses_left vs ns
one_use_fewer (w ∷ vs) (m ∷ ns) (suc t) n v h i l = let r = one_use_fewer vs ns t n v h i l in omega (arith, r)
one_use_fewer vs ns t n v h i l = grind (arith, same_Some)

taken_more : (xs : List ℕ) (n u : ℕ) → slice_get xs n ≡ Some u → take (n + 1) xs ≡ take n xs ++ u ∷ []
taken_more (x ∷ xs) (suc n) u h =
    let e : suc n + 1 ≡ suc (n + 1) = omega arith in
    ap (λ k. take k (x ∷ xs)) e ∙ ap (λ l. x ∷ l) (taken_more xs n u h)
taken_more xs n u h = grind (arith, same_Some)

past_all : {X : Type 0} (xs : List X) (n : ℕ) → slice_get xs n ≡ None → length xs ≤ n
past_all (x ∷ xs) (suc n) h = let r = past_all xs n h in omega (arith, r)
past_all xs n h = grind arith

-- findings
findings_wider : (cs : Callees) (n : ℕ) (s : Search) → AreFindings cs n s → AreFindings cs (n + 1) s
findings_wider cs n s f = grind (arith, common_steps)

met_marks : (cs : Callees) (root : TermId) (ms : List Mark) (t : ℕ) → AreMarks cs (root.0 + 1) ms → AreMarks cs (root.0 + 1) (set ms t (Met root))
met_marks cs root ms t marks = grind (arith, common_steps, length-set ms t (Met root), set ms t (Met root), written ms t)

ended_marks : (cs : Callees) (n : ℕ) (ms : List Mark) (t : ℕ) → HasEnd cs t → AreMarks cs n ms → AreMarks cs n (set ms t Ends)
ended_marks cs n ms t end marks = grind (arith, common_steps, length-set ms t Ends, set ms t Ends, written ms t)

module _ (cs : Callees) (root : TermId) (s : Search) (findings : AreFindings cs root.0 s) (there : root.0 < length cs) where
  no_mark : (t : ℕ) (m : Mark) → slice_get s.marks.items t ≡ Some m → is_on root.0 m ≡ true → ⊥
  no_mark t m h on = grind (arith, common_steps, on_is root.0 m on)

  -- the search begins
  pub begins : (old s' : Search) → old.marks.items ≡ s.marks.items → old.ended.items ≡ s.ended.items → old.path.items ≡ [] → Enters root root old s' → IsOnWay cs root s'
  begins old s' same_marks same_ended no_path enters = record {
    findings = record {
      marks = subst (AreMarks cs (root.0 + 1)) (sym marks_are) (met_marks cs root s.marks.items root.0 (findings_wider cs root.0 s findings).marks);
      ended = subst (AreEnded cs) (sym (enters.ended ∙ same_ended)) findings.ended;
    };
    within = subst (All (λ (t : TermId). t.0 < length cs)) (sym path_is) (All-cons (λ (u : TermId). u.0 < length cs) root [] there (All-nil (λ (u : TermId). u.0 < length cs)));
    chain = subst (IsChain cs) (sym path_is) (record {}, record {});
    marked = marked;
    begins = inl (ap (λ l. slice_get l 0) path_is);
  }
    where
      marks_are : s'.marks.items ≡ set s.marks.items root.0 (Met root)
      marks_are = enters.marks ∙ ap (λ l. set l root.0 (Met root)) same_marks

      path_is : s'.path.items ≡ root ∷ []
      path_is = enters.path ∙ ap (λ l. l ++ root ∷ []) no_path

      marked : (t : ℕ) → slice_get (on_path root.0 s'.marks.items) t ≡ Some true → Contains (map (λ u. u.0) s'.path.items) t
      marked t on =
          let m = marked_on root.0 s'.marks.items t on in
          elim (written s.marks.items root.0 t (Met root) m.0 (ap (λ l. slice_get l t) (sym marks_are) ∙ m.1)) [
            | inl p ↦ subst (λ (l : List TermId). Contains (map (λ u. u.0) l) t) (sym path_is) (subst (λ k. Contains (root.0 ∷ []) k) (sym p.0) (in_head root.0 []))
            | inr p ↦ absurd (no_mark t m.0 p.1 m.2)
          ]

-- one step from the last term of the path
module _ (cs : Callees) (root : TermId) (s : Search) (way : IsOnWay cs root s) (t : TermId) (last : slice_get s.path.items (length s.path.items - 1) ≡ Some t) where
  abbrev path : List TermId
  path = s.path.items

  abbrev before : List TermId
  before = take (length path - 1) path

  path_is : path ≡ before ++ t ∷ []
  path_is = split_last path t last

  pub last_there : t.0 < length cs
  last_there = All-contains (λ (u : TermId). u.0 < length cs) path t way.within (member_from_get path (length path - 1) t last)

  abbrev ended : ℕ
  ended = get_or s.ended.items t.0 0

  pub last_counted : t.0 < length s.ended.items
  last_counted = subst (λ n. t.0 < n) (sym way.findings.ended.count) last_there

  pub last_in_range : t.0 < length s.marks.items
  last_in_range = subst (λ n. t.0 < n) (sym way.findings.marks.count) last_there

  ended_at : slice_get s.ended.items t.0 ≡ Some ended
  ended_at = slice_get-get_or s.ended.items t.0 0 last_counted

  pub count_is : (n : ℕ) → n ≡ get_or s.ended.items t.0 n → n ≡ ended
  count_is n n_is = same_Some n ended (sym (get_at s.ended.items t.0 n last_counted n_is) ∙ ended_at)

  -- nothing is left that it names
  module _ (none : slice_get (callees_of cs t.0) ended ≡ None) where
    last_ends : HasEnd cs t.0
    last_ends = all_end (λ u h. way.findings.ended.ends t.0 ended u ended_at (subst (λ l. Contains l u) (sym (take_all ended (callees_of cs t.0) (past_all (callees_of cs t.0) ended none))) h))

    pub goes_back : (s' : Search) → s'.marks.items ≡ set s.marks.items t.0 Ends → s'.ended.items ≡ s.ended.items → s'.path.items ≡ before → GoesOn cs root s s'
    goes_back s' marks_are same_ended path_left = record {
      way = record {
        findings = grind (arith, common_steps, ended_marks cs (root.0 + 1) s.marks.items t.0 last_ends way.findings.marks);
        within = subst (All (λ (u : TermId). u.0 < length cs)) (sym path_left) (All-take (λ (u : TermId). u.0 < length cs) (length path - 1) path way.within);
        chain = subst (IsChain cs) (sym path_left) (chain_shorter cs before t (subst (IsChain cs) path_is way.chain));
        marked = marked;
        begins = begins_left;
      };
      fewer = fewer;
    }
      where
        marked : (u : ℕ) → slice_get (on_path root.0 s'.marks.items) u ≡ Some true → Contains (map (λ w. w.0) s'.path.items) u
        marked u on =
            let m = marked_on root.0 s'.marks.items u on in
            elim (written s.marks.items t.0 u Ends m.0 (ap (λ l. slice_get l u) (sym marks_are) ∙ m.1)) [
              | inl p ↦ absurd (false≢true (ap (is_on root.0) p.1 ∙ m.2))
              | inr p ↦ ⊎_elim
                  (λ c. subst (λ (l : List TermId). Contains (map (λ w. w.0) l) u) (sym path_left) c)
                  (λ e. absurd (p.0 (sym e)))
                  (ids_pushed before t u (subst (λ (l : List TermId). Contains (map (λ w. w.0) l) u) path_is (way.marked u (on_marked root.0 s.marks.items u m.0 p.1 m.2))))
            ]

        begins_left : (slice_get s'.path.items 0 ≡ Some root) ⊎ HasEnd cs root.0
        begins_left =
            ⊎_elim
            (λ h. ⊎_elim
            (λ f. inl (ap (λ l. slice_get l 0) path_left ∙ f))
            (λ (e : t ≡ root). inr (subst (λ (r : TermId). HasEnd cs r.0) e last_ends))
            (first_left before root t (ap (λ l. slice_get l 0) (sym path_is) ∙ h)))
            (λ e. inr e) way.begins

        fewer : steps_left cs root s' < steps_left cs root s
        fewer =
            let walks = sum_by-set (steps_of root.0) s.marks.items t.0 Ends Unmet last_in_range in
            let walks' : sum_by (steps_of root.0) s'.marks.items ≡ sum_by (steps_of root.0) (set s.marks.items t.0 Ends) = ap (sum_by (steps_of root.0)) marks_are in
            let uses : uses_left cs s'.ended.items ≡ uses_left cs s.ended.items = ap (uses_left cs) same_ended in
            let longer : length path ≡ length before + 1 = ap length path_is ∙ length_push before t in
            let left : length s'.path.items ≡ length before = ap length path_left in
            omega (arith, walks, walks', uses, longer, left)

  -- the next one that it names
  module _ (u : TermId) (next : slice_get (callees_of cs t.0) ended ≡ Some u.0) (within : AreWithin cs) where
    named : Contains (callees_of cs t.0) u.0
    named = member_from_get (callees_of cs t.0) ended u.0 next

    pub callee_there : u.0 < length cs
    callee_there = within t.0 u.0 named

    pub callee_in_range : u.0 < length s.marks.items
    callee_in_range = subst (λ n. u.0 < n) (sym way.findings.marks.count) callee_there

    row : (v : Vec TermId Global) × (slice_get cs t.0 ≡ Some v) × (ended < length v.items)
    row =
        let v = row_of (slice_get cs t.0) next in
        (v.0, v.1, v.2)
      where
        row_of : (o : Option (Vec TermId Global)) → slice_get (unwrap_or (option_map (λ v. map (λ u. u.0) v.items) o) []) ended ≡ Some u.0 → (v : Vec TermId Global) × (o ≡ Some v) × (ended < length v.items)
        row_of None h = absurd (cc)
        row_of (Some v) h = (v, refl, let m = mapped_some (λ (w : TermId). w.0) (slice_get v.items ended) u.0 (sym (slice_get-map (λ (w : TermId). w.0) v.items ended) ∙ h) in slice_get_within v.items ended m.0 m.1)

    longer_within : (s' : Search) → s'.path.items ≡ path ++ u ∷ [] → All (λ w. w.0 < length cs) s'.path.items
    longer_within s' path_more = subst (All (λ (w : TermId). w.0 < length cs)) (sym path_more) (All-push (λ (w : TermId). w.0 < length cs) path u way.within callee_there)

    module _ (mark : Mark) (mark_is : mark ≡ get_or s.marks.items u.0 mark) where
      callee_mark : slice_get s.marks.items u.0 ≡ Some mark
      callee_mark = get_at s.marks.items u.0 mark callee_in_range mark_is

      -- it is known to end
      pub passes : is_end mark ≡ true → (n : ℕ) → n ≡ get_or s.ended.items t.0 n → (s' : Search) → s'.marks.items ≡ s.marks.items → s'.ended.items ≡ set s.ended.items t.0 (n + 1) → s'.path.items ≡ path → GoesOn cs root s s'
      passes e n n_is s' same_marks more same_path = record {
        way = record {
          findings = record {
            marks = subst (AreMarks cs (root.0 + 1)) (sym same_marks) way.findings.marks;
            ended = subst (AreEnded cs) (sym ended_are) (record { count = length-set s.ended.items t.0 (ended + 1) ∙ way.findings.ended.count; ends = ends });
          };
          within = subst (All (λ (w : TermId). w.0 < length cs)) (sym same_path) way.within;
          chain = subst (IsChain cs) (sym same_path) way.chain;
          marked = λ w on. subst (λ (l : List TermId). Contains (map (λ x. x.0) l) w) (sym same_path) (way.marked w (ap (λ l. slice_get (on_path root.0 l) w) (sym same_marks) ∙ on));
          begins = ⊎_elim (λ h. inl (ap (λ l. slice_get l 0) same_path ∙ h)) (λ h. inr h) way.begins;
        };
        fewer = fewer;
      }
        where
          ended_are : s'.ended.items ≡ set s.ended.items t.0 (ended + 1)
          ended_are = more ∙ ap (λ k. set s.ended.items t.0 (k + 1)) (count_is n n_is)

          ends : (w n x : ℕ) → slice_get (set s.ended.items t.0 (ended + 1)) w ≡ Some n → Contains (take n (callees_of cs w)) x → HasEnd cs x
          ends w n x h c =
              elim (written s.ended.items t.0 w (ended + 1) n h) [
                | inl p ↦ of_last (subst (λ l. Contains l x) (taken_more (callees_of cs t.0) ended u.0 next) (subst (λ k. Contains (take k (callees_of cs t.0)) x) (sym p.1) (subst (λ k. Contains (take n (callees_of cs k)) x) p.0 c)))
                | inr p ↦ way.findings.ended.ends w n x p.1 c
              ]
            where
              of_last : Contains (take ended (callees_of cs t.0) ++ u.0 ∷ []) x → HasEnd cs x
              of_last d =
                  ⊎_elim
                  (λ f. way.findings.ended.ends t.0 ended x ended_at f)
                  (λ (q : u.0 ≡ x). subst (HasEnd cs) q (way.findings.marks.ends u.0 (callee_mark ∙ ap Some (end_is mark e))))
                  (Contains-push_cases (take ended (callees_of cs t.0)) u.0 x d)

          fewer : steps_left cs root s' < steps_left cs root s
          fewer = grind (arith, common_steps, one_use_fewer cs s.ended.items t.0 ended row.0 row.1 ended_at row.2, set s.ended.items t.0 (ended + 1))

      -- it stands on the path
      pub comes_back : is_on root.0 mark ≡ true → (s' : Search) → s'.marks.items ≡ s.marks.items → s'.ended.items ≡ s.ended.items → s'.path.items ≡ path ++ u ∷ [] → IsWayBack cs root s' u
      comes_back on s' same_marks same_ended path_more = record {
        findings = grind (arith, common_steps);
        within = longer_within s' path_more;
        there = callee_there;
        comes = ⊎_elim
            (λ (e : u.0 ≡ t.0). by_one (subst (λ k. Contains (callees_of cs k) u.0) (sym e) named))
            (λ c. by_more c named)
            (comes_last cs before t (subst (IsChain cs) path_is way.chain) u.0
            (subst (λ (l : List TermId). Contains (map (λ w. w.0) l) u.0) path_is (way.marked u.0 (on_marked root.0 s.marks.items u.0 mark callee_mark on))));
      }

      -- it wasn't met from this root
      pub goes_deeper : is_on root.0 mark ≡ false → is_end mark ≡ false → (s' : Search) → Enters root u s s' → GoesOn cs root s s'
      goes_deeper off more s' enters = record {
        way = record {
          findings = grind (arith, common_steps, met_marks cs root s.marks.items u.0 way.findings.marks);
          within = longer_within s' enters.path;
          chain = subst (IsChain cs) (sym (enters.path ∙ ap (λ l. l ++ u ∷ []) path_is)) (chain_longer cs before t u named (subst (IsChain cs) path_is way.chain));
          marked = marked;
          begins = ⊎_elim (λ h. inl (ap (λ l. slice_get l 0) enters.path ∙ first_stays path root u h)) (λ h. inr h) way.begins;
        };
        fewer = fewer;
      }
        where
          marked : (w : ℕ) → slice_get (on_path root.0 s'.marks.items) w ≡ Some true → Contains (map (λ x. x.0) s'.path.items) w
          marked w on =
              let m = marked_on root.0 s'.marks.items w on in
              subst (λ (l : List TermId). Contains (map (λ x. x.0) l) w) (sym enters.path)
              (elim (written s.marks.items u.0 w (Met root) m.0 (ap (λ l. slice_get l w) (sym enters.marks) ∙ m.1)) [
                | inl p ↦ subst (λ k. Contains (map (λ x. x.0) (path ++ u ∷ [])) k) (sym p.0) (id_in path u)
                | inr p ↦ ids_kept path u w (way.marked w (on_marked root.0 s.marks.items w m.0 p.1 m.2))
              ])

          fewer : steps_left cs root s' < steps_left cs root s
          fewer =
              let walks = sum_by-set (steps_of root.0) s.marks.items u.0 (Met root) mark callee_in_range in
              let walks' : sum_by (steps_of root.0) s'.marks.items ≡ sum_by (steps_of root.0) (set s.marks.items u.0 (Met root)) = ap (sum_by (steps_of root.0)) enters.marks in
              let two : steps_of root.0 (get_or s.marks.items u.0 mark) ≡ 2 = ap (steps_of root.0) (sym mark_is) ∙ steps_ahead root.0 mark off more in
              let no_more : steps_of root.0 (Met root) ≡ 0 = steps_on root in
              let uses : uses_left cs s'.ended.items ≡ uses_left cs s.ended.items = ap (uses_left cs) enters.ended in
              let longer : length s'.path.items ≡ length path + 1 = ap length enters.path ∙ length_push path u in
              omega (arith, walks, walks', two, no_more, uses, longer)

-- what is said of an answer, by its case
pub said_of_some : {X : Type 0} (o : Option X) (A : Type 0) (B : X → Type 0) (x : X) → o ≡ Some x → MatchOption o A B → B x
said_of_some {X} o A B x e m = let P : Option X → Type 0 = λ p. MatchOption p A B in subst P e m
